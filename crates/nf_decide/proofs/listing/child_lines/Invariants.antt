use Rattle.std.proofs.Common.{◌≡◌, take}
use Rattle.std.specs.Prelude.{filter_map}
use Rattle.nf_words.specs.Listing.{child_line}
use Rattle.nf_decide.proofs.listing.child_lines.Given as goal

-- the lines of the children so far
abbrev pub invariant-loop-child : goal.invariant-loop-child
invariant-loop-child l = l.lines.items ≡ filter_map (child_line l.view.tables l.asker.seeker l.granted) (take l.child-index l.child-items)
