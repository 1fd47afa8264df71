use Rattle.std.proofs.Common.{◌≡◌, take, filter}
use Rattle.std.specs.Prelude.{filter_map}
use Rattle.nf_access.specs.Access.{by_chains}
use Rattle.nf_words.specs.Listing.{mount_line}
use Rattle.nf_decide.specs.Listed.{is_listed}
use Rattle.nf_decide.proofs.listing.lines_of.Given as goal

-- the lines of the mounts so far
abbrev pub invariant-loop-mount : goal.invariant-loop-mount
invariant-loop-mount l =
    l.lines.items
    ≡ filter_map (mount_line (by_chains l.asker.base) l.view.tables l.asker.moment) (filter (is_listed l.asker) (take l.mount-index l.mount-items))
