use Rattle.std.proofs.Common.{◌≡◌, map, take}
use Rattle.nf_trash.specs.Outgoing.{all_passed}
use Rattle.nf_deeds.specs.Going.{seen_of}
use Rattle.nf_deeds.proofs.going.pass_all.Given as goal

-- it came to the items so far
abbrev pub invariant-loop-item : goal.invariant-loop-item
invariant-loop-item l = l.walk ≡ all_passed l.initial.walk (map (seen_of l.view.tables) (take l.item-index l.items))
