use Rattle.std.proofs.Common.{◌≡◌, ◌++◌, take}
use Rattle.nf_words.specs.Deeds.{closed_under}
use Rattle.nf_state.proofs.telling.close_below.Given as goal

-- those of the shares so far
abbrev pub invariant-loop-share : goal.invariant-loop-share
invariant-loop-share l = l.changes ≡ l.initial.changes ++ closed_under l.view.tables.nodes (take l.share-index l.share-items) l.top
