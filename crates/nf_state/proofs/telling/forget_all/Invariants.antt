use Rattle.std.proofs.Common.{◌≡◌, ◌++◌, take}
use Rattle.std.specs.List.{flat_map}
use Rattle.nf_words.specs.Versions.{forgotten_of}
use Rattle.nf_state.proofs.telling.forget_all.Given as goal

-- those of the nodes so far
abbrev pub invariant-loop-node : goal.invariant-loop-node
invariant-loop-node l = l.changes ≡ l.initial.changes ++ flat_map (forgotten_of l.view.tables.versions) (take l.node-index l.nodes)
