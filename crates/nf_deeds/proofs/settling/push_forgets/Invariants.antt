use Rattle.std.proofs.Common.{◌≡◌, ◌++◌, map, take}
use Rattle.nf_words.specs.declared.answer.Deed.TheVariants.{Forget}
use Rattle.nf_deeds.proofs.settling.push_forgets.Given as goal

-- those of the versions so far
abbrev pub invariant-loop-version : goal.invariant-loop-version
invariant-loop-version l = l.deeds.items ≡ l.initial.deeds.items ++ map (λ version. Forget version.node version.at) (take l.version-index l.versions)
