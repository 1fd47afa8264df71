use Rattle.std.proofs.Common.{◌≡◌, ◌++◌, filter, take}
use Rattle.nf_words.specs.Prelude.{abandons, is_idle}
use Rattle.nf_deeds.proofs.sweeping.push_idle.Given as goal

-- those of the uploads so far
abbrev pub invariant-loop-upload : goal.invariant-loop-upload
invariant-loop-upload l = l.deeds.items ≡ l.initial.deeds.items ++ abandons (filter (is_idle l.moment) (take l.upload-index l.uploads))
