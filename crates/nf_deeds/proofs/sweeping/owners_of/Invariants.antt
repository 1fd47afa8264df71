use Rattle.std.proofs.Common.{ℕ, ◌≡◌, take}
use Rattle.std.specs.List.{list_any}
use Rattle.std.specs.Ordering.{eq_by_cmp, nat_cmp}
use Rattle.nf_words.specs.Prelude.{owners_of}
use Rattle.nf_deeds.proofs.Owners.{among}
use Rattle.nf_deeds.proofs.sweeping.owners_of.Given as goal

-- those of the items so far, which were seen
abbrev pub invariant-loop-item : goal.invariant-loop-item
invariant-loop-item l = record {
  owners : l.owners.items ≡ owners_of (take l.item-index l.items);
  seen : (user : ℕ) → list_any (eq_by_cmp nat_cmp user) l.seen.keys ≡ among user l.owners.items;
}
