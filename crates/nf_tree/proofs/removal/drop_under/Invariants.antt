use Rattle.std.proofs.Common.{◌≡◌, ◌≤◌, ◌*◌, List, length, take, vec_len, vec_capacity}
use Rattle.std.proofs.lemmas.List.Filters.{FiltersInPlace}
use Rattle.nf_base.specs.declared.limits.TheConstants.{MAX_PIECES}
use Rattle.nf_base.specs.declared.rows.NodeRow.{NodeRow}
use Rattle.nf_charge.specs.Sums.{AreWeighed}
use Rattle.nf_tree.specs.Order.{outstays}
use Rattle.nf_tree.proofs.Fates.{gone_pieces}
use Rattle.nf_tree.proofs.removal.drop_under.Given as goal

-- the rows so far are filtered, the pieces of those that go are counted, and each sum moves with its row
abbrev pub invariant-loop-at : goal.invariant-loop-at
invariant-loop-at l = record {
  filtered : FiltersInPlace (outstays l.fn.rows.items l.tops) l.initial.rows.items l.rows.items l.kept l.at;
  gone : l.gone ≡ gone_pieces (outstays l.fn.rows.items l.tops) (take l.at l.initial.rows.items);
  bound : l.gone ≤ MAX_PIECES * l.at;
  same : vec_len l.rows ≡ vec_len l.initial.rows;
  room : vec_capacity l.rows ≡ vec_capacity l.fn.rows;
  sums_long : length l.sums.sums ≡ vec_len l.initial.rows;
  weighed : (all : List NodeRow) → AreWeighed all l.initial.rows.items l.initial.sums.sums → AreWeighed all l.rows.items l.sums.sums;
  sums_room : l.sums.room ≡ l.fn.sums.room;
}
