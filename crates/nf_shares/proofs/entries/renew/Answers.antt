use Rattle.std.proofs.Common.{◌≡◌, length, None, Some, rules, arith, ap, refl, sym, ◌∙◌}
use Rattle.nf_access.specs.Shares.{share_row}
use Rattle.nf_defs.specs.Prelude.{share_key}
use Rattle.nf_shares.proofs.Indexes.{by_id, index_over, index_put, no_fewer, none_has, one_more}
use Rattle.nf_shares.proofs.Moves.{entries_left, fewer_left, index_moved, own_found}
use Rattle.nf_shares.proofs.entries.renew.Goals as goal
use Rattle.nf_shares.proofs.entries.renew.Goals.{in-Some+else-number, in_default}

pub returns-then-number-clause-index : goal.returns-then-number-clause-index
returns-then-number-clause-index g c =
    let row = c.args.row.now in
    let rows = c.args.rows.now.rows in
    let old = c.in-Some.old.now in
    let found : share_row rows row.id ≡ Some old = sym (by_id rows row.id) ∙ search rules in
    let same : g.K.IndexKey.number (g.K.IndexKey.of_row old) ≡ g.K.IndexKey.number (g.K.IndexKey.of_row row) = search rules in
    index_over g.K.IndexKey.number g.K.IndexKey.of_row c.args.index.now.rows rows row old found same c.requires.index

pub returns-then-number-clause-count : goal.returns-then-number-clause-count
returns-then-number-clause-count g c =
    let fewer = no_fewer share_key c.args.row.now c.args.rows.now.rows in
    omega arith

pub put-requires : goal.put-requires
put-requires g c none = elim c.match-find.branch [
  | in-Some+else-number w ↦
      let row = c.args.row.now in
      let rows = c.args.rows.now.rows in
      let old = w.in-Some.old.now in
      let found : share_row rows row.id ≡ Some old = sym (by_id rows row.id) ∙ search rules in
      let fewer = fewer_left g.K.IndexKey.number g.K.IndexKey.of_row old c.args.index.now.rows rows (own_found rows row old found) c.requires.index in
      let left : c.match-find.index.rows ≡ entries_left g.K.IndexKey.number g.K.IndexKey.of_row old c.args.index.now.rows =
      rw (w.index-is, w.drop.ensures.rows, w.entry_of-old.ensures) refl in
      let room : c.match-find.index.room ≡ c.args.index.now.room = rw w.index-is w.drop.ensures.room in
      let long = ap length left in
      omega (arith, c.count.ensures.room)
  | in_default w ↦
      let absent : share_row c.args.rows.now.rows c.args.row.now.id ≡ None =
      sym (by_id c.args.rows.now.rows c.args.row.now.id) ∙ search rules in
      rw w.index-is (c.requires.room absent)
]

pub returns-clause-index : goal.returns-clause-index
returns-clause-index g c = elim c.match-find.branch [
  | in-Some+else-number w ↦
      let row = c.args.row.now in
      let rows = c.args.rows.now.rows in
      let old = w.in-Some.old.now in
      let found : share_row rows row.id ≡ Some old = sym (by_id rows row.id) ∙ search rules in
      rw (c.put.ensures.rows, w.index-is, w.drop.ensures.rows, w.entry_of-old.ensures, c.entry_of-entry.ensures)
      (index_moved g.K.IndexKey.number g.K.IndexKey.of_row old c.args.index.now.rows rows row found c.requires.index)
  | in_default w ↦
      let row = c.args.row.now in
      let rows = c.args.rows.now.rows in
      let absent : share_row rows row.id ≡ None = sym (by_id rows row.id) ∙ search rules in
      rw (c.put.ensures.rows, w.index-is, c.entry_of-entry.ensures)
      (index_put g.K.IndexKey.number g.K.IndexKey.of_row c.args.index.now.rows rows row (none_has row.id rows absent) c.requires.index)
]

pub returns-clause-count : goal.returns-clause-count
returns-clause-count g c = elim c.match-find.branch [
  | in-Some+else-number w ↦
      let row = c.args.row.now in
      let rows = c.args.rows.now.rows in
      let old = w.in-Some.old.now in
      let found : share_row rows row.id ≡ Some old = sym (by_id rows row.id) ∙ search rules in
      let fewer = fewer_left g.K.IndexKey.number g.K.IndexKey.of_row old c.args.index.now.rows rows (own_found rows row old found) c.requires.index in
      let left : c.match-find.index.rows ≡ entries_left g.K.IndexKey.number g.K.IndexKey.of_row old c.args.index.now.rows =
      rw (w.index-is, w.drop.ensures.rows, w.entry_of-old.ensures) refl in
      let long = ap length left in
      let more = no_fewer share_key row rows in
      omega (arith, c.put.ensures.count)
  | in_default w ↦
      let more = one_more share_key c.args.row.now c.args.rows.now.rows (search rules) in
      let long : length c.match-find.index.rows ≡ length c.args.index.now.rows = rw w.index-is refl in
      omega (arith, c.put.ensures.count)
]
