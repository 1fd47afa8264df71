use Rattle.std.proofs.Common.{[], ◌∷◌, ℕ, ap}
use Rattle.nf_base.specs.declared.rows.ShareRow.{ShareRow}
use Rattle.std.specs.Fn.{FnOnceReturnsAtMut}
use Rattle.nf_shares.proofs.Indexes.{index_changed}
use Rattle.nf_shares.specs.Kept.{front_of_kind}
use Rattle.nf_shares.proofs.shares.Shares.change.Goals as goal

pub change-requires-clause-key : goal.change-requires-clause-key
change-requires-clause-key g c row row' called =
    let place = c.requires.place row row'
    (record { shown = called.shown; shows = called.shows; left = called.left; met = called.met; leaves = called.leaves }) in
    ap (λ (id : ℕ). id ∷ []) place.0

pub invariant_of-self : goal.invariant_of-self
invariant_of-self g c =
    let rows = c.self.inside.rows.rows in
    let becomes : ShareRow → ShareRow → Type 0 = λ row row'. FnOnceReturnsAtMut g.F.FnOnce c.args.change row tt row' in
    record {
      nodes = index_changed rows c.change.new.self.rows c.args.id becomes c.change.ensures.rows (λ node. node) (λ row. row.node) c.self.inside.by_node.rows
          (λ row row' called. let stays = c.requires.place row row' called in (stays.0, stays.1)) c.self.invariant.nodes;
      tokens = index_changed rows c.change.new.self.rows c.args.id becomes c.change.ensures.rows (λ front. front) (λ row. front_of_kind row.kind)
          c.self.inside.by_token.rows
          (λ row row' called. let stays = c.requires.place row row' called in (stays.0, ap front_of_kind stays.2)) c.self.invariant.tokens;
    }
