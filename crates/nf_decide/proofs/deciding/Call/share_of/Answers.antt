use Rattle.std.proofs.Common.{◌∷◌, IfOk, List, ap, subst, ◌≡◌}
use Rattle.nf_base.specs.declared.changes.Change.TheVariants.{Put}
use Rattle.nf_base.specs.declared.rows.MountRow.{MountRow}
use Rattle.nf_base.specs.declared.rows.Row.TheVariants as kinds
use Rattle.nf_base.specs.declared.rows.ShareRow.{ShareRow}
use Rattle.nf_words.specs.Prelude.{Call, mounts_for, put_mounts, share_told, State}
use Rattle.nf_decide.proofs.deciding.Call.share_of.Goals as goal

pub returns : goal.returns
returns c =
    let offer = c.args.offer.now in
    let made = c.new_share-row.result in
    let viewed = c.self.inside.view.tables in
    let state : c.self.inside.view ≡ c.args.self.now.state = ap (λ (call : Call). call.state) c.self.view_is in
    let with_mounts =
    subst (λ (mounts : List MountRow).
    IfOk c.put.result (λ allowed. allowed ≡ share_told viewed (Put (kinds.Share made) ∷ put_mounts mounts) made)) c.in_ok-mounts.ensures c.put.ensures in
    let of_state =
    subst (λ (s : State).
    IfOk c.put.result (λ allowed. allowed ≡ share_told s.tables (Put (kinds.Share made) ∷ put_mounts (mounts_for s.tables offer)) made)) state with_mounts in
    let t = c.args.self.now.state.tables in
    subst (λ (row : ShareRow).
    IfOk c.put.result (λ allowed. allowed ≡ share_told t (Put (kinds.Share row) ∷ put_mounts (mounts_for t offer)) row)) c.new_share-row.ensures of_state
