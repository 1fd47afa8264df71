-- What names a user or a group has no token.
use Rattle.std.proofs.Common.{◌≡◌, ◌∙◌, ℕ, ⊎_elim, find, List, [], ◌∷◌, None, refl, sym, ap}
use Rattle.nf_base.specs.declared.rows.ShareKind.{ShareKind}
use Rattle.nf_base.specs.declared.rows.ShareKind.TheVariants as kind
use Rattle.nf_base.specs.declared.rows.ShareRow.{ShareRow}
use Rattle.nf_shares.specs.Making.{has_token_of}
use Rattle.nf_shares.proofs.shares.Shares.token_of.Goals as goal

of_user : (user : ℕ) (rows : List ShareRow) → find (has_token_of (kind.User user)) rows ≡ None
of_user user [] = refl
of_user user (row ∷ rows) = of_user user rows

of_group : (group : ℕ) (rows : List ShareRow) → find (has_token_of (kind.Group group)) rows ≡ None
of_group group [] = refl
of_group group (row ∷ rows) = of_group group rows

pub returns-in-User : goal.returns-in-User
returns-in-User c =
    let rows = c.args.self.now.rows in
    sym (⊎_elim
    (λ named. ap (λ (k : ShareKind). find (has_token_of k) rows) named.1 ∙ of_user named.0 rows)
    (λ named. ap (λ (k : ShareKind). find (has_token_of k) rows) named.1 ∙ of_group named.0 rows) c.in-User.is)
