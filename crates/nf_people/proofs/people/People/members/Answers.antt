use Rattle.std.proofs.Common.{◌≡◌, List, ℕ, subst, sym, ap, ◌∙◌, map}
use Rattle.std.specs.List.Sorted.{IsStrictlyIncreasing}
use Rattle.std.proofs.lemmas.Result.{IfOk-weaker}
use Rattle.nf_base.specs.declared.rows.MemberRow.{MemberRow}
use Rattle.nf_defs.specs.People.{members_of}
use Rattle.nf_people.proofs.Members.{members_rise}
use Rattle.nf_people.proofs.people.People.members.Goals as goal

pub returns-clause-rising : goal.returns-clause-rising
returns-clause-rising c =
    let members = c.self.inside.members.items in
    let group = c.args.group in
    let is = rw c.deref.ensures.value at c.rows_from.ensures in
    let rising : (xs : List ℕ) → xs ≡ members_of members group → IsStrictlyIncreasing xs =
    λ xs e. subst IsStrictlyIncreasing (sym e) (members_rise members group c.self.invariant.1) in
    IfOk-weaker c.first_users.result (λ users. users.items ≡ map (λ (row : MemberRow). row.user) _) (λ users. IsStrictlyIncreasing users.items)
    (λ users e. rising users.items (e ∙ ap (λ (rows : List MemberRow). map (λ row. row.user) rows) is)) c.first_users.ensures
