use Rattle.std.proofs.Common.{ℕ, ◌==◌, not, List, filter, ap, ◌∙◌, subst, sym}
use Rattle.std.specs.List.Sorted.{IsStrictlyIncreasing}
use Rattle.std.proofs.lemmas.List.Kept.{IsStrictlyIncreasing-filter}
use Rattle.nf_deeds.proofs.receiving.members_but.Goals as goal

pub returns-clause-users : goal.returns-clause-users
returns-clause-users c = c.leave_out.ensures ∙ ap (λ (users : List ℕ). filter (λ (user : ℕ). not (user == c.args.but)) users) c.in_ok-users.ensures.users

pub returns-clause-rising : goal.returns-clause-rising
returns-clause-rising c =
    subst IsStrictlyIncreasing (sym c.leave_out.ensures)
    (IsStrictlyIncreasing-filter (λ (user : ℕ). not (user == c.args.but)) c.in_ok-users.users.items c.in_ok-users.ensures.rising)
