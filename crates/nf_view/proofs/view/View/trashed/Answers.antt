use Rattle.std.proofs.Common.{◌≡◌, ap, ◌∙◌, arith}
use Rattle.nf_charge.specs.Totals.{bytes_owned}
use Rattle.nf_words.specs.State.{State}
use Rattle.nf_view.proofs.TrashSums.{charge_within, trashed_few, trashed_is}
use Rattle.nf_view.proofs.view.View.trashed.Goals as goal

pub overflow_sub-result : goal.overflow_sub-result
overflow_sub-result c =
    let t = c.args.self.now.tables in
    let rows = ap (λ (s : State). bytes_owned s.tables.nodes c.args.user) c.self.view_is in
    let is : c.bytes_of.result ≡ bytes_owned t.nodes c.args.user = c.bytes_of.ensures ∙ rows in
    omega (arith, is, c.from.ensures, c.charge.ensures, charge_within t c.args.user)

pub returns-clause-sum : goal.returns-clause-sum
returns-clause-sum c =
    let t = c.args.self.now.tables in
    let rows = ap (λ (s : State). bytes_owned s.tables.nodes c.args.user) c.self.view_is in
    let is : c.bytes_of.result ≡ bytes_owned t.nodes c.args.user = c.bytes_of.ensures ∙ rows in
    omega (arith, is, c.from.ensures, c.charge.ensures, trashed_is t c.args.user c.requires)

pub returns-clause-few : goal.returns-clause-few
returns-clause-few c =
    let t = c.args.self.now.tables in
    let rows = ap (λ (s : State). bytes_owned s.tables.nodes c.args.user) c.self.view_is in
    let is : c.bytes_of.result ≡ bytes_owned t.nodes c.args.user = c.bytes_of.ensures ∙ rows in
    omega (arith, is, c.from.ensures, c.charge.ensures, trashed_is t c.args.user c.requires, trashed_few t c.args.user c.requires)
