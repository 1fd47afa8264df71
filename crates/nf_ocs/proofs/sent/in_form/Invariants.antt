use Rattle.std.proofs.Common.{◌≡◌}
use Rattle.form_urlencoded.specs.Parse.{pairs_left}
use Rattle.nf_ocs.specs.Sent.{in_form, in_pairs}
use Rattle.nf_ocs.proofs.sent.in_form.Given as goal

abbrev pub invariant-loop-pair : goal.invariant-loop-pair
invariant-loop-pair l =
    (goal.iterator-loop-pair).can_next l.pair-iterator ×
    (goal.iterator-loop-pair).is_finite l.pair-iterator ×
    (in_pairs l.name (pairs_left l.pair-iterator) ≡ in_form l.name l.form)
