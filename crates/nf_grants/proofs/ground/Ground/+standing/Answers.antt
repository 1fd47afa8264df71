use Rattle.std.proofs.Common.{rules, ◌-◌, true, false, sym, ap, ◌∙◌, arith, option_map}
use Rattle.nf_grants.proofs.Walks.{given_end, given_lost, given_up, joined}
use Rattle.nf_grants.proofs.ground.Ground.+standing.Goals as goal

pub returns-then-above-eq0 : goal.returns-then-above-eq0
returns-then-above-eq0 t c = sym (given_end c.args.self.now c.args.above c.args.share.now c.in-Some.parent c.in-Some.is (search rules))

pub returns-in_err-parent-in-Some : goal.returns-in_err-parent-in-Some
returns-in_err-parent-in-Some t c =
    c.from_residual.ensures
    ∙ sym (given_lost c.args.self.now c.args.above c.args.share.now c.in-Some.parent c.in-Some.is (sym c.in_err-parent-in-Some.ensures.row))

pub returns-then-not-follows : goal.returns-then-not-follows
returns-then-not-follows t c =
    sym (given_up c.args.self.now c.args.above (c.args.above - 1) c.args.share.now c.in_ok-parent-in-Some.parent.now c.in-Some.parent false
    (search rules) c.in-Some.is (omega arith) (sym c.in_ok-parent-in-Some.ensures.row) (sym c.follows.ensures ∙ c.if-not-follows.true))

pub returns-in_err-grant-in-Some : goal.returns-in_err-grant-in-Some
returns-in_err-grant-in-Some t c =
    c.from_residual-in_err-grant-in-Some.ensures
    ∙ ap (option_map (joined c.args.share.now)) c.in_err-grant-in-Some.ensures
    ∙ sym (given_up c.args.self.now c.args.above (c.args.above - 1) c.args.share.now c.in_ok-parent-in-Some.parent.now c.in-Some.parent true
    (search rules) c.in-Some.is (omega arith) (sym c.in_ok-parent-in-Some.ensures.row) (sym c.follows.ensures ∙ c.if-not-follows.false))

pub returns-in_ok-grant-in-Some : goal.returns-in_ok-grant-in-Some
returns-in_ok-grant-in-Some t c =
    rw (c.and.ensures, c.earlier.ensures)
    (ap (option_map (joined c.args.share.now)) c.in_ok-grant-in-Some.ensures
    ∙ sym (given_up c.args.self.now c.args.above (c.args.above - 1) c.args.share.now c.in_ok-parent-in-Some.parent.now c.in-Some.parent true
    (search rules) c.in-Some.is (omega arith) (sym c.in_ok-parent-in-Some.ensures.row) (sym c.follows.ensures ∙ c.if-not-follows.false)))
