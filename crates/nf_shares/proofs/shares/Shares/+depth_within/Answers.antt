use Rattle.std.proofs.Common.{length, rules, ◌+◌, ◌-◌, true, false, sym, ap, ◌∙◌, arith}
use Rattle.std.specs.Prelude.{option_map}
use Rattle.nf_shares.proofs.Along.{reach_zero, reach_none, reach_first, reach_up}
use Rattle.nf_shares.proofs.shares.Shares.+depth_within.Goals as goal

pub returns-then-most-eq0-clause-depth : goal.returns-then-most-eq0-clause-depth
returns-then-most-eq0-clause-depth t c = sym (reach_zero length c.args.most c.args.self.now.rows c.args.id (search rules))

pub returns-in_err-row-clause-depth : goal.returns-in_err-row-clause-depth
returns-in_err-row-clause-depth t c =
    c.from_residual.ensures ∙ sym (reach_none length c.args.most c.args.self.now.rows c.args.id (sym c.in_err-row.ensures))

pub returns-in-None-clause-depth : goal.returns-in-None-clause-depth
returns-in-None-clause-depth t c =
    let a = c.args in
    let own = sym c.eq.ensures ∙ c.if-eq.true in
    sym (reach_first length a.most (a.most - 1) a.self.now.rows a.id c.in_ok-row.row.now true (omega arith) (sym c.in_ok-row.ensures) c.in-None.is own)

pub returns-in-None-2-clause-depth : goal.returns-in-None-2-clause-depth
returns-in-None-2-clause-depth t c =
    let a = c.args in
    let own = sym c.eq.ensures ∙ c.if-eq.false in
    sym (reach_first length a.most (a.most - 1) a.self.now.rows a.id c.in_ok-row.row.now false (omega arith) (sym c.in_ok-row.ensures) c.in-None.is own)

pub returns-in_err-above-in-Some-clause-depth : goal.returns-in_err-above-in-Some-clause-depth
returns-in_err-above-in-Some-clause-depth t c =
    let a = c.args in
    let up = reach_up length (λ n. n + 1) a.most (a.most - 1) a.self.now.rows a.id c.in-Some.parent c.in_ok-row.row.now (λ _ _. omega arith) (omega arith) (sym c.in_ok-row.ensures) c.in-Some.is in
    c.from_residual-in_err-above-in-Some.ensures ∙ sym (up ∙ ap (option_map (λ n. n + 1)) (sym c.in_err-above-in-Some.ensures.depth))

pub returns-in_ok-above-in-Some-clause-depth : goal.returns-in_ok-above-in-Some-clause-depth
returns-in_ok-above-in-Some-clause-depth t c =
    let a = c.args in
    let up = reach_up length (λ n. n + 1) a.most (a.most - 1) a.self.now.rows a.id c.in-Some.parent c.in_ok-row.row.now (λ _ _. omega arith) (omega arith) (sym c.in_ok-row.ensures) c.in-Some.is in
    sym (up ∙ ap (option_map (λ n. n + 1)) (sym c.in_ok-above-in-Some.ensures.depth))
