use Rattle.std.proofs.Common.{rules, ◌-◌, true, false, refl, sym, ap, ◌∙◌, arith}
use Rattle.std.specs.Prelude.{bit_and, option_map}
use Rattle.nf_access.specs.Shares.{mask_of}
use Rattle.nf_shares.proofs.Along.{reach_zero, reach_none, reach_first, reach_up}
use Rattle.nf_shares.proofs.shares.Shares.+mask_within.Goals as goal

pub returns-then-most-eq0 : goal.returns-then-most-eq0
returns-then-most-eq0 t c = sym (reach_zero mask_of c.args.most c.args.self.now.rows c.args.id (search rules))

pub returns-in_err-row : goal.returns-in_err-row
returns-in_err-row t c =
    c.from_residual.ensures ∙ sym (reach_none mask_of c.args.most c.args.self.now.rows c.args.id (sym c.in_err-row.ensures))

pub returns-in-None : goal.returns-in-None
returns-in-None t c =
    let a = c.args in
    let own = sym c.eq.ensures ∙ c.if-eq.true in
    sym (reach_first mask_of a.most (a.most - 1) a.self.now.rows a.id c.in_ok-row.row.now true (omega arith) (sym c.in_ok-row.ensures) c.in-None.is own)

pub returns-in-None-2 : goal.returns-in-None-2
returns-in-None-2 t c =
    let a = c.args in
    let own = sym c.eq.ensures ∙ c.if-eq.false in
    sym (reach_first mask_of a.most (a.most - 1) a.self.now.rows a.id c.in_ok-row.row.now false (omega arith) (sym c.in_ok-row.ensures) c.in-None.is own)

pub returns-in_err-above-in-Some : goal.returns-in_err-above-in-Some
returns-in_err-above-in-Some t c =
    let a = c.args in
    let row = c.in_ok-row.row.now in
    let up = reach_up mask_of (bit_and row.perms) a.most (a.most - 1) a.self.now.rows a.id c.in-Some.parent row (λ _ _. refl) (omega arith) (sym c.in_ok-row.ensures) c.in-Some.is in
    c.from_residual-in_err-above-in-Some.ensures ∙ sym (up ∙ ap (option_map (bit_and row.perms)) (sym c.in_err-above-in-Some.ensures))

pub returns-in_ok-above-in-Some : goal.returns-in_ok-above-in-Some
returns-in_ok-above-in-Some t c =
    let a = c.args in
    let row = c.in_ok-row.row.now in
    let up = reach_up mask_of (bit_and row.perms) a.most (a.most - 1) a.self.now.rows a.id c.in-Some.parent row (λ _ _. refl) (omega arith) (sym c.in_ok-row.ensures) c.in-Some.is in
    rw c.and.ensures (sym (up ∙ ap (option_map (bit_and row.perms)) (sym c.in_ok-above-in-Some.ensures)))
