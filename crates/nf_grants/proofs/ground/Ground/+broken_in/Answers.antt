use Rattle.std.proofs.Common.{◌-◌, None, Some, sym, ◌∙◌, arith, option_copied}
use Rattle.nf_grants.proofs.Walks.{broken_up, no_chain, parent_has, some_above}
use Rattle.nf_grants.proofs.ground.Ground.+broken_in.Goals as goal

pub returns-in_err-parent : goal.returns-in_err-parent
returns-in_err-parent t c =
    absurd (no_chain c.args.self.now c.args.above c.args.share.now c.in-Some.parent c.in-Some.is (sym c.in_err-parent.ensures.row) c.requires)

pub overflow_sub-above : goal.overflow_sub-above
overflow_sub-above t c = some_above c.args.self.now c.args.above c.args.share.now c.in-Some.parent c.in-Some.is c.requires

pub broken_in-requires : goal.broken_in-requires
broken_in-requires t c =
    let some = some_above c.args.self.now c.args.above c.args.share.now c.in-Some.parent c.in-Some.is c.requires in (
      omega arith,
      parent_has c.args.self.now c.args.now c.args.act (option_copied c.args.next) c.args.above (c.args.above - 1) c.args.share.now
          c.in_ok-parent.parent.now c.in-Some.parent c.in-Some.is (omega arith) (sym c.in_ok-parent.ensures.row) c.requires,
    )

pub returns-in-Some-broken_in : goal.returns-in-Some-broken_in
returns-in-Some-broken_in t c =
    let some = some_above c.args.self.now c.args.above c.args.share.now c.in-Some.parent c.in-Some.is c.requires in
    sym (broken_up c.args.self.now c.args.now c.args.act (option_copied c.args.next) c.args.above (c.args.above - 1) c.args.share.now
    c.in_ok-parent.parent.now c.in-Some.parent c.in-Some.is (omega arith) (sym c.in_ok-parent.ensures.row) c.requires
    (Some c.in-Some-broken_in.found) (sym c.in-Some-broken_in.is ∙ c.broken_in.ensures))

pub returns-in-None : goal.returns-in-None
returns-in-None t c =
    let some = some_above c.args.self.now c.args.above c.args.share.now c.in-Some.parent c.in-Some.is c.requires in
    c.broken_at-in-None.ensures
    ∙ sym (broken_up c.args.self.now c.args.now c.args.act (option_copied c.args.next) c.args.above (c.args.above - 1) c.args.share.now
    c.in_ok-parent.parent.now c.in-Some.parent c.in-Some.is (omega arith) (sym c.in_ok-parent.ensures.row) c.requires
    None (sym c.in-None.is ∙ c.broken_in.ensures))
