use mir.Val.{bool_byte}
use Rattle.std.proofs.Common.{◌≡◌, ◌∙◌, ◌+◌, ℕ, Bool, true, false, ap, arith, refl, subst, sym}
use Rattle.std.specs.Prelude.{if◌then◌else◌}
use Rattle.nf_generate.specs.Drawing.{drawing}
use Rattle.nf_generate.specs.Messages.{moment_of}
use Rattle.nf_generate.specs.Writing.{message_bytes}
use Rattle.nf_generate.specs.declared.messages.Messages.{Messages}
use Rattle.nf_trial.specs.Trials.{Answers}
use Rattle.nf_trial.proofs.Steps.{one_more, passes}
use Rattle.nf_trial.proofs.trials.try_all.Goals as goal

counts : (b : Bool) → bool_byte b ≡ (if b then 1 else 0)
counts true = refl
counts false = refl

pub loop-at-preserved : goal.loop-at-preserved
loop-at-preserved g c =
    let k = g.B.Backend in
    let first = k.book c.args.backend.now.backend in
    let inv = c.loop-at.invariant in
    let bytes = c.in-Ok.ensures.bytes ∙ ap (λ (m : Messages). message_bytes m.index (drawing m.state)) inv.0 in
    let moment = c.in-Ok.ensures.moment ∙ ap (λ (m : Messages). moment_of m.index) inv.0 in
    let more = one_more k first c.loop-at.backend c.try_one.new.backend c.args.seed c.loop-at.at c.loop-at.granted c.in-Ok.message.bytes.items
    c.in-Ok.message.moment inv.1 bytes moment c.in-Answered.is_granted c.in-Answered.ensures.tries in (
      passes c.args.seed c.loop-at.at c.loop-at.messages c.next.new.self inv.0 c.next.ensures.after,
      subst (λ (n : ℕ). Answers c.args.seed first (c.loop-at.at + 1) (k.book c.try_one.new.backend.backend) (c.loop-at.granted + n))
          (sym (c.from-granted.ensures ∙ counts c.in-Answered.is_granted)) more,
      grind arith,
      c.try_one.ensures.idle,
      c.try_one.ensures.lent ∙ inv.4,
      c.try_one.ensures.start ∙ inv.5,
    )
