use Rattle.std.proofs.Common.{◌∙◌, ◌+◌, ◌%◌, sym, arith}
use Rattle.std.proofs.lemmas.List.FromFn.{map-range_with_len_more}
use Rattle.nf_generate.proofs.writing.content.Goals as goal

pub loop-at-preserved : goal.loop-at-preserved
loop-at-preserved c =
    c.in_ok-push.ensures.items ∙ (simp (c.loop-at.invariant, c.byte.ensures))
    ∙ sym (map-range_with_len_more (λ j. (c.args.index + j) % 256) 0 c.loop-at.at c.loop-at.at (omega arith))
