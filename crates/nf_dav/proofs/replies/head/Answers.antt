use Rattle.std.proofs.Common.{◌∙◌, append_assoc}
use Rattle.std.proofs.lemmas.Result.{IfOk-weaker}
use Rattle.nf_dav.proofs.replies.head.Goals as goal

pub returns : goal.returns
returns c =
    IfOk-weaker c.format.result _ _ (λ text e. e ∙ simp (append_assoc, c.close_line-close.ensures)) c.format.ensures.ok
