use Rattle.std.proofs.Common.{◌≤◌, ◌∙◌, ℕ, ap, subst}
use Rattle.std.specs.Prelude.{option_copied}
use Rattle.nf_base.specs.declared.limits.TheConstants.{MAX_BODY}
use Rattle.nf_words.specs.Calls.{is_by_link}
use Rattle.nf_dav.proofs.Asked.{no_link, upload_may_want}
use Rattle.nf_dav.proofs.upload_requests.upload_request.Goals as goal

pub returns-clause-may_want : goal.returns-clause-may_want
returns-clause-may_want c =
    upload_may_want c.args.method c.args.message.now c.caller.result c.in_ok-asked.field-0
    (subst (λ (n : ℕ). n ≤ MAX_BODY) c.length.ensures.value c.length.ensures.limit)
    (ap is_by_link c.caller.ensures ∙ no_link (option_copied c.field.result)) c.in_ok-asked.ensures.1
