use Rattle.std.proofs.Common.{◌∙◌, ap, sym}
use Rattle.std.specs.Prelude.{option_and_then}
use Rattle.nf_routes.specs.Mounts.{route_of}
use Rattle.nf_dav.specs.Asked.{front_on}
use Rattle.nf_dav.proofs.Asked.{may_want}
use Rattle.nf_dav.proofs.requests.request.Goals as goal

pub returns-in-Some-front_on-clause-may_want : goal.returns-in-Some-front_on-clause-may_want
returns-in-Some-front_on-clause-may_want c =
    may_want c.args.message.now c.in-Some-front_on.front c.in-Some-method.method c.files_request.result c.files_request.ensures.short
    (ap (option_and_then front_on) (ap route_of (sym c.target.ensures) ∙ sym c.in_ok-route.ensures ∙ c.in-Some.is)
    ∙ sym c.front_on.ensures ∙ c.in-Some-front_on.is)
    c.files_request.ensures.gives
