use Rattle.nf_dav.proofs.Asked.{may_ask_so}
use Rattle.nf_dav.proofs.requests.ocs_request.Goals as goal

pub returns-in-Ok-clause-may_want : goal.returns-in-Ok-clause-may_want
returns-in-Ok-clause-may_want c =
    may_ask_so c.args.route c.args.method c.args.message.now c.args.body.now c.caller.result c.in-Ok.wanted c.in-Ok.ensures
