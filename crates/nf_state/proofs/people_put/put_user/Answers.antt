use Rattle.std.proofs.Common.{sym, ◌∙◌}
use Rattle.nf_state.proofs.Requoting.{is_added, is_requoted}
use Rattle.nf_state.proofs.people_put.put_user.Goals as goal

pub requote-requires : goal.requote-requires
requote-requires c =
    is_requoted c.args.people.now.users c.args.row (sym c.has_user.ensures ∙ c.if-has_user.true) c.requires.borne

pub add_user-requires-clause-new : goal.add_user-requires-clause-new
add_user-requires-clause-new c =
    is_added c.args.people.now.users c.args.row (sym c.has_user.ensures ∙ c.if-has_user.false) c.requires.borne
