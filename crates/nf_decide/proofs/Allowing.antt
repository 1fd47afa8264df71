-- What may not be done of what is asked: an act that the paths need, or else one that is asked about a version.
use Rattle.std.proofs.Common.{◌≡◌, Option}
use Rattle.std.specs.Option.{option_or}
use Rattle.nf_reach.proofs.Refusals.{first_of_both}
use Rattle.nf_reach.specs.Asking.{refusal_for}
use Rattle.nf_words.specs.Prelude.{access_of, acts_rule, Call, needed, needed_for}
use Rattle.nf_decide.specs.Deciding.{asking_of}

pub acts_by : (call : Call) → acts_rule (access_of call.state) call
    ≡ option_or (refusal_for (asking_of call) (needed call)) (refusal_for (asking_of call) (needed_for (access_of call.state) call call.request.wanted))
unfolding acts_rule
acts_by call = first_of_both (asking_of call) (needed call) (needed_for (access_of call.state) call call.request.wanted)
