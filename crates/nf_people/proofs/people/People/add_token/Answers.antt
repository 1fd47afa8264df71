use Rattle.nf_defs.specs.Keys.{token_key}
use Rattle.nf_defs.proofs.Puts.{put_rising}
use Rattle.nf_people.proofs.people.People.add_token.Goals as goal

pub invariant_of-self-2 : goal.invariant_of-self-2
invariant_of-self-2 c =
    (rw c.in_ok-put.ensures.ok (put_rising token_key c.args.row c.self.inside.tokens.items c.self.invariant.0), c.self.invariant.1)
