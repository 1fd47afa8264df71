use Rattle.std.proofs.Common.{Option, subst, sym}
use Rattle.nf_words.specs.declared.request.Offer.{Offer}
use Rattle.nf_decide.proofs.Named.{named}
use Rattle.nf_decide.proofs.Offered.{offer_there}
use Rattle.nf_decide.specs.Deciding.{IsThere}
use Rattle.nf_decide.proofs.deciding.Call.judge.Goals as goal

pub returns-clause-named : goal.returns-clause-named
returns-clause-named c = named c.args.self.now c.in_ok-places_fit.ensures.target

pub returns-clause-there : goal.returns-clause-there
returns-clause-there c =
    subst (λ (o : Option Offer). IsThere c.args.self.now.state.tables o) (sym c.offer-offer.ensures)
    (offer_there c.args.self.now c.requires c.in_ok-token.ensures c.in_ok-reached.ensures)
