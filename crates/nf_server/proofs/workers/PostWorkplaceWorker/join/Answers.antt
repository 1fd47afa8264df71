use Rattle.std.proofs.Common.{ap, sym, ◌∙◌}
use Rattle.nf_server.specs.Posts.{Posted}
use Rattle.nf_server.proofs.Posting.{is_posted, joins_in}
use Rattle.nf_server.proofs.workers.PostWorkplaceWorker.join.Goals as goal

pub returns-clause-joins : goal.returns-clause-joins
returns-clause-joins g c =
    let post = c.self.inside in
    let its_hub = ap (λ (p : Posted g.row.K.Denot). p.hub) (sym c.self.view_is) in
    let its_count = ap (λ (p : Posted g.row.K.Denot). p.connections) (sym c.self.view_is) in
    joins_in g.K.Keeper c.args.self.now c.args.other post.hub post.connections c.in-Some-Some.seat c.in-Some-Some.other c.join.new.seat
    (is_posted g.K.Keeper c.args.self.now post.hub post.connections c.in-Some-Some.seat its_hub its_count
    (ap (λ (p : Posted g.row.K.Denot). p.seat) (sym c.self.view_is) ∙ sym c.take.ensures.value ∙ c.in-Some-Some.is-0))
    (is_posted g.K.Keeper c.args.other post.hub post.connections c.in-Some-Some.other (c.requires.fits.hub ∙ its_hub)
    (c.requires.fits.connections ∙ its_count) (ap (λ (p : Posted g.row.K.Denot). p.seat) (sym c.other.view_is) ∙ c.in-Some-Some.is-1))
    c.join.ensures.memory
