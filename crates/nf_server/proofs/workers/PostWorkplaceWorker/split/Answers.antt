use Rattle.std.proofs.Common.{ap, sym, ◌∙◌}
use Rattle.nf_server.specs.Posts.{Posted}
use Rattle.nf_server.proofs.Posting.{is_posted, splits_off}
use Rattle.nf_server.proofs.workers.PostWorkplaceWorker.split.Goals as goal

pub returns-clause-splits : goal.returns-clause-splits
returns-clause-splits g c =
    let post = c.self.inside in
    splits_off g.K.Keeper c.args.self.now post.hub post.connections c.in-Some.seat c.split.new.seat c.in-Some-split.other
    (is_posted g.K.Keeper c.args.self.now post.hub post.connections c.in-Some.seat
    (ap (λ (p : Posted g.row.K.Denot). p.hub) (sym c.self.view_is)) (ap (λ (p : Posted g.row.K.Denot). p.connections) (sym c.self.view_is))
    (ap (λ (p : Posted g.row.K.Denot). p.seat) (sym c.self.view_is) ∙ sym c.take.ensures.value ∙ c.in-Some.is))
    c.in-Some-split.ensures.memory c.in-Some-split.ensures.kept
