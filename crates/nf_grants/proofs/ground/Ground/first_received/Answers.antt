use Rattle.std.proofs.Common.{◌∙◌, sym, ap}
use Rattle.std.specs.Prelude.{◌==◌, ◌&&◌, option_and_then}
use Rattle.nf_access.specs.Shares.{receives, share_row}
use Rattle.nf_grants.proofs.OnNodes.{found_row}
use Rattle.nf_grants.proofs.ground.Ground.first_received.Goals as goal

pub returns : goal.returns
returns c =
    let g = c.args.self.now in
    c.share.ensures.row
    ∙ ap (option_and_then (share_row g.shares)) (sym c.in_ok-first.was)
    ∙ found_row g (λ row. row.node == c.args.node && receives g.members c.args.seeker row) c.first_received.result c.requires
    (rw c.shares.ensures at c.first_received.ensures)
