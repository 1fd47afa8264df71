use Rattle.std.proofs.Common.{◌==◌, ℕ, Bool, List, false, find, ap, ◌∙◌}
use Rattle.std.specs.Option.{option_map_or}
use Rattle.nf_access.specs.Shares.{receives, share_row}
use Rattle.nf_shares.proofs.Indexes.{first_of}
use Rattle.nf_shares.proofs.shares.Shares.first_received.Goals as goal

pub returns : goal.returns
returns g c =
    let rows = c.args.self.now.rows in
    let test = receives (g.F.Facts.members c.args.facts.now) c.args.seeker in
    let passes : ℕ → Bool = λ id. option_map_or test (share_row rows id) false in
    c.first_of.ensures
    ∙ ap (λ (ids : List ℕ). find passes ids) c.entries.ensures.numbers
    ∙ first_of rows (λ row. row.node == c.args.node) test c.entries.ensures.rising
