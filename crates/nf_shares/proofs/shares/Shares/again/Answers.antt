use Rattle.std.proofs.Common.{◌==◌, ℕ, Bool, List, option_map, false, find, ap, ◌∙◌}
use Rattle.std.specs.Option.{option_map_or}
use Rattle.nf_access.specs.Shares.{share_row}
use Rattle.nf_base.specs.declared.rows.ShareRow.{ShareRow}
use Rattle.nf_access.specs.Making.{is_again}
use Rattle.nf_shares.proofs.Indexes.{again_there, first_of}
use Rattle.nf_shares.proofs.shares.Shares.again.Goals as goal

pub returns : goal.returns
returns c =
    let rows = c.args.self.now.rows in
    let row = c.args.row.now in
    let test = is_again row c.args.now in
    let passes : ℕ → Bool = λ id. option_map_or test (share_row rows id) false in
    c.again_of.ensures
    ∙ ap (λ (ids : List ℕ). find passes ids) c.entries.ensures.numbers
    ∙ first_of rows (λ other. other.node == row.node) test c.entries.ensures.rising
    ∙ ap (option_map (λ (other : ShareRow). other.id)) (again_there rows row c.args.now)
