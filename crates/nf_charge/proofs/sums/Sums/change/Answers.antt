use Rattle.std.proofs.Common.{◌∙◌, arith, subst, sym}
use Rattle.nf_charge.specs.Held.{Held}
use Rattle.nf_charge.specs.Sums.{AreSums}
use Rattle.nf_charge.proofs.Changing.{may_fill, sums_changed}
use Rattle.nf_charge.proofs.sums.Sums.change.Goals as goal

pub carry-requires-clause-fits : goal.carry-requires-clause-fits
carry-requires-clause-fits c =
    let sums = subst (λ (held : Held). AreSums c.args.rows.now held.sums) (sym c.self.view_is) c.requires.sums in
    may_fill c.args.rows.now c.args.at _ c.index-rows-at.result c.from-old.result c.from.result c.self.inside.sums.items c.requires.there c.requires.few
    (omega (arith, c.ranges.bytes.fits)) sums (c.row.view_is ∙ c.index-rows-at.is) (c.from-old.ensures ∙ c.size.ensures)

pub returns-clause-sums : goal.returns-clause-sums
returns-clause-sums c =
    let sums = subst (λ (held : Held). AreSums c.args.rows.now held.sums) (sym c.self.view_is) c.requires.sums in
    λ row refill. sums_changed c.args.rows.now c.args.at row _ c.index-rows-at.result c.args.bytes c.from-old.result c.from.result c.self.inside.sums.items
    c.carry.new.sums.items c.requires.there (omega (arith, c.ranges.bytes.fits)) sums (c.row.view_is ∙ c.index-rows-at.is)
    (c.from-old.ensures ∙ c.size.ensures) c.from.ensures c.carry.ensures.sums refill
