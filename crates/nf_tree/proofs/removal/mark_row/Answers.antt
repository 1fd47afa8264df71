use Rattle.std.proofs.Common.{◌∙◌, sym, arith}
use Rattle.nf_tree.proofs.Marks.{none_marked, row_marked}
use Rattle.nf_tree.proofs.removal.mark_row.Goals as goal

pub returns-in-Some-clause-marks : goal.returns-in-Some-clause-marks
returns-in-Some-clause-marks c =
    row_marked c.args.rows.now c.args.node c.in-Some.at c.args.marks.now.items c.requires.rising (omega (arith, c.requires.long, c.args.marks.now.ok)) (sym c.in-Some.is ∙ c.index_of.ensures)

pub returns-in_default-clause-marks : goal.returns-in_default-clause-marks
returns-in_default-clause-marks c = none_marked c.args.rows.now c.args.node c.args.marks.now.items (sym c.in_default.is ∙ c.index_of.ensures)
