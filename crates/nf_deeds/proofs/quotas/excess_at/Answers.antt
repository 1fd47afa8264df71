use Rattle.std.proofs.Common.{ℕ, List, ap, sym, ◌∙◌}
use Rattle.nf_base.specs.declared.rows.NodeRow.{NodeRow}
use Rattle.nf_defs.specs.Tree.{owner_of}
use Rattle.nf_words.specs.Charges.{excess, excess_at}
use Rattle.nf_deeds.proofs.quotas.excess_at.Goals as goal

pub returns-in-Free : goal.returns-in-Free
returns-in-Free c =
    let t = c.args.view.now.tables in
    let owner = c.owner_of-in-Free.ensures ∙ ap (λ (rows : List NodeRow). owner_of rows c.in-Free.folder) c.tree-in-Free.ensures in
    c.excess-in-Free.ensures ∙ ap (λ (user : ℕ). excess t user 0 c.args.length) owner ∙ sym (ap (excess_at t c.args.length) c.in-Free.is)
