use Rattle.std.proofs.Common.{◌≡◌, ℕ, List, ap, ◌∙◌}
use Rattle.std.specs.Option.{option_map_or}
use Rattle.nf_base.specs.declared.rows.NodeRow.{NodeRow}
use Rattle.nf_defs.specs.Tree.{owner_of}
use Rattle.nf_words.specs.Charges.{excess}
use Rattle.nf_words.specs.Listing.{size_of}
use Rattle.nf_deeds.proofs.quotas.copy_excess.Goals as goal

pub returns : goal.returns
returns c =
    let t = c.args.view.now.tables in
    let transfer = c.args.transfer.now in
    let owner : c.owner_of-owner.result ≡ owner_of t.nodes transfer.folder =
    c.owner_of-owner.ensures ∙ ap (λ (rows : List NodeRow). owner_of rows transfer.folder) c.tree.ensures in
    c.excess.ensures
    ∙ ap (λ (user : ℕ). excess t user c.size_replaced-old.result c.size-new.result) owner
    ∙ ap (λ (n : ℕ). excess t (owner_of t.nodes transfer.folder) n c.size-new.result) c.size_replaced-old.ensures
    ∙ ap (excess t (owner_of t.nodes transfer.folder) (option_map_or (size_of t.nodes) transfer.replaced 0)) c.size-new.ensures
