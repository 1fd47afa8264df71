use Rattle.std.proofs.Common.{◌∙◌}
use Rattle.nf_trash.proofs.Parts.{searched_node}
use Rattle.nf_trash.proofs.aged.is_among.Goals as goal

pub returns : goal.returns
returns c =
    c.is_ok.ensures.value
    ∙ searched_node c.args.nodes.now c.args.sought c.binary_search.result c.requires c.binary_search.ensures.position c.binary_search.ensures.bound
