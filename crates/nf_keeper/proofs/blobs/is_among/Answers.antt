use Rattle.std.proofs.Common.{◌∙◌}
use Rattle.nf_keeper.proofs.Kept.{found_is}
use Rattle.nf_keeper.proofs.blobs.is_among.Goals as goal

pub returns : goal.returns
returns c =
    c.is_ok.ensures.value ∙ found_is c.args.sorted.now c.requires c.args.id c.binary_search.result c.binary_search.ensures.bound c.binary_search.ensures.position
