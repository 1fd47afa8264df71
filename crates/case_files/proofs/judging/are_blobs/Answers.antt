-- They are compared one by one.
use Rattle.std.proofs.lemmas.Slice.Eq.{slice_eq-Decides}
use Rattle.case_files.proofs.Same.{blob_decides}
use Rattle.case_files.proofs.judging.are_blobs.Goals as goal

pub returns : goal.returns
returns c = slice_eq-Decides blob_decides c.args.left.now c.args.wanted.now c.eq.result c.eq.ensures
