-- As many runs were read as the file lists.
use Rattle.std.proofs.Common.{◌∙◌, sym}
use Rattle.case_files.proofs.Listed.{count_of-items_view}
use Rattle.case_files.proofs.reading.case_in.Goals as goal

pub returns : goal.returns
returns c = record {
  list = _;
  lists = c.in_ok-runs.ensures;
  all = count_of-items_view c.in_ok-runs.runs.now ∙ sym c.in_ok-runs_of.ensures;
}
