use Rattle.std.proofs.Common.{◌≡◌, ℕ, List, length, Result, Ok, Err, IfOk, Some}
use Rattle.serde_json.specs.Data.{Data}
use Rattle.serde_json.specs.Read.{read}
use Rattle.case_files.specs.Listed.{Lists, ListsRuns}
use Rattle.case_files.specs.declared.case.Case.{Case}
use Rattle.case_files.specs.declared.case.Unread.{Unread}
use Rattle.case_files.proofs.reading.case_of.Goals as goal

-- what the file lists, its text does
of_text : (r : Result Case Unread) (text : List ℕ) (file : Data) → read text ≡ Some file → IfOk r (λ case. Lists file (length case.runs.items))
    → IfOk r (λ case. ListsRuns text (length case.runs.items))
of_text (Ok case) text file reads lists = record { file = file; reads = reads; lists = lists }
of_text (Err unread) text file reads lists = tt

pub returns-in-Ok : goal.returns-in-Ok
returns-in-Ok c = of_text c.case_in.result _ _ c.in-Ok.ensures.ok c.case_in.ensures
