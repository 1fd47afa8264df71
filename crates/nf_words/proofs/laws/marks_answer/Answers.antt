use Rattle.nf_words.proofs.Marks.{marked_memory, marked_store}
use Rattle.nf_words.proofs.laws.marks_answer.Goals as goal

pub returns : goal.returns
returns c = record { store = marked_store; memory = marked_memory }
