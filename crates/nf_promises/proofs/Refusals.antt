-- What refuses for want of room: a Begin alone.
use Rattle.std.proofs.Common.{◌≡◌, ℕ, List, Err, refl}
use Rattle.std.proofs.lemmas.Bool.{false≢true}
use Rattle.nf_dav.specs.Asked.{request_of}
use Rattle.nf_dav.proofs.NotAsked.{unasked_refusal}
use Rattle.nf_http.specs.Head.{Head}
use Rattle.nf_words.proofs.Marks.{never_failed}
use Rattle.nf_words.specs.Prelude.{answer_at, State}
use Rattle.nf_words.specs.declared.answer.Denial.TheVariants as denial
use Rattle.nf_words.specs.declared.history.Entry.{Entry}
use Rattle.nf_words.specs.declared.history.Event.TheVariants.{End}
use Rattle.nf_words.specs.declared.history.Mark.{Mark}
use Rattle.nf_words.specs.declared.history.Mark.TheVariants as mark
use Rattle.nf_words.specs.declared.history.Outcome.{Outcome}

-- ---- a request

pub request_not_full : (head : Head) (early : List ℕ) → request_of head early ≡ Err denial.RunFull → ⊥
request_not_full head early is = false≢true (unasked_refusal head early denial.RunFull is)

-- ---- an End

pub end_not_full : (s : State) (e : Entry) (outcome : Outcome) → e.event ≡ End outcome → answer_at s e e.mark ≡ Err denial.RunFull → ⊥
end_not_full s e outcome event is = here e.mark is
  where
    here : (m : Mark) → answer_at s e m ≡ Err denial.RunFull → ⊥
    here mark.Answered is = never_failed s e.seat e.moment e.event denial.RunFull refl is
    here mark.Store is = cc
    here mark.Memory is = cc
