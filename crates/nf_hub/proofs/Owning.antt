-- The entries of one seat among those of all.
use Rattle.std.proofs.Common.{◌≡◌, ℕ, List, [], ◌∷◌, ◌++◌, refl, sym, ap, ◌∙◌, append-nil}
use Rattle.std.proofs.lemmas.List.{append_cancel_left}
use Rattle.std.proofs.lemmas.List.Elements.{filter-append}
use Rattle.std.specs.Prelude.{Bool, true, false, ◌==◌, if◌then◌else◌}
use Rattle.nf_base.specs.declared.rows.Row.{Row}
use Rattle.nf_desk.specs.Desk.{entries_by}
use Rattle.nf_session.specs.Book.{Answer, own_from}
use Rattle.nf_words.specs.Prelude.{after, answer_at, opened, State}
use Rattle.nf_words.specs.declared.history.Entry.{Entry}

-- where the entries of a seat stay as they were, none of it came
pub none_came : (n : ℕ) (es more : List Entry) → entries_by n (es ++ more) ≡ entries_by n es → entries_by n more ≡ []
none_came n es more same =
    append_cancel_left (entries_by n es) (entries_by n more) [] (sym (filter-append (λ (e : Entry). e.seat == n) es more) ∙ same ∙ sym (append-nil (entries_by n es)))

pub none_own : (n : ℕ) (s : State) (es : List Entry) → entries_by n es ≡ [] → own_from n s es ≡ []
none_own n s [] none = refl
none_own n s (e ∷ es) none = here (e.seat == n) none (none_own n (after s e) es)
  where
    here : (own : Bool) → (if own then e ∷ entries_by n es else entries_by n es) ≡ []
        → (entries_by n es ≡ [] → own_from n (after s e) es ≡ [])
        → (if own then (e, answer_at s e e.mark) ∷ own_from n (after s e) es else own_from n (after s e) es) ≡ []
    here true none rest = absurd (cc)
    here false none rest = rest none

-- others' entries add nothing to a seat's own
pub own_stays : (n : ℕ) (s : State) (es more : List Entry) → entries_by n more ≡ [] → own_from n s (es ++ more) ≡ own_from n s es
own_stays n s [] more none = none_own n s more none
own_stays n s (e ∷ es) more none = here (e.seat == n) (own_stays n (after s e) es more none)
  where
    here : (own : Bool) → own_from n (after s e) (es ++ more) ≡ own_from n (after s e) es
        → (if own then (e, answer_at s e e.mark) ∷ own_from n (after s e) (es ++ more) else own_from n (after s e) (es ++ more))
        ≡ (if own then (e, answer_at s e e.mark) ∷ own_from n (after s e) es else own_from n (after s e) es)
    here true rest = ap (λ (z : List (Entry × Answer)). (e, answer_at s e e.mark) ∷ z) rest
    here false rest = rest

-- the same of a history that begins with another over the same rows, where the seat's entries stay as they were
pub own_same : (n : ℕ) (old new : List Row) (es more all : List Entry) → new ≡ old → all ≡ es ++ more → entries_by n all ≡ entries_by n es
    → own_from n (opened new) all ≡ own_from n (opened old) es
own_same n old new es more all rows is same =
    (λ i. own_from n (opened (rows i)) (is i))
    ∙ own_stays n (opened old) es more (none_came n es more (sym (ap (entries_by n) is) ∙ same))
