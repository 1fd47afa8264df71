-- Answers in a row: the next one, and that what differs is not what is wanted.
use Rattle.std.proofs.Common.{◌≡◌, ◌≢◌, ◌∙◌, ◌++◌, ◌+◌, ◌<◌, ℕ, List, [], ◌∷◌, length, take, drop, refl, sym, ap, append_assoc, append-nil, add-one}
use Rattle.std.proofs.lemmas.List.{append_cancel_left, take-append-drop}
use Rattle.std.proofs.Math.ListN.{get_or}
use Rattle.std.proofs.Math.Seq.{take-suc}
use Rattle.case_files.specs.declared.case.Exchange.{Exchange}
use Rattle.case_files.specs.Answers.{answers}

answers-append : (xs ys : List Exchange) → answers (xs ++ ys) ≡ answers xs ++ answers ys
answers-append [] ys = refl
answers-append (x ∷ xs) ys =
    ap (λ zs. x.answer.items ++ zs) (answers-append xs ys) ∙ sym (append_assoc x.answer.items (answers xs) (answers ys))

-- the answers as far as the i-th, and that one
pub answers_next : (xs : List Exchange) (i : ℕ) (x : Exchange) → i < length xs → x ≡ get_or xs i x
    → answers (take (i + 1) xs) ≡ answers (take i xs) ++ x.answer.items
answers_next xs i x within is =
    ap (λ n. answers (take n xs)) (add-one i)
    ∙ ap answers (take-suc xs i x within)
    ∙ answers-append (take i xs) (get_or xs i x ∷ [])
    ∙ ap (λ y. answers (take i xs) ++ (y.answer.items ++ [])) (sym is)
    ∙ ap (λ ys. answers (take i xs) ++ ys) (append-nil x.answer.items)

-- the next answer was written too
pub matches : (xs : List Exchange) (i : ℕ) (x : Exchange) (written rest behind : List ℕ)
    → i < length xs → x ≡ get_or xs i x → written ≡ answers (take i xs) ++ rest → rest ≡ x.answer.items ++ behind
    → written ≡ answers (take (i + 1) xs) ++ behind
matches xs i x written rest behind within is so_far here =
    so_far
    ∙ ap (λ ys. answers (take i xs) ++ ys) here
    ∙ sym (append_assoc (answers (take i xs)) x.answer.items behind)
    ∙ ap (λ ys. ys ++ behind) (sym (answers_next xs i x within is))

-- the next answer was not
pub differs : (xs : List Exchange) (i : ℕ) (x : Exchange) (written rest : List ℕ)
    → i < length xs → x ≡ get_or xs i x → written ≡ answers (take i xs) ++ rest → ((behind : List ℕ) → rest ≢ x.answer.items ++ behind)
    → written ≢ answers xs
differs xs i x written rest within is so_far here all =
    here (answers (drop (i + 1) xs))
    (append_cancel_left (answers (take i xs)) rest (x.answer.items ++ answers (drop (i + 1) xs))
    (sym so_far
    ∙ all
    ∙ ap answers (sym (take-append-drop (i + 1) xs))
    ∙ answers-append (take (i + 1) xs) (drop (i + 1) xs)
    ∙ ap (λ ys. ys ++ answers (drop (i + 1) xs)) (answers_next xs i x within is)
    ∙ append_assoc (answers (take i xs)) x.answer.items (answers (drop (i + 1) xs))))
