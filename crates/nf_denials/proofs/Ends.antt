-- Bodies whose senders were refused meanwhile, and files that are sent.
use Rattle.std.proofs.Common.{◌≡◌, ◌⊎◌, inl, inr, ℕ, Bool, true, false, List, Option, None, Some, Result, Ok, Err, if◌then◌else◌, refl, sym, ap, ◌∙◌, subst}
use Rattle.std.specs.Prelude.{is_some, option_and_then, option_map}
use Rattle.std.specs.Option.{option_or}
use Rattle.nf_access.specs.Shares.{ground_of}
use Rattle.nf_defs.specs.Prelude.{Tables}
use Rattle.nf_words.specs.Prelude.{access_of, answered_by, chunk_limit, chunk_refusal, chunk_stored, end_lost, end_refusal, end_unallowed, end_unreached, ends_at, goal_at, is_owner, IsSound, limit_at, needed_by, node_of_key, pieces_of, place_of, State, stored_at, unless_refused, unreached_by, upload_row, end_unfit}
use Rattle.nf_words.specs.declared.answer.By.{By}
use Rattle.nf_words.specs.declared.answer.Denial.{Denial}
use Rattle.nf_words.specs.declared.answer.Denial.TheVariants as denial
use Rattle.nf_words.specs.declared.answer.Goal.{Goal}
use Rattle.nf_words.specs.declared.answer.Goal.TheVariants.{Chunk, Serve, Store}
use Rattle.nf_words.specs.declared.answer.LockKey.{LockKey}
use Rattle.nf_words.specs.declared.answer.Reply.{Reply}
use Rattle.nf_words.specs.declared.answer.Reply.TheVariants.{Closed}
use Rattle.nf_words.specs.declared.history.Outcome.{Outcome}
use Rattle.nf_words.specs.declared.history.Outcome.TheVariants.{Body, Gone, Sent}
use Rattle.nf_words.specs.declared.answer.LockKey.TheVariants.{Node, Slot}
use Rattle.nf_denials.proofs.Begins.{IsOther, either, first_one, if_test, or_other, refused_so, told_by}
use Rattle.nf_denials.proofs.Told.{acts_told, unreached_told}
use Rattle.nf_denials.specs.Laws.{ChunksTellNoShare, EndsTellTheirBreak, IsKeptOutBy, IsUnmet, ReadsGoOn, RevokedIsRefused, is_of_shares}

-- the first two of the rules of an End, and the rest
refused : (s : State) (seat now : ℕ) (by : By) (key : LockKey) (wanted length : ℕ) (digest : List ℕ) (refusal : Denial)
    → goal_at s seat ≡ Some (Store by key wanted) → end_refusal (access_of s) s.tables now by key length ≡ Some refusal
    → answered_by (ends_at (access_of s) s.tables now (Body digest length) (goal_at s seat)) ≡ Err refusal
refused s seat now by key wanted length digest refusal goal is =
    ap (λ (g : Option Goal). answered_by (ends_at (access_of s) s.tables now (Body digest length) g)) goal
    ∙ ap (λ (o : Option Denial). answered_by (unless_refused o (stored_at s.tables now key digest length))) is

pub revoked_refused : RevokedIsRefused
revoked_refused = record {
  reach = λ s seat now by key wanted length mount digest refusal goal mounted other shut.
      let access = access_of s in
      let out : end_unreached access s.tables now by (node_of_key key) ≡ Some refusal =
      ap (λ (b : Bool). if b then None else option_and_then (unreached_by access (ground_of s.tables) by.seeker now) by.mount) other
      ∙ ap (option_and_then (unreached_by access (ground_of s.tables) by.seeker now)) mounted ∙ shut in
      refused s seat now by key wanted length digest refusal goal
      (ap (λ (o : Option Denial). option_or o (option_or (end_unallowed access s.tables now by key)
      (option_or (end_lost s.tables key) (end_unfit s.tables key length)))) out);
  acts = λ s seat now by key wanted length digest refusal goal reached unmet.
      let access = access_of s in
      let behind : Option Denial = option_or (end_lost s.tables key) (end_unfit s.tables key length) in
      refused s seat now by key wanted length digest refusal goal
      (ap (λ (o : Option Denial). option_or o (option_or (end_unallowed access s.tables now by key) behind)) reached
      ∙ ap (λ (o : Option Denial). option_or o behind) unmet);
}

pub reads_on : ReadsGoOn
reads_on s seat now outcome content goal =
    ap (λ (g : Option Goal). answered_by (ends_at (access_of s) s.tables now outcome g)) goal ∙ here outcome
  where
    here : (outcome : Outcome) → ◌≡◌ {A = Result Reply Denial} (answered_by (ends_at (access_of s) s.tables now outcome (Some (Serve content)))) (Ok Closed)
    here Sent = refl
    here Gone = refl
    here (Body digest length) = refl

-- ---- what is told

end_told : (s : State) (now : ℕ) (by : By) (key : LockKey) (length : ℕ) (refusal : Denial) → IsSound s → is_of_shares refusal ≡ true
    → end_refusal (access_of s) s.tables now by key length ≡ Some refusal
    → IsKeptOutBy s now by (node_of_key key) refusal ⊎ IsUnmet s now by.seeker (needed_by by key) refusal
end_told s now by key length refusal sound shares is = elim (either _ _ refusal is) [
  | inl reach ↦ inl (out (is_owner s.tables.nodes by.seeker (node_of_key key)) refl reach)
  | inr rest ↦
      inr (acts_told s by.seeker now (needed_by by key) refusal sound
      (first_one (end_unallowed (access_of s) s.tables now by key) _ refusal lost shares rest))
]
  where
    -- that the name was taken isn't of shares, nor is a limit, nor a quota
    lost_other : (key : LockKey) → IsOther is_of_shares (end_lost s.tables key)
    lost_other (Node node) = tt
    lost_other (Slot folder name) = if_test is_of_shares _ denial.NotFound refl

    unfit : IsOther is_of_shares (end_unfit s.tables key length)
    unfit = or_other is_of_shares (option_map denial.Limit (limit_at s.tables (pieces_of length) (place_of key))) _ (told_by is_of_shares denial.Limit _ (λ limit. refl))
        (told_by is_of_shares denial.Quota _ (λ excess. refl))

    lost : IsOther is_of_shares (option_or (end_lost s.tables key) (end_unfit s.tables key length))
    lost = or_other is_of_shares (end_lost s.tables key) (end_unfit s.tables key length) (lost_other key) unfit

    by_mount : (mount : Option ℕ) → by.mount ≡ mount → is_owner s.tables.nodes by.seeker (node_of_key key) ≡ false
        → option_and_then (unreached_by (access_of s) (ground_of s.tables) by.seeker now) mount ≡ Some refusal
        → IsKeptOutBy s now by (node_of_key key) refusal
    by_mount None e other is = absurd (cc)
    by_mount (Some mount) e other is =
        record { mount = mount; goes = e; other = other; shut = unreached_told s by.seeker now mount refusal sound is }

    out : (owns : Bool) → is_owner s.tables.nodes by.seeker (node_of_key key) ≡ owns
        → (if owns then None else option_and_then (unreached_by (access_of s) (ground_of s.tables) by.seeker now) by.mount) ≡ Some refusal
        → IsKeptOutBy s now by (node_of_key key) refusal
    out true e is = absurd (cc)
    out false e is = by_mount by.mount refl e is

pub ends_tell : EndsTellTheirBreak
ends_tell s seat now by key wanted outcome refusal sound goal is shares =
    here outcome
    (sym (ap (λ (g : Option Goal). answered_by (ends_at (access_of s) s.tables now outcome g)) goal) ∙ is)
  where
    here : (outcome : Outcome) → answered_by (ends_at (access_of s) s.tables now outcome (Some (Store by key wanted))) ≡ Err refusal
        → IsKeptOutBy s now by (node_of_key key) refusal ⊎ IsUnmet s now by.seeker (needed_by by key) refusal
    here Sent is = absurd (cc)
    here Gone is = absurd (cc)
    here (Body digest length) is =
        end_told s now by key length refusal sound shares
        (refused_so (end_refusal (access_of s) s.tables now by key length) (stored_at s.tables now key digest length) refusal is)

-- a chunk is refused where its upload is gone, or for a limit
chunk_other : (t : Tables) (user : ℕ) (dir : List ℕ) (number length : ℕ) → IsOther is_of_shares (chunk_refusal t user dir number length)
chunk_other t user dir number length = here (is_some (upload_row t.uploads user dir))
  where
    here : (there : Bool) → IsOther is_of_shares (if there then option_map denial.Limit (chunk_limit t user dir length number) else Some denial.NotFound)
    here true = told_by is_of_shares denial.Limit (chunk_limit t user dir length number) (λ limit. refl)
    here false = refl

pub chunks_tell : ChunksTellNoShare
chunks_tell s seat now user dir number wanted outcome refusal goal is =
    here outcome
    (sym (ap (λ (g : Option Goal). answered_by (ends_at (access_of s) s.tables now outcome g)) goal) ∙ is)
  where
    here : (outcome : Outcome) → answered_by (ends_at (access_of s) s.tables now outcome (Some (Chunk user dir number wanted))) ≡ Err refusal
        → is_of_shares refusal ≡ false
    here Sent is = absurd (cc)
    here Gone is = absurd (cc)
    here (Body digest length) is =
        subst (IsOther is_of_shares)
        (refused_so (chunk_refusal s.tables user dir number length) (chunk_stored s.tables now user dir number digest length) refusal is)
        (chunk_other s.tables user dir number length)
