-- The plainest run, said without its session: one GET of a file that is there.
use Rattle.std.specs.Prelude.{◌≡◌, ◌⊎◌, ℕ, min, ◌+◌, ◌-◌, ◌^◌, ◌<◌, ◌≤◌, ◌||◌, List, [], ◌∷◌, ◌++◌, codes, length, Some, Ok, IfSome}
use Rattle.sha2.specs.Sha256.{sha256}
use Rattle.httparse.specs.Grammar.{RequestHead, print_request}
use Rattle.nf_dav.specs.Reply.{file_head, refusal_reply}
use Rattle.nf_defs.specs.Blobs.{blob_at}
use Rattle.nf_http.specs.Head.{closes_session, head_of}
use Rattle.nf_promises.specs.Kept.{Prints, get_of, plainly, waits}
use Rattle.nf_session.specs.Book.{Book, state_of}
use Rattle.nf_site.specs.Demo.{demo_rows, hello}
use Rattle.nf_told.specs.Told.{Told}
use Rattle.nf_words.specs.Prelude.{answer_to, blob_for, content_in}
use Rattle.nf_words.specs.declared.answer.Denial.TheVariants as denial
use Rattle.nf_words.specs.declared.answer.Goal.TheVariants.{Serve}
use Rattle.nf_words.specs.declared.answer.Reply.TheVariants.{Granted}
use Rattle.nf_words.specs.declared.history.Event.TheVariants.{Begin}
use Rattle.nf_words.specs.declared.request.Caller.{Caller}
use Rattle.nf_words.specs.declared.request.Caller.TheVariants.{Token}
use Rattle.nf_words.specs.declared.request.Spot.{Spot}
use Rattle.nf_words.specs.declared.request.Words.{Words}
use Rattle.filesd.specs.Opening.{told_opened}
use Rattle.filesd.specs.Outside.{Outside}
use Rattle.filesd.specs.Session.{first_book}
use Rattle.filesd.specs.declared.status.Status.{Status}
use Rattle.filesd.specs.declared.status.Status.TheVariants as exit

-- the caller's GET of that path is granted, at any moment, the content of these bytes under a blob's number that was given, and they are
-- that blob's; an empty file has no blob
pub record IsFileOf (b : Book) (caller : Caller) (spot : Spot) (body : List ℕ) : Type 0 where
  pub blob : ℕ
  pub granted : (seat now : ℕ) (words : Words)
      → answer_to (state_of b) seat now (Begin words (get_of caller spot))
      ≡ Ok (Granted (Serve (content_in (blob_for blob (length body)) (sha256 body) (length body))))
  pub given : blob < (state_of b).tables.meta.next_blob
  pub there : 0 < length body → IfSome b.told (λ shelf. blob_at shelf blob ≡ Some body)

-- what the seat knows when a run begins over a keeper that tells that it has no rows: the demonstration rows and their blob
abbrev pub fresh_book : Told → ℕ → Book
fresh_book told faults = first_book demo_rows (told_opened [] (Some told)) faults

-- where the input is one GET of a file of these bytes and no more, over a keeper without rows, and the run was done, its output is that
-- file and no more; or that there was no memory; or that the store failed, and then the keeper counted that (or counts no further)
abbrev pub ServesOneFile : {C : Type 0} → Outside C → Outside C → Status → Type 0
ServesOneFile a b status =
    (told : Told) (input before output : List ℕ) (h : RequestHead) (caller : Caller) (spot : Spot) (body : List ℕ)
    → a.told ≡ Some told → told.rows ≡ [] → a.left ≡ Some input → a.written ≡ Some before → b.written ≡ Some output
    → status ≡ exit.Done
    → Prints h (get_of caller spot) → IsFileOf (fresh_book told a.faults) caller spot body → input ≡ print_request h
    → (output ≡ before ++ (file_head (closes_session (head_of h)) (length body) ++ body))
    ⊎ (output ≡ before ++ refusal_reply (plainly (closes_session (head_of h))) denial.Memory)
    ⊎ (output ≡ before ++ refusal_reply (plainly (closes_session (head_of h) || waits (head_of h))) denial.Memory)
    ⊎ ((output ≡ before ++ refusal_reply (plainly (closes_session (head_of h))) denial.Store) × (min (a.faults + 1) (2 ^ 64 - 1) ≤ b.faults))

-- the demonstration file is one, for its owner's token
abbrev pub HelloIsServed : Type 0
HelloIsServed =
    (told : Told) (faults : ℕ)
    → IsFileOf (fresh_book told faults) (Token (sha256 (codes "alice-1")))
    (record { user = Some (codes "alice"); path = codes "hello.txt" ∷ [] }) hello
