-- What is given of a chunk's piece is the body that it came with.
use Rattle.std.proofs.Common.{◌≡◌, ℕ, ◌<◌, List, ◌++◌, length, Option, None, Some, Ok, Err, inl, inr, refl, sym, ap, subst, ◌∙◌}
use Rattle.std.specs.Prelude.{IfSome, IsOk, OnOk}
use Rattle.sha2.specs.Sha256.{sha256}
use Rattle.nf_base.specs.declared.content.Piece.{Piece}
use Rattle.nf_base.specs.declared.rows.ChunkRow.{ChunkRow}
use Rattle.nf_base.specs.declared.rows.Row.{Row}
use Rattle.nf_defs.specs.Blobs.{Blobs, blob_at}
use Rattle.nf_joins.specs.Bytes.{CameWith}
use Rattle.nf_joins.specs.Sent.{IsSent}
use Rattle.nf_outside.specs.Lent.{Taken}
use Rattle.nf_session.proofs.Lasting.{lasts_then, tells_for, tells_then}
use Rattle.nf_session.specs.Prelude.{Answer, Book, IsGiven, IsResponse, Lasts, next_blob_of, OthersCame, state_after, state_of, Stores, TellsStill}
use Rattle.nf_session.specs.Book.{IsStill, TellsPiece}
use Rattle.nf_session.specs.declared.response.Response.TheVariants as response
use Rattle.nf_words.proofs.Histories.{replay_more}
use Rattle.nf_words.specs.Prelude.{after, blob_for, blob_to, content_in, opened, replay, State}
use Rattle.nf_words.specs.declared.history.Entry.{Entry}
use Rattle.nf_words.specs.declared.history.Event.TheVariants.{End}
use Rattle.nf_words.specs.declared.history.Outcome.TheVariants.{Body}

-- ---- where a store tells

pub both_told : {P Q R : Type 0} (told : Option Blobs) → (P → Q → R) → IfSome told (λ shelf. P) → IfSome told (λ shelf. Q) → IfSome told (λ shelf. R)
both_told None so first second = tt
both_told (Some shelf) so first second = so first second

-- whether it tells stays
still_told : (P : Type 0) (cause : Type 0) (next : ℕ) (old new : Option Blobs) → TellsStill cause next old new → IfSome old (λ shelf. P)
    → IfSome new (λ shelf. P)
still_told P cause next None None still is = tt
still_told P cause next None (Some new) still is = absurd (cc)
still_told P cause next (Some old) None still is = absurd still
still_told P cause next (Some old) (Some new) still is = is

same_bytes : (body bytes : List ℕ) (old new : Option (List ℕ)) → IsStill (Unit {0}) old new → old ≡ Some body → new ≡ Some bytes → bytes ≡ body
same_bytes body bytes old new (inl same) was is = let both : ◌≡◌ {A = Option (List ℕ)} (Some bytes) (Some body) = sym is ∙ same ∙ was in cc
same_bytes body bytes old new (inr gone) was is = let both : ◌≡◌ {A = Option (List ℕ)} (Some bytes) None = sym is ∙ gone.0 in absurd (cc)

-- what was told under a number, and is told still, is the same
told_bytes : (x : Book) (next id : ℕ) (piece : Piece) (body bytes : List ℕ) (old new : Option Blobs) → piece.blob ≡ id → TellsStill (Unit {0}) next old new
    → IfSome old (λ shelf. (id < next) × (blob_at shelf id ≡ Some body)) → IfSome new (TellsPiece x piece bytes) → IfSome new (λ shelf. bytes ≡ body)
told_bytes x next id piece body bytes None None blob still was is = tt
told_bytes x next id piece body bytes None (Some new) blob still was is = absurd (cc)
told_bytes x next id piece body bytes (Some old) None blob still was is = absurd still
told_bytes x next id piece body bytes (Some old) (Some new) blob still was is =
    same_bytes body bytes (blob_at old id) (blob_at new id) (still id was.0) was.1 (ap (blob_at new) (sym blob) ∙ is.there)

-- ---- the turn of the PUT

response_ok : (answer : Answer) → IsResponse answer response.Made → IsOk answer
response_ok (Ok reply) is = refl
response_ok (Err refusal) is = absurd (cc)

on_ok : {P : Type 0} (answer : Answer) → IsOk answer → OnOk answer P → P
on_ok (Ok reply) ok is = is
on_ok (Err refusal) ok is = absurd (cc)

event_parts : {a b : List ℕ} {m n : ℕ} → End (Body a m) ≡ End (Body b n) → (a ≡ b) × (m ≡ n)
event_parts same = (cc, cc)

module _ {C : Type 0} (reads : C → Taken → C → Type 0) (opening : List Row) (reader : Book) (es : List Entry) (row : ChunkRow) (body : List ℕ)
    (same : reader.opening ≡ opening) (one : CameWith reads opening reader es row body) where
  abbrev taken : Book
  taken = one.brought.taken.book

  abbrev behind : Book
  behind = one.brought.behind.book

  abbrev pub before : State
  before = replay (opened opening) one.sent.front

  abbrev pub next : ℕ
  next = before.tables.meta.next_blob

  abbrev sent : IsSent before one.sent.entry row
  sent = one.sent.sent

  abbrev entry : Entry
  entry = one.brought.stores.3.enters.entry

  abbrev ended : State
  ended = state_after taken one.brought.stores.3.enters.others

  entry_is : entry ≡ one.sent.entry
  entry_is = one.brought.entry_is

  state : ended ≡ before
  state =
      ap (λ (rows : List Row). replay (opened rows) (taken.known ++ one.brought.stores.3.enters.others))
      (sym one.brought.stores.3.enters.lasts.opening ∙ sym one.brought.tells.opening ∙ same)
      ∙ ap (replay (opened opening)) one.brought.at

  parts : (sent.digest ≡ sha256 body) × (sent.size ≡ length body)
  parts = event_parts (sym sent.brought ∙ ap (λ (e : Entry). e.event) (sym entry_is) ∙ one.brought.stores.3.enters.event_is)

  -- the chunk has the body's content
  pub content_is : row.content ≡ content_in (blob_for next (length body)) (sha256 body) (length body)
  content_is = sent.content ∙ (λ i. content_in (blob_for next (parts.1 i)) (parts.0 i) (parts.1 i))

  blob : blob_to ended entry.seat entry.moment entry.event ≡ blob_for next (length body)
  blob = (λ i. blob_to (state i) (entry_is i).seat (entry_is i).moment (entry_is i).event) ∙ sent.blob ∙ ap (blob_for next) parts.1

  given : (after ended entry).tables.meta.next_blob ≡ next_blob_of behind
  given =
      let enters = one.brought.stores.3.enters in
      let last : state_of behind ≡ after ended entry =
      ap (λ (rows : List Row). replay (opened rows) behind.known) enters.lasts.opening ∙ ap (replay (opened taken.opening)) enters.known
      ∙ replay_more (opened taken.opening) (taken.known ++ enters.others) enters.entry in
      ap (λ (s : State). s.tables.meta.next_blob) (sym last)

  -- so the store tells it under the number of its blob
  stored_at : (id : ℕ) → blob_for next (length body) ≡ Some id → (told : Option Blobs) → IfSome told (Stores ended entry body)
      → IfSome told (λ shelf. (id < next_blob_of behind) × (blob_at shelf id ≡ Some body))
  stored_at id is None stores = tt
  stored_at id is (Some shelf) stores = let there = stores id (blob ∙ is) in (subst (λ (n : ℕ). id < n) given there.0, there.1)

  -- and what is given of it later is that
  pub piece_bytes : (c d : Book) (id : ℕ) (piece : Piece) (bytes : List ℕ) → Lasts reader c → blob_for next (length body) ≡ Some id → piece.blob ≡ id
      → IsGiven c d piece bytes → IfSome d.told (λ shelf. bytes ≡ body)
  piece_bytes c d id piece bytes lasts is at (x, first, last, of) =
      let on = lasts_then reader c x lasts first in
      let still : TellsStill (Unit {0}) (next_blob_of behind) behind.told x.told =
      tells_then (Unit {0}) (Unit {0}) (Unit {0}) (next_blob_of behind) (next_blob_of reader) behind.told reader.told x.told (λ u. u) (λ u. u)
      one.brought.tells.next_blob one.brought.tells.told
      (tells_for (OthersCame reader x) (Unit {0}) (next_blob_of reader) reader.told x.told (λ came. tt) on.told) in
      let was = stored_at id is behind.told (on_ok one.brought.stores.1 (response_ok one.brought.stores.1 one.brought.stores.4) one.brought.stores.3.stored) in
      still_told (bytes ≡ body) (OthersCame x d) (next_blob_of x) x.told d.told last.told
      (told_bytes x (next_blob_of behind) id piece body bytes behind.told x.told at still was of.told)
