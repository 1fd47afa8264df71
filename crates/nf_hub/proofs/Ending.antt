-- What an End with a body leaves on the seat's shelf.
use Rattle.std.proofs.Common.{◌≡◌, ℕ, ◌<◌, List, [], ◌∷◌, ◌++◌, refl, sym, ap, ◌∙◌, subst, Ok, Err}
use Rattle.std.proofs.lemmas.List.{same_from_push}
use Rattle.std.specs.Prelude.{Option, None, Some}
use Rattle.std.specs.Option.{IfSome}
use Rattle.std.specs.declared.snapshot.Snapshot.{Snapshot}
use Rattle.nf_base.specs.declared.rows.Row.{Row}
use Rattle.nf_defs.specs.Blobs.{Blobs}
use Rattle.nf_desk.specs.Desk.{Served, blobs_in, book_at, meanings, next_of, shown}
use Rattle.nf_keeper.specs.declared.keeper.Keeper.{Ghosts as KeeperOf}
use Rattle.nf_session.specs.Book.{Answer, EndsBody, IsOfBody, Stores, granted, state_after}
use Rattle.nf_turn.specs.Prelude.{Agrees, having_passed, seen_shelf}
use Rattle.nf_turn.specs.declared.view.Memory.{Memory}
use Rattle.nf_words.proofs.Histories.{replay_more}
use Rattle.nf_words.specs.Prelude.{after, blob_to, opened, replay, State}
use Rattle.nf_words.specs.declared.answer.Reply.TheVariants as reply
use Rattle.nf_words.specs.declared.history.Entry.{Entry}
use Rattle.nf_hub.specs.Calls.{ShelvesBody}
use Rattle.nf_hub.specs.Seats.{blobs_at_start, book_in}
use Rattle.nf_hub.proofs.Asking.{tells_since}
use Rattle.nf_hub.proofs.Following.{ends_body_after}
use Rattle.nf_hub.proofs.Seeing.{sees}
use Rattle.nf_hub.proofs.Telling.{Shows, seen_now, where_told}

-- it grants nothing
pub body_grants_none : (answer : Answer) → IsOfBody answer → granted answer ≡ None
body_grants_none (Ok (reply.Granted goal)) of = absurd of
body_grants_none other of = refl

module _ {K : Type 0} (k : KeeperOf K) (m : Memory (Served K)) (taken given : Served K) (agrees : Agrees (meanings k) m taken)
    (begun : m.first.start.value ≡ m.first.keeper) where
  -- the state before the entry, with others' entries
  abbrev state_before : List Entry → State
  state_before others = replay (opened m.first.site.kept.opening) (m.known.site.kept.history ++ others)

  next_after : (others : List Entry) (e : Entry) → given.site.kept.opening ≡ m.first.site.kept.opening
      → given.site.kept.history ≡ (m.known.site.kept.history ++ others) ++ e ∷ []
      → next_of given.site.kept ≡ (after (state_before others) e).tables.meta.next_blob
  next_after others e rows is =
      ap (λ (s : State). s.tables.meta.next_blob)
      ((λ i. replay (opened (rows i)) (is i)) ∙ replay_more (opened m.first.site.kept.opening) (m.known.site.kept.history ++ others) e)

  shown_body : (told : Option Blobs) (others : List Entry) (e : Entry) (id : ℕ) (body : List ℕ)
      → next_of given.site.kept ≡ (after (state_before others) e).tables.meta.next_blob
      → blob_to (state_before others) e.seat e.moment e.event ≡ Some id
      → IfSome told (Stores (state_before others) e body) → IfSome told (Shows given.site.kept id body)
  shown_body None others e id body next is stores = tt
  shown_body (Some shelf) others e id body next is stores =
      let stored = stores id is in (subst (λ (n : ℕ). id < n) (sym next) stored.0, stored.1)

  pub shelves_body : (now : ℕ) (body : List ℕ) (answer : Answer) → (meanings k).opening m.known ≡ (meanings k).opening m.first
      → EndsBody (book_at m.number (shown k taken)) (book_at m.number (shown k given)) now body answer
      → ShelvesBody k m (having_passed given m) body answer
  shelves_body now body (Err refusal) known ends = tt
  shelves_body now body (Ok answer) known ends =
      where_told (blobs_in (k.told given.keeper)) (blobs_at_start k m) _
      (tells_since k m taken given agrees begun _ _ ends.enters.lasts.told)
      (λ some others e id is stores.
      let all = ends_body_after (book_in k m) (book_at m.number (shown k taken)) (book_at m.number (shown k given)) (sees k m taken agrees) now body (Ok answer) ends in
      let same = same_from_push (m.known.site.kept.history ++ all.enters.others) (m.known.site.kept.history ++ others) all.enters.entry e
      (sym all.enters.known ∙ is) in
      let rows = ap (λ (o : List Row × Snapshot K). o.0) known in
      let state : state_after (book_in k m) all.enters.others ≡ state_before others = (λ i. replay (opened (rows i)) (same.0 i)) in
      let stored = subst (λ (x : Entry). IfSome (blobs_in (k.told given.keeper)) (Stores (state_before others) x body)) same.1
      (subst (λ (s : State). IfSome (blobs_in (k.told given.keeper)) (Stores s all.enters.entry body)) state all.stored) in
      seen_now given.site.kept (k.told given.keeper) (seen_shelf (meanings k) m id) id body some
      (shown_body (blobs_in (k.told given.keeper)) others e id body (next_after others e (all.enters.lasts.opening ∙ rows) is) stores stored))
