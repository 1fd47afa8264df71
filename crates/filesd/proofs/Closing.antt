-- What is left once the one seat of a hub has closed it, or where there was no memory for a hub.
use Rattle.std.proofs.Common.{◌≡◌, ℕ, List, [], refl, sym, ◌∙◌, ap, subst, inl, inr, arith}
use Rattle.std.proofs.KnownBytes.{Keeps-refl}
use Rattle.std.specs.Option.{IfSome}
use Rattle.std.specs.Prelude.{Option, Some, sum}
use Rattle.std.specs.declared.snapshot.Snapshot.{Snapshot}
use Rattle.nf_base.specs.declared.limits.TheConstants.{MAX_SEATS}
use Rattle.nf_base.specs.declared.rows.Row.{Row}
use Rattle.nf_desk.specs.Desk.{Served, TellsSite, blobs_in, failed_marks, failures, risen, shown}
use Rattle.nf_http.specs.Told.{stream}
use Rattle.nf_http.specs.declared.wire.WireFault.TheVariants as wire
use Rattle.nf_hub.specs.Closing.{Closes}
use Rattle.nf_hub.specs.Seats.{book_in, memory_of, steady}
use Rattle.nf_hub.specs.declared.hub.HubOf.{HubOf}
use Rattle.nf_hub.specs.declared.seat.SeatOf.{SeatOf}
use Rattle.nf_keeper.specs.declared.keeper.Keeper.{Ghosts as KeeperOf}
use Rattle.nf_outside.specs.Lent.{Taken}
use Rattle.nf_session.proofs.Fronts.{stream_front}
use Rattle.nf_session.specs.Prelude.{Book, Session}
use Rattle.nf_session.specs.declared.ended.Ended.{Ended}
use Rattle.nf_session.specs.declared.ended.Ended.TheVariants as ended
use Rattle.nf_site.specs.Held.{Held}
use Rattle.nf_told.specs.Told.{Told}
use Rattle.nf_turn.proofs.Poses.{numbers_known}
use Rattle.nf_turn.specs.Prelude.{IsWhole, Numbers, numbers, numbers_of, of_the_first}
use Rattle.nf_turn.specs.declared.view.Memory.{Memory}
use Rattle.nf_words.specs.declared.history.Entry.{Entry}
use Rattle.filesd.specs.Outside.{Outside}
use Rattle.filesd.specs.Reopening.{Leaves, Pays}
use Rattle.filesd.specs.Seat.{AreOwn, book_of}
use Rattle.filesd.specs.Session.{ServesDesk, scene_of}
use Rattle.filesd.specs.declared.status.Status.{Status}
use Rattle.filesd.specs.declared.status.Status.TheVariants as exit
use Rattle.filesd.proofs.Leaving.{leaves, paid}
use Rattle.filesd.proofs.Sole.{all_numbers, are_own, is_whole, last_book_is}

-- a session keeps the numbers of its seat
pub numbers_stay : {K : Type 0} (m before : Memory (Served K)) (desk : Served K) → steady m ≡ steady before
    → before ≡ of_the_first MAX_SEATS desk
    → numbers_of m ≡ all_numbers desk
numbers_stay {K} m before desk same first =
    ap (λ (x : Memory (Served K)). numbers_of x) same ∙ ap (λ (x : Memory (Served K)). numbers_of x) first

pub seat_is_whole : {K : Type 0} (k : KeeperOf K) (hub : HubOf (Served K) Entry (List Row × Snapshot K))
    (seat : SeatOf (Served K) Entry (List Row × Snapshot K)) (desk : Served K)
    → numbers_of (memory_of k hub seat) ≡ all_numbers desk → IsWhole (numbers seat.turns)
seat_is_whole {K} k hub seat desk all =
    subst (λ (n : Numbers (Served K)). IsWhole n) (sym all ∙ numbers_known _ seat.turns.place.me) (is_whole desk)

-- what is left of a hub
pub closing_leaves : {K : Type 0} (k : KeeperOf K) (m : Memory (Served K)) (site : Held) (keeper : K) → Closes k m site keeper
    → Leaves site.kept (k.told keeper)
closing_leaves {K} k m site keeper closes =
    let desk = closes.desk in
    subst (λ (s : Held). Leaves s.kept (k.told keeper)) (sym closes.site_is)
    (subst (λ (z : K). Leaves desk.site.kept (k.told z)) (sym closes.keeper_is)
    (leaves (blobs_in (k.told desk.start.value)) desk.site.kept (k.told desk.keeper) closes.history closes.sound closes.ruled closes.idle
    closes.is_desk.fit closes.is_desk.told))

-- whole, but for what was damaged when the desk was opened
pub closing_tells : {K : Type 0} (k : KeeperOf K) (m : Memory (Served K)) (site : Held) (keeper : K) (closes : Closes k m site keeper)
    → IfSome (k.told keeper) (TellsSite (blobs_in (k.told closes.desk.start.value)) site.kept)
closing_tells {K} k m site keeper closes =
    let start = blobs_in (k.told closes.desk.start.value) in
    subst (λ (s : Held). IfSome (k.told keeper) (TellsSite start s.kept)) (sym closes.site_is)
    (subst (λ (z : K). IfSome (k.told z) (TellsSite start closes.desk.site.kept)) (sym closes.keeper_is) closes.is_desk.told)

module _ {K : Type 0} (k : KeeperOf K) (m : Memory (Served K)) (first : Served K) (all : numbers_of m ≡ all_numbers first)
    (site : Held) (keeper : K) (closes : Closes k m site keeper) where
  pub closing_own : AreOwn site.kept.history
  closing_own =
      subst (λ (s : Held). AreOwn s.kept.history) (sym closes.site_is) (are_own k m first closes.desk all closes.agrees)

  module _ (same : m.first ≡ first) where
    start_is : closes.desk.start ≡ first.start
    start_is =
        ap (λ (o : List Row × Snapshot K). o.1) closes.agrees.opening ∙ ap (λ (d : Served K). d.start) same

    pub closing_told : IfSome (k.told keeper) (TellsSite (blobs_in (k.told first.start.value)) site.kept)
    closing_told =
        subst (λ (s : Snapshot K). IfSome (k.told keeper) (TellsSite (blobs_in (k.told s.value)) site.kept)) start_is
        (closing_tells k m site keeper closes)

    pub closing_book : book_in k m ≡ book_of site.kept (k.told first.start.value) (k.told keeper) (k.faults keeper)
    closing_book =
        let desk = closes.desk in
        last_book_is k m first desk all closes.agrees closes.is_desk
        ∙ ap (λ (s : Snapshot K). book_of desk.site.kept (k.told s.value) (k.told desk.keeper) (k.faults desk.keeper)) start_is
        ∙ ap (λ (z : K). book_of desk.site.kept (k.told first.start.value) (k.told z) (k.faults z)) (sym closes.keeper_is)
        ∙ ap (λ (s : Held). book_of s.kept (k.told first.start.value) (k.told keeper) (k.faults keeper)) (sym closes.site_is)

-- each failure of the store is paid for since the desk of the first seat was opened
pub closing_pays : {K : Type 0} (k : KeeperOf K) (m : Memory (Served K)) (first : Served K) (site : Held) (keeper : K) → m.first ≡ first
    → first.start.value ≡ first.keeper → Closes k m site keeper → Pays site.kept (k.faults first.keeper) (k.faults keeper)
closing_pays {K} k m first site keeper same start closes =
    let desk = closes.desk in
    let began : k.faults desk.start.value ≡ k.faults first.keeper =
    ap (λ (o : List Row × Snapshot K). k.faults o.1.value) closes.agrees.opening
    ∙ ap (λ (d : Served K). k.faults d.start.value) same ∙ ap k.faults start in
    let n = failures (shown k desk) in
    let pays = paid (k.faults first.keeper) (failed_marks desk.site.kept.history) (sum desk.strikes) n (k.faults desk.keeper) refl
    (closes.is_desk.counted.is ∙ ap (λ (before : ℕ). risen before n) began) in
    subst (λ (s : Held). Pays s.kept (k.faults first.keeper) (k.faults keeper)) (sym closes.site_is)
    (subst (λ (z : K). Pays desk.site.kept (k.faults first.keeper) (k.faults z)) (sym closes.keeper_is) pays)

-- a session between two scenes, by what its seat knew there
pub session_between : {C : Type 0} (reads : C → Taken → C → Type 0) (a b : Outside C) (kept : List ℕ) (end : Option Ended) (p q r s : Book)
    → p ≡ q → r ≡ s → Session reads (scene_of a [] p) (scene_of b kept r) end → Session reads (scene_of a [] q) (scene_of b kept s) end
session_between reads a b kept end p q r s first last session =
    subst (λ (book : Book). Session reads (scene_of a [] q) (scene_of b kept book) end) last
    (subst (λ (book : Book). Session reads (scene_of a [] book) (scene_of b kept r) end) first session)

-- ---- without a hub

-- where there is no memory, a session ends at once, and nothing was touched
none_served : {C : Type 0} (reads : C → Taken → C → Type 0) (a : Outside C) (book : Book)
    → Session reads (scene_of a [] book) (scene_of a [] book) (Some ended.Memory)
none_served reads a book = record {
  scenes = [];
  before = scene_of a [] book;
  through = refl;
  few = omega arith;
  turn = inr (inl (
    scene_of a [] book,
    wire.Memory,
    ended.Memory,
    record { only = refl; next = Keeps-refl (stream [] a.left); front = stream_front [] a.left; shown = tt; told = refl; cause = refl },
    (refl, refl),
    refl,
  ));
  full = λ is. absurd (cc);
}

-- what was handed out is the desk as it was opened
pub serves_none : {C K : Type 0} (reads : C → Taken → C → Type 0) (k : KeeperOf K) (a : Outside C) (desk left : Served K) (status : Status)
    (site : Option Held) (keeper : K) → desk.start.value ≡ desk.keeper → left ≡ desk → status ≡ exit.Memory → site ≡ Some left.site
    → keeper ≡ left.keeper → Leaves left.site.kept (k.told left.keeper)
    → ServesDesk reads (shown k desk) a (record a { told = k.told keeper; faults = k.faults keeper }) status site
serves_none {C} {K} reads k a desk left status site keeper begun same is handed its leaves =
    let b : Outside C = record a { told = k.told keeper; faults = k.faults keeper } in
    let start : Option Told = k.told desk.start.value in
    let book : Book = book_of desk.site.kept start (k.told desk.keeper) (k.faults desk.keeper) in
    let last : book ≡ book_of left.site.kept start (k.told keeper) (k.faults keeper) =
    ap (λ (d : Served K). book_of d.site.kept start (k.told d.keeper) (k.faults d.keeper)) (sym same)
    ∙ ap (λ (z : K). book_of left.site.kept start (k.told z) (k.faults z)) (sym its) in
    let first : left.keeper ≡ desk.start.value = ap (λ (d : Served K). d.keeper) same ∙ sym begun in
    subst (λ (s : Option Held). ServesDesk reads (shown k desk) a b status s) (sym handed) (
      Some ended.Memory,
      [],
      is,
      omega arith,
      session_between reads a b [] (Some ended.Memory) book book book _ refl last (none_served reads a book),
      subst (λ (z : K). IfSome (k.told z) (TellsSite (blobs_in start) left.site.kept)) (sym its)
          (subst (λ (z : K). IfSome (k.told left.keeper) (TellsSite (blobs_in (k.told z)) left.site.kept)) first leaves.told),
    )
