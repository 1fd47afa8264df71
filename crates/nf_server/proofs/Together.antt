-- The sessions of all workers stand in one history: that of a value that grew from what the joined seat knows.
use Rattle.std.proofs.Common.{◌≡◌, ◌⊎◌, ⊎_elim, inl, inr, ℕ, ◌+◌, ◌<◌, ◌≤◌, Bool, true, false, ◌==◌, if◌then◌else◌, List, [], ◌∷◌, ◌++◌, length, refl, sym, ◌∙◌, ap, subst, arith, append-nil, length-append}
use Rattle.std.specs.Prelude.{Some}
use Rattle.nf_base.specs.declared.limits.TheConstants.{MAX_ENTRIES}
use Rattle.nf_base.specs.declared.rows.Row.{Row}
use Rattle.nf_desk.specs.Desk.{Served, entries_by, meanings}
use Rattle.nf_hub.proofs.Owning.{own_same}
use Rattle.nf_hub.specs.Seats.{book_in}
use Rattle.nf_keeper.specs.declared.keeper.Keeper.{Ghosts as KeeperOf}
use Rattle.nf_outside.specs.Lent.{Lent, Taken}
use Rattle.nf_outside.specs.declared.traits.Ends.{Ghosts as EndsOf}
use Rattle.nf_session.proofs.Causes.{session_goes}
use Rattle.nf_session.proofs.Lasting.{Later, known_then, lasts_same}
use Rattle.nf_session.proofs.Moving.{Onward, onward_then}
use Rattle.nf_session.specs.Prelude.{Answer, Book, entries_wanted, own_from, state_of}
use Rattle.nf_session.specs.declared.ended.Ended.TheVariants.{RunFull as EndedFull}
use Rattle.nf_turn.specs.Book.{AllPrecede}
use Rattle.nf_turn.specs.Prelude.{AllAreKept, GrowsWithout, HasHeard, having_split, IsFresh, longer, Meanings, split_from}
use Rattle.nf_turn.specs.declared.view.Memory.{Memory}
use Rattle.nf_turn.proofs.Growing.{entries_stay}
use Rattle.nf_words.specs.Prelude.{after, answer_at, IsLegal, opened, replay, State}
use Rattle.nf_words.specs.declared.history.Entry.{Entry}
use Rattle.nf_words.specs.declared.history.Ticket.{Ticket}
use Rattle.nf_server.specs.Links.{scene_at}
use Rattle.nf_server.specs.Together.{AllStand, SawFull, StandInTurn, StandsIn}
use Rattle.nf_server.specs.Work.{both, EndsWork, InTurn, lent_of, ServesEnds, Visited, WorkBeside, Works}
use Rattle.nf_server.specs.declared.door.Door.{Ghosts as DoorOf}
use Rattle.nf_server.specs.declared.workers.Worked.{Worked}
use Rattle.nf_server.specs.declared.workers.Worked.TheVariants as worked
use Rattle.nf_server.specs.declared.workers.Worker.{Worker}
use Rattle.nf_server.proofs.Tickets.{ended_behind}

-- a seat's own entries in a history are those in a front of it, and those behind that
own_more : (n : ℕ) (s : State) (es more : List Entry) → own_from n s (es ++ more) ≡ own_from n s es ++ own_from n (replay s es) more
own_more n s [] more = refl
own_more n s (e ∷ es) more = here (e.seat == n) (own_more n (after s e) es more)
  where
    here : (own : Bool) → own_from n (after s e) (es ++ more) ≡ own_from n (after s e) es ++ own_from n (replay (after s e) es) more
        → (if own then (e, answer_at s e e.mark) ∷ own_from n (after s e) (es ++ more) else own_from n (after s e) (es ++ more))
        ≡ (if own then (e, answer_at s e e.mark) ∷ own_from n (after s e) es else own_from n (after s e) es)
        ++ own_from n (replay (after s e) es) more
    here true rest = ap (λ (z : List (Entry × Answer)). (e, answer_at s e e.mark) ∷ z) rest
    here false rest = rest

module _ {W E O : Type 0} where
  kept_behind : (book : Meanings E O W) (value : W) (xs ys : List (ℕ × W)) → AllAreKept book value (xs ++ ys) → AllAreKept book value ys
  kept_behind book value [] ys kept = kept
  kept_behind book value (x ∷ xs) ys kept = kept_behind book value xs ys kept.1

  precede_behind : (book : Meanings E O W) (value : W) (xs ys : List W) → AllPrecede book (xs ++ ys) value → AllPrecede book ys value
  precede_behind book value [] ys all = all
  precede_behind book value (x ∷ xs) ys all = precede_behind book value xs ys all.1

module _ {K S O C Q : Type 0} (k : KeeperOf K) (s : EndsOf S) (o : EndsOf O) (reads : Lent C Q → Taken → Lent C Q → Type 0) where
  -- what a seat knows goes on with each session, and with all of a worker's
  onward : (m n : Memory (Served K)) (c d : Lent C Q) (v : Visited K S O C Q) → ServesEnds k s o reads m n c d v.came v.left v.ended
      → Onward (book_in k m) (book_in k n)
  onward m n c d v serves =
      (session_goes reads (scene_at s o (book_in k m) [] v.came.source v.came.sink c)
      (scene_at s o (book_in k n) serves.kept v.left.source v.left.sink d) v.ended serves.session).book.onward

  all_onward : (m : Memory (Served K)) (c : Lent C Q) (visits : List (Visited K S O C Q)) (n : Memory (Served K)) (d : Lent C Q) → InTurn k s o reads m c visits n d
      → Onward (book_in k m) (book_in k n)
  all_onward m c [] n d so = record {
    lasts = lasts_same (book_in k m) (book_in k n) (ap (λ (x : Memory (Served K)). book_in k x) so.0);
    known = ([], ap (λ (x : Memory (Served K)). (book_in k x).known) so.0 ∙ sym (append-nil (book_in k m).known));
  }
  all_onward m c (v ∷ visits) n d so =
      onward_then (book_in k m) (book_in k v.memory) (book_in k n) (onward m v.memory c v.lent v so.0)
      (all_onward v.memory v.lent visits n d so.1)

  -- what it passed on last is among what it knows
  heard_on : (m : Memory (Served K)) (c : Lent C Q) (visits : List (Visited K S O C Q)) (n : Memory (Served K)) (d : Lent C Q) → InTurn k s o reads m c visits n d
      → HasHeard (meanings k) m → HasHeard (meanings k) n
  heard_on m c [] n d so heard = subst (λ (x : Memory (Served K)). HasHeard (meanings k) x) (sym so.0) heard
  heard_on m c (v ∷ visits) n d so heard = heard_on v.memory v.lent visits n d so.1 so.0.told

  module _ (rows : List Row) (history : List Entry) (legal : IsLegal (opened rows) history)
      (none : (replay (opened rows) history).tickets ≡ []) where
    -- ---- a session

    stands : (m n : Memory (Served K)) (c d : Lent C Q) (v : Visited K S O C Q) → ServesEnds k s o reads m n c d v.came v.left v.ended
        → (book_in k m).opening ≡ rows → Later (book_in k n).known history → StandsIn rows history (book_in k m) (book_in k n)
    stands m n c d v serves opening ahead =
        let on = onward m n c d v serves in
        let a = book_in k m in
        let b = book_in k n in
        record {
          opening = opening;
          seat = on.lasts.seat;
          piece = on.known.0;
          later = ahead.0;
          known = on.known.1;
          history_is = ahead.1;
          own =
              (λ i. own_from (on.lasts.seat i) (opened (on.lasts.opening i)) (on.known.1 i))
              ∙ own_more a.seat (opened a.opening) a.known on.known.0;
        }

    -- the tickets that were open then have their Ends behind it
    long : (b : Book) → b.opening ≡ rows → Later b.known history → MAX_ENTRIES < entries_wanted b → MAX_ENTRIES ≤ length history + 1
    long b opening ahead full =
        let granted : length (state_of b).tickets ≡ length (replay (opened rows) b.known).tickets =
        ap (λ (these : List Row). length (replay (opened these) b.known).tickets) opening in
        let ends = ended_behind 0 (opened rows) b.known ahead.0 (λ i j d before within. absurd (omega (arith, within)))
        (subst (λ (es : List Entry). IsLegal (opened rows) es) ahead.1 legal) in
        let closed : length (replay (opened rows) (b.known ++ ahead.0)).tickets ≡ 0 =
        ap (λ (es : List Entry). length (replay (opened rows) es).tickets) (sym ahead.1) ∙ ap (λ (ts : List Ticket). length ts) none in
        omega (arith, full, granted, ends, closed, ap (λ (es : List Entry). length es) ahead.1, length-append b.known ahead.0)

    -- ---- a worker

    in_turn_stands : (m : Memory (Served K)) (c : Lent C Q) (visits : List (Visited K S O C Q)) (n : Memory (Served K)) (d : Lent C Q)
        → InTurn k s o reads m c visits n d → (book_in k m).opening ≡ rows → Later (book_in k n).known history
        → own_from (book_in k n).seat (opened rows) history ≡ (book_in k n).own → StandInTurn k rows history (book_in k m) visits
    in_turn_stands m c [] n d so opening ahead whole =
        subst (λ (x : Memory (Served K)). own_from (book_in k x).seat (opened rows) history ≡ (book_in k x).own) so.0 whole
    in_turn_stands m c (v ∷ visits) n d so opening ahead whole =
        let on = onward m v.memory c v.lent v so.0 in
        let further = known_then (book_in k v.memory).known (book_in k n).known history (all_onward v.memory v.lent visits n d so.1).known ahead in
        let rows_are : (book_in k v.memory).opening ≡ rows = on.lasts.opening ∙ opening in (
          stands m v.memory c v.lent v so.0 opening further,
          λ is. record { seen = so.0.full is; long = long (book_in k v.memory) rows_are further (so.0.full is) },
          in_turn_stands v.memory v.lent visits n d so.1 rows_are ahead whole,
        )

-- ---- all workers

module _ {K S O C Q D : Type 0} (k : KeeperOf K) (s : EndsOf S) (o : EndsOf O) (reads : Lent C Q → Taken → Lent C Q → Type 0) (door : DoorOf D S O) (connections : ℕ)
    (rows : List Row) (history : List Entry) (legal : IsLegal (opened rows) history) (none : (replay (opened rows) history).tickets ≡ [])
    -- the first value, the one that the joined seat knows, and the last one, whose history this is
    (first top last : Served K) (fresh : IsFresh (meanings k) first) (opening : first.site.kept.opening ≡ rows)
    (ahead : Later top.site.kept.history history) (is : last.site.kept.history ≡ history) where
  -- a seat that is split off knows of the first value alone
  new_heard : (m : Memory (Served K)) → m.known ≡ first → m.first ≡ first → HasHeard (meanings k) (split_from m)
  new_heard m known begun =
      let same : m.known ≡ m.first = known ∙ sym begun in
      record {
        fresh = subst (λ (x : Served K). IsFresh (meanings k) x) (sym begun) fresh;
        opening = ap (meanings k).opening same;
        last = ([], ap (meanings k).entries same ∙ sym (append-nil ((meanings k).entries m.first)));
        heard = tt;
        own = ap (λ (x : Served K). entries_by m.next x.site.kept.history) same;
      }

  -- the history has no entry of a worker's seat but those that it knows
  worker_whole : (m mine : Memory (Served K)) (c d : Lent C Q) (visits : List (Visited K S O C Q)) → InTurn k s o reads (split_from m) c visits mine d
      → m.known ≡ first → m.first ≡ first → Later mine.known.site.kept.history history → GrowsWithout (meanings k) mine.number mine.last last
      → own_from (book_in k mine).seat (opened rows) history ≡ (book_in k mine).own
  worker_whole m mine c d visits so known begun further without =
      let heard = heard_on k s o reads (split_from m) c visits mine d so (new_heard m known begun) in
      let on = all_onward k s o reads (split_from m) c visits mine d so in
      let rows_are : mine.known.site.kept.opening ≡ rows =
      on.lasts.opening ∙ ap (λ (x : Served K). x.site.kept.opening) known ∙ opening in
      let same : entries_by mine.number history ≡ entries_by mine.number mine.known.site.kept.history =
      ap (entries_by mine.number) (sym is) ∙ entries_stay (meanings k) mine.number mine.last last without ∙ sym heard.own in
      own_same mine.number mine.known.site.kept.opening rows mine.known.site.kept.history further.0 history (sym rows_are) further.1 same

  pub all_stand : (number : ℕ) (m n : Memory (Served K)) (before after : List (Worker D C Q)) (result : Worked)
      (work : WorkBeside (longer (meanings k)) (Works k s o reads door connections) m n before after result) → m.known ≡ first → m.first ≡ first
      → m.next ≡ number → AllPrecede (meanings k) n.heard top → AllAreKept (meanings k) last n.joined
      → AllStand k s o reads door connections rows history number m n before after result work
  all_stand number m n [] [] result work known begun next heard joined = tt
  all_stand number m n [] (b ∷ after) result work known begun next heard joined = work
  all_stand number m n (a ∷ before) [] result work known begun next heard joined = work
  all_stand number m n (a ∷ before) (b ∷ after) result (mine, others, one, rest, works, beside, knows, ends) known begun next heard joined =
      let all = subst (λ (x : Memory (Served K)). AllPrecede (meanings k) x.heard top) knows heard in
      let kept = subst (λ (x : Memory (Served K)). AllAreKept (meanings k) last x.joined) knows joined in
      let further = known_then mine.known.site.kept.history top.site.kept.history history all.1.0 ahead in (
        record { seat = next; known = ap (λ (x : Served K). x.site.kept.history) known ∙ fresh.no_entries },
        in_turn_stands k s o reads rows history legal none (split_from m) (lent_of a) works.visits mine (lent_of b) works.in_turn
            (ap (λ (x : Served K). x.site.kept.opening) known ∙ opening) further
            (worker_whole m mine (lent_of a) (lent_of b) works.visits works.in_turn known begun further kept.0),
        all_stand (number + 1) (having_split m) others before after rest beside known begun (ap (λ (n : ℕ). n + 1) next)
            (precede_behind (meanings k) top mine.heard others.heard all.1.1) (kept_behind (meanings k) last mine.joined others.joined kept.1),
      )

-- ---- a run that was full

both_full : (one rest : Worked) → both one rest ≡ worked.RunFull → (one ≡ worked.RunFull) ⊎ (rest ≡ worked.RunFull)
both_full worked.RunFull rest is = inl refl
both_full worked.DoorFault rest is = absurd (cc)
both_full worked.Memory worked.RunFull is = inr refl
both_full worked.Memory worked.DoorFault is = absurd (cc)
both_full worked.Memory worked.All is = absurd (cc)
both_full worked.Memory worked.Memory is = absurd (cc)
both_full worked.All other is = inr is

module _ {K S O C Q D : Type 0} (k : KeeperOf K) (s : EndsOf S) (o : EndsOf O) (reads : Lent C Q → Taken → Lent C Q → Type 0) (door : DoorOf D S O) (connections : ℕ)
    (rows : List Row) (history : List Entry) where
  last_saw : (a : Book) (front : List (Visited K S O C Q)) (v : Visited K S O C Q) → StandInTurn k rows history a (front ++ v ∷ []) → v.ended ≡ Some EndedFull
      → SawFull history (book_in k v.memory)
  last_saw a [] v stand full = stand.1 full
  last_saw a (u ∷ front) v stand full = last_saw (book_in k u.memory) front v stand.2 full

  -- the worker that ended so saw it at its last session
  pub full_long : (number : ℕ) (m n : Memory (Served K)) (before after : List (Worker D C Q)) (result : Worked)
      (work : WorkBeside (longer (meanings k)) (Works k s o reads door connections) m n before after result)
      → AllStand k s o reads door connections rows history number m n before after result work → result ≡ worked.RunFull
      → MAX_ENTRIES ≤ length history + 1
  full_long number m n [] [] result work stand is = let all = work.1 in absurd (cc)
  full_long number m n [] (b ∷ after) result work stand is = absurd work
  full_long number m n (a ∷ before) [] result work stand is = absurd work
  full_long number m n (a ∷ before) (b ∷ after) result (mine, others, one, rest, works, beside, knows, ends) stand is = ⊎_elim
      (λ (its : one ≡ worked.RunFull). saw (subst (λ (r : Worked). EndsWork k s o reads door connections a.door b.door works.visits r) its works.ends))
      (λ (theirs : rest ≡ worked.RunFull). full_long (number + 1) (having_split m) others before after rest beside stand.2 theirs)
      (both_full one rest (sym ends ∙ is))
    where
      saw : EndsWork k s o reads door connections a.door b.door works.visits worked.RunFull → MAX_ENTRIES ≤ length history + 1
      saw (front, last, visits, unfull, ended, same) =
          (last_saw (book_in k (split_from m)) front last
          (subst (λ (vs : List (Visited K S O C Q)). StandInTurn k rows history (book_in k (split_from m)) vs) visits stand.1) ended).long
