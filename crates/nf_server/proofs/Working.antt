-- One worker's work, link by link.
use Rattle.std.proofs.Common.{◌≡◌, ◌≢◌, ℕ, ◌+◌, ◌<◌, List, [], ◌∷◌, ◌++◌, refl, sym, ◌∙◌, ap, subst, inl, inr, arith, length, length-append, map, append-nil, append_assoc, Ok}
use Rattle.std.proofs.lemmas.List.{map-append}
use Rattle.std.proofs.lemmas.List.Elements.{All-nil, All-push}
use Rattle.std.specs.Prelude.{Option, None, Some, option_map}
use Rattle.nf_desk.specs.Desk.{Served}
use Rattle.nf_keeper.specs.declared.keeper.Keeper.{Ghosts as KeeperOf}
use Rattle.nf_outside.specs.Causes.{Rose}
use Rattle.nf_outside.specs.Lent.{Lent, Taken}
use Rattle.nf_outside.specs.declared.traits.Ends.{Ghosts as EndsOf}
use Rattle.nf_session.specs.declared.ended.Ended.{Ended}
use Rattle.nf_session.specs.declared.ended.Ended.TheVariants.{RunFull as EndedFull}
use Rattle.nf_turn.specs.declared.view.Memory.{Memory}
use Rattle.nf_server.specs.Doors.{GivesLink, behind, closed}
use Rattle.nf_server.specs.Work.{GaveAndTook, HasNone, InTurn, lent_of, NoneFull, ServesEnds, ServesNext, Visited, Works}
use Rattle.nf_server.specs.declared.door.Door.{Ghosts as DoorOf}
use Rattle.nf_server.specs.declared.link.Link.{Link}
use Rattle.nf_server.specs.declared.workers.Worked.TheVariants as worked
use Rattle.nf_server.specs.declared.workers.Worker.{Worker}

module _ {K S O C Q : Type 0} (k : KeeperOf K) (s : EndsOf S) (o : EndsOf O) (reads : Lent C Q → Taken → Lent C Q → Type 0) where
  in_turn_more : (m : Memory (Served K)) (c : Lent C Q) (visits : List (Visited K S O C Q)) (n : Memory (Served K)) (d : Lent C Q) (v : Visited K S O C Q)
      → InTurn k s o reads m c visits n d → ServesEnds k s o reads n v.memory d v.lent v.came v.left v.ended
      → InTurn k s o reads m c (visits ++ v ∷ []) v.memory v.lent
  in_turn_more m c [] n d v so serves = (
    subst (λ (z : Lent C Q). ServesEnds k s o reads m v.memory z v.lent v.came v.left v.ended) so.1
        (subst (λ (z : Memory (Served K)). ServesEnds k s o reads z v.memory d v.lent v.came v.left v.ended) so.0 serves),
    (refl, refl),
  )
  in_turn_more m c (u ∷ visits) n d v so serves = (so.0, in_turn_more u.memory u.lent visits n d v so.1 serves)

  came_more : (visits : List (Visited K S O C Q)) (v : Visited K S O C Q) (b next : Option (List (Link S O))) → GivesLink b next (Ok (Some v.came))
      → option_map (λ (links : List (Link S O)). map (λ (u : Visited K S O C Q). u.came) visits ++ links) b
      ≡ option_map (λ (links : List (Link S O)). map (λ (u : Visited K S O C Q). u.came) (visits ++ v ∷ []) ++ links) next
  came_more visits v None None gives = refl
  came_more visits v None (Some left) gives = absurd gives
  came_more visits v (Some links) None gives = absurd gives
  came_more visits v (Some links) (Some left) gives =
      let f = λ (u : Visited K S O C Q). u.came in
      ap Some
      (ap (λ (z : List (Link S O)). map f visits ++ z) gives ∙ sym (append_assoc (map f visits) (v.came ∷ []) left)
      ∙ ap (λ (z : List (Link S O)). z ++ left) (sym (map-append f visits (v ∷ []))))

  left_more : (visits : List (Visited K S O C Q)) (v : Visited K S O C Q) (a : Option (List (Link S O)))
      → behind (option_map (λ (links : List (Link S O)). links ++ map (λ (u : Visited K S O C Q). u.left) visits) a) v.left
      ≡ option_map (λ (links : List (Link S O)). links ++ map (λ (u : Visited K S O C Q). u.left) (visits ++ v ∷ [])) a
  left_more visits v None = refl
  left_more visits v (Some links) =
      let f = λ (u : Visited K S O C Q). u.left in
      ap Some
      (append_assoc links (map f visits) (v.left ∷ []) ∙ ap (λ (z : List (Link S O)). links ++ z) (sym (map-append f visits (v ∷ []))))

  nothing_came : (a : Option (List (Link S O))) → a ≡ option_map (λ (links : List (Link S O)). [] ++ links) a
  nothing_came None = refl
  nothing_came (Some links) = refl

  nothing_left : (a : Option (List (Link S O))) → a ≡ option_map (λ (links : List (Link S O)). links ++ []) a
  nothing_left None = refl
  nothing_left (Some links) = ap Some (sym (append-nil links))

  module _ {D : Type 0} (door : DoorOf D S O) where
    -- so many links were served, and no session found the run full
    pub record SoFar (m n : Memory (Served K)) (a b : Worker D C Q) (count : ℕ) : Type 0 where
      pub visits : List (Visited K S O C Q)
      pub so_many : length visits ≡ count
      pub in_turn : InTurn k s o reads m (lent_of a) visits n (lent_of b)
      pub gave : GaveAndTook k s o reads door a.door b.door (door.coming b.door) visits
      pub none_full : NoneFull k s o reads visits
      pub same : door.faults b.door ≡ door.faults a.door

    pub nothing_yet : (m n : Memory (Served K)) (a b : Worker D C Q) → n ≡ m → b ≡ a → SoFar m n a b 0
    nothing_yet m n a b knows same = record {
      visits = [];
      so_many = refl;
      in_turn = (knows, ap (λ (w : Worker D C Q). lent_of w) same);
      gave = record {
        came = ap (λ (w : Worker D C Q). door.coming w.door) (sym same) ∙ nothing_came (door.coming b.door);
        left = ap (λ (w : Worker D C Q). door.served w.door) same ∙ nothing_left (door.served a.door);
      };
      none_full = All-nil _;
      same = ap (λ (w : Worker D C Q). door.faults w.door) same;
    }

    -- another link was given, served and given back
    module _ (m n p : Memory (Served K)) (a b t e : Worker D C Q) (count : ℕ) (so_far : SoFar m n a b count) (link : Link S O) (ended : Option Ended)
        (lent_is : lent_of t ≡ lent_of b) (gives : GivesLink (door.coming b.door) (door.coming t.door) (Ok (Some link)))
        (kept : door.served t.door ≡ door.served b.door) (unfailed : door.faults t.door ≡ door.faults b.door)
        (next : ServesNext k s o reads door n p t e link ended) where
      abbrev visit : Visited K S O C Q
      visit = record { came = link; left = next.after; memory = p; lent = lent_of e; ended = ended }

      abbrev visits : List (Visited K S O C Q)
      visits = so_far.visits ++ visit ∷ []

      in_turn : InTurn k s o reads m (lent_of a) visits p (lent_of e)
      in_turn =
          in_turn_more m (lent_of a) so_far.visits n (lent_of b) visit so_far.in_turn
          (subst (λ (z : Lent C Q). ServesEnds k s o reads n p z (lent_of e) link next.after ended) lent_is next.serves)

      gave : GaveAndTook k s o reads door a.door e.door (door.coming e.door) visits
      gave = record {
        came =
            so_far.gave.came
            ∙ came_more so_far.visits visit (door.coming b.door) (door.coming e.door)
            (subst (λ (z : Option (List (Link S O))). GivesLink (door.coming b.door) z (Ok (Some link))) (sym next.coming) gives);
        left =
            next.back ∙ ap (λ (z : Option (List (Link S O))). behind z next.after) (kept ∙ so_far.gave.left)
            ∙ left_more so_far.visits visit (door.served a.door);
      }

      faults : door.faults e.door ≡ door.faults a.door
      faults = next.faults ∙ unfailed ∙ so_far.same

      so_many : length visits ≡ count + 1
      so_many = length-append so_far.visits (visit ∷ []) ∙ ap (λ (z : ℕ). z + 1) so_far.so_many

      pub one_more : ended ≢ Some EndedFull → SoFar m p a e (count + 1)
      one_more other = record {
        visits = visits;
        so_many = so_many;
        in_turn = in_turn;
        gave = gave;
        none_full = All-push (λ (v : Visited K S O C Q). v.ended ≢ Some EndedFull) so_far.visits visit so_far.none_full other;
        same = faults;
      }

      -- it found the run full, and its door was closed
      pub full_work : (f : Worker D C Q) (connections : ℕ) → count < connections → ended ≡ Some EndedFull → lent_of f ≡ lent_of e
          → door.coming f.door ≡ closed (door.coming e.door) → door.served f.door ≡ door.served e.door → door.faults f.door ≡ door.faults e.door
          → Works k s o reads door connections m p a f worked.RunFull
      full_work f connections less full its_lent shut kept_still unfailed_still = record {
        visits = visits;
        few = omega (arith, so_many);
        in_turn = subst (λ (z : Lent C Q). InTurn k s o reads m (lent_of a) visits p z) (sym its_lent) in_turn;
        rest = door.coming e.door;
        gave = record { came = gave.came; left = kept_still ∙ gave.left };
        coming = shut;
        ends = (so_far.visits, visit, refl, so_far.none_full, full, unfailed_still ∙ faults);
      }

    -- there was no memory to begin with, and the door was closed
    pub no_work : (m : Memory (Served K)) (a b : Worker D C Q) (connections : ℕ) → lent_of b ≡ lent_of a → door.coming b.door ≡ closed (door.coming a.door)
        → door.served b.door ≡ door.served a.door → door.faults b.door ≡ door.faults a.door → Works k s o reads door connections m m a b worked.Memory
    no_work m a b connections lent_is shut kept unfailed = record {
      visits = [];
      few = omega arith;
      in_turn = (refl, lent_is);
      rest = door.coming a.door;
      gave = record { came = nothing_came (door.coming a.door); left = kept ∙ nothing_left (door.served a.door) };
      coming = shut;
      ends = (refl, unfailed);
    }

    pub all_work : (m n : Memory (Served K)) (a b : Worker D C Q) (connections : ℕ) → SoFar m n a b connections
        → Works k s o reads door connections m n a b worked.All
    all_work m n a b connections so_far = record {
      visits = so_far.visits;
      few = omega (arith, so_far.so_many);
      in_turn = so_far.in_turn;
      rest = door.coming b.door;
      gave = so_far.gave;
      coming = refl;
      ends = (so_far.none_full, so_far.same, inr so_far.so_many);
    }

    -- the door did nothing but to say that it is closed, or to fail
    module _ (m n : Memory (Served K)) (a b e : Worker D C Q) (count connections : ℕ) (less : count < connections) (so_far : SoFar m n a b count)
        (lent_is : lent_of e ≡ lent_of b) (kept : door.served e.door ≡ door.served b.door) where
      in_turn_still : InTurn k s o reads m (lent_of a) so_far.visits n (lent_of e)
      in_turn_still = subst (λ (z : Lent C Q). InTurn k s o reads m (lent_of a) so_far.visits n z) (sym lent_is) so_far.in_turn

      gave_still : door.coming e.door ≡ door.coming b.door → GaveAndTook k s o reads door a.door e.door (door.coming e.door) so_far.visits
      gave_still same = record {
        came =
            so_far.gave.came
            ∙ ap (λ (z : Option (List (Link S O))). option_map (λ (links : List (Link S O)). map (λ (v : Visited K S O C Q). v.came) so_far.visits ++ links) z) (sym same);
        left = kept ∙ so_far.gave.left;
      }

      pub closed_work : GivesLink (door.coming b.door) (door.coming e.door) (Ok None) → door.faults e.door ≡ door.faults b.door
          → Works k s o reads door connections m n a e worked.All
      closed_work gives unfailed =
          let shut = closed_door (door.coming b.door) (door.coming e.door) gives in
          record {
            visits = so_far.visits;
            few = omega (arith, so_far.so_many);
            in_turn = in_turn_still;
            rest = door.coming e.door;
            gave = gave_still shut.0;
            coming = refl;
            ends = (so_far.none_full, unfailed ∙ so_far.same, inl shut.1);
          }
        where
          closed_door : (x y : Option (List (Link S O))) → GivesLink x y (Ok None) → (y ≡ x) × HasNone k s o reads door y
          closed_door None None gives = (refl, tt)
          closed_door None (Some left) gives = absurd gives
          closed_door (Some links) None gives = absurd gives
          closed_door (Some links) (Some left) gives = (ap Some (gives.1 ∙ sym gives.0), gives.1)

      pub failed_work : (T : Type 0) → (door.coming e.door ≡ door.coming b.door) → Rose (door.faults b.door) (door.faults e.door)
          → Works k s o reads door connections m n a e worked.DoorFault
      failed_work T same rose = record {
        visits = so_far.visits;
        few = omega (arith, so_far.so_many);
        in_turn = in_turn_still;
        rest = door.coming e.door;
        gave = gave_still same;
        coming = refl;
        ends = (so_far.none_full, subst (λ (z : ℕ). Rose z (door.faults e.door)) so_far.same rose, omega (arith, so_far.so_many));
      }
