-- What is done at posts is done by seats.
use Rattle.std.proofs.Common.{◌≡◌, ℕ, List, [], ◌∷◌, refl, sym, ◌∙◌, ap, subst}
use Rattle.std.proofs.lemmas.Option.{same_Some}
use Rattle.std.specs.Borrow.{Bor}
use Rattle.std.specs.Prelude.{Option, None, Some}
use Rattle.std.specs.declared.snapshot.Snapshot.{Snapshot}
use Rattle.nf_base.specs.declared.rows.Row.{Row}
use Rattle.nf_desk.specs.Desk.{Served, meanings}
use Rattle.nf_hub.specs.Seats.{memory_of}
use Rattle.nf_hub.specs.declared.hub.HubOf.{HubOf}
use Rattle.nf_keeper.specs.declared.keeper.Keeper.{Ghosts as KeeperOf}
use Rattle.nf_turn.specs.Memory.{having_joined, having_split, longer, split_from}
use Rattle.nf_turn.specs.declared.view.Memory.{Memory}
use Rattle.nf_words.specs.declared.history.Entry.{Entry}
use Rattle.nf_server.specs.Posts.{Beside, IsBeside, IsFilled, JoinsIn, Knew, Posted, SeatIn, SplitsOff, WorksThrough}
use Rattle.nf_server.specs.Work.{WorkBeside}
use Rattle.nf_server.specs.declared.workers.Worked.{Worked}

module _ {K : Type 0} (k : KeeperOf K) where
  abbrev pub LentHub : Type 0
  LentHub = Bor (HubOf (Served K) Entry (List Row × Snapshot K))

  abbrev pub posted : LentHub → ℕ → SeatIn K → Posted K
  posted hub connections seat = record { hub = hub; connections = connections; seat = Some seat }

  pub is_posted : (p : Posted K) (hub : LentHub) (connections : ℕ) (seat : SeatIn K) → p.hub ≡ hub → p.connections ≡ connections → p.seat ≡ Some seat
      → p ≡ posted hub connections seat
  is_posted p hub connections seat its counts has =
      ap (λ (h : LentHub). record p { hub = h }) its
      ∙ ap (λ (n : ℕ). record p { hub = hub; connections = n }) counts
      ∙ ap (λ (s : Option (SeatIn K)). record { hub = hub; connections = connections; seat = s }) has

  pub splits_off : (p : Posted K) (hub : LentHub) (connections : ℕ) (seat kept new : SeatIn K) → p ≡ posted hub connections seat
      → memory_of k hub.now new ≡ split_from (memory_of k hub.now seat) → memory_of k hub.now kept ≡ having_split (memory_of k hub.now seat)
      → SplitsOff k p (posted hub connections kept) (posted hub connections new)
  splits_off p hub connections seat kept new is split keeps =
      subst (λ (z : Posted K). SplitsOff k z (posted hub connections kept) (posted hub connections new)) (sym is) (record {
        same = record { hub = refl; connections = refl };
        its = record { hub = refl; connections = refl };
        before = memory_of k hub.now seat;
        knew = (seat, refl, refl);
        kept = (kept, refl, keeps);
        split = (new, refl, split);
      })

  pub joins_in : (p other : Posted K) (hub : LentHub) (connections : ℕ) (seat joined after : SeatIn K) → p ≡ posted hub connections seat
      → other ≡ posted hub connections joined
      → memory_of k hub.now after ≡ having_joined (longer (meanings k)) (memory_of k hub.now seat) (memory_of k hub.now joined)
      → JoinsIn k p other (posted hub connections after)
  joins_in p other hub connections seat joined after is other_is joins =
      subst (λ (z : Posted K). JoinsIn k z other (posted hub connections after)) (sym is)
      (subst (λ (z : Posted K). JoinsIn k (posted hub connections seat) z (posted hub connections after)) (sym other_is) (record {
        same = record { hub = refl; connections = refl };
        before = memory_of k hub.now seat;
        joined = memory_of k hub.now joined;
        knew = (seat, refl, refl);
        other_knew = (joined, refl, refl);
        knows = (after, refl, joins);
      }))

  pub works_through : (works : ℕ → Memory (Served K) → Memory (Served K) → Type 0) (p : Posted K) (hub : LentHub) (connections : ℕ)
      (seat after : SeatIn K) → p ≡ posted hub connections seat
      → works connections (memory_of k hub.now seat) (memory_of k hub.now after) → WorksThrough k works p (posted hub connections after)
  works_through works p hub connections seat after is done =
      subst (λ (z : Posted K). WorksThrough k works z (posted hub connections after)) (sym is) (record {
        same = record { hub = refl; connections = refl };
        before = memory_of k hub.now seat;
        after = memory_of k hub.now after;
        knew = (seat, refl, refl);
        knows = (after, refl, refl);
        done = done;
      })

  pub nothing_through : (works : ℕ → Memory (Served K) → Memory (Served K) → Type 0) (hub : LentHub) (connections : ℕ) (seat : Option (SeatIn K))
      → IsFilled k hub.now seat → ((m : Memory (Served K)) → works connections m m)
      → WorksThrough k works (record { hub = hub; connections = connections; seat = seat }) (record { hub = hub; connections = connections; seat = seat })
  nothing_through works hub connections None filled nothing = absurd filled
  nothing_through works hub connections (Some seat) filled nothing =
      works_through works (posted hub connections seat) hub connections seat seat refl (nothing (memory_of k hub.now seat))

  -- what a post knew is one thing
  pub knew_once : (p : Posted K) (m n : Memory (Served K)) → Knew k p m → Knew k p n → m ≡ n
  knew_once p m n (a, a_is, a_knew) (b, b_is, b_knew) =
      sym a_knew ∙ ap (λ (s : SeatIn K). memory_of k p.hub.now s) (same_Some a b (sym a_is ∙ b_is)) ∙ b_knew

  module _ {W : Type 0} (works : ℕ → Memory (Served K) → Memory (Served K) → W → W → Worked → Type 0) where
    abbrev pub PostWorks : Posted K → Posted K → W → W → Worked → Type 0
    PostWorks p q a b result = WorksThrough k (λ connections m n. works connections m n a b result) p q

    -- so all that was done was done by seats that were split off and joined
    pub beside_seats : (p q : Posted K) (m : Memory (Served K)) (before after : List W) (result : Worked)
        → Beside (SplitsOff k) PostWorks (JoinsIn k) p q before after result → Knew k p m
        → (n : Memory (Served K)) × Knew k q n × IsBeside p q
        × WorkBeside (longer (meanings k)) (works p.connections) m n before after result
    beside_seats p q m [] [] result so knew =
        (m, subst (λ (z : Posted K). Knew k z m) (sym so.0) knew, (record { hub = ap (λ (z : Posted K). z.hub) so.0; connections = ap (λ (z : Posted K). z.connections) so.0 }), (refl, so.1))
    beside_seats p q m [] (b ∷ after) result so knew = absurd so
    beside_seats p q m (a ∷ before) [] result so knew = absurd so
    beside_seats p q m (a ∷ before) (b ∷ after) result (kept, new, mine, others, one, rest, splits, its, beside, joins, ends) knew =
        let others_knew = beside_seats kept others (having_split m) before after rest beside
        (subst (λ (z : Memory (Served K)). Knew k kept (having_split z)) (knew_once p splits.before m splits.knew knew) splits.kept) in
        let n = others_knew.0 in
        let started : its.before ≡ split_from m =
        knew_once new its.before (split_from splits.before) its.knew splits.split
        ∙ ap (λ (z : Memory (Served K)). split_from z) (knew_once p splits.before m splits.knew knew) in
        let joined : joins.joined ≡ its.after = knew_once mine joins.joined its.after joins.other_knew its.knows in
        let was : joins.before ≡ n = knew_once others joins.before n joins.knew others_knew.1 in (
          having_joined (longer (meanings k)) n its.after,
          subst (λ (z : Memory (Served K)). Knew k q (having_joined (longer (meanings k)) n z)) joined
              (subst (λ (z : Memory (Served K)). Knew k q (having_joined (longer (meanings k)) z joins.joined)) was joins.knows),
          record {
            hub = joins.same.hub ∙ others_knew.2.hub ∙ splits.same.hub;
            connections = joins.same.connections ∙ others_knew.2.connections ∙ splits.same.connections;
          },
          (
            its.after,
            n,
            one,
            rest,
            subst (λ (z : Memory (Served K)). works p.connections z its.after a b one) started
                (subst (λ (z : ℕ). works z its.before its.after a b one) splits.its.connections its.done),
            subst (λ (z : ℕ). WorkBeside (longer (meanings k)) (works z) (having_split m) n before after rest) splits.same.connections others_knew.3,
            refl,
            ends,
          ),
        )
