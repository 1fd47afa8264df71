-- What the chunks of an upload have together is charged where it is stored, and passes no quota.
use Rattle.std.proofs.Common.{◌≡◌, ◌⊎◌, ℕ, ◌+◌, ◌==◌, ◌≤◌, Bool, true, false, List, [], ◌∷◌, Option, None, Some, if◌then◌else◌, inl, inr, refl, sym, ap, subst, arith, le_refl}
use Rattle.std.specs.Prelude.{sum_by}
use Rattle.std.specs.Option.{option_and_then, option_map_or}
use Rattle.std.proofs.lemmas.Bool.{eqb-true}
use Rattle.nf_base.specs.declared.changes.Change.{Change}
use Rattle.nf_base.specs.declared.content.Piece.{Piece}
use Rattle.nf_base.specs.declared.rows.NodeKind.TheVariants.{File}
use Rattle.nf_base.specs.declared.rows.NodeRow.{NodeRow}
use Rattle.nf_base.specs.declared.rows.UploadRow.{UploadRow}
use Rattle.nf_defs.specs.Prelude.{node_row, owner_of, put_all, Tables}
use Rattle.nf_defs.specs.declared.Found.{Found}
use Rattle.nf_defs.specs.declared.Found.TheVariants.{At, Free, Missing}
use Rattle.nf_laws.proofs.Assembling.{first_change, stored_sound, stored_tables}
use Rattle.nf_laws.proofs.Charging.{charge_beside}
use Rattle.nf_laws.proofs.Others.{stamp_sound}
use Rattle.nf_laws.proofs.Parts.{deed_stamped}
use Rattle.nf_laws.proofs.Recharged.{fits, KeepsCharge, Lower}
use Rattle.nf_laws.proofs.Refilled.{added_made, refilled_made}
use Rattle.nf_laws.proofs.Rows.{stamp}
use Rattle.nf_laws.proofs.Stored.{born_comes, Comes, comes_charged, refills_comes}
use Rattle.nf_laws.proofs.Trashing.{act_kept, KeepsTrash, trash_same}
use Rattle.nf_laws.specs.Charges.{bytes_owned, bytes_there, bytes_trashed, charged_at, IsCharged}
use Rattle.nf_words.proofs.Known.{KnownSettled}
use Rattle.nf_words.proofs.Starts.{IsAsking}
use Rattle.nf_words.proofs.Ways.{HasRow, way_there}
use Rattle.nf_words.specs.Prelude.{abandoned, abandons, access_of, AreSound, assembled_at, Call, charge_of, charged, content_size, deeds_done, excess, excess_at, found, new_node, quota_of, refilled, target_lost, unreached, unsettled, way_of}
use Rattle.nf_words.specs.declared.answer.Allowed.TheVariants as allowed
use Rattle.nf_words.specs.declared.answer.Deed.TheVariants as deed
use Rattle.nf_words.specs.declared.answer.Report.TheVariants.{Done}
use Rattle.nf_words.specs.declared.request.Spot.{Spot}

-- what is the user's is no more than before, or within the quota beside what was in the trash
abbrev pub Keeps : Tables → ℕ → Tables → Type 0
Keeps t user made =
    (bytes_owned made.nodes user ≤ bytes_owned t.nodes user) ⊎ (bytes_owned made.nodes user ≤ bytes_trashed t user + quota_of made user)

-- what comes for one owner in the place of what goes, where that passes no quota
pub owner_keeps : (t made : Tables) (user owner old new : ℕ) → quota_of made user ≡ quota_of t user → excess t owner old new ≡ None
    → Comes t owner old new made → Keeps t user made
owner_keeps t made user owner old new quota none comes = here (owner == user) refl (comes user)
  where
    here : (own : Bool) → (owner == user) ≡ own
        → bytes_owned made.nodes user + (if own then old else 0) ≡ bytes_owned t.nodes user + (if own then new else 0) → Keeps t user made
    here false other sum = inl (omega (arith, sum))
    here true own sum =
        elim (fits t user old new (subst (λ (n : ℕ). excess t n old new ≡ None) (eqb-true owner user own) none)) [
          | inl fewer ↦ inl (omega (arith, sum, fewer))
          | inr within ↦ inr (omega (arith, sum, within, quota, charge_beside t user))
        ]

-- where the trash stays as it is the charge is kept
pub kept_charge : (t made : Tables) (user : ℕ) → bytes_trashed made user ≡ bytes_trashed t user → Keeps t user made → KeepsCharge t user made
kept_charge t made user trash (inl fewer) = inl (omega (arith, fewer, charge_beside t user, charge_beside made user, trash))
kept_charge t made user trash (inr within) = inr (omega (arith, within, charge_beside made user, trash))

-- an upload is charged to nobody
pub abandon_lower : (user : ℕ) (dir : List ℕ) → Lower (deed.Abandon user dir ∷ [])
unfolding charge_of
abandon_lower user dir t of = (le_refl (charge_of t of), refl)

pub abandons_lower : (rows : List UploadRow) → Lower (abandons rows)
unfolding charge_of
abandons_lower [] t user = (le_refl (charge_of t user), refl)
abandons_lower (row ∷ rows) t user = abandons_lower rows (abandoned t row.user row.dir) user

-- ---- a join

-- a file at a place has a row
abbrev pub IsPlaced : Tables → Found → Type 0
IsPlaced t (At node) = HasRow t.nodes node
IsPlaced t (Free folder) = Unit {0}
IsPlaced t (Missing depth) = ⊥

-- so is what is found at the end of a path that leads somewhere
pub placed_at : (call : Call) (spot : Spot) → AreSound call.state.tables → IsAsking call → unreached (access_of call.state) call (way_of call spot) ≡ None
    → option_and_then target_lost (Some (found call spot)) ≡ None → IsPlaced call.state.tables (found call spot)
placed_at call spot sound is reached leads = here (found call spot) refl leads
  where
    here : (place : Found) → found call spot ≡ place → target_lost place ≡ None → IsPlaced call.state.tables place
    here (At node) at leads = way_there call spot sound is node reached at
    here (Free folder) at leads = tt
    here (Missing depth) at leads = absurd (cc)

module _ (t : Tables) (now : ℕ) (name : List ℕ) (content : List Piece) (sound : AreSound t) where
  abbrev changes : Found → List Change
  changes place = assembled_at t now name content place

  abbrev made : Found → Tables
  made place = stored_tables t now (changes place)

  -- its bytes come there
  pub assembled_comes : (place : Found) → IsPlaced t place
      → Comes t (charged_at t.nodes place) (bytes_there t.nodes place) (content_size content) (made place)
  assembled_comes (At node) (row, there) =
      subst (λ (o : Option NodeRow). Comes t (option_map_or (λ row. row.owner) o 0)
      (sum_by (λ piece. piece.size) (option_map_or (λ row. row.content) o [])) (content_size content)
      (stored_tables t now (option_map_or (refilled t now content) o []))) (sym there)
      (refills_comes t now node (content_size content) content row (put_all t (refilled t now content row)).nodes sound there refl
      (ap (λ (u : Tables). u.nodes) (refilled_made t now content row)))
  assembled_comes (Free folder) placed =
      born_comes t now folder (content_size content) name content None
      (unsettled t (charged t (owner_of t.nodes folder) 0 (content_size content)) []) sound refl
  assembled_comes (Missing depth) placed = absurd placed

  -- no quota is another
  same_quota : (place : Found) (user : ℕ) → quota_of (made place) user ≡ quota_of t user
  same_quota (At node) user = here (node_row t.nodes node)
    where
      here : (o : Option NodeRow) → quota_of (stored_tables t now (option_map_or (refilled t now content) o [])) user ≡ quota_of t user
      here None = refl
      here (Some row) = ap (λ (u : Tables). quota_of u user) (refilled_made t now content row)
  same_quota (Free folder) user =
      ap (λ (u : Tables). quota_of u user)
      (added_made t (new_node t now folder name File content) (unsettled t (charged t (owner_of t.nodes folder) 0 (content_size content)) []))
  same_quota (Missing depth) user = refl

  -- the upload that goes then is charged to nobody
  module _ (place : Found) (user : ℕ) (dir : List ℕ) (later : t.meta.last ≤ now)
      (known : KnownSettled t now (deed.Store (changes place) ∷ deed.Abandon user dir ∷ [])) where
    abbrev fine : AreSound (made place)
    fine = stored_sound t now (changes place) (deed.Abandon user dir ∷ []) sound later known

    kept : KeepsTrash t (made place).nodes
    kept =
        let dated = stamp t now in
        let act = allowed.Change (changes place) None Done in
        let first = first_change t now (changes place) (deed.Abandon user dir ∷ []) sound later known in
        let h = act_kept dated now act (stamp_sound t now sound later) (le_refl _) first tt in
        subst (KeepsTrash t) (ap (λ (u : Tables). u.nodes) (deed_stamped t now (deed.Store (changes place))))
        (record { same = h.same; present = h.present })

    pub same_trash : (of : ℕ) → bytes_trashed (made place) of ≡ bytes_trashed t of
    same_trash of = trash_same t (made place) of sound fine kept

    pub join_keeps : (of : ℕ) → IsPlaced t place → excess_at t (content_size content) place ≡ None
        → KeepsCharge t of (deeds_done t (deed.Store (changes place) ∷ deed.Abandon user dir ∷ []))
    unfolding charge_of
    join_keeps of placed none =
        kept_charge t (made place) of (same_trash of)
        (owner_keeps t (made place) of (charged_at t.nodes place) (bytes_there t.nodes place) (content_size content) (same_quota place of)
        (at_owner place placed none) (assembled_comes place placed))
      where
        at_owner : (place : Found) → IsPlaced t place → excess_at t (content_size content) place ≡ None
            → excess t (charged_at t.nodes place) (bytes_there t.nodes place) (content_size content) ≡ None
        at_owner (At node) placed none = none
        at_owner (Free folder) placed none = none
        at_owner (Missing depth) placed none = absurd placed

    -- and who has it there is charged for it
    pub join_charges : IsPlaced t place
        → IsCharged t (stamp (deeds_done t (deed.Store (changes place) ∷ deed.Abandon user dir ∷ [])) now) (charged_at t.nodes place)
        (bytes_there t.nodes place) (content_size content)
    unfolding charge_of
    join_charges placed =
        let is = comes_charged t (made place) (charged_at t.nodes place) (bytes_there t.nodes place) (content_size content) same_trash
        (assembled_comes place placed) in
        record { owned = is.owned; others = is.others }
