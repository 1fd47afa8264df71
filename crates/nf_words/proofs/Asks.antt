-- What is known of what is asked about shares.
use Rattle.std.proofs.Common.{◌≡◌, ◌≢◌, ℕ, ◌+◌, ◌<◌, ◌≤◌, ◌==◌, ◌&&◌, ◌||◌, not, inl, inr, min, max, Bool, true, false, List, [], ◌∷◌, filter, find, get_or, length, map, Option, option_map, if◌then◌else◌, refl, ap, sym, subst, ◌∙◌, arith, le_refl}
use Rattle.std.specs.Prelude.{None, Some, bit_and, bit_or, bytes_eq, is_none, is_some, nat_lt}
use Rattle.std.specs.Int.{bit_at}
use Rattle.std.specs.List.{All, AllPairs, list_any}
use Rattle.std.specs.Option.{IfSome, option_and_then, option_map_or}
use Rattle.std.proofs.lemmas.Bool.{and_from, both_ways, eq-eqb, eqb-true, leb-false, ltb-false, not-true}
use Rattle.std.proofs.lemmas.List.Elements.{All-cons, All-filter, All-map, All-nil, All-weaker, filter_passes}
use Rattle.std.proofs.lemmas.List.{get_or-map, length-map}
use Rattle.std.proofs.lemmas.List.Kept.{AllPairs-cons}
use Rattle.std.proofs.lemmas.List.Folds.{list_any-from_Any}
use Rattle.std.proofs.lemmas.Nat.Bits.{bit_at_and, bit_at_or, same_from_bits}
use Rattle.std.proofs.lemmas.Option.{none-some, same_Some}
use Rattle.nf_access.proofs.Chains.{own_row}
use Rattle.nf_access.proofs.Granted.{any_is}
use Rattle.nf_access.proofs.LookUps.{find_among}
use Rattle.nf_access.specs.Access.{by_chains}
use Rattle.nf_access.specs.Making.{is_again, is_self_share, is_token_taken, passes_on}
use Rattle.nf_access.specs.Mounts.{ensured_all, is_mount_of, is_mounted, mount_row}
use Rattle.nf_access.specs.Shares.{chain_of, ground_of, most_of_node, most_of_share, perms_of_share, share_row}
use Rattle.nf_base.specs.declared.changes.Change.{Change}
use Rattle.nf_base.specs.declared.changes.Change.TheVariants.{Put}
use Rattle.nf_base.specs.declared.limits.TheConstants.{MAX_CHAIN, MAX_MOUNTS, MAX_SHARES}
use Rattle.nf_base.specs.declared.changes.RowKey.TheVariants as keys
use Rattle.nf_base.specs.declared.rows.GroupRow.{GroupRow}
use Rattle.nf_base.specs.declared.rows.MemberRow.{MemberRow}
use Rattle.nf_base.specs.declared.rows.MetaRow.{MetaRow}
use Rattle.nf_base.specs.declared.rows.MountRow.{MountRow}
use Rattle.nf_base.specs.declared.rows.NodeKind.{NodeKind}
use Rattle.nf_base.specs.declared.rows.NodeRow.{NodeRow}
use Rattle.nf_base.specs.declared.rows.Row.TheVariants as rows
use Rattle.nf_base.specs.declared.rows.ShareKind.{ShareKind}
use Rattle.nf_base.specs.declared.rows.ShareRow.{ShareRow}
use Rattle.nf_base.specs.declared.rows.UserRow.{UserRow}
use Rattle.nf_defs.specs.Prelude.{Access, group_named, is_root, is_root_place, made, members_of, node_row, owner_of, put, share_key, Tables, user_named, user_row}
use Rattle.nf_defs.specs.declared.Found.{Found}
use Rattle.nf_defs.specs.declared.Found.TheVariants.{At, Free, Missing}
use Rattle.nf_defs.specs.declared.Grant.{Grant}
use Rattle.nf_defs.specs.declared.Seeker.{Seeker}
use Rattle.nf_words.proofs.Ensured.{each_new, each_once, ensured_known, IsGivenNew, IsMountable, new_count}
use Rattle.nf_words.proofs.Fits.{KnownChange, no_more, none_lean, one_more}
use Rattle.nf_words.proofs.Found.{found_has, found_passes, put_is_found}
use Rattle.nf_words.proofs.Known.{Known}
use Rattle.nf_words.proofs.Mounting.{mount_found}
use Rattle.nf_words.proofs.Starts.{row_of_caller, user_seeks}
use Rattle.nf_words.proofs.Starts.IsAsking.{by_user}
use Rattle.nf_words.proofs.Ways.{bounded, node_present, way_there}
use Rattle.nf_words.specs.Prelude.{access_of, AreSound, asked_about, asker_of, Call, caller_row, changed_key, counted, ended_row, fault_of_ask, found, is_long, is_own, is_owner, is_steered_by, is_widened, IsKindSound, IsLean, IsNewShare, IsOfNode, IsOtherShare, is_past, IsShareSound, kind_of, kind_to, last_number, LeadsToRoot, limit_of_ask, live_share, mount_limit, new_share, offer_fault, offer_limit, offer_of, parent_by, parent_for, node_found, nothing_done, offered, perms_after, put_mounts, raised, receiver_named, same_end, seeker_of, set_row, share_ended, share_made, share_set, share_shown, share_steered, share_told, shared, StandsOn, unreached, until_after, user_of, users_for, way_of}
use Rattle.nf_words.specs.Tokens.{link_token}
use Rattle.nf_words.specs.declared.answer.Limit.{Limit}
use Rattle.nf_words.specs.declared.answer.Limit.TheVariants as limit
use Rattle.nf_words.specs.declared.answer.Breach.TheVariants as rule
use Rattle.nf_words.specs.declared.answer.Allowed.{Allowed}
use Rattle.nf_words.specs.declared.request.Offer.{Offer}
use Rattle.nf_words.specs.declared.request.Places.{Places}
use Rattle.nf_words.specs.declared.request.Receiver.{Receiver}
use Rattle.nf_words.specs.declared.request.Receiver.TheVariants as receiver
use Rattle.nf_words.specs.declared.request.ShareAsk.{ShareAsk}
use Rattle.nf_words.specs.declared.request.ShareAsk.TheVariants as ask
use Rattle.nf_words.specs.declared.request.Sharee.{Sharee}
use Rattle.nf_words.specs.declared.request.Sharee.TheVariants as sharee
use Rattle.nf_words.specs.declared.request.Spot.{Spot}

-- ---- permissions

lattice : (a b o : ℕ) → max (min (max (min a b) o) b) o ≡ max (min a b) o
lattice a b o = omega arith

-- what a share may allow is what a share of that may
again_most : (w m : ℕ) → bit_or (bit_and (bit_or (bit_and w m) 1) m) 1 ≡ bit_or (bit_and w m) 1
again_most w m =
    same_from_bits _ _ (λ i.
    bit_at_or (bit_and (bit_or (bit_and w m) 1) m) 1 i
    ∙ ap (λ (b : ℕ). max b (bit_at 1 i)) (bit_at_and (bit_or (bit_and w m) 1) m i)
    ∙ ap (λ (b : ℕ). max (min b (bit_at m i)) (bit_at 1 i)) (bit_at_or (bit_and w m) 1 i)
    ∙ ap (λ (b : ℕ). max (min (max b (bit_at 1 i)) (bit_at m i)) (bit_at 1 i)) (bit_at_and w m i)
    ∙ lattice (bit_at w i) (bit_at m i) (bit_at 1 i)
    ∙ sym (bit_at_or (bit_and w m) 1 i ∙ ap (λ (b : ℕ). max b (bit_at 1 i)) (bit_at_and w m i)))

pub perms_once : (of : NodeKind) (to : ShareKind) (w : ℕ) → perms_of_share of to (perms_of_share of to w) ≡ perms_of_share of to w
perms_once of to w = again_most w (bit_and (most_of_node of) (most_of_share to))

-- ---- rows of shares

same_number : (row other : ShareRow) → (other.id == row.id) ≡ true → share_key other ≡ share_key row
same_number row other same = ap (λ (n : ℕ). n ∷ []) (eqb-true other.id row.id same)

-- a share that is put is found
pub share_found : (row : ShareRow) (old : List ShareRow) → share_row (put share_key row old) row.id ≡ Some row
share_found row old =
    put_is_found share_key (λ (x : ShareRow). x.id == row.id) row old (eq-eqb row.id row.id refl) (same_number row)

share_differs : (t : Tables) (row : ShareRow) → share_row t.shares row.id ≢ Some row → made t (Put (rows.Share row)) ≢ t
share_differs t row other = λ same. other (sym (ap (λ (u : Tables). share_row u.shares row.id) same) ∙ share_found row t.shares)

mount_differs : (t : Tables) (row : MountRow) → mount_row t.mounts row.user row.node ≢ Some row → made t (Put (rows.Mount row)) ≢ t
mount_differs t row other = λ same. other (sym (ap (λ (u : Tables). mount_row u.mounts row.user row.node) same) ∙ mount_found row t.mounts)

-- mounts that are put once each, and aren't there so
abbrev pub AreMountsLean : Tables → List MountRow → Type 0
AreMountsLean t mounts =
    AllPairs (λ (a b : MountRow). is_mount_of a.user a.node b ≡ false) mounts × All (λ (m : MountRow). mount_row t.mounts m.user m.node ≢ Some m) mounts

abbrev pub Differs : Tables → Change → Type 0
Differs t change = made t change ≢ t

abbrev pub Once : Change → Change → Type 0
Once a b = changed_key a ≢ changed_key b

pub mounts_once : (mounts : List MountRow) → AllPairs (λ (a b : MountRow). is_mount_of a.user a.node b ≡ false) mounts
    → AllPairs Once (put_mounts mounts)
mounts_once mounts once i j d before within =
    let few : j < length mounts = omega (arith, within, length-map mounts (λ (row : MountRow). Put (rows.Mount row))) in
    here (get_or mounts i any) (get_or mounts j any) (get_or-map (λ (row : MountRow). Put (rows.Mount row)) mounts i any d (omega (arith, before, few)))
    (get_or-map (λ (row : MountRow). Put (rows.Mount row)) mounts j any d few) (once i j any before few)
  where
    any : MountRow
    any = record { user = 0; node = 0; name = []; left = false }

    same_users : {a b c d : ℕ} → keys.Mount a b ≡ keys.Mount c d → a ≡ c
    same_users same = cc

    same_nodes : {a b c d : ℕ} → keys.Mount a b ≡ keys.Mount c d → b ≡ d
    same_nodes same = cc

    here : (a b : MountRow) → get_or (put_mounts mounts) i d ≡ Put (rows.Mount a) → get_or (put_mounts mounts) j d ≡ Put (rows.Mount b)
        → is_mount_of a.user a.node b ≡ false → changed_key (get_or (put_mounts mounts) i d) ≢ changed_key (get_or (put_mounts mounts) j d)
    here a b first second off = λ same.
        let keys_same = sym (ap changed_key first) ∙ same ∙ ap changed_key second in
        both_ways (is_mount_of a.user a.node b) off
        (and_from (b.user == a.user) (b.node == a.node) (eq-eqb b.user a.user (sym (same_users keys_same)))
        (eq-eqb b.node a.node (sym (same_nodes keys_same))))

pub mounts_differ_all : (t : Tables) (mounts : List MountRow) → All (λ (m : MountRow). mount_row t.mounts m.user m.node ≢ Some m) mounts
    → All (Differs t) (put_mounts mounts)
mounts_differ_all t mounts other =
    All-map (Differs t) (λ row. Put (rows.Mount row)) mounts
    (All-weaker (λ (m : MountRow). mount_row t.mounts m.user m.node ≢ Some m) (λ (m : MountRow). Differs t (Put (rows.Mount m)))
    (mount_differs t) mounts other)

-- one change of no mount before them
pub lean_with : (t : Tables) (change : Change) (mounts : List MountRow) → ((m : MountRow) → changed_key change ≢ keys.Mount m.user m.node)
    → Differs t change → AreMountsLean t mounts → IsLean t (change ∷ put_mounts mounts)
lean_with t change mounts apart differs lean = record {
  once = AllPairs-cons Once change (put_mounts mounts)
      (All-map (Once change) (λ row. Put (rows.Mount row)) mounts (λ k d within. apart (get_or mounts k d))) (mounts_once mounts lean.0);
  differ = All-cons (Differs t) change (put_mounts mounts) differs (mounts_differ_all t mounts lean.1);
}

-- what is ensured is lean
pub ensured_lean : (t : Tables) (pairs : List (ℕ × ℕ)) → AreMountsLean t (ensured_all t.users t.nodes pairs t.mounts)
ensured_lean t pairs = (
  each_once t.users t.nodes pairs t.mounts,
  All-weaker (IsGivenNew t.users t.nodes t.mounts) (λ (m : MountRow). mount_row t.mounts m.user m.node ≢ Some m)
      (λ m is same. both_ways (is_mounted t.mounts m.user m.node) is.1
      (ap (λ (o : Option MountRow). option_map_or (λ (r : MountRow). not r.left) o false) same ∙ ap not is.0))
      (ensured_all t.users t.nodes pairs t.mounts) (each_new t.users t.nodes pairs t.mounts),
)

-- nothing is changed
pub nothing_known : (t : Tables) (now : ℕ) → KnownChange t now [] None
nothing_known t now = record {
  rows = no_more (raised t now [] None);
  lean = none_lean t;
  stored = λ none. refl;
  next = tt;
  next_user = omega arith;
  next_group = omega arith;
  next_node = omega arith;
  next_share = omega arith;
  next_blob = omega arith;
}

-- ---- a share that is there

pub other_known : (t : Tables) (now : ℕ) (row : ShareRow) → IsOtherShare t row → row.id < t.meta.next_share
    → KnownChange t now (Put (rows.Share row) ∷ []) None
other_known t now row is given =
    let up = raised t now (Put (rows.Share row) ∷ []) None in
    record {
      rows = one_more up (Put (rows.Share row)) []
          (refl, inr (record { old = is.old; there = is.there; same = is.same; other = is.other; lasts = is.lasts; of_node = is.of_node }, given))
          (no_more (made up (Put (rows.Share row))));
      lean = lean_with t (Put (rows.Share row)) [] (λ m same. absurd (cc))
          (share_differs t row (λ same. is.other (same_Some row is.old (sym same ∙ is.there))))
          (λ i j d before within. absurd (omega (arith, before, within)), All-nil (λ (m : MountRow). mount_row t.mounts m.user m.node ≢ Some m));
      stored = λ none. absurd (cc);
      next = tt;
      next_user = omega arith;
      next_group = omega arith;
      next_node = omega arith;
      next_share = omega (arith, given);
      next_blob = omega arith;
    }

-- a share that is found by its number, is sound and isn't ended
pub record IsThere (t : Tables) (user : ℕ) (row : ShareRow) : Type 0 where
  pub there : share_row t.shares row.id ≡ Some row
  pub sound : IsShareSound t row
  pub lasts : row.ended ≡ false
  pub by : is_steered_by user row ≡ true

-- what is found so is there
pub live_is : (test : ShareRow → Bool) (shares : List ShareRow) (share : ℕ) (row : ShareRow) → live_share test shares share ≡ Some row
    → (share_row shares share ≡ Some row) × (row.ended ≡ false) × (test row ≡ true)
live_is test shares share row is = here (share_row shares share) refl is
  where
    tested : (a b : Bool) (found : ShareRow) → (if not a && b then Some found else None) ≡ Some row → (a ≡ false) × (b ≡ true) × (found ≡ row)
    tested false true found is = (refl, refl, same_Some found row is)
    tested false false found is = absurd (none-some row is)
    tested true b found is = absurd (none-some row is)

    here : (o : Option ShareRow) → share_row shares share ≡ o
        → option_and_then (λ row. if not row.ended && test row then Some row else None) o ≡ Some row
        → (share_row shares share ≡ Some row) × (row.ended ≡ false) × (test row ≡ true)
    here None e is = absurd (none-some row is)
    here (Some found) e is =
        let passes = tested found.ended (test found) found is in
        subst (λ (r : ShareRow). (share_row shares share ≡ Some r) × (r.ended ≡ false) × (test r ≡ true)) passes.2 (e, passes.0, passes.1)

pub steered_there : (t : Tables) (user share : ℕ) (row : ShareRow) → AreSound t → live_share (is_steered_by user) t.shares share ≡ Some row → IsThere t user row
steered_there t user share row sound is =
    let live = live_is (is_steered_by user) t.shares share row is in
    let number : row.id ≡ share = eqb-true row.id share (found_passes (λ (x : ShareRow). x.id == share) t.shares row live.0) in
    let fine = subst (λ (o : Option ShareRow). IfSome o (IsShareSound t)) live.0
    (found_has (IsShareSound t) (λ (x : ShareRow). x.id == share) t.shares sound.others.shares) in
    record { there = subst (λ (n : ℕ). share_row t.shares n ≡ Some row) (sym number) live.0; sound = fine; lasts = live.1; by = live.2 }

pub ended_known : (t : Tables) (now user : ℕ) (row : ShareRow) → IsThere t user row → Known t now (share_ended row)
ended_known t now user row is =
    other_known t now (ended_row row)
    (record {
      old = row;
      there = is.there;
      same = refl;
      other = λ same. both_ways row.ended is.lasts (sym (ap (λ (r : ShareRow). r.ended) same));
      lasts = is.lasts;
      of_node = λ of there. let fine = is.sound.of_node of there in record { owner = fine.owner; no_root = fine.no_root; perms = fine.perms };
    }) is.sound.given

pub set_known : (t : Tables) (now user : ℕ) (wanted until : Option ℕ) (row : ShareRow) → IsThere t user row
    → Known t now (share_set t (perms_after t wanted row) until row)
set_known t now user wanted until row is = here (perms_after t wanted row == row.perms && same_end until row.until) refl
  where
    -- the same end is the same
    ends_same : (a b : Option ℕ) → a ≡ b → same_end a b ≡ true
    ends_same None b same = rw (sym same) refl
    ends_same (Some end) b same = rw (sym same) (eq-eqb end end refl)

    perms : ℕ
    perms = perms_after t wanted row

    fits : (of : NodeRow) → node_row t.nodes row.node ≡ Some of → (o : Option ℕ)
        → perms_of_share of.kind row.kind (perms_after t o row) ≡ perms_after t o row
    fits of there None = (is.sound.of_node of there).perms
    fits of there (Some w) =
        subst (λ (k : NodeKind). perms_of_share of.kind row.kind (perms_of_share k row.kind w) ≡ perms_of_share k row.kind w)
        (sym (ap (λ (o : Option NodeRow). option_map_or (λ row. row.kind) o kind_of_none) there)) (perms_once of.kind row.kind w)
      where
        kind_of_none : NodeKind
        kind_of_none = kind_of [] 0

    here : (b : Bool) → (perms == row.perms && same_end until row.until) ≡ b
        → KnownChange t now (if b then [] else Put (rows.Share (set_row perms until row)) ∷ []) None
    here true same = nothing_known t now
    here false other =
        other_known t now (set_row perms until row)
        (record {
          old = row;
          there = is.there;
          same = refl;
          other = λ same. both_ways (perms == row.perms && same_end until row.until) other
              (and_from (perms == row.perms) (same_end until row.until) (eq-eqb perms row.perms (ap (λ (r : ShareRow). r.perms) same))
              (ends_same until row.until (ap (λ (r : ShareRow). r.until) same)));
          lasts = is.lasts;
          of_node = λ of there. let fine = is.sound.of_node of there in
              record { owner = fine.owner; no_root = fine.no_root; perms = fits of there wanted };
        }) is.sound.given

-- ---- a call

pub found_any : {X : Type 0} (test : X → Bool) (xs : List X) → list_any test xs ≡ true → is_some (find test xs) ≡ true
found_any test [] any = absurd (cc)
found_any test (x ∷ xs) any = here (test x) any (λ any. found_any test xs any)
  where
    here : (b : Bool) → (b || list_any test xs) ≡ true → (list_any test xs ≡ true → is_some (find test xs) ≡ true)
        → is_some (if b then Some x else find test xs) ≡ true
    here true any rest = refl
    here false any rest = rest any

-- a user who has a name is there
pub named_there : (users : List UserRow) (name : List ℕ) (user : ℕ) → user_named users name ≡ Some user → is_some (user_row users user) ≡ true
named_there users name user is = here (find (λ (row : UserRow). bytes_eq row.name name) users) refl is
  where
    here : (o : Option UserRow) → find (λ (row : UserRow). bytes_eq row.name name) users ≡ o → option_map (λ row. row.id) o ≡ Some user
        → is_some (user_row users user) ≡ true
    here None e is = absurd (none-some user is)
    here (Some row) e is =
        let among = (find_among (λ (row : UserRow). bytes_eq row.name name) users row e).0 in
        found_any (λ (x : UserRow). x.id == user) users
        (list_any-from_Any (λ (x : UserRow). x.id == user) users
        (among.0, row, among.1, among.2, eq-eqb row.id user (same_Some row.id user is)))

-- so is a group
pub group_there : (groups : List GroupRow) (name : List ℕ) (group : ℕ) → group_named groups name ≡ Some group
    → list_any (λ row. row.id == group) groups ≡ true
group_there groups name group is = here (find (λ (row : GroupRow). bytes_eq row.name name) groups) refl is
  where
    here : (o : Option GroupRow) → find (λ (row : GroupRow). bytes_eq row.name name) groups ≡ o → option_map (λ row. row.id) o ≡ Some group
        → list_any (λ row. row.id == group) groups ≡ true
    here None e is = absurd (none-some group is)
    here (Some row) e is =
        let among = (find_among (λ (row : GroupRow). bytes_eq row.name name) groups row e).0 in
        list_any-from_Any (λ (x : GroupRow). x.id == group) groups
        (among.0, row, among.1, among.2, eq-eqb row.id group (same_Some row.id group is))

pub none_broken : (a b p c d e f : Bool)
    → (if a then Some rule.Root else if b then Some rule.SelfShare else if p then Some rule.Past else if c then Some rule.Already
    else if d then Some rule.Widened else if e then Some rule.Chain
    else if f then Some rule.TokenTaken else None) ≡ None
    → (a ≡ false) × (b ≡ false) × (p ≡ false) × (c ≡ false) × (d ≡ false) × (e ≡ false) × (f ≡ false)
none_broken false false false false false false false none = (refl, refl, refl, refl, refl, refl, refl)
none_broken a b p c d e f none = absurd (cc)

none_passed : (a b : Bool) (o : Option Limit) → (if a || b then Some limit.Shares else o) ≡ None → (a ≡ false) × (b ≡ false) × (o ≡ None)
none_passed false false o none = (refl, refl, none)
none_passed a b o none = absurd (cc)

-- so many mounts pass no limit
pub mounts_fit : (mounts more : List MountRow) → mount_limit mounts more ≡ None → length mounts + new_count mounts more ≤ MAX_MOUNTS
mounts_fit mounts more none = ltb-false _ _ (here (nat_lt MAX_MOUNTS (length mounts + new_count mounts more)) none)
  where
    here : (b : Bool) → (if b then Some limit.Mounts else None) ≡ None → b ≡ false
    here false none = refl
    here true none = absurd (cc)

module _ (call : Call) (user : UserRow) (sound : AreSound call.state.tables) (is : caller_row call ≡ Some user) where
  abbrev t : Tables
  t = call.state.tables

  asker_there : is_some (user_row t.users (asker_of call)) ≡ true
  asker_there =
      ap (λ (o : Option UserRow). is_some (user_row t.users (option_map_or (λ row. row.id) o 0))) is
      ∙ ap is_some (row_of_caller t.users (user_of call) user is).1

  -- ---- what a new share stands on

  parent_there : (offer : Offer) (parent : ℕ) → parent_for (access_of call.state) call offer ≡ Some parent → is_some (share_row t.shares parent) ≡ true
  parent_there offer parent found = by_mount offer.mount found
    where
      of_grants : (mount : ℕ) (o : Option Grant)
          → find (passes_on call.now offer.perms) (by_chains (ground_of t) (seeker_of call) mount) ≡ o
          → option_map (λ grant. grant.share) o ≡ Some parent → is_some (share_row t.shares parent) ≡ true
      of_grants mount None e got = absurd (none-some parent got)
      of_grants mount (Some grant) e got =
          let among = (find_among _ (by_chains (ground_of t) (seeker_of call) mount) grant e).0 in
          let any = list_any-from_Any (λ (g : Grant). g.share == parent) (by_chains (ground_of t) (seeker_of call) mount)
          (among.0, grant, among.1, among.2, eq-eqb grant.share parent (same_Some grant.share parent got)) in
          let by = (any_is (λ (g : Grant). g.share == parent) (ground_of t) (seeker_of call) mount (bounded t sound)).0 any in
          subst (λ (n : ℕ). is_some (share_row t.shares n) ≡ true) (eqb-true by.0.id parent by.4)
          (ap is_some (own_row t.shares by.0 by.1 by.2))

      by_mount : (mount : Option ℕ)
          → option_and_then (λ mount. option_map (λ grant. grant.share)
          (find (passes_on call.now offer.perms) (by_chains (ground_of t) (seeker_of call) mount))) mount ≡ Some parent
          → is_some (share_row t.shares parent) ≡ true
      by_mount None got = absurd (none-some parent got)
      by_mount (Some mount) got = of_grants mount _ refl got

  stands_on : (offer : Offer) → is_widened (access_of call.state) call offer ≡ false
      → is_long t.shares (parent_by (access_of call.state) call offer) ≡ false
      → StandsOn t (new_share (access_of call.state) call offer) (parent_by (access_of call.state) call offer)
  stands_on offer fits short = here (is_own call offer) refl fits short
    where
      access : Access
      access = access_of call.state

      own : is_own call offer ≡ true → asker_of call ≡ owner_of t.nodes offer.node
      own holds = by_row (node_row t.nodes offer.node)
          (subst (λ (s : Seeker). is_owner t.nodes s offer.node ≡ true) (user_seeks call user is) holds)
        where
          by_row : (o : Option NodeRow) → option_map_or (λ row. row.owner == asker_of call) o false ≡ true
              → asker_of call ≡ option_map_or (λ row. row.owner) o 0
          by_row None holds = absurd (cc)
          by_row (Some row) holds = sym (eqb-true row.owner (asker_of call) holds)

      passed : (o : Option ℕ) → parent_for access call offer ≡ o → (not false && is_none o) ≡ false → is_long t.shares o ≡ false
          → StandsOn t (new_share access call offer) o
      passed None e fits short = absurd (cc)
      passed (Some parent) e fits short =
          (parent_there offer parent e, leb-false MAX_CHAIN (length (chain_of t.shares parent)) short)

      here : (b : Bool) → is_own call offer ≡ b → (not b && is_none (parent_for access call offer)) ≡ false
          → is_long t.shares (if b then None else parent_for access call offer) ≡ false
          → StandsOn t (new_share access call offer) (if b then None else parent_for access call offer)
      here true e fits short = own e
      here false e fits short = passed (parent_for access call offer) refl fits short

  -- ---- a new share, with the mounts that are put with it

  module _ (mount wanted until : Option ℕ) (node : ℕ) (to : Receiver) (of : NodeRow) (there : node_row t.nodes node ≡ Some of)
      (present : LeadsToRoot t.nodes node)
      (known : IsKindSound t (kind_to (link_token call.words) to))
      (fits : offer_fault (access_of call.state) call (offer_of t.nodes (link_token call.words) mount wanted until node to) ≡ None)
      (few : offer_limit t (offer_of t.nodes (link_token call.words) mount wanted until node to) ≡ None) where
    abbrev token : List ℕ
    token = link_token call.words

    abbrev offer : Offer
    offer = offer_of t.nodes token mount wanted until node to

    abbrev row : ShareRow
    row = new_share (access_of call.state) call offer

    abbrev pairs : List (ℕ × ℕ)
    pairs = map (λ user. (user, node)) (users_for t.members (owner_of t.nodes node) to)

    abbrev mounts : List MountRow
    mounts = ensured_all t.users t.nodes pairs t.mounts

    faults : (is_root t.nodes node ≡ false) × (is_self_share row row.kind ≡ false) × (is_past call.now until ≡ false)
        × (list_any (is_again row call.now) t.shares ≡ false) × (is_widened (access_of call.state) call offer ≡ false)
        × (is_long t.shares row.parent ≡ false) × (is_token_taken t.shares row.kind ≡ false)
    faults = none_broken _ _ _ _ _ _ _ fits

    limits : (nat_lt MAX_SHARES (length t.shares + 1) ≡ false) × (nat_lt last_number (t.meta.next_share + 1) ≡ false)
        × (mount_limit t.mounts mounts ≡ None)
    limits = none_passed _ _ _ few

    of_node : IsOfNode row of
    of_node = record {
      owner = sym (ap (λ (o : Option NodeRow). option_map_or (λ row. row.owner) o 0) there);
      no_root = sym (ap (λ (o : Option NodeRow). option_map_or (λ row. is_root_place row.place) o false) there) ∙ faults.0;
      perms = ap (λ (k : NodeKind). perms_of_share k row.kind row.perms) kind_is ∙ perms_once (kind_of t.nodes node) row.kind _;
    }
      where
        kind_is : of.kind ≡ kind_of t.nodes node
        kind_is = sym (ap (λ (o : Option NodeRow). option_map_or (λ row. row.kind) o (kind_of [] 0)) there)

    -- whom it is for: somebody else who is there
    abbrev IsOther : ℕ → Type 0
    IsOther user = (of.owner ≢ user) × (is_some (user_row t.users user) ≡ true)

    others_of : (to : Receiver) → IsKindSound t (kind_to token to) → is_self_share row (kind_to token to) ≡ false
        → All IsOther (users_for t.members (owner_of t.nodes node) to)
    others_of (receiver.User user) there other =
        All-cons IsOther user [] (
          λ same. both_ways (user == row.owner) (either (user == row.initiator) (user == row.owner) other)
              (eq-eqb user row.owner (sym same ∙ of_node.owner)),
          there,
        ) (All-nil IsOther)
      where
        either : (a b : Bool) → (a || b) ≡ false → b ≡ false
        either false b h = h
        either true b h = absurd (cc)
    others_of (receiver.Group group) there other =
        let owner : ℕ = owner_of t.nodes node in
        let all : List ℕ = members_of t.members group in
        λ k d within. (
          λ same. both_ways (get_or (users_for t.members owner (receiver.Group group)) k d == owner)
              (not-true _ (filter_passes (λ (user : ℕ). not (user == owner)) all k d within))
              (eq-eqb _ owner (sym same ∙ of_node.owner)),
          All-filter (λ (user : ℕ). not (user == owner)) (λ (user : ℕ). is_some (user_row t.users user) ≡ true) all
              (All-map (λ (user : ℕ). is_some (user_row t.users user) ≡ true) (λ (m : MemberRow). m.user)
              (filter (λ (m : MemberRow). m.group == group) t.members)
              (All-filter (λ (m : MemberRow). m.group == group) (λ (m : MemberRow). is_some (user_row t.users m.user) ≡ true) t.members
              sound.members_there)) k d within,
        )
    others_of receiver.Link there other = All-nil IsOther

    mountable : (u : Tables) → u.nodes ≡ t.nodes → u.users ≡ t.users → All (IsMountable u) pairs
    mountable u nodes users =
        All-map (IsMountable u) (λ (user : ℕ). (user, node)) (users_for t.members (owner_of t.nodes node) to)
        (All-weaker IsOther (λ (user : ℕ). IsMountable u (user, node))
        (λ user is. record {
          node = of;
          there = ap (λ (r : List NodeRow). node_row r node) nodes ∙ there;
          others = is.0;
          user = ap (λ (r : List UserRow). is_some (user_row r user)) users ∙ is.1;
        }) (users_for t.members (owner_of t.nodes node) to) (others_of to known faults.1))

    is_new : (up : Tables) → up.nodes ≡ t.nodes → up.users ≡ t.users → up.groups ≡ t.groups → up.shares ≡ t.shares
        → t.meta.next_share < up.meta.next_share → call.now ≤ up.meta.last → IsNewShare up row
    is_new up nodes users groups shares given made = record {
      newest = rw shares
          (All-weaker (IsShareSound t) (λ (old : ShareRow). old.id < row.id) (λ old s. s.given) t.shares sound.others.shares);
      given = given;
      made = made;
      live = refl;
      node = of;
      there = rw nodes there;
      present = rw nodes present;
      of_node = of_node;
      initiator = rw users asker_there;
      kind = kind_in to known;
      token = rw shares faults.6;
      on = rw shares on;
      few = rw shares (ltb-false _ _ limits.0);
    }
      where
        on : StandsOn t row row.parent
        on = stands_on offer faults.4 faults.5

        kind_in : (to : Receiver) → IsKindSound t (kind_to token to) → IsKindSound up (kind_to token to)
        kind_in (receiver.User user) is = rw users is
        kind_in (receiver.Group group) is = rw groups is
        kind_in receiver.Link is = tt

    fresh : share_row t.shares row.id ≢ Some row
    fresh same =
        let given = subst (λ (o : Option ShareRow). IfSome o (λ (old : ShareRow). old.id < row.id)) same
        (found_has (λ (old : ShareRow). old.id < row.id) (λ (old : ShareRow). old.id == row.id) t.shares
        (All-weaker (IsShareSound t) (λ (old : ShareRow). old.id < row.id) (λ old s. s.given) t.shares sound.others.shares)) in
        absurd (omega (arith, given))

    -- mounts have no number of their own
    counted_mounts : (meta : MetaRow) (mounts : List MountRow) → counted meta (put_mounts mounts) ≡ meta
    counted_mounts meta [] = refl
    counted_mounts meta (m ∷ mounts) = counted_mounts meta mounts

    pub made_known : Known t call.now (share_made (access_of call.state) call offer)
    made_known =
        let changes : List Change = Put (rows.Share row) ∷ put_mounts mounts in
        let up = raised t call.now changes None in
        let meta : counted t.meta changes ≡ record t.meta { next_share = max t.meta.next_share (row.id + 1) } =
        counted_mounts (record t.meta { next_share = max t.meta.next_share (row.id + 1) }) mounts in
        let higher : t.meta.next_share < up.meta.next_share = rw meta (omega arith) in
        record {
          rows = one_more up (Put (rows.Share row)) (put_mounts mounts)
              (refl, inl (is_new up refl refl refl refl higher (le_refl _), le_refl _))
              (ensured_known t (made up (Put (rows.Share row))) pairs sound.few_nodes sound.others.mounts_rise
              (mountable (made up (Put (rows.Share row))) refl refl) (mounts_fit t.mounts mounts limits.2));
          lean = lean_with t (Put (rows.Share row)) mounts (λ m same. absurd (cc)) (share_differs t row fresh) (ensured_lean t pairs);
          stored = λ none. absurd (cc);
          next = tt;
          next_user = rw meta (omega arith);
          next_group = rw meta (omega arith);
          next_node = rw meta (omega arith);
          next_share = rw meta (omega (arith, ltb-false _ _ limits.1));
          next_blob = omega arith;
        }

  -- ---- what is asked

  -- who has that name is there
  receiver_there : (to : Sharee) (by : Receiver) → receiver_named t to ≡ Some by → IsKindSound t (kind_to (link_token call.words) by)
  receiver_there (sharee.User name) by is = here (user_named t.users name) refl is
    where
      here : (o : Option ℕ) → user_named t.users name ≡ o → option_map receiver.User o ≡ Some by → IsKindSound t (kind_to (link_token call.words) by)
      here None e is = absurd (none-some by is)
      here (Some user) e is =
          subst (λ (r : Receiver). IsKindSound t (kind_to (link_token call.words) r)) (same_Some (receiver.User user) by is) (named_there t.users name user e)
  receiver_there (sharee.Group name) by is = here (group_named t.groups name) refl is
    where
      here : (o : Option ℕ) → group_named t.groups name ≡ o → option_map receiver.Group o ≡ Some by → IsKindSound t (kind_to (link_token call.words) by)
      here None e is = absurd (none-some by is)
      here (Some group) e is =
          subst (λ (r : Receiver). IsKindSound t (kind_to (link_token call.words) r)) (same_Some (receiver.Group group) by is) (group_there t.groups name group e)
  receiver_there sharee.Link by is =
      subst (λ (r : Receiver). IsKindSound t (kind_to (link_token call.words) r)) (same_Some receiver.Link by is) tt

  offer_known : (spot : Spot) (name : Sharee) (wanted until : Option ℕ) → unreached (access_of call.state) call (way_of call spot) ≡ None
      → option_and_then (offer_fault (access_of call.state) call) (offered call spot name wanted until) ≡ None
      → option_and_then (offer_limit t) (offered call spot name wanted until) ≡ None
      → Known t call.now (option_map_or (share_made (access_of call.state) call) (offered call spot name wanted until) nothing_done)
  offer_known spot name wanted until reached fits few = here (found call spot) (receiver_named t name) refl refl fits few
    where
      of : Found → Option Receiver → Option Offer
      of place to =
          option_and_then (λ node. option_map (offer_of t.nodes (link_token call.words) (way_of call spot).mount wanted until node) to) (node_found place)

      here : (place : Found) (to : Option Receiver) → found call spot ≡ place → receiver_named t name ≡ to
          → option_and_then (offer_fault (access_of call.state) call) (of place to) ≡ None → option_and_then (offer_limit t) (of place to) ≡ None
          → Known t call.now (option_map_or (share_made (access_of call.state) call) (of place to) nothing_done)
      here (At node) (Some to) leads named fits few =
          let row = way_there call spot sound (by_user user is) node reached leads in
          made_known (way_of call spot).mount wanted until node to row.0 row.1 (node_present call spot sound (by_user user is) node reached leads)
          (receiver_there name to named) fits few
      here (At node) None leads named fits few = nothing_known t call.now
      here (Free folder) to leads named fits few = nothing_known t call.now
      here (Missing depth) to leads named fits few = nothing_known t call.now

  steered_known : (share : ℕ) (act : ShareRow → Allowed)
      → ((row : ShareRow) → IsThere t (asker_of call) row → Known t call.now (act row))
      → Known t call.now (option_map_or act (share_steered call share) nothing_done)
  steered_known share act fits = here (share_steered call share) refl
    where
      here : (o : Option ShareRow) → share_steered call share ≡ o → Known t call.now (option_map_or act o nothing_done)
      here None e = nothing_known t call.now
      here (Some row) e = fits row (steered_there t (asker_of call) share row sound e)

  pub asks_known : (places : Places) (asked : ShareAsk)
      → ((spot : Spot) → (asked_about asked).source ≡ Some spot → unreached (access_of call.state) call (way_of call spot) ≡ None)
      → fault_of_ask (access_of call.state) call asked ≡ None → limit_of_ask call asked ≡ None
      → Known t call.now (shared (access_of call.state) call places asked)
  asks_known places (ask.New spot name wanted until) reached fits few = offer_known spot name wanted until (reached spot refl) fits few
  asks_known places (ask.List spot with_me) reached fits few = nothing_known t call.now
  asks_known places (ask.Show share) reached fits few = here (share_shown call share)
    where
      here : (o : Option ShareRow) → Known t call.now (option_map_or (share_told t []) o nothing_done)
      here None = nothing_known t call.now
      here (Some it) = nothing_known t call.now
  asks_known places (ask.Set share wanted until) reached fits few =
      steered_known share (λ row. share_set t (perms_after t wanted row) (until_after until row.until) row)
      (λ row there. set_known t call.now (asker_of call) wanted (until_after until row.until) row there)
  asks_known places (ask.End share) reached fits few = steered_known share share_ended (λ row there. ended_known t call.now (asker_of call) row there)
