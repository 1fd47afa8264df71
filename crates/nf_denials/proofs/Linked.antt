-- Whoever asks by a link, or stores by one, receives the share that the link is.
use Rattle.std.proofs.Common.{◌≡◌, ◌==◌, ◌&&◌, ℕ, Bool, true, false, inl, inr, List, [], Option, None, Some, if◌then◌else◌, refl, sym, ap, ◌∙◌, subst}
use Rattle.std.specs.Prelude.{Contains, option_and_then}
use Rattle.std.specs.List.{All}
use Rattle.std.specs.Option.{IfSome, option_map_or}
use Rattle.std.proofs.lemmas.Bool.{and_from, both_ways, eq-eqb, eqb-true, false≢true}
use Rattle.std.proofs.lemmas.List.Elements.{All-append, All-cons, All-contains, All-nil}
use Rattle.std.proofs.lemmas.Option.{same_Some}
use Rattle.nf_access.proofs.LookUps.{find_among}
use Rattle.nf_access.specs.Broken.{first_received}
use Rattle.nf_access.specs.Shares.{ground_of, is_link, receives}
use Rattle.nf_base.specs.declared.perms.Act.{Act}
use Rattle.nf_base.specs.declared.perms.Act.TheVariants.{Create, Update}
use Rattle.nf_base.specs.declared.rows.ShareRow.{ShareRow}
use Rattle.nf_defs.specs.Prelude.{Tables}
use Rattle.nf_defs.specs.declared.Seeker.{Seeker}
use Rattle.nf_defs.specs.declared.Seeker.TheVariants.{Link}
use Rattle.nf_laws.proofs.Rows.{each_fails}
use Rattle.nf_words.proofs.Ends.{goal_sound}
use Rattle.nf_words.proofs.Starts.{link_mount, link_seeks, only_files}
use Rattle.nf_words.specs.Calls.{link_by}
use Rattle.nf_words.specs.Prelude.{access_of, allowed_of, Call, call_of, caller_row, folder_for, is_about_files, is_by_link, is_itself, IsGoalSound, link_of, mount_of, Need, needed, needed_by, needed_for, needs, needs_at, needs_in, node_found, node_of_key, refusal_of, root_of, seeker_of, State, Way, way_of}
use Rattle.nf_words.specs.Sound.{MayStoreBy}
use Rattle.nf_words.specs.declared.answer.By.{By}
use Rattle.nf_words.specs.declared.answer.Denial.TheVariants.{NoShare}
use Rattle.nf_words.specs.declared.answer.Goal.{Goal}
use Rattle.nf_words.specs.declared.answer.LockKey.{LockKey}
use Rattle.nf_words.specs.declared.answer.LockKey.TheVariants.{Node, Slot}
use Rattle.nf_words.specs.declared.request.Caller.{Caller}
use Rattle.nf_words.specs.declared.request.Caller.TheVariants as caller
use Rattle.nf_words.specs.declared.request.Spot.{Spot}
use Rattle.nf_words.specs.declared.request.Wanted.{Wanted}
use Rattle.nf_words.specs.declared.request.Wanted.TheVariants.{Version}
use Rattle.nf_denials.proofs.Begins.{begins_tell, by_token, itself_is, mount_is, refused_so}
use Rattle.nf_denials.proofs.Ends.{ends_tell}
use Rattle.nf_denials.proofs.Needs.{each_need}
use Rattle.nf_denials.specs.Laws.{all_needed, IsKeptOut, IsShut, IsShutBy, IsUnmet, LinksTellTheirChain}

-- a share that is there is received on its node by whoever it is a link for
first_some : (t : Tables) (share : ShareRow) → Contains t.shares share
    → first_received t.members t.shares (Link share.id) share.node ≡ None → ⊥
first_some t share among none =
    let takes : ShareRow → Bool = λ row. row.node == share.node && receives t.members (Link share.id) row in
    both_ways (takes share)
    (All-contains (λ (row : ShareRow). takes row ≡ false) t.shares share (each_fails takes t.shares none) among)
    (and_from (share.node == share.node) (share.id == share.id) (eq-eqb share.node share.node refl) (eq-eqb share.id share.id refl))

-- so who is shut out by it is told more than that there is no share
told_more : (t : Tables) (now : ℕ) (share : ShareRow) (who : Seeker) (act : Option Act) (mount : ℕ) → Contains t.shares share
    → who ≡ Link share.id → mount ≡ share.node → IsShut (ground_of t) now who act mount NoShare → ⊥
told_more t now share who act mount among by at shut =
    first_some t share among
    (subst (λ (n : ℕ). first_received t.members t.shares (Link share.id) n ≡ None) at
    (subst (λ (w : Seeker). first_received t.members t.shares w mount ≡ None) by shut.told))

-- also of an act, where all that is needed goes by that node
no_need : (s : State) (now : ℕ) (share : ShareRow) (who : Seeker) (all : List Need) → Contains s.tables.shares share → who ≡ Link share.id
    → All (λ (need : Need). need.mount ≡ Some share.node) all → IsUnmet s now who all NoShare → ⊥
no_need s now share who all among by each unmet =
    let need = unmet.need in
    told_more s.tables now share who (Some need.act) share.node among by refl
    (subst (λ (mount : Option ℕ). IsShutBy (ground_of s.tables) now who need.act mount NoShare)
    (All-contains (λ (need : Need). need.mount ≡ Some share.node) all need each unmet.among) unmet.shut)

-- ---- requests

-- who shows the token of a link asks by it, and the link is there
record IsByLink (call : Call) (share : ShareRow) : Type 0 where
  by : is_by_link call.request.caller ≡ true
  among : Contains call.state.tables.shares share

by_link_is : (call : Call) (share : ShareRow) → link_of call ≡ Some share → IsByLink call share
by_link_is call share is = here call.request.caller refl is
  where
    here : (who : Caller) → call.request.caller ≡ who → link_by call.state who ≡ Some share → IsByLink call share
    here caller.Absent same is = absurd (cc)
    here (caller.Token digest) same is = absurd (cc)
    here (caller.Link token) same is = record {
      by = ap is_by_link same;
      among = (find_among (λ (row : ShareRow). is_link token row.kind) call.state.tables.shares share is).0;
    }

module _ (call : Call) (share : ShareRow) (is : link_of call ≡ Some share) where
  by : is_by_link call.request.caller ≡ true
  by = (by_link_is call share is).by

  among : Contains call.state.tables.shares share
  among = (by_link_is call share is).among

  seeks : seeker_of call ≡ Link share.id
  seeks = link_seeks call by ∙ ap (λ (o : Option ShareRow). Link (option_map_or (λ row. row.id) o 0)) is

  from : root_of call ≡ share.node
  from = ap (λ (o : Option ShareRow). option_map_or (λ row. row.node) o (option_map_or (λ row. row.root) (caller_row call) 0)) is

  mounts : (spot : Spot) → mount_of call spot ≡ Some share.node
  mounts spot = link_mount call spot by ∙ ap Some from

  -- each path goes by the node of the link
  goes_by : (spot : Option Spot) (mount : ℕ) → option_and_then (mount_of call) spot ≡ Some mount → mount ≡ share.node
  goes_by None mount goes = absurd (cc)
  goes_by (Some spot) mount goes = same_Some mount share.node (sym goes ∙ mounts spot)

  let_in : IsKeptOut call NoShare → ⊥
  let_in out =
      told_more call.state.tables call.now share (seeker_of call) None out.mount among seeks
      (elim out.goes [ inl source ↦ goes_by _ out.mount source | inr target ↦ goes_by _ out.mount target ]) out.shut

  abbrev GoesByIt : Need → Type 0
  GoesByIt need = need.mount ≡ Some share.node

  needs_by : (act : Act) (node mount : Option ℕ) → mount ≡ Some share.node → All GoesByIt (needs act node mount)
  needs_by act None mount goes = All-nil GoesByIt
  needs_by act (Some node) mount goes = All-cons GoesByIt (record { act = act; node = node; mount = mount }) [] goes (All-nil GoesByIt)

  module _ (spot : Spot) where
    abbrev way : Way
    way = way_of call spot

    goes : way.mount ≡ Some share.node
    goes = mount_is call.state.tables.nodes (seeker_of call) (root_of call) spot.path (mount_of call spot) ∙ mounts spot

    at_by : (act : Act) → All GoesByIt (needs_at act way)
    at_by act = needs_by act (node_found way.place) way.mount goes

    itself : way.itself ≡ false
    itself =
        itself_is call.state.tables.nodes (seeker_of call) (root_of call) spot.path (mount_of call spot) share.node (mounts spot)
        ∙ ap (λ (who : Seeker). is_itself who spot.path) seeks

    in_by : All GoesByIt (needs_in call.state.tables.nodes (root_of call) way)
    in_by =
        needs_by Create (folder_for call.state.tables.nodes (root_of call) way) (if way.itself then None else way.mount)
        (ap (λ (b : Bool). if b then None else way.mount) itself ∙ goes)

  -- of versions nothing is asked
  no_version : (wanted : Wanted) → is_about_files wanted ≡ true → All GoesByIt (needed_for (access_of call.state) call wanted)
  no_version (Version asked) files = absurd (false≢true files)
  no_version other files = All-nil GoesByIt

  may_all : is_about_files call.request.wanted ≡ true → IsUnmet call.state call.now (seeker_of call) (all_needed call) NoShare → ⊥
  may_all files =
      no_need call.state call.now share (seeker_of call) (all_needed call) among seeks
      (All-append GoesByIt (needed call) (needed_for (access_of call.state) call call.request.wanted) (each_need call GoesByIt at_by in_by)
      (no_version call.request.wanted files))

  -- who isn't refused for the token asks about files
  about_files : refusal_of (access_of call.state) call ≡ Some NoShare → is_about_files call.request.wanted ≡ true
  about_files is = only_files call (by_token (access_of call.state) call NoShare refl is) by

-- ---- bodies

-- the link by which somebody stores, and the mount, which is its node
record StoresBy (t : Tables) (link : ℕ) (mount : Option ℕ) : Type 0 where
  share : ShareRow
  among : Contains t.shares share
  id : share.id ≡ link
  at : mount ≡ Some share.node

stores_by : (t : Tables) (link : ℕ) (mount : Option ℕ) (node : ℕ) → MayStoreBy t (Link link) mount node → StoresBy t link mount
stores_by t link None node may = absurd may
stores_by t link (Some mount) node may =
    let found = find_among (λ (row : ShareRow). row.id == link) t.shares may.row may.there in
    record { share = may.row; among = found.0; id = eqb-true may.row.id link found.1; at = ap Some (sym may.leads) }

-- what is needed goes by it
stored_by : (by : By) (key : LockKey) (mount : ℕ) → by.mount ≡ Some mount → All (λ (need : Need). need.mount ≡ Some mount) (needed_by by key)
stored_by by (Node node) mount at =
    All-cons (λ (need : Need). need.mount ≡ Some mount) (record { act = Update; node = node; mount = by.mount }) [] at (All-nil (λ (need : Need). need.mount ≡ Some mount))
stored_by by (Slot folder name) mount at =
    All-cons (λ (need : Need). need.mount ≡ Some mount) (record { act = Create; node = folder; mount = by.mount }) [] at (All-nil (λ (need : Need). need.mount ≡ Some mount))

-- ---- both

pub links_tell : LinksTellTheirChain
links_tell = record {
  begins = λ s seat now words request share sound is refused.
      let call = call_of s seat now words request in
      elim (begins_tell s seat now words request NoShare sound refused refl) [
        | inl out ↦ let_in call share is out
        | inr unmet ↦ may_all call share is (about_files call share is (refused_so _ (allowed_of (access_of s) call) NoShare refused)) unmet
      ];
  ends = λ s seat now link by key wanted outcome sound goal who refused.
      let may = subst (λ (o : Option Goal). IfSome o (IsGoalSound s.tables)) goal (goal_sound s seat sound) in
      let stores = stores_by s.tables link by.mount (node_of_key key)
      (subst (λ (w : Seeker). MayStoreBy s.tables w by.mount (node_of_key key)) who may.1) in
      let seeks : by.seeker ≡ Link stores.share.id = who ∙ ap Link (sym stores.id) in
      elim (ends_tell s seat now by key wanted outcome NoShare sound goal refused refl) [
        | inl out ↦
            told_more s.tables now stores.share by.seeker None out.mount stores.among seeks
            (same_Some out.mount stores.share.node (sym out.goes ∙ stores.at)) out.shut
        | inr unmet ↦ no_need s now stores.share by.seeker (needed_by by key) stores.among seeks (stored_by by key stores.share.node stores.at) unmet
      ];
}
