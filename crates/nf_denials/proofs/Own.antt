-- What a request needs by no mount, which is at what is the caller's own.
use Rattle.std.proofs.Common.{◌≡◌, ◌==◌, ◌||◌, ℕ, Bool, true, false, [], Option, None, Some, if◌then◌else◌, refl, sym, ap, ◌∙◌, subst}
use Rattle.std.specs.Prelude.{is_some}
use Rattle.std.specs.List.{All, list_any}
use Rattle.std.specs.Option.{option_map_or, option_or}
use Rattle.std.proofs.lemmas.Bool.{and_parts, false≢true}
use Rattle.std.proofs.lemmas.List.Elements.{All-cons, All-nil}
use Rattle.std.proofs.lemmas.Option.{none-some, same_Some}
use Rattle.nf_access.specs.Access.{allows}
use Rattle.nf_base.specs.declared.perms.Act.{Act}
use Rattle.nf_base.specs.declared.perms.Act.TheVariants.{Create}
use Rattle.nf_base.specs.declared.rows.UserRow.{UserRow}
use Rattle.nf_defs.specs.Prelude.{found_from, is_rooted, parent_of, Tables}
use Rattle.nf_defs.specs.declared.Found.{Found}
use Rattle.nf_defs.specs.declared.Found.TheVariants.{At, Free, Missing}
use Rattle.nf_defs.specs.declared.Seeker.TheVariants.{User}
use Rattle.nf_laws.proofs.May.{own_may}
use Rattle.nf_laws.proofs.Paths.{IsOf, found_free, found_leads, leads_own, root_own}
use Rattle.nf_laws.proofs.Rows.{parent_there}
use Rattle.nf_laws.specs.Access.{Owns}
use Rattle.nf_words.proofs.Passing.{if_none}
use Rattle.nf_words.proofs.Starts.{row_of_caller, user_root, user_seeks}
use Rattle.nf_words.specs.Places.{folder_seen}
use Rattle.nf_words.specs.Prelude.{access_of, act_asked, AreSound, asker_of, Call, call_of, caller_row, granting_above, is_owner, may_by, mount_above, mount_by, mount_of, Need, needed_for, needs, needs_at, needs_in, node_asked, node_found, root_of, seeker_of, unnamed_by, user_of, Way, way_by, way_of}
use Rattle.nf_words.specs.declared.answer.Denial.TheVariants as denial
use Rattle.nf_words.specs.declared.request.Spot.{Spot}
use Rattle.nf_words.specs.declared.request.Wanted.{Wanted}
use Rattle.nf_words.specs.declared.request.Wanted.TheVariants.{Version}
use Rattle.nf_denials.proofs.Needs.{each_need}
use Rattle.nf_denials.specs.Laws.{IsMetByNone, OwnIsNotRefused}

module _ (call : Call) (user : UserRow) (sound : AreSound call.state.tables) (known : caller_row call ≡ Some user) where
  abbrev t : Tables
  t = call.state.tables

  -- the caller's own may be used by the caller for whatever act
  abbrev Met : Need → Type 0
  Met need = IsMetByNone call need

  own_root : IsOf t user.id (root_of call)
  own_root =
      subst (IsOf t user.id) (sym (user_root call user known)) (root_own t user sound (row_of_caller t.users (user_of call) user known).1)

  own_met : (act : Act) (node : ℕ) (mount : Option ℕ) → IsOf t user.id node
      → may_by (access_of call.state) t.nodes (seeker_of call) call.now act node mount ≡ true
  own_met act node mount own =
      let asker : asker_of call ≡ user.id = ap (λ (o : Option UserRow). option_map_or (λ row. row.id) o 0) known in
      let owns : Owns t.nodes (seeker_of call) node = record { row = own.row; there = own.there; owner = user_seeks call user known ∙ ap User (asker ∙ sym own.owner) } in
      own_may (access_of call.state) t.nodes (seeker_of call) call.now act node mount owns

  -- what is met where it is by no mount
  needs_met : (act : Act) (node : Option ℕ) (mount : Option ℕ) → (mount ≡ None → (n : ℕ) → node ≡ Some n → IsOf t user.id n)
      → All Met (needs act node mount)
  needs_met act None mount own = All-nil Met
  needs_met act (Some node) mount own =
      All-cons Met (record { act = act; node = node; mount = mount }) []
      (λ none. own_met act node mount (own none node refl)) (All-nil Met)

  -- where a way by no mount leads
  module _ (spot : Spot) where
    abbrev way : Way
    way = way_of call spot

    -- its place is where the path leads from the root
    by_none : way.mount ≡ None → way.place ≡ found_from t.nodes 0 (root_of call) spot.path
    by_none none = here (mount_of call spot) none
      where
        here : (mount : Option ℕ) → (way_by t.nodes (seeker_of call) (root_of call) spot.path mount).mount ≡ None
            → (way_by t.nodes (seeker_of call) (root_of call) spot.path mount).place ≡ found_from t.nodes 0 (root_of call) spot.path
        here None none = refl
        here (Some node) none = absurd (none-some node (sym none))

    own_at : way.mount ≡ None → (node : ℕ) → way.place ≡ At node → IsOf t user.id node
    own_at none node at =
        leads_own t user.id (root_of call) spot.path node sound
        (found_leads t (root_of call) spot.path node sound (sym (by_none none) ∙ at)) own_root

    own_found : way.mount ≡ None → (node : ℕ) → node_found way.place ≡ Some node → IsOf t user.id node
    own_found none node is = here way.place refl is
      where
        here : (place : Found) → way.place ≡ place → node_found place ≡ Some node → IsOf t user.id node
        here (At other) e is = subst (IsOf t user.id) (same_Some other node is) (own_at none other e)
        here (Free folder) e is = absurd (none-some node is)
        here (Missing depth) e is = absurd (none-some node is)

    at_met : (act : Act) → All Met (needs_at act way)
    at_met act = needs_met act (node_found way.place) way.mount own_found

    own_folder : way.mount ≡ None → (node : ℕ) → option_or (folder_seen t.nodes (root_of call) way.place) (node_found way.place) ≡ Some node → IsOf t user.id node
    own_folder none node is = here way.place refl is
      where
        above : (at : ℕ) (parent : Option ℕ) → way.place ≡ At at → parent_of t.nodes at ≡ parent → option_or parent (Some at) ≡ Some node
            → IsOf t user.id node
        above at None e f is = subst (IsOf t user.id) (same_Some at node is) (own_at none at e)
        above at (Some parent) e f is =
            let own = own_at none at e in
            let folder = parent_there t at parent own.row sound own.there f in
            subst (IsOf t user.id) (same_Some parent node is) (record { row = folder.0; there = folder.1; owner = folder.3 ∙ own.owner })

        seen : (at : ℕ) (start : Bool) → way.place ≡ At at → option_or (if start then None else parent_of t.nodes at) (Some at) ≡ Some node
            → IsOf t user.id node
        seen at true e is = subst (IsOf t user.id) (same_Some at node is) (own_at none at e)
        seen at false e is = above at (parent_of t.nodes at) e refl is

        here : (place : Found) → way.place ≡ place → option_or (folder_seen t.nodes (root_of call) place) (node_found place) ≡ Some node
            → IsOf t user.id node
        here (At at) e is = seen at (at == root_of call) e is
        here (Free folder) e is =
            let free = found_free t (root_of call) spot.path folder sound (sym (by_none none) ∙ e) in
            subst (IsOf t user.id) (same_Some folder node is) (leads_own t user.id (root_of call) free.front folder sound free.led own_root)
        here (Missing depth) e is = absurd (none-some node is)

    in_met : All Met (needs_in t.nodes (root_of call) way)
    in_met = here way.itself refl
      where
        here : (b : Bool) → way.itself ≡ b
            → All Met (needs Create (if b then Some (root_of call) else option_or (folder_seen t.nodes (root_of call) way.place) (node_found way.place))
            (if b then None else way.mount))
        here true e = needs_met Create (Some (root_of call)) None (λ none node is. subst (IsOf t user.id) (same_Some (root_of call) node is) own_root)
        here false e = needs_met Create (option_or (folder_seen t.nodes (root_of call) way.place) (node_found way.place)) way.mount own_folder

-- ---- versions

-- who sees a file that is judged by no mount owns it
seen_own : (owns : Bool) (granting above : Option ℕ) → (owns || is_some above) ≡ true
    → option_or granting above ≡ None → owns ≡ true
seen_own true granting above seen none = refl
seen_own false (Some mount) above seen none = absurd (none-some mount (sym none))
seen_own false None None seen none = absurd (false≢true seen)
seen_own false None (Some mount) seen none = absurd (none-some mount (sym none))

version_met : (call : Call) (wanted : Wanted) → unnamed_by call wanted ≡ None → All (IsMetByNone call) (needed_for (access_of call.state) call wanted)
version_met call (Version asked) named =
    let t = call.state.tables in
    let node = node_asked asked in
    let mount = mount_by (access_of call.state) t.nodes t.mounts (seeker_of call) (asker_of call) call.now (act_asked asked) node in
    All-cons (IsMetByNone call) (record { act = act_asked asked; node = node; mount = mount }) []
    (λ none.
    ap (λ (b : Bool). b || option_map_or (λ shared. list_any (allows call.now (act_asked asked)) (access_of call.state (seeker_of call) shared)) mount false)
    (seen_own (is_owner t.nodes (seeker_of call) node)
    (granting_above (access_of call.state) t.nodes t.mounts (seeker_of call) (asker_of call) call.now (act_asked asked) node)
    (mount_above t.nodes t.mounts (asker_of call) node) (and_parts (is_rooted t.nodes node) _ (if_none _ denial.NotFound named)).1 none))
    (All-nil (IsMetByNone call))
version_met call other named = All-nil (IsMetByNone call)

pub own_unrefused : OwnIsNotRefused
own_unrefused = record {
  paths = λ s seat now words request user sound known.
      let call = call_of s seat now words request in
      each_need call (Met call user sound.rows known) (at_met call user sound.rows known) (in_met call user sound.rows known);
  versions = λ s seat now words request named. version_met (call_of s seat now words request) request.wanted named;
}
