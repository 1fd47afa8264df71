-- Who asks, and what the paths of who does lead from.
use Rattle.std.proofs.Common.{◌≡◌, ℕ, ◌==◌, ◌||◌, ◌&&◌, sym, Bool, true, false, List, ◌∙◌, Option, refl, ap, subst, if◌then◌else◌}
use Rattle.std.specs.Prelude.{None, Some, is_some}
use Rattle.std.specs.Option.{IfSome, option_and_then, option_map_or}
use Rattle.std.proofs.lemmas.Bool.{eqb-true}
use Rattle.std.proofs.lemmas.Option.{none-some}
use Rattle.nf_access.specs.Shares.{is_link, is_link_kind, link_row}
use Rattle.nf_base.specs.declared.rows.NodeRow.{NodeRow}
use Rattle.nf_base.specs.declared.rows.Place.TheVariants.{Root}
use Rattle.nf_base.specs.declared.rows.ShareKind.{ShareKind}
use Rattle.nf_base.specs.declared.rows.ShareKind.TheVariants as kind
use Rattle.nf_base.specs.declared.rows.ShareRow.{ShareRow}
use Rattle.nf_base.specs.declared.rows.UserRow.{UserRow}
use Rattle.nf_defs.specs.Prelude.{folder_of, node_row, parent_of, user_row}
use Rattle.nf_defs.specs.declared.Seeker.{Seeker}
use Rattle.nf_defs.specs.declared.Seeker.TheVariants as seeker
use Rattle.nf_words.proofs.Found.{found_has, found_passes}
use Rattle.nf_words.proofs.Passing.{if_none}
use Rattle.nf_words.specs.Prelude.{access_of, AreSound, asker_of, Call, caller_row, HasRoot, is_about_files, is_by_link, link_of, linked_of, mount_for, mount_of, root_of, seeker_of, token_rule, unlinked, user_of, way_by, way_of}
use Rattle.nf_words.specs.Calls.{caller_of, link_by}
use Rattle.nf_words.specs.Reached.{unlinked_by}
use Rattle.nf_words.specs.declared.answer.Denial.TheVariants as denial
use Rattle.nf_words.specs.declared.request.Caller.{Caller}
use Rattle.nf_words.specs.declared.request.Caller.TheVariants as caller
use Rattle.nf_words.specs.declared.request.Spot.{Spot}

-- who asks is there: a user with a row, or whoever shows the token of a link
pub data IsAsking (call : Call) : Type 0 where
  by_user : (row : UserRow) → caller_row call ≡ Some row → IsAsking call
  by_link : (share : ShareRow) → is_by_link call.request.caller ≡ true → link_of call ≡ Some share → IsAsking call

-- what lets a caller ask, by whom it is
abbrev MayAskAs : Call → Caller → Type 0
MayAskAs call who =
    (is_some (option_and_then (user_row call.state.tables.users) (caller_of call.state who)) || (is_by_link who && is_about_files call.request.wanted)) ≡ true

-- who asks by a link asks about files
pub only_files : (call : Call) → token_rule (access_of call.state) call ≡ None → is_by_link call.request.caller ≡ true
    → is_about_files call.request.wanted ≡ true
unfolding token_rule
only_files call passes linked = here call.request.caller linked (if_none _ _ passes)
  where
    here : (who : Caller) → is_by_link who ≡ true → MayAskAs call who → is_about_files call.request.wanted ≡ true
    here caller.Absent linked passes = absurd (cc)
    here (caller.Token digest) linked passes = absurd (cc)
    here (caller.Link token) linked passes = passes

-- where the rules of who asks and of links pass, somebody asks who is there
pub has_asker : (call : Call) → token_rule (access_of call.state) call ≡ None → unlinked call ≡ None → IsAsking call
unfolding token_rule
has_asker call passes linked = here call.request.caller refl (if_none _ _ passes) linked
  where
    user : (who : Caller) → call.request.caller ≡ who → (o : Option UserRow)
        → option_and_then (user_row call.state.tables.users) (caller_of call.state who) ≡ o → is_some o ≡ true → IsAsking call
    user who same None e is = absurd (cc)
    user who same (Some row) e is =
        by_user row (ap (λ (c : Caller). option_and_then (user_row call.state.tables.users) (caller_of call.state c)) same ∙ e)

    alone : (b : Bool) → (b || false) ≡ true → b ≡ true
    alone true is = refl
    alone false is = absurd (cc)

    linked_so : (b : Bool) → (if b then None else Some denial.NotFound) ≡ None → b ≡ true
    linked_so true none = refl
    linked_so false none = absurd (cc)

    link : (token : List ℕ) → call.request.caller ≡ caller.Link token → (o : Option ShareRow) → link_row call.state.tables.shares token ≡ o
        → is_some o ≡ true → IsAsking call
    link token same None e is = absurd (cc)
    link token same (Some share) e is = by_link share (ap is_by_link same) (ap (link_by call.state) same ∙ e)

    here : (who : Caller) → call.request.caller ≡ who → MayAskAs call who → unlinked_by call.state who ≡ None → IsAsking call
    here caller.Absent same passes linked = absurd (cc)
    here (caller.Token digest) same passes linked = user (caller.Token digest) same _ refl (alone _ passes)
    here (caller.Link token) same passes linked = link token same _ refl (linked_so _ linked)

-- ---- a user

-- a user asks by no link
pub user_no_link : (call : Call) (row : UserRow) → caller_row call ≡ Some row → (is_by_link call.request.caller ≡ false) × (link_of call ≡ None)
user_no_link call row is = here call.request.caller is
  where
    here : (who : Caller) → option_and_then (user_row call.state.tables.users) (caller_of call.state who) ≡ Some row
        → (is_by_link who ≡ false) × (link_by call.state who ≡ None)
    here caller.Absent is = (refl, refl)
    here (caller.Token digest) is = (refl, refl)
    here (caller.Link token) is = absurd (none-some row is)

-- who seeks access, by whether that is by a link
abbrev seeks : Call → Bool → Seeker
seeks call linked = if linked then seeker.Link (linked_of call) else seeker.User (asker_of call)

pub user_seeks : (call : Call) (row : UserRow) → caller_row call ≡ Some row → seeker_of call ≡ seeker.User (asker_of call)
user_seeks call row is = ap (seeks call) (user_no_link call row is).0

pub user_root : (call : Call) (row : UserRow) → caller_row call ≡ Some row → root_of call ≡ row.root
user_root call row is =
    ap (λ (o : Option ShareRow). option_map_or (λ row. row.node) o (option_map_or (λ row. row.root) (caller_row call) 0)) (user_no_link call row is).1
    ∙ ap (λ (o : Option UserRow). option_map_or (λ row. row.root) o 0) is

-- the caller's row is that of the user who asks
pub row_of_caller : (rows : List UserRow) (who : Option ℕ) (row : UserRow) → option_and_then (user_row rows) who ≡ Some row
    → (who ≡ Some row.id) × (user_row rows row.id ≡ Some row)
row_of_caller rows None row is = absurd (cc)
row_of_caller rows (Some user) row is =
    let e : row.id ≡ user = eqb-true row.id user (found_passes (λ (row : UserRow). row.id == user) rows row is) in
    (ap Some (sym e), subst (λ (u : ℕ). user_row rows u ≡ Some row) (sym e) is)

-- the caller's root is there: a folder of the caller's, which is in none
pub record IsRootOf (call : Call) (user : UserRow) : Type 0 where
  pub row : NodeRow
  pub there : node_row call.state.tables.nodes (root_of call) ≡ Some row
  pub place : row.place ≡ Root
  pub owner : row.owner ≡ user.id

pub root_is : (call : Call) (user : UserRow) → AreSound call.state.tables → caller_row call ≡ Some user → IsRootOf call user
root_is call user sound is =
    let t = call.state.tables in
    let there = (row_of_caller t.users (user_of call) user is).1 in
    let root = subst (λ (o : Option UserRow). IfSome o (HasRoot t)) there
    (found_has (HasRoot t) (λ (row : UserRow). row.id == user.id) t.users sound.roots) in
    record {
      row = root.row;
      there = ap (node_row t.nodes) (user_root call user is) ∙ root.there;
      place = root.place;
      owner = root.owner;
    }

-- so it is in no folder
pub root_known : (call : Call) (user : UserRow) → AreSound call.state.tables → caller_row call ≡ Some user
    → parent_of call.state.tables.nodes (root_of call) ≡ None
root_known call user sound is =
    let root = root_is call user sound is in
    ap (λ (o : Option NodeRow). option_and_then (λ row. folder_of row.place) o) root.there ∙ ap folder_of root.place

-- ---- whose it is

-- who doesn't ask by a link shows none
pub no_link_shown : (call : Call) → is_by_link call.request.caller ≡ false → link_of call ≡ None
no_link_shown call other = here call.request.caller other
  where
    here : (who : Caller) → is_by_link who ≡ false → link_by call.state who ≡ None
    here caller.Absent other = refl
    here (caller.Token digest) other = refl
    here (caller.Link token) other = absurd (cc)

pub unlinked_seeks : (call : Call) → is_by_link call.request.caller ≡ false → seeker_of call ≡ seeker.User (asker_of call)
unlinked_seeks call other = ap (seeks call) other

pub unlinked_root : (call : Call) → is_by_link call.request.caller ≡ false
    → root_of call ≡ option_map_or (λ (row : UserRow). row.root) (caller_row call) 0
unlinked_root call other =
    ap (λ (o : Option ShareRow). option_map_or (λ row. row.node) o (option_map_or (λ row. row.root) (caller_row call) 0)) (no_link_shown call other)

-- ---- a link

pub link_seeks : (call : Call) → is_by_link call.request.caller ≡ true → seeker_of call ≡ seeker.Link (linked_of call)
link_seeks call by = ap (seeks call) by

-- all its paths go by what it is of
pub link_mount : (call : Call) (spot : Spot) → is_by_link call.request.caller ≡ true → mount_of call spot ≡ Some (root_of call)
link_mount call spot by =
    ap (λ (s : Seeker). mount_for call.state.tables.nodes call.state.tables.mounts s (root_of call) spot.path) (link_seeks call by)

-- so no path of a link goes by none
pub none_unlinked : (call : Call) (spot : Spot) → mount_of call spot ≡ None → is_by_link call.request.caller ≡ false
none_unlinked call spot none = here (is_by_link call.request.caller) refl
  where
    here : (b : Bool) → is_by_link call.request.caller ≡ b → b ≡ false
    here false by = refl
    here true by = absurd (none-some (root_of call) (sym none ∙ link_mount call spot by))

-- and one that does is a user's
pub none_of_user : (call : Call) (spot : Spot) → IsAsking call → mount_of call spot ≡ None → (row : UserRow) × (caller_row call ≡ Some row)
none_of_user call spot (by_user row is) none = (row, is)
none_of_user call spot (by_link share by there) none = absurd (none-some (root_of call) (sym none ∙ link_mount call spot by))

-- and so is the path of a mount itself
pub itself_of_user : (call : Call) (spot : Spot) → (way_of call spot).itself ≡ true → is_by_link call.request.caller ≡ false
itself_of_user call spot itself = here (is_by_link call.request.caller) refl
  where
    no_link : (share : ℕ) (mount : Option ℕ)
        → (way_by call.state.tables.nodes (seeker.Link share) (root_of call) spot.path mount).itself ≡ false
    no_link share None = refl
    no_link share (Some node) = refl

    off : is_by_link call.request.caller ≡ true → (way_of call spot).itself ≡ false
    off by =
        ap (λ (s : Seeker). (way_by call.state.tables.nodes s (root_of call) spot.path (mount_of call spot)).itself) (link_seeks call by)
        ∙ no_link (linked_of call) (mount_of call spot)

    here : (b : Bool) → is_by_link call.request.caller ≡ b → b ≡ false
    here false by = refl
    here true by = absurd (let other = off by in cc)

pub itself_seeks : (call : Call) (spot : Spot) → (way_of call spot).itself ≡ true → seeker_of call ≡ seeker.User (asker_of call)
itself_seeks call spot itself = ap (seeks call) (itself_of_user call spot itself)

pub itself_asker : (call : Call) (spot : Spot) → IsAsking call → (way_of call spot).itself ≡ true → (row : UserRow) × (caller_row call ≡ Some row)
itself_asker call spot (by_user row is) itself = (row, is)
itself_asker call spot (by_link share by there) itself = absurd (let other = itself_of_user call spot itself in cc)

-- a link is found by its token, and is one
pub link_found : (shares : List ShareRow) (token : List ℕ) (share : ShareRow) → link_row shares token ≡ Some share → is_link_kind share.kind ≡ true
link_found shares token share is = here share.kind (found_passes (λ (row : ShareRow). is_link token row.kind) shares share is)
  where
    here : (k : ShareKind) → is_link token k ≡ true → is_link_kind k ≡ true
    here (kind.User user) is = absurd (cc)
    here (kind.Group group) is = absurd (cc)
    here (kind.Link own) is = refl
