-- What owners may do, and who owns what a path from a root leads to.
use Rattle.std.proofs.Common.{ℕ, ◌==◌, ◌||◌, ◌≡◌, Bool, false, true, List, Option, None, Some, refl, sym, ap, ◌∙◌, arith}
use Rattle.std.specs.List.{list_any}
use Rattle.std.specs.Option.{option_map_or}
use Rattle.std.proofs.lemmas.Bool.{eq-eqb, eqb-true}
use Rattle.nf_access.specs.Access.{allows}
use Rattle.nf_base.specs.declared.perms.Act.{Act}
use Rattle.nf_base.specs.declared.rows.NodeRow.{NodeRow}
use Rattle.nf_base.specs.declared.rows.UserRow.{UserRow}
use Rattle.nf_defs.proofs.Climbs.{holds_some}
use Rattle.nf_defs.specs.Prelude.{Access, Leads, leads_on, node_row, stays, Tables}
use Rattle.nf_defs.specs.declared.Seeker.{Seeker}
use Rattle.nf_defs.specs.declared.Seeker.TheVariants.{Link, User}
use Rattle.nf_laws.proofs.Paths.{leads_own, root_own}
use Rattle.nf_laws.proofs.Rows.{folder_there, row_is}
use Rattle.nf_laws.specs.Access.{Owns}
use Rattle.nf_words.proofs.Starts.{row_of_caller, unlinked_root, user_root, user_seeks}
use Rattle.nf_words.specs.Prelude.{AreSound, asker_of, Call, caller_row, is_by_link, is_owner, may_by, root_of, seeker_of, user_of}

-- ---- who may

pub owns : (rows : List NodeRow) (seeker : Seeker) (node : ℕ) → is_owner rows seeker node ≡ true → Owns rows seeker node
owns rows (User user) node is =
    let row = holds_some (λ row. row.owner == user) (node_row rows node) is in
    record { row = row.0; there = row.1; owner = ap User (sym (eqb-true row.0.owner user row.2)) }
owns rows (Link share) node is = absurd (cc)

pub owner_is : (rows : List NodeRow) (seeker : Seeker) (node : ℕ) → Owns rows seeker node → is_owner rows seeker node ≡ true
owner_is rows seeker node own = rw (own.owner, own.there) (eq-eqb own.row.owner own.row.owner refl)

pub own_may : (access : Access) (rows : List NodeRow) (seeker : Seeker) (now : ℕ) (act : Act) (node : ℕ) (mount : Option ℕ)
    → Owns rows seeker node → may_by access rows seeker now act node mount ≡ true
own_may access rows seeker now act node mount own =
    ap (λ (b : Bool). b || option_map_or (λ shared. list_any (allows now act) (access seeker shared)) mount false)
    (owner_is rows seeker node own)

-- ---- what is one's own

-- no node has the number 0
pub none_zero : (t : Tables) (row : NodeRow) → AreSound t → node_row t.nodes 0 ≡ Some row → ⊥
none_zero t row sound there = let is = row_is t 0 row sound there in let some = is.1.some in let zero = is.0 in absurd (omega arith)

none_led : (t : Tables) (from : ℕ) (names : List (List ℕ)) (node : ℕ) (row : NodeRow) → AreSound t → from ≡ 0
    → Leads t.nodes from names node → node_row t.nodes node ≡ Some row → ⊥
none_led t _ _ _ row sound zero (stays at) there = none_zero t row sound (ap (node_row t.nodes) (sym zero) ∙ there)
none_led t _ _ _ row sound zero (leads_on at name names child node folds is place named led) there =
    let folder = folder_there t.nodes at folds in none_zero t folder.0 sound (ap (node_row t.nodes) (sym zero) ∙ folder.1)

-- what a path leads to from the root of who doesn't ask by a link is there, and so is the caller's row
pub led_row : (call : Call) (names : List (List ℕ)) (node : ℕ) (row : NodeRow) → AreSound call.state.tables
    → Leads call.state.tables.nodes (root_of call) names node → node_row call.state.tables.nodes node ≡ Some row
    → is_by_link call.request.caller ≡ false → (user : UserRow) × (caller_row call ≡ Some user)
led_row call names node row sound led there other = here (caller_row call) refl
  where
    here : (o : Option UserRow) → caller_row call ≡ o → (user : UserRow) × (caller_row call ≡ Some user)
    here (Some user) is = (user, is)
    here None is =
        absurd (none_led call.state.tables (root_of call) names node row sound
        (unlinked_root call other ∙ ap (λ (o : Option UserRow). option_map_or (λ row. row.root) o 0) is) led there)

-- and the caller owns it
pub led_own : (call : Call) (names : List (List ℕ)) (node : ℕ) (row : NodeRow) → AreSound call.state.tables
    → Leads call.state.tables.nodes (root_of call) names node → node_row call.state.tables.nodes node ≡ Some row
    → is_by_link call.request.caller ≡ false → Owns call.state.tables.nodes (seeker_of call) node
led_own call names node row sound led there other =
    let t = call.state.tables in
    let user = led_row call names node row sound led there other in
    let known = row_of_caller t.users (user_of call) user.0 user.1 in
    let root : root_of call ≡ user.0.root = user_root call user.0 user.1 in
    let asker : asker_of call ≡ user.0.id = ap (λ (o : Option UserRow). option_map_or (λ row. row.id) o 0) user.1 in
    let own = leads_own t user.0.id (root_of call) names node sound led (rw root (root_own t user.0 sound known.1)) in
    record { row = own.row; there = own.there; owner = user_seeks call user.0 user.1 ∙ ap User (asker ∙ sym own.owner) }
