-- A node is there exactly where it is present, which is to be a root or under one, or in the trash. What shares and paths lead to is present.
use Rattle.std.proofs.Common.{ℕ, zero, suc, ⊎_elim, ◌==◌, ◌≡◌, ◌≤◌, ◌⊎◌, ◌↔◌, true, Some, List, get_or, sym, ap, subst, arith}
use Rattle.std.specs.Prelude.{is_some}
use Rattle.std.specs.Cmp.{both_ways}
use Rattle.std.proofs.lemmas.Bool.{eqb-true, false_from_ne_true, or_cases, or_left, or_right}
use Rattle.std.proofs.lemmas.List.Elements.{All-contains}
use Rattle.std.proofs.lemmas.List.Folds.{Any-from_list_any}
use Rattle.std.proofs.lemmas.Option.{option_and_then_some, same_Some}
use Rattle.nf_base.specs.declared.limits.TheConstants.{MAX_DEPTH}
use Rattle.nf_base.specs.declared.rows.NodeRow.{NodeRow}
use Rattle.nf_defs.proofs.Climbs.{holds_some, under_climb}
use Rattle.nf_defs.specs.Prelude.{climb, is_present, is_root, is_root_place, is_rooted, is_rooted_within, is_under, node_row, parent_of, Tables}
use Rattle.nf_laws.proofs.Climbs.{some_there}
use Rattle.nf_laws.proofs.Present.{below_present, never_trash, root_leads}
use Rattle.nf_laws.proofs.Puts.{under_there}
use Rattle.nf_laws.proofs.Rows.{found_is}
use Rattle.nf_laws.proofs.Upwards.{climb_short, nodes_present}
use Rattle.nf_laws.specs.Tree.{IsTrashed, PathsLeadToPresent, PresentIsThere, SharedIsPresent}
use Rattle.nf_words.proofs.Starts.{has_asker}
use Rattle.nf_words.proofs.Ways.{inside_present, node_present, present_row}
use Rattle.nf_words.specs.Prelude.{AreSound, HasRoot, LeadsToRoot}

-- ---- climbs to roots

-- what climbs to a root leads to one
climbs_rooted : (j m : ℕ) (rows : List NodeRow) (node top : ℕ) → j ≤ m → climb rows j node ≡ Some top → is_root rows top ≡ true
    → is_rooted_within m rows node ≡ true
unfolding is_rooted_within
climbs_rooted zero zero rows node top few is root = subst (λ (n : ℕ). is_root rows n ≡ true) (sym (same_Some node top is)) root
climbs_rooted zero (suc m) rows node top few is root =
    or_left (is_root rows node) _ (subst (λ (n : ℕ). is_root rows n ≡ true) (sym (same_Some node top is)) root)
climbs_rooted (suc j) zero rows node top few is root = absurd (omega arith)
climbs_rooted (suc j) (suc m) rows node top few is root =
    or_right (is_root rows node) _
    (option_and_then_some (climb rows j) (parent_of rows node) top is
    (λ parent above is. rw above (climbs_rooted j m rows parent top (omega arith) is root)))

-- and what leads to one climbs to it
rooted_climbs : (m : ℕ) (rows : List NodeRow) (node : ℕ) → is_rooted_within m rows node ≡ true → LeadsToRoot rows node
unfolding is_rooted_within
rooted_climbs zero rows node is = root_leads rows node is
rooted_climbs (suc m) rows node is =
    ⊎_elim (λ e. root_leads rows node e)
    (λ up.
    let parent = holds_some (is_rooted_within m rows) (parent_of rows node) up in
    inside_present rows node parent.0 parent.1 (rooted_climbs m rows parent.0 parent.2))
    (or_cases (is_root rows node) _ is)

-- so does what is present
present_climbs : (t : Tables) (node : ℕ) → AreSound t → is_present t.users t.nodes node ≡ true → LeadsToRoot t.nodes node
present_climbs t node sound is =
    let any = Any-from_list_any (λ user. is_under t.nodes node user.root) t.users is in
    let root = All-contains (HasRoot t) t.users any.1 sound.roots (any.0, any.2, any.3) in
    let up = under_climb t.nodes node any.1.root any.4 in
    below_present up.0 t.nodes node any.1.root up.2 (root_leads t.nodes any.1.root (rw root.there (ap is_root_place root.place)))

-- what climbs to a root is there
pub climbs_there : (rows : List NodeRow) (node : ℕ) → LeadsToRoot rows node → is_some (node_row rows node) ≡ true
climbs_there rows node up = ap is_some (present_row rows node up).1

-- and isn't in the trash
never_both : (rows : List NodeRow) (node : ℕ) → LeadsToRoot rows node → IsTrashed rows node → ⊥
never_both rows node up gone =
    let down = under_climb rows node gone.top.id gone.under in
    never_trash down.0 rows node gone.top.id gone.top up down.2 gone.there gone.place

-- ---- the law

present_or_trashed : (t : Tables) (node : ℕ) → AreSound t → is_some (node_row t.nodes node) ≡ true
    → (is_present t.users t.nodes node ≡ true) ⊎ IsTrashed t.nodes node
present_or_trashed t node sound is =
    let row = some_there (node_row t.nodes node) is in
    let P = λ (node : ℕ). (is_present t.users t.nodes node ≡ true) ⊎ IsTrashed t.nodes node in
    let h = found_is (λ (row : NodeRow). P row.id) (λ row. row.id == node) t.nodes row.0 (nodes_present t sound) row.1 in
    subst P (eqb-true row.0.id node h.0) h.1

-- a node of sound tables is present exactly where it leads to a root
pub leads_present : (t : Tables) (node : ℕ) → AreSound t → LeadsToRoot t.nodes node ↔ (is_present t.users t.nodes node ≡ true)
leads_present t node sound = (
  λ up.
      ⊎_elim (λ present. present) (λ gone. absurd (never_both t.nodes node up gone))
      (present_or_trashed t node sound (climbs_there t.nodes node up)),
  present_climbs t node sound,
)

pub present_there : PresentIsThere
unfolding is_rooted
present_there = record {
  there = λ t node sound. (
    present_or_trashed t node sound,
    ⊎_elim (λ is. climbs_there t.nodes node (present_climbs t node sound is))
        (λ gone. under_there t.nodes node gone.top.id (ap is_some gone.there) gone.under),
  );
  apart = λ t node sound gone.
      false_from_ne_true (is_present t.users t.nodes node) (λ is. never_both t.nodes node (present_climbs t node sound is) gone);
  rooted = λ t node sound.
      both_ways (is_rooted_within MAX_DEPTH t.nodes node) (is_present t.users t.nodes node)
      (λ is. (leads_present t node sound).0 (rooted_climbs MAX_DEPTH t.nodes node is))
      (λ is.
      let up = present_climbs t node sound is in
      climbs_rooted up.steps MAX_DEPTH t.nodes node up.top (climb_short up.steps t node up.top sound up.climbs) up.climbs up.root);
}

-- ---- what is present

-- the node of each share that isn't ended
pub shared_present : SharedIsPresent
shared_present t sound k d within live =
    let share = get_or t.shares k d in (leads_present t share.node sound).0 ((sound.others.shares k d within).present live)

-- and each that a path leads to
pub paths_present : PathsLeadToPresent
paths_present call spot node sound token linked reached leads =
    (leads_present call.state.tables node sound).0 (node_present call spot sound (has_asker call token linked) node reached leads)
