-- A share that keeps the rules keeps them in sound tables that come after, ended or not.
use Rattle.std.proofs.Common.{◌≡◌, ℕ, zero, suc, ◌≤◌, ◌<◌, ◌==◌, ◌||◌, Bool, true, false, List, [], ◌∷◌, Option, None, Some, option_map, inl, inr, refl, sym, ap, subst, ◌∙◌, arith}
use Rattle.std.specs.Prelude.{if◌then◌else◌, is_some, nat_lt}
use Rattle.std.specs.List.{All}
use Rattle.std.specs.Option.{IfSome, option_and_then, option_map_or}
use Rattle.std.proofs.lemmas.Bool.{and_from, and_parts, eq-eqb, eqb-true, false≢true, le-ltb, lt-ltb, not_from_false}
use Rattle.std.proofs.lemmas.List.Elements.{All-weaker}
use Rattle.nf_access.proofs.Chains.{within_lost}
use Rattle.nf_access.specs.Shares.{chain_up, chain_within, share_row}
use Rattle.nf_base.specs.declared.limits.TheConstants.{MAX_CHAIN}
use Rattle.nf_base.specs.declared.rows.MetaRow.{MetaRow}
use Rattle.nf_base.specs.declared.rows.NodeRow.{NodeRow}
use Rattle.nf_base.specs.declared.rows.ShareKind.{ShareKind}
use Rattle.nf_base.specs.declared.rows.ShareKind.TheVariants as to
use Rattle.nf_base.specs.declared.rows.ShareRow.{ShareRow}
use Rattle.nf_base.specs.declared.rows.UserRow.{UserRow}
use Rattle.nf_defs.proofs.Climbs.{climb_under}
use Rattle.nf_defs.specs.Prelude.{depth, is_root_place, node_row, Tables, user_row}
use Rattle.nf_laws.proofs.Climbs.{some_there}
use Rattle.nf_laws.proofs.Present.{never_trash}
use Rattle.nf_laws.proofs.Rows.{found_is}
use Rattle.nf_laws.proofs.Upwards.{climbs_own}
use Rattle.nf_laws.specs.Numbers.{AreHigher}
use Rattle.nf_words.proofs.Found.{found_passes}
use Rattle.nf_words.proofs.Ways.{present_row}
use Rattle.nf_words.specs.Others.{IsKindSound, IsOfNode, IsShareSound}
use Rattle.nf_words.specs.Prelude.{AreSound, LeadsToRoot, root_of_user}
use Rattle.nf_rules.specs.Ruled.{AreOrdered, IsGiven, IsShareRuled, IsUserRuled}
use Rattle.nf_rules.specs.Rules.{are_share_names_there, are_share_numbers, is_given, is_in_root, is_linked, is_node, is_of_node, is_recipient_given, is_recipient_there, is_share, is_share_kept, is_user}
use Rattle.nf_rules.proofs.Shares.{given, is_given_from}

-- ---- numbers

pub still_given : (next more id : ℕ) → next ≤ more → IsGiven next id → IsGiven more id
still_given next more id up given = record { first = given.first; below = omega (arith, given.below) }

-- a user who is there was given, where all were
pub user_given : (t : Tables) (next user : ℕ) → All (λ (row : UserRow). IsGiven next row.id) t.users → is_user t user ≡ true → IsGiven next user
user_given t next user users is =
    let there = some_there (user_row t.users user) is in
    let found = found_is (λ (row : UserRow). IsGiven next row.id) (λ (row : UserRow). row.id == user) t.users there.0 users there.1 in
    subst (IsGiven next) (eqb-true there.0.id user found.0) found.1

-- as they were in tables that keep the rules
pub user_was : (t : Tables) (user : ℕ) → AreOrdered t → is_user t user ≡ true → IsGiven t.meta.next_user user
user_was t user h =
    user_given t t.meta.next_user user
    (All-weaker (IsUserRuled t) (λ (row : UserRow). IsGiven t.meta.next_user row.id) (λ row own. own.id) t.users h.users)

given_up : (next more id : ℕ) → next ≤ more → is_given next id ≡ true → is_given more id ≡ true
given_up next more id up is = is_given_from more id (still_given next more id up (given next id is))

recipient_up : (meta more : MetaRow) (kind : ShareKind) → AreHigher meta more
    → is_recipient_given meta kind ≡ true → is_recipient_given more kind ≡ true
recipient_up meta more (to.User user) up is = given_up meta.next_user more.next_user user up.users is
recipient_up meta more (to.Group group) up is = given_up meta.next_group more.next_group group up.groups is
recipient_up meta more (to.Link token) up is = refl

parent_up : (next more : ℕ) (parent : Option ℕ) → next ≤ more → option_map_or (is_given next) parent true ≡ true
    → option_map_or (is_given more) parent true ≡ true
parent_up next more None up is = refl
parent_up next more (Some id) up is = given_up next more id up is

pub numbers_up : (meta more : MetaRow) (row : ShareRow) → AreHigher meta more → row.made ≤ more.last → are_share_numbers meta row ≡ true
    → are_share_numbers more row ≡ true
numbers_up meta more row up made is =
    let until = and_parts _ _ (and_parts _ _ is).0 in
    let parent = and_parts _ _ until.0 in
    let recipient = and_parts _ _ parent.0 in
    let initiator = and_parts _ _ recipient.0 in
    let owner = and_parts _ _ initiator.0 in
    let ids = and_parts _ _ owner.0 in
    and_from _ _
    (and_from _ _
    (and_from _ _
    (and_from _ _
    (and_from _ _
    (and_from _ _
    (and_from _ _ (given_up meta.next_share more.next_share row.id up.shares ids.0) (given_up meta.next_node more.next_node row.node up.nodes ids.1))
    (given_up meta.next_user more.next_user row.owner up.users owner.1))
    (given_up meta.next_user more.next_user row.initiator up.users initiator.1))
    (recipient_up meta more row.kind up recipient.1))
    (parent_up meta.next_share more.next_share row.parent up.shares parent.1)) until.1)
    (not_from_false _ (le-ltb more.last row.made made))

-- ---- chains

-- what a share passes on is there, and where it passes on none the node's owner made it
abbrev pub IsAbove : List ShareRow → ShareRow → Option ℕ → Type 0
IsAbove shares row None = (row.initiator == row.owner) ≡ true
IsAbove shares row (Some parent) = is_some (share_row shares parent) ≡ true

pub chain_above : (k : ℕ) (shares : List ShareRow) (row : ShareRow) → share_row shares row.id ≡ Some row
    → is_some (chain_within k shares row.id) ≡ true → IsAbove shares row row.parent
unfolding chain_within
chain_above zero shares row there is = absurd (false≢true is)
chain_above (suc k) shares row there is =
    here row.parent
    (sym (ap (λ (o : Option ShareRow). is_some (option_and_then (λ row. chain_up row row.parent (chain_within k shares)) o)) there) ∙ is)
  where
    made : (b : Bool) → is_some (if b then Some (row ∷ []) else None) ≡ true → b ≡ true
    made true is = refl
    made false is = absurd (false≢true is)

    found : (parent : ℕ) (o : Option ShareRow) → share_row shares parent ≡ o → is_some (option_map (λ up. row ∷ up) (chain_within k shares parent)) ≡ true
        → is_some (share_row shares parent) ≡ true
    found parent None e is =
        absurd (false≢true (sym (ap (λ (o : Option (List ShareRow)). is_some (option_map (λ up. row ∷ up) o)) (within_lost k shares parent e)) ∙ is))
    found parent (Some above) e is = ap is_some e

    here : (parent : Option ℕ) → is_some (chain_up row parent (chain_within k shares)) ≡ true → IsAbove shares row parent
    here None is = made (row.initiator == row.owner) is
    here (Some parent) is = found parent (share_row shares parent) refl is

-- ---- what is named is there

recipient_there : (t : Tables) (kind : ShareKind) → IsKindSound t kind → is_recipient_there t kind ≡ true
recipient_there t (to.User user) is = is
recipient_there t (to.Group group) is = is
recipient_there t (to.Link token) is = refl

parent_there : (t : Tables) (row : ShareRow) (parent : Option ℕ) → IsAbove t.shares row parent → option_map_or (is_share t) parent true ≡ true
parent_there t row None above = refl
parent_there t row (Some parent) above = above

unless_ended : (ended is : Bool) → (ended ≡ false → is ≡ true) → (ended || is) ≡ true
unless_ended true is live = refl
unless_ended false is live = live refl

names_there : (t : Tables) (row : ShareRow) → IsShareSound t row → IsAbove t.shares row row.parent → are_share_names_there t row ≡ true
names_there t row sound above =
    and_from _ _
    (and_from _ _
    (and_from _ _ (and_from _ _ sound.owner sound.initiator) (recipient_there t row.kind sound.kind))
    (parent_there t row row.parent above))
    (unless_ended row.ended (is_node t row.node) (λ live. ap is_some (present_row t.nodes row.node (sound.present live)).1))

-- ---- shares

linked : (t : Tables) (row : ShareRow) → IsShareSound t row → IsAbove t.shares row row.parent → is_linked t row ≡ true
linked t row sound above = and_from _ _ (earlier row.parent sound.parent above) sound.chained
  where
    earlier : (parent : Option ℕ) → IfSome parent (λ (id : ℕ). id < row.id) → IsAbove t.shares row parent
        → option_map_or (λ parent. nat_lt parent row.id) parent (row.initiator == row.owner) ≡ true
    earlier None less above = above
    earlier (Some parent) less above = lt-ltb parent row.id less

-- what leads to a root leads to its owner's
in_root : (t : Tables) (of : NodeRow) → AreSound t → LeadsToRoot t.nodes of.id → node_row t.nodes of.id ≡ Some of → is_in_root t of ≡ true
in_root t of sound up there =
    let c = climbs_own t of sound there in
    elim c.place [
      | inl root ↦
          climb_under (depth t.nodes of.id) t.nodes of.id (root_of_user t of.owner) c.shallow (c.climbs ∙ ap Some root.1)
      | inr trash ↦ absurd (never_trash (depth t.nodes of.id) t.nodes of.id c.top.id c.top up c.climbs c.there trash)
    ]

of_node_is : (row : ShareRow) (of : NodeRow) → IsOfNode row of → is_of_node row of ≡ true
of_node_is row of is =
    and_from _ _ (and_from _ _ (eq-eqb of.owner row.owner is.owner) (not_from_false (is_root_place of.place) is.no_root)) (eq-eqb _ row.perms is.perms)

kept : (t : Tables) (row : ShareRow) → AreSound t → IsShareSound t row → IsAbove t.shares row row.parent → is_share_kept t row ≡ true
kept t row sound own above =
    and_from _ _
    (and_from _ _ (linked t row own above) (unless_ended row.ended _ rooted))
    (here (node_row t.nodes row.node) own.of_node)
  where
    rooted : row.ended ≡ false → option_map_or (is_in_root t) (node_row t.nodes row.node) false ≡ true
    rooted live =
        let of = present_row t.nodes row.node (own.present live) in
        let id = eqb-true of.0.id row.node (found_passes (λ (r : NodeRow). r.id == row.node) t.nodes of.0 of.1) in
        ap (λ (o : Option NodeRow). option_map_or (is_in_root t) o false) of.1
        ∙ in_root t of.0 sound (subst (LeadsToRoot t.nodes) (sym id) (own.present live)) (ap (node_row t.nodes) id ∙ of.1)

    here : (o : Option NodeRow) → ((of : NodeRow) → o ≡ Some of → IsOfNode row of) → option_map_or (is_of_node row) o true ≡ true
    here None is = refl
    here (Some of) is = of_node_is row of (is of refl)

-- it keeps the rules where it is sound and found by its number, and kept those of numbers before
pub share_ruled : (meta : MetaRow) (t : Tables) (row : ShareRow) → AreSound t → AreHigher meta t.meta → are_share_numbers meta row ≡ true
    → IsShareSound t row → share_row t.shares row.id ≡ Some row → IsShareRuled t row
share_ruled meta t row sound up numbers own there =
    let above = chain_above MAX_CHAIN t.shares row there own.chained in
    record { numbers = numbers_up meta t.meta row up own.made numbers; names = names_there t row own above; kept = kept t row sound own above }
