-- What is under a top, and its rows, stay while other nodes leave their places, move or come.
use Rattle.std.proofs.Common.{◌≡◌, ◌≢◌, ◌<◌, ◌≤◌, ℕ, zero, suc, ◌+◌, ◌-◌, ◌==◌, false, List, ◌++◌, Option, None, Some, get_or, length, inl, inr, refl, sym, ap, subst, ◌∙◌, arith}
use Rattle.std.specs.Prelude.{is_some, option_and_then, slice_get}
use Rattle.std.specs.List.{Contains}
use Rattle.std.specs.Option.{option_or}
use Rattle.std.proofs.lemmas.Bool.{cases_lt, eqb-true, false_from_ne_true, ne_eqb}
use Rattle.std.proofs.lemmas.List.Elements.{All-contains_itself}
use Rattle.std.proofs.lemmas.List.Folds.{find-append}
use Rattle.std.proofs.lemmas.Option.{none-some, same_Some, slice_get-get_or, slice_get_within}
use Rattle.nf_base.specs.declared.rows.NodeRow.{NodeRow}
use Rattle.nf_defs.proofs.Climbs.{under_climb}
use Rattle.nf_defs.specs.Prelude.{climb, folder_of, is_under, node_row, parent_of, Tables, with_node}
use Rattle.nf_laws.proofs.Climbs.{climb_rest, climb_same, some_there}
use Rattle.nf_laws.proofs.Copied.{copies_there, old_joined}
use Rattle.nf_laws.proofs.Going.{under_beside}
use Rattle.nf_laws.proofs.InTurn.{Joins}
use Rattle.nf_laws.proofs.Left.{Left}
use Rattle.nf_laws.proofs.OneRow.{row_other}
use Rattle.nf_laws.proofs.Puts.{under_there}
use Rattle.nf_laws.proofs.Rows.{folder_there, found_is, parent_there}
use Rattle.nf_laws.proofs.Sources.{under_given, was_given}
use Rattle.nf_laws.proofs.Upwards.{climbed, climbs_is_under, derived, never_climbs}
use Rattle.nf_laws.specs.Transfers.{IsPlacedCopy}
use Rattle.nf_laws.specs.Tree.{Under}
use Rattle.nf_words.proofs.Ways.{HasRow, inside_there}
use Rattle.nf_words.specs.Prelude.{AreSound}

-- the rows under a top are the same, and the same is under it
pub record Stays (before after : List NodeRow) (top : ℕ) : Type 0 where
  pub same : (node : ℕ) → Under before top node → node_row after node ≡ node_row before node
  pub on : (node : ℕ) → Under before top node → Under after top node
  pub back : (node : ℕ) → Under after top node → Under before top node

pub stays_same : (rows : List NodeRow) (top : ℕ) → Stays rows rows top
stays_same rows top = record { same = λ node under. refl; on = λ node under. under; back = λ node under. under }

pub stays_then : (a b c : List NodeRow) (top : ℕ) → Stays a b top → Stays b c top → Stays a c top
stays_then a b c top first second = record {
  same = λ node under. second.same node (first.on node under) ∙ first.same node under;
  on = λ node under. second.on node (first.on node under);
  back = λ node under. first.back node (second.back node under);
}

-- ---- where another node leaves its place

-- nothing is under two nodes of which neither is under the other
pub none_under_both : (t : Tables) (one other node : ℕ) → AreSound t → is_under t.nodes one other ≡ false → is_under t.nodes other one ≡ false
    → Under t.nodes one node → is_under t.nodes node other ≡ false
none_under_both t one other node sound apart turned under =
    false_from_ne_true (is_under t.nodes node other) (λ both.
    let c = climbed t.nodes one node under in
    let d = under_climb t.nodes node other both in
    elim (cases_lt d.0 c.0) [
      | inl less ↦
          never_climbs t other one sound turned (c.0 - d.0) (climb_rest d.0 (c.0 - d.0) c.0 t.nodes node other one (omega (arith, less)) d.2 c.1)
      | inr more ↦
          never_climbs t one other sound apart (d.0 - c.0) (climb_rest c.0 (d.0 - c.0) d.0 t.nodes node one other (omega (arith, more)) c.1 d.2)
    ])

pub left_stays : (t u : Tables) (top node : ℕ) → AreSound t → Left t u top → HasRow t.nodes node → is_under t.nodes node top ≡ false
    → is_under t.nodes top node ≡ false → Stays t.nodes u.nodes node
left_stays t u top node sound left there apart turned = record {
  same = λ other under. left.row other (out other under);
  on = λ other under.
      let c = climbed t.nodes node other under in derived c.0 u.nodes node other (left.climbs c.0 other (out other under) ∙ c.1);
  back = λ other under.
      let c = climbed u.nodes node other under in
      let row =
      some_there (node_row u.nodes other)
      (under_there u.nodes other node (ap is_some (left.row node apart ∙ there.1)) (climbs_is_under c.0 u other node left.sound c.1)) in
      derived c.0 t.nodes node other (sym (left.climbs c.0 other (left.below c.0 other node row c.1 apart)) ∙ c.1);
}
  where
    out : (other : ℕ) → Under t.nodes node other → is_under t.nodes other top ≡ false
    out other under = none_under_both t node top other sound apart turned under

-- ---- where another node moves

pub with_stays : (rows : List NodeRow) (moved top : ℕ) (change : NodeRow → NodeRow) → ((row : NodeRow) → (change row).id ≡ row.id)
    → (Under rows top moved → ⊥) → (Under (with_node rows moved change) top moved → ⊥) → Stays rows (with_node rows moved change) top
with_stays rows moved top change keeps out turned = record {
  same = λ node under. other node (λ is. out (subst (Under rows top) is under));
  on = λ node under. under_beside rows (with_node rows moved change) moved top parent out node under;
  back = λ node under. under_beside (with_node rows moved change) rows moved top (λ node differs. sym (parent node differs)) turned node under;
}
  where
    other : (node : ℕ) → node ≢ moved → node_row (with_node rows moved change) node ≡ node_row rows node
    other node differs = row_other rows moved change keeps node (ne_eqb node moved differs)

    parent : (node : ℕ) → node ≢ moved → parent_of (with_node rows moved change) node ≡ parent_of rows node
    parent node differs = ap (option_and_then (λ (row : NodeRow). folder_of row.place)) (other node differs)

-- ---- where copies come

-- a node that is found behind some rows, and not in them, is one of those
pub behind : (rows more : List NodeRow) (node : ℕ) (row : NodeRow) → node_row rows node ≡ None → node_row (rows ++ more) node ≡ Some row
    → (k : ℕ) × (slice_get more k ≡ Some row) × (row.id ≡ node)
behind rows more node row none is =
    let there : node_row more node ≡ Some row =
    sym (find-append (λ row. row.id == node) rows more ∙ ap (λ (o : Option NodeRow). option_or o (node_row more node)) none) ∙ is in
    let found = found_is (Contains more) (λ row. row.id == node) more row (All-contains_itself more) there in
    let at = found.1 in
    (at.0, slice_get-get_or more at.0 row at.1 ∙ ap (λ (r : NodeRow). Some r) at.2, eqb-true row.id node found.0)

-- a number that wasn't given is that of no node
pub none_given : (t : Tables) (node : ℕ) → AreSound t → t.meta.next_node ≤ node → node_row t.nodes node ≡ None
none_given t node sound new = here (node_row t.nodes node) refl
  where
    here : (o : Option NodeRow) → node_row t.nodes node ≡ o → o ≡ None
    here None e = refl
    here (Some row) e = absurd (omega (arith, new, was_given t node row sound e))

module _ (u : Tables) (now : ℕ) (rows : List NodeRow) (sound : AreSound u) (joins : Joins u now rows) where
  abbrev more : List NodeRow
  more = u.nodes ++ rows

  pub old_row : (node : ℕ) → node < u.meta.next_node → node_row more node ≡ node_row u.nodes node
  old_row node given = old_joined u now joins.transfer joins.name rows joins.mirrors u.nodes node given

  -- what was there leads up as before
  climbs_old : (k node : ℕ) → node < u.meta.next_node → climb more k node ≡ climb u.nodes k node
  climbs_old k node given =
      climb_same u.nodes more (λ k node. node < u.meta.next_node) (λ k node parent given above.
      let row = inside_there u.nodes node parent above in
      let folder = parent_there u node parent row.0 sound row.1 above in was_given u parent folder.0 sound folder.1)
      (λ k node given. ap (option_and_then (λ row. folder_of row.place)) (old_row node given)) k node given

  module _ (top : ℕ) (there : HasRow u.nodes top) (apart : is_under u.nodes joins.transfer.folder top ≡ false) where
    top_given : top < u.meta.next_node
    top_given = was_given u top there.0 sound there.1

    -- no copy leads up to a top that its folder isn't under
    never_up : (n k : ℕ) (copy : NodeRow) → k < n → slice_get rows k ≡ Some copy → (j : ℕ) → climb more j copy.id ≢ Some top
    never_up zero k copy less at j = absurd (omega (arith, less))
    never_up (suc n) k copy less at j =
        here j k less at (joins.mirrors.each k copy at).of (joins.mirrors.each k copy at).placed (joins.mirrors.each k copy at).id
        (λ at parent before found. never_up n at parent before found)
      where
        here : (j k : ℕ) → k < suc n → slice_get rows k ≡ Some copy → (of : NodeRow) → IsPlacedCopy u joins.transfer joins.name k of copy
            → copy.id ≡ u.meta.next_node + k
            → ((at : ℕ) (parent : NodeRow) → at < n → slice_get rows at ≡ Some parent → (j : ℕ) → climb more j parent.id ≢ Some top)
            → climb more j copy.id ≢ Some top
        here zero k less at of placed id rest = λ climbs. omega (arith, id, top_given, same_Some copy.id top climbs)
        here (suc j) zero less at of placed id rest = λ climbs.
            let folder = folder_there u.nodes joins.transfer.folder joins.known.in_folder in
            let on : climb more j joins.transfer.folder ≡ Some top =
            rw (copies_there u now joins.transfer joins.name rows joins.mirrors sound joins.known joins.alone 0 copy at, placed.0) at climbs in
            never_climbs u joins.transfer.folder top sound apart j
            (sym (climbs_old j joins.transfer.folder (was_given u joins.transfer.folder folder.0 sound folder.1)) ∙ on)
        here (suc j) (suc k) less at of (named, (folder, before_at, of_place, at_index, before, place)) id rest = λ climbs.
            let within : before_at < length rows = omega (arith, before, slice_get_within rows (suc k) copy at) in
            let found = slice_get-get_or rows before_at copy within in
            let parent = get_or rows before_at copy in
            let on : climb more j (u.meta.next_node + before_at) ≡ Some top =
            rw (copies_there u now joins.transfer joins.name rows joins.mirrors sound joins.known joins.alone (suc k) copy at, place) at climbs in
            rest before_at parent (omega (arith, before, less)) found j
            (ap (climb more j) (joins.mirrors.each before_at parent found).id ∙ on)

    joined_back : (node : ℕ) → Under more top node → Under u.nodes top node
    joined_back node under =
        let c = climbed more top node under in
        elim (cases_lt node u.meta.next_node) [
          | inl old ↦ derived c.0 u.nodes top node (sym (climbs_old c.0 node old) ∙ c.1)
          | inr new ↦ here c.0 c.1 new (node_row more node) refl
        ]
      where
        here : (j : ℕ) → climb more j node ≡ Some top → u.meta.next_node ≤ node → (o : Option NodeRow) → node_row more node ≡ o
            → Under u.nodes top node
        here zero is new o e = absurd (omega (arith, top_given, new, same_Some node top is))
        here (suc j) is new None e = absurd (none-some top (sym (ap (λ (o : Option NodeRow). option_and_then (climb more j) (option_and_then (λ row. folder_of row.place) o)) e) ∙ is))
        here (suc j) is new (Some copy) e =
            let at = behind u.nodes rows node copy (none_given u node sound new) e in
            absurd (never_up (suc at.0) at.0 copy (omega arith) at.1 (suc j) (ap (climb more (suc j)) at.2 ∙ is))

    pub joined_stays : Stays u.nodes more top
    joined_stays = record {
      same = λ node under. old_row node (given node under);
      on = λ node under.
          let c = climbed u.nodes top node under in derived c.0 more top node (climbs_old c.0 node (given node under) ∙ c.1);
      back = joined_back;
    }
      where
        given : (node : ℕ) → Under u.nodes top node → node < u.meta.next_node
        given node under = under_given u top node there.0 sound there.1 (let c = climbed u.nodes top node under in climbs_is_under c.0 u node top sound c.1)
