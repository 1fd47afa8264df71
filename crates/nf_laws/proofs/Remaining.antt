-- What is present and doesn't go stays present, and the shares that end are those of nodes that aren't present any more.
use Rattle.std.proofs.Common.{ℕ, ◌==◌, ◌||◌, ◌≡◌, Bool, true, false, not, List, [], ◌∷◌, None, refl, sym, ap, ◌∙◌, if◌then◌else◌, inl, inr, arith}
use Rattle.std.specs.Prelude.{is_some}
use Rattle.std.specs.List.{All}
use Rattle.std.proofs.lemmas.Bool.{and_cases, and_parts, both_ways, cases_Bool, eqb-true, eq-eqb, false_from_ne_true, not-false, not-true}
use Rattle.std.proofs.lemmas.List.Elements.{All-head, All-tail}
use Rattle.std.proofs.lemmas.Option.{same_Some}
use Rattle.nf_base.specs.declared.content.Piece.{Piece}
use Rattle.nf_base.specs.declared.rows.NodeKind.{NodeKind}
use Rattle.nf_base.specs.declared.rows.NodeRow.{NodeRow}
use Rattle.nf_base.specs.declared.rows.ShareRow.{ShareRow}
use Rattle.nf_defs.specs.Prelude.{node_row, Tables}
use Rattle.nf_defs.specs.Tree.{is_rooted}
use Rattle.nf_laws.proofs.Following.{is_gone_from, shares_by, shares_gone}
use Rattle.nf_laws.proofs.Presence.{climbs_there, leads_present, present_there}
use Rattle.nf_laws.proofs.Present.{kept_leads}
use Rattle.nf_laws.proofs.Rows.{AreKept, kept_row}
use Rattle.nf_laws.proofs.Sources.{was_given}
use Rattle.nf_laws.specs.Access.{shares_without}
use Rattle.nf_laws.specs.Acts.{IsAdded}
use Rattle.nf_words.specs.Prelude.{AreSound, ended_row, LeadsToRoot}
use Rattle.nf_laws.proofs.Refilled.{IsFilledAt}

-- ---- the shares

-- what is present is rooted
rooted_is : (t : Tables) (node : ℕ) → AreSound t → LeadsToRoot t.nodes node → is_rooted t.nodes node ≡ true
rooted_is t node sound up = present_there.rooted t node sound ∙ (leads_present t node sound).0 up

-- and what is rooted is present
rooted_leads : (t : Tables) (node : ℕ) → AreSound t → is_rooted t.nodes node ≡ true → LeadsToRoot t.nodes node
rooted_leads t node sound is = (leads_present t node sound).1 (sym (present_there.rooted t node sound) ∙ is)

-- where of what is present just what passes a test isn't present afterwards, the shares of what passes end
pub shares_present : (t made : Tables) (goes : ℕ → Bool) → AreSound t → AreSound made
    → ((node : ℕ) → LeadsToRoot t.nodes node → goes node ≡ true → LeadsToRoot made.nodes node → ⊥)
    → ((node : ℕ) → LeadsToRoot t.nodes node → goes node ≡ false → LeadsToRoot made.nodes node)
    → shares_by goes t.shares ≡ shares_without made.nodes t.shares
shares_present t made goes sound later ends stays = each t.shares (λ k d within live. (sound.others.shares k d within).present live)
  where
    Live : ShareRow → Type 0
    Live share = share.ended ≡ false → LeadsToRoot t.nodes share.node

    same : (share : ShareRow) → Live share
        → (if goes share.node then ended_row share else share)
        ≡ (if share.ended || is_rooted made.nodes share.node then share else ended_row share)
    same share live = here share.ended (goes share.node) refl refl
      where
        here : (over going : Bool) → share.ended ≡ over → goes share.node ≡ going
            → (if going then ended_row share else share) ≡ (if over || is_rooted made.nodes share.node then share else ended_row share)
        here true true e f = ap (λ (b : Bool). record share { ended = b }) (sym e)
        here true false e f = refl
        here false true e f =
            let none = false_from_ne_true (is_rooted made.nodes share.node) (λ is. ends share.node (live e) f (rooted_leads made share.node later is)) in
            rw none refl
        here false false e f = rw (rooted_is made share.node later (stays share.node (live e) f)) refl

    each : (shares : List ShareRow) → All Live shares → shares_by goes shares ≡ shares_without made.nodes shares
    each [] live = refl
    each (share ∷ shares) live =
        λ i. same share (All-head Live share shares live) i ∷ each shares (All-tail Live share shares live) i

-- ---- what stays present

-- what is present and is there afterwards is present then
abbrev pub KeepsPresent : List NodeRow → List NodeRow → Type 0
KeepsPresent before after = (node : ℕ) → LeadsToRoot before node → is_some (node_row after node) ≡ true → LeadsToRoot after node

-- then the shares of nodes that are gone are those of nodes that aren't present any more
pub gone_present : (t made : Tables) → AreSound t → AreSound made → KeepsPresent t.nodes made.nodes
    → shares_gone t.nodes made.nodes t.shares ≡ shares_without made.nodes t.shares
gone_present t made sound later keeps =
    shares_present t made (is_gone_from t.nodes made.nodes) sound later
    (λ node up goes still.
    let both = and_parts (is_some (node_row t.nodes node)) (not (is_some (node_row made.nodes node))) goes in
    both_ways (is_some (node_row made.nodes node)) (not-true (is_some (node_row made.nodes node)) both.1) (climbs_there made.nodes node still))
    (λ node up stays.
    elim (and_cases (is_some (node_row t.nodes node)) (not (is_some (node_row made.nodes node))) stays) [
      | inl none ↦ absurd (both_ways (is_some (node_row t.nodes node)) none (climbs_there t.nodes node up))
      | inr there ↦ keeps node up (not-false (is_some (node_row made.nodes node)) there)
    ])

-- where a node is added, or refilled
pub added_present : (t made : Tables) (now folder : ℕ) (name : List ℕ) (kind : NodeKind) (content : List Piece) → AreSound t
    → IsAdded t made now folder name kind content → KeepsPresent t.nodes made.nodes
added_present t made now folder name kind content sound is node up there =
    kept_leads t.nodes made.nodes node (λ other old was.
    kept_row made.nodes other old (is.others other (λ same. omega (arith, was_given t other old sound was, same)) ∙ was)) up

pub filled_present : (before after : List NodeRow) (now node : ℕ) (content : List Piece) → IsFilledAt before after now node content
    → KeepsPresent before after
filled_present before after now node content is other up there = kept_leads before after other kept up
  where
    kept : AreKept before after
    kept one old was =
        elim (cases_Bool (one == node)) [
          | inl same ↦
              (let e = eqb-true one node same in
              let row : is.row ≡ old = same_Some is.row old (sym is.there ∙ ap (node_row before) (sym e) ∙ was) in
              record {
                row = record is.row { content = content; changed = now };
                there = ap (node_row after) e ∙ is.itself;
                owner = ap (λ (r : NodeRow). r.owner) row;
                place = ap (λ (r : NodeRow). r.place) row;
                name = ap (λ (r : NodeRow). r.name) row;
                kind = ap (λ (r : NodeRow). r.kind) row;
              })
          | inr other ↦ kept_row after one old (is.others one (λ e. both_ways (one == node) other (eq-eqb one node e)) ∙ was)
        ]

-- what has to go isn't there
pub still_there : (after : List NodeRow) (node : ℕ) → node_row after node ≡ None → is_some (node_row after node) ≡ true → ⊥
still_there after node none there = both_ways (is_some (node_row after node)) (ap is_some none) there
