-- The shares of a node that nothing is in, found by it.
use Rattle.std.proofs.Common.{◌≡◌, ◌==◌, ℕ, Bool, true, false, not, List, [], ◌∷◌, ◌++◌, ◌&&◌, Option, inl, inr, map, filter, if◌then◌else◌, refl, sym, ap, subst, ◌∙◌}
use Rattle.std.specs.List.{flat_map}
use Rattle.std.specs.Option.{option_map_or}
use Rattle.std.proofs.Math.Bool.{and-false}
use Rattle.std.proofs.lemmas.Bool.{cases_Bool}
use Rattle.std.proofs.lemmas.List.{append_assoc, map-append}
use Rattle.std.proofs.lemmas.List.Elements.{filter-append}
use Rattle.std.proofs.lemmas.List.Folds.{flat_map-map}
use Rattle.nf_access.specs.Shares.{share_row}
use Rattle.nf_base.specs.declared.changes.Change.{Change}
use Rattle.nf_base.specs.declared.changes.Change.TheVariants.{Put}
use Rattle.nf_base.specs.declared.rows.Row.TheVariants as rows
use Rattle.nf_base.specs.declared.rows.NodeRow.{NodeRow}
use Rattle.nf_base.specs.declared.rows.ShareRow.{ShareRow}
use Rattle.nf_defs.proofs.Climbs.{under_leaf}
use Rattle.nf_defs.specs.Prelude.{IsRising, share_key, Tables}
use Rattle.nf_defs.specs.Tree.{is_leaf}
use Rattle.nf_shares.proofs.Ending.{seam_there}
use Rattle.nf_shares.specs.Kept.{ids_of}
use Rattle.nf_shares.specs.declared.entries.Entry.{Entry}
use Rattle.nf_words.specs.Deeds.{closed_under, ended_row, is_closing}
use Rattle.nf_state.specs.Gone.{closed_entry}

abbrev closed_at : List NodeRow → List ShareRow → ℕ → ℕ → List Change
closed_at nodes shares leaf id = option_map_or (λ share. closed_under nodes (share ∷ []) leaf) (share_row shares id) []

abbrev closing : ShareRow → Change
closing share = Put (rows.Share (ended_row share))

closed_more : (nodes : List NodeRow) (leaf : ℕ) (row : ShareRow) (rest : List ShareRow)
    → closed_under nodes (row ∷ rest) leaf ≡ closed_under nodes (row ∷ []) leaf ++ closed_under nodes rest leaf
closed_more nodes leaf row rest =
    ap (map closing) (filter-append (is_closing nodes leaf) (row ∷ []) rest)
    ∙ map-append closing (filter (is_closing nodes leaf) (row ∷ [])) (filter (is_closing nodes leaf) rest)

not_closing : (nodes : List NodeRow) (leaf : ℕ) (row : ShareRow) → is_leaf nodes leaf ≡ true → (row.node == leaf) ≡ false → is_closing nodes leaf row ≡ false
not_closing nodes leaf row is off =
    ap (λ (under : Bool). not row.ended && under) (under_leaf nodes row.node leaf is ∙ off) ∙ and-false (not row.ended)

closed_from : (nodes : List NodeRow) (leaf : ℕ) (front rest : List ShareRow) → is_leaf nodes leaf ≡ true → IsRising share_key (front ++ rest)
    → flat_map (closed_at nodes (front ++ rest) leaf) (ids_of (λ row. row.node == leaf) rest) ≡ closed_under nodes rest leaf
closed_from nodes leaf front [] is rising = refl
closed_from nodes leaf front (row ∷ rest) is rising =
    let shares = front ++ row ∷ rest in
    let apart = append_assoc front (row ∷ []) rest in
    let more : flat_map (closed_at nodes shares leaf) (ids_of (λ row. row.node == leaf) rest) ≡ closed_under nodes rest leaf =
    subst (λ (all : List ShareRow). flat_map (closed_at nodes all leaf) (ids_of (λ row. row.node == leaf) rest) ≡ closed_under nodes rest leaf) apart
    (closed_from nodes leaf (front ++ row ∷ []) rest is (subst (IsRising share_key) (sym apart) rising)) in
    elim (cases_Bool (row.node == leaf)) [
      | inl on ↦
          rw on
          (ap (λ (own : Option ShareRow).
          option_map_or (λ share. closed_under nodes (share ∷ []) leaf) own []
          ++ flat_map (closed_at nodes shares leaf) (ids_of (λ row. row.node == leaf) rest)) (seam_there front row rest rising)
          ∙ ap (λ (changes : List Change). closed_under nodes (row ∷ []) leaf ++ changes) more
          ∙ sym (closed_more nodes leaf row rest))
      | inr off ↦
          rw off
          (more
          ∙ sym (ap (λ (is : Bool). map closing (if is then row ∷ filter (is_closing nodes leaf) rest else filter (is_closing nodes leaf) rest))
          (not_closing nodes leaf row is off)))
    ]

pub closed_on : (t : Tables) (leaf : ℕ) (entries : List (Entry ℕ)) → is_leaf t.nodes leaf ≡ true → IsRising share_key t.shares
    → map (λ (entry : Entry ℕ). entry.share) entries ≡ ids_of (λ row. row.node == leaf) t.shares
    → flat_map (λ (entry : Entry ℕ). closed_entry t leaf entry.share) entries ≡ closed_under t.nodes t.shares leaf
closed_on t leaf entries is rising numbers =
    sym (flat_map-map (closed_entry t leaf) (λ (entry : Entry ℕ). entry.share) entries)
    ∙ ap (flat_map (closed_entry t leaf)) numbers
    ∙ closed_from t.nodes leaf [] t.shares is rising
