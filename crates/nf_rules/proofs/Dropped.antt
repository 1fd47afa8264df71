-- Versions that are dropped aren't there.
use Rattle.std.proofs.Common.{◌≡◌, ◌==◌, ◌∙◌, ℕ, inl, inr, not, true, false, List, [], ◌∷◌, get_or, map, refl, ap, bytes_eq}
use Rattle.std.specs.List.{All, Contains, list_any}
use Rattle.std.proofs.lemmas.Bool.{and_parts, both_ways, cases_Bool, eqb-true, not-true, or_from}
use Rattle.std.proofs.lemmas.List.Elements.{All-contains, All-contains_itself, filter_passes}
use Rattle.std.proofs.lemmas.Slice.Eq.{bytes_eq-Decides}
use Rattle.nf_base.specs.declared.rows.VersionRow.{VersionRow}
use Rattle.nf_defs.specs.Prelude.{made, put_all, Tables, version_key}
use Rattle.nf_laws.proofs.Turning.{drops_fewer}
use Rattle.nf_retention.specs.declared.versions.Version.{Version}
use Rattle.nf_words.specs.Versions.{drop_version, is_version}

-- a version that is dropped isn't there
pub dropped_not : (version : Version) (row : VersionRow) → not (bytes_eq (version.node ∷ version.at ∷ []) (version_key row)) ≡ true
    → is_version row.node row.at version ≡ false
dropped_not version row other =
    elim (cases_Bool (is_version row.node row.at version)) [
      | inl is ↦
          (let both = and_parts (version.node == row.node) (version.at == row.at) is in
          let key : version.node ∷ version.at ∷ [] ≡ version_key row =
          ap (λ (n : ℕ). n ∷ version.at ∷ []) (eqb-true version.node row.node both.0)
          ∙ ap (λ (n : ℕ). row.node ∷ n ∷ []) (eqb-true version.at row.at both.1) in
          absurd (both_ways (bytes_eq (version.node ∷ version.at ∷ []) (version_key row))
          (not-true (bytes_eq (version.node ∷ version.at ∷ []) (version_key row)) other)
          ((bytes_eq-Decides (version.node ∷ version.at ∷ []) (version_key row)).1 key)))
      | inr not ↦ not
    ]

-- none of those that are dropped is left
pub drops_left : (u : Tables) (gone : List Version)
    → All (λ (row : VersionRow). list_any (is_version row.node row.at) gone ≡ false) (put_all u (map drop_version gone)).versions
drops_left u [] k d within = refl
drops_left u (version ∷ gone) k d within =
    let left = made u (drop_version version) in
    let row = get_or (put_all left (map drop_version gone)).versions k d in
    let among : Contains left.versions row = drops_fewer left left gone (All-contains_itself left.versions) k d within in
    let NotIt : VersionRow → Type 0 = λ row. not (bytes_eq (version.node ∷ version.at ∷ []) (version_key row)) ≡ true in
    or_from (is_version row.node row.at version) (list_any (is_version row.node row.at) gone)
    (dropped_not version row (All-contains NotIt left.versions row
    (filter_passes (λ (row : VersionRow). not (bytes_eq (version.node ∷ version.at ∷ []) (version_key row))) u.versions) among))
    (drops_left left gone k d within)
