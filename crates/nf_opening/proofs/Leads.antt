-- The way from a node to a top, step by step.
use Rattle.std.proofs.Common.{◌≡◌, ℕ, zero, suc, ◌+◌, ◌==◌, ◌&&◌, Bool, true, false, cond, Option, None, Some, refl, sym, ap, ◌∙◌, arith}
use Rattle.std.specs.Option.{option_and_then, option_map_or}
use Rattle.nf_base.specs.declared.rows.NodeRow.{NodeRow}
use Rattle.nf_base.specs.declared.rows.Place.{Place}
use Rattle.nf_base.specs.declared.rows.Place.TheVariants.{Root, Inside, Trash}
use Rattle.nf_defs.specs.Prelude.{is_folder_kind, node_row, Tables}
use Rattle.nf_rules.specs.Rules.{leads_from, leads_within}
use Rattle.nf_opening.specs.Ways.{above_in, folder_above, is_own_top, is_top_at}

-- ---- one step

module _ (t : Tables) (row : NodeRow) (onward : NodeRow → Bool) where
  no_folder : (parent : Option NodeRow)
      → option_and_then (λ (p : NodeRow). cond (is_folder_kind p.kind && p.owner == row.owner) (Some p) None) parent ≡ None
      → option_map_or (λ (p : NodeRow). is_folder_kind p.kind && p.owner == row.owner && onward p) parent false ≡ false
  no_folder None none = refl
  no_folder (Some p) none = one (is_folder_kind p.kind) (p.owner == row.owner) none
    where
      one : (a b : Bool) → cond (a && b) (Some p) None ≡ None → (a && b && onward p) ≡ false
      one true true none = absurd cc
      one true false none = refl
      one false true none = refl
      one false false none = refl

  a_folder : (parent : Option NodeRow) (up : NodeRow)
      → option_and_then (λ (p : NodeRow). cond (is_folder_kind p.kind && p.owner == row.owner) (Some p) None) parent ≡ Some up
      → option_map_or (λ (p : NodeRow). is_folder_kind p.kind && p.owner == row.owner && onward p) parent false ≡ onward up
  a_folder None up is = absurd cc
  a_folder (Some p) up is = one (is_folder_kind p.kind) (p.owner == row.owner) is
    where
      one : (a b : Bool) → cond (a && b) (Some p) None ≡ Some up → (a && b && onward p) ≡ onward up
      one true true is = let same : p ≡ up = cc in ap onward same
      one true false is = absurd cc
      one false true is = absurd cc
      one false false is = absurd cc

  no_step : (place : Place) → above_in t row.owner place ≡ None → leads_from t row place onward ≡ is_top_at t row place
  no_step Root none = refl
  no_step (Inside folder) none = no_folder (node_row t.nodes folder) none
  no_step Trash none = refl

  one_step : (place : Place) (up : NodeRow) → above_in t row.owner place ≡ Some up → leads_from t row place onward ≡ onward up
  one_step Root up is = absurd cc
  one_step (Inside folder) up is = a_folder (node_row t.nodes folder) up is
  one_step Trash up is = absurd cc

-- no top is in a folder
no_top : (t : Tables) (row up : NodeRow) (place : Place) → above_in t row.owner place ≡ Some up → is_top_at t row place ≡ false
no_top t row up Root is = absurd cc
no_top t row up (Inside folder) is = refl
no_top t row up Trash is = absurd cc

-- ---- within so many steps

pub leads_none : (k : ℕ) (t : Tables) (row : NodeRow) → folder_above t row ≡ None → leads_within k t row ≡ is_own_top t row
unfolding leads_within
leads_none zero t row none = no_step t row (λ parent. false) row.place none
leads_none (suc k) t row none = no_step t row (leads_within k t) row.place none

pub leads_up : (k j : ℕ) (t : Tables) (row up : NodeRow) → j ≡ k + 1 → folder_above t row ≡ Some up → leads_within j t row ≡ leads_within k t up
unfolding leads_within
leads_up k zero t row up more is = absurd (omega arith)
leads_up k (suc j) t row up more is =
    let e : j ≡ k = omega arith in
    one_step t row (leads_within j t) row.place up is ∙ ap (λ (n : ℕ). leads_within n t up) e

pub leads_zero : (k : ℕ) (t : Tables) (row : NodeRow) → k ≡ 0 → leads_within k t row ≡ is_own_top t row
unfolding leads_within
leads_zero k t row none = ap (λ (n : ℕ). leads_within n t row) none ∙ here (folder_above t row) refl
  where
    here : (above : Option NodeRow) → folder_above t row ≡ above → leads_within 0 t row ≡ is_own_top t row
    here None e = no_step t row (λ parent. false) row.place e
    here (Some up) e = one_step t row (λ parent. false) row.place up e ∙ sym (no_top t row up row.place e)
