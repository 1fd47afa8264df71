-- Who may do an act, as a derivation: owners, and those whom a chain of live shares reaches.
use Rattle.std.proofs.Common.{ℕ, ◌≡◌, ◌↔◌, ◌⊎◌, ◌||◌, false, true, Bool, Option, None, Some, ap, ◌∙◌, inl, inr}
use Rattle.std.specs.List.{list_any}
use Rattle.std.specs.Option.{option_map_or}
use Rattle.std.proofs.Math.Bool.{or-true}
use Rattle.std.proofs.lemmas.Bool.{or_cases}
use Rattle.nf_access.proofs.Granted.{grants_are_chains_lem}
use Rattle.nf_access.specs.Access.{allows}
use Rattle.nf_access.specs.Shares.{ground_of}
use Rattle.nf_base.specs.declared.perms.Act.{Act}
use Rattle.nf_defs.specs.declared.Seeker.{Seeker}
use Rattle.nf_laws.proofs.May.{own_may, owns}
use Rattle.nf_laws.specs.Access.{IsReached, OwnersAndReachedMay, Owns}
use Rattle.nf_words.proofs.Ways.{bounded}
use Rattle.nf_words.specs.Prelude.{access_of, is_owner, IsSound, may_by, State}

-- ---- who may

module _ (s : State) (seeker : Seeker) (now : ℕ) (act : Act) (node : ℕ) (sound : IsSound s) where
  abbrev granted : Option ℕ → Bool
  granted mount = option_map_or (λ shared. list_any (allows now act) (access_of s seeker shared)) mount false

  abbrev by_chains_lem : (mount : ℕ) → (granted (Some mount) ≡ true) ↔ IsReached s seeker now act (Some mount)
  by_chains_lem mount = grants_are_chains_lem (ground_of s.tables) now seeker act mount (bounded s.tables sound.rows)

  reached : (mount : Option ℕ) → granted mount ≡ true → IsReached s seeker now act mount
  reached None is = absurd (cc)
  reached (Some mount) is = (by_chains_lem mount).0 is

  is_granted : (mount : Option ℕ) → IsReached s seeker now act mount → granted mount ≡ true
  is_granted None is = absurd is
  is_granted (Some mount) is = (by_chains_lem mount).1 is

  pub may_so : (mount : Option ℕ) → may_by (access_of s) s.tables.nodes seeker now act node mount ≡ true
      → Owns s.tables.nodes seeker node ⊎ IsReached s seeker now act mount
  may_so mount may = elim (or_cases (is_owner s.tables.nodes seeker node) (granted mount) may) [
    | inl own ↦ inl (owns s.tables.nodes seeker node own)
    | inr is ↦ inr (reached mount is)
  ]

  pub so_may : (mount : Option ℕ) → Owns s.tables.nodes seeker node ⊎ IsReached s seeker now act mount
      → may_by (access_of s) s.tables.nodes seeker now act node mount ≡ true
  so_may mount (inl own) = own_may (access_of s) s.tables.nodes seeker now act node mount own
  so_may mount (inr is) = ap (λ (b : Bool). is_owner s.tables.nodes seeker node || b) (is_granted mount is) ∙ or-true (is_owner s.tables.nodes seeker node)

pub owners_and_reached : OwnersAndReachedMay
owners_and_reached s seeker now act node mount sound = (may_so s seeker now act node sound mount, so_may s seeker now act node sound mount)
