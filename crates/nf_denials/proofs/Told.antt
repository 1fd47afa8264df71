-- What is told of who is refused.
use Rattle.std.proofs.Common.{◌≡◌, ℕ, Bool, true, false, Option, None, Some, option_map, if◌then◌else◌, refl, sym, subst}
use Rattle.std.specs.Prelude.{find}
use Rattle.std.specs.List.{list_any}
use Rattle.std.specs.Option.{option_map_or}
use Rattle.std.proofs.lemmas.Bool.{not-true, or_parts}
use Rattle.std.proofs.lemmas.Option.{same_Some}
use Rattle.nf_access.proofs.Breaks.{broken_is_found_lem}
use Rattle.nf_access.proofs.LookUps.{find_among}
use Rattle.nf_access.specs.Access.{allows, by_chains, is_open}
use Rattle.nf_access.specs.Broken.{broken_in, first_received}
use Rattle.nf_access.specs.Laws.{IsRefused}
use Rattle.nf_access.specs.Shares.{Ground, chain_of, ground_of}
use Rattle.nf_access.specs.declared.Cause.{Cause}
use Rattle.nf_base.specs.declared.perms.Act.{Act}
use Rattle.nf_base.specs.declared.rows.ShareRow.{ShareRow}
use Rattle.nf_defs.specs.declared.Seeker.{Seeker}
use Rattle.nf_words.proofs.Ways.{bounded}
use Rattle.nf_words.specs.Prelude.{access_of, broken_by, is_owner, is_refused, IsSound, may_by, Need, need_broken, State, told_broken}
use Rattle.nf_words.specs.declared.answer.Denial.TheVariants.{NoShare}
use Rattle.nf_denials.specs.Laws.{ActsAreTold, IsShut, IsShutBy, IsTold, IsUnmet, UnreachedIsTold}

-- who is refused on a node is told its first broken link
shut_by : (s : State) (who : Seeker) (now : ℕ) (act : Option Act) (mount : ℕ) → IsSound s → IsRefused (ground_of s.tables) now who act mount
    → IsShut (ground_of s.tables) now who act mount (broken_by (ground_of s.tables) who now act mount)
shut_by s who now act mount sound refused = record { refused = refused; told = here (first_received g.members g.shares who mount) refl }
  where
    g : Ground
    g = ground_of s.tables

    here : (o : Option ShareRow) → first_received g.members g.shares who mount ≡ o
        → IsTold g now who act mount (option_map_or (λ share. told_broken (broken_in g now act None (chain_of g.shares share.id))) o NoShare)
    here None e = e
    here (Some share) e =
        let is = broken_is_found_lem g now who act mount share (bounded s.tables sound.rows) refused e in
        subst (λ (o : Option (ℕ × Cause)). IsTold g now who act mount (told_broken o)) (sym is.found)
        (record { share = share; received = e; broken = is.first })

pub unreached_told : UnreachedIsTold
unreached_told s who now mount denial sound is = here (list_any (is_open now) (by_chains (ground_of s.tables) who mount)) refl is
  where
    g : Ground
    g = ground_of s.tables

    here : (open_one : Bool) → list_any (is_open now) (by_chains g who mount) ≡ open_one
        → (if open_one then None else Some (broken_by g who now None mount)) ≡ Some denial → IsShut g now who None mount denial
    here true e is = absurd (cc)
    here false e is = subst (IsShut g now who None mount) (same_Some _ denial is) (shut_by s who now None mount sound e)

pub acts_told : ActsAreTold
acts_told s who now needs denial sound is = here (find (is_refused (access_of s) s.tables.nodes who now) needs) refl is
  where
    g : Ground
    g = ground_of s.tables

    shut : (act : Act) (node : ℕ) (mount : Option ℕ) → may_by (access_of s) s.tables.nodes who now act node mount ≡ false
        → option_map_or (broken_by g who now (Some act)) mount NoShare ≡ denial → IsShutBy g now who act mount denial
    shut act node None unmet told = sym told
    shut act node (Some mount) unmet told =
        subst (IsShut g now who (Some act) mount) told
        (shut_by s who now (Some act) mount sound
        (or_parts (is_owner s.tables.nodes who node) (list_any (allows now act) (by_chains g who mount)) unmet).1)

    here : (o : Option Need) → find (is_refused (access_of s) s.tables.nodes who now) needs ≡ o
        → option_map (need_broken g who now) o ≡ Some denial → IsUnmet s now who needs denial
    here None e is = absurd (cc)
    here (Some need) e is =
        let found = find_among (is_refused (access_of s) s.tables.nodes who now) needs need e in
        let unmet = not-true (may_by (access_of s) s.tables.nodes who now need.act need.node need.mount) found.1 in
        record {
          need = need;
          among = found.0;
          unmet = unmet;
          shut = shut need.act need.node need.mount unmet (same_Some _ denial is);
        }
