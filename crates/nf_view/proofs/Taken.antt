-- How many names are taken in a folder.
use Rattle.std.proofs.Common.{◌≤◌, ◌+◌, ◌==◌, ℕ, Bool, true, false, not, List, [], filter, length, if◌then◌else◌, refl, arith}
use Rattle.std.proofs.lemmas.List.{length-map}
use Rattle.std.proofs.lemmas.List.Filters.{length-filter_both}
use Rattle.nf_access.specs.Mounts.{names_in_root, root_folder}
use Rattle.nf_access.proofs.Naming.{names_few}
use Rattle.nf_base.specs.declared.limits.TheConstants.{MAX_MOUNTS, MAX_NODES}
use Rattle.nf_base.specs.declared.rows.NodeRow.{NodeRow}
use Rattle.nf_defs.specs.Prelude.{is_in, taken_names, Tables}
use Rattle.nf_words.specs.Prelude.{AreSound, names_taken_in}

-- no more names are taken in a folder than there may be nodes and mounts
pub taken_few : (t : Tables) (user folder : ℕ) → AreSound t → length (names_taken_in t user folder) ≤ MAX_NODES + MAX_MOUNTS
taken_few t user folder sound = here (folder == root_folder t.users user)
  where
    children : List NodeRow
    children = filter (is_in folder) t.nodes

    here : (b : Bool) → length (if b then names_in_root t.users t.nodes t.mounts user else taken_names t.nodes folder) ≤ MAX_NODES + MAX_MOUNTS
    here true = omega (arith, names_few t.users t.nodes t.mounts user, sound.few_nodes, sound.others.few_mounts)
    here false =
        omega (arith, length-map children (λ (row : NodeRow). row.name), length-filter_both (is_in folder) (λ row. not (is_in folder row)) (λ row. refl) t.nodes, sound.few_nodes)
