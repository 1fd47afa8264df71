-- The shares of a group that somebody joins.
use Rattle.std.proofs.Common.{ℕ, ◌≤◌, ◌≡◌, not, List, filter, length, map, IsSome, is_some, refl, ap, arith}
use Rattle.std.specs.List.{All}
use Rattle.std.proofs.lemmas.Bool.{and_parts, not-true}
use Rattle.std.proofs.lemmas.List.{length-map}
use Rattle.std.proofs.lemmas.List.Elements.{All-filter, All-map, filter_passes}
use Rattle.std.proofs.lemmas.List.Filters.{length-filter_both}
use Rattle.std.proofs.lemmas.Simd.{map-map}
use Rattle.nf_access.specs.Mounts.{ensured_all}
use Rattle.nf_base.specs.declared.limits.TheConstants.{MAX_SHARES}
use Rattle.nf_base.specs.declared.rows.MemberRow.{MemberRow}
use Rattle.nf_base.specs.declared.rows.ShareRow.{ShareRow}
use Rattle.nf_defs.specs.Prelude.{node_row, Tables}
use Rattle.nf_words.proofs.Ways.{present_row}
use Rattle.nf_words.specs.Prelude.{AreSound, is_joined, IsShareSound, mounts_joined}

abbrev pub nodes_of : Tables → MemberRow → List ℕ
nodes_of t row = map (λ (share : ShareRow). share.node) (filter (is_joined row) t.shares)

-- what they are of is there, since none of them is ended
pub nodes_there : (t : Tables) (row : MemberRow) → AreSound t → All (λ (node : ℕ). IsSome (node_row t.nodes node)) (nodes_of t row)
nodes_there t row sound =
    All-map (λ (node : ℕ). IsSome (node_row t.nodes node)) (λ (share : ShareRow). share.node) (filter (is_joined row) t.shares)
    (λ k d within.
    let joined = filter_passes (is_joined row) t.shares k d within in
    let fine = All-filter (is_joined row) (IsShareSound t) t.shares sound.others.shares k d within in
    ap is_some (present_row t.nodes _ (fine.present (not-true _ (and_parts _ _ (and_parts _ _ joined).0).0))).1)

pub nodes_few : (t : Tables) (row : MemberRow) → AreSound t → length (nodes_of t row) ≤ MAX_SHARES
nodes_few t row sound =
    let all = length-filter_both (is_joined row) (λ (share : ShareRow). not (is_joined row share)) (λ _. refl) t.shares in
    omega (arith, length-map (filter (is_joined row) t.shares) (λ (share : ShareRow). share.node), sound.others.few_shares)

-- the mounts by the nodes are those by the shares
pub joined_by_nodes : (t : Tables) (row : MemberRow)
    → ensured_all t.users t.nodes (map (λ node. (row.user, node)) (nodes_of t row)) t.mounts ≡ mounts_joined t row
joined_by_nodes t row =
    ap (λ (ofs : List (ℕ × ℕ)). ensured_all t.users t.nodes ofs t.mounts)
    (map-map (λ (node : ℕ). (row.user, node)) (λ (share : ShareRow). share.node) (filter (is_joined row) t.shares))
