-- No more grants are there than shares.
use Rattle.std.proofs.Common.{◌≡◌, ◌∙◌, ℕ, ◌+◌, ◌*◌, ◌<◌, ◌≤◌, List, [], ◌∷◌, Option, None, Some, length, get_or, take, sym, ap, arith}
use Rattle.std.specs.Prelude.{filter_map}
use Rattle.std.specs.List.{cons_option}
use Rattle.std.proofs.lemmas.List.Sums.{sum_by_more}
use Rattle.nf_access.specs.Access.{by_chains, grant_of}
use Rattle.nf_access.specs.Shares.{Ground}
use Rattle.nf_base.specs.declared.limits.TheConstants.{MAX_SHARES}
use Rattle.nf_base.specs.declared.rows.NodeRow.{NodeRow}
use Rattle.nf_defs.specs.declared.Seeker.{Seeker}
use Rattle.nf_defs.specs.declared.Seeker.TheVariants.{User}
use Rattle.nf_site.specs.Totals.{grants_in}

with_first : {A : Type 0} (o : Option A) (l : List A) (n : ℕ) → length l ≤ n → length (cons_option o l) ≤ n + 1
with_first None l n few = omega arith
with_first (Some a) l n few = omega arith

few_kept : {X A : Type 0} (f : X → Option A) (xs : List X) → length (filter_map f xs) ≤ length xs
few_kept f [] = omega arith
few_kept f (x ∷ xs) = omega (arith, with_first (f x) (filter_map f xs) (length xs) (few_kept f xs))

pub few_grants : (g : Ground) (who : Seeker) (node : ℕ) → length (by_chains g who node) ≤ length g.shares
few_grants g who node = few_kept (grant_of g who node) g.shares

-- with the grants on one node more
pub one_node : (g : Ground) (user : ℕ) (nodes : List NodeRow) (at count more : ℕ) (node : NodeRow) → at < length nodes → node ≡ get_or nodes at node
    → more ≡ length (by_chains g (User user) node.id) → length g.shares ≤ MAX_SHARES
    → (count ≡ grants_in g (take at nodes) user) × (count ≤ MAX_SHARES * at)
    → (count + more ≡ grants_in g (take (at + 1) nodes) user) × (count + more ≤ MAX_SHARES * (at + 1))
one_node g user nodes at count more node less is are few so =
    let each = λ (n : NodeRow). length (by_chains g (User user) n.id) in
    let step = sum_by_more each nodes at node less in
    let here : each (get_or nodes at node) ≡ more = ap each (sym is) ∙ sym are in
    (omega (arith, so.0, step, here), omega (arith, so.1, are, few_grants g (User user) node.id, few))
