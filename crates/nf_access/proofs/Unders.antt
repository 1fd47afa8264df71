-- What is passed on is under what was shared first.
use Rattle.std.proofs.Common.{ℕ, List, [], ◌∷◌, ◌++◌}
use Rattle.std.proofs.lemmas.List.Elements.{All-cons, All-head, All-nil}
use Rattle.nf_access.specs.Access.{Under, itself, inside}
use Rattle.nf_access.specs.Laws.{ChainsStayUnder}
use Rattle.nf_access.specs.Shares.{Ground}
use Rattle.nf_base.specs.declared.rows.NodeRow.{NodeRow}
use Rattle.nf_base.specs.declared.rows.ShareRow.{ShareRow}

under_both : (rows : List NodeRow) (top middle node : ℕ) → Under rows top middle → Under rows middle node → Under rows top node
under_both rows top middle _ above itself = above
under_both rows top middle _ above (inside node parent is below) = inside node parent is (under_both rows top middle parent above below)

abbrev IsUnder : Ground → ShareRow → ShareRow → Type 0
IsUnder g first share = Under g.nodes first.node share.node

pub chains_stay_under_lem : ChainsStayUnder
chains_stay_under_lem g [] first stands = All-cons (IsUnder g first) first [] itself (All-nil (IsUnder g first))
chains_stay_under_lem g (share ∷ []) first stands =
    All-cons (IsUnder g first) share (first ∷ []) stands.1.under (chains_stay_under_lem g [] first stands.2)
chains_stay_under_lem g (share ∷ parent ∷ below) first stands =
    let rest = chains_stay_under_lem g (parent ∷ below) first stands.2 in
    All-cons (IsUnder g first) share (parent ∷ below ++ first ∷ [])
    (under_both g.nodes first.node parent.node share.node (All-head (IsUnder g first) parent (below ++ first ∷ []) rest) stands.1.under) rest
