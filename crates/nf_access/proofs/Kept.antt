-- Rows that are loaded in order have what the laws of access ask of them.
use Rattle.std.proofs.Common.{ℕ, zero, suc, ◌≡◌, ◌≤◌, true, List, [], ◌∷◌, Option, Some, None, refl, ap, sym, subst, ◌∙◌, arith, All, get_or, length, option_map}
use Rattle.std.specs.Bool.{IsTrue}
use Rattle.std.specs.List.{Contains}
use Rattle.std.specs.Option.{is_some, option_and_then}
use Rattle.std.specs.Prelude.{◌==◌}
use Rattle.std.proofs.lemmas.Bool.{eq-eqb, eqb-true, false≢true, or_right}
use Rattle.std.proofs.lemmas.Bool.Decides.{nat_tests}
use Rattle.std.proofs.lemmas.List.Elements.{All-cons, All-contains, All-nil}
use Rattle.std.proofs.lemmas.Option.{none-some, option_and_then_some, same_Some}
use Rattle.nf_access.proofs.Chains.{found_chain, own_row}
use Rattle.nf_access.proofs.LookUps.{find_among}
use Rattle.nf_access.specs.Access.{IsChain, Under, itself, inside}
use Rattle.nf_access.specs.Kept.{ChainedIsBounded, IsShallow}
use Rattle.nf_access.specs.Shares.{chain_up, chain_within, share_row}
use Rattle.nf_base.specs.declared.limits.TheConstants.{MAX_CHAIN}
use Rattle.nf_base.specs.declared.limits.TheConstants.{MAX_DEPTH}
use Rattle.nf_base.specs.declared.rows.NodeRow.{NodeRow}
use Rattle.nf_base.specs.declared.rows.ShareRow.{ShareRow}
use Rattle.nf_defs.proofs.Puts.{below_one, below_rest, tail_rising}
use Rattle.nf_defs.specs.Keys.{share_key}
use Rattle.nf_defs.specs.Rising.{IsRising}
use Rattle.nf_defs.specs.Tree.{climb, folder_of, is_under, is_under_within, node_row, parent_of}

-- by rising number, each share is found by its own
pub share_row_each : (shares : List ShareRow) → IsRising share_key shares → All (λ (share : ShareRow). share_row shares share.id ≡ Some share) shares
share_row_each [] rising = All-nil (λ (share : ShareRow). share_row [] share.id ≡ Some share)
share_row_each (share ∷ shares) rising =
    All-cons (λ (own : ShareRow). share_row (share ∷ shares) own.id ≡ Some own) share shares (grind (arith, nat_tests))
    (λ k d within.
    let less = below_one share.id (get_or shares k d).id (below_rest share_key share shares rising k d within) in
    let rest = share_row_each shares (tail_rising share_key share shares rising) k d within in
    grind (arith, nat_tests))

-- ---- chains

some_there : {X : Type 0} (o : Option X) → IsTrue (is_some o) → (x : X) × (o ≡ Some x)
some_there None some = absurd (false≢true some)
some_there (Some x) some = (x, refl)

some_map : {X Y : Type 0} (f : X → Y) (o : Option X) → IsTrue (is_some (option_map f o)) → IsTrue (is_some o)
some_map f None some = some
some_map f (Some x) some = refl

-- a chain is no longer than what finds it may go
chain_short : (k : ℕ) (shares : List ShareRow) (share : ShareRow) (up : List ShareRow) → IsChain shares (share ∷ up)
    → IsTrue (is_some (chain_within k shares share.id)) → length (share ∷ up) ≤ k
unfolding chain_within
chain_short zero shares share up chain found = absurd (false≢true found)
chain_short (suc k) shares share [] chain found = omega arith
chain_short (suc k) shares share (parent ∷ up) chain found =
    let above = subst (λ (o : Option ℕ). IsTrue (is_some (chain_up share o (chain_within k shares)))) chain.1 (rw chain.0 at found) in
    let rest = chain_short k shares parent up chain.2 (some_map (λ up. share ∷ up) (chain_within k shares parent.id) above) in
    omega arith

-- ---- places

within_itself : (k : ℕ) (rows : List NodeRow) (node : ℕ) → is_under_within k rows node node ≡ true
unfolding is_under_within
within_itself zero rows node = eq-eqb node node refl
within_itself (suc k) rows node = rw (eq-eqb node node refl) refl

-- as many steps as lead a node to the end of its climb lead it to any top that it is under
climb_shallow : (rows : List NodeRow) (top last k steps node : ℕ) → climb rows steps node ≡ Some last → parent_of rows last ≡ None → steps ≤ k
    → Under rows top node → is_under_within k rows node top ≡ true
unfolding is_under_within
climb_shallow rows top last k steps _ climbs ends few itself = within_itself k rows top
climb_shallow rows top last k zero node climbs ends few (inside _ parent above under) =
    absurd (none-some parent (sym ends ∙ ap (parent_of rows) (sym (same_Some node last climbs)) ∙ above))
climb_shallow rows top last zero (suc steps) node climbs ends few (inside _ parent above under) = absurd (omega (arith, few))
climb_shallow rows top last (suc k) (suc steps) node climbs ends few (inside _ parent above under) =
    or_right (node == top) _
    (rw above (climb_shallow rows top last k steps parent (ap (option_and_then (climb rows steps)) (sym above) ∙ climbs) ends (omega (arith, few)) under))

-- so it is where each node's climb ends: a node that isn't there is under none but itself
under_shallow : (rows : List NodeRow) (node top : ℕ) → All (λ (row : NodeRow). IsShallow rows row.id) rows → Under rows top node
    → is_under rows node top ≡ true
unfolding is_under
under_shallow rows _ top shallow itself = within_itself MAX_DEPTH rows top
under_shallow rows node top shallow (inside _ parent above under) =
    option_and_then_some (λ row. folder_of row.place) (node_row rows node) parent above
    (λ row there _.
    let among = find_among (λ row. row.id == node) rows row there in
    let leads = All-contains (λ (row : NodeRow). IsShallow rows row.id) rows row shallow among.0 in
    let own = subst (IsShallow rows) (eqb-true row.id node among.1) leads in
    climb_shallow rows top own.top MAX_DEPTH own.steps node own.climbs own.ends own.few (inside node parent above under))

-- ---- what is chained is bounded

pub chained_is_bounded_lem : ChainedIsBounded
chained_is_bounded_lem g kept = record {
  numbered = own;
  chained = λ share among.
      let found = some_there (chain_within MAX_CHAIN g.shares share.id) (short share among) in
      let chain = found_chain MAX_CHAIN g.shares share.id found.0 found.1 in
      let same = same_Some chain.0 share (sym (own_row g.shares chain.0 chain.1 chain.4) ∙ ap (share_row g.shares) chain.3 ∙ own share among) in
      (chain.1, subst (λ (first : ShareRow). IsChain g.shares (first ∷ chain.1)) same chain.4);
  short = no_longer;
  shallow = λ node top under. under_shallow g.nodes node top kept.shallow under;
}
  where
    own : (share : ShareRow) → Contains g.shares share → share_row g.shares share.id ≡ Some share
    own share among =
        All-contains (λ (share : ShareRow). share_row g.shares share.id ≡ Some share) g.shares share (share_row_each g.shares kept.rising) among

    short : (share : ShareRow) → Contains g.shares share → IsTrue (is_some (chain_within MAX_CHAIN g.shares share.id))
    short share among = All-contains (λ (share : ShareRow). IsTrue (is_some (chain_within MAX_CHAIN g.shares share.id))) g.shares share kept.chained among

    no_longer : (chain : List ShareRow) → IsChain g.shares chain → length chain ≤ MAX_CHAIN
    no_longer [] is = absurd is
    no_longer (share ∷ up) is =
        let among = find_among (λ row. row.id == share.id) g.shares share (own_row g.shares share up is) in
        chain_short MAX_CHAIN g.shares share up is (short share among.0)
