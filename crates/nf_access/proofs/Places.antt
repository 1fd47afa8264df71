-- Grants stay where no place above a shared node changes.
use Rattle.std.proofs.Common.{ℕ, zero, suc, ◌≡◌, ◌&&◌, ◌||◌, Bool, false, not, List, [], ◌∷◌, Option, Some, None, refl, ap}
use Rattle.std.specs.Bool.{IsTrue}
use Rattle.std.specs.List.{cons_option, filter_map}
use Rattle.std.specs.Option.{option_map_or}
use Rattle.std.specs.Prelude.{◌==◌, if◌then◌else◌, unwrap_or}
use Rattle.nf_access.proofs.Chains.{found_chain}
use Rattle.nf_access.specs.Access.{IsChain, grant_by, grant_of}
use Rattle.nf_access.specs.Laws.{AreSamePlaces, GrantsStay}
use Rattle.nf_access.specs.Shares.{Ground, chain_of, chain_within, follows, receives, share_row, stands}
use Rattle.nf_base.specs.declared.limits.TheConstants.{MAX_CHAIN}
use Rattle.nf_base.specs.declared.limits.TheConstants.{MAX_DEPTH}
use Rattle.nf_base.specs.declared.rows.NodeRow.{NodeRow}
use Rattle.nf_base.specs.declared.rows.ShareRow.{ShareRow}
use Rattle.nf_defs.specs.Tree.{is_under, is_under_within, parent_of}
use Rattle.nf_defs.specs.declared.Grant.{Grant}

within_same : (k : ℕ) (rows rows' : List NodeRow) (Old : ℕ → Bool) (node top : ℕ) → AreSamePlaces rows rows' Old → IsTrue (Old node)
    → is_under_within k rows' node top ≡ is_under_within k rows node top
unfolding is_under_within
within_same zero rows rows' Old node top same old = refl
within_same (suc k) rows rows' Old node top same old =
    rw (same.parents node old)
    (ap (λ b. node == top || b)
    (onto (λ parent is. within_same k rows rows' Old parent top same (same.closed node parent old is)) (parent_of rows node) refl))
  where
    onto : ((parent : ℕ) → parent_of rows node ≡ Some parent → is_under_within k rows' parent top ≡ is_under_within k rows parent top)
        → (o : Option ℕ) → parent_of rows node ≡ o
        → option_map_or (λ parent. is_under_within k rows' parent top) o false ≡ option_map_or (λ parent. is_under_within k rows parent top) o false
    onto above None is = refl
    onto above (Some parent) is = above parent is

under_same : (rows rows' : List NodeRow) (Old : ℕ → Bool) (node top : ℕ) → AreSamePlaces rows rows' Old → IsTrue (Old node)
    → is_under rows' node top ≡ is_under rows node top
unfolding is_under
under_same rows rows' Old node top same old = within_same MAX_DEPTH rows rows' Old node top same old

-- each share's node was there
abbrev AreOld : Ground → (ℕ → Bool) → Type 0
AreOld g Old = (id : ℕ) (share : ShareRow) → share_row g.shares id ≡ Some share → IsTrue (Old share.node)

stands_same : (g : Ground) (rows' : List NodeRow) (Old : ℕ → Bool) (chain : List ShareRow) → AreSamePlaces g.nodes rows' Old → AreOld g Old
    → IsChain g.shares chain → stands (record g { nodes = rows' }) chain ≡ stands g chain
stands_same g rows' Old [] same old is = refl
stands_same g rows' Old (share ∷ []) same old is = refl
stands_same g rows' Old (share ∷ parent ∷ up) same old is =
    rw (under_same g.nodes rows' Old share.node parent.node same (old share.id share is.0))
    (ap (λ b. not share.ended && follows g parent share && b) (stands_same g rows' Old (parent ∷ up) same old is.2))

grant_same : (g : Ground) (rows' : List NodeRow) (Old : ℕ → Bool) (id : ℕ) → AreSamePlaces g.nodes rows' Old → AreOld g Old
    → grant_by (record g { nodes = rows' }) id (chain_of g.shares id) ≡ grant_by g id (chain_of g.shares id)
unfolding chain_of
grant_same g rows' Old id same old = over (chain_within MAX_CHAIN g.shares id) refl
  where
    over : (o : Option (List ShareRow)) → chain_within MAX_CHAIN g.shares id ≡ o
        → grant_by (record g { nodes = rows' }) id (unwrap_or o []) ≡ grant_by g id (unwrap_or o [])
    over None is = refl
    over (Some chain) is =
        let found = found_chain MAX_CHAIN g.shares id chain is in
        rw found.2 (rw (stands_same g rows' Old (found.0 ∷ found.1) same old found.4) refl)

each_same : (given given' : ShareRow → Option Grant) → ((share : ShareRow) → given' share ≡ given share)
    → (shares : List ShareRow) → filter_map given' shares ≡ filter_map given shares
each_same given given' same [] = refl
each_same given given' same (share ∷ shares) = rw (same share) (ap (cons_option (given share)) (each_same given given' same shares))

pub grants_stay_lem : GrantsStay
grants_stay_lem g rows' Old who node same old =
    each_same (grant_of g who node) (grant_of (record g { nodes = rows' }) who node)
    (λ share.
    ap (λ (o : Option Grant). if share.node == node && receives g.members who share then o else None) (grant_same g rows' Old share.id same old))
    g.shares
