-- The tests of a chain say what its derivation says.
use Rattle.std.proofs.Common.{ℕ, zero, suc, ◌≡◌, ◌&&◌, Bool, true, false, not, List, [], ◌∷◌, Option, Some, None, refl, ap, sym, subst, ◌∙◌, ⊎_elim, arith, All}
use Rattle.std.specs.Bool.{Decides, IsTrue}
use Rattle.std.specs.List.{list_all}
use Rattle.std.specs.Prelude.{◌==◌}
use Rattle.std.proofs.Math.Bool.{and-true}
use Rattle.std.proofs.lemmas.Bool.{eqb-true, not-true, not_from_false, or_cases}
use Rattle.std.proofs.lemmas.Bool.Decides.{Decides-and, Decides-at, Decides-by_and, Decides-like, nat_tests}
use Rattle.nf_access.proofs.LookUps.{holds_some}
use Rattle.nf_access.specs.Access.{Follows, Stands, Under, itself, inside}
use Rattle.nf_access.specs.Laws.{IsBounded}
use Rattle.nf_access.specs.Shares.{Ground, earlier, end_of, follows, is_before, mask_of, receives, stands}
use Rattle.nf_base.proofs.Bits.{has-bit_and}
use Rattle.nf_base.specs.Perms.{has}
use Rattle.nf_base.specs.declared.limits.TheConstants.{MAX_DEPTH}
use Rattle.nf_base.specs.declared.perms.Act.{Act}
use Rattle.nf_base.specs.declared.perms.Act.TheVariants as act
use Rattle.nf_base.specs.declared.rows.NodeRow.{NodeRow}
use Rattle.nf_base.specs.declared.rows.ShareRow.{ShareRow}
use Rattle.nf_defs.specs.Tree.{is_under, is_under_within, parent_of}
use Rattle.nf_defs.specs.declared.Seeker.TheVariants as seeker

-- a test tells whether it is passed
pub tells_itself : (b : Bool) → Decides b (IsTrue b)
tells_itself b = (λ passes. passes, λ passes. passes)

pub tells_not : (b : Bool) → Decides (not b) (b ≡ false)
tells_not b = (not-true b, not_from_false b)

-- ---- under

under_itself : (rows : List NodeRow) (node top : ℕ) → node ≡ top → Under rows top node
under_itself rows node top same = subst (λ (node : ℕ). Under rows top node) (sym same) itself

under_within : (k : ℕ) (rows : List NodeRow) (node top : ℕ) → is_under_within k rows node top ≡ true → Under rows top node
unfolding is_under_within
under_within zero rows node top is = under_itself rows node top (eqb-true node top is)
under_within (suc k) rows node top is =
    ⊎_elim (λ same. under_itself rows node top (eqb-true node top same))
    (λ up.
    let parent = holds_some (λ parent. is_under_within k rows parent top) (parent_of rows node) up in
    inside node parent.0 parent.1 (under_within k rows parent.0 top parent.2))
    (or_cases (node == top) _ is)

pub under_is : (g : Ground) (node top : ℕ) → IsBounded g → Decides (is_under g.nodes node top) (Under g.nodes top node)
unfolding is_under
under_is g node top bounded = (under_within MAX_DEPTH g.nodes node top, bounded.shallow node top)

-- ---- standing

follows_is : (g : Ground) (parent share : ShareRow) → IsBounded g → Decides (follows g parent share) (Follows g parent share)
follows_is g parent share bounded =
    Decides-like (follows g parent share) (λ f. record { passed_on = f.0.0; received = f.0.1; under = f.1 }) (λ f. ((f.passed_on, f.received), f.under))
    (Decides-and (has parent.perms act.Share && receives g.members (seeker.User share.initiator) parent) (is_under g.nodes share.node parent.node)
    (Decides-and _ _ (tells_itself (has parent.perms act.Share)) (tells_itself (receives g.members (seeker.User share.initiator) parent)))
    (under_is g share.node parent.node bounded))

pub stands_is : (g : Ground) (share : ShareRow) (up : List ShareRow) → IsBounded g → Decides (stands g (share ∷ up)) (Stands g (share ∷ up))
stands_is g share [] bounded = tells_not share.ended
stands_is g share (parent ∷ up) bounded =
    Decides-like (stands g (share ∷ parent ∷ up)) (λ s. (s.0.0, s.0.1, s.1)) (λ s. ((s.0, s.1), s.2))
    (Decides-and (not share.ended && follows g parent share) (stands g (parent ∷ up))
    (Decides-and _ _ (tells_not share.ended) (follows_is g parent share bounded)) (stands_is g parent up bounded))

-- ---- ends and masks

before_both : (now : ℕ) (a b : Option ℕ) → is_before now (earlier a b) ≡ (is_before now a && is_before now b)
before_both now None b = refl
before_both now (Some a) None = sym (and-true (is_before now (Some a)))
before_both now (Some a) (Some b) = grind (arith, nat_tests)

-- before the least end moment is before each
pub end_is : (now : ℕ) (chain : List ShareRow) → Decides (is_before now (end_of chain)) (All (λ (share : ShareRow). IsTrue (is_before now share.until)) chain)
end_is now chain =
    Decides-by_and (λ share. is_before now share.until) (λ share. IsTrue (is_before now share.until)) (λ chain. is_before now (end_of chain))
    (λ share. tells_itself (is_before now share.until)) refl (λ share up. before_both now share.until (end_of up)) chain

mask_all : (share : ShareRow) (up : List ShareRow) (act : Act) → has (mask_of (share ∷ up)) act ≡ list_all (λ (link : ShareRow). has link.perms act) (share ∷ up)
mask_all share [] act = sym (and-true (has share.perms act))
mask_all share (parent ∷ up) act =
    has-bit_and share.perms (mask_of (parent ∷ up)) act ∙ ap (λ b. has share.perms act && b) (mask_all parent up act)

pub mask_is : (share : ShareRow) (up : List ShareRow) (act : Act)
    → Decides (has (mask_of (share ∷ up)) act) (All (λ (link : ShareRow). IsTrue (has link.perms act)) (share ∷ up))
mask_is share up act =
    Decides-at _ _ (mask_all share up act)
    (Decides-by_and (λ link. has link.perms act) (λ link. IsTrue (has link.perms act)) (list_all (λ link. has link.perms act))
    (λ link. tells_itself (has link.perms act)) refl (λ link up. refl) (share ∷ up))
