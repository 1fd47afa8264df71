-- The first broken link of a chain is found.
use Rattle.std.proofs.Common.{ℕ, zero, suc, ◌<◌, ◌≤◌, ◌≡◌, ◌==◌, ◌&&◌, Bool, true, false, not, List, [], ◌∷◌, ◌++◌, Option, Some, None, refl, ap, sym, subst, ◌∙◌, arith, append_assoc, All}
use Rattle.std.specs.Bool.{Decides, IsTrue}
use Rattle.std.specs.Option.{option_map, option_or}
use Rattle.std.specs.Prelude.{if◌then◌else◌}
use Rattle.std.proofs.lemmas.Bool.{and_parts, both_ways, eqb-true, false_from_ne_true, false≢true, true_from_ne_false}
use Rattle.std.proofs.lemmas.Bool.Decides.{Decides-like, Decides-not}
use Rattle.std.proofs.lemmas.List.Elements.{All-cons, All-nil}
use Rattle.std.proofs.lemmas.Option.{none-some, same_Some}
use Rattle.nf_access.proofs.Chains.{chain_is}
use Rattle.nf_access.proofs.Granted.{grants_are_chains_lem, reach_is_a_chain_lem}
use Rattle.nf_access.proofs.LookUps.{find_among}
use Rattle.nf_access.proofs.Standing.{tells_itself, tells_not, under_is}
use Rattle.nf_access.specs.Access.{IsChain, IsLive, Reaches, Stands, Under}
use Rattle.nf_access.specs.Broken.{AreUnbroken, IsBrokenBy, IsFirstBroken, IsFirstCause, act_faults, broken_in, cause_at, first_of, next_below, passing_faults, rank}
use Rattle.nf_access.specs.Laws.{BrokenIsFound, IsBounded, IsFound, IsRefused}
use Rattle.nf_access.specs.Shares.{Ground, is_before, receives}
use Rattle.nf_access.specs.declared.Cause.{Cause}
use Rattle.nf_access.specs.declared.Cause.TheVariants.{Ended, Expired, NoReshare, NotMember, MovedOut, Narrowed}
use Rattle.nf_base.specs.Perms.{has}
use Rattle.nf_base.specs.declared.perms.Act.{Act}
use Rattle.nf_base.specs.declared.perms.Act.TheVariants as acts
use Rattle.nf_base.specs.declared.rows.ShareRow.{ShareRow}
use Rattle.nf_defs.specs.Tree.{is_under}
use Rattle.nf_defs.specs.declared.Seeker.{Seeker}
use Rattle.nf_defs.specs.declared.Seeker.TheVariants as seeker

-- ---- causes, in their order

of_rank : ℕ → Cause
of_rank zero = Ended
of_rank (suc zero) = Expired
of_rank (suc (suc zero)) = NoReshare
of_rank (suc (suc (suc zero))) = NotMember
of_rank (suc (suc (suc (suc zero)))) = MovedOut
of_rank (suc (suc (suc (suc (suc k))))) = Narrowed

ranked : (cause : Cause) → (of_rank (rank cause) ≡ cause) × (rank cause < 6)
unfolding of_rank
ranked Ended = (refl, omega arith)
ranked Expired = (refl, omega arith)
ranked NoReshare = (refl, omega arith)
ranked NotMember = (refl, omega arith)
ranked MovedOut = (refl, omega arith)
ranked Narrowed = (refl, omega arith)

same_rank : (a b : Cause) → rank a ≡ rank b → a ≡ b
same_rank a b same = sym (ranked a).0 ∙ ap of_rank same ∙ (ranked b).0

-- it is the first that holds of the causes from that rank on, or none of them holds
abbrev IsFirstFrom : (Cause → Type 0) → ℕ → Option Cause → Type 0
IsFirstFrom Holds from None = (other : Cause) → from ≤ rank other → Holds other → ⊥
IsFirstFrom Holds from (Some cause) = Holds cause × ((other : Cause) → from ≤ rank other → rank other < rank cause → Holds other → ⊥)

-- where a cause doesn't hold, nor one after it, none holds from its rank on
past : (Holds : Cause → Type 0) (cause other : Cause) → Decides false (Holds cause) → (suc (rank cause) ≤ rank other → ⊥)
    → rank cause ≤ rank other → Holds other → ⊥
past Holds cause other tells not_later from holds = false≢true (tells.1 (subst Holds (same_rank other cause (omega arith)) holds))

-- one cause more is looked at
looked_at : (Holds : Cause → Type 0) (cause : Cause) (b : Bool) (o : Option Cause) → Decides b (Holds cause)
    → IsFirstFrom Holds (suc (rank cause)) o → IsFirstFrom Holds (rank cause) (if b then Some cause else o)
looked_at Holds cause true o tells later = (tells.0 refl, λ other from before holds. omega arith)
looked_at Holds cause false None tells later = λ other from holds. past Holds cause other tells (λ after. later other after holds) from holds
looked_at Holds cause false (Some found) tells later =
    (later.0, λ other from before holds. past Holds cause other tells (λ after. later.1 other after before holds) from holds)

-- the same, at the head of faults before others
looked_on : (Holds : Cause → Type 0) (cause : Cause) (b : Bool) (faults : List (Bool × Cause)) (o : Option Cause) → Decides b (Holds cause)
    → IsFirstFrom Holds (suc (rank cause)) (option_or (first_of faults) o) → IsFirstFrom Holds (rank cause) (option_or (first_of ((b, cause) ∷ faults)) o)
looked_on Holds cause true faults o tells later = looked_at Holds cause true (option_or (first_of faults) o) tells later
looked_on Holds cause false faults o tells later = looked_at Holds cause false (option_or (first_of faults) o) tells later

-- ---- what is wrong with one share

of_some : {X : Type 0} (Says : X → Type 0) (b : Bool) (x : X) → Decides b (Says x) → Decides b ((y : X) × (Some x ≡ Some y) × Says y)
of_some Says b x tells = Decides-like b (λ says. (x, refl, says)) (λ some. subst Says (sym (same_Some x some.0 some.1)) some.2) tells

of_none : {X : Type 0} (Says : X → Type 0) → Decides false ((y : X) × (None ≡ Some y) × Says y)
of_none Says = (λ e. absurd (false≢true e), λ some. absurd (none-some some.0 some.1))

act_cause : (g : Ground) (now : ℕ) (act : Option Act) (share : ShareRow) (next : Option ShareRow)
    → IsFirstFrom (IsBrokenBy g now act share next) 5 (first_of (act_faults share act))
act_cause g now None share next =
    looked_at (IsBrokenBy g now None share next) Narrowed false None (of_none (λ (wanted : Act). has share.perms wanted ≡ false))
    (λ other from holds. absurd (omega (arith, (ranked other).1)))
act_cause g now (Some wanted) share next =
    looked_at (IsBrokenBy g now (Some wanted) share next) Narrowed (not (has share.perms wanted)) None
    (of_some (λ (wanted : Act). has share.perms wanted ≡ false) (not (has share.perms wanted)) wanted (tells_not (has share.perms wanted)))
    (λ other from holds. absurd (omega (arith, (ranked other).1)))

passing_cause : (g : Ground) (now : ℕ) (act : Option Act) (share : ShareRow) (next : Option ShareRow) (o : Option Cause) → IsBounded g
    → IsFirstFrom (IsBrokenBy g now act share next) 5 o → IsFirstFrom (IsBrokenBy g now act share next) 2 (option_or (first_of (passing_faults g share next)) o)
passing_cause g now act share None o bounded later =
    let Holds : Cause → Type 0 = IsBrokenBy g now act share None in
    looked_at Holds NoReshare false o (of_none (λ (after : ShareRow). has share.perms acts.Share ≡ false))
    (looked_at Holds NotMember false o (of_none (λ (after : ShareRow). receives g.members (seeker.User after.initiator) share ≡ false))
    (looked_at Holds MovedOut false o (of_none (λ (after : ShareRow). Under g.nodes share.node after.node → ⊥)) later))
passing_cause g now act share (Some next) o bounded later =
    let Holds : Cause → Type 0 = IsBrokenBy g now act share (Some next) in
    let may = has share.perms acts.Share in
    let gets = receives g.members (seeker.User next.initiator) share in
    let under = is_under g.nodes next.node share.node in
    looked_on Holds NoReshare (not may) ((not gets, NotMember) ∷ (not under, MovedOut) ∷ []) o
    (of_some (λ (after : ShareRow). has share.perms acts.Share ≡ false) (not may) next (tells_not may))
    (looked_on Holds NotMember (not gets) ((not under, MovedOut) ∷ []) o
    (of_some (λ (after : ShareRow). receives g.members (seeker.User after.initiator) share ≡ false) (not gets) next (tells_not gets))
    (looked_on Holds MovedOut (not under) [] o
    (of_some (λ (after : ShareRow). Under g.nodes share.node after.node → ⊥) (not under) next (Decides-not under (under_is g next.node share.node bounded)))
    later))

first_cause : (g : Ground) (now : ℕ) (act : Option Act) (share : ShareRow) (next : Option ShareRow) → IsBounded g
    → IsFirstFrom (IsBrokenBy g now act share next) 0 (cause_at g now act share next)
first_cause g now act share next bounded =
    let Holds : Cause → Type 0 = IsBrokenBy g now act share next in
    let before = is_before now share.until in
    let others = option_or (first_of (passing_faults g share next)) (first_of (act_faults share act)) in
    looked_on Holds Ended share.ended ((not before, Expired) ∷ []) others (tells_itself share.ended)
    (looked_on Holds Expired (not before) [] others (tells_not before)
    (passing_cause g now act share next (first_of (act_faults share act)) bounded (act_cause g now act share next)))

-- ---- the first broken share

-- what is found in the rest of a chain, where next is the last share below it
abbrev Tells : Ground → ℕ → Option Act → List ShareRow → Option ShareRow → List ShareRow → Option (ℕ × Cause) → Type 0
Tells g now act below next rest None = AreUnbroken g now act next rest
Tells g now act below next rest (Some found) = IsFirstBroken g now act (below ++ rest) found.0 found.1

-- the last share below is the one that was put there last
last_below : (below : List ShareRow) (share : ShareRow) → next_below (below ++ share ∷ []) ≡ Some share
last_below [] share = refl
last_below (first ∷ []) share = refl
last_below (first ∷ second ∷ below) share = last_below (second ∷ below) share

tells : (g : Ground) (now : ℕ) (act : Option Act) (below : List ShareRow) (next : Option ShareRow) (rest : List ShareRow) → IsBounded g
    → next_below below ≡ next → Tells g now act below next rest (broken_in g now act next rest)
tells g now act below next [] bounded is = tt
tells g now act below next (share ∷ up) bounded is =
    joined (broken_in g now act (Some share) up) (cause_at g now act share next)
    (tells g now act (below ++ share ∷ []) (Some share) up bounded (last_below below share)) (first_cause g now act share next bounded)
  where
    joined : (above : Option (ℕ × Cause)) (here : Option Cause) → Tells g now act (below ++ share ∷ []) (Some share) up above
        → IsFirstFrom (IsBrokenBy g now act share next) 0 here
        → Tells g now act below next (share ∷ up) (option_or above (option_map {U = ℕ × Cause} (λ cause. (share.id, cause)) here))
    joined (Some found) here above first = subst (λ chain. IsFirstBroken g now act chain found.0 found.1) (append_assoc below (share ∷ []) up) above
    joined None (Some cause) above first = record {
      below = below;
      share = share;
      above = up;
      chain_is = refl;
      number = refl;
      whole = above;
      first = subst (λ next. IsFirstCause g now act share next cause) (sym is) (first.0, λ other before. first.1 other (omega arith) before);
    }
    joined None None above first = (λ cause. first cause (omega arith), above)

-- ---- an unbroken chain gives what is asked for

-- what each unbroken share has, the shares of an unbroken chain have
each_unbroken : (g : Ground) (now : ℕ) (act : Option Act) (P : ShareRow → Type 0)
    → ((share : ShareRow) (next : Option ShareRow) → ((cause : Cause) → IsBrokenBy g now act share next cause → ⊥) → P share)
    → (next : Option ShareRow) (chain : List ShareRow) → AreUnbroken g now act next chain → All P chain
each_unbroken g now act P each next [] unbroken = All-nil P
each_unbroken g now act P each next (share ∷ up) unbroken =
    All-cons P share up (each share next unbroken.0) (each_unbroken g now act P each (Some share) up unbroken.1)

-- an unbroken chain stands
stands_unbroken : (g : Ground) (now : ℕ) (act : Option Act) (next : Option ShareRow) (share : ShareRow) (up : List ShareRow) → IsBounded g
    → AreUnbroken g now act next (share ∷ up) → Stands g (share ∷ up)
stands_unbroken g now act next share [] bounded unbroken = false_from_ne_true share.ended (unbroken.0 Ended)
stands_unbroken g now act next share (parent ∷ up) bounded unbroken =
    let fine = unbroken.1.0 in (
      false_from_ne_true share.ended (unbroken.0 Ended),
      record {
        passed_on = true_from_ne_false _ (λ e. fine NoReshare (share, refl, e));
        received = true_from_ne_false _ (λ e. fine NotMember (share, refl, e));
        under = (let under = under_is g share.node parent.node bounded in
            under.0 (true_from_ne_false _ (λ e. fine MovedOut (share, refl, λ is. both_ways _ e (under.1 is)))));
      },
      stands_unbroken g now act (Some share) parent up bounded unbroken.1,
    )

-- what has an unbroken chain isn't refused
unrefused : (g : Ground) (now : ℕ) (who : Seeker) (act : Option Act) (node : ℕ) (share : ShareRow) (up : List ShareRow) → IsBounded g
    → Reaches g now who node share up → AreUnbroken g now act None (share ∷ up) → IsRefused g now who act node → ⊥
unrefused g now who None node share up bounded reaches unbroken refused =
    both_ways _ refused ((reach_is_a_chain_lem g now who node bounded).1 (share, up, reaches))
unrefused g now who (Some wanted) node share up bounded reaches unbroken refused =
    both_ways _ refused ((grants_are_chains_lem g now who wanted node bounded).1 (
      share,
      up,
      record {
        reaches = reaches;
        allowed = each_unbroken g now (Some wanted) (λ link. IsTrue (has link.perms wanted))
            (λ link next fine. true_from_ne_false _ (λ e. fine Narrowed (wanted, refl, e))) None (share ∷ up) unbroken;
      },
    ))

-- so after a refusal one is found
found_first : (g : Ground) (now : ℕ) (who : Seeker) (act : Option Act) (node : ℕ) (share : ShareRow) (up : List ShareRow) → IsBounded g
    → share.node ≡ node → IsTrue (receives g.members who share) → IsChain g.shares (share ∷ up) → IsRefused g now who act node
    → IsFound g now act (share ∷ up)
found_first g now who act node share up bounded on_node received chain refused =
    found (broken_in g now act None (share ∷ up)) refl (tells g now act [] None (share ∷ up) bounded refl)
  where
    found : (o : Option (ℕ × Cause)) → broken_in g now act None (share ∷ up) ≡ o → Tells g now act [] None (share ∷ up) o → IsFound g now act (share ∷ up)
    found (Some first) is broken = record { link = first.0; cause = first.1; found = is; first = broken }
    found None is unbroken =
        let live : IsLive g now (share ∷ up) = record {
          stands = stands_unbroken g now act None share up bounded unbroken;
          before = each_unbroken g now act (λ share. IsTrue (is_before now share.until))
              (λ share next fine. true_from_ne_false _ (fine Expired)) None (share ∷ up) unbroken;
        } in
        let reaches : Reaches g now who node share up = record { on_node = on_node; received = received; chain = chain; live = live } in
        absurd (unrefused g now who act node share up bounded reaches unbroken refused)

pub broken_is_found_lem : BrokenIsFound
broken_is_found_lem g now who act node share bounded refused first =
    let one = find_among (λ share. share.node == node && receives g.members who share) g.shares share first in
    let both = and_parts (share.node == node) (receives g.members who share) one.1 in
    let chain = bounded.chained share one.0 in
    rw (chain_is g share chain.0 bounded chain.1)
    (found_first g now who act node share chain.0 bounded (eqb-true share.node node both.0) both.1 chain.1 refused)
