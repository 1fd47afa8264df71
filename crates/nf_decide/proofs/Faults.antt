-- The rules of a new share, by what it is.
use Rattle.std.proofs.Common.{◌≡◌, ◌&&◌, ◌||◌, ◌==◌, ℕ, Bool, true, false, not, List, [], ◌∷◌, Option, None, Some, refl, ap, ◌∙◌, if◌then◌else◌}
use Rattle.std.specs.List.{list_any}
use Rattle.nf_access.specs.Making.{is_again, is_same_recipient, is_self_share, is_token_taken}
use Rattle.nf_access.specs.Shares.{is_before, is_link_kind}
use Rattle.nf_base.specs.declared.rows.ShareKind.{ShareKind}
use Rattle.nf_base.specs.declared.rows.ShareKind.TheVariants as kind
use Rattle.nf_base.specs.declared.rows.ShareRow.{ShareRow}
use Rattle.nf_defs.specs.Prelude.{Access, is_root}
use Rattle.nf_words.specs.Prelude.{Call, kind_to, link_token}
use Rattle.nf_words.specs.Sharing.{is_long, is_past, is_widened, new_share, offer_fault, parent_by}
use Rattle.nf_words.specs.declared.answer.Breach.{Breach}
use Rattle.nf_words.specs.declared.answer.Breach.TheVariants as rule
use Rattle.nf_words.specs.declared.request.Offer.{Offer}
use Rattle.nf_words.specs.declared.request.Receiver.{Receiver}
use Rattle.nf_words.specs.declared.request.Receiver.TheVariants as receiver
use Rattle.nf_decide.specs.Linked.{passing_fault}

-- a share that is no link takes no token
pub no_token_taken : (shares : List ShareRow) (of : ShareKind) → is_link_kind of ≡ false → is_token_taken shares of ≡ false
no_token_taken shares (kind.User user) other = refl
no_token_taken shares (kind.Group group) other = refl
no_token_taken shares (kind.Link token) other = absurd (cc)

-- ---- a link

-- nobody is the recipient of a link
no_recipient : (other : ShareKind) (token : List ℕ) → is_same_recipient other (kind.Link token) ≡ false
no_recipient (kind.User user) token = refl
no_recipient (kind.Group group) token = refl
no_recipient (kind.Link own) token = refl

never : (b : Bool) → (b && false) ≡ false
never true = refl
never false = refl

-- so that no share gives the same as a link
never_again : (row : ShareRow) (now : ℕ) (token : List ℕ) (shares : List ShareRow) → row.kind ≡ kind.Link token
    → list_any (is_again row now) shares ≡ false
never_again row now token [] link = refl
never_again row now token (other ∷ shares) link =
    ap (λ (b : Bool). b || list_any (is_again row now) shares)
    (ap (λ (k : ShareKind). alike && is_same_recipient other.kind k) link ∙ ap (λ (b : Bool). alike && b) (no_recipient other.kind token) ∙ never alike)
    ∙ never_again row now token shares link
  where
    alike : Bool
    alike = not other.ended && is_before now other.until && other.node == row.node && other.initiator == row.initiator

-- the first rule that a link would break
abbrev pub link_fault : Access → Call → Offer → Option Breach
link_fault access call offer =
    if is_root call.state.tables.nodes offer.node then Some rule.Root
    else if is_past call.now offer.until then Some rule.Past
    else passing_fault access call offer

pub of_link : (access : Access) (call : Call) (offer : Offer) → offer.to ≡ receiver.Link → offer_fault access call offer ≡ link_fault access call offer
of_link access call offer link =
    ap (λ (to : Receiver). faults (kind_to (link_token call.words) to) (list_any (is_again row call.now) call.state.tables.shares)) link
    ∙ ap (λ (again : Bool). faults (kind.Link (link_token call.words)) again)
    (never_again row call.now (link_token call.words) call.state.tables.shares (ap (kind_to (link_token call.words)) link))
  where
    row : ShareRow
    row = new_share access call offer

    faults : ShareKind → Bool → Option Breach
    faults of again =
        let t = call.state.tables in
        if is_root t.nodes offer.node then Some rule.Root
        else if is_self_share row of then Some rule.SelfShare
        else if is_past call.now offer.until then Some rule.Past
        else if again then Some rule.Already
        else if is_widened access call offer then Some rule.Widened
        else if is_long t.shares (parent_by access call offer) then Some rule.Chain
        else if is_token_taken t.shares of then Some rule.TokenTaken
        else None
