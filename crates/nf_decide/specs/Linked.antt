-- What forbids a link that is to be made.
use Rattle.std.specs.Prelude.{Option, None, Some, if◌then◌else◌}
use Rattle.nf_access.specs.Making.{is_token_taken}
use Rattle.nf_base.specs.declared.rows.ShareKind.TheVariants.{Link}
use Rattle.nf_defs.specs.Prelude.{Access}
use Rattle.nf_words.specs.Prelude.{Call, link_token}
use Rattle.nf_words.specs.Sharing.{is_long, is_widened, parent_by}
use Rattle.nf_words.specs.declared.answer.Breach.{Breach}
use Rattle.nf_words.specs.declared.answer.Breach.TheVariants as rule
use Rattle.nf_words.specs.declared.request.Offer.{Offer}

-- the share that it would stand on, or its token
abbrev pub passing_fault : Access → Call → Offer → Option Breach
passing_fault access call offer =
    let shares = call.state.tables.shares in
    if is_widened access call offer then Some rule.Widened
    else if is_long shares (parent_by access call offer) then Some rule.Chain
    else if is_token_taken shares (Link (link_token call.words)) then Some rule.TokenTaken
    else None
