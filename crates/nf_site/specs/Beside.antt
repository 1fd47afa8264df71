-- What is answered beside an act that hands out a long list itself.
use Rattle.std.specs.Prelude.{◌≡◌, ℕ}
use Rattle.nf_state.specs.Current.{BearsAct, FitsAct, Room}
use Rattle.nf_defs.specs.Tables.{Tables}
use Rattle.nf_words.specs.Changes.{applied, hold_of, reply_to, reported}
use Rattle.nf_words.specs.State.{State}
use Rattle.nf_words.specs.declared.answer.Allowed.{Allowed}
use Rattle.nf_words.specs.declared.answer.Allowed.TheVariants as allowed
use Rattle.nf_words.specs.declared.answer.Reply.{Reply}
use Rattle.nf_words.specs.declared.answer.Reply.TheVariants.{Closed}
use Rattle.nf_words.specs.declared.answer.Report.{Report}
use Rattle.nf_words.specs.declared.answer.Report.TheVariants as report

-- what is answered beside a report and an act: nothing yet, where that is a list
abbrev pub beside_report : Report → Reply
beside_report (report.Shares lines) = Closed
beside_report (report.Items lines) = Closed
beside_report (report.Versions lines) = Closed
beside_report other = reported other

abbrev pub beside : Allowed → Reply
beside (allowed.List listing) = Closed
beside (allowed.Change changes blob told) = beside_report told
beside (allowed.Deeds deeds told) = beside_report told
beside other = reply_to other

-- another act does the same, whatever is told of it
pub record DoesSame (act other : Allowed) : Type 0 where
  pub state : (s : State) (seat now : ℕ) → applied s seat now other ≡ applied s seat now act
  pub hold : hold_of other ≡ hold_of act
  pub bears : (t : Tables) → BearsAct t act → BearsAct t other
  pub fits : (s : State) (room : Room) → FitsAct s room act → FitsAct s room other
