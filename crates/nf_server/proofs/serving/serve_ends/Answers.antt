use Rattle.std.proofs.Common.{◌<◌, ap, subst}
use Rattle.nf_base.specs.declared.limits.TheConstants.{MAX_ENTRIES}
use Rattle.nf_hub.specs.Visiting.{Visiting}
use Rattle.nf_outside.specs.Lent.{takes}
use Rattle.nf_session.specs.Book.{Book, entries_wanted}
use Rattle.nf_server.proofs.Visits.{book_same, full_seen}
use Rattle.nf_server.proofs.serving.serve_ends.Goals as goal

pub returns-clause-full : goal.returns-clause-full
returns-clause-full g c = λ is.
    let said = c.serve_session-ended.ensures in
    subst (λ (b : Book). MAX_ENTRIES < entries_wanted b)
    (book_same g.K.Keeper c.new-visit.result c.serve_session-ended.new.backend c.args.hub c.into_seat.result said.lent
    (ap (λ (v : Visiting g.row.K.Denot). v.hub) c.new-visit.ensures) c.into_seat.ensures.same)
    (full_seen (takes g.C.Clock.reads g.Q.Dice.draws) _ _ c.serve_session-ended.result said.session.2 is)
