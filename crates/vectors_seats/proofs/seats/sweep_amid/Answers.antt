use Rattle.std.proofs.Common.{◌≡◌, ◌∙◌, ap, subst, sym}
use Rattle.std.specs.Prelude.{List}
use Rattle.std.specs.declared.snapshot.Snapshot.{Snapshot}
use Rattle.nf_base.specs.declared.rows.Row.{Row}
use Rattle.nf_desk.specs.Desk.{Served}
use Rattle.nf_session.specs.Book.{held}
use Rattle.nf_words.specs.declared.history.Entry.{Entry}
use Rattle.nf_hub.specs.Seats.{IsIdleSeat, book}
use Rattle.nf_hub.specs.declared.seat.SeatOf.{SeatOf}
use Rattle.vectors_seats.proofs.Begun.{began_holds, goal_of}
use Rattle.vectors_seats.proofs.seats.sweep_amid.Goals.{in-Done, in-Granted, in-Refused}
use Rattle.vectors_seats.proofs.seats.sweep_amid.Goals as goal

pub finish-answer-requires-clause-granted : goal.finish-answer-requires-clause-granted
finish-answer-requires-clause-granted g c =
    began_holds _ _ _ _ _ _ c.requires.0.1 c.begin-began.ensures.begins c.begin-began.ensures.began ∙ ap goal_of c.in-Granted.is

pub returns : goal.returns
returns g c =
    let began = c.begin-began in
    let P : SeatOf (Served g.row.K.Denot) Entry (List Row × Snapshot g.row.K.Denot) → Type 0 = λ seat. IsIdleSeat g.K.Keeper c.args.shared.now.hub seat in
    let holds : held (book g.K.Keeper c.args.shared.now.hub began.new.seat) ≡ goal_of began.result =
    began_holds _ _ _ _ _ _ c.requires.0.1 began.ensures.begins began.ensures.began in
    let swept = c.sweep-swept.ensures in (
      elim c.match-began.branch [
        | in-Granted w ↦ subst P (sym w.reader-is) w.finish-answer.ensures
        | in-Done w ↦ subst P (sym w.reader-is) (began.ensures.seat, holds ∙ ap goal_of w.in-Done.is)
        | in-Refused w ↦ subst P (sym w.reader-is) (began.ensures.seat, holds ∙ ap goal_of w.in-Refused.is)
      ],
      (swept.seat, swept.idle),
    )
