use Rattle.std.proofs.Common.{refl, sym, subst}
use Rattle.nf_desk.specs.Opened.{AreFirst}
use Rattle.nf_site.proofs.DemoRows.{demo_unbroken}
use Rattle.vectors_seats.proofs.seats.demonstration.Goals as goal

pub returns : goal.returns
returns c = subst AreFirst (sym c.in_ok-rows.ensures) (record { unbroken = demo_unbroken; meta = (_, _, refl) })
