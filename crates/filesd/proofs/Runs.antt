-- What follows for a run from its session.
use Rattle.std.proofs.Common.{◌≡◌, refl, sym, ◌∙◌, ap, subst}
use Rattle.std.specs.Prelude.{Option, None, Some}
use Rattle.std.proofs.lemmas.Option.{none-some, same_Some}
use Rattle.nf_outside.specs.Causes.{Rose}
use Rattle.nf_outside.specs.Lent.{Taken}
use Rattle.nf_promises.specs.Room.{IsAlone, IsFresh}
use Rattle.nf_promises.proofs.Full.{never_full}
use Rattle.nf_session.specs.Prelude.{CountsFault, Scene, Session}
use Rattle.nf_session.specs.declared.ended.Ended.{Ended}
use Rattle.nf_session.specs.declared.ended.Ended.TheVariants as ended
use Rattle.nf_session.proofs.Causes.{session_follows}
use Rattle.filesd.specs.Session.{status_of}
use Rattle.filesd.specs.declared.status.Status.{Status}
use Rattle.filesd.specs.declared.status.Status.TheVariants as exit

-- ---- each status is that of one end

-- the end that a status names, where it names one
abbrev end_named : Status → Option (Option Ended)
end_named exit.Budget = Some None
end_named exit.Done = Some (Some ended.Closed)
end_named exit.BadMessage = Some (Some ended.BadMessage)
end_named exit.RunFull = Some (Some ended.RunFull)
end_named exit.ReadFault = Some (Some ended.ReadFault)
end_named exit.WriteFault = Some (Some ended.WriteFault)
end_named exit.Memory = Some (Some ended.Memory)
end_named exit.Cut = None
end_named exit.DoorFault = None
end_named exit.StoreFault = None
end_named (exit.BadRows fault) = None
end_named exit.Words = None

named_is : (end named : Option Ended) → end_named (status_of end) ≡ Some named → end ≡ named
named_is None named e = same_Some None named e
named_is (Some ended.Closed) named e = same_Some (Some ended.Closed) named e
named_is (Some ended.BadMessage) named e = same_Some (Some ended.BadMessage) named e
named_is (Some ended.RunFull) named e = same_Some (Some ended.RunFull) named e
named_is (Some (ended.Cut why)) named e = absurd (none-some named e)
named_is (Some ended.ReadFault) named e = same_Some (Some ended.ReadFault) named e
named_is (Some ended.WriteFault) named e = same_Some (Some ended.WriteFault) named e
named_is (Some ended.Memory) named e = same_Some (Some ended.Memory) named e

by_status : (end named : Option Ended) (status wanted : Status) → status ≡ status_of end → status ≡ wanted → end_named wanted ≡ Some named
    → end ≡ named
by_status end named status wanted by is names = named_is end named (ap end_named (sym by ∙ is) ∙ names)

-- ---- what the run says

pub has_room : {C : Type 0} (reads : C → Taken → C → Type 0) (a b : Scene C) (end : Option Ended) (status : Status)
    → Session reads a b end → status ≡ status_of end → IsFresh a.book → IsAlone b.book → status ≡ exit.RunFull → ⊥
has_room reads a b end status session by fresh alone full = never_full reads a b end session fresh alone
    (by_status end (Some ended.RunFull) status exit.RunFull by full refl)

pub read_rose : {C : Type 0} (reads : C → Taken → C → Type 0) (a b : Scene C) (end : Option Ended) (status : Status)
    → Session reads a b end → status ≡ status_of end → status ≡ exit.ReadFault → Rose a.read_faults b.read_faults
read_rose reads a b end status session by fault =
    (subst (λ (z : Option Ended). CountsFault z a.read_faults b.read_faults a.write_faults b.write_faults)
    (by_status end (Some ended.ReadFault) status exit.ReadFault by fault refl)
    (session_follows reads a b end session).counts).0

pub write_rose : {C : Type 0} (reads : C → Taken → C → Type 0) (a b : Scene C) (end : Option Ended) (status : Status)
    → Session reads a b end → status ≡ status_of end → status ≡ exit.WriteFault → Rose a.write_faults b.write_faults
write_rose reads a b end status session by fault =
    (subst (λ (z : Option Ended). CountsFault z a.read_faults b.read_faults a.write_faults b.write_faults)
    (by_status end (Some ended.WriteFault) status exit.WriteFault by fault refl)
    (session_follows reads a b end session).counts).1
