-- Why bytes are refused that are no message.
use Rattle.std.specs.Prelude.{◌≡◌, ◌⊎◌, ℕ, List, Some, Ok, Err, IfSome}
use Rattle.std.specs.Io.KnownBytes.{Appends}
use Rattle.nf_dav.specs.Reply.{last_manner, refusal_reply}
use Rattle.nf_http.specs.Head.{Head}
use Rattle.nf_http.specs.Next.{IsOfBytes, Shows}
use Rattle.nf_http.specs.declared.wire.WireFault.{WireFault}
use Rattle.nf_http.specs.declared.wire.WireFault.TheVariants.{Truncated}
use Rattle.nf_outside.specs.Lent.{Taken}
use Rattle.nf_session.specs.Prelude.{CutsEarly, CutsShort, Heads, Invites, IsFront, Judges, Scene, Session, TakesEarly, denial_of}
use Rattle.nf_session.specs.declared.begun.Begun.{Begun}
use Rattle.nf_session.specs.declared.ended.Ended.TheVariants.{BadMessage}

-- the bytes that were read and not taken have the fault, whatever follows them; where the input is told, they are at the front of what is
-- left of it; and the refusal of that fault was written
pub record IsShown {C : Type 0} (a b : Scene C) (fault : WireFault) : Type 0 where
  pub of_bytes : IsOfBytes (Err fault)
  pub shows : Shows fault b.kept
  pub front : IfSome b.input (IsFront b.kept)
  pub refused : Appends a.output b.output (refusal_reply last_manner (denial_of fault))

-- a head was taken, and the input ended inside its body
pub record EndsInBody {C : Type 0} (reads : C → Taken → C → Type 0) (a b : Scene C) : Type 0 where
  pub head : Head
  pub behind : Scene C
  pub heads : Heads a behind (Ok (Some head))
  pub taken : Scene C
  pub early : List ℕ
  pub takes : TakesEarly head behind taken (Ok early)
  pub judged : Scene C
  pub begun : Begun
  pub judges : Judges reads head early taken judged begun
  pub invited : Scene C
  pub invites : Invites {T = Unit {0}} head begun judged invited (Ok tt)
  pub cut : CutsShort reads head begun invited b (Some BadMessage)
  pub truncated : cut.fault ≡ Truncated

-- the same of a body that is taken before the request is looked for: then nothing was asked
pub record EndsEarly {C : Type 0} (a b : Scene C) : Type 0 where
  pub head : Head
  pub behind : Scene C
  pub heads : Heads a behind (Ok (Some head))
  pub cut : CutsEarly head behind b (Some BadMessage)
  pub truncated : cut.fault ≡ Truncated

-- a session that is ended by bytes that are no message shows their fault, also where neither end tells anything, or its input ended inside
-- a body
abbrev pub FaultsAreShown : {C : Type 0} → (C → Taken → C → Type 0) → Type 0
FaultsAreShown {C} reads =
    (a b : Scene C) (session : Session reads a b (Some BadMessage))
    → ((fault : WireFault) × IsShown session.before b fault) ⊎ EndsInBody reads session.before b ⊎ EndsEarly session.before b
