-- What an invitation writes.
use Rattle.std.proofs.Common.{◌≡◌, ℕ, List, [], refl, sym, subst, Ok, Err}
use Rattle.std.proofs.KnownBytes.{Appends-nil}
use Rattle.std.specs.Prelude.{Bool, true, false, if◌then◌else◌, MatchBool, IsOk}
use Rattle.nf_http.specs.Head.{Head}
use Rattle.nf_dav.specs.Reply.{continue_reply}
use Rattle.nf_session.specs.Steps.{Scene, Invites, Sends, Wrote, is_invited}
use Rattle.nf_session.specs.declared.begun.Begun.{Begun}
use Rattle.nf_session.specs.declared.ended.Ended.{Ended}

-- the answer that invites the body, or nothing
abbrev pub invited_bytes : Head → Begun → List ℕ
invited_bytes head begun = if is_invited head begun then continue_reply else []

module _ {C : Type 0} (head : Head) (begun : Begun) (a b : Scene C) where
  wrote_none : b ≡ a → Wrote a b []
  wrote_none same = subst (λ (z : Scene C). Wrote a z []) (sym same) (record { only = refl; bytes_are = Appends-nil a.output })

  pub invites_wrote : (T : Type 0) (sent : T) → Invites {T = T} head begun a b (Ok sent) → Wrote a b (invited_bytes head begun)
  invites_wrote T sent invites = here (is_invited head begun) invites
    where
      here : (invited : Bool) → MatchBool invited (Sends {T = T} a b continue_reply (Ok sent)) (IsOk {T = T} {E = Ended} (Ok sent) × (b ≡ a))
          → Wrote a b (if invited then continue_reply else [])
      here true sends = sends
      here false same = wrote_none same.1

  -- only whoever is invited can't be told
  pub stops_sends : (T : Type 0) (by : Ended) → Invites {T = T} head begun a b (Err by) → Sends {T = T} a b continue_reply (Err by)
  stops_sends T by invites = here (is_invited head begun) invites
    where
      here : (invited : Bool) → MatchBool invited (Sends {T = T} a b continue_reply (Err by)) (IsOk {T = T} {E = Ended} (Err by) × (b ≡ a))
          → Sends {T = T} a b continue_reply (Err by)
      here true sends = sends
      here false same = absurd (cc)
