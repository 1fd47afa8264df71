-- The bytes that were read and not yet taken are at the front of what is left.
use Rattle.std.proofs.Common.{ℕ, List, refl}
use Rattle.std.specs.Prelude.{Option, None, Some, IfSome}
use Rattle.nf_http.specs.Told.{stream}
use Rattle.nf_session.specs.Steps.{IsFront}

pub stream_front : (held : List ℕ) (left : Option (List ℕ)) → IfSome (stream held left) (IsFront held)
stream_front held None = tt
stream_front held (Some rest) = (rest, refl)
