-- What is left to do of an act whose list is handed out.
use Rattle.std.proofs.Common.{refl}
use Rattle.nf_words.specs.declared.answer.Allowed.{Allowed}
use Rattle.nf_site.specs.Beside.{DoesSame}

pub itself : (act : Allowed) → DoesSame act act
itself act = record { state = λ s seat now. refl; hold = refl; bears = λ t bears. bears; fits = λ s room fits. fits }
