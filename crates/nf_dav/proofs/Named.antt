-- Which bad name is told, where some are read one after the other.
use Rattle.std.proofs.Common.{◌≡◌, Option, None, Some, option_map, refl}
use Rattle.std.specs.Option.{option_or}
use Rattle.nf_base.specs.declared.name.NameFault.{NameFault}
use Rattle.nf_words.specs.declared.answer.Denial.TheVariants as denial
use Rattle.nf_dav.specs.Asked.{Tells}
use Rattle.nf_dav.specs.declared.requests.Unasked.{Unasked}
use Rattle.nf_dav.specs.declared.requests.Unasked.TheVariants.{Memory, Refused}

-- the first, whatever comes behind it
pub tells_first : (first more : Option NameFault) (why : Unasked) → Tells (option_map denial.BadName first) why
    → Tells (option_map denial.BadName (option_or first more)) why
tells_first None more (Refused refusal) tells = absurd (cc)
tells_first (Some fault) more (Refused refusal) tells = tells
tells_first first more Memory tells = tt

-- or that behind one that isn't bad
pub tells_next : (first more : Option NameFault) (why : Unasked) → first ≡ None → Tells (option_map denial.BadName more) why
    → Tells (option_map denial.BadName (option_or first more)) why
tells_next None more why none tells = tells
tells_next (Some fault) more why none tells = absurd (cc)
