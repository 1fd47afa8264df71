-- What is told of rows that are to be opened.
use Rattle.std.specs.Prelude.{◌≡◌, ℕ, List, length, Option, None, Some, Result, Ok, Err, if◌then◌else◌}
use Rattle.std.specs.Option.{option_or}
use Rattle.nf_base.specs.declared.rows.Row.{Row}
use Rattle.nf_rules.specs.Rules.{AreUnbroken, first_broken, first_index, is_twice, lacks_meta, rules}
use Rattle.nf_rules.specs.Rules as judged
use Rattle.nf_opening.specs.declared.fault.SiteFault.{SiteFault}
use Rattle.nf_opening.specs.declared.fault.SiteFault.TheVariants.{Broken, Memory}

-- why rows aren't opened: the first of the rules that is broken and the first row that breaks it, or no memory
abbrev pub IsFaultOf : List Row → SiteFault → Type 0
IsFaultOf rows (Broken broken) = first_broken rules rows ≡ Some broken
IsFaultOf rows Memory = Unit {0}

-- the rows are unbroken, or they are told why not
abbrev pub AreJudged : {A : Type 0} → List Row → Result A SiteFault → Type 0
AreJudged rows (Ok _) = AreUnbroken rows
AreJudged rows (Err fault) = IsFaultOf rows fault

-- a rule is kept where no row breaks it
abbrev pub IsFaultAt : {A : Type 0} → ℕ → Option ℕ → Result A judged.Broken → Type 0
IsFaultAt rule index (Ok _) = index ≡ None
IsFaultAt rule index (Err broken) = (index ≡ Some broken.index) × (broken.rule ≡ rule)

-- the first row whose key another has, or where a meta row would come
abbrev pub first_twice : List Row → Option ℕ
first_twice all = option_or (first_index (is_twice all) all) (if lacks_meta all then Some (length all) else None)
