-- What is told where a site is built over rows.
use Rattle.std.specs.Prelude.{◌≡◌, List, Result, Ok, Err}
use Rattle.nf_base.specs.declared.rows.Row.{Row}
use Rattle.nf_opening.specs.Judged.{IsFaultOf}
use Rattle.nf_opening.specs.declared.fault.SiteFault.{SiteFault}
use Rattle.nf_rules.specs.Rules.{AreUnbroken}
use Rattle.nf_site.specs.Held.{Held}
use Rattle.nf_site.specs.Kept.{opened_over}

-- the site is opened over rows that break no rule; otherwise the first that is broken is told, or there was no memory
abbrev pub IsBuilt : List Row → Result Held SiteFault → Type 0
IsBuilt rows (Ok site) = AreUnbroken rows × (site.kept ≡ opened_over rows)
IsBuilt rows (Err fault) = IsFaultOf rows fault
