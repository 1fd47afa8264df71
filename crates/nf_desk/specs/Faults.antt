-- Faults of an opening, by those of its parts.
use Rattle.std.specs.Prelude.{ℕ}
use Rattle.nf_keeper.specs.declared.keeper.KeepFault.{KeepFault}
use Rattle.nf_keeper.specs.declared.keeper.KeepFault.TheVariants as keeping
use Rattle.nf_opening.specs.declared.fault.SiteFault.{SiteFault}
use Rattle.nf_opening.specs.declared.fault.SiteFault.TheVariants as site
use Rattle.nf_rows.specs.declared.fault.RowFault.{RowFault}
use Rattle.nf_rows.specs.declared.fault.RowFault.TheVariants as row
use Rattle.nf_desk.specs.declared.first.OpenFault.{OpenFault}
use Rattle.nf_desk.specs.declared.first.OpenFault.TheVariants as fault

abbrev pub of_keeping : KeepFault → OpenFault
of_keeping keeping.Failed = fault.Failed
of_keeping keeping.Memory = fault.Memory

abbrev pub of_site : SiteFault → OpenFault
of_site (site.Broken broken) = fault.Broken broken
of_site site.Memory = fault.Memory

-- want of memory is no fault of the row
abbrev pub unread_by : ℕ → RowFault → OpenFault
unread_by index row.Memory = fault.Memory
unread_by index other = fault.Unread index other
