use Rattle.nf_site.proofs.DemoRows.{demo_unbroken}
use Rattle.nf_site.proofs.laws.demo_rows_are_unbroken.Goals as goal

pub returns : goal.returns
returns c = demo_unbroken
