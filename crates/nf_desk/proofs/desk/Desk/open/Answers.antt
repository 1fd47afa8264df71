use Rattle.std.proofs.Common.{List, ℕ, ap, length}
use Rattle.std.specs.Prelude.{sum}
use Rattle.nf_site.specs.Kept.{Kept}
use Rattle.nf_desk.proofs.Loadings.{no_strikes_of, opened_desk, opened_tale}
use Rattle.nf_desk.proofs.desk.Desk.open.Goals as goal

pub invariant_of-result : goal.invariant_of-result
invariant_of-result g c =
    opened_tale g.K.Keeper c.in-Ok.site.kept c.site_over.new.keeper c.no_strikes.result c.of-start.result.value c.of-start.ensures
    (opened_desk c.args.opening (g.K.Keeper.told c.args.keeper) (g.K.Keeper.told c.site_over.new.keeper) c.in-Ok.site.kept
    (g.K.Keeper.faults c.site_over.new.keeper) c.no_strikes.result c.in-Ok.ensures.ok c.in-Ok.ensures.rules c.in-Ok.ensures.fit
    c.requires.first (ap (λ (z : List ℕ). length z) c.no_strikes.ensures) (ap sum c.no_strikes.ensures))

pub returns-in-Ok-clause-fresh : goal.returns-in-Ok-clause-fresh
returns-in-Ok-clause-fresh g c = record {
  no_entries = ap (λ (k : Kept). k.history) c.in-Ok.ensures.ok.begun;
  no_strikes = no_strikes_of c.no_strikes.result c.no_strikes.ensures;
}
