use Rattle.std.proofs.Common.{ℕ, Some, inr, refl, ap, sym, subst, ◌∙◌}
use Rattle.std.specs.Prelude.{Option}
use Rattle.nf_desk.specs.Desk.{Served}
use Rattle.nf_desk.specs.Opened.{AsksOnce, Opens}
use Rattle.nf_desk.specs.declared.first.OpenFault.TheVariants.{Memory}
use Rattle.nf_told.specs.Told.{Told}
use Rattle.nf_hub.proofs.hub.Hub+K.start.Goals as goal

-- where there was no memory for the hub the desk was opened
pub returns-in-Err-clause-same : goal.returns-in-Err-clause-same
returns-in-Err-clause-same g c =
    let desk = c.in_ok-desk.desk in
    let keeper = c.into_parts-keeper.ensures.keeper ∙ ap (λ (d : Served g.row.K.Denot). d.keeper) c.in-Err.ensures.err in
    let told = ap g.K.Keeper.told (sym keeper) in
    inr (
      refl,
      (
        desk.site.kept,
        subst (λ (after : Option Told). Opens c.args.opening (g.K.Keeper.told c.args.keeper) after desk.site.kept) told c.in_ok-desk.ensures.ok,
      ),
    )

-- and it was asked for as often as an opening asks
pub returns-in-Err-clause-in_vain : goal.returns-in-Err-clause-in_vain
returns-in-Err-clause-in_vain g c =
    let keeper = c.into_parts-keeper.ensures.keeper ∙ ap (λ (d : Served g.row.K.Denot). d.keeper) c.in-Err.ensures.err in
    let calls = ap g.K.Keeper.calls (sym keeper) in
    subst (λ (after : Option ℕ). AsksOnce (g.K.Keeper.told c.args.keeper) (g.K.Keeper.calls c.args.keeper) after (Some Memory)) calls
    c.in_ok-desk.ensures.asked
