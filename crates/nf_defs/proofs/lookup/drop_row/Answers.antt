use Rattle.std.proofs.Common.{◌≤◌, List, length, sym, subst, ◌∙◌}
use Rattle.nf_defs.specs.Rising.{IsRising}
use Rattle.nf_defs.proofs.Puts.{dropped_length, dropped_rising}
use Rattle.nf_defs.proofs.Lookups.{any_nowhere, any_there, dropped_nowhere, dropped_there, is_sought}
use Rattle.nf_defs.proofs.lookup.drop_row.Goals as goal

pub returns-in-Some-clause-found : goal.returns-in-Some-clause-found
returns-in-Some-clause-found g c =
    let test = is_sought g.R.Keyed.key (g.R.FoundBy.numbers c.args.sought.now) in
    let at = sym c.in-Some.is ∙ c.place_of.ensures in
    any_there test c.args.rows.now.items c.in-Some.at (rw c.deref.ensures.value at at)

pub returns-in-Some-clause-rows : goal.returns-in-Some-clause-rows
returns-in-Some-clause-rows g c =
    let at = sym c.in-Some.is ∙ c.place_of.ensures in
    c.remove.ensures.items
    ∙ dropped_there g.R.Keyed.key (g.R.FoundBy.numbers c.args.sought.now) c.args.rows.now.items c.in-Some.at c.requires (rw c.deref.ensures.value at at)

pub returns-in-None-clause-found : goal.returns-in-None-clause-found
returns-in-None-clause-found g c =
    let test = is_sought g.R.Keyed.key (g.R.FoundBy.numbers c.args.sought.now) in
    let none = sym c.in-None.is ∙ c.place_of.ensures in
    any_nowhere test c.args.rows.now.items (rw c.deref.ensures.value at none)

pub returns-in-None-clause-rows : goal.returns-in-None-clause-rows
returns-in-None-clause-rows g c =
    let none = sym c.in-None.is ∙ c.place_of.ensures in
    dropped_nowhere g.R.Keyed.key (g.R.FoundBy.numbers c.args.sought.now) c.args.rows.now.items (rw c.deref.ensures.value at none)

pub returns-in-Some-clause-rising : goal.returns-in-Some-clause-rising
returns-in-Some-clause-rising g c =
    let key = g.R.Keyed.key in
    subst (λ (xs : List g.row.R.Denot). IsRising key xs) (sym (returns-in-Some-clause-rows g c))
    (dropped_rising key (g.R.FoundBy.numbers c.args.sought.now) c.args.rows.now.items c.requires)

pub returns-in-Some-clause-count : goal.returns-in-Some-clause-count
returns-in-Some-clause-count g c =
    subst (λ (xs : List g.row.R.Denot). length xs ≤ length c.args.rows.now.items) (sym (returns-in-Some-clause-rows g c))
    (dropped_length g.R.Keyed.key (g.R.FoundBy.numbers c.args.sought.now) c.args.rows.now.items)

pub returns-in-None-clause-rising : goal.returns-in-None-clause-rising
returns-in-None-clause-rising g c =
    let key = g.R.Keyed.key in
    subst (λ (xs : List g.row.R.Denot). IsRising key xs) (sym (returns-in-None-clause-rows g c))
    (dropped_rising key (g.R.FoundBy.numbers c.args.sought.now) c.args.rows.now.items c.requires)

pub returns-in-None-clause-count : goal.returns-in-None-clause-count
returns-in-None-clause-count g c =
    subst (λ (xs : List g.row.R.Denot). length xs ≤ length c.args.rows.now.items) (sym (returns-in-None-clause-rows g c))
    (dropped_length g.R.Keyed.key (g.R.FoundBy.numbers c.args.sought.now) c.args.rows.now.items)
