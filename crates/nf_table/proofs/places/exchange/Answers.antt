use Rattle.std.proofs.Common.{List, sym, subst, ◌∙◌}
use Rattle.nf_defs.specs.Prelude.{IsRising}
use Rattle.nf_defs.proofs.Puts.{dropped_rising}
use Rattle.nf_defs.proofs.Lookups.{dropped_nowhere, dropped_there, find_nowhere, find_there, is_sought}
use Rattle.nf_table.proofs.places.exchange.Goals as goal

pub returns-in-Some-None-clause-row : goal.returns-in-Some-None-clause-row
returns-in-Some-None-clause-row g c =
    let numbers = g.R.FoundBy.numbers c.args.key.now in
    let at = rw c.deref.ensures.value at (sym c.in-Some-None.is-0 ∙ c.place_of-place.ensures) in
    find_there (is_sought g.R.Keyed.key numbers) c.args.rows.now.items c.in-Some-None.at c.remove.result at c.remove.ensures.value

pub returns-in-Some-None-clause-rows : goal.returns-in-Some-None-clause-rows
returns-in-Some-None-clause-rows g c =
    let numbers = g.R.FoundBy.numbers c.args.key.now in
    let at = rw c.deref.ensures.value at (sym c.in-Some-None.is-0 ∙ c.place_of-place.ensures) in
    let gone = dropped_there g.R.Keyed.key numbers c.args.rows.now.items c.in-Some-None.at c.requires.rising at in
    rw c.in-Some-None.is-1 (c.remove.ensures.items ∙ gone)

pub returns-in-Some-None-clause-rising : goal.returns-in-Some-None-clause-rising
returns-in-Some-None-clause-rising g c =
    let key = g.R.Keyed.key in
    let rows = rw c.in-Some-None.is-1 at (returns-in-Some-None-clause-rows g c) in
    subst (λ (rows : List g.row.R.Denot). IsRising key rows) (sym rows)
    (dropped_rising key (g.R.FoundBy.numbers c.args.key.now) c.args.rows.now.items c.requires.rising)

pub returns-in-None-None-clause-row : goal.returns-in-None-None-clause-row
returns-in-None-None-clause-row g c =
    let none = rw c.deref.ensures.value at (sym c.in-None-None.is-0 ∙ c.place_of-place.ensures) in
    find_nowhere (is_sought g.R.Keyed.key (g.R.FoundBy.numbers c.args.key.now)) c.args.rows.now.items none

pub returns-in-None-None-clause-rows : goal.returns-in-None-None-clause-rows
returns-in-None-None-clause-rows g c =
    let none = rw c.deref.ensures.value at (sym c.in-None-None.is-0 ∙ c.place_of-place.ensures) in
    rw c.in-None-None.is-1 (dropped_nowhere g.R.Keyed.key (g.R.FoundBy.numbers c.args.key.now) c.args.rows.now.items none)
