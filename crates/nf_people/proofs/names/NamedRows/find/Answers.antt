use Rattle.std.proofs.Common.{sym, ◌∙◌}
use Rattle.nf_people.proofs.NameIndex.{found_if_ok, free_if_none}
use Rattle.nf_people.proofs.names.NamedRows.find.Goals as goal

pub returns-in_err-at : goal.returns-in_err-at
returns-in_err-at g c =
    let rows = c.self.inside.rows.items in
    let places = c.self.inside.by_name.items in
    let found = rw (c.deref.ensures.value, c.deref-2.ensures.value) at c.search.ensures.place in
    let none = free_if_none g.R.Named.name_of rows places c.self.invariant.1 c.args.name.now c.search.result
    (sym c.ok.ensures.value ∙ c.in_err-at.was) found in
    rw (c.from_residual.ensures, ← c.self.view_is) none

pub returns : goal.returns
returns g c =
    let rows = c.self.inside.rows.items in
    let places = c.self.inside.by_name.items in
    let found = rw (c.deref.ensures.value, c.deref-2.ensures.value) at c.search.ensures.place in
    let bound = rw c.deref-2.ensures.value at c.search.ensures.bound in
    rw (← c.self.view_is)
    (found_if_ok g.R.Named.name_of rows places c.self.invariant.1 c.args.name.now c.search.result c.in_ok-at.at c.index.result.now
    c.index-2.result.now (sym c.ok.ensures.value ∙ c.in_ok-at.was) bound found c.index.ensures c.index-2.ensures)
