use Rattle.std.proofs.Common.{length-set, refl, sym, ◌∙◌, arith}
use Rattle.std.specs.Fn.{FnOnceReturnsAtMut}
use Rattle.nf_defs.proofs.Lookups.{find_nowhere, is_sought}
use Rattle.nf_table.proofs.Over.{changed_here, changed_rising}
use Rattle.nf_table.proofs.table.Table.change.Goals as goal

pub invariant_of-self : goal.invariant_of-self
invariant_of-self g c =
    let rows = c.self.inside.rows.items in
    let old = c.index_mut.result.now in
    let new = c.change.new.arg2 in
    let place = rw c.deref.ensures.value at (sym c.in-Some.is ∙ c.place_of.ensures) in
    let same = c.requires.key old new (record { shown = _; shows = refl; left = _; met = c.change.ensures; leaves = refl }) in
    record {
      rising = changed_rising g.R.Keyed.key (g.R.FoundBy.numbers c.args.key.now) rows c.self.invariant.rising c.in-Some.at old new place c.index_mut.ensures.value same;
      within = let kept = length-set rows c.in-Some.at new in let fits = c.self.invariant.within in omega arith;
    }

pub returns-in-Some-clause-rows : goal.returns-in-Some-clause-rows
returns-in-Some-clause-rows g c =
    let old = c.index_mut.result.now in
    let new = c.change.new.arg2 in
    let place = rw c.deref.ensures.value at (sym c.in-Some.is ∙ c.place_of.ensures) in
    let became : FnOnceReturnsAtMut g.F.FnOnce c.args.change old tt new =
    record { shown = _; shows = refl; left = _; met = c.change.ensures; leaves = refl } in
    rw (← c.self.view_is)
    (changed_here g.R.Keyed.key (g.R.FoundBy.numbers c.args.key.now) c.self.inside.rows.items c.self.invariant.rising c.in-Some.at old new place
    c.index_mut.ensures.value (c.requires.key old new became) (λ row row'. FnOnceReturnsAtMut g.F.FnOnce c.args.change row tt row') became)

pub returns-in_default-clause-rows : goal.returns-in_default-clause-rows
returns-in_default-clause-rows g c =
    let none = rw c.deref.ensures.value at (sym c.in_default.is ∙ c.place_of.ensures) in
    let nowhere = find_nowhere (is_sought g.R.Keyed.key (g.R.FoundBy.numbers c.args.key.now)) c.self.inside.rows.items none in
    rw (← c.self.view_is) (rw (← nowhere) refl)
