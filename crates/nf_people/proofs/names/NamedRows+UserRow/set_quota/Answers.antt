use Rattle.std.proofs.Common.{refl, sym, ap, ◌∙◌}
use Rattle.std.specs.Option.{is_some}
use Rattle.std.proofs.lemmas.List.{get_or_default}
use Rattle.nf_base.specs.declared.rows.UserRow.{UserRow}
use Rattle.nf_people.proofs.NameIndex.{index_over}
use Rattle.nf_people.proofs.Quotas.{index_within, quota_rising, quota_set, user_nowhere, user_there}
use Rattle.nf_people.proofs.names.NamedRows+UserRow.set_quota.Goals as goal

pub invariant_of-self : goal.invariant_of-self
invariant_of-self c =
    let rows = c.self.inside.rows.items in
    let old = c.index_mut.result.now in
    let first = rw c.deref.ensures.value at (sym c.in-Some.is ∙ c.place_of.ensures) in
    let is = c.index_mut.ensures.value in
    let name = λ (row : UserRow). row.name in
    let rising = quota_rising rows c.args.user c.in-Some.at c.args.quota old first is c.self.invariant.0 in
    let changed : UserRow = record old { quota = c.args.quota } in
    let bound = index_within rows c.args.user c.in-Some.at old first in
    let same = ap name is ∙ ap name (get_or_default rows c.in-Some.at old changed bound) in
    (rising, index_over name rows c.self.inside.by_name.items c.in-Some.at changed same c.self.invariant.1)

pub returns-in-Some-clause-found : goal.returns-in-Some-clause-found
returns-in-Some-clause-found c =
    let first = rw c.deref.ensures.value at (sym c.in-Some.is ∙ c.place_of.ensures) in
    rw (← c.self.view_is)
    (sym (ap is_some (user_there c.self.inside.rows.items c.args.user c.in-Some.at c.index_mut.result.now first c.index_mut.ensures.value)))

pub returns-in-Some-clause-rows : goal.returns-in-Some-clause-rows
returns-in-Some-clause-rows c =
    let first = rw c.deref.ensures.value at (sym c.in-Some.is ∙ c.place_of.ensures) in
    rw (← c.self.view_is)
    (quota_set c.self.inside.rows.items c.args.user c.in-Some.at c.args.quota c.index_mut.result.now first c.index_mut.ensures.value c.self.invariant.0)

pub returns-in-None-clause-found : goal.returns-in-None-clause-found
returns-in-None-clause-found c =
    let none = rw c.deref.ensures.value at (sym c.in-None.is ∙ c.place_of.ensures) in
    rw (← c.self.view_is) (sym (ap is_some (user_nowhere c.self.inside.rows.items c.args.user none)))

pub returns-in-None-clause-rows : goal.returns-in-None-clause-rows
returns-in-None-clause-rows c =
    let none = rw c.deref.ensures.value at (sym c.in-None.is ∙ c.place_of.ensures) in
    rw (← c.self.view_is) (rw (user_nowhere c.self.inside.rows.items c.args.user none) refl)
