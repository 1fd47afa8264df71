use Rattle.std.proofs.Common.{◌<◌, ◌≤◌, length, refl, ◌∙◌, arith}
use Rattle.std.proofs.lemmas.List.{drop_all}
use Rattle.nf_shares.proofs.Ending.{entry_there, ids_long, is_on, none_passing, share_ended, share_there}
use Rattle.nf_shares.specs.Kept.{ids_of}
use Rattle.nf_shares.proofs.shares.Shares.end_on.Goals as goal

pub loop-place-init : goal.loop-place-init
loop-place-init c = record { rows = (0, refl, refl); room = refl }

pub bounds-entries-place : goal.bounds-entries-place
bounds-entries-place c =
    let old = c.args.self.now.rows in
    let i = c.loop-place.invariant.rows in
    let within : c.loop-place.place < length (ids_of (is_on c.args.node) old) =
    omega (arith, c.loop-place-test.true, ids_long c.args.node old c.entries-place-end.result.now c.entries-place-end.ensures.numbers) in
    entry_there c.args.node c.loop-place.place old c.loop-place.self.rows c.entries.result.now i.0 i.1 i.2 c.entries.ensures.rising c.entries.ensures.numbers within

pub bounds-entries-place-in-loop-place : goal.bounds-entries-place-in-loop-place
bounds-entries-place-in-loop-place c = bounds-entries-place c

pub end-requires : goal.end-requires
end-requires c =
    let old = c.args.self.now.rows in
    let i = c.loop-place.invariant.rows in
    let within : c.loop-place.place < length (ids_of (is_on c.args.node) old) =
    omega (arith, c.loop-place-test.true, ids_long c.args.node old c.entries-place-end.result.now c.entries-place-end.ensures.numbers) in
    share_there c.args.node c.loop-place.place old c.loop-place.self.rows c.entries.result.now i.0 i.1 i.2 c.entries.ensures.rising c.entries.ensures.numbers within c.index-entries-place.result

pub loop-place-preserved : goal.loop-place-preserved
loop-place-preserved c =
    let old = c.args.self.now.rows in
    let i = c.loop-place.invariant.rows in
    let within : c.loop-place.place < length (ids_of (is_on c.args.node) old) =
    omega (arith, c.loop-place-test.true, ids_long c.args.node old c.entries-place-end.result.now c.entries-place-end.ensures.numbers) in
    let next =
    share_ended c.args.node c.loop-place.place old c.loop-place.self.rows c.entries.result.now i.0 i.1 i.2 c.entries.ensures.rising c.entries.ensures.numbers within c.index-entries-place.result in
    record { rows = (next.0, c.end.ensures.rows ∙ next.1, next.2); room = c.end.ensures.room ∙ c.loop-place.invariant.room }

pub returns-clause-rows : goal.returns-clause-rows
returns-clause-rows c =
    let old = c.args.self.now.rows in
    let i = c.loop-place.invariant.rows in
    let all : length (ids_of (is_on c.args.node) old) ≤ c.loop-place.place =
    omega (arith, c.loop-place-test.false, ids_long c.args.node old c.entries-place-end.result.now c.entries-place-end.ensures.numbers) in
    i.1 ∙ none_passing (is_on c.args.node) old i.0 (i.2 ∙ drop_all c.loop-place.place (ids_of (is_on c.args.node) old) all)
