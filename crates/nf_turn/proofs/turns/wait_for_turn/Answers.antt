use Rattle.std.proofs.Common.{rules, ◌≡◌, [], ◌∷◌, Option, Some, None, refl, sym, ap, ◌∙◌, subst}
use Rattle.std.specs.Option.{IsSome}
use Rattle.atomic_table.specs.Table.{rest}
use Rattle.nf_turn.specs.Prelude.{Agrees, memory_in, Place}
use Rattle.nf_turn.specs.declared.view.View.TheVariants.{Holding}
use Rattle.nf_turn.proofs.Drawing.{may_draw}
use Rattle.nf_turn.proofs.Looking.{may_look}
use Rattle.nf_turn.proofs.Poses.{found_out}
use Rattle.nf_turn.proofs.turns.wait_for_turn.Goals as goal

pub fetch_add-mine-requires : goal.fetch_add-mine-requires
fetch_add-mine-requires g c =
    let key = c.args.counter.now.key in
    (search rules, search rules, may_draw g.W.Book.book key.seats key.first.value _ _ _ _ c.requires.idle)

pub loop-init : goal.loop-init
loop-init g c = record { table = search rules; id = search rules; waits = c.fetch_add-mine.ensures.2 _ c.requires.idle }

pub load-served-requires : goal.load-served-requires
load-served-requires g c =
    let key = c.args.counter.now.key in
    (search rules, search rules, may_look g.W.Book.book key.seats key.first.value _ _ _ _ _ c.loop.invariant.waits)

-- another number is served: nothing changed
pub loop-preserved : goal.loop-preserved
loop-preserved g c =
    let missed = (c.load-served.ensures.2 _ _ c.loop.invariant.waits).1 c.if-served-mine.false in
    let kept = c.wait_for_bell.ensures in
    record { table = kept.0 ∙ c.load-served.ensures.0 ∙ c.loop.invariant.table; id = kept.1 ∙ c.load-served.ensures.1 ∙ c.loop.invariant.id; waits = kept.2 ∙ missed ∙ c.loop.invariant.waits }

-- its own is served: the value is in the seat's hand
pub exchange-requires : goal.exchange-requires
exchange-requires g c =
    let hit = (c.load-served.ensures.2 _ _ c.loop.invariant.waits).0 c.if-served-mine.true in
    let hand = ap (λ m. m.1) hit.1 in
    (search rules, (Some hit.0, hand ∙ ap (λ l. (0, Some hit.0) ∷ rest l) (sym hand)))

pub unwrap-requires : goal.unwrap-requires
unwrap-requires g c =
    let hit = (c.load-served.ensures.2 _ _ c.loop.invariant.waits).0 c.if-served-mine.true in
    subst (λ (o : Option g.row.W.Denot). IsSome o) (sym (found_out _ _ _ _ hit.1 c.exchange.ensures.2)) refl

pub returns-then-served-mine-clause-turn : goal.returns-then-served-mine-clause-turn
returns-then-served-mine-clause-turn g c =
    let hit = (c.load-served.ensures.2 _ _ c.loop.invariant.waits).0 c.if-served-mine.true in
    let same : Some hit.0 ≡ Some c.unwrap.result = sym (found_out _ _ _ _ hit.1 c.exchange.ensures.2) ∙ c.unwrap.ensures in
    let value : hit.0 ≡ c.unwrap.result = (cc) in
    c.exchange.ensures.3 ∙ ap (λ (m : Place g.row.W.Denot). (m.0, (0, None) ∷ rest m.1)) hit.1 ∙ ap (λ (v : g.row.W.Denot). (Holding v (memory_in c.args.counter.now.key.first.value c.args.place.now.me), (0, None) ∷ [])) value

pub returns-then-served-mine-clause-value : goal.returns-then-served-mine-clause-value
returns-then-served-mine-clause-value g c =
    let hit = (c.load-served.ensures.2 _ _ c.loop.invariant.waits).0 c.if-served-mine.true in
    let same : Some hit.0 ≡ Some c.unwrap.result = sym (found_out _ _ _ _ hit.1 c.exchange.ensures.2) ∙ c.unwrap.ensures in
    let value : hit.0 ≡ c.unwrap.result = (cc) in
    subst (λ (v : g.row.W.Denot). Agrees g.W.Book.book (memory_in c.args.counter.now.key.first.value c.args.place.now.me) v) value hit.2
