use Rattle.std.proofs.Common.{ℕ, ◌≡◌, ◌++◌, ◌∷◌, [], List, arith, ap, sym, subst, ◌∙◌, rules}
use Rattle.std.specs.List.{All}
use Rattle.std.proofs.lemmas.List.{append-nil, nil_from_length}
use Rattle.std.proofs.lemmas.List.Elements.{All-push}
use Rattle.nf_defs.specs.Prelude.{Tables}
use Rattle.nf_words.proofs.Known.{IsItem}
use Rattle.nf_words.specs.Prelude.{deed_done, deeds_done, purges}
use Rattle.nf_words.specs.declared.answer.Deed.{Deed}
use Rattle.nf_state.specs.Current.{BearsDeed, BearsDeeds}
use Rattle.nf_state.specs.declared.counts.RowCounts.{RowCounts}
use Rattle.nf_state.proofs.Deeds.{all_fit, both_fit, FitInTurn}
use Rattle.nf_state.proofs.Runs.{bears_both, done_both, item_is, run_more}
use Rattle.nf_state.proofs.tables.Tables.perform_each.Goals as goal

pub loop-deed-init : goal.loop-deed-init
loop-deed-init c =
    let t : Tables = c.args.self.now.tables in
    let rest : c.into_iter-deed-iterator.result.rest.items ≡ c.args.deeds.items = search rules in
    let same : purges c.new-run.result.items ++ c.into_iter-deed-iterator.result.rest.items ≡ c.args.deeds.items =
    ap (λ (nodes : List ℕ). purges nodes ++ c.into_iter-deed-iterator.result.rest.items) c.new-run.ensures.items ∙ rest in
    record {
      done = ap (deeds_done t) same;
      items = rw c.new-run.ensures.items (λ k d within. absurd (omega arith));
      borne = subst (λ (left : List Deed). BearsDeeds t left) (sym same) c.requires.bears;
      room = subst (λ (left : List Deed). FitInTurn t c.args.self.now.room left) (sym same)
          (all_fit t c.args.self.now.room c.args.deeds.items c.requires.bears c.requires.order c.requires.room);
    }

pub purge_items-requires-clause-items : goal.purge_items-requires-clause-items
purge_items-requires-clause-items c =
    subst (λ (nodes : List ℕ). All (IsItem c.loop-deed.self.tables) nodes) (sym (c.gathers.ensures.left c.if-not-gathers.true)) c.loop-deed.invariant.items

pub purge_items-requires-clause-bears : goal.purge_items-requires-clause-bears
purge_items-requires-clause-bears c =
    let t : Tables = c.loop-deed.self.tables in
    let run = c.loop-deed.run.items in
    let borne = subst (λ (left : List Deed). BearsDeeds t (purges run ++ left)) c.in-Some.ensures.steps.0 c.loop-deed.invariant.borne in
    subst (λ (nodes : List ℕ). BearsDeeds t (purges nodes)) (sym (c.gathers.ensures.left c.if-not-gathers.true))
    (bears_both t (purges run) (c.in-Some.deed ∷ c.next.new.self.rest.items) borne).0

pub perform-requires-clause-room : goal.perform-requires-clause-room
perform-requires-clause-room c =
    let t : Tables = c.loop-deed.self.tables in
    let run = c.loop-deed.run.items in
    let one = c.in-Some.deed in
    let rest = c.next.new.self.rest.items in
    let room = subst (λ (left : List Deed). FitInTurn t c.loop-deed.self.room (purges run ++ left)) c.in-Some.ensures.steps.0 c.loop-deed.invariant.room in
    let after = c.purge_items.ensures.tables ∙ ap (λ (nodes : List ℕ). deeds_done t (purges nodes)) (c.gathers.ensures.left c.if-not-gathers.true) in
    rw (after, c.purge_items.ensures.room) (both_fit t c.loop-deed.self.room (purges run) (one ∷ rest) room).0

pub perform-requires-clause-bears : goal.perform-requires-clause-bears
perform-requires-clause-bears c =
    let t : Tables = c.loop-deed.self.tables in
    let run = c.loop-deed.run.items in
    let one = c.in-Some.deed in
    let borne = subst (λ (left : List Deed). BearsDeeds t (purges run ++ left)) c.in-Some.ensures.steps.0 c.loop-deed.invariant.borne in
    let after = c.purge_items.ensures.tables ∙ ap (λ (nodes : List ℕ). deeds_done t (purges nodes)) (c.gathers.ensures.left c.if-not-gathers.true) in
    subst (λ (u : Tables). BearsDeed u one) (sym after) (bears_both t (purges run) (one ∷ c.next.new.self.rest.items) borne).1.0

pub loop-deed-preserved : goal.loop-deed-preserved
loop-deed-preserved c =
    let inv = c.loop-deed.invariant in
    let t : Tables = c.loop-deed.self.tables in
    let run = c.loop-deed.run.items in
    let rest = c.next.new.self.rest.items in
    let more = c.gathers.ensures.gathered c.if-not-gathers.false in
    let is = item_is t c.in-Some.deed more.0 more.1 in
    let same : purges c.gathers.new.run.items ++ rest ≡ purges run ++ c.loop-deed.deed-iterator.rest.items =
    ap (λ (nodes : List ℕ). purges nodes ++ rest) more.2 ∙ run_more run more.0 rest ∙ ap (λ (one : Deed). purges run ++ one ∷ rest) (sym is.0)
    ∙ ap (λ (left : List Deed). purges run ++ left) (sym c.in-Some.ensures.steps.0) in
    record {
      done = ap (deeds_done t) same ∙ inv.done;
      items = subst (λ (nodes : List ℕ). All (IsItem t) nodes) (sym more.2) (All-push (IsItem t) run more.0 inv.items is.1);
      borne = subst (λ (left : List Deed). BearsDeeds t left) (sym same) inv.borne;
      room = subst (λ (left : List Deed). FitInTurn t c.loop-deed.self.room left) (sym same) inv.room;
    }

pub loop-deed-preserved-then-not-gathers : goal.loop-deed-preserved-then-not-gathers
loop-deed-preserved-then-not-gathers c =
    let inv = c.loop-deed.invariant in
    let t : Tables = c.loop-deed.self.tables in
    let run = c.loop-deed.run.items in
    let one = c.in-Some.deed in
    let rest = c.next.new.self.rest.items in
    let steps = c.in-Some.ensures.steps.0 in
    let u : Tables = deeds_done t (purges run) in
    let purged = c.purge_items.ensures.tables ∙ ap (λ (nodes : List ℕ). deeds_done t (purges nodes)) (c.gathers.ensures.left c.if-not-gathers.true) in
    let after : c.perform.new.self.tables ≡ deed_done u one = c.perform.ensures.tables ∙ ap (λ (v : Tables). deed_done v one) purged in
    let borne = bears_both t (purges run) (one ∷ rest) (subst (λ (left : List Deed). BearsDeeds t (purges run ++ left)) steps inv.borne) in
    let fits = both_fit t c.loop-deed.self.room (purges run) (one ∷ rest)
    (subst (λ (left : List Deed). FitInTurn t c.loop-deed.self.room (purges run ++ left)) steps inv.room) in
    let room = subst (λ (room : RowCounts). FitInTurn u room (one ∷ rest)) (sym c.purge_items.ensures.room) fits in
    rw c.purge_items.ensures.run (record {
      done = ap (λ (v : Tables). deeds_done v rest) after ∙ sym (done_both t (purges run) (one ∷ rest))
          ∙ ap (λ (left : List Deed). deeds_done t (purges run ++ left)) (sym steps) ∙ inv.done;
      items = λ k d within. absurd (omega arith);
      borne = subst (λ (v : Tables). BearsDeeds v rest) (sym after) borne.1.1;
      room = subst (λ (v : Tables). FitInTurn v c.perform.new.self.room rest) (sym after) (room.1 c.perform.new.self.room c.perform.ensures.room);
    })

pub returns : goal.returns
returns c =
    let t : Tables = c.loop-deed.self.tables in
    let run = c.loop-deed.run.items in
    let none : c.loop-deed.deed-iterator.rest.items ≡ [] =
    nil_from_length c.loop-deed.deed-iterator.rest.items (omega (arith, c.in-None.ensures.steps.0, c.loop-deed.deed-iterator.rest.ok)) in
    c.purge_items-2.ensures.tables ∙ ap (deeds_done t) (sym (ap (λ (left : List Deed). purges run ++ left) none ∙ append-nil (purges run))) ∙ c.loop-deed.invariant.done
