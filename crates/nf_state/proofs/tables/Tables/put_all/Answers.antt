use Rattle.std.proofs.Common.{ℕ, ◌++◌, ◌∷◌, [], List, ap, sym, subst, ◌∙◌}
use Rattle.std.proofs.lemmas.List.{append_assoc}
use Rattle.nf_base.specs.declared.changes.Change.{Change}
use Rattle.nf_defs.specs.Prelude.{made, Tables}
use Rattle.nf_laws.proofs.Lists.{Rising, put_more}
use Rattle.nf_state.specs.Counts.{FitsRows}
use Rattle.nf_state.specs.Current.{added_of, AreBorne, IsBorne}
use Rattle.nf_state.specs.declared.counts.RowCounts.{RowCounts}
use Rattle.nf_state.proofs.Deeds.{higher_still}
use Rattle.nf_state.proofs.Putting.{borne_fits, borne_next, borne_rising, front_fits}
use Rattle.nf_state.proofs.tables.Tables.put_all.Goals as goal

pub make-requires-clause-room : goal.make-requires-clause-room
make-requires-clause-room c =
    let inv = c.loop-change.invariant in
    let t : Tables = c.loop-change.self.tables in
    let room : RowCounts = c.loop-change.self.room in
    let next = c.args.self.now.tables.meta.next_node in
    let change = c.in-Some.change in
    subst (λ (n : ℕ). FitsRows t room (added_of n (change ∷ []))) (sym inv.next)
    (front_fits t room next change c.next.new.self.rest.items
    (subst (λ (left : List Change). FitsRows t room (added_of next left)) c.in-Some.ensures.steps.0 inv.room))

pub make-requires-clause-borne : goal.make-requires-clause-borne
make-requires-clause-borne c =
    let inv = c.loop-change.invariant in
    let next = c.args.self.now.tables.meta.next_node in
    let borne = subst (λ (left : List Change). AreBorne next c.loop-change.self.tables left) c.in-Some.ensures.steps.0 inv.borne in
    subst (λ (n : ℕ). IsBorne n c.loop-change.self.tables c.in-Some.change) (sym inv.next) borne.0

pub loop-change-preserved : goal.loop-change-preserved
loop-change-preserved c =
    let inv = c.loop-change.invariant in
    let t : Tables = c.loop-change.self.tables in
    let first : Tables = c.args.self.now.tables in
    let next = first.meta.next_node in
    let change = c.in-Some.change in
    let front = c.loop-change.yielded in
    let rest = c.next.new.self.rest.items in
    let steps = c.in-Some.ensures.steps.0 in
    let borne = subst (λ (left : List Change). AreBorne next t left) steps inv.borne in
    let room = subst (λ (left : List Change). FitsRows t c.loop-change.self.room (added_of next left)) steps inv.room in
    let after = c.make.ensures.tables in
    record {
      made = after ∙ ap (λ (u : Tables). made u change) inv.made ∙ sym (put_more first front (change ∷ []));
      left = append_assoc front (change ∷ []) rest ∙ ap (λ (list : List Change). front ++ list) (sym steps) ∙ inv.left;
      next = ap (λ (u : Tables). u.meta.next_node) after ∙ borne_next next t change borne.0 ∙ inv.next;
      rising = subst (λ (u : Tables). Rising u.nodes) (sym after) (borne_rising next t change inv.rising borne.0);
      borne = subst (λ (u : Tables). AreBorne next u rest) (sym after) borne.1;
      room = subst (λ (u : Tables). FitsRows u c.make.new.self.room (added_of next rest)) (sym after)
          (borne_fits next t change rest c.loop-change.self.room c.make.new.self.room inv.rising borne.0 c.make.ensures.room room);
      higher = higher_still c.args.self.now.room c.loop-change.self.room c.make.new.self.room inv.higher c.make.ensures.room;
    }
