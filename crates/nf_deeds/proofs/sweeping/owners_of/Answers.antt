use Rattle.std.proofs.Common.{ℕ, ◌≡◌, ◌++◌, ◌∷◌, [], Bool, List, Global, Vec, if◌then◌else◌, take, ap, sym, ◌∙◌}
use Rattle.std.specs.List.{list_any}
use Rattle.std.specs.Ordering.{eq_by_cmp, nat_cmp}
use Rattle.std.proofs.lemmas.List.{take_more}
use Rattle.nf_base.specs.declared.rows.ItemRow.{ItemRow}
use Rattle.nf_opening.proofs.Scans.{was_new, was_there}
use Rattle.nf_words.specs.Prelude.{owners_of}
use Rattle.nf_deeds.proofs.Owners.{among, owners_step, seen_step}
use Rattle.nf_deeds.proofs.sweeping.owners_of.Goals as goal
use Rattle.nf_deeds.proofs.sweeping.owners_of.Goals.{then-branch+in_ok-push, else-branch}

pub loop-item-preserved : goal.loop-item-preserved
loop-item-preserved c =
    let item = c.item-item.result in
    let so_far = take c.loop-item.item-index c.args.items.now in
    let i = c.loop-item.invariant in
    let users = c.loop-item.owners.items in
    let there : Bool = list_any (eq_by_cmp nat_cmp item.owner) c.loop-item.seen.keys in
    let more = take_more c.args.items.now c.loop-item.item-index item c.loop-item-test.true ∙ ap (λ (i : ItemRow). so_far ++ i ∷ []) (sym c.item-item.is) in
    let put : c.if-branch.owners.items ≡ (if there then users else users ++ item.owner ∷ []) =
    elim c.if-branch.branch [
      | then-branch+in_ok-push w ↦
          ap (λ (v : Vec ℕ Global). v.items) w.owners-is
          ∙ w.in_ok-push.ensures.items
          ∙ sym (ap (λ (b : Bool). if b then users else users ++ item.owner ∷ []) (was_new there c.in_ok-insert.field-0 c.in_ok-insert.ensures.added w.if-branch.true))
      | else-branch w ↦
          ap (λ (v : Vec ℕ Global). v.items) w.owners-is
          ∙ sym (ap (λ (b : Bool). if b then users else users ++ item.owner ∷ []) (was_there there c.in_ok-insert.field-0 c.in_ok-insert.ensures.added w.if-branch.false))
    ] in
    record {
      owners =
          owners_step so_far item there c.if-branch.owners.items (i.seen item.owner ∙ ap (among item.owner) i.owners)
          (put ∙ ap (λ (all : List ℕ). if there then all else all ++ item.owner ∷ []) i.owners) ∙ sym (ap owners_of more);
      seen = seen_step c.loop-item.seen.keys c.insert.new.self.keys users c.if-branch.owners.items item.owner there i.seen c.in_ok-insert.ensures.updates.0 (i.seen item.owner) put;
    }
