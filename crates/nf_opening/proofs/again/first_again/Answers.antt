use Rattle.std.proofs.Common.{subst, sym, ap, ◌∙◌, ◌++◌, ◌∷◌, []}
use Rattle.nf_opening.proofs.Scans.{SoFar, begins, skips, again, fresh, was_there, was_new}
use Rattle.nf_opening.proofs.again.first_again.Goals as goal

pub loop-key-preserved-then-not-branch : goal.loop-key-preserved-then-not-branch
loop-key-preserved-then-not-branch g c =
    let items = c.in-Some.ensures.items ∙ ap (λ key. c.pop.new.self.items ++ key ∷ []) c.in-Some-key.is in
    rw (c.len.ensures, c.pop.new.self.ok.0)
    (again g.met.K.Ord.total c.args.keys.items c.pop.new.self.items c.loop-key.seen.keys c.insert.new.self.keys c.loop-key.least c.in-Some-key.key
    (subst (λ keys. SoFar g.K.Ord.cmp c.args.keys.items keys c.loop-key.seen.keys c.loop-key.least) items c.loop-key.invariant)
    (was_there _ _ c.in_ok-insert.ensures.added c.if-not-branch.true) c.in_ok-insert.ensures.updates.0)

pub loop-key-preserved-else-not-branch : goal.loop-key-preserved-else-not-branch
loop-key-preserved-else-not-branch g c =
    let items = c.in-Some.ensures.items ∙ ap (λ key. c.pop.new.self.items ++ key ∷ []) c.in-Some-key.is in
    fresh g.met.K.Ord.total c.args.keys.items c.pop.new.self.items c.loop-key.seen.keys c.insert.new.self.keys c.loop-key.least c.in-Some-key.key
    (subst (λ keys. SoFar g.K.Ord.cmp c.args.keys.items keys c.loop-key.seen.keys c.loop-key.least) items c.loop-key.invariant)
    (was_new _ _ c.in_ok-insert.ensures.added c.if-not-branch.false) c.in_ok-insert.ensures.updates.0

pub loop-key-preserved : goal.loop-key-preserved
loop-key-preserved g c =
    let items = c.in-Some.ensures.items ∙ ap (λ key. c.pop.new.self.items ++ key ∷ []) c.in_default-key.is in
    skips c.args.keys.items c.pop.new.self.items c.loop-key.seen.keys c.loop-key.least
    (subst (λ keys. SoFar g.K.Ord.cmp c.args.keys.items keys c.loop-key.seen.keys c.loop-key.least) items c.loop-key.invariant)

pub loop-key-init : goal.loop-key-init
loop-key-init g c =
    subst (λ saw. SoFar g.K.Ord.cmp c.args.keys.items c.args.keys.items saw _) (sym c.new-seen.ensures.empty) (begins c.args.keys.items)
