use Rattle.std.proofs.Common.{◌≡◌, ◌-◌, [], ◌∷◌, ◌++◌, length, take, drop, arith, rules}
use Rattle.nf_retention.proofs.Turns.{begins, ends, goes_on, keeps_on}
use Rattle.nf_retention.proofs.Walks.{kept_right, thinned_rest}
use Rattle.nf_retention.proofs.thinning.thinned.Goals as goal
use Rattle.nf_retention.proofs.thinning.thinned.Goals.{then-last-at, else-last-at+in_ok-push}

pub loop-version-init : goal.loop-version-init
loop-version-init c =
    rw (c.seconds-last.ensures, c.new-gone.ensures.items)
    (begins c.args.now c.newest-item.result c.args.versions.now c.requires.falling c.requires.past c.in-len1-up.len_at_least c.newest-item.is)

pub returns-in_err-push-clause-kept : goal.returns-in_err-push-clause-kept
returns-in_err-push-clause-kept c = kept_right c.args.now c.args.versions.now c.requires.falling

pub loop-version-preserved : goal.loop-version-preserved
loop-version-preserved c =
    let older = take (length c.args.versions.now - 1) (drop 1 c.args.versions.now) in
    elim c.if-last-at.branch [
      | then-last-at w ↦ rw (w.last-is, w.gone-is, c.seconds-at.ensures)
          (keeps_on c.args.now c.loop-version.last c.version-item.result c.loop-version.version-index older _ _ (omega arith) c.version-item.is
          (rw (c.step.ensures, c.seconds.ensures, c.seconds-at.ensures) at w.if-last-at.true) c.loop-version.invariant)
      | else-last-at+in_ok-push w ↦
          let grown : c.if-last-at.gone.items ≡ c.loop-version.gone.items ++ c.version-item.result ∷ [] = search rules in
          rw (w.last-is, grown)
          (goes_on c.args.now c.loop-version.last c.version-item.result c.loop-version.version-index older _ _ (omega arith) c.version-item.is
          (rw (c.step.ensures, c.seconds.ensures, c.seconds-at.ensures) at w.if-last-at.false) c.loop-version.invariant)
    ]

pub returns-clause-parted : goal.returns-clause-parted
returns-clause-parted c =
    rw (ends c.args.now c.loop-version.last c.loop-version.version-index (take (length c.args.versions.now - 1) (drop 1 c.args.versions.now))
    c.loop-version.gone.items _ (omega arith) c.loop-version.invariant)
    (thinned_rest c.args.now c.args.versions.now c.requires.falling)

pub returns-clause-kept : goal.returns-clause-kept
returns-clause-kept c = kept_right c.args.now c.args.versions.now c.requires.falling
