-- The next answer was written, or not.
use Rattle.std.proofs.Common.{◌∙◌, ◌++◌, ap, sym}
use Rattle.case_files.proofs.Answers.{matches, differs}
use Rattle.case_files.proofs.judging.first_difference.Goals as goal

pub returns-in-None-clause-none : goal.returns-in-None-clause-none
returns-in-None-clause-none c = (
  (λ no. cc),
  (λ all. absurd (differs c.args.exchanges.now c.loop-index.index c.index-exchanges-index.result c.args.written.now c.loop-index.rest.now
      c.loop-index-test.true c.index-exchanges-index.is c.loop-index.invariant
      (λ behind same. c.in-None.ensures behind (same ∙ ap (λ xs. xs ++ behind) (sym c.deref.ensures.value))) all)),
)

pub loop-index-preserved : goal.loop-index-preserved
loop-index-preserved c =
    matches c.args.exchanges.now c.loop-index.index c.index-exchanges-index.result c.args.written.now c.loop-index.rest.now c.in-Some.behind.now
    c.loop-index-test.true c.index-exchanges-index.is c.loop-index.invariant
    (c.in-Some.ensures ∙ ap (λ xs. xs ++ c.in-Some.behind.now) c.deref.ensures.value)
