use Rattle.std.proofs.Common.{◌∙◌, arith, rules}
use Rattle.std.proofs.lemmas.Fn.{always_returns_same}
use Rattle.nf_defs.specs.Puts.{key_cmp}
use Rattle.nf_defs.proofs.Puts.{comparisons_rise, put_between, put_over}
use Rattle.nf_defs.proofs.keyed.put.Goals as goal

-- the row with its key was found
pub returns-in-Ok-clause-ok : goal.returns-in-Ok-clause-ok
returns-in-Ok-clause-ok g c =
    let key = g.R.Keyed.key in
    let found = c.in-Ok.ensures.position (λ other. key_cmp (key other) (key c.args.row))
    (always_returns_same _ _ _ (λ a r f' called. (search rules, search rules))) in
    put_over key c.args.row c.args.rows.now.items c.in-Ok.at
    (rw c.deref.ensures.value at c.in-Ok.ensures.bound) (λ d. rw c.deref.ensures.value at (found d)) c.requires

-- those below it end there, and those above it begin
pub returns-in_ok-insert-in-Err-clause-ok : goal.returns-in_ok-insert-in-Err-clause-ok
returns-in_ok-insert-in-Err-clause-ok g c =
    let key = g.R.Keyed.key in
    let parted = c.in-Err.ensures.position (λ other. key_cmp (key other) (key c.args.row))
    (always_returns_same _ _ _ (λ a r f' called. (search rules, search rules))) in
    let parts = parted (rw c.deref.ensures.value (comparisons_rise key c.args.row c.args.rows.now.items c.requires)) in
    c.in_ok-insert-in-Err.ensures.items
    ∙ put_between key c.args.row c.args.rows.now.items c.in-Err.at
    (rw c.deref.ensures.value at c.in-Err.ensures.bound)
    (λ k d less. rw c.deref.ensures.value at (parts.0 k d (omega arith) less))
    (λ k d le less. rw c.deref.ensures.value at (parts.1 k d le (rw c.deref.ensures.value less)))
