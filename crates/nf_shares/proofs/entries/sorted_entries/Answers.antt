use Rattle.std.proofs.Common.{rules, subst, nat_cmp}
use Rattle.std.proofs.lemmas.Fn.{always_returns_same}
use Rattle.std.specs.List.Sorted.{IsStableByKey}
use Rattle.nf_shares.proofs.Sorted.{sorted_index}
use Rattle.nf_shares.proofs.entries.sorted_entries.Goals as goal

pub returns : goal.returns
returns g c =
    let number = g.K.IndexKey.number in
    let by = always_returns_same _ _ _ (λ a r g called. search rules) in
    sorted_index number g.K.IndexKey.of_row g.met.K.IndexKey.each_number c.args.rows.now c.sort_by_key.new.self.items c.requires
    (c.in_ok-sort_by_key.ensures.sorted (λ entry. number entry.by) by)
    (subst (λ entries. IsStableByKey (λ entry. number entry.by) nat_cmp entries c.sort_by_key.new.self.items) c.in_ok-entries.ensures
    (c.sort_by_key.ensures.stable (λ entry. number entry.by) by))
