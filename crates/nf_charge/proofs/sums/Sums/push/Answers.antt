use Rattle.std.proofs.Common.{ℕ, List, length, set, ◌-◌, ◌<◌, ◌≡◌, ◌^◌, sym, subst, ap, arith}
use Rattle.nf_base.specs.Content.{size_of}
use Rattle.nf_base.specs.declared.rows.NodeRow.{NodeRow}
use Rattle.nf_charge.specs.Held.{Held}
use Rattle.nf_charge.specs.Sums.{AreSums, IsLifted}
use Rattle.nf_charge.proofs.Pushing.{push_enters}
use Rattle.nf_charge.proofs.sums.Sums.push.Goals as goal

pub enter-requires-clause-sums : goal.enter-requires-clause-sums
enter-requires-clause-sums c =
    let rows = c.args.rows.now in
    let before = c.requires.sums.0 in
    let old = c.index-rows-last.result in
    let bytes : ℕ = c.from-bytes.result in
    let are = subst (AreSums before) (ap (λ (held : Held). held.sums) (sym c.self.view_is)) c.requires.sums.4 in
    let is : bytes ≡ size_of old.content = cc in
    let small : bytes < 2 ^ 64 = omega arith in
    subst (λ (sums : List ℕ). (row : NodeRow) × IsLifted rows (length rows - 1) row × AreSums (set rows (length rows - 1) row) sums)
    (sym c.push_reserved.ensures.items)
    (push_enters rows before c.requires.sums.1 old c.self.inside.sums.items bytes c.requires.sums.2 c.requires.rising c.requires.leads
    c.requires.sums.3 are c.index-rows-last.is is small)
