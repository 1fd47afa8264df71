use Rattle.std.proofs.Common.{◌+◌, ◌≤◌, List, length, sym, subst, rules}
use Rattle.nf_defs.specs.Rising.{IsRising}
use Rattle.nf_defs.proofs.Puts.{put_length, put_rising}
use Rattle.nf_defs.proofs.keyed.put_reserved.Goals as goal

pub returns-clause-items : goal.returns-clause-items
returns-clause-items g c = search rules

pub returns-clause-rising : goal.returns-clause-rising
returns-clause-rising g c =
    let key = g.R.Keyed.key in
    subst (λ (xs : List g.row.R.Denot). IsRising key xs) (sym (returns-clause-items g c))
    (put_rising key c.args.row c.args.rows.now.items c.requires.rising)

pub returns-clause-count : goal.returns-clause-count
returns-clause-count g c =
    subst (λ (xs : List g.row.R.Denot). length xs ≤ length c.args.rows.now.items + 1) (sym (returns-clause-items g c))
    (put_length g.R.Keyed.key c.args.row c.args.rows.now.items)
