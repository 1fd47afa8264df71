use Rattle.std.proofs.Common.{sym, ◌∙◌, arith}
use Rattle.nf_mounts.proofs.Keys.{by_key}
use Rattle.nf_mounts.proofs.Puts.{put_fits}
use Rattle.nf_mounts.proofs.mounts.Mounts.put.Goals as goal

pub renew-requires-clause-room : goal.renew-requires-clause-room
renew-requires-clause-room c =
    let new = rw (← c.self.view_is) at c.requires in
    put_fits c.self.inside.rows.rows c.args.row c.self.inside.by_name.room c.self.invariant.names.rows_rise c.self.invariant.fits
    (λ none. let less = new none in omega arith)

pub put-requires : goal.put-requires
put-requires c none =
    let new = rw (← c.self.view_is) at c.requires in
    let less = new (sym (by_key c.self.inside.rows.rows c.args.row.user c.args.row.node) ∙ none) in
    omega arith

pub invariant_of-self : goal.invariant_of-self
invariant_of-self c =
    let new = rw (← c.self.view_is) at c.requires in
    let fits =
    put_fits c.self.inside.rows.rows c.args.row c.self.inside.by_name.room c.self.invariant.names.rows_rise c.self.invariant.fits
    (λ none. let less = new none in omega arith) in
    rw c.put.ensures.rows (record { names = c.renew.ensures.index; fits = omega arith })
