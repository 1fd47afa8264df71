use Rattle.std.proofs.Common.{◌+◌, ◌-◌, ◌≤◌, ℕ, length, min, arith, ap, sym, ◌∙◌}
use Rattle.nf_defs.specs.Prelude.{share_key}
use Rattle.nf_shares.proofs.Indexes.{by_id, no_fewer}
use Rattle.nf_shares.proofs.shares.Shares.put.Goals as goal

-- what is free of a table, beside the rows, where it has no more rows more
free : (n n' a a' s s' : ℕ) → n ≤ n' → a' + n ≤ a + n' → s ≤ s' → n + (s - a) ≤ n' + (s' - a')
free n n' a a' s s' grows entries room = omega arith

least : (n n' x x' y y' z z' : ℕ) → n + x ≤ n' + x' → n + y ≤ n' + y' → n + z ≤ n' + z' → n + min x (min y z) ≤ n' + min x' (min y' z')
least n n' x x' y y' z z' first second third = omega arith

pub put-requires : goal.put-requires
put-requires c none =
    let new = rw (← c.self.view_is) at c.requires.room in
    let fits = new (sym (by_id c.self.inside.rows.rows c.args.row.id) ∙ none) in
    omega arith

pub returns-clause-room : goal.returns-clause-room
returns-clause-room c =
    let rows = c.self.inside.rows in
    let nodes = c.self.inside.by_node in
    let tokens = c.self.inside.by_token in
    let new = c.put.new.self in
    let nodes' = c.renew.new.index in
    let tokens' = c.renew-2.new.index in
    let fewer = no_fewer share_key c.args.row rows.rows in
    let count = ap length c.put.ensures.rows in
    let more : length rows.rows ≤ length new.rows = omega arith in
    let free_rows = free (length rows.rows) (length new.rows) (length rows.rows) (length new.rows) rows.room new.room more (omega arith) c.put.ensures.room in
    let free_nodes = free (length rows.rows) (length new.rows) (length nodes.rows) (length nodes'.rows) nodes.room nodes'.room more
    (omega (arith, c.renew.ensures.count)) c.renew.ensures.room in
    let free_tokens = free (length rows.rows) (length new.rows) (length tokens.rows) (length tokens'.rows) tokens.room tokens'.room more
    (omega (arith, c.renew-2.ensures.count)) c.renew-2.ensures.room in
    rw (← c.self.view_is)
    (least (length rows.rows) (length new.rows) (rows.room - length rows.rows) (new.room - length new.rows)
    (nodes.room - length nodes.rows) (nodes'.room - length nodes'.rows) (tokens.room - length tokens.rows) (tokens'.room - length tokens'.rows)
    free_rows free_nodes free_tokens)
