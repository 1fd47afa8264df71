-- A router has one row more for a route that was added.
use Rattle.std.proofs.Common.{◌≡◌, List, ℕ, Result, Ok, Err}
use Rattle.std.specs.Prelude.{OnOk}
use Rattle.matchit.specs.Rows.{RowsOf}
use Rattle.matchit.specs.Route.{Scan, parse_route}
use Rattle.matchit.specs.Router.{RouteOf, InsertsRead}
use Rattle.matchit.specs.declared.error.InsertError.{InsertError}
use Rattle.nf_routes.specs.declared.mounts.Mount.{Mount}
use Rattle.nf_routes.specs.Rows.{inserted, placed_read}

-- it has been read
reads : (x : Result Scan InsertError) (m : Mount) (old new : RowsOf (RouteOf Mount)) → InsertsRead x m old new (Ok tt) → new ≡ placed_read x m old
reads (Ok s) m old new h = h.1
reads (Err e) m old new h = h.0

added_read : (r : Result (Unit {0}) InsertError) (x : Result Scan InsertError) (m : Mount) (old new : RowsOf (RouteOf Mount)) → InsertsRead x m old new r
    → OnOk r (new ≡ placed_read x m old)
added_read (Ok tt) x m old new h = reads x m old new h
added_read (Err e) x m old new h = tt

pub added : (r : Result (Unit {0}) InsertError) (text : List ℕ) (m : Mount) (old new : RowsOf (RouteOf Mount)) → InsertsRead (parse_route text) m old new r
    → OnOk r (new ≡ inserted text m old)
unfolding inserted
added r text m old new h = added_read r (parse_route text) m old new h
