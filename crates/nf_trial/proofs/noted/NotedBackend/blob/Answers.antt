use Rattle.std.proofs.Common.{Bool, subst, sym}
use Rattle.nf_trial.specs.Noted.{IsNoted, Watched, is_lost}
use Rattle.nf_trial.proofs.Struck.{piece_lasts, piece_struck, still_noted}
use Rattle.nf_trial.proofs.noted.NotedBackend.blob.Goals as goal

pub invariant_of-self : goal.invariant_of-self
invariant_of-self g c =
    let old : Watched _ = record {
      backend = c.self.inside.backend;
      start = c.self.inside.start;
      has_failed = c.self.inside.has_failed;
    } in
    let after = c.blob-bytes.new.self in
    subst (λ (failed : Bool). IsNoted g.B.Backend (record old { backend = after; has_failed = failed })) (sym c.with_piece-self-inside.ensures)
    (still_noted g.B.Backend old after (is_lost c.blob-bytes.result) c.self.invariant (piece_lasts _ _ _ _ _ c.blob-bytes.ensures.gives)
    (piece_struck _ _ _ _ _ c.blob-bytes.ensures.gives))
