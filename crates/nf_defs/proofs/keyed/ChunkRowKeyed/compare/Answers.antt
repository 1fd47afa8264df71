use Rattle.nf_defs.proofs.Puts.{chunk_cmp}
use Rattle.nf_defs.proofs.keyed.ChunkRowKeyed.compare.Goals as goal

pub returns : goal.returns
returns c =
    let row = c.self.inside in
    let other = c.other.inside in
    let cmp = chunk_cmp row.user other.user row.dir other.dir row.number other.number in
    rw (← c.self.view_is, ← c.other.view_is) (cc cmp)
