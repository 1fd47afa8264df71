-- What shares let their seekers do.
use Rattle.std.specs.Prelude.{ℕ, List}
use Rattle.nf_defs.specs.declared.Grant.{Grant}
use Rattle.nf_defs.specs.declared.Seeker.{Seeker}

-- the grants of a seeker on a node: those of its shares, by their rows or as they are kept
abbrev pub Access : Type 0
Access = Seeker → ℕ → List Grant
