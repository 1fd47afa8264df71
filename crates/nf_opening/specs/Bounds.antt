-- The bytes of owners.
use Rattle.std.specs.Prelude.{◌≡◌, ◌<◌, ℕ}
use Rattle.nf_defs.specs.Tables.{Tables}
use Rattle.nf_words.specs.Charges.{charge_of}
use Rattle.nf_rules.specs.Rules.{held_bytes, trash_bytes}
use Rattle.nf_opening.specs.Totals.{total_of}
use Rattle.nf_opening.specs.declared.bounds.Bounds.{Bounds}

-- the bytes of each owner's versions, the charge of each who has some, and the bytes of each owner's items
pub record AreBounds (t : Tables) (bounds : Bounds) : Type 0 where
  pub held : (owner : ℕ) → total_of bounds.held owner ≡ held_bytes t owner
  pub trashes : (owner : ℕ) → total_of bounds.trashes owner ≡ trash_bytes t owner
  pub charges : (owner : ℕ) → 0 < held_bytes t owner → total_of bounds.charges owner ≡ charge_of t owner
