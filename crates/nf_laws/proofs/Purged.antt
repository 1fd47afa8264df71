-- What all that goes for good, one after the other, keeps.
use Rattle.std.proofs.Common.{◌≢◌, ℕ, List, [], ◌∷◌}
use Rattle.std.specs.List.{All, AllPairs}
use Rattle.nf_defs.specs.Prelude.{Tables}
pub use Rattle.nf_laws.proofs.InTurn.{item_outside}
use Rattle.nf_laws.proofs.InTurn.{item_stays}
use Rattle.nf_words.proofs.Known.{IsItem}
use Rattle.nf_words.specs.Prelude.{deeds_done, purged, purges}

-- what each that goes keeps of tables, all keep
pub purged_keeps : (P : Tables → Type 0) → ((u : Tables) (node : ℕ) → P u → P (purged u node)) → (u : Tables) (gone : List ℕ) → P u
    → P (deeds_done u (purges gone))
purged_keeps P keeps u [] h = h
purged_keeps P keeps u (node ∷ nodes) h = purged_keeps P keeps (purged u node) nodes (keeps u node h)

-- an item stays one where another goes
pub purged_items : (u : Tables) (node : ℕ) (nodes : List ℕ) → AllPairs (λ (a b : ℕ). a ≢ b) (node ∷ nodes) → All (IsItem u) nodes
    → All (IsItem (purged u node)) nodes
purged_items = item_stays
