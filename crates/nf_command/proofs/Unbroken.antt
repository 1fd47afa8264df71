-- The rows that a store begins with break no rule.
use Rattle.std.proofs.Common.{◌≡◌, ◌≤◌, ℕ, true, false, List, refl}
use Rattle.std.specs.Prelude.{bytes_eq, nat_lt}
use Rattle.std.proofs.lemmas.Bool.{le-ltb}
use Rattle.std.proofs.lemmas.Slice.Eq.{bytes_eq-Decides}
use Rattle.nf_base.specs.declared.limits.TheConstants.{MAX_QUOTA}
use Rattle.nf_base.specs.Naming.{IsName}
use Rattle.nf_rules.specs.Rules.{AreUnbroken, leads, leads_within}
use Rattle.nf_command.specs.First.{init_rows}

bytes_self : (k : List ℕ) → bytes_eq k k ≡ true
bytes_self k = (bytes_eq-Decides k k).1 refl

pub init_unbroken : (name : List ℕ) (token : List ℕ) (quota : ℕ) → IsName name → quota ≤ MAX_QUOTA → AreUnbroken (init_rows name token quota)
unfolding leads leads_within
init_unbroken name token quota is few =
    let thrifty : nat_lt MAX_QUOTA quota ≡ false = le-ltb MAX_QUOTA quota few in
    simp (bytes_self, thrifty)
