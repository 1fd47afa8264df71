-- What is under a node has the size that is told of it, and what is under a user's root is what the user is charged for.
use Rattle.std.proofs.Common.{◌≡◌, ◌≤◌, ℕ, All, List, None, Some, get_or, refl, sym, ap, ◌∙◌, arith}
use Rattle.std.specs.Prelude.{is_some}
use Rattle.std.proofs.lemmas.Bool.{false≢true, ne_eqb}
use Rattle.nf_base.specs.declared.rows.NodeRow.{NodeRow}
use Rattle.nf_base.specs.declared.rows.UserRow.{UserRow}
use Rattle.nf_charge.specs.Sums.{bytes_under}
use Rattle.nf_defs.specs.Prelude.{Tables, user_row}
use Rattle.nf_laws.proofs.Charging.{charge_beside}
use Rattle.nf_laws.proofs.Sizes.{nothing}
use Rattle.nf_laws.proofs.Upwards.{owners_there}
use Rattle.nf_laws.proofs.Weighing.{charge_rooted, size_under}
use Rattle.nf_laws.specs.Charges.{owned_bytes}
use Rattle.nf_words.specs.Listing.{size_of}
use Rattle.nf_words.specs.Prelude.{AreSound, charge_of, last_number}

-- ---- sizes

pub sum_is_size : (t : Tables) (node : ℕ) → AreSound t → bytes_under t.nodes node ≡ size_of t.nodes node
unfolding bytes_under
sum_is_size t node sound = sym (size_under t node sound)

-- and it can be told
pub size_told : (rows : List NodeRow) (node : ℕ) → size_of rows node ≤ last_number
size_told rows node = omega arith

-- ---- charges

pub root_charge : (t : Tables) (user : ℕ) (row : UserRow) → AreSound t → user_row t.users user ≡ Some row
    → size_of t.nodes row.root ≡ charge_of t user
root_charge t user row sound there = sym (charge_rooted t user row sound there)

-- who isn't there owns nothing
owns_none : (t : Tables) (user : ℕ) → AreSound t → user_row t.users user ≡ None → All (λ (row : NodeRow). owned_bytes user row ≡ 0) t.nodes
owns_none t user sound none k d within =
    let row : NodeRow = get_or t.nodes k d in
    let there = owners_there t sound k d within in
    rw (ne_eqb row.owner user (λ e. false≢true (sym (ap is_some (ap (user_row t.users) e ∙ none)) ∙ there))) refl

pub no_charge : (t : Tables) (user : ℕ) → AreSound t → user_row t.users user ≡ None → 0 ≡ charge_of t user
no_charge t user sound none = omega (arith, charge_beside t user, nothing (owned_bytes user) t.nodes (owns_none t user sound none))
