-- The rows that a store begins with.
use Rattle.std.specs.Prelude.{ℕ, List, [], ◌∷◌, codes}
use Rattle.sha2.specs.Sha256.{sha256}
use Rattle.nf_base.specs.declared.rows.Row.{Row}
use Rattle.nf_base.specs.declared.rows.Row.TheVariants as row
use Rattle.nf_base.specs.declared.rows.Place.TheVariants.{Root}
use Rattle.nf_base.specs.declared.rows.NodeKind.TheVariants.{Folder}

-- the numbers behind those that are given
abbrev pub first_meta : Row
first_meta = row.Meta (record { next_user = 2; next_group = 2; next_node = 2; next_share = 1; next_blob = 1; last = 0 })

-- the administrator's root
abbrev pub first_root : List ℕ → Row
first_root name = row.Node (record { id = 1; owner = 1; place = Root; name = name; kind = Folder; content = []; changed = 0 })

-- one administrator, with the digest of a token, a quota and an empty root
abbrev pub first_rows : List ℕ → List ℕ → ℕ → List Row
first_rows name digest quota =
    first_meta
    ∷ row.User (record { id = 1; name = name; quota = quota; root = 1 })
    ∷ row.Token (record { digest = digest; user = 1 })
    ∷ row.Group (record { id = 1; name = codes "admin" })
    ∷ row.Member (record { group = 1; user = 1 })
    ∷ first_root name
    ∷ []

-- those of an `init` with a name, a token and a quota
abbrev pub init_rows : List ℕ → List ℕ → ℕ → List Row
init_rows name token quota = first_rows name (sha256 token) quota
