-- The demonstration rows: alice, bob and carol, and one file of alice's.
use Rattle.std.specs.Prelude.{ℕ, List, [], ◌∷◌, ◌++◌, codes}
use Rattle.sha2.specs.Sha256.{sha256}
use Rattle.nf_base.specs.declared.rows.Row.{Row}
use Rattle.nf_base.specs.declared.rows.Row.TheVariants as row
use Rattle.nf_base.specs.declared.rows.Place.TheVariants.{Root, Inside}
use Rattle.nf_base.specs.declared.rows.NodeKind.TheVariants.{Folder, File}

-- a user of that number, whose root has the same number
abbrev pub user : ℕ → List ℕ → Row
user id name = row.User (record { id = id; name = name; quota = 1073741824; root = id })

abbrev pub token : ℕ → List ℕ → Row
token id secret = row.Token (record { digest = sha256 secret; user = id })

abbrev pub root : ℕ → List ℕ → Row
root id name = row.Node (record {
  id = id;
  owner = id;
  place = Root;
  name = name;
  kind = Folder;
  content = [];
  changed = 0;
})

abbrev pub hello : List ℕ
hello = codes "hello" ++ 10 ∷ []

-- alice's file
abbrev pub hello_file : Row
hello_file = row.Node (record {
  id = 4;
  owner = 1;
  place = Inside 1;
  name = codes "hello.txt";
  kind = File;
  content = record { blob = 1; size = 6; digest = sha256 hello } ∷ [];
  changed = 0;
})

abbrev pub demo_users : List Row
demo_users =
    user 1 (codes "alice") ∷ user 2 (codes "bob") ∷ user 3 (codes "carol")
    ∷ token 1 (codes "alice-1") ∷ token 2 (codes "bob-1") ∷ token 3 (codes "carol-1") ∷ []

abbrev pub demo_groups : List Row
demo_groups =
    row.Group (record { id = 1; name = codes "admin" }) ∷ row.Group (record { id = 2; name = codes "board" })
    ∷ row.Member (record { group = 1; user = 1 }) ∷ []

abbrev pub demo_nodes : List Row
demo_nodes = root 1 (codes "alice") ∷ root 2 (codes "bob") ∷ root 3 (codes "carol") ∷ hello_file ∷ []

-- by rising kind and key
abbrev pub demo_rows : List Row
demo_rows =
    row.Meta (record { next_user = 4; next_group = 3; next_node = 5; next_share = 1; next_blob = 2; last = 0 })
    ∷ (demo_users ++ demo_groups ++ demo_nodes)
