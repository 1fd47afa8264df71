-- The numbers of a name's key.
use Rattle.std.specs.Prelude.{ℕ, List, ◌∷◌}
use Rattle.nf_opening.specs.declared.names.NameKey.{NameKey}
use Rattle.nf_opening.specs.declared.names.NameKey.TheVariants.{User, Group, Child, Link}

-- the kind of what the name is alone among, a child's folder, and the name
abbrev pub name_numbers : NameKey → List ℕ
name_numbers (User name) = 2 ∷ name
name_numbers (Group name) = 4 ∷ name
name_numbers (Child folder name) = 6 ∷ folder ∷ name
name_numbers (Link token) = 7 ∷ token
