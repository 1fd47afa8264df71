-- What a door gives, and what is given back to it.
use Rattle.std.specs.Prelude.{◌≡◌, Bool, if◌then◌else◌, List, [], ◌∷◌, ◌++◌, Option, None, Some, Result, Ok, Err, option_map}
use Rattle.nf_outside.specs.declared.traits.Failed.{Failed}
use Rattle.nf_server.specs.declared.link.Link.{Link}

module _ {S O : Type 0} where
  -- one more link was given back, where that is told
  abbrev pub behind : Option (List (Link S O)) → Link S O → Option (List (Link S O))
  behind served link = option_map (λ (links : List (Link S O)). links ++ link ∷ []) served

  -- the first of the links to come is given, and None where there is none; at a fault all are to come still
  abbrev pub GivesFirst : List (Link S O) → List (Link S O) → Result (Option (Link S O)) Failed → Type 0
  GivesFirst links left (Ok None) = (links ≡ []) × (left ≡ [])
  GivesFirst links left (Ok (Some link)) = links ≡ link ∷ left
  GivesFirst links left (Err failed) = left ≡ links

  -- whether they are told stays
  abbrev pub GivesLink : Option (List (Link S O)) → Option (List (Link S O)) → Result (Option (Link S O)) Failed → Type 0
  GivesLink None None result = Unit {0}
  GivesLink None (Some left) result = ⊥
  GivesLink (Some links) None result = ⊥
  GivesLink (Some links) (Some left) result = GivesFirst links left result

  -- no link comes any more, where they are told
  abbrev pub closed : Option (List (Link S O)) → Option (List (Link S O))
  closed coming = option_map (λ (links : List (Link S O)). []) coming

  abbrev pub unless_closed : Bool → List (Link S O) → List (Link S O)
  unless_closed is_closed links = if is_closed then [] else links
