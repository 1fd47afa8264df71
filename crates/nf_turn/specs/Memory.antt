-- What the holder of a seat knows.
use Rattle.std.specs.Prelude.{ℕ, ◌+◌, ◌-◌, ◌==◌, nat_lt, if◌then◌else◌, List, [], ◌∷◌, ◌++◌, length}
use Rattle.nf_turn.specs.Book.{Meanings}
use Rattle.nf_turn.specs.declared.view.Memory.{Memory}

module _ {W : Type 0} where
  -- that of a seat that did nothing, which knows of a value, of the first one, and of those that it is told of
  abbrev pub newcomer : ℕ → ℕ → W → W → List W → Memory W
  newcomer seats number first known told = record {
    seats = seats;
    number = number;
    next = 0;
    left = 0;
    first = first;
    known = known;
    last = first;
    passed = [];
    told = told;
    joined = [];
    heard = [];
  }

  -- that of the first seat: number 1, with all others left
  abbrev pub of_the_first : ℕ → W → Memory W
  of_the_first seats value = record (newcomer seats 1 value value (value ∷ [])) { next = 2; left = seats - 1 }

  -- after the seat passed the turn on with this value
  abbrev pub having_passed : W → Memory W → Memory W
  having_passed value k = record k { known = value; last = value; passed = value ∷ k.passed }

  -- of a seat from which another was split off, and of that other one, which has the first number that was left
  abbrev pub having_split : Memory W → Memory W
  having_split k = record k { next = k.next + 1; left = k.left - 1 }

  abbrev pub split_from : Memory W → Memory W
  split_from k = newcomer k.seats k.next k.first k.known (k.passed ++ k.told)

  -- after another seat was joined into it; `longer` picks one of two values
  abbrev pub having_joined : (W → W → W) → Memory W → Memory W → Memory W
  having_joined longer k other = record k {
    next = if k.left == 0 then other.next else k.next;
    left = k.left + other.left;
    known = longer k.known other.known;
    joined = (other.number, other.last) ∷ (other.joined ++ k.joined);
    heard = k.known ∷ (other.known ∷ (other.heard ++ k.heard));
  }

-- of two values the one with more entries
abbrev pub longer : {E O W : Type 0} → Meanings E O W → W → W → W
longer book a b = if nat_lt (length (book.entries a)) (length (book.entries b)) then b else a
