-- What a run must write, and where what it wrote first differs.
use Rattle.std.specs.Prelude.{◌≡◌, ◌≢◌, ℕ, List, [], ◌∷◌, ◌++◌, take, drop}
use Rattle.case_files.specs.declared.case.Exchange.{Exchange}

-- the answers one after the other
abbrev pub answers : List Exchange → List ℕ
answers [] = []
answers (exchange ∷ more) = exchange.answer.items ++ answers more

-- what was written gave `got` where the answer to the first of these exchanges, and of all behind it, was wanted; with none left it should have ended
abbrev pub Differs : List Exchange → List ℕ → Type 0
Differs [] got = got ≢ []
Differs (exchange ∷ more) got = (behind : List ℕ) → got ≢ exchange.answer.items ++ behind

pub record IsFirstDifference (exchanges : List Exchange) (written : List ℕ) (index : ℕ) (got : List ℕ) : Type 0 where
  pub before : written ≡ answers (take index exchanges) ++ got
  pub here : Differs (drop index exchanges) got
