-- The one seat of a run of `batch`.
use Rattle.std.specs.Prelude.{◌≡◌, ℕ, All, List, Option, option_map}
use Rattle.nf_session.specs.Book.{Book, own_from}
use Rattle.nf_site.specs.Kept.{Kept}
use Rattle.nf_told.specs.Told.{Told}
use Rattle.nf_words.specs.State.{opened}
use Rattle.nf_words.specs.declared.history.Entry.{Entry}

-- its number
abbrev pub seat : ℕ
seat = 1

-- what it knows: the whole history, whose entries are all its own, how often the keeper failed, the blobs that it told at the start, and
-- the blobs and the rows that it tells now
abbrev pub book_of : Kept → Option Told → Option Told → ℕ → Book
book_of k start told faults = record {
  opening = k.opening;
  seat = seat;
  known = k.history;
  own = own_from seat (opened k.opening) k.history;
  strikes = faults;
  start = option_map (λ told. told.blobs) start;
  told = option_map (λ told. told.blobs) told;
  rows = option_map (λ told. told.rows) told;
}

-- these are all of the seat's
abbrev pub AreOwn : List Entry → Type 0
AreOwn entries = All (λ (e : Entry). e.seat ≡ seat) entries
