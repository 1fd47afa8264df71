-- The words of this layer that other files use, in one place to import them from.
pub use Rattle.nf_turn.specs.Agreeing.{Agrees, AllAreKept, HasHeard, HasOrLacks, bytes_under, seen_shelf}
pub use Rattle.nf_turn.specs.Book.{AddsAlone, Grows, GrowsWithout, HasNothing, IsFresh, KeepsShelf, Meanings, Precedes, Shelf, entries_of}
pub use Rattle.nf_turn.specs.Memory.{having_joined, having_passed, having_split, longer, of_the_first, split_from}
pub use Rattle.nf_turn.specs.Numbers.{AreApart, AreSound, IsOther, IsWhole, Numbers, has_number, is_joined, is_left, numbers_of}
pub use Rattle.nf_turn.specs.Seats.{IsIdle, IsSeatOf, memory, numbers}
pub use Rattle.nf_turn.specs.Steps.{Place, after_split, split_off}
pub use Rattle.nf_turn.specs.Turns.{AreJoined, GrewFrom, InOrder, IsInTurn, IsKnown, Knows, Line, home_of}
pub use Rattle.nf_turn.specs.Views.{memory_in, numbers_in}
