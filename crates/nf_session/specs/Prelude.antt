-- The words of this layer that other files use, in one place to import them from.
pub use Rattle.nf_session.specs.Book.{Answer, Begins, Book, Ends, EndsBody, EndsEmpty, Enters, FailsPiece, GivesOrFails, GivesPiece, IsBook, IsOfBody, IsPiece, Lasts, OthersCame, Stores, Strikes, Struck, TellsDamage, TellsPiece, TellsRows, TellsStill, Waits, WasDamaged, denial_of_piece, entries_wanted, event_of_body, granted, held, held_after, is_unmade, is_unmade_by, measured, next_blob_of, own_from, state_after, state_of}
pub use Rattle.nf_session.specs.Connections.{IsSame, scene}
pub use Rattle.nf_session.specs.Files.{AreGiven, HaveBytes, IsGiven, SendsFile, WritesPieces, file_front}
pub use Rattle.nf_session.specs.Laws.{CountsFault, failed_by, failed_entries, failed_first, failed_in}
pub use Rattle.nf_session.specs.Session.{Session, Through}
pub use Rattle.nf_session.specs.Steps.{Bodies, Closes, Cuts, EndsBy, EndsSo, Heads, Invites, IsFront, IsResponse, Judges, OnlyAsks, OnlyReads, OnlyWrites, Passes, Says, Scene, Sends, Starts, StartsFile, StoresBody, TakesEarly, TakesIn, Wrote, WrotePart, cutting, denial_of, is_early, is_granted, is_invited, is_unsent, left_length, taken_length}
pub use Rattle.nf_session.specs.Turn.{Answers, CutsEarly, CutsShort, Meets, MeetsWith, Responds, StopsShort, Turn, Way, Writes, end_by, end_of, end_of_close, end_of_denial, how_of, manner_of, stays_granted, way_of}
