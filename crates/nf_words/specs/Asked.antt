-- What a request asks for: a record, with one clause an act. The rules go by it, whatever the act.
use Rattle.std.specs.Prelude.{ℕ, Bool, true, false, List, [], ◌∷◌, ◌++◌, Option, None, Some}
use Rattle.std.specs.Option.{option_map_or}
use Rattle.nf_words.specs.declared.request.Making.{Making}
use Rattle.nf_words.specs.declared.request.Making.TheVariants as making
use Rattle.nf_words.specs.declared.request.Spot.{Spot}
use Rattle.nf_words.specs.declared.request.Wanted.{Wanted}
use Rattle.nf_words.specs.declared.request.ShareAsk.{ShareAsk}
use Rattle.nf_words.specs.declared.request.ShareAsk.TheVariants as ask
use Rattle.nf_words.specs.declared.request.TrashAsk.{TrashAsk}
use Rattle.nf_words.specs.declared.request.TrashAsk.TheVariants as trash
use Rattle.nf_words.specs.declared.request.VersionAsk.{VersionAsk}
use Rattle.nf_words.specs.declared.request.VersionAsk.TheVariants as version
use Rattle.nf_words.specs.declared.request.UploadAsk.{UploadAsk}
use Rattle.nf_words.specs.declared.request.UploadAsk.TheVariants as upload
use Rattle.nf_words.specs.declared.request.Wanted.TheVariants.{Get, Put, Mkcol, Delete, Move, Copy, Share, People, Trash, Version, Upload}

-- the user whose trash it is about or who asks about versions or an upload, the place of what it acts upon, that of what it makes or stores over, the path that an upload is
-- for, what it makes at the target, whether what is at the source doesn't stay, and whether what is at the target may be replaced
pub record Asked : Type 0 where
  pub user : Option (List ℕ)
  pub source : Option Spot
  pub target : Option Spot
  pub intended : Option (List (List ℕ))
  pub makes : Making
  pub removes : Bool
  pub overwrites : Bool

abbrev pub asks_nothing : Asked
asks_nothing = record {
  user = None;
  source = None;
  target = None;
  intended = None;
  makes = making.Nothing;
  removes = false;
  overwrites = false;
}

-- a new share is of what is at the source, and so are the shares that are told
abbrev pub asked_about : ShareAsk → Asked
asked_about (ask.New spot to perms until) = record asks_nothing { source = Some spot; makes = making.Shared }
asked_about (ask.List spot with_me) = record asks_nothing { source = spot; makes = making.Told }
asked_about (ask.Show share) = asks_nothing
asked_about (ask.Set share perms until) = asks_nothing
asked_about (ask.End share) = asks_nothing

-- an item comes back, and nothing else is made
abbrev pub asked_of_trash : TrashAsk → Asked
asked_of_trash (trash.List user) = record asks_nothing { user = Some user }
asked_of_trash (trash.Drop user item) = record asks_nothing { user = Some user }
asked_of_trash (trash.Empty user) = record asks_nothing { user = Some user }
asked_of_trash (trash.Restore user item) = record asks_nothing { user = Some user; makes = making.Restored item }

-- a version is sent, or is the file's content again
abbrev pub asked_of_version : VersionAsk → Asked
asked_of_version (version.List user node) = record asks_nothing { user = Some user }
asked_of_version (version.Get user node at) = record asks_nothing { user = Some user; makes = making.Sent node }
asked_of_version (version.Restore user node at) = record asks_nothing { user = Some user; makes = making.Refilled node at }

-- a chunk is for the path that its upload is for; the chunks of an upload are put there together
abbrev pub asked_of_upload : UploadAsk → Asked
asked_of_upload (upload.New user dir to) = record asks_nothing { user = Some user; intended = Some to }
asked_of_upload (upload.Chunk user dir name to length) = record asks_nothing { user = Some user; intended = to }
asked_of_upload (upload.Drop user dir) = record asks_nothing { user = Some user }
asked_of_upload (upload.Join dir spot total) = record asks_nothing { target = Some spot; makes = making.Assembled; overwrites = true }

abbrev pub asked_of : Wanted → Asked
asked_of (Get spot) = record asks_nothing { source = Some spot }
asked_of (Put spot length) = record asks_nothing { target = Some spot; makes = making.File length; overwrites = true }
asked_of (Mkcol spot) = record asks_nothing { target = Some spot; makes = making.Folder }
asked_of (Delete spot) = record asks_nothing { source = Some spot; removes = true }
asked_of (Move source target overwrite) =
    record asks_nothing { source = Some source; target = Some target; makes = making.Moved; removes = true; overwrites = overwrite }
asked_of (Copy source target overwrite) =
    record asks_nothing { source = Some source; target = Some target; makes = making.Copied; overwrites = overwrite }
asked_of (Share ask) = asked_about ask
asked_of (People ask) = asks_nothing
asked_of (Trash ask) = asked_of_trash ask
asked_of (Version ask) = asked_of_version ask
asked_of (Upload ask) = asked_of_upload ask

-- ---- what follows from it

-- the user that a place names, if it does
abbrev pub named_in : Option (List ℕ) → List (List ℕ)
named_in None = []
named_in (Some name) = name ∷ []

abbrev pub named_at : Option Spot → List (List ℕ)
named_at place = option_map_or (λ spot. named_in spot.user) place []

-- the users that it names
abbrev pub users_of : Asked → List (List ℕ)
users_of asked = named_in asked.user ++ named_at asked.source ++ named_at asked.target

abbrev pub path_at : Option Spot → List (List (List ℕ))
path_at place = option_map_or (λ spot. spot.path ∷ []) place []

abbrev pub path_in : Option (List (List ℕ)) → List (List (List ℕ))
path_in path = option_map_or (λ names. names ∷ []) path []

-- its paths
abbrev pub paths_of : Asked → List (List (List ℕ))
paths_of asked = path_at asked.source ++ (path_at asked.target ++ path_in asked.intended)

-- what is at the source is put at the target, or copied there
abbrev pub is_transfer : Making → Bool
is_transfer making.Nothing = false
is_transfer (making.File length) = false
is_transfer making.Folder = false
is_transfer making.Moved = true
is_transfer making.Copied = true
is_transfer making.Shared = false
is_transfer making.Told = false
is_transfer (making.Restored item) = false
is_transfer (making.Sent node) = false
is_transfer (making.Refilled node at) = false
is_transfer making.Assembled = false

-- something is asked about shares
abbrev pub is_about_shares : Wanted → Bool
is_about_shares (Share ask) = true
is_about_shares other = false

-- something is asked about users and groups
abbrev pub is_about_people : Wanted → Bool
is_about_people (People ask) = true
is_about_people other = false

-- something is asked about files and folders
abbrev pub is_about_files : Wanted → Bool
is_about_files (Share ask) = false
is_about_files (People ask) = false
is_about_files (Trash ask) = false
is_about_files (Version ask) = false
is_about_files (Upload ask) = false
is_about_files other = true
