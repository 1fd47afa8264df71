-- What a request touches, and the rule that nobody else holds it.
use Rattle.std.specs.Prelude.{ℕ, Bool, List, [], ◌∷◌, Option, option_map, if◌then◌else◌}
use Rattle.std.specs.Option.{option_map_or}
use Rattle.nf_base.specs.declared.rows.NodeRow.{NodeRow}
use Rattle.nf_defs.specs.Prelude.{Access, is_folder, item_row, Tables}
use Rattle.nf_defs.specs.declared.Found.{Found}
use Rattle.nf_defs.specs.declared.Found.TheVariants.{At, Free, Missing}
use Rattle.nf_words.specs.Asked.{Asked}
use Rattle.nf_words.specs.Calls.{Call, asked_by, last_name, places_of}
use Rattle.nf_words.specs.Holds.{Touch, key_in_way, touch_key, touch_under}
use Rattle.nf_words.specs.Places.{node_at, transfer_of}
use Rattle.nf_words.specs.declared.request.Making.{Making}
use Rattle.nf_words.specs.declared.request.Making.TheVariants as making
use Rattle.nf_words.specs.declared.request.Places.{Places}
use Rattle.nf_words.specs.declared.request.Transfer.{Transfer}
use Rattle.nf_words.specs.declared.answer.Denial.{Denial}
use Rattle.nf_words.specs.declared.answer.Denial.TheVariants as denial
use Rattle.nf_words.specs.declared.answer.LockKey.TheVariants.{Node, Slot}
use Rattle.nf_words.specs.declared.answer.Mode.{Mode}
use Rattle.nf_words.specs.declared.answer.Mode.TheVariants.{Exclusive, Shared}
use Rattle.nf_base.specs.declared.rows.ItemRow.{ItemRow}
use Rattle.nf_words.specs.Homes.{home_of, name_back}

-- what is acted upon is touched with all under it where it doesn't stay; a file that is sent is read; a listing touches nothing
abbrev pub source_touches : List NodeRow → Bool → ℕ → List Touch
source_touches rows removes node =
    if removes then touch_under node Exclusive ∷ [] else if is_folder rows node then [] else touch_key (Node node) Shared ∷ []

-- the file that is stored over, or the name that is taken
abbrev pub target_touches : List ℕ → Found → List Touch
target_touches name (At node) = touch_key (Node node) Exclusive ∷ []
target_touches name (Free folder) = touch_key (Slot folder name) Exclusive ∷ []
target_touches name (Missing depth) = []

-- what is moved or copied with all under it, the name that is taken, and what has to go with all under it
abbrev pub transfer_touches : Mode → List ℕ → Transfer → List Touch
transfer_touches mode name transfer =
    touch_under transfer.node mode ∷ touch_key (Slot transfer.folder name) Exclusive
    ∷ option_map_or (λ node. touch_under node Exclusive ∷ []) transfer.replaced []

-- what comes back takes a name
abbrev pub restore_touches : Tables → ItemRow → List Touch
restore_touches t item = touch_key (Slot (home_of t item) (name_back t item)) Exclusive ∷ []

abbrev pub touched : Tables → Bool → List ℕ → Places → Making → List Touch
touched t removes name places making.Nothing = option_map_or (source_touches t.nodes removes) (node_at places.source) []
touched t removes name places (making.File length) = option_map_or (target_touches name) places.target []
touched t removes name places making.Folder = option_map_or (target_touches name) places.target []
touched t removes name places making.Moved = option_map_or (transfer_touches Exclusive name) (transfer_of t.nodes places) []
touched t removes name places making.Copied = option_map_or (transfer_touches Shared name) (transfer_of t.nodes places) []
touched t removes name places making.Shared = []
touched t removes name places making.Told = []
touched t removes name places (making.Restored item) = option_map_or (restore_touches t) (item_row t.items item) []
touched t removes name places (making.Sent node) = touch_key (Node node) Shared ∷ []
touched t removes name places (making.Refilled node at) = touch_key (Node node) Exclusive ∷ []
touched t removes name places making.Assembled = option_map_or (target_touches name) places.target []

-- the name under which something is put
abbrev pub target_name : Asked → List ℕ
target_name asked = option_map_or last_name asked.target []

-- what a request touches; what it holds, where it is granted, is among it
abbrev pub touches : Tables → Asked → Places → List Touch
touches t asked places = touched t asked.removes (target_name asked) places asked.makes

-- `locked`: another seat holds what would be touched
unfoldable pub locked_rule : Access → Call → Option Denial
locked_rule access call =
    option_map denial.Locked
    (key_in_way call.state.tables.nodes call.seat (touches call.state.tables (asked_by call) (places_of call)) call.state.tickets)
