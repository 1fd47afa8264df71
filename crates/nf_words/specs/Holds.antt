-- What a granted request holds until its End, and what clashes with it.
use Rattle.std.specs.Prelude.{◌≡◌, ℕ, ◌==◌, ◌&&◌, nat_lt, not, Bool, false, true, bytes_eq, filter, List, [], ◌∷◌, Option, None, Some, IfSome, option_map, option_and_then, if◌then◌else◌}
use Rattle.std.specs.List.{list_any}
use Rattle.std.specs.Option.{option_map_or}
use Rattle.nf_base.specs.declared.rows.NodeRow.{NodeRow}
use Rattle.nf_defs.specs.Prelude.{child_of, is_file, is_folder, is_under, Tables}
use Rattle.nf_words.specs.declared.answer.Hold.{Hold}
use Rattle.nf_words.specs.declared.answer.LockKey.{LockKey}
use Rattle.nf_words.specs.declared.answer.LockKey.TheVariants.{Node, Slot}
use Rattle.nf_words.specs.declared.answer.Mode.{Mode}
use Rattle.nf_words.specs.declared.answer.Mode.TheVariants.{Exclusive, Shared}
use Rattle.nf_words.specs.declared.history.Ticket.{Ticket}

-- ---- keys

-- the node that is stored over, or the folder of the free name
abbrev pub node_of_key : LockKey → ℕ
node_of_key (Node node) = node
node_of_key (Slot folder name) = folder

abbrev pub same_key : LockKey → LockKey → Bool
same_key (Node a) (Node b) = a == b
same_key (Node a) (Slot folder name) = false
same_key (Slot folder name) (Node b) = false
same_key (Slot folder name) (Slot other another) = folder == other && bytes_eq name another

-- what is held is there: a file, or a folder that has no child of that name
abbrev pub IsHeld : Tables → LockKey → Type 0
IsHeld t (Node node) = is_file t.nodes node ≡ true
IsHeld t (Slot folder name) = (is_folder t.nodes folder ≡ true) × (child_of t.nodes folder name ≡ None)

-- ---- what is touched

-- one key; or a node and all under it, with each name that is free in a folder of these
pub data Touch : Type 0 where
  touch_key : LockKey → Mode → Touch
  touch_under : ℕ → Mode → Touch

abbrev pub covers : List NodeRow → Touch → LockKey → Bool
covers rows (touch_key touched mode) held = same_key touched held
covers rows (touch_under top mode) held = is_under rows (node_of_key held) top

abbrev pub mode_of : Touch → Mode
mode_of (touch_key touched mode) = mode
mode_of (touch_under top mode) = mode

-- ---- what clashes

-- at least one of two is alone
abbrev pub is_exclusive : Mode → Mode → Bool
is_exclusive Shared Shared = false
is_exclusive Shared Exclusive = true
is_exclusive Exclusive Shared = true
is_exclusive Exclusive Exclusive = true

-- what is touched is what is held or covers it, and one of the two is alone
abbrev pub clashes : List NodeRow → Touch → Hold → Bool
clashes rows touch hold = covers rows touch hold.key && is_exclusive (mode_of touch) hold.mode

-- two who hold the same key both read
abbrev pub AreKeysApart : LockKey → Mode → LockKey → Mode → Type 0
AreKeysApart key mode other held = key ≡ other → (mode ≡ Shared) × (held ≡ Shared)

abbrev pub AreApartHolds : Option Hold → Option Hold → Type 0
AreApartHolds a b = IfSome a (λ one. IfSome b (λ other. AreKeysApart one.key one.mode other.key other.mode))

-- the hold of another seat's ticket clashes with a touch
abbrev pub blocks : List NodeRow → ℕ → List Touch → Ticket → Bool
blocks rows seat touches ticket =
    not (ticket.seat == seat) && option_map_or (λ hold. list_any (λ touch. clashes rows touch hold) touches) ticket.hold false

-- of two tickets that of the lesser seat
abbrev pub lesser : Ticket → Option Ticket → Ticket
lesser ticket None = ticket
lesser ticket (Some other) = if nat_lt other.seat ticket.seat then other else ticket

abbrev pub least : List Ticket → Option Ticket
least [] = None
least (ticket ∷ tickets) = Some (lesser ticket (least tickets))

-- the key that is in the way of some touches: of those held by other seats that clash, the least seat's
abbrev pub key_in_way : List NodeRow → ℕ → List Touch → List Ticket → Option LockKey
key_in_way rows seat touches tickets =
    option_and_then (λ ticket. option_map (λ hold. hold.key) ticket.hold) (least (filter (blocks rows seat touches) tickets))
