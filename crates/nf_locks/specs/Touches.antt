-- What a touch's fields say of it.
use Rattle.std.specs.Prelude.{nat_lt, Option, None, Some, if◌then◌else◌}
use Rattle.nf_words.specs.Holds.{Touch, touch_key, touch_under}
use Rattle.nf_words.specs.declared.answer.LockKey.TheVariants as keys
use Rattle.nf_words.specs.declared.answer.Mode.{Mode}
use Rattle.nf_words.specs.declared.history.Ticket.{Ticket}
use Rattle.nf_locks.specs.declared.touch.Thing.{Thing}
use Rattle.nf_locks.specs.declared.touch.Thing.TheVariants.{Node, Slot, Tree}

abbrev pub touch_of : Thing → Mode → Touch
touch_of (Node node) mode = touch_key (keys.Node node) mode
touch_of (Slot folder name) mode = touch_key (keys.Slot folder name.now) mode
touch_of (Tree top) mode = touch_under top mode

-- of the ticket that was found and a later one that of the lesser seat
abbrev pub sooner : Option Ticket → Ticket → Ticket
sooner None ticket = ticket
sooner (Some found) ticket = if nat_lt ticket.seat found.seat then ticket else found
