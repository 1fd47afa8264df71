-- What an item of the trash touches where it comes back.
use Rattle.std.proofs.Common.{◌≡◌, [], ◌∷◌, length, Option, None, Some, option_map, refl, ap, arith}
use Rattle.std.specs.Option.{option_map_or}
use Rattle.nf_base.specs.declared.rows.ItemRow.{ItemRow}
use Rattle.nf_defs.specs.Prelude.{item_row, Tables}
use Rattle.nf_words.specs.Prelude.{Asked, restore_touches, target_name, touch_key, touched, touches}
use Rattle.nf_words.specs.declared.answer.LockKey.{LockKey}
use Rattle.nf_words.specs.declared.answer.Mode.TheVariants.{Exclusive}
use Rattle.nf_words.specs.declared.request.Making.{Making}
use Rattle.nf_words.specs.declared.request.Making.TheVariants as making
use Rattle.nf_words.specs.declared.request.Places.{Places}
use Rattle.nf_decide.specs.Deciding.{slot_back, slot_of}

-- where something comes back, the name that it takes, and no more
pub back_touched : (t : Tables) (asked : Asked) (places : Places) (key : LockKey) → slot_back t asked.makes ≡ Some key
    → touches t asked places ≡ touch_key key Exclusive ∷ []
back_touched t asked places key = here asked.makes
  where
    back : (item : Option ItemRow) → option_map (slot_of t) item ≡ Some key → option_map_or (restore_touches t) item [] ≡ touch_key key Exclusive ∷ []
    back None is = absurd (cc)
    back (Some item) is = let same : slot_of t item ≡ key = cc in ap (λ (key : LockKey). touch_key key Exclusive ∷ []) same

    here : (makes : Making) → slot_back t makes ≡ Some key
        → touched t asked.removes (target_name asked) places makes ≡ touch_key key Exclusive ∷ []
    here (making.Restored item) is = back (item_row t.items item) is
    here making.Nothing is = absurd (cc)
    here (making.File length) is = absurd (cc)
    here making.Folder is = absurd (cc)
    here making.Moved is = absurd (cc)
    here making.Copied is = absurd (cc)
    here making.Shared is = absurd (cc)
    here making.Told is = absurd (cc)
    here (making.Sent node) is = absurd (cc)
    here (making.Refilled node at) is = absurd (cc)
    here making.Assembled is = absurd (cc)

-- where no item is there to come back, nothing is
pub none_touched : (t : Tables) (item : Option ItemRow) → option_map (slot_of t) item ≡ None → option_map_or (restore_touches t) item [] ≡ []
none_touched t None is = refl
none_touched t (Some item) is = absurd (cc)
