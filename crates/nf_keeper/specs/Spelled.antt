-- Changes whose rows and keys are spelled.
use Rattle.std.specs.Prelude.{ℕ, List, [], ◌∷◌}
use Rattle.nf_base.specs.declared.changes.Change.{Change}
use Rattle.nf_base.specs.declared.changes.Change.TheVariants.{Put, Drop}
use Rattle.nf_defs.specs.Puts.{dropped, put}
use Rattle.nf_rows.specs.Spelling.{Raw, key_spelling, spelling_of}
use Rattle.nf_told.specs.Told.{numbers_of_key, raw_key}
use Rattle.nf_keeper.specs.declared.spelled.SpelledChange.{SpelledChange}
use Rattle.nf_keeper.specs.declared.spelled.SpelledChange.TheVariants as spelled

-- a change, spelled
abbrev pub spelled_change : Change → SpelledChange
spelled_change (Put row) = spelled.Put (spelling_of row)
spelled_change (Drop key) = spelled.Drop (key_spelling key)

-- the kind of the row that it puts or drops, and its key
abbrev pub change_kind : SpelledChange → ℕ
change_kind (spelled.Put row) = row.kind
change_kind (spelled.Drop key) = key.kind

abbrev pub change_key : SpelledChange → List ℕ
change_key (spelled.Put row) = raw_key row
change_key (spelled.Drop key) = numbers_of_key key

-- the rows after such a change
abbrev pub after : List Raw → SpelledChange → List Raw
after raws (spelled.Put row) = put raw_key row raws
after raws (spelled.Drop key) = dropped raw_key (numbers_of_key key) raws

-- the rows after some of them, one after the other
abbrev pub after_all : List Raw → List SpelledChange → List Raw
after_all raws [] = raws
after_all raws (change ∷ changes) = after_all (after raws change) changes
