-- What goes of the trash, as it is walked over.
use Rattle.nf_defs.specs.Prelude.{Tables}
use Rattle.nf_retention.specs.declared.trash.Trashed.{Trashed}
use Rattle.nf_trash.specs.declared.aged.Aged.{Aged}
use Rattle.nf_words.specs.Listing.{size_of}

-- what the rules of the trash see of an item
abbrev pub seen_of : Tables → Aged → Trashed
seen_of t aged = record { node = aged.node; at = aged.at; size = size_of t.nodes aged.node }
