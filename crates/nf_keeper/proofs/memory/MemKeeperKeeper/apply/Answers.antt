use Rattle.std.specs.Prelude.{option_copied}
use Rattle.std.proofs.Common.{◌≡◌, ◌∙◌, List, map, ap}
use Rattle.nf_rows.specs.Spelling.{Raw}
use Rattle.nf_told.specs.Told.{told_all}
use Rattle.nf_defs.specs.Blobs.{Blobs}
use Rattle.nf_keeper.specs.declared.spelled.SpelledChange.{SpelledChange}
use Rattle.nf_keeper.specs.Keeping.{with_stored}
use Rattle.nf_keeper.specs.Spelled.{after_all, spelled_change}
use Rattle.nf_keeper.specs.Views.{blob_in, stored_in}
use Rattle.nf_keeper.proofs.Rows.{makes_told}
use Rattle.nf_keeper.proofs.memory.MemKeeperKeeper.apply.Goals as goal

pub returns-clause-made : goal.returns-clause-made
returns-clause-made c =
    let old = c.self.inside in
    let changes = c.args.changes.now in
    let rows : c.make_all.new.rows.items ≡ told_all old.rows.items changes =
    c.make_all.ensures.made
    ∙ ap (λ (rows : List Raw). after_all rows c.in_ok-spelled.spelled.items) c.reserve.ensures.items
    ∙ ap (λ (changes : List SpelledChange). after_all old.rows.items changes)
    (c.in_ok-spelled.ensures.spelled ∙ ap (map spelled_change) c.as_slice.ensures)
    ∙ makes_told old.rows.items changes in
    let blobs : c.keep.new.blobs.items ≡ with_stored old.blobs.items (stored_in (option_copied c.args.blob)) =
    c.keep.ensures.kept
    ∙ ap (λ (blobs : Blobs). with_stored blobs (blob_in c.in_ok-stored.stored)) c.reserve-2.ensures.items
    ∙ ap (with_stored old.blobs.items) c.in_ok-stored.ensures in
    rw (← c.self.view_is) (cc (rows, blobs))
