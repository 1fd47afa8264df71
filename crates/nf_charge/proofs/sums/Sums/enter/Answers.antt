use Rattle.std.proofs.Common.{◌≡◌, None, Some, set, subst, sym, ap, arith}
use Rattle.std.proofs.lemmas.List.{length-set}
use Rattle.nf_defs.specs.Tree.{folder_of}
use Rattle.nf_charge.specs.Held.{Held}
use Rattle.nf_charge.specs.Sums.{AreSums, MayCarry}
use Rattle.nf_charge.proofs.Leaving.{entered_none, entered_sums, entering_fits, folder_leads, place_at, read_at}
use Rattle.nf_charge.proofs.sums.Sums.enter.Goals as goal

pub carry-requires-clause-leads : goal.carry-requires-clause-leads
carry-requires-clause-leads c =
    let rows = c.args.rows.now in
    let at = c.args.at in
    let old = c.index-rows-at.result in
    let row = c.requires.sums.0 in
    let placed : folder_of old.place ≡ Some c.in-Some.folder = cc in
    folder_leads rows at row c.requires.rising c.requires.leads c.requires.there c.requires.sums.1 c.in-Some.folder
    (place_at rows at old row (Some c.in-Some.folder) c.requires.there c.index-rows-at.is placed)

pub carry-requires-clause-fits : goal.carry-requires-clause-fits
carry-requires-clause-fits c =
    let rows = c.args.rows.now in
    let at = c.args.at in
    let old = c.index-rows-at.result in
    let row = c.requires.sums.0 in
    let sums = c.self.inside.sums.items in
    let placed : folder_of old.place ≡ Some c.in-Some.folder = cc in
    let are = subst (AreSums (set rows at row)) (ap (λ (held : Held). held.sums) (sym c.self.view_is)) c.requires.sums.2 in
    subst (λ bytes. MayCarry 63 rows c.in-Some.folder 0 bytes sums)
    (sym (read_at (set rows at row) sums at c.index-bytes.result.now are (omega (arith, length-set rows at row, c.requires.there))
    c.index-bytes.ensures))
    (entering_fits rows at row c.requires.rising c.requires.leads c.requires.there c.requires.sums.1 c.in-Some.folder sums
    (place_at rows at old row (Some c.in-Some.folder) c.requires.there c.index-rows-at.is placed) are c.requires.few)

pub returns-in-Some-clause-sums : goal.returns-in-Some-clause-sums
returns-in-Some-clause-sums c =
    let rows = c.args.rows.now in
    let at = c.args.at in
    let old = c.index-rows-at.result in
    let row = c.requires.sums.0 in
    let sums = c.self.inside.sums.items in
    let placed : folder_of old.place ≡ Some c.in-Some.folder = cc in
    let are = subst (AreSums (set rows at row)) (ap (λ (held : Held). held.sums) (sym c.self.view_is)) c.requires.sums.2 in
    entered_sums rows at row c.requires.rising c.requires.leads c.requires.there c.requires.sums.1 c.in-Some.folder
    c.index-bytes.result.now sums c.carry.new.sums.items
    (place_at rows at old row (Some c.in-Some.folder) c.requires.there c.index-rows-at.is placed) are
    (read_at (set rows at row) sums at c.index-bytes.result.now are (omega (arith, length-set rows at row, c.requires.there)) c.index-bytes.ensures)
    c.carry.ensures.sums

pub returns-in_default-clause-sums : goal.returns-in_default-clause-sums
returns-in_default-clause-sums c =
    let rows = c.args.rows.now in
    let at = c.args.at in
    let old = c.index-rows-at.result in
    let row = c.requires.sums.0 in
    let placed : folder_of old.place ≡ None = cc in
    entered_none rows at row c.requires.rising c.requires.leads c.requires.there c.requires.sums.1 c.args.self.now.sums
    (place_at rows at old row None c.requires.there c.index-rows-at.is placed) c.requires.sums.2
