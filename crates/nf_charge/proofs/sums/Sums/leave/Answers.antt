use Rattle.std.proofs.Common.{◌≡◌, None, Some, get_or, subst, sym, ap}
use Rattle.nf_defs.specs.Tree.{folder_of}
use Rattle.nf_charge.specs.Held.{Held}
use Rattle.nf_charge.specs.Sums.{AreSums, MayCarry}
use Rattle.nf_charge.proofs.Leaving.{alone, alone_lifted, folder_leads, leaving_fits, left_none, left_sums, place_at, read_at}
use Rattle.nf_charge.proofs.sums.Sums.leave.Goals as goal

pub carry-requires-clause-leads : goal.carry-requires-clause-leads
carry-requires-clause-leads c =
    let rows = c.args.rows.now in
    let at = c.args.at in
    let old = c.index-rows-at.result in
    let row = alone (get_or rows at old) in
    let placed : folder_of old.place ≡ Some c.in-Some.folder = cc in
    folder_leads rows at row c.requires.rising c.requires.leads c.requires.there (alone_lifted rows at old c.requires.there) c.in-Some.folder
    (place_at rows at old row (Some c.in-Some.folder) c.requires.there c.index-rows-at.is placed)

pub carry-requires-clause-fits : goal.carry-requires-clause-fits
carry-requires-clause-fits c =
    let rows = c.args.rows.now in
    let at = c.args.at in
    let old = c.index-rows-at.result in
    let row = alone (get_or rows at old) in
    let sums = c.self.inside.sums.items in
    let placed : folder_of old.place ≡ Some c.in-Some.folder = cc in
    let are = subst (AreSums rows) (ap (λ (held : Held). held.sums) (sym c.self.view_is)) c.requires.sums in
    subst (λ bytes. MayCarry 63 rows c.in-Some.folder bytes 0 sums)
    (sym (read_at rows sums at c.index-bytes.result.now are c.requires.there c.index-bytes.ensures))
    (leaving_fits rows at row c.requires.rising c.requires.leads c.requires.there (alone_lifted rows at old c.requires.there) c.in-Some.folder sums
    (place_at rows at old row (Some c.in-Some.folder) c.requires.there c.index-rows-at.is placed) are c.requires.few)

pub returns-in-Some-clause-sums : goal.returns-in-Some-clause-sums
returns-in-Some-clause-sums c row lifted =
    let rows = c.args.rows.now in
    let at = c.args.at in
    let old = c.index-rows-at.result in
    let sums = c.self.inside.sums.items in
    let placed : folder_of old.place ≡ Some c.in-Some.folder = cc in
    let are = subst (AreSums rows) (ap (λ (held : Held). held.sums) (sym c.self.view_is)) c.requires.sums in
    left_sums rows at row c.requires.rising c.requires.leads c.requires.there lifted c.in-Some.folder c.index-bytes.result.now sums
    c.carry.new.sums.items
    (place_at rows at old row (Some c.in-Some.folder) c.requires.there c.index-rows-at.is placed) are
    (read_at rows sums at c.index-bytes.result.now are c.requires.there c.index-bytes.ensures) c.carry.ensures.sums

pub returns-in_default-clause-sums : goal.returns-in_default-clause-sums
returns-in_default-clause-sums c row lifted =
    let rows = c.args.rows.now in
    let at = c.args.at in
    let old = c.index-rows-at.result in
    let placed : folder_of old.place ≡ None = cc in
    left_none rows at row c.requires.rising c.requires.leads c.requires.there lifted c.args.self.now.sums
    (place_at rows at old row None c.requires.there c.index-rows-at.is placed) c.requires.sums
