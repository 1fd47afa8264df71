use Rattle.std.proofs.Common.{◌≡◌, List, sym, subst}
use Rattle.std.proofs.lemmas.List.Elements.{All-nil}
use Rattle.nf_desk.specs.Desk.{blobs_in}
use Rattle.nf_words.specs.declared.history.Entry.{Entry}
use Rattle.filesd.specs.Seat.{AreOwn, seat}
use Rattle.filesd.proofs.Leaving.{leaves, none_granted}
use Rattle.filesd.proofs.running.handed_out.Goals as goal

pub returns-clause-leaves : goal.returns-clause-leaves
returns-clause-leaves g c =
    let said = c.into_parts-site.ensures in
    let k = c.args.desk.site.kept in
    leaves (blobs_in (g.K.Keeper.told c.args.desk.start.value)) k (g.K.Keeper.told c.args.desk.keeper)
    said.history said.sound said.ruled (none_granted k said.history c.requires.history) said.desk.fit said.desk.told

pub returns-clause-alone : goal.returns-clause-alone
returns-clause-alone g c =
    subst (λ (es : List Entry). AreOwn es) (sym c.requires.history) (All-nil (λ (e : Entry). e.seat ≡ seat))
