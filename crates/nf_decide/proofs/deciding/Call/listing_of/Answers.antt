use Rattle.nf_decide.proofs.Lines.{children_by_name}
use Rattle.nf_decide.proofs.deciding.Call.listing_of.Goals as goal

pub put_lines-requires : goal.put_lines-requires
put_lines-requires c =
    let sound = rw (← c.self.view_is) at c.requires.sound in
    rw c.in_ok-children.ensures (children_by_name c.self.inside.view.tables c.args.asker.now.seeker c.granted_by-granted.result c.args.folder sound)
