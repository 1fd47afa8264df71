use Rattle.nf_decide.proofs.sharing.perms_to.Goals as goal

pub returns-in-Link : goal.returns-in-Link
returns-in-Link c token = rw c.in-Link.is (cc (c.perms_of_link.ensures token))
