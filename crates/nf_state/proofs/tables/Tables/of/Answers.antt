use Rattle.nf_state.proofs.Leading.{sound_leads}
use Rattle.nf_state.proofs.Openings.{people_of}
use Rattle.nf_state.proofs.tables.Tables.of.Goals as goal

pub load-requires : goal.load-requires
load-requires c =
    let are = c.split-parts.ensures in rw (are.users, are.tokens, are.groups, are.members) (people_of c.args.loaded c.requires)

pub load-requires-2-clause-rising : goal.load-requires-2-clause-rising
load-requires-2-clause-rising c = rw c.split-parts.ensures.nodes c.requires.ordered.sound.rising

pub load-requires-2-clause-leads : goal.load-requires-2-clause-leads
load-requires-2-clause-leads c = rw c.split-parts.ensures.nodes (sound_leads c.args.loaded c.requires.ordered.sound)
