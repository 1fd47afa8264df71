use Rattle.std.proofs.Common.{ℕ, Bool, List, ap, ◌∙◌}
use Rattle.nf_base.specs.declared.rows.NodeRow.{NodeRow}
use Rattle.nf_defs.specs.Prelude.{is_rooted}
use Rattle.nf_reach.specs.Asking.{Asking}
use Rattle.nf_words.specs.Prelude.{node_asked}
use Rattle.nf_decide.specs.Deciding.{asking_of}
use Rattle.nf_decide.proofs.About.{is_seen, unseen, unversioned_is}
use Rattle.nf_decide.proofs.deciding.Call.unversioned.Goals as goal

pub returns : goal.returns
returns c =
    let call = c.args.self.now in
    let node = c.node_asked-node.result in
    let present =
    c.present-is_present.ensures ∙ ap (λ (rows : List NodeRow). is_rooted rows node) c.tree.ensures
    ∙ ap (λ (node : ℕ). is_rooted call.state.tables.nodes node) c.node_asked-node.ensures in
    let seen =
    c.is_seen.ensures ∙ ap (λ (a : Asking). is_seen a node) c.requires ∙ ap (λ (node : ℕ). is_seen (asking_of call) node) c.node_asked-node.ensures in
    c.unseen.ensures ∙ ap (λ (present : Bool). unseen present c.is_seen.result) present
    ∙ ap (λ (seen : Bool). unseen (is_rooted call.state.tables.nodes (node_asked c.args.ask.now)) seen) seen ∙ unversioned_is call c.args.ask.now
