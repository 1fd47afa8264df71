use Rattle.std.proofs.Common.{ℕ, List, Option, ap, ◌∙◌}
use Rattle.nf_base.specs.declared.perms.Act.{Act}
use Rattle.nf_reach.specs.Asking.{Asking, refusal_for}
use Rattle.nf_words.specs.Needed.{Need, needs}
use Rattle.nf_words.specs.Prelude.{act_asked}
use Rattle.std.specs.Prelude.{Some}
use Rattle.nf_decide.specs.Deciding.{asking_of}
use Rattle.nf_decide.proofs.About.{judged, judged_is}
use Rattle.nf_decide.proofs.deciding.Call.ask_refused.Goals as goal

pub returns : goal.returns
returns c =
    let call = c.args.self.now in
    let asking = asking_of call in
    let act = c.act_asked-act.result in
    let node = c.node_asked-node.result in
    c.refused.ensures ∙ ap (λ (mount : Option ℕ). refusal_for c.args.asker.now (needs act (Some node) mount)) c.mount_by.ensures
    ∙ ap (λ (a : Asking). refusal_for a (judged a act node)) c.requires
    ∙ ap (λ (act : Act). refusal_for asking (judged asking act node)) c.act_asked-act.ensures
    ∙ ap (λ (node : ℕ). refusal_for asking (judged asking (act_asked c.args.ask.now) node)) c.node_asked-node.ensures
    ∙ ap (λ (list : List Need). refusal_for asking list) (judged_is call c.args.ask.now)
