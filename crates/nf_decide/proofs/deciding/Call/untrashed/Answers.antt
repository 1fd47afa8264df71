use Rattle.std.proofs.Common.{sym, ap, ◌∙◌}
use Rattle.nf_words.specs.Trash.{untrashed}
use Rattle.nf_words.specs.declared.request.TrashAsk.{TrashAsk}
use Rattle.nf_decide.proofs.deciding.Call.untrashed.Goals as goal

pub returns-in-Drop : goal.returns-in-Drop
returns-in-Drop c = c.lacks_item.ensures ∙ sym (ap (λ (ask : TrashAsk). untrashed c.args.self.now ask) c.in-Drop.is)

pub returns-in-Restore : goal.returns-in-Restore
returns-in-Restore c = c.lacks_item-in-Restore.ensures ∙ sym (ap (λ (ask : TrashAsk). untrashed c.args.self.now ask) c.in-Restore.is)
