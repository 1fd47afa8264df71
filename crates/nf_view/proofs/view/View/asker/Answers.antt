use Rattle.std.proofs.Common.{sym, subst}
use Rattle.nf_access.specs.Laws.{IsBounded}
use Rattle.nf_access.specs.Shares.{ground_of}
use Rattle.nf_words.proofs.Ways.{bounded}
use Rattle.nf_words.specs.State.{State}
use Rattle.nf_view.proofs.view.View.asker.Goals as goal

pub new-requires : goal.new-requires
new-requires c =
    subst (λ (s : State). IsBounded (ground_of s.tables)) (sym c.self.view_is) (bounded c.args.self.now.tables c.requires)
