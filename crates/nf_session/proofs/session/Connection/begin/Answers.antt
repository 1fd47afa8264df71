use Rattle.std.proofs.Common.{ℕ, refl, subst, sym}
use Rattle.nf_session.proofs.Helds.{begins_begun}
use Rattle.nf_session.proofs.session.Connection.begin.Goals as goal

pub returns-in-Ok-clause-begun : goal.returns-in-Ok-clause-begun
returns-in-Ok-clause-begun g c =
    begins_begun (g.B.Backend.book c.args.self.now.backend.now) (g.B.Backend.book c.begin.new.self) c.new-now.result _ c.in-Ok.request c.begin.result c.requires c.begin.ensures.begins

pub returns-in-Ok-clause-judges : goal.returns-in-Ok-clause-judges
returns-in-Ok-clause-judges g c = (
  c.in-Ok.request,
  c.new-now.result,
  c.words_of-words.result,
  c.in-Ok.ensures.gives,
  (
    record { clock = c.now.new.self; dice = c.args.self.now.dice.now },
    (subst (λ (n : ℕ). g.C.Clock.reads c.args.self.now.clock.now n c.now.new.self) (sym c.new-now.ensures) c.now.ensures, refl),
    (c.words_of-words.ensures.0, c.words_of-words.ensures.1, c.words_of-words.ensures.2, refl),
  ),
  c.begin.ensures.begins,
  refl,
)
