use Rattle.std.proofs.Common.{option_copied, refl, sym, ap, ◌∙◌}
use Rattle.nf_grants.proofs.Refused.{has_line, line_broken}
use Rattle.nf_grants.proofs.ground.Ground.broken.Goals as goal

pub broken_in-requires : goal.broken_in-requires
broken_in-requires c =
    has_line c.args.self.now c.args.seeker c.args.node 15 c.in-Some.first.now c.requires.bounded refl
    (sym c.first_received.ensures ∙ ap option_copied c.in-Some.is)

pub unwrap-share-requires : goal.unwrap-share-requires
unwrap-share-requires c =
    let is =
    line_broken c.args.self.now c.args.seeker c.args.node 15 c.in-Some.first.now c.requires.bounded refl
    (sym c.first_received.ensures ∙ ap option_copied c.in-Some.is) c.args.now c.args.act c.requires.refused in
    rw (c.broken_in.ensures ∙ is.1) refl

pub returns : goal.returns
returns c =
    let first = sym c.first_received.ensures ∙ ap option_copied c.in-Some.is in
    let is =
    line_broken c.args.self.now c.args.seeker c.args.node 15 c.in-Some.first.now c.requires.bounded refl
    first c.args.now c.args.act c.requires.refused in
    (c.in-Some.first.now, first, is.2 ∙ sym is.1 ∙ sym c.broken_in.ensures ∙ c.unwrap-share.ensures)
