use Rattle.std.proofs.Common.{List, ap, sym, ◌∙◌}
use Rattle.nf_retention.specs.declared.versions.Version.{Version}
use Rattle.nf_words.specs.Versions.{held, version_for}
use Rattle.nf_deeds.proofs.Refills.{held_rise, held_with, parts}
use Rattle.nf_deeds.proofs.refilling.Refill.with_replaced.Goals as goal

pub insert-requires : goal.insert-requires
insert-requires c =
    let refill = c.args.self.now in
    rw c.in_ok-held.ensures (held_rise refill.view.now.tables.versions refill.back refill.row.now c.requires.others.versions_rise)

pub returns : goal.returns
returns c =
    let refill = c.args.self.now in
    let rising = c.requires.others.versions_rise in
    c.in_ok-insert.ensures
    ∙ ap (λ (version : Version). parts version c.in_ok-held.held.items) c.replaced.ensures
    ∙ ap (λ (others : List Version). parts (held (version_for refill.row.now)) others) c.in_ok-held.ensures
    ∙ held_with refill.view.now.tables.versions refill.back refill.row.now rising (sym c.becomes_version.ensures ∙ c.if-not-becomes_version.false)
