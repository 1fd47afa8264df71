use Rattle.std.proofs.Common.{ap, ◌∙◌, option_map}
use Rattle.sha2.specs.Sha256.{sha256}
use Rattle.nf_mounts.specs.declared.names.NamedMount.{NamedMount}
use Rattle.nf_mounts.proofs.Found.{found_in_front}
use Rattle.nf_mounts.proofs.mounts.Mounts.at_but.Goals as goal

pub returns : goal.returns
returns c =
    rw (← c.self.view_is)
    (ap (option_map (λ (entry : NamedMount). entry.node)) c.in_ok-entry.ensures
    ∙ found_in_front c.self.inside.by_name.rows c.self.inside.rows.rows c.self.invariant.names c.args.user c.args.name.now c.args.but c.of.result
    c.front.result.now (c.of.ensures ∙ ap sha256 c.as_bytes.ensures.bytes) c.front.ensures)

pub returns-in_err-entry : goal.returns-in_err-entry
returns-in_err-entry c =
    rw (← c.self.view_is)
    (c.from_residual.ensures
    ∙ ap (option_map (λ (entry : NamedMount). entry.node)) c.in_err-entry.ensures
    ∙ found_in_front c.self.inside.by_name.rows c.self.inside.rows.rows c.self.invariant.names c.args.user c.args.name.now c.args.but c.of.result
    c.front.result.now (c.of.ensures ∙ ap sha256 c.as_bytes.ensures.bytes) c.front.ensures)
