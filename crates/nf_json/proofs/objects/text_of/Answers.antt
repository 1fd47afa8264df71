use Rattle.std.proofs.Common.{sym, subst}
use Rattle.std.specs.Prelude.{IsUtf8}
use Rattle.nf_base.proofs.Naming.{IsPlainName-from_IsName}
use Rattle.nf_json.proofs.objects.text_of.Goals as goal

pub unreachable-requires : goal.unreachable-requires
unreachable-requires c =
    c.in-Err.ensures.cases.0
    (subst IsUtf8 (sym c.as_bytes.ensures.bytes) (IsPlainName-from_IsName c.args.name.now c.as_bytes.ensures.name).text)
