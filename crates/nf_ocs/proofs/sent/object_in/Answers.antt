use Rattle.std.proofs.Common.{◌≡◌, Bool, true, false, refl}
use Rattle.std.specs.Str.{is_utf8}
use Rattle.std.proofs.lemmas.Str.{IsUtf8-from_is_utf8, is_utf8-from_IsUtf8}
use Rattle.nf_ocs.proofs.sent.object_in.Goals as goal

no_text : (test : Bool) → (test ≡ true → ⊥) → test ≡ false
no_text true never = absurd (never refl)
no_text false never = refl

pub returns-in-Ok : goal.returns-in-Ok
returns-in-Ok c =
    let text = is_utf8-from_IsUtf8 c.args.bytes.now c.in-Ok.ensures.cases.1 in
    let given = rw c.in-Ok.ensures.cases.0 at c.object_of.ensures in
    rw text given

pub returns-in-Err : goal.returns-in-Err
returns-in-Err c =
    let none = no_text (is_utf8 c.args.bytes.now) (λ is. c.in-Err.ensures.cases.0 (IsUtf8-from_is_utf8 c.args.bytes.now is)) in
    rw none refl
