use Rattle.std.proofs.Common.{◌≡◌, ◌≤◌, ◌↔◌, ◌∙◌, sym, refl, ℕ, List, length, Bool, IsTrue, Decides, arith}
use Rattle.std.specs.Char.{is_ascii_graphic}
use Rattle.std.specs.List.{list_all}
use Rattle.std.proofs.lemmas.Bool.Decides.{Decides-by_and, nat_tests}
use Rattle.nf_command.specs.Command.{IsSecret}
use Rattle.nf_command.proofs.command.is_secret.Goals as goal

graphic : (byte : ℕ) → Decides (is_ascii_graphic byte) ((33 ≤ byte) × (byte ≤ 126))
graphic byte = (λ is. (grind (arith, nat_tests), grind (arith, nat_tests)), λ is. grind (arith, nat_tests))

decides_secret : (token : List ℕ) (r : Bool) → 1 ≤ length token → length token ≤ 128 → r ≡ list_all is_ascii_graphic token → IsTrue r ↔ IsSecret token
decides_secret token r some few is =
    let each = Decides-by_and is_ascii_graphic (λ byte. (33 ≤ byte) × (byte ≤ 126)) (list_all is_ascii_graphic) graphic refl (λ _ _. refl) token in
    (λ yes. record { some = some; few = few; visible = each.0 (sym is ∙ yes) }, λ secret. is ∙ each.1 secret.visible)

pub returns-then-token-le-MAX_TOKEN : goal.returns-then-token-le-MAX_TOKEN
returns-then-token-le-MAX_TOKEN c = decides_secret c.args.token.now c.is_visible.result (grind (arith, nat_tests)) (omega arith) c.is_visible.ensures
