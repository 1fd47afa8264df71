use Rattle.std.proofs.Common.{◌≡◌, ◌∙◌, List, Option, None, Some, true, MatchOption, codes, map, ap, ap₂, refl, sym}
use Rattle.std.specs.List.{list_all}
use Rattle.std.specs.String.{string_bytes}
use Rattle.std.proofs.lemmas.List.Folds.{list_all-map}
use Rattle.clap.specs.Words.{Text, app_of, fault_of, first_of, found_of, is_simple, is_simple_and_free, kind_of, matches_of, takes}
use Rattle.clap.proofs.WalkLemmas.{first_value-rows}
use Rattle.nf_command.specs.Behind.{AreOperands, is_operand}
use Rattle.nf_command.specs.Parsers.{init_app}
use Rattle.nf_command.specs.declared.operands.Operands.{Operands}
use Rattle.nf_command.proofs.Parses.{init_free, init_simple}
use Rattle.nf_command.proofs.Refusals.{refused}
use Rattle.nf_command.proofs.Three.{are_taken, are_three}
use Rattle.nf_command.proofs.operands.operands_of.Goals as goal

are_found : (words : List Text) (name token quota : Text) (r : Option Operands) → AreOperands words name token quota
    → MatchOption r ⊥ (λ operands. (operands.name.now ≡ name) × (operands.token.now ≡ token) × (operands.quota.now ≡ quota))
    → MatchOption r ((a b c : Text) → AreOperands words a b c → ⊥)
    (λ operands. AreOperands words operands.name.now operands.token.now operands.quota.now)
are_found words name token quota None are is = absurd is
are_found words name token quota (Some operands) are is = rw (is.0, is.1, is.2) are

pub returns-then-not-are_operands : goal.returns-then-not-are_operands
returns-then-not-are_operands c = λ name token quota are.
    cc (are.all, list_all-map is_operand string_bytes c.args.words.now, c.if-not-are_operands.ensures)

pub returns-in-Ok : goal.returns-in-Ok
returns-in-Ok c =
    let texts : List Text = map string_bytes c.args.words.now in
    let all : list_all is_operand texts ≡ true = list_all-map is_operand string_bytes c.args.words.now ∙ sym c.if-not-are_operands.ensures in
    let app : app_of c.in_ok-parser.parser ≡ init_app = c.in_ok-parser.ensures in
    let three = are_three texts all (sym (ap₂ fault_of app refl) ∙ c.in-Ok.ensures.kinds (ap is_simple_and_free app ∙ init_free)) in
    let are : AreOperands texts three.0 three.1 three.2 = record { spelled = three.3; all = all } in
    let taken = are_taken texts _ _ _ are in
    let rows = (c.in-Ok.ensures.matches (ap is_simple app ∙ init_simple)).0 ∙ ap₂ matches_of app refl in
    let value = λ (id : Text). first_value-rows (found_of c.in-Ok.matches) id ∙ ap (first_of id) rows in
    are_found texts _ _ _ c.found.result are (c.found.ensures _ _ _ (value (codes "name") ∙ taken.name_is)
    (value (codes "token") ∙ taken.token_is) (value (codes "quota") ∙ taken.quota_is))

pub returns-in-Err : goal.returns-in-Err
returns-in-Err c =
    let app : app_of c.in_ok-parser.parser ≡ init_app = c.in_ok-parser.ensures in
    refused (kind_of c.in-Err.error) _ _ c.refusal.result c.refusal.ensures
    (λ other name token quota are. other (c.in-Err.ensures.passes (ap₂ takes app refl ∙ (are_taken _ _ _ _ are).taken)))
