-- What clap is told of the words behind the first one.
use Rattle.std.specs.Prelude.{List, ℕ, Some, true, codes}
use Rattle.clap.specs.Words.{App, Rule, new_app, new_rule, with_rule}

-- no word is the program's name, and there is no help
abbrev pub bare_app : List ℕ → App
bare_app name =
    record (new_app name) { top = record (new_app name).top { disable_help_flag = true; no_binary_name = true } }

-- an operand that must be there
abbrev pub operand : List ℕ → Rule
operand id = record (new_rule id) { required = true }

-- the three operands of an `init`
abbrev pub init_app : App
init_app =
    with_rule (with_rule (with_rule (bare_app (codes "init")) (operand (codes "name"))) (operand (codes "token"))) (operand (codes "quota"))

-- the option of a `serve`
abbrev pub serve_app : App
serve_app =
    with_rule (bare_app (codes "serve")) (record (new_rule (codes "connections")) { long = Some (codes "connections") })
