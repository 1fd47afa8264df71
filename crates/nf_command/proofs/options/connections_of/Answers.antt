use Rattle.std.proofs.Common.{◌≡◌, ◌∙◌, map, option_map, codes, ap, ap₂, refl}
use Rattle.std.specs.String.{string_bytes}
use Rattle.clap.specs.Words.{app_of, first_of, found_of, is_simple, kind_of, matches_of, takes}
use Rattle.clap.proofs.WalkLemmas.{first_value-rows}
use Rattle.nf_command.specs.Parsers.{serve_app}
use Rattle.nf_command.proofs.Numbered.{said_is_served, serve_is_found}
use Rattle.nf_command.proofs.Parses.{serve_simple}
use Rattle.nf_command.proofs.Refusals.{refused}
use Rattle.nf_command.proofs.options.connections_of.Goals as goal

pub returns-in-Ok : goal.returns-in-Ok
returns-in-Ok c =
    let app : app_of c.in_ok-parser.parser ≡ serve_app = c.in_ok-parser.ensures in
    let rows = (c.in-Ok.ensures.matches (ap is_simple app ∙ serve_simple)).0 ∙ ap₂ matches_of app refl in
    let value = c.get_str.ensures ∙ (first_value-rows (found_of c.in-Ok.matches) (codes "connections") ∙ ap (first_of (codes "connections")) rows) in
    said_is_served (map string_bytes c.args.words.now) (option_map (λ s. s.now) c.get_str.result) c.said.result (λ n found. value ∙ found.finds.found)
    c.said.ensures

pub returns-in-Err : goal.returns-in-Err
returns-in-Err c =
    let app : app_of c.in_ok-parser.parser ≡ serve_app = c.in_ok-parser.ensures in
    refused (kind_of c.in-Err.error) _ _ c.refusal.result c.refusal.ensures
    (λ other n is. other (c.in-Err.ensures.passes (ap₂ takes app refl ∙ (serve_is_found _ n is).finds.taken)))
