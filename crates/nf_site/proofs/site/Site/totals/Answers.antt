use Rattle.std.proofs.Common.{◌∙◌, ap}
use Rattle.std.proofs.lemmas.Result.{IfOk-weaker}
use Rattle.nf_access.specs.Shares.{ground_of}
use Rattle.nf_words.specs.State.{State}
use Rattle.nf_site.specs.Held.{Held}
use Rattle.nf_site.specs.Totals.{all_grants, all_totals}
use Rattle.nf_site.proofs.Counting.{few_told, grants_told, users_told}
use Rattle.nf_site.proofs.site.Site.totals.Goals as goal

pub totals_in-requires : goal.totals_in-requires
totals_in-requires c =
    let is = c.view.view_is ∙ c.view-view.ensures in
    few_told c.new-base.result c.self.inside.current.state.tables (c.new-base.ensures ∙ ap (λ (s : State). ground_of s.tables) is)
    c.self.invariant.sound.rows

pub returns-clause-users : goal.returns-clause-users
returns-clause-users c =
    let is = c.view.view_is ∙ c.view-view.ensures in
    IfOk-weaker c.totals_in.result _ _
    (λ totals e. e ∙ (users_told _ _ _ c.self.inside.current.state.tables
    (ap (λ (s : State). s.tables.nodes) is)
    (c.rows-versions.ensures.rows ∙ ap (λ (s : State). s.tables.versions) is)
    (c.rows-rows.ensures.rows ∙ c.in_ok-list.ensures)
    c.self.invariant.sound.rows c.self.invariant.ruled
    ∙ ap (λ (x : Held). all_totals x.kept.state.tables) c.self.view_is))
    c.totals_in.ensures.users

pub returns-clause-grants : goal.returns-clause-grants
returns-clause-grants c =
    let is = c.view.view_is ∙ c.view-view.ensures in
    IfOk-weaker c.totals_in.result _ _
    (λ totals e. e ∙ (grants_told _ _ _ c.self.inside.current.state.tables
    (c.new-base.ensures ∙ ap (λ (s : State). ground_of s.tables) is)
    (ap (λ (s : State). s.tables.nodes) is)
    (c.rows-rows.ensures.rows ∙ c.in_ok-list.ensures)
    ∙ ap (λ (x : Held). all_grants x.kept.state.tables) c.self.view_is))
    c.totals_in.ensures.grants
