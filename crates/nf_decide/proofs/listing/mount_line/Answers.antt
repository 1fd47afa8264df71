use Rattle.std.proofs.Common.{ℕ, ◌≡◌, IfOk, Option, Some, List, ap, sym, subst, ◌∙◌}
use Rattle.std.specs.Prelude.{option_and_then, option_copied}
use Rattle.nf_access.specs.Access.{by_chains}
use Rattle.nf_base.specs.declared.rows.NodeRow.{NodeRow}
use Rattle.nf_defs.specs.Tree.{node_row}
use Rattle.nf_defs.specs.declared.Seeker.{Seeker}
use Rattle.nf_defs.specs.declared.Seeker.TheVariants.{User}
use Rattle.nf_words.specs.Listing.{bits_by, line_of}
use Rattle.nf_words.specs.declared.listing.ListingLine.{ListingLine}
use Rattle.nf_decide.proofs.listing.mount_line.Goals as goal

pub returns : goal.returns
returns c =
    let t = c.args.view.now.tables in
    let a = c.args.asker.now in
    let mount = c.args.mount.now in
    let row = c.in-Some.row.now in
    let granted : (Seeker → ℕ) = λ seeker. bits_by a.moment (by_chains a.base seeker mount.node) in
    let seeker : c.seeker.result ≡ User mount.user = c.seeker.ensures ∙ c.requires.user in
    let perms : c.permissions-granted.result ≡ granted (User mount.user) = c.permissions-granted.ensures ∙ ap granted c.requires.user in
    let there : node_row t.nodes mount.node ≡ Some row =
    ap (λ (rows : List NodeRow). node_row rows mount.node) (sym c.tree.ensures) ∙ sym c.node.ensures ∙ ap option_copied c.in-Some.is in
    let line =
    ap (λ (seeker : Seeker). line_of t seeker c.permissions-granted.result mount.name row) seeker
    ∙ ap (λ (granted : ℕ). line_of t (User mount.user) granted mount.name row) perms
    ∙ ap (option_and_then (λ row. line_of t (User mount.user) (granted (User mount.user)) mount.name row)) (sym there) in
    subst (λ (l : Option ListingLine). IfOk c.line_of.result (λ line. line ≡ l)) line c.line_of.ensures
