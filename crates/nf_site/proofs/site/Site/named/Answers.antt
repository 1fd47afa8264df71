use Rattle.std.proofs.Common.{◌≡◌, ◌++◌, ℕ, List, ap, subst, ◌∙◌}
use Rattle.std.specs.List.{flat_map}
use Rattle.nf_base.specs.declared.rows.ChunkRow.{ChunkRow}
use Rattle.nf_base.specs.declared.rows.NodeRow.{NodeRow}
use Rattle.nf_base.specs.declared.rows.VersionRow.{VersionRow}
use Rattle.nf_view.specs.Rows.{tables_in}
use Rattle.nf_laws.specs.Named.{blobs_named, blobs_of, goal_blobs}
use Rattle.nf_words.specs.State.{State}
use Rattle.nf_words.specs.declared.history.Ticket.{Ticket}
use Rattle.nf_site.specs.Held.{Held}
use Rattle.nf_site.proofs.Naming.{all_named, names_blob}
use Rattle.nf_site.proofs.site.Site.named.Goals as goal

pub returns-clause-blobs : goal.returns-clause-blobs
returns-clause-blobs c =
    let v = c.view.inside in
    let s : State = record {
      tables = tables_in v.meta.now v.people.now v.tree.now.rows v.shares.now.rows v.mounts.now.rows v.versions.now.rows v.items.now.rows
          v.uploads.now.uploads v.uploads.now.chunks;
      tickets = v.tickets.now;
      seen = v.seen;
    } in
    let nodes = λ (row : NodeRow). blobs_of row.content in
    let versions = λ (row : VersionRow). blobs_of row.content in
    let chunks = λ (row : ChunkRow). blobs_of row.content in
    let sent = flat_map (λ (ticket : Ticket). goal_blobs ticket.goal) v.tickets.now in
    subst (λ (t : State). c.name_tickets.new.blobs.items ≡ blobs_named t)
    (c.view.view_is ∙ c.view-view.ensures ∙ ap (λ (x : Held). x.kept.state) c.self.view_is)
    (c.in_ok-name_tickets.ensures
    ∙ ap (λ (blobs : List ℕ). blobs ++ sent)
    (c.in_ok-name_chunks.ensures
    ∙ (λ i. (c.in_ok-name_versions.ensures
    ∙ (λ j. (c.in_ok-name_nodes.ensures ∙ ap (λ (blobs : List ℕ). blobs ++ flat_map nodes c.nodes.result.now) c.new-blobs.ensures.items
    ∙ ap (flat_map nodes) c.nodes.ensures.rows) j ++ flat_map versions (c.rows.ensures.rows j))) i
    ++ flat_map chunks (c.chunks.ensures.rows i)))
    ∙ all_named s)

pub returns-clause-named : goal.returns-clause-named
returns-clause-named c = names_blob c.args.self.now.kept.state

pub returns-in_err-name_nodes-clause-named : goal.returns-in_err-name_nodes-clause-named
returns-in_err-name_nodes-clause-named c = names_blob c.args.self.now.kept.state

pub returns-in_err-name_versions-clause-named : goal.returns-in_err-name_versions-clause-named
returns-in_err-name_versions-clause-named c = names_blob c.args.self.now.kept.state

pub returns-in_err-name_chunks-clause-named : goal.returns-in_err-name_chunks-clause-named
returns-in_err-name_chunks-clause-named c = names_blob c.args.self.now.kept.state

pub returns-in_err-name_tickets-clause-named : goal.returns-in_err-name_tickets-clause-named
returns-in_err-name_tickets-clause-named c = names_blob c.args.self.now.kept.state
