use Rattle.std.proofs.Common.{◌≡◌, All, Option, subst, List, [], ◌∷◌, ◌++◌, take, filter, filter_map, ap, sym, ◌∙◌}
use Rattle.std.proofs.lemmas.List.{take_all, take_more}
use Rattle.std.proofs.lemmas.List.Elements.{filter-append, filter_map-append}
use Rattle.nf_access.specs.Access.{by_chains}
use Rattle.nf_access.specs.Mounts.{listed}
use Rattle.nf_base.specs.declared.rows.MountRow.{MountRow}
use Rattle.nf_defs.specs.declared.Seeker.TheVariants.{User}
use Rattle.nf_words.specs.Listing.{mount_line}
use Rattle.nf_words.specs.declared.listing.ListingLine.{ListingLine}
use Rattle.nf_decide.proofs.Lines.{all_of_user, listed_of_user}
use Rattle.nf_decide.specs.Listed.{is_listed}
use Rattle.nf_decide.proofs.listing.lines_of.Goals as goal

pub push_mount-requires-clause-user : goal.push_mount-requires-clause-user
push_mount-requires-clause-user c =
    let user = c.args.user in
    let own = subst (All (λ (row : MountRow). row.user ≡ user)) (sym c.mounts-mount-items.ensures) (all_of_user user c.args.asker.now.mounts) in
    let owned = ap (λ (row : MountRow). row.user) c.mount-item.is ∙ own c.loop-mount.mount-index c.mount-item.result c.loop-mount-test.true in
    c.requires.user ∙ ap User (sym owned)

pub loop-mount-preserved : goal.loop-mount-preserved
loop-mount-preserved c =
    let a = c.args.asker.now in
    let line : (MountRow → Option ListingLine) = mount_line (by_chains a.base) c.args.view.now.tables a.moment in
    let items = c.mounts-mount-items.result.now in
    let so_far = take c.loop-mount.mount-index items in
    let mount = c.mount-item.result in
    let lines : (List MountRow → List ListingLine) = λ mounts. filter_map line (filter (is_listed a) mounts) in
    let more = take_more items c.loop-mount.mount-index mount c.loop-mount-test.true ∙ ap (λ (m : MountRow). so_far ++ m ∷ []) (sym c.mount-item.is) in
    c.in_ok-push_mount.ensures
    ∙ ap (λ (list : List ListingLine). list ++ lines (mount ∷ [])) c.loop-mount.invariant
    ∙ sym (filter_map-append line (filter (is_listed a) so_far) (filter (is_listed a) (mount ∷ [])))
    ∙ ap (filter_map line) (sym (filter-append (is_listed a) so_far (mount ∷ [])))
    ∙ ap lines (sym more)

pub returns : goal.returns
returns c =
    let a = c.args.asker.now in
    let line : (MountRow → Option ListingLine) = mount_line (by_chains a.base) c.args.view.now.tables a.moment in
    let all = take_all c.loop-mount.mount-index c.mounts-mount-items.result.now c.loop-mount-test.false ∙ c.mounts-mount-items.ensures in
    c.loop-mount.invariant
    ∙ ap (λ (list : List MountRow). filter_map line (filter (is_listed a) list)) all
    ∙ ap (filter_map line) (listed_of_user a c.args.user a.mounts c.requires.user ∙ ap (λ (rows : List MountRow). listed (by_chains a.base) a.moment rows c.args.user) c.requires.mounts)
