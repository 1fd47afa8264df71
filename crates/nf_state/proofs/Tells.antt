-- What becomes of the rows by a step's deeds is told of the tables before the step.
use Rattle.std.proofs.Common.{◌≡◌, ◌≢◌, ◌≤◌, ℕ, zero, suc, true, false, not, Bool, List, [], ◌∷◌, ◌++◌, Option, None, Some, filter, map, get_or, inl, inr, refl, sym, ap, subst, ◌∙◌, arith, if◌then◌else◌, ◌&&◌}
use Rattle.std.specs.Prelude.{is_some}
use Rattle.std.specs.List.{All, flat_map}
use Rattle.std.specs.Option.{option_and_then, option_map_or}
use Rattle.std.proofs.lemmas.Bool.{and_parts, both_ways, cases_Bool, cond_both, false_from_ne_true}
use Rattle.std.proofs.lemmas.List.{map-append, map-id}
use Rattle.std.proofs.lemmas.List.Elements.{All-cons, All-head, All-nil, All-tail}
use Rattle.std.proofs.lemmas.Option.{option_and_then_some, same_Some}
use Rattle.nf_base.specs.declared.changes.Change.{Change}
use Rattle.nf_base.specs.declared.changes.Change.TheVariants.{Put}
use Rattle.nf_base.specs.declared.rows.NodeRow.{NodeRow}
use Rattle.nf_base.specs.declared.rows.Row.TheVariants as kinds
use Rattle.nf_base.specs.declared.rows.ShareRow.{ShareRow}
use Rattle.nf_defs.proofs.Climbs.{climb_under, under_climb}
use Rattle.nf_defs.specs.Prelude.{by_name, climb, folder_of, is_root, is_under, node_row, parent_of, Tables}
use Rattle.nf_laws.proofs.InTurn.{deed_moment, deeds_sound, fit_sound, InTurn, replaced_is}
use Rattle.nf_laws.proofs.Into.{below_out, source_out}
use Rattle.nf_laws.proofs.Left.{discard_left, Left}
use Rattle.nf_laws.proofs.Mirrored.{mirrored}
use Rattle.nf_laws.proofs.Others.{stamp_sound}
use Rattle.nf_laws.proofs.Parts.{both_go, deed_stamped, known_stamped, leaves_in, leaves_joined, no_goes, rest_of, step_turn}
use Rattle.nf_laws.proofs.Plain.{IsPlain}
use Rattle.nf_laws.proofs.Present.{root_ends, root_so}
use Rattle.nf_laws.proofs.Rows.{AreKept, kept_joined, row_id, stamp}
use Rattle.nf_laws.proofs.Trashed.{item_home}
use Rattle.nf_laws.proofs.Upwards.{climbs_is_under, never_climbs}
use Rattle.nf_laws.specs.Transfers.{Mirrors}
use Rattle.nf_words.proofs.Found.{child_parent}
use Rattle.nf_words.proofs.Known.{IsItem, KnownCross, KnownDeeds, KnownLeaving, KnownSettled, KnownTransfer}
use Rattle.nf_words.proofs.Known.KnownDeeds.{by_abandoning, by_copying, by_crossing, by_going, by_joining, by_leaving, by_moving, by_requoting, by_restoring, by_sweeping}
use Rattle.nf_words.proofs.Transfers.{replaced_leaves, row_leaves}
use Rattle.nf_words.proofs.Trashing.{rest_goes}
use Rattle.nf_words.specs.Prelude.{AreSound, beside, besides, closed_under, copies, copies_to, crossing, deed_done, deeds_done, discard, discards, ended_row, forgets, goes_itself, is_closing, item_for, LeadsToRoot, moves, purges, row_at, told_deed, told_deeds, versions_of}
use Rattle.nf_words.specs.declared.answer.Deed.{Deed}
use Rattle.nf_words.specs.declared.answer.Deed.TheVariants as deed
use Rattle.nf_words.specs.declared.request.Transfer.{Transfer}
use Rattle.nf_state.specs.Gone.{TellsDeeds, told_first}
use Rattle.nf_state.proofs.ToldFirst.{join_same, join_tells, leave_tells, relink_tells, restore_tells, tell_both, Tells, tells_behind, there_given}
use Rattle.nf_state.proofs.ToldGone.{SameUnder, versions_left}
use Rattle.nf_state.proofs.ToldUploads.{joining_tell, sweeping_tell}

-- ---- what is done first

turn_front : (t : Tables) (now : ℕ) (first last : List Deed) → InTurn t now (first ++ last) → InTurn t now first
turn_front t now [] last turn = tt
turn_front t now (one ∷ first) last turn = (turn.0, turn_front (deed_done t one) now first last turn.1)

plain_front : (first last : List Deed) → All IsPlain (first ++ last) → All IsPlain first
plain_front [] last plain = All-nil IsPlain
plain_front (one ∷ first) last plain =
    All-cons IsPlain one first (All-head IsPlain one (first ++ last) plain) (plain_front first last (All-tail IsPlain one (first ++ last) plain))

-- the tables after it are sound
after_first : (t : Tables) (now : ℕ) (first last : List Deed) → AreSound t → t.meta.last ≡ now → InTurn t now (first ++ last)
    → AreSound (deeds_done t first)
after_first t now first last sound at turn = deeds_sound t now first sound at (turn_front t now first last turn)

-- ---- what leaves its place before anything else is done

leaves_first : (t : Tables) (now : ℕ) (gone : List ℕ) (row : NodeRow) → AreSound t → KnownLeaving t row → All (IsItem t) gone
    → Tells t t gone (discard t now row)
leaves_first t now gone row sound known were = leave_tells t t now gone row sound sound known known were (λ j folder up. (refl, refl)) refl

leaving_tell : (t : Tables) (now : ℕ) (row : NodeRow) → AreSound t → t.meta.last ≡ now → KnownLeaving t row
    → InTurn t now (discard t now row ∷ beside t now row) → TellsDeeds t (discard t now row ∷ beside t now row)
leaving_tell t now row sound at known turn =
    let goes = rest_goes t sound now row known in
    tell_both t (discard t now row ∷ []) (rest_of t now row) sound (after_first t now (discard t now row ∷ []) (beside t now row) sound at turn) goes
    (leaves_first t now (rest_of t now row) row sound known goes.items, tt)

-- ---- MOVE and COPY, where what is replaced leaves its place first

put_tell : (t : Tables) (now : ℕ) (replaced : Option ℕ) (one : Deed) → AreSound t → t.meta.last ≡ now
    → InTurn t now (discards t now replaced ++ one ∷ besides t now replaced)
    → Tells t t [] one
    → ((row : NodeRow) → row_at t replaced ≡ Some row
    → KnownLeaving t row × ((gone : List ℕ) → All (IsItem t) gone → Tells t (deed_done t (discard t now row)) gone one))
    → TellsDeeds t (discards t now replaced ++ one ∷ besides t now replaced)
put_tell t now replaced one sound at turn alone after = here (row_at t replaced) refl turn
  where
    here : (o : Option NodeRow) → row_at t replaced ≡ o
        → InTurn t now (option_map_or (λ row. discard t now row ∷ []) o [] ++ one ∷ option_map_or (beside t now) o [])
        → TellsDeeds t (option_map_or (λ row. discard t now row ∷ []) o [] ++ one ∷ option_map_or (beside t now) o [])
    here None e turn = tell_both t (one ∷ []) [] sound (after_first t now (one ∷ []) [] sound at turn) (no_goes t) (alone, tt)
    here (Some row) e turn =
        let known = after row e in
        let gone = rest_of t now row in
        let goes = rest_goes t sound now row known.0 in
        tell_both t (discard t now row ∷ one ∷ []) gone sound (after_first t now (discard t now row ∷ one ∷ []) (beside t now row) sound at turn) goes
        (leaves_first t now gone row sound known.0 goes.items, (known.1 gone goes.items, tt))

moving_tell : (t : Tables) (now : ℕ) (transfer : Transfer) (name : List ℕ) → AreSound t → t.meta.last ≡ now → KnownTransfer t transfer name
    → InTurn t now (moves t now name transfer) → TellsDeeds t (moves t now name transfer)
moving_tell t now transfer name sound at known turn =
    put_tell t now transfer.replaced (deed.Relink transfer.node transfer.folder name) sound at turn
    (relinks t [] (λ k d within. absurd (omega (arith, within))) known.source.1)
    (λ row e.
    let leaving = replaced_leaves t sound transfer name known row e in
    let u = deed_done t (discard t now row) in
    let left = discard_left t now row sound (omega (arith, at)) leaving in
    let out = source_out t u row.id sound left transfer name known (replaced_is t transfer.replaced row e) in
    (leaving, λ gone were. relinks u gone were (left.row transfer.node out ∙ known.source.1)))
  where
    relinks : (u : Tables) (gone : List ℕ) → All (IsItem t) gone → node_row u.nodes transfer.node ≡ Some known.source.0
        → Tells t u gone (deed.Relink transfer.node transfer.folder name)
    relinks u gone were there =
        relink_tells t u gone transfer.node known.source.0 transfer.folder name sound were known.source.1 known.present known.folder_present there

copying_tell : (t : Tables) (now : ℕ) (transfer : Transfer) (name : List ℕ) → AreSound t → t.meta.last ≡ now → KnownTransfer t transfer name
    → InTurn t now (copies t now name transfer) → TellsDeeds t (copies t now name transfer)
copying_tell t now transfer name sound at known turn =
    put_tell t now transfer.replaced (deed.Join (copies_to t now transfer name)) sound at turn
    (joins t [] (λ k d within. absurd (omega (arith, within))))
    (λ row e. (replaced_leaves t sound transfer name known row e, λ gone were. joins (deed_done t (discard t now row)) gone were))
  where
    joins : (u : Tables) (gone : List ℕ) → All (IsItem t) gone → Tells t u gone (deed.Join (copies_to t now transfer name))
    joins u gone were =
        join_tells t u now gone transfer name (copies_to t now transfer name) sound (mirrored t now transfer name sound known.source)
        known.folder_present were

-- ---- what is under a node, in other tables

-- where the climbs are the same
under_by : (rows others : List NodeRow) (node top : ℕ) → ((k : ℕ) → climb others k node ≡ climb rows k node)
    → is_under others node top ≡ is_under rows node top
under_by rows others node top same =
    elim (cases_Bool (is_under rows node top)) [
      | inl under ↦
          (let c = under_climb rows node top under in climb_under c.0 others node top c.1 (same c.0 ∙ c.2) ∙ sym under)
      | inr outside ↦
          false_from_ne_true (is_under others node top) (λ under.
          let c = under_climb others node top under in
          both_ways (is_under rows node top) outside (climb_under c.0 rows node top c.1 (sym (same c.0) ∙ c.2)))
          ∙ sym outside
    ]

-- what is present climbs as it did where each node keeps its place
climbs_kept : (steps k : ℕ) (rows others : List NodeRow) (node root : ℕ) → AreKept rows others → climb rows steps node ≡ Some root
    → is_root rows root ≡ true → climb others k node ≡ climb rows k node
climbs_kept steps zero rows others node root kept up is = refl
climbs_kept zero (suc k) rows others node root kept up is =
    let at : node ≡ root = same_Some node root up in
    ap (option_and_then (climb others k)) (ap (parent_of others) at ∙ root_ends others root (root_so rows others root is (kept root)))
    ∙ sym (ap (option_and_then (climb rows k)) (ap (parent_of rows) at ∙ root_ends rows root is))
climbs_kept (suc steps) (suc k) rows others node root kept up is =
    option_and_then_some (climb rows steps) (parent_of rows node) root up (λ parent above rest.
    let also : parent_of others node ≡ Some parent =
    option_and_then_some (λ row. folder_of row.place) (node_row rows node) parent above (λ row there placed.
    let still = kept node row there in rw still.there (ap folder_of still.place ∙ placed)) in
    ap (option_and_then (climb others k)) also ∙ climbs_kept steps k rows others parent root kept rest is ∙ sym (ap (option_and_then (climb rows k)) above))

-- the shares there that end are the same, where each has to end as before and is then as it was
abbrev EndsAlike : List NodeRow → List NodeRow → ℕ → (ShareRow → ShareRow) → ShareRow → Type 0
EndsAlike rows others top f share =
    (is_closing others top (f share) ≡ is_closing rows top share) × (is_closing rows top share ≡ true → f share ≡ share)

-- what is told of a share before others
abbrev ending : List NodeRow → ℕ → Bool → ShareRow → List ShareRow → List Change
ending rows top b share shares =
    map (λ share. Put (kinds.Share (ended_row share)))
    (if b then share ∷ filter (is_closing rows top) shares else filter (is_closing rows top) shares)

ends_alike : (rows others : List NodeRow) (top : ℕ) (f : ShareRow → ShareRow) (shares : List ShareRow) → All (EndsAlike rows others top f) shares
    → closed_under others (map f shares) top ≡ closed_under rows shares top
ends_alike rows others top f [] all = refl
ends_alike rows others top f (share ∷ shares) all =
    here (is_closing rows top share) refl (ends_alike rows others top f shares (All-tail (EndsAlike rows others top f) share shares all))
  where
    own : EndsAlike rows others top f share
    own = All-head (EndsAlike rows others top f) share shares all

    here : (b : Bool) → is_closing rows top share ≡ b → closed_under others (map f shares) top ≡ closed_under rows shares top
        → closed_under others (map f (share ∷ shares)) top ≡ closed_under rows (share ∷ shares) top
    here true e rest =
        ap (λ (b : Bool). ending others top b (f share) (map f shares)) (own.0 ∙ e)
        ∙ ap (λ (row : ShareRow). Put (kinds.Share (ended_row row)) ∷ closed_under others (map f shares) top) (own.1 e)
        ∙ ap (λ (changes : List Change). Put (kinds.Share (ended_row share)) ∷ changes) rest
        ∙ sym (ap (λ (b : Bool). ending rows top b share shares) e)
    here false e rest =
        ap (λ (b : Bool). ending others top b (f share) (map f shares)) (own.0 ∙ e)
        ∙ rest
        ∙ sym (ap (λ (b : Bool). ending rows top b share shares) e)

-- ---- what goes to another owner

module _ (t : Tables) (now : ℕ) (transfer : Transfer) (name : List ℕ) (sound : AreSound t) (at : t.meta.last ≡ now) (cross : KnownCross t transfer name) where
  abbrev known : KnownTransfer t transfer name
  known = cross.copies.known

  -- the source
  abbrev from : NodeRow
  from = known.source.0

  same : from.id ≡ transfer.node
  same = row_id t.nodes transfer.node from known.source.1

  leaving : KnownLeaving t from
  leaving = row_leaves t from transfer.node known.source.1 known.no_root known.present

  -- its copies
  abbrev more : List NodeRow
  more = copies_to t now transfer name

  abbrev joins : Deed
  joins = deed.Join more

  mirrors : Mirrors t now transfer name more
  mirrors = mirrored t now transfer name sound known.source

  joins_tell : (u : Tables) (gone : List ℕ) → All (IsItem t) gone → Tells t u gone joins
  joins_tell u gone were = join_tells t u now gone transfer name more sound mirrors known.folder_present were

  -- where they are there, what is under the source is the same
  under_joined : (u : Tables) → SameUnder t u from.id → SameUnder t (deed_done u joins) from.id
  under_joined u before =
      join_same t u now transfer name more from.id sound mirrors (there_given t from.id from sound leaving.there)
      (λ j. subst (λ (n : ℕ). climb t.nodes j transfer.folder ≢ Some n) (sym same) (never_climbs t transfer.folder transfer.node sound known.outside j))
      before

  -- a share that has to end has to end, too, where what it is of climbs as before
  alike : (others : List NodeRow) (share : ShareRow)
      → (share.ended ≡ false → (k : ℕ) → climb others k share.node ≡ climb t.nodes k share.node)
      → is_closing others from.id share ≡ is_closing t.nodes from.id share
  alike others share climbs =
      elim (cases_Bool share.ended) [
        | inl ended ↦
            ap (λ (b : Bool). not b && is_under others share.node from.id) ended
            ∙ sym (ap (λ (b : Bool). not b && is_under t.nodes share.node from.id) ended)
        | inr still ↦
            ap (λ (under : Bool). not share.ended && under) (under_by t.nodes others share.node from.id (climbs still))
      ]

  -- ---- where nothing is replaced

  closed_here : closed_under (deed_done t joins).nodes t.shares from.id ≡ closed_under t.nodes t.shares from.id
  closed_here =
      ap (λ (shares : List ShareRow). closed_under (deed_done t joins).nodes shares from.id) (sym (map-id t.shares))
      ∙ ends_alike t.nodes (deed_done t joins).nodes from.id (λ share. share) t.shares (λ k d within. (
        alike (deed_done t joins).nodes (get_or t.shares k d) (λ still j.
            let up = (sound.others.shares k d within).present still in
            climbs_kept up.steps j t.nodes (deed_done t joins).nodes (get_or t.shares k d).node up.top (kept_joined t.nodes more) up.climbs up.root),
        λ is. refl,
      ))

  crossing_here : InTurn t now (joins ∷ discard t now from ∷ beside t now from) → TellsDeeds t (joins ∷ discard t now from ∷ beside t now from)
  crossing_here turn =
      let gone = rest_of t now from in
      let goes = rest_goes t sound now from leaving in
      let v = deed_done t joins in
      tell_both t (joins ∷ discard t now from ∷ []) gone sound
      (after_first t now (joins ∷ discard t now from ∷ []) (beside t now from) sound at turn) goes (
        joins_tell t gone goes.items,
        (
          leave_tells t v now gone from sound (fit_sound t now joins sound at turn.0) leaving (leaves_joined t from more leaving) goes.items
              (under_joined t (λ j folder up. (refl, refl))) closed_here,
          tt,
        ),
      )

  -- ---- where something is

  module _ (row : NodeRow) (e : row_at t transfer.replaced ≡ Some row) where
    leaves : KnownLeaving t row
    leaves = replaced_leaves t sound transfer name known row e

    is : transfer.replaced ≡ Some row.id
    is = replaced_is t transfer.replaced row e

    abbrev without : Tables
    without = deed_done t (discard t now row)

    left : Left t without row.id
    left = discard_left t now row sound (omega (arith, at)) leaves

    abbrev after : Tables
    after = deed_done without joins

    -- nothing is under both
    not_both : (node : ℕ) → is_under t.nodes node from.id ≡ true → is_under t.nodes node row.id ≡ false
    not_both node under = below_out t without row.id sound left transfer name known is node (ap (is_under t.nodes node) (sym same) ∙ under)

    -- so what is under the source is the same without the other
    under_left : SameUnder t without from.id
    under_left j folder climbs =
        let under = climbs_is_under j t folder from.id sound climbs in (
          ap (λ (rows : List NodeRow). map (λ row. row.id) (by_name rows))
              (left.in_folder folder (not_both folder under) (λ above.
              let own = child_parent t.nodes transfer.folder name row.id sound.rising (known.there ∙ is) in
              let it : transfer.folder ≡ folder = same_Some transfer.folder folder (sym own ∙ above) in
              both_ways (is_under t.nodes transfer.folder transfer.node) known.outside
              (ap (λ (n : ℕ). is_under t.nodes n transfer.node) it ∙ ap (is_under t.nodes folder) (sym same) ∙ under))),
          cond_both (goes_itself t now row) (deed.Purge row.id) (deed.Discard (item_for now row))
              (λ (one : Deed). versions_of (deed_done t one).versions folder ≡ versions_of t.versions folder)
              (λ e. versions_left t row.id folder sound (not_both folder under)) (λ e. refl),
        )

    climbs_so : (node : ℕ) → LeadsToRoot t.nodes node → is_under t.nodes node row.id ≡ false → (k : ℕ) → climb after.nodes k node ≡ climb t.nodes k node
    climbs_so node present outside k =
        let up = left.leads node outside present in
        climbs_kept up.steps k without.nodes after.nodes node up.top (kept_joined without.nodes more) up.climbs up.root ∙ left.climbs k node outside

    -- a share of what is under the other ended with that
    abbrev unless : ShareRow → ShareRow
    unless share = if is_under t.nodes share.node row.id then ended_row share else share

    shares_left : after.shares ≡ map unless t.shares
    shares_left =
        cond_both (goes_itself t now row) (deed.Purge row.id) (deed.Discard (item_for now row))
        (λ (one : Deed). (deed_done t one).shares ≡ map unless t.shares) (λ e. refl) (λ e. refl)

    end_alike : (share : ShareRow) → (share.ended ≡ false → LeadsToRoot t.nodes share.node) → EndsAlike t.nodes after.nodes from.id unless share
    end_alike share present =
        elim (cases_Bool (is_under t.nodes share.node row.id)) [
          | inl under ↦
              (let never : is_closing t.nodes from.id share ≡ true → ⊥ =
              λ closing. both_ways (is_under t.nodes share.node row.id) (not_both share.node (and_parts (not share.ended) _ closing).1) under in (
                ap (λ (b : Bool). is_closing after.nodes from.id (if b then ended_row share else share)) under
                    ∙ sym (false_from_ne_true (is_closing t.nodes from.id share) never),
                λ closing. absurd (never closing),
              ))
          | inr outside ↦
              (let itself : unless share ≡ share = ap (λ (b : Bool). if b then ended_row share else share) outside in (
                ap (is_closing after.nodes from.id) itself
                    ∙ alike after.nodes share (λ still k. climbs_so share.node (present still) outside k),
                λ closing. itself,
              ))
        ]

    closed_left : closed_under after.nodes after.shares from.id ≡ closed_under t.nodes t.shares from.id
    closed_left =
        ap (λ (shares : List ShareRow). closed_under after.nodes shares from.id) shares_left
        ∙ ends_alike t.nodes after.nodes from.id unless t.shares
        (λ k d within. end_alike (get_or t.shares k d) (λ still. (sound.others.shares k d within).present still))

    crossing_left : InTurn t now (discard t now row ∷ joins ∷ discard t now from ∷ (beside t now row ++ beside t now from))
        → TellsDeeds t (discard t now row ∷ joins ∷ discard t now from ∷ (beside t now row ++ beside t now from))
    crossing_left turn =
        let gone = rest_of t now row ++ rest_of t now from in
        let goes = both_go t now transfer name sound at cross row e leaves in
        let fine = fit_sound t now (discard t now row) sound at turn.0 in
        let v_fine = fit_sound without now joins fine (deed_moment t (discard t now row) ∙ at) turn.1.0 in
        let out : is_under t.nodes from.id row.id ≡ false = not_both from.id (climb_under 0 t.nodes from.id from.id (omega arith) refl) in
        let leaving_u : KnownLeaving without from = leaves_in t without from (left.row from.id out) (left.leads from.id out) leaving in
        subst (λ (last : List Deed). TellsDeeds t (discard t now row ∷ joins ∷ discard t now from ∷ last))
        (map-append (λ (node : ℕ). deed.Purge node) (rest_of t now row) (rest_of t now from))
        (tell_both t (discard t now row ∷ joins ∷ discard t now from ∷ []) gone sound
        (after_first t now (discard t now row ∷ joins ∷ discard t now from ∷ []) (beside t now row ++ beside t now from) sound at turn) goes (
          leaves_first t now gone row sound leaves goes.items,
          (
            joins_tell without gone goes.items,
            (
              leave_tells t after now gone from sound v_fine leaving (leaves_joined without from more leaving_u) goes.items
                  (under_joined without under_left) closed_left,
              tt,
            ),
          ),
        ))

  -- ---- in both cases

  abbrev deeds_at : Option NodeRow → Option NodeRow → List Deed
  deeds_at o p =
      option_map_or (λ row. discard t now row ∷ []) o []
      ++ joins ∷ (option_map_or (λ row. discard t now row ∷ []) p [] ++ (option_map_or (beside t now) o [] ++ option_map_or (beside t now) p []))

  crossing_tell : InTurn t now (crossing t now name transfer) → TellsDeeds t (crossing t now name transfer)
  crossing_tell =
      subst (λ (p : Option NodeRow). InTurn t now (deeds_at (row_at t transfer.replaced) p) → TellsDeeds t (deeds_at (row_at t transfer.replaced) p))
      (sym known.source.1) (here (row_at t transfer.replaced) refl)
    where
      here : (o : Option NodeRow) → row_at t transfer.replaced ≡ o → InTurn t now (deeds_at o (Some from)) → TellsDeeds t (deeds_at o (Some from))
      here None e turn = crossing_here turn
      here (Some row) e turn = crossing_left row e turn

-- ---- a step

step_tell : (t : Tables) (now : ℕ) (deeds : List Deed) → AreSound t → t.meta.last ≡ now → KnownDeeds t now deeds → InTurn t now deeds → All IsPlain deeds
    → TellsDeeds t deeds
step_tell t now deeds sound at (by_going nodes goes) turn plain = tell_both t [] nodes sound sound goes tt
step_tell t now deeds sound at (by_leaving row it) turn plain = leaving_tell t now row sound at it turn
step_tell t now deeds sound at (by_restoring node folder name gone it goes others) turn plain =
    let back = deed.Restore node folder name in
    tell_both t (back ∷ []) gone sound (after_first t now (back ∷ []) (purges gone) sound at turn) goes (
      restore_tells t gone node folder name sound goes.items (ap is_some it.there)
          (subst (LeadsToRoot t.nodes) (sym it.home) (item_home t node it.item sound it.there).present) others,
      tt,
    )
step_tell t now deeds sound at (by_requoting row gone it goes) turn plain =
    tell_both t (deed.Requote row ∷ []) gone sound (after_first t now (deed.Requote row ∷ []) (purges gone) sound at turn) goes
    (record { told = refl; items = λ items. items; same = λ items same. same }, tt)
step_tell t now deeds sound at (by_moving transfer name it) turn plain = moving_tell t now transfer name sound at it.known turn
step_tell t now deeds sound at (by_copying transfer name it) turn plain = copying_tell t now transfer name sound at it.known turn
step_tell t now deeds sound at (by_crossing transfer name it) turn plain = crossing_tell t now transfer name sound at it turn
step_tell t now deeds sound at (by_joining changes user dir it there) turn plain =
    joining_tell t changes user dir (All-head IsPlain (deed.Store changes) (deed.Abandon user dir ∷ []) plain)
step_tell t now deeds sound at (by_abandoning user dir there) turn plain = refl
step_tell t now deeds sound at (by_sweeping nodes rows goes idle) turn plain = sweeping_tell t nodes rows sound goes idle

-- the moment is told of nothing
deed_told : (t : Tables) (now : ℕ) (one : Deed) → told_deed (stamp t now) one ≡ told_deed t one
deed_told t now (deed.Discard item) = refl
deed_told t now (deed.Purge node) = refl
deed_told t now (deed.Restore node folder name) = refl
deed_told t now (deed.Relink node folder name) = refl
deed_told t now (deed.Join copies) = refl
deed_told t now (deed.Requote row) = refl
deed_told t now (deed.Forget node at) = refl
deed_told t now (deed.Store changes) = refl
deed_told t now (deed.Abandon user dir) = refl

told_stamped : (t : Tables) (now : ℕ) (deeds : List Deed) → told_deeds (stamp t now) deeds ≡ told_deeds t deeds
told_stamped t now [] = refl
told_stamped t now (one ∷ deeds) =
    ap (λ (changes : List Change). changes ++ told_deeds (deed_done (stamp t now) one) deeds) (deed_told t now one)
    ∙ ap (λ (u : Tables). told_deed t one ++ told_deeds u deeds) (deed_stamped t now one)
    ∙ ap (λ (changes : List Change). told_deed t one ++ changes) (told_stamped (deed_done t one) now deeds)

first_stamped : (t : Tables) (now : ℕ) (one : Deed) → told_first (stamp t now) one ≡ told_first t one
first_stamped t now (deed.Discard item) = refl
first_stamped t now (deed.Purge node) = refl
first_stamped t now (deed.Restore node folder name) = refl
first_stamped t now (deed.Relink node folder name) = refl
first_stamped t now (deed.Join copies) = refl
first_stamped t now (deed.Requote row) = refl
first_stamped t now (deed.Forget node at) = refl
first_stamped t now (deed.Store changes) = refl
first_stamped t now (deed.Abandon user dir) = refl

firsts_stamped : (t : Tables) (now : ℕ) (deeds : List Deed) → flat_map (told_first (stamp t now)) deeds ≡ flat_map (told_first t) deeds
firsts_stamped t now [] = refl
firsts_stamped t now (one ∷ deeds) =
    ap (λ (changes : List Change). changes ++ flat_map (told_first (stamp t now)) deeds) (first_stamped t now one)
    ∙ ap (λ (changes : List Change). told_first t one ++ changes) (firsts_stamped t now deeds)

-- what is decided tells each deed of the tables before
pub tells_step : (t : Tables) (now : ℕ) (deeds : List Deed) → AreSound t → t.meta.last ≤ now → KnownSettled t now deeds → All IsPlain deeds
    → TellsDeeds t deeds
tells_step t now deeds sound later it plain =
    let first = it.first in
    let turn = turn_front (stamp t now) now first (forgets it.gone) (subst (InTurn (stamp t now) now) it.are (step_turn t now deeds sound later it)) in
    let fine = plain_front first (forgets it.gone) (subst (All IsPlain) it.are plain) in
    subst (TellsDeeds t) (sym it.are)
    (tells_behind t first it.gone
    (sym (told_stamped t now first)
    ∙ step_tell (stamp t now) now first (stamp_sound t now sound later) refl (known_stamped t now now first it.known) turn fine
    ∙ firsts_stamped t now first))
