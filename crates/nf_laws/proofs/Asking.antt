-- What is asked about shares changes nothing, or makes, changes or ends one share.
use Rattle.std.proofs.Common.{◌≡◌, ◌⊎◌, inl, inr, ℕ, ◌==◌, ◌&&◌, ◌≢◌, ◌<◌, filter, get_or, map, not, Bool, true, false, List, [], ◌∷◌, find, Option, None, Some, option_map, if◌then◌else◌, refl, sym, ap, subst, ◌∙◌, arith}
use Rattle.std.specs.Prelude.{is_none, is_some}
use Rattle.std.specs.List.{All, list_any}
use Rattle.std.specs.Option.{option_and_then, option_map_or}
use Rattle.std.proofs.lemmas.Bool.{and_from, and_parts, both_ways, eq-eqb, eqb-true, ne_eqb, not-true, not_from_false, or_cases, or_parts}
use Rattle.std.proofs.lemmas.List.Elements.{All-cons, All-filter, All-head, All-map, All-nil, All-weaker, filter_passes}
use Rattle.std.proofs.lemmas.List.Folds.{list_any-from_Any}
use Rattle.std.proofs.lemmas.Option.{none-some, same_Some}
use Rattle.nf_access.proofs.Granted.{any_is, granted_allows}
use Rattle.nf_access.proofs.LookUps.{find_among, map_some}
use Rattle.nf_access.specs.Access.{by_chains}
use Rattle.nf_access.specs.Making.{is_again, is_part, is_self_share, is_token_taken, passes_on}
use Rattle.nf_access.specs.Mounts.{is_mounted}
use Rattle.nf_access.specs.Shares.{ground_of, is_before, mask_of, names, receives, share_row}
use Rattle.nf_base.specs.declared.perms.Act.TheVariants as act
use Rattle.nf_base.specs.declared.rows.MemberRow.{MemberRow}
use Rattle.nf_base.specs.declared.rows.Row.TheVariants as rows
use Rattle.nf_base.specs.declared.rows.ShareKind.{ShareKind}
use Rattle.nf_base.specs.declared.rows.ShareKind.TheVariants as kind
use Rattle.nf_base.specs.declared.rows.ShareRow.{ShareRow}
use Rattle.nf_base.specs.declared.changes.Change.TheVariants.{Put}
use Rattle.nf_defs.specs.Prelude.{Access, group_named, is_member_of, is_root, members_of, owner_of, put, share_key, Tables, user_named, user_row}
use Rattle.nf_defs.specs.declared.Found.{Found}
use Rattle.nf_defs.specs.declared.Found.TheVariants.{At, Free, Missing}
use Rattle.nf_defs.specs.declared.Grant.{Grant}
use Rattle.nf_defs.specs.declared.Seeker.TheVariants.{User}
use Rattle.nf_laws.proofs.Given.{all_mounted, each_named, ensured_with, members_are, mounts_given, mounts_put, of_map, of_member, same_mounts}
use Rattle.nf_laws.proofs.May.{owns}
use Rattle.nf_laws.proofs.Reaching.{leads_by, way_mount}
use Rattle.nf_laws.proofs.Rows.{found_is}
use Rattle.nf_laws.specs.Access.{IsMountFor, IsPassedOn, MountsGiven, IsSteered, SharesOne, is_ended, is_made, is_set}
use Rattle.nf_words.proofs.Asks.{live_is, named_there, none_broken}
use Rattle.nf_words.proofs.Ensured.{each_new, each_of}
use Rattle.nf_words.proofs.Ways.{bounded}
use Rattle.nf_words.specs.Prelude.{access_of, AreSound, asker_of, Call, changed, ended_row, fault_of_ask, found, is_long, is_own, is_past, is_steered_by, is_widened, IsShareSound, kind_to, mount_of, mounts_for, new_share, node_found, nothing_done, offer_fault, offer_of, offered, parent_for, perms_after, put_mounts, raised, receiver_named, same_end, seeker_of, set_row, share_ended, share_line, share_made, share_set, share_shown, share_steered, share_told, shared, until_after, users_for, way_of, set_fault}
use Rattle.nf_words.specs.Tokens.{link_token}
use Rattle.nf_words.specs.declared.answer.Allowed.{Allowed}
use Rattle.nf_words.specs.declared.answer.Allowed.TheVariants as allowed
use Rattle.nf_words.specs.declared.answer.Report.{Report}
use Rattle.nf_words.specs.declared.answer.Report.TheVariants as report
use Rattle.nf_words.specs.declared.request.Offer.{Offer}
use Rattle.nf_words.specs.declared.request.Places.{Places}
use Rattle.nf_words.specs.declared.request.Receiver.{Receiver}
use Rattle.nf_words.specs.declared.request.Receiver.TheVariants as receiver
use Rattle.nf_words.specs.declared.request.Sharee.{Sharee}
use Rattle.nf_words.specs.declared.request.Sharee.TheVariants as sharee
use Rattle.nf_words.specs.declared.request.ShareAsk.{ShareAsk}
use Rattle.nf_words.specs.declared.request.ShareAsk.TheVariants as ask
use Rattle.nf_words.specs.declared.request.Spot.{Spot}
use Rattle.nf_words.specs.declared.request.Wanted.TheVariants.{Share}

-- of a call one share is new or another, with mounts for it if it is new
pub record OneShare (call : Call) (made : Tables) : Type 0 where
  pub row : ShareRow
  pub one : SharesOne call row
  pub shares : made.shares ≡ put share_key row call.state.tables.shares
  pub mounts : MountsGiven call.state.tables.mounts made.mounts (IsMountFor call.state.tables row)
  pub mounted : row.id ≡ call.state.tables.meta.next_share → (user : ℕ) → receives call.state.tables.members (User user) row ≡ true
      → is_some (user_row call.state.tables.users user) ≡ true → is_mounted made.mounts user row.node ≡ true
  pub nodes : made.nodes ≡ call.state.tables.nodes
  pub rest : made ≡ record call.state.tables { meta = made.meta; nodes = made.nodes; shares = made.shares; mounts = made.mounts }

-- an act changes nothing, or that one share
abbrev pub SharesAtMost : Call → Allowed → Type 0
SharesAtMost call act =
    let made = changed call.state.tables call.now act in (made ≡ call.state.tables) ⊎ OneShare call made

module _ (call : Call) (sound : AreSound call.state.tables) where
  abbrev t : Tables
  t = call.state.tables

  abbrev access : Access
  access = access_of call.state

  -- ---- what a new share stands on

  -- by a mount it passes on the share of the grant that was found
  by_parent : (spot : Spot) (offer : Offer) (parent : ℕ) → offer.mount ≡ mount_of call spot → parent_for access call offer ≡ Some parent
      → IsPassedOn call spot (new_share access call offer) (Some parent)
  by_parent spot offer parent goes is = here offer.mount goes is
    where
      here : (mount : Option ℕ) → mount ≡ mount_of call spot
          → option_and_then (λ mount. option_map (λ grant. grant.share)
          (find (passes_on call.now offer.perms) (by_chains (ground_of t) (seeker_of call) mount))) mount ≡ Some parent
          → IsPassedOn call spot (new_share access call offer) (Some parent)
      here None goes is = absurd (none-some parent is)
      here (Some mount) goes is =
          let grants = by_chains (ground_of t) (seeker_of call) mount in
          let passes = passes_on call.now offer.perms in
          let found = map_some (λ (g : Grant). g.share) (find passes grants) parent is in
          let among = find_among passes grants found.0 found.1 in
          let test = λ (g : Grant). passes g && g.share == parent in
          let by = (any_is test (ground_of t) (seeker_of call) mount (bounded t sound)).0
          (list_any-from_Any test grants
          (among.0.0, found.0, among.0.1, among.0.2, and_from (passes found.0) _ among.1 (eq-eqb found.0.share parent found.2))) in
          let both = and_parts _ (by.0.id == parent) by.4 in
          let parts = and_parts _ (is_part offer.perms (mask_of (by.0 ∷ by.1))) both.0 in
          let allows = granted_allows (ground_of t) call.now (seeker_of call) act.Share mount by.0 by.1 by.2 by.3 parts.0 in
          (mount, sym goes, (by.0, by.1, eqb-true by.0.id parent both.1, allows, parts.1))

  passed_on : (spot : Spot) (offer : Offer) → offer.mount ≡ mount_of call spot → offer_fault access call offer ≡ None
      → IsPassedOn call spot (new_share access call offer) (new_share access call offer).parent
  passed_on spot offer goes fits = here (is_own call offer) refl (none_broken _ _ _ _ _ _ _ fits).4
    where
      from : (o : Option ℕ) → parent_for access call offer ≡ o → is_none o ≡ false → IsPassedOn call spot (new_share access call offer) o
      from None e some = absurd (cc)
      from (Some parent) e some = by_parent spot offer parent goes e

      here : (own : Bool) → is_own call offer ≡ own → (not own && is_none (parent_for access call offer)) ≡ false
          → IsPassedOn call spot (new_share access call offer) (if own then None else parent_for access call offer)
      here true e some = owns t.nodes (seeker_of call) offer.node e
      here false e some = from (parent_for access call offer) refl some

  -- ---- what is asked

  -- a user whom a share names, and who is there
  abbrev HasIt : ShareRow → ℕ → Type 0
  HasIt row user = (receives t.members (User user) row ≡ true) × (is_some (user_row t.users user) ≡ true)

  names_it : (row : ShareRow) (kind : ShareKind) (user : ℕ) → row.kind ≡ kind → names t.members kind user ≡ true → (row.owner == user) ≡ false
      → receives t.members (User user) row ≡ true
  names_it row kind user is named other =
      and_from (names t.members row.kind user) (not (row.owner == user)) (ap (λ (k : ShareKind). names t.members k user) is ∙ named)
      (not_from_false (row.owner == user) other)

  -- a new share names the user to whom it is made, or the members of the group but for the owner
  all_receive : (node : ℕ) (to : Receiver) (row : ShareRow) → row.kind ≡ kind_to (link_token call.words) to → is_self_share row row.kind ≡ false
      → row.owner ≡ owner_of t.nodes node → ((user : ℕ) → to ≡ receiver.User user → is_some (user_row t.users user) ≡ true)
      → All (HasIt row) (users_for t.members (owner_of t.nodes node) to)
  all_receive node (receiver.User user) row is self owner there =
      All-cons (HasIt row) user [] (
        names_it row (kind.User user) user is (eq-eqb user user refl) (ne_eqb row.owner user (λ same.
            both_ways (user == row.owner) (or_parts (user == row.initiator) (user == row.owner) (ap (is_self_share row) (sym is) ∙ self)).1
            (eq-eqb user row.owner (sym same)))),
        there user refl,
      )
      (All-nil (HasIt row))
  all_receive node (receiver.Group group) row is self owner there = λ k d within.
      let among = members_of t.members group in
      let other : ℕ → Bool = λ user. not (user == owner_of t.nodes node) in
      let user = get_or (filter other among) k d in
      let passes = filter_passes other among k d within in (
        names_it row (kind.Group group) user is
            (All-filter other (λ (user : ℕ). is_member_of t.members group user ≡ true) among (members_are t.members group) k d within)
            (ne_eqb row.owner user (λ same.
            both_ways (user == owner_of t.nodes node) (not-true (user == owner_of t.nodes node) passes)
            (eq-eqb user (owner_of t.nodes node) (sym same ∙ owner)))),
        All-filter other (λ (user : ℕ). is_some (user_row t.users user) ≡ true) among
            (All-map (λ (user : ℕ). is_some (user_row t.users user) ≡ true) (λ (r : MemberRow). r.user) (filter (λ r. r.group == group) t.members)
            (All-filter (λ (r : MemberRow). r.group == group) (λ (r : MemberRow). is_some (user_row t.users r.user) ≡ true) t.members sound.members_there)) k d within,
      )
  all_receive node receiver.Link row is self owner there = All-nil (HasIt row)

  -- and whoever receives it is one of them
  each_receiver : (P : ℕ → Type 0) (node : ℕ) (to : Receiver) (row : ShareRow) (user : ℕ) → row.kind ≡ kind_to (link_token call.words) to → row.owner ≡ owner_of t.nodes node
      → All P (users_for t.members (owner_of t.nodes node) to) → receives t.members (User user) row ≡ true → P user
  each_receiver P node (receiver.User to) row user of owner all is =
      let parts = and_parts (names t.members row.kind user) (not (row.owner == user)) is in
      subst P (eqb-true to user (ap (λ (k : ShareKind). names t.members k user) (sym of) ∙ parts.0)) (All-head P to [] all)
  each_receiver P node (receiver.Group group) row user of owner all is =
      let parts = and_parts (names t.members row.kind user) (not (row.owner == user)) is in
      of_member P (λ other. not (other == owner_of t.nodes node)) t.members group user all
      (ap (λ (k : ShareKind). names t.members k user) (sym of) ∙ parts.0)
      (not_from_false (user == owner_of t.nodes node) (ne_eqb user (owner_of t.nodes node) (λ same.
      both_ways (row.owner == user) (not-true (row.owner == user) parts.1) (eq-eqb row.owner user (owner ∙ sym same)))))
  each_receiver P node receiver.Link row user of owner all is =
      let parts = and_parts (names t.members row.kind user) (not (row.owner == user)) is in
      absurd (both_ways (names t.members row.kind user) (ap (λ (k : ShareKind). names t.members k user) of) parts.0)

  -- what is offered makes a share, and mounts for all whom it names
  module _ (spot : Spot) (to : Sharee) (wanted until : Option ℕ) (asked : call.request.wanted ≡ Share (ask.New spot to wanted until))
      (node : ℕ) (leads : found call spot ≡ At node) (who : Receiver) (named : receiver_named t to ≡ Some who)
      (fits : offer_fault access call (offer_of t.nodes (link_token call.words) (way_of call spot).mount wanted until node who) ≡ None) where
    abbrev offer : Offer
    offer = offer_of t.nodes (link_token call.words) (way_of call spot).mount wanted until node who

    abbrev row : ShareRow
    row = new_share access call offer

    abbrev faults : (is_root t.nodes node ≡ false) × (is_self_share row row.kind ≡ false) × (is_past call.now until ≡ false)
        × (list_any (is_again row call.now) t.shares ≡ false)
        × (is_widened access call offer ≡ false) × (is_long t.shares row.parent ≡ false) × (is_token_taken t.shares row.kind ≡ false)
    faults = none_broken _ _ _ _ _ _ _ fits

    one : SharesOne call row
    one =
        is_made spot to wanted until row asked
        (record {
          number = refl;
          led = leads_by call spot node sound leads;
          initiator = refl;
          owner = refl;
          receiver = who;
          named = named;
          kind = refl;
          token = faults.6;
          allowed = refl;
          passed_on = passed_on spot offer (way_mount call spot) fits;
          ends = refl;
          later = not_false (is_before call.now until) faults.2;
          lasts = refl;
        })
      where
        not_false : (b : Bool) → not b ≡ false → b ≡ true
        not_false true h = refl
        not_false false h = absurd (cc)

    abbrev pairs : List (ℕ × ℕ)
    pairs = map (λ user. (user, node)) (users_for t.members (owner_of t.nodes node) who)

    -- each is of a user whom the share names, and of its node
    abbrev Named : ℕ × ℕ → Type 0
    Named of = HasIt row of.0 × (of.1 ≡ node)

    made_share : SharesAtMost call (share_made access call offer)
    made_share =
        let changes = Put (rows.Share row) ∷ put_mounts (mounts_for t offer) in
        let meta = record (raised t call.now changes None).meta { last = call.now } in
        inr (subst (λ (u : Tables). OneShare call (record u { meta = meta }))
        (sym (mounts_put (record t { shares = put share_key row t.shares }) (mounts_for t offer)))
        (record {
          row = row;
          one = one;
          shares = refl;
          mounts = mounts_given t.users t.nodes pairs t.mounts (IsMountFor t row) sound.others.mounts_rise given;
          mounted = λ number user receives there.
              each_receiver (λ (user : ℕ). is_mounted (ensured_with t.users t.nodes pairs t.mounts) user node ≡ true) node who row user refl refl
              (of_map (λ (of : ℕ × ℕ). is_mounted (ensured_with t.users t.nodes pairs t.mounts) of.0 of.1 ≡ true) (λ user. (user, node))
              (users_for t.members (owner_of t.nodes node) who) (all_mounted t.users t.nodes pairs t.mounts)) receives;
          nodes = refl;
          rest = refl;
        }))
      where
        named_user : (o : Sharee) → receiver_named t o ≡ Some who → (user : ℕ) → who ≡ receiver.User user → is_some (user_row t.users user) ≡ true
        named_user (sharee.User name) is user same = here (user_named t.users name) refl is
          where
            here : (o : Option ℕ) → user_named t.users name ≡ o → option_map receiver.User o ≡ Some who → is_some (user_row t.users user) ≡ true
            here None e is = absurd (none-some who is)
            here (Some id) e is =
                let at : id ≡ user = same_user id user (same_Some (receiver.User id) who is ∙ same) in
                subst (λ (n : ℕ). is_some (user_row t.users n) ≡ true) at (named_there t.users name id e)
              where
                same_user : (a b : ℕ) → receiver.User a ≡ receiver.User b → a ≡ b
                same_user a b same = cc
        named_user (sharee.Group name) is user same = here (group_named t.groups name) is
          where
            here : (o : Option ℕ) → option_map receiver.Group o ≡ Some who → is_some (user_row t.users user) ≡ true
            here None is = absurd (none-some who is)
            here (Some id) is = absurd (apart id (same_Some (receiver.Group id) who is ∙ same))
              where
                apart : (a : ℕ) → receiver.Group a ≢ receiver.User user
                apart a e = cc
        named_user sharee.Link is user same = absurd (apart (same_Some receiver.Link who is ∙ same))
          where
            apart : receiver.Link ≢ receiver.User user
            apart e = cc

        all_named : All Named pairs
        all_named =
            All-map Named (λ user. (user, node)) (users_for t.members (owner_of t.nodes node) who)
            (All-weaker (HasIt row) (λ (user : ℕ). Named (user, node)) (λ user has. (has, refl)) (users_for t.members (owner_of t.nodes node) who)
            (all_receive node who row refl faults.1 refl (named_user to named)))

        given : All (IsMountFor t row) (mounts_for t offer)
        given k d within =
            let of = each_of t.users t.nodes Named pairs t.mounts all_named k d within in
            let new = each_new t.users t.nodes pairs t.mounts k d within in
            record {
              new = refl;
              user = of.0.0;
              there = of.0.1;
              node = of.1;
              name = each_named t.users t.nodes node pairs t.mounts
                  (All-weaker Named (λ (of : ℕ × ℕ). of.1 ≡ node) (λ of is. is.1) pairs all_named) k d within;
              stays = new.0;
              none = new.1;
            }

  offers : (spot : Spot) (to : Sharee) (wanted until : Option ℕ) → call.request.wanted ≡ Share (ask.New spot to wanted until)
      → option_and_then (offer_fault access call) (offered call spot to wanted until) ≡ None
      → SharesAtMost call (option_map_or (share_made access call) (offered call spot to wanted until) nothing_done)
  offers spot to wanted until asked fits = here (found call spot) (receiver_named t to) refl refl fits
    where
      of : Found → Option Receiver → Option Offer
      of place to = option_and_then (λ node. option_map (offer_of t.nodes (link_token call.words) (way_of call spot).mount wanted until node) to) (node_found place)

      here : (place : Found) (receiver : Option Receiver) → found call spot ≡ place → receiver_named t to ≡ receiver
          → option_and_then (offer_fault access call) (of place receiver) ≡ None
          → SharesAtMost call (option_map_or (share_made access call) (of place receiver) nothing_done)
      here (At node) (Some receiver) leads named fits = made_share spot to wanted until asked node leads receiver named fits
      here (At node) None leads named fits = inl refl
      here (Free folder) receiver leads named fits = inl refl
      here (Missing depth) receiver leads named fits = inl refl

  -- another row of a share that is there
  other_share : (share : ℕ) (old new : ShareRow) (told : Report) → SharesOne call new → share_row t.shares share ≡ Some old → new.id ≡ old.id
      → OneShare call (changed t call.now (allowed.Change (Put (rows.Share new) ∷ []) None told))
  other_share share old new told one there same = record {
    row = new;
    one = one;
    shares = refl;
    mounts = same_mounts t.mounts (IsMountFor t new);
    mounted = λ number. absurd (omega (arith, number, same, given));
    nodes = refl;
    rest = refl;
  }
    where
      given : old.id < t.meta.next_share
      given = (found_is (IsShareSound t) (λ (x : ShareRow). x.id == share) t.shares old sound.others.shares there).1.given

  -- of a share that is there
  steered : (share : ℕ) (act : ShareRow → Allowed)
      → ((row : ShareRow) → share_steered call share ≡ Some row → IsSteered call share row → SharesAtMost call (act row))
      → SharesAtMost call (option_map_or act (share_steered call share) nothing_done)
  steered share act fits = here (share_steered call share) refl
    where
      by : (row : ShareRow) → is_steered_by (asker_of call) row ≡ true → (row.initiator ≡ asker_of call) ⊎ (row.owner ≡ asker_of call)
      by row is =
          elim (or_cases (row.initiator == asker_of call) (row.owner == asker_of call) is) [
            | inl made ↦ inl (eqb-true row.initiator (asker_of call) made)
            | inr owned ↦ inr (eqb-true row.owner (asker_of call) owned)
          ]

      here : (o : Option ShareRow) → share_steered call share ≡ o → SharesAtMost call (option_map_or act o nothing_done)
      here None e = inl refl
      here (Some row) e =
          let live = live_is (is_steered_by (asker_of call)) t.shares share row e in
          fits row e (record { there = live.0; lasts = live.1; by = by row live.2 })

  pub asks_share : (places : Places) (asked : ShareAsk) → call.request.wanted ≡ Share asked → fault_of_ask access call asked ≡ None
      → SharesAtMost call (shared access call places asked)
  asks_share places (ask.New spot to wanted until) asked fits = offers spot to wanted until asked fits
  asks_share places (ask.List spot with_me) asked fits = inl refl
  asks_share places (ask.Show share) asked fits = here (share_shown call share)
    where
      here : (o : Option ShareRow) → SharesAtMost call (option_map_or (share_told t []) o nothing_done)
      here None = inl refl
      here (Some row) = inl refl
  asks_share places (ask.Set share wanted until) asked fits =
      steered share (λ row. share_set t (perms_after t wanted row) (until_after until row.until) row) (λ row e is. set row e is)
    where
      set : (row : ShareRow) → share_steered call share ≡ Some row → IsSteered call share row
          → SharesAtMost call (share_set t (perms_after t wanted row) (until_after until row.until) row)
      set row e is = here (perms_after t wanted row == row.perms && same_end (until_after until row.until) row.until)
        where
          new : ShareRow
          new = set_row (perms_after t wanted row) (until_after until row.until) row

          here : (same : Bool) → SharesAtMost call (share_told t (if same then [] else Put (rows.Share new) ∷ []) new)
          here true = inl refl
          here false =
              inr (other_share share row new (option_map_or report.Share (share_line t new) report.Plain)
              (is_set share wanted until row new asked is refl (sym (ap (option_and_then (set_fault t call.now wanted until)) e) ∙ fits)) is.there refl)
  asks_share places (ask.End share) asked fits =
      steered share share_ended (λ row e is.
      inr (other_share share row (ended_row row) report.Plain (is_ended share row asked is) is.there refl))
