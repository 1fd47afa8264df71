-- Shares of which one is made, has other permissions, or is ended.
use Rattle.std.proofs.Common.{◌≡◌, ◌≢◌, ℕ, ◌==◌, ◌≤◌, inl, inr, Bool, true, false, List, get_or, refl, sym, ap, ◌∙◌, subst, arith}
use Rattle.std.specs.Prelude.{None, Some, Option, is_some}
use Rattle.std.specs.List.{All, AllPairs, list_any}
use Rattle.std.specs.Option.{IfSome, option_map_or}
use Rattle.std.proofs.lemmas.Bool.{and_from, and_parts, both_ways, cases_order, eqb-true, le-ltb, not_from_false}
use Rattle.nf_access.proofs.LookUps.{find_among}
use Rattle.nf_access.proofs.Kept.{share_row_each}
use Rattle.std.proofs.lemmas.List.Elements.{All-contains, All-weaker}
use Rattle.std.proofs.lemmas.List.Folds.{Any-from_list_any}
use Rattle.std.proofs.lemmas.List.{get_or_default}
use Rattle.std.proofs.lemmas.Slice.Eq.{bytes_eq-Decides}
use Rattle.nf_base.specs.declared.limits.TheConstants.{MAX_CHAIN}
use Rattle.nf_base.specs.declared.rows.GroupRow.{GroupRow}
use Rattle.nf_base.specs.declared.rows.MetaRow.{MetaRow}
use Rattle.nf_base.specs.declared.rows.NodeRow.{NodeRow}
use Rattle.nf_base.specs.declared.rows.ShareKind.{ShareKind}
use Rattle.nf_base.specs.declared.rows.ShareKind.TheVariants as to
use Rattle.nf_base.specs.declared.rows.ShareRow.{ShareRow}
use Rattle.nf_base.specs.declared.rows.UserRow.{UserRow}
use Rattle.nf_defs.proofs.Puts.{all_put}
use Rattle.nf_defs.specs.Prelude.{share_key, Tables, user_row}
use Rattle.nf_laws.proofs.Rows.{each_fails, found_is}
use Rattle.nf_laws.specs.Access.{IsSharing, IsSteered, is_ended, is_made, is_set, SharesOne}
use Rattle.nf_laws.specs.Numbers.{AreHigher}
use Rattle.nf_words.proofs.Asks.{share_found}
use Rattle.nf_words.proofs.Found.{found_has}
use Rattle.nf_words.proofs.Ways.{present_row}
use Rattle.nf_words.specs.History.{end_in, IsEnd, IsInBounds}
use Rattle.nf_words.specs.Prelude.{AreSound, Call, call_of, ended_row, is_end_moment, IsKindSound, IsNodeSound, IsShareSound, LeadsToRoot, perms_after, set_row, State, until_after}
use Rattle.nf_words.specs.declared.history.Entry.{Entry}
use Rattle.nf_words.specs.declared.request.ShareAsk.TheVariants as ask
use Rattle.nf_words.specs.declared.request.Sharee.{Sharee}
use Rattle.nf_words.specs.declared.request.Spot.{Spot}
use Rattle.nf_words.specs.declared.request.Until.{Until}
use Rattle.nf_words.specs.declared.request.Until.TheVariants as until
use Rattle.nf_words.specs.declared.request.Wanted.TheVariants.{Share}
use Rattle.nf_access.specs.Making.{is_token_taken}
use Rattle.nf_access.specs.Shares.{is_link, link_row, share_row}
use Rattle.nf_rules.specs.Ruled.{AreOrdered, AreTokensApart, IsGiven, IsGroupRuled, IsMountRuled, IsShareRuled, IsUserRuled}
use Rattle.nf_rules.specs.Rules.{are_share_numbers, is_given, is_recipient_given}
use Rattle.nf_rules.proofs.After.{chain_above, IsAbove, numbers_up, share_ruled, still_given, user_given, user_was}
use Rattle.nf_rules.proofs.Pairs.{pairs_put}
use Rattle.nf_rules.proofs.Shares.{given, is_given_from}

-- ---- numbers

-- a share's numbers were given
module _ (meta : MetaRow) (row : ShareRow) (is : are_share_numbers meta row ≡ true) where
  pub node_given : is_given meta.next_node row.node ≡ true
  node_given =
      let until = and_parts _ _ (and_parts _ _ is).0 in
      let parent = and_parts _ _ until.0 in
      let recipient = and_parts _ _ parent.0 in
      let initiator = and_parts _ _ recipient.0 in
      let owner = and_parts _ _ initiator.0 in
      (and_parts _ _ owner.0).1

-- where a share has another end, its numbers were given as before
pub numbers_ending : (meta : MetaRow) (row : ShareRow) (perms : ℕ) (until : Option ℕ) → are_share_numbers meta row ≡ true
    → option_map_or is_end_moment until true ≡ true → are_share_numbers meta (set_row perms until row) ≡ true
numbers_ending meta row perms until is ends =
    let made = and_parts _ _ is in
    let parts = and_parts _ _ made.0 in
    and_from _ _ (and_from _ _ parts.0 ends) made.1

-- the numbers of a new share were given, since all that it names is there
module _ (t : Tables) (users : All (λ (user : UserRow). IsGiven t.meta.next_user user.id) t.users)
    (groups : All (λ (group : GroupRow). IsGiven t.meta.next_group group.id) t.groups) (sound : AreSound t) (row : ShareRow)
    (fine : IsShareSound t row) (there : share_row t.shares row.id ≡ Some row) (lasts : row.ended ≡ false)
    (ends : option_map_or is_end_moment row.until true ≡ true) where
  user_is : (user : ℕ) → is_some (user_row t.users user) ≡ true → is_given t.meta.next_user user ≡ true
  user_is user there = is_given_from t.meta.next_user user (user_given t t.meta.next_user user users there)

  group_given : (group : ℕ) → list_any (λ (row : GroupRow). row.id == group) t.groups ≡ true → is_given t.meta.next_group group ≡ true
  group_given group is =
      let any = Any-from_list_any (λ (row : GroupRow). row.id == group) t.groups is in
      is_given_from t.meta.next_group group
      (subst (IsGiven t.meta.next_group) (eqb-true any.1.id group any.4) (subst (λ (g : GroupRow). IsGiven t.meta.next_group g.id) any.3 (groups any.0 any.1 any.2)))

  recipient_is : (kind : ShareKind) → IsKindSound t kind → is_recipient_given t.meta kind ≡ true
  recipient_is (to.User user) is = user_is user is
  recipient_is (to.Group group) is = group_given group is
  recipient_is (to.Link token) is = refl

  node_there : LeadsToRoot t.nodes row.node → is_given t.meta.next_node row.node ≡ true
  node_there up =
      let of = present_row t.nodes row.node up in
      let h = found_is (IsNodeSound t) (λ (node : NodeRow). node.id == row.node) t.nodes of.0 sound.nodes of.1 in
      is_given_from t.meta.next_node row.node
      (subst (IsGiven t.meta.next_node) (eqb-true of.0.id row.node h.0) (record { first = h.1.some; below = h.1.given }))

  parent_given : (parent : Option ℕ) → IsAbove t.shares row parent → option_map_or (is_given t.meta.next_share) parent true ≡ true
  parent_given None above = refl
  parent_given (Some parent) above = here (share_row t.shares parent) refl above
    where
      here : (o : Option ShareRow) → share_row t.shares parent ≡ o → is_some o ≡ true → is_given t.meta.next_share parent ≡ true
      here None e is = absurd (cc)
      here (Some found) e is =
          let h = found_is (IsShareSound t) (λ (share : ShareRow). share.id == parent) t.shares found sound.others.shares e in
          is_given_from t.meta.next_share parent
          (subst (IsGiven t.meta.next_share) (eqb-true found.id parent h.0) (record { first = h.1.some; below = h.1.given }))

  pub new_numbers : are_share_numbers t.meta row ≡ true
  new_numbers =
      and_from _ _
      (and_from _ _
      (and_from _ _
      (and_from _ _
      (and_from _ _
      (and_from _ _
      (and_from _ _ (is_given_from t.meta.next_share row.id (record { first = fine.some; below = fine.given }))
      (node_there (fine.present lasts)))
      (user_is row.owner fine.owner))
      (user_is row.initiator fine.initiator))
      (recipient_is row.kind fine.kind))
      (parent_given row.parent (chain_above MAX_CHAIN t.shares row there fine.chained)))
      ends)
      (not_from_false _ (le-ltb t.meta.last row.made fine.made))

-- no share has the token of a link that none has
no_other : (shares : List ShareRow) (token : List ℕ) → is_some (link_row shares token) ≡ false
    → All (λ (other : ShareRow). other.kind ≢ to.Link token) shares
no_other shares token free k d within link =
    let has : ShareRow → Bool = λ row. is_link token row.kind in
    both_ways (has (get_or shares k d)) (each_fails has shares (not_some (link_row shares token) free) k d within)
    (ap (is_link token) link ∙ (bytes_eq-Decides token token).1 refl)
  where
    not_some : (o : Option ShareRow) → is_some o ≡ false → o ≡ None
    not_some None free = refl
    not_some (Some row) free = absurd (cc)

-- ---- a share that is asked about

same_higher : (meta : MetaRow) → AreHigher meta meta
same_higher meta = record { users = omega arith; groups = omega arith; nodes = omega arith; shares = omega arith; blobs = omega arith }

module _ (s : State) (e : Entry) (made : Tables) (h : AreOrdered s.tables) (sound : AreSound made) (up : AreHigher s.tables.meta made.meta)
    (users : made.users ≡ s.tables.users) (groups : made.groups ≡ s.tables.groups) (is : IsSharing s e made)
    (bounds : IsInBounds is.request.wanted) where
  abbrev t : Tables
  t = s.tables

  abbrev call : Call
  call = call_of s e.seat e.moment is.words is.request

  there : share_row made.shares is.row.id ≡ Some is.row
  there = ap (λ (rows : List ShareRow). share_row rows is.row.id) is.shares ∙ share_found is.row t.shares

  fine : IsShareSound made is.row
  fine = subst (λ (o : Option ShareRow). IfSome o (IsShareSound made)) there
      (found_has (IsShareSound made) (λ (row : ShareRow). row.id == is.row.id) made.shares sound.others.shares)

  abbrev Numbered : ShareRow → Type 0
  Numbered row = row.made ≤ made.meta.last → are_share_numbers made.meta row ≡ true

  raised : (row : ShareRow) → are_share_numbers t.meta row ≡ true → Numbered row
  raised row own before = numbers_up t.meta made.meta row up before own

  old_of : (share : ℕ) (old : ShareRow) → IsSteered call share old → IsShareRuled t old
  old_of share old steered = (found_is (IsShareRuled t) (λ (row : ShareRow). row.id == share) t.shares old h.shares steered.there).1

  users_given : All (λ (user : UserRow). IsGiven made.meta.next_user user.id) made.users
  users_given =
      subst (All (λ (user : UserRow). IsGiven made.meta.next_user user.id)) (sym users)
      (All-weaker (IsUserRuled t) (λ (user : UserRow). IsGiven made.meta.next_user user.id)
      (λ user own. still_given t.meta.next_user made.meta.next_user user.id up.users own.id) t.users h.users)

  groups_given : All (λ (group : GroupRow). IsGiven made.meta.next_group group.id) made.groups
  groups_given =
      subst (All (λ (group : GroupRow). IsGiven made.meta.next_group group.id)) (sym groups)
      (All-weaker (IsGroupRuled t) (λ (group : GroupRow). IsGiven made.meta.next_group group.id)
      (λ group own. still_given t.meta.next_group made.meta.next_group group.id up.groups own.id) t.groups h.groups)

  -- ends that are asked for are told by dates
  end_is : (until : Option ℕ) → IsEnd until → option_map_or is_end_moment until true ≡ true
  end_is None is = refl
  end_is (Some moment) is = is

  new_end : (spot : Spot) (name : Sharee) (perms until : Option ℕ) → is.request.wanted ≡ Share (ask.New spot name perms until) → IsEnd until
  new_end spot name perms until asked = subst IsInBounds asked bounds

  set_end : (share : ℕ) (perms : Option ℕ) (until : Until) (old : Option ℕ) → is.request.wanted ≡ Share (ask.Set share perms until)
      → option_map_or is_end_moment old true ≡ true → option_map_or is_end_moment (until_after until old) true ≡ true
  set_end share perms wanted old asked own = here wanted (subst IsInBounds asked bounds)
    where
      here : (until : Until) → IsEnd (end_in until) → option_map_or is_end_moment (until_after until old) true ≡ true
      here until.Keep ends = own
      here until.Never ends = refl
      here (until.At moment) ends = ends

  of_one : (row : ShareRow) → SharesOne call row → is.row ≡ row → Numbered row
  of_one row (is_made spot name perms until _ asked by) same =
      λ before. new_numbers made users_given groups_given sound row (subst (IsShareSound made) same fine)
      (subst (λ (r : ShareRow). share_row made.shares r.id ≡ Some r) same there) by.lasts
      (ap (λ (o : Option ℕ). option_map_or is_end_moment o true) by.ends ∙ end_is until (new_end spot name perms until asked))
  of_one row (is_set share perms until old _ asked steered like fits) same =
      let own = (old_of share old steered).numbers in
      let until_own = (and_parts _ _ (and_parts _ _ own).0).1 in
      subst Numbered (sym like)
      (raised (set_row (perms_after t perms old) (until_after until old.until) old)
      (numbers_ending t.meta old (perms_after t perms old) (until_after until old.until) own (set_end share perms until old.until asked until_own)))
  of_one _ (is_ended share old asked steered) same = raised (ended_row old) (old_of share old steered).numbers

  -- a link and another share that is there
  of_old : (share : ℕ) (old : ShareRow) → IsSteered call share old → All (λ (other : ShareRow). other.id ≢ old.id → AreTokensApart old other) t.shares
  of_old share old steered k d within other token link link' =
      let among = (find_among (λ (row : ShareRow). row.id == share) t.shares old steered.there).0 in
      let at : get_or t.shares among.0 d ≡ old = get_or_default t.shares among.0 d old among.1 ∙ among.2 in
      elim (cases_order among.0 k) [
        | inl same ↦ other (ap (λ (r : ShareRow). r.id) (sym (ap (λ (n : ℕ). get_or t.shares n d) same) ∙ at))
        | inr (inl before) ↦
            h.tokens_apart among.0 k d before within token (ap (λ (r : ShareRow). r.kind) at ∙ link) link'
        | inr (inr behind) ↦
            h.tokens_apart k among.0 d behind among.1 token link' (ap (λ (r : ShareRow). r.kind) at ∙ link)
      ]

  numbered : All Numbered made.shares
  numbered =
      subst (All Numbered) (sym is.shares)
      (all_put share_key Numbered is.row t.shares (of_one is.row is.one refl)
      (All-weaker (IsShareRuled t) Numbered (λ row own. raised row own.numbers) t.shares h.shares))

  own_numbers : are_share_numbers made.meta is.row ≡ true
  own_numbers = of_one is.row is.one refl fine.made

  -- each share keeps the rules
  pub one_ruled : All (IsShareRuled made) made.shares
  one_ruled k d within =
      let row : ShareRow = get_or made.shares k d in
      share_ruled made.meta made row sound (same_higher made.meta)
      (numbered k d within (sound.others.shares k d within).made)
      (sound.others.shares k d within) (share_row_each made.shares sound.others.shares_rise k d within)

  -- links keep their tokens, and what is new has the token of none
  apart_from : (row : ShareRow) → SharesOne call row → All (λ (other : ShareRow). other.id ≢ row.id → AreTokensApart row other) t.shares
  apart_from row (is_made spot name perms until _ asked by) k d within other token link =
      no_other t.shares token (subst (λ (kind : ShareKind). is_token_taken t.shares kind ≡ false) link by.token) k d within
  apart_from row (is_set share perms until old _ asked steered like fits) k d within other token link =
      of_old share old steered k d within (λ same. other (same ∙ sym (ap (λ (r : ShareRow). r.id) like))) token
      (sym (ap (λ (r : ShareRow). r.kind) like) ∙ link)
  apart_from _ (is_ended share old asked steered) k d within other token link = of_old share old steered k d within other token link

  pub one_apart : AllPairs AreTokensApart made.shares
  one_apart =
      subst (AllPairs AreTokensApart) (sym is.shares)
      (pairs_put (λ (row : ShareRow). row.id) AreTokensApart (λ a b apart token first second. apart token second first) is.row t.shares
      h.sound.others.shares_rise
      (apart_from is.row is.one) h.tokens_apart)

  pub mounts_ruled : All (IsMountRuled made) t.mounts → All (IsMountRuled made) made.mounts
  mounts_ruled all k d within =
      elim (is.mounts.each k d within) [
        | inl among ↦ All-contains (IsMountRuled made) t.mounts (get_or made.mounts k d) all among
        | inr of ↦ record {
          user = still_given t.meta.next_user made.meta.next_user (get_or made.mounts k d).user up.users
              (user_was t (get_or made.mounts k d).user h of.there);
          node = subst (IsGiven made.meta.next_node) (sym of.node)
              (given made.meta.next_node is.row.node (node_given made.meta is.row own_numbers));
        }
      ]
