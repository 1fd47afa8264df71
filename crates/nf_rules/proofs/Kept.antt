-- Tables of which nodes, shares, mounts, items and uploads are others keep the rules, where these do.
use Rattle.std.proofs.Common.{◌≡◌, ◌⊎◌, inl, inr, Bool, true, false, ◌<◌, if◌then◌else◌, List, map, length, get_or, refl, sym, ap, ◌∙◌, subst, arith}
use Rattle.std.specs.List.{All, AllPairs}
use Rattle.std.proofs.lemmas.List.{get_or-map, length-map}
use Rattle.std.proofs.lemmas.List.Elements.{All-map, All-weaker}
use Rattle.nf_access.proofs.Kept.{share_row_each}
use Rattle.nf_base.specs.declared.rows.GroupRow.{GroupRow}
use Rattle.nf_base.specs.declared.rows.MemberRow.{MemberRow}
use Rattle.nf_base.specs.declared.rows.ShareRow.{ShareRow}
use Rattle.nf_base.specs.declared.rows.TokenRow.{TokenRow}
use Rattle.nf_base.specs.declared.rows.UserRow.{UserRow}
use Rattle.nf_defs.proofs.Loads.{rises}
use Rattle.nf_defs.specs.Prelude.{Tables}
use Rattle.nf_laws.proofs.Upwards.{owners_there}
use Rattle.nf_laws.specs.Numbers.{AreHigher}
use Rattle.nf_words.specs.Prelude.{AreSound, ended_row}
use Rattle.nf_rules.specs.Ruled.{AreOrdered, AreTokensApart, IsGroupRuled, IsItemRuled, IsMemberRuled, IsMountRuled, IsShareRuled, IsTokenRuled, IsUserRuled}
use Rattle.nf_rules.specs.Rules.{are_share_numbers}
use Rattle.nf_rules.proofs.After.{share_ruled, still_given}
use Rattle.nf_rules.proofs.Rising.{nodes_rise}

-- ---- shares

-- each share is as it was, or ended
abbrev pub EndsSome : (ShareRow → ShareRow) → Type 0
EndsSome put = (share : ShareRow) → (put share ≡ share) ⊎ (put share ≡ ended_row share)

-- as where a test says whether it ends, or whether it stays
pub ends_if : (goes : Bool) (share : ShareRow)
    → ((if goes then ended_row share else share) ≡ share) ⊎ ((if goes then ended_row share else share) ≡ ended_row share)
ends_if true share = inr refl
ends_if false share = inl refl

pub ends_unless : (stays : Bool) (share : ShareRow)
    → ((if stays then share else ended_row share) ≡ share) ⊎ ((if stays then share else ended_row share) ≡ ended_row share)
ends_unless true share = inl refl
ends_unless false share = inr refl

-- what the tables keep, of shares that end, is kept
module _ (t made : Tables) (put : ShareRow → ShareRow) (ends : EndsSome put) (h : AreOrdered t) (sound : AreSound made)
    (up : AreHigher t.meta made.meta) (same_shares : made.shares ≡ map put t.shares) where
  same_of : {X : Type 0} (of : ShareRow → X) → ((share : ShareRow) → of (ended_row share) ≡ of share) → (share : ShareRow) → of (put share) ≡ of share
  same_of of same share =
      elim (ends share) [
        | inl as_was ↦ ap of as_was
        | inr ended ↦ ap of ended ∙ same share
      ]

  pub shares_ruled : All (IsShareRuled made) made.shares
  shares_ruled k d within =
      let row : ShareRow = get_or made.shares k d in
      share_ruled t.meta made row sound up
      (subst (All (λ (row : ShareRow). are_share_numbers t.meta row ≡ true)) (sym same_shares)
      (All-map (λ (row : ShareRow). are_share_numbers t.meta row ≡ true) put t.shares
      (λ k d within. same_of (are_share_numbers t.meta) (λ s. refl) (get_or t.shares k d) ∙ (h.shares k d within).numbers)) k d within)
      (sound.others.shares k d within) (share_row_each made.shares sound.others.shares_rise k d within)

  pub apart : AllPairs AreTokensApart made.shares
  apart =
      subst (AllPairs AreTokensApart) (sym same_shares)
      (λ i j d before within.
      let few : j < length t.shares = omega (arith, length-map t.shares put) in
      let a = get_or-map put t.shares i d d (omega (arith, before, few)) in
      let b = get_or-map put t.shares j d d few in
      λ token first second.
      h.tokens_apart i j d before few token
      (sym (ap (λ (row : ShareRow). row.kind) a ∙ same_of (λ row. row.kind) (λ s. refl) (get_or t.shares i d)) ∙ first)
      (sym (ap (λ (row : ShareRow). row.kind) b ∙ same_of (λ row. row.kind) (λ s. refl) (get_or t.shares j d)) ∙ second))

-- ---- mounts

-- those that were there keep the rules
pub still_mounted : (t made : Tables) → AreOrdered t → AreHigher t.meta made.meta → All (IsMountRuled made) t.mounts
still_mounted t made h up =
    All-weaker (IsMountRuled t) (IsMountRuled made)
    (λ row own. record {
      user = still_given t.meta.next_user made.meta.next_user row.user up.users own.user;
      node = still_given t.meta.next_node made.meta.next_node row.node up.nodes own.node;
    }) t.mounts h.mounts

-- ---- the tables with other versions, uploads and chunks

abbrev pub filed : Tables → Tables → Tables
filed t other = record t { versions = other.versions; uploads = other.uploads; chunks = other.chunks }

-- ---- the tables with other nodes, shares, mounts, versions, items, uploads and chunks

abbrev pub with_others : Tables → Tables → Tables
with_others t made = record t {
  meta = made.meta;
  nodes = made.nodes;
  shares = made.shares;
  mounts = made.mounts;
  versions = made.versions;
  items = made.items;
  uploads = made.uploads;
  chunks = made.chunks;
}

-- as tables are whose people are the same
pub as_others : (t made : Tables) → made.users ≡ t.users → made.tokens ≡ t.tokens → made.groups ≡ t.groups → made.members ≡ t.members
    → made ≡ with_others t made
as_others t made users tokens groups members =
    ap (λ (some : List UserRow). record made { users = some }) users
    ∙ ap (λ (some : List TokenRow). record made { users = t.users; tokens = some }) tokens
    ∙ ap (λ (some : List GroupRow). record made { users = t.users; tokens = t.tokens; groups = some }) groups
    ∙ ap (λ (some : List MemberRow). record made { users = t.users; tokens = t.tokens; groups = t.groups; members = some }) members

-- where these keep the rules of their kinds
pub others_ruled : (t other : Tables) → let made = with_others t other in AreOrdered t → AreSound made → AreHigher t.meta made.meta
    → All (IsShareRuled made) made.shares → AllPairs AreTokensApart made.shares → All (IsMountRuled made) made.mounts
    → All (IsItemRuled made) made.items → AreOrdered made
others_ruled t other h sound up shares apart mounts items =
    let made : Tables = with_others t other in
    record {
      sound = sound;
      rising = rises made h.rising.users h.rising.tokens h.rising.groups h.rising.members (nodes_rise made.nodes sound.rising)
          sound.others.shares_rise sound.others.mounts_rise sound.others.versions_rise sound.others.items_rise sound.others.uploads_rise
          sound.others.chunks_rise;
      owners = owners_there made sound;
      users = All-weaker (IsUserRuled t) (IsUserRuled made)
          (λ row own. record {
            id = still_given t.meta.next_user made.meta.next_user row.id up.users own.id;
            root = still_given t.meta.next_node made.meta.next_node row.root up.nodes own.root;
            quota = own.quota;
          }) t.users h.users;
      tokens = All-weaker (IsTokenRuled t) (IsTokenRuled made)
          (λ row own. record { given = still_given t.meta.next_user made.meta.next_user row.user up.users own.given; user = own.user })
          t.tokens h.tokens;
      groups = All-weaker (IsGroupRuled t) (IsGroupRuled made)
          (λ row own. record { id = still_given t.meta.next_group made.meta.next_group row.id up.groups own.id }) t.groups h.groups;
      members = All-weaker (IsMemberRuled t) (IsMemberRuled made)
          (λ row own. record {
            given_group = still_given t.meta.next_group made.meta.next_group row.group up.groups own.given_group;
            given_user = still_given t.meta.next_user made.meta.next_user row.user up.users own.given_user;
            group = own.group;
            user = own.user;
          }) t.members h.members;
      shares = shares;
      mounts = mounts;
      items = items;
      user_names = h.user_names;
      group_names = h.group_names;
      tokens_apart = apart;
      few_users = h.few_users;
      few_groups = h.few_groups;
      few_tokens = h.few_tokens;
      few_members = h.few_members;
    }

-- as where shares end, no mount is another, and the items keep theirs
pub ended_ruled : (t other : Tables) (put : ShareRow → ShareRow) → let made = with_others t other in EndsSome put → AreOrdered t → AreSound made
    → AreHigher t.meta made.meta → made.shares ≡ map put t.shares → made.mounts ≡ t.mounts → All (IsItemRuled made) made.items → AreOrdered made
ended_ruled t other put ends h sound up shares mounts items =
    let made : Tables = with_others t other in
    others_ruled t other h sound up (shares_ruled t made put ends h sound up shares) (apart t made put ends h sound up shares)
    (subst (All (IsMountRuled made)) (sym mounts) (still_mounted t made h up)) items
