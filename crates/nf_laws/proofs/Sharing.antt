-- The tables with a new share, or with another row of one, are sound.
use Rattle.std.proofs.Common.{◌≡◌, ℕ, ◌-◌, ◌==◌, ◌<◌, ◌≤◌, inl, inr, List, ◌∷◌, Option, None, Some, length, true, le_refl, refl, sym, ap, subst, ◌∙◌, arith, unwrap_or, []}
use Rattle.std.specs.Prelude.{is_some, unwrap_or}
use Rattle.std.specs.Option.{IfSome}
use Rattle.std.proofs.lemmas.Bool.{cases_Bool, eq-eqb, eqb-true, both_ways}
use Rattle.std.proofs.lemmas.List.Elements.{All-weaker}
use Rattle.std.proofs.lemmas.Option.{same_Some}
use Rattle.nf_access.proofs.Chains.{chain_found, found_chain, within_is}
use Rattle.nf_access.specs.Shares.{chain_of, chain_up, chain_within, share_row}
use Rattle.nf_base.specs.declared.limits.TheConstants.{MAX_CHAIN, MAX_SHARES}
use Rattle.nf_base.specs.declared.rows.NodeRow.{NodeRow}
use Rattle.nf_base.specs.declared.rows.ShareRow.{ShareRow}
use Rattle.nf_defs.proofs.Puts.{all_put, put_length, put_rising}
use Rattle.nf_defs.specs.Prelude.{node_row, put, share_key, Tables, user_row}
use Rattle.nf_laws.proofs.Chained.{AreLinked, still_chained, under_some}
use Rattle.nf_laws.proofs.Climbs.{some_there}
use Rattle.nf_laws.proofs.Mounted.{beside, beside_sound, items_beside, mount_beside, share_beside}
use Rattle.nf_laws.proofs.Files.{all_files, versions_still}
use Rattle.nf_laws.proofs.Others.{kind_still, others_from}
use Rattle.nf_laws.proofs.Puts.{other_number}
use Rattle.nf_words.proofs.Found.{put_length_over}
use Rattle.nf_laws.proofs.Rows.{found_is, row_is}
use Rattle.nf_laws.proofs.Uploads.{uploads_kept}
use Rattle.nf_laws.proofs.Upwards.{owners_there}
use Rattle.nf_words.proofs.Asks.{share_found}
use Rattle.nf_words.specs.Others.{IsMountSound, IsOfNode, IsShareSound}
use Rattle.nf_words.specs.Prelude.{AreSound, IsNewShare, IsOtherShare, StandsOn}

module _ (t : Tables) (row : ShareRow) where
  abbrev others : List ShareRow
  others = put share_key row t.shares

  abbrev made : Tables
  made = beside t others t.mounts

  -- the shares are linked as before, where the row is linked as that of its number was
  linked_with : ((old : ShareRow) → share_row t.shares row.id ≡ Some old
      → (row.parent ≡ old.parent) × (row.initiator ≡ old.initiator) × (row.owner ≡ old.owner)) → AreLinked t.shares others
  linked_with so id old there =
      elim (cases_Bool (id == row.id)) [
        | inl e ↦
            (let is = so old (subst (λ (n : ℕ). share_row t.shares n ≡ Some old) (eqb-true id row.id e) there) in
            record {
              row = row;
              there = ap (share_row others) (eqb-true id row.id e) ∙ share_found row t.shares;
              parent = is.0;
              initiator = is.1;
              owner = is.2;
            })
        | inr e ↦ record {
          row = old;
          there = other_number (λ (r : ShareRow). r.id) row t.shares id (λ same. both_ways (id == row.id) e (eq-eqb id row.id same)) ∙ there;
          parent = refl;
          initiator = refl;
          owner = refl;
        }
      ]

  -- so all are sound with it
  with_sound : AreSound t → AreLinked t.shares others → IsShareSound made row → length others ≤ MAX_SHARES → AreSound made
  with_sound sound linked fine few =
      beside_sound t others t.mounts sound
      (others_from made (uploads_kept t made refl refl refl refl sound)
      (all_put share_key (IsShareSound made) row t.shares fine
      (All-weaker (IsShareSound t) (IsShareSound made)
      (λ share is. share_beside t others t.mounts share (still_chained MAX_CHAIN t.shares others share.id linked is.chained) is) t.shares
      sound.others.shares))
      (put_rising share_key row t.shares sound.others.shares_rise) few
      (All-weaker (IsMountSound t) (IsMountSound made) (mount_beside t others t.mounts) t.mounts sound.others.mounts)
      sound.others.mounts_rise sound.others.mounts_apart sound.others.few_mounts
      (versions_still t made t.versions (le_refl _) (le_refl _) sound.others.versions (all_files t sound)) sound.others.versions_rise sound.others.few_versions (items_beside t others t.mounts sound.others.items)
      sound.others.items_rise)

  -- ---- a new share

  module _ (sound : AreSound t) (is : IsNewShare t row) where
    -- a share that was there has a lower number
    lower : (id : ℕ) (old : ShareRow) → share_row t.shares id ≡ Some old → id < row.id
    lower id old there =
        let h = found_is (λ (other : ShareRow). other.id < row.id) (λ (other : ShareRow). other.id == id) t.shares old is.newest there in
        subst (λ (n : ℕ). n < row.id) (eqb-true old.id id h.0) h.1

    linked : AreLinked t.shares others
    linked = linked_with (λ old there. absurd (omega (arith, lower row.id old there)))

    -- what it stands on has a chain with room for it
    above_some : (parent : ℕ) → is_some (share_row t.shares parent) ≡ true → length (chain_of t.shares parent) < MAX_CHAIN
        → is_some (chain_within (MAX_CHAIN - 1) others parent) ≡ true
    unfolding chain_of
    above_some parent there short =
        let old = some_there (share_row t.shares parent) there in
        let h = found_is (IsShareSound t) (λ (other : ShareRow). other.id == parent) t.shares old.0 sound.others.shares old.1 in
        let chained = subst (λ (n : ℕ). is_some (chain_within MAX_CHAIN t.shares n) ≡ true) (eqb-true old.0.id parent h.0) h.1.chained in
        let chain = some_there (chain_within MAX_CHAIN t.shares parent) chained in
        let of = found_chain MAX_CHAIN t.shares parent chain.0 chain.1 in
        let few : length (of.0 ∷ of.1) < MAX_CHAIN =
        subst (λ (c : List ShareRow). length c < MAX_CHAIN) (ap (λ (o : Option (List ShareRow)). unwrap_or o []) chain.1 ∙ of.2) short in
        let found = chain_found (MAX_CHAIN - 1) t.shares of.0 of.1 of.4 (omega (arith, few)) in
        still_chained (MAX_CHAIN - 1) t.shares others parent linked
        (subst (λ (n : ℕ). is_some (chain_within (MAX_CHAIN - 1) t.shares n) ≡ true) of.3 (ap is_some found))

    up_some : (o : Option ℕ) → StandsOn t row o → is_some (chain_up row o (chain_within (MAX_CHAIN - 1) others)) ≡ true
    up_some None on = rw (eq-eqb row.initiator row.owner on) refl
    up_some (Some parent) on = under_some row (chain_within (MAX_CHAIN - 1) others parent) ∙ above_some parent on.0 on.1

    parent_lower : (o : Option ℕ) → StandsOn t row o → IfSome o (λ (id : ℕ). id < row.id)
    parent_lower None on = tt
    parent_lower (Some parent) on = let old = some_there (share_row t.shares parent) on.0 in lower parent old.0 old.1

    pub new_share_sound : 1 ≤ row.id → AreSound (record t { shares = others })
    new_share_sound some =
        let owner = (found_is (λ (node : NodeRow). is_some (user_row t.users node.owner) ≡ true) (λ (node : NodeRow). node.id == row.node) t.nodes
        is.node (owners_there t sound) is.there).1 in
        with_sound sound linked
        (record {
          some = some;
          given = is.given;
          made = is.made;
          node = let node = row_is t row.node is.node sound is.there in omega (arith, node.0, node.1.given);
          owner = ap (λ (user : ℕ). is_some (user_row t.users user)) (sym is.of_node.owner) ∙ owner;
          initiator = is.initiator;
          kind = kind_still t made refl refl row.kind is.kind;
          chained = ap is_some (within_is MAX_CHAIN (MAX_CHAIN - 1) others row row.id refl (share_found row t.shares)) ∙ up_some row.parent is.on;
          parent = parent_lower row.parent is.on;
          present = λ live. is.present;
          of_node = λ of there. subst (IsOfNode row) (same_Some is.node of (sym is.there ∙ there)) is.of_node;
        })
        (omega (arith, put_length share_key row t.shares, is.few))

  -- ---- another row of a share

  pub other_share_sound : AreSound t → IsOtherShare t row → AreSound (record t { shares = others })
  other_share_sound sound is =
      let old = (found_is (IsShareSound t) (λ (other : ShareRow). other.id == row.id) t.shares is.old sound.others.shares is.there).1 in
      let linked : AreLinked t.shares others = linked_with (λ old there.
      let same = is.same ∙ ap (λ (r : ShareRow). record r { perms = row.perms; until = row.until; ended = row.ended }) (same_Some is.old old (sym is.there ∙ there)) in
      (ap (λ (r : ShareRow). r.parent) same, ap (λ (r : ShareRow). r.initiator) same, ap (λ (r : ShareRow). r.owner) same)) in
      let node : row.node ≡ is.old.node = ap (λ (r : ShareRow). r.node) is.same in
      with_sound sound linked
      (subst (IsShareSound made) (sym is.same)
      (record {
        some = old.some;
        given = old.given;
        made = old.made;
        node = old.node;
        owner = old.owner;
        initiator = old.initiator;
        kind = kind_still t made refl refl is.old.kind old.kind;
        chained = still_chained MAX_CHAIN t.shares others is.old.id linked old.chained;
        parent = old.parent;
        present = λ live. old.present is.lasts;
        of_node = λ of there.
            subst (λ (r : ShareRow). IsOfNode r of) is.same (is.of_node of (ap (node_row t.nodes) node ∙ there));
      }))
      (omega (
        arith,
        sound.others.few_shares,
        put_length_over share_key (λ (other : ShareRow). other.id == row.id) row is.old t.shares
            (λ other same. ap (λ (n : ℕ). n ∷ []) (eqb-true other.id row.id same)) sound.others.shares_rise is.there,
      ))
