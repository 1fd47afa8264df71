-- Which versions there are where a file's content becomes another.
use Rattle.std.proofs.Common.{◌≡◌, ◌<◌, ◌⊎◌, ◌==◌, ◌&&◌, ◌||◌, ℕ, inl, inr, not, Bool, true, false, List, [], ◌∷◌, ◌++◌, ◌∙◌, filter, get_or, length, map, reverse, Option, None, Some, if◌then◌else◌, refl, sym, ap, subst, bytes_eq}
use Rattle.std.specs.List.{All, Contains, list_any}
use Rattle.std.specs.Prelude.{is_none, is_some}
use Rattle.std.proofs.lemmas.Bool.{and_from, and_parts, both_ways, cases_Bool, cases_order, cond_both, eq-eqb, eqb-true, false≢true, or_parts}
use Rattle.std.proofs.lemmas.Cmp.{tied_itself}
use Rattle.std.proofs.lemmas.List.{get_or_default, reverse-reverse}
use Rattle.std.proofs.lemmas.List.Elements.{All-contains, All-contains_itself, All-filter, filter_passes, Contains-append_left, Contains-append_right}
use Rattle.std.proofs.lemmas.List.Folds.{Any-from_list_any, list_any_at, list_any-append}
use Rattle.nf_access.proofs.LookUps.{find_among}
use Rattle.nf_base.specs.declared.changes.Change.{Change}
use Rattle.nf_base.specs.declared.changes.Change.TheVariants.{Put, Drop}
use Rattle.nf_base.specs.declared.changes.RowKey.TheVariants as keys
use Rattle.nf_base.specs.declared.rows.NodeRow.{NodeRow}
use Rattle.nf_base.specs.declared.rows.Row.TheVariants as rows
use Rattle.nf_base.specs.declared.rows.VersionRow.{VersionRow}
use Rattle.nf_defs.proofs.ByName.{Contains-filter, Contains-map}
use Rattle.nf_defs.proofs.Puts.{all_put, key_total, put_rising}
use Rattle.nf_defs.specs.Prelude.{IsRising, key_cmp, made, put, put_all, Tables, version_key, owner_of}
use Rattle.nf_laws.proofs.Turning.{drops_fewer}
use Rattle.nf_laws.specs.Acts.{AreVersionsFewer}
use Rattle.nf_retention.specs.declared.versions.Version.{Version}
use Rattle.nf_words.proofs.Forgetting.{rows_there}
use Rattle.nf_words.specs.Versions.{becomes_version, drop_back, drop_gone, has_already, is_at, is_empty, is_version, put_replaced, stays_version, turned_over, version_for, version_row, with_replaced, thinned_out, held_beside, those_but, those_at, gone_after, beyond_bound, staying, versions_of, held, is_held_by, is_among}
use Rattle.nf_rules.proofs.Dropped.{dropped_not, drops_left}
use Rattle.nf_defs.proofs.Climbs.{holds_some}
use Rattle.nf_words.proofs.Found.{put_is_found}
use Rattle.nf_words.proofs.Bodies.{content_decides}
use Rattle.nf_base.specs.Content.{content_eq}
use Rattle.nf_laws.proofs.Given.{put_contains}
use Rattle.std.proofs.lemmas.List.Sorted.{All-permutation, IsPermutation-reverse}

-- one list of changes behind another
pub puts_append : (t : Tables) (xs ys : List Change) → put_all t (xs ++ ys) ≡ put_all (put_all t xs) ys
puts_append t [] ys = refl
puts_append t (x ∷ xs) ys = puts_append (made t x) xs ys

-- rows of one key are the same
one_row : (rows : List VersionRow) (a b : VersionRow) → IsRising version_key rows → Contains rows a → Contains rows b → version_key a ≡ version_key b → a ≡ b
one_row rows a b rising (i, first, is) (j, second, there) same =
    elim (cases_order i j) [
      | inl e ↦ sym is ∙ ap (λ (k : ℕ). get_or rows k a) e ∙ get_or_default rows j a b second ∙ there
      | inr (inl less) ↦ absurd (apart i j a b first second less (ap version_key is ∙ same ∙ sym (ap version_key there)))
      | inr (inr less) ↦ absurd (apart j i b a second first less (ap version_key there ∙ sym same ∙ sym (ap version_key is)))
    ]
  where
    apart : (i j : ℕ) (d e : VersionRow) → i < length rows → j < length rows → i < j → version_key (get_or rows i d) ≡ version_key (get_or rows j e) → ⊥
    apart i j d e first second less same =
        let equal = tied_itself key_total (version_key (get_or rows j e)) in
        let below = ap (λ (row : VersionRow). key_cmp (version_key (get_or rows i d)) (version_key row)) (get_or_default rows j e d second)
        ∙ rising i j d less second in
        let falls = ap (λ (key : List ℕ). key_cmp key (version_key (get_or rows j e))) (sym same) ∙ below in absurd (cc)

module _ (t v : Tables) (same : v.versions ≡ t.versions) (rising : IsRising version_key t.versions) (back : Option ℕ) (row : NodeRow) (gone : List Version) where
  abbrev becomes : Bool
  becomes = becomes_version t.versions back row

  abbrev stays : Bool
  stays = stays_version t back row gone

  -- what is replaced is put, what comes back is dropped, and then what goes
  abbrev pub first : Tables
  first = put_all v (put_replaced t row stays)

  abbrev pub second : Tables
  second = put_all first (drop_back back row stays)

  abbrev goes : Version → Bool
  goes version = not (becomes && is_version row.id row.changed version)

  abbrev pub last : Tables
  last = put_all second (drop_gone becomes row gone)

  pub in_turn : put_all v (turned_over t back row gone) ≡ last
  in_turn =
      puts_append v (put_replaced t row stays) (drop_back back row stays ++ drop_gone becomes row gone)
      ∙ puts_append first (drop_back back row stays) (drop_gone becomes row gone)

  -- one that was there, or what is replaced
  abbrev pub IsFrom : VersionRow → Type 0
  IsFrom version = Contains t.versions version ⊎ ((version ≡ version_for row) × (stays ≡ true))

  old_from : All IsFrom v.versions
  old_from = subst (All IsFrom) (sym same) (λ k d within. inl (All-contains_itself t.versions k d within))

  first_from : All IsFrom first.versions
  first_from =
      cond_both (stays && not (has_already t.versions row)) (Put (rows.Version (version_for row)) ∷ []) []
      (λ changes. All IsFrom (put_all v changes).versions)
      (λ puts. all_put version_key IsFrom (version_for row) v.versions (inr (refl, (and_parts stays _ puts).0)) old_from) (λ none. old_from)

  second_fewer : AreVersionsFewer first second
  second_fewer = here back
    where
      itself : AreVersionsFewer first first
      itself k d within = All-contains_itself first.versions k d within

      here : (back : Option ℕ) → AreVersionsFewer first (put_all first (drop_back back row stays))
      here None = itself
      here (Some at) =
          cond_both (stays && at == row.changed) [] (Drop (keys.Version row.id at) ∷ []) (λ changes. AreVersionsFewer first (put_all first changes))
          (λ none. itself)
          (λ drops. All-filter (λ (one : VersionRow). not (bytes_eq (row.id ∷ at ∷ []) (version_key one))) (Contains first.versions) first.versions itself)

  last_fewer : AreVersionsFewer first last
  last_fewer = drops_fewer first second (filter goes gone) second_fewer

  pub last_from : All IsFrom last.versions
  last_from k d within = All-contains IsFrom first.versions (get_or last.versions k d) first_from (last_fewer k d within)

  -- none of those that are dropped is left
  last_left : All (λ (one : VersionRow). list_any (is_version one.node one.at) (filter goes gone) ≡ false) last.versions
  last_left = drops_left second (filter goes gone)

  last_second : AreVersionsFewer second last
  last_second = drops_fewer second second (filter goes gone) (λ k d within. All-contains_itself second.versions k d within)

  -- what comes back is dropped, unless what is replaced takes its place
  back_off : (at : ℕ) (one : VersionRow) → back ≡ Some at → (stays && at == row.changed) ≡ false → Contains second.versions one
      → one.node ≡ row.id → one.at ≡ at → ⊥
  back_off at one is drops among node moment =
      let version : Version = record { node = row.id; at = at; size = 0 } in
      let NotIt : VersionRow → Type 0 = λ one. not (bytes_eq (row.id ∷ at ∷ []) (version_key one)) ≡ true in
      let lists : drop_back back row stays ≡ Drop (keys.Version row.id at) ∷ [] =
      ap (λ (back : Option ℕ). drop_back back row stays) is
      ∙ ap (λ (b : Bool). if b then [] else Drop (keys.Version row.id at) ∷ []) drops in
      let all : All NotIt second.versions = subst (λ (changes : List Change). All NotIt (put_all first changes).versions) (sym lists)
      (filter_passes (λ (one : VersionRow). not (bytes_eq (row.id ∷ at ∷ []) (version_key one))) first.versions) in
      let other = dropped_not version one (All-contains NotIt second.versions one all among) in
      both_ways (is_version one.node one.at version) other
      (and_from _ _ (eq-eqb row.id one.node (sym node)) (eq-eqb at one.at (sym moment)))

  -- where a version has the moment of what is replaced, that becomes one only as that one comes back
  pub comes_back : (one : VersionRow) → Contains t.versions one → one.node ≡ row.id → one.at ≡ row.changed → becomes ≡ true → is_at back row.changed ≡ true
  comes_back one among node moment is = here (is_at back row.changed) (and_parts (not (is_empty row.content)) _ is).1
    where
      there : is_some (version_row t.versions row.id row.changed) ≡ true
      there = sym (ap (λ (n : ℕ). is_some (version_row t.versions n row.changed)) node) ∙ sym (ap (λ (n : ℕ). is_some (version_row t.versions one.node n)) moment)
          ∙ All-contains (λ (one : VersionRow). is_some (version_row t.versions one.node one.at) ≡ true) t.versions one (rows_there t.versions) among

      here : (b : Bool) → (b || is_none (version_row t.versions row.id row.changed)) ≡ true → b ≡ true
      here true either = refl
      here false either = absurd (none (version_row t.versions row.id row.changed) there either)
        where
          none : (o : Option VersionRow) → is_some o ≡ true → is_none o ≡ true → ⊥
          none None some is = false≢true some
          none (Some x) some is = both_ways (is_none (Some x)) refl is

  -- none of those that go is left
  pub none_gone : (one : VersionRow) → Contains last.versions one → list_any (is_version one.node one.at) gone ≡ false
  none_gone one among =
      elim (cases_Bool (list_any (is_version one.node one.at) gone)) [
        | inr none ↦ none
        | inl any ↦
            (let at = Any-from_list_any (is_version one.node one.at) gone any in
            absurd (gone_off at.1 (at.0, at.2, at.3) at.4))
      ]
    where
      in_second : Contains second.versions one
      in_second = All-contains (Contains second.versions) last.versions one last_second among

      -- nor is what is replaced, which isn't put then
      itself_off : (g : Version) → Contains gone g → becomes ≡ true → g.node ≡ row.id → g.at ≡ row.changed → one.node ≡ row.id
          → one.at ≡ row.changed → ⊥
      itself_off g its is node_is at_is node at =
          elim (All-contains IsFrom last.versions one last_from among) [
            | inl was ↦ back_here back refl (comes_back one was node at is)
            | inr it ↦ both_ways stays off it.1
          ]
        where
          any : list_any (is_version row.id row.changed) gone ≡ true
          any = list_any_at (is_version row.id row.changed) gone its.0 g its.1
              (ap (is_version row.id row.changed) its.2 ∙ and_from _ _ (eq-eqb g.node row.id node_is) (eq-eqb g.at row.changed at_is))

          off : stays ≡ false
          off = ap (λ (b : Bool). becomes && not b) any ∙ both becomes
            where
              both : (b : Bool) → (b && false) ≡ false
              both true = refl
              both false = refl

          back_here : (o : Option ℕ) → back ≡ o → is_at o row.changed ≡ true → ⊥
          back_here None e it = false≢true it
          back_here (Some b) e it =
              back_off b one e (ap (λ (s : Bool). s && b == row.changed) off) in_second node (at ∙ sym (eqb-true b row.changed it))

      gone_off : (g : Version) → Contains gone g → is_version one.node one.at g ≡ true → ⊥
      gone_off g its is =
          let both = and_parts (g.node == one.node) (g.at == one.at) is in
          let node = eqb-true g.node one.node both.0 in
          let at = eqb-true g.at one.at both.1 in
          elim (cases_Bool (becomes && is_version row.id row.changed g)) [
            | inl own ↦
                (let parts = and_parts becomes (is_version row.id row.changed g) own in
                let key = and_parts (g.node == row.id) (g.at == row.changed) parts.1 in
                let node_is = eqb-true g.node row.id key.0 in
                let at_is = eqb-true g.at row.changed key.1 in
                itself_off g its parts.0 node_is at_is (sym node ∙ node_is) (sym at ∙ at_is))
            | inr other ↦
                (let left = Contains-filter goes gone g its (ap not other) in
                both_ways (list_any (is_version one.node one.at) (filter goes gone))
                (All-contains (λ (one : VersionRow). list_any (is_version one.node one.at) (filter goes gone) ≡ false) last.versions one last_left among)
                (list_any_at (is_version one.node one.at) (filter goes gone) left.0 g left.1 (ap (is_version one.node one.at) left.2 ∙ is)))
          ]

  -- the one that comes back is left only as what is replaced
  pub only_replaced : (one : VersionRow) → Contains last.versions one → one.node ≡ row.id → is_at back one.at ≡ true
      → (one ≡ version_for row) × (stays ≡ true)
  only_replaced one among node at = here back refl at
    where
      in_second : Contains second.versions one
      in_second = All-contains (Contains second.versions) last.versions one last_second among

      in_first : Contains first.versions one
      in_first = All-contains (Contains first.versions) last.versions one last_fewer among

      -- what has its moment is what is replaced
      replaced : stays ≡ true → one.at ≡ row.changed → Contains t.versions one → one ≡ version_for row
      replaced is moment was =
          elim (cases_Bool (has_already t.versions row)) [
            | inl already ↦
                (let x = holds_some (λ (version : VersionRow). content_eq version.content row.content) (version_row t.versions row.id row.changed) already in
                let found = find_among (λ (version : VersionRow). version.node == row.id && version.at == row.changed) t.versions x.0 x.1 in
                let key = and_parts (x.0.node == row.id) (x.0.at == row.changed) found.1 in
                let node_is = eqb-true x.0.node row.id key.0 in
                let at_is = eqb-true x.0.at row.changed key.1 in
                let content = (content_decides x.0.content row.content).0 x.2 in
                one_row t.versions one x.0 rising was found.0
                (ap (λ (n : ℕ). n ∷ one.at ∷ []) (node ∙ sym node_is) ∙ ap (λ (n : ℕ). x.0.node ∷ n ∷ []) (moment ∙ sym at_is))
                ∙ (λ i. record { node = node_is i; at = at_is i; content = content i }))
            | inr none ↦
                (let test : VersionRow → Bool = λ version. version.node == row.id && version.at == row.changed in
                let lists : put_replaced t row stays ≡ Put (rows.Version (version_for row)) ∷ [] =
                ap (λ (b : Bool). if b then Put (rows.Version (version_for row)) ∷ [] else []) (and_from stays _ is (ap not none)) in
                let found = find_among test (put version_key (version_for row) v.versions) (version_for row)
                (put_is_found version_key test (version_for row) v.versions (and_from _ _ (eq-eqb row.id row.id refl) (eq-eqb row.changed row.changed refl))
                (λ x passes.
                let key = and_parts (x.node == row.id) (x.at == row.changed) passes in
                ap (λ (n : ℕ). n ∷ x.at ∷ []) (eqb-true x.node row.id key.0) ∙ ap (λ (n : ℕ). row.id ∷ n ∷ []) (eqb-true x.at row.changed key.1))) in
                one_row (put version_key (version_for row) v.versions) one (version_for row)
                (put_rising version_key (version_for row) v.versions (subst (IsRising version_key) (sym same) rising))
                (subst (λ (changes : List Change). Contains (put_all v changes).versions one) lists in_first) found.0
                (ap (λ (n : ℕ). n ∷ one.at ∷ []) node ∙ ap (λ (n : ℕ). row.id ∷ n ∷ []) moment))
          ]

      here : (o : Option ℕ) → back ≡ o → is_at o one.at ≡ true → (one ≡ version_for row) × (stays ≡ true)
      here None e is = absurd (false≢true is)
      here (Some b) e is =
          let moment = eqb-true b one.at is in
          elim (cases_Bool (stays && b == row.changed)) [
            | inr drops ↦ absurd (back_off b one e drops in_second node (sym moment))
            | inl puts ↦
                (let parts = and_parts stays (b == row.changed) puts in
                elim (All-contains IsFrom last.versions one last_from among) [
                  | inr it ↦ it
                  | inl was ↦ (replaced parts.0 (sym moment ∙ eqb-true b row.changed parts.1) was, parts.0)
                ])
          ]

-- ---- those that the bound sees

contains_reverse : {X : Type 0} (xs : List X) (x : X) → Contains xs x → Contains (reverse xs) x
contains_reverse xs x among =
    All-contains (Contains (reverse xs)) xs x
    (subst (All (Contains (reverse xs))) (reverse-reverse xs)
    (All-permutation (Contains (reverse xs)) (reverse xs) (reverse (reverse xs)) (IsPermutation-reverse (reverse xs)) (All-contains_itself (reverse xs)))) among

module _ (t v : Tables) (same : v.versions ≡ t.versions) (rising : IsRising version_key t.versions) (now : ℕ) (back : Option ℕ) (row : NodeRow)
    (quota charge : ℕ) where
  abbrev pub with_it : List VersionRow
  with_it = with_replaced t.versions back row

  abbrev pub thin : List ℕ
  thin = thinned_out now row with_it

  -- the owner's, but for those that thin out
  abbrev pub seen : List Version
  seen = held_beside t row.owner row.id ++ those_but thin with_it

  abbrev gone : List Version
  gone = gone_after t now back row quota charge

  module _ (one : VersionRow) (among : Contains (last t v same rising back row gone).versions one) where
    -- none is left that thins out or is beyond the bound
    none_of : (list_any (is_version one.node one.at) (those_at thin with_it) ≡ false)
        × (list_any (is_version one.node one.at) (beyond_bound quota charge seen) ≡ false)
    none_of =
        or_parts _ _
        (sym (list_any-append (is_version one.node one.at) (those_at thin with_it) (beyond_bound quota charge seen))
        ∙ none_gone t v same rising back row gone one among)

    pub none_beyond : list_any (is_version one.node one.at) (beyond_bound quota charge seen) ≡ false
    none_beyond = none_of.1

    -- what is replaced is among those of its file
    replaced_in : stays_version t back row gone ≡ true → Contains with_it (version_for row)
    replaced_in is =
        let becomes_is = (and_parts (becomes_version t.versions back row) _ is).0 in
        let others = staying t.versions back row.id in
        let test : VersionRow → Bool = λ version. version.node == row.id && version.at == row.changed in
        let found = find_among test (put version_key (version_for row) others) (version_for row)
        (put_is_found version_key test (version_for row) others (and_from _ _ (eq-eqb row.id row.id refl) (eq-eqb row.changed row.changed refl))
        (λ x passes.
        let key = and_parts (x.node == row.id) (x.at == row.changed) passes in
        ap (λ (n : ℕ). n ∷ x.at ∷ []) (eqb-true x.node row.id key.0) ∙ ap (λ (n : ℕ). row.id ∷ n ∷ []) (eqb-true x.at row.changed key.1))) in
        subst (λ (b : Bool). Contains (if b then put version_key (version_for row) others else others) (version_for row)) (sym becomes_is) found.0

    -- and so is each of its file's
    own_in : one.node ≡ row.id → Contains with_it one
    own_in node =
        elim (cases_Bool (is_at back one.at)) [
          | inl at ↦
              (let it = only_replaced t v same rising back row gone one among node at in
              subst (Contains with_it) (sym it.0) (replaced_in it.1))
          | inr off ↦
              elim last_at [
                | inr it ↦ subst (Contains with_it) (sym it.0) (replaced_in it.1)
                | inl was ↦ old_in node off was
              ]
        ]
      where
        last_at : IsFrom t v same rising back row gone one
        last_at = All-contains (IsFrom t v same rising back row gone) (last t v same rising back row gone).versions one
            (last_from t v same rising back row gone) among

        old_in : one.node ≡ row.id → is_at back one.at ≡ false → Contains t.versions one → Contains with_it one
        old_in node off was =
            let others = staying t.versions back row.id in
            let stays_in : Contains others one = Contains-filter (λ (row : VersionRow). not (is_at back row.at)) (versions_of t.versions row.id) one
            (Contains-filter (λ (other : VersionRow). other.node == row.id) t.versions one was (eq-eqb one.node row.id node)) (ap not off) in
            cond_both (becomes_version t.versions back row) (put version_key (version_for row) others) others
            (λ (rows : List VersionRow). Contains rows one)
            (λ is. put_contains version_key (version_for row) one others (λ key.
            let moment : row.changed ≡ one.at = moment_of key in
            both_ways (is_at back one.at) off
            (sym (ap (is_at back) moment) ∙ comes_back t v same rising back row gone one was node (sym moment) is)) stays_in)
            (λ not. stays_in)
          where
            moment_of : version_key (version_for row) ≡ version_key one → row.changed ≡ one.at
            moment_of key = cc

    pub in_seen : owner_of t.nodes one.node ≡ row.owner → Contains seen (held one)
    in_seen owner =
        elim (cases_Bool (one.node == row.id)) [
          | inl own ↦
              (let its = contains_reverse (map held with_it) (held one) (Contains-map held with_it one (own_in (eqb-true one.node row.id own))) in
              let thick : is_among thin one.at ≡ false =
              elim (cases_Bool (is_among thin one.at)) [
                | inr not ↦ not
                | inl thins ↦
                    (let at = Contains-filter (λ (version : Version). is_among thin version.at) (reverse (map held with_it)) (held one) its thins in
                    absurd (both_ways (list_any (is_version one.node one.at) (those_at thin with_it)) none_of.0
                    (list_any_at (is_version one.node one.at) (those_at thin with_it) at.0 (held one) at.1
                    (ap (is_version one.node one.at) at.2 ∙ and_from _ _ (eq-eqb one.node one.node refl) (eq-eqb one.at one.at refl)))))
              ] in
              Contains-append_right (held_beside t row.owner row.id) (those_but thin with_it) (held one)
              (Contains-filter (λ (version : Version). not (is_among thin version.at)) (reverse (map held with_it)) (held one) its (ap not thick)))
          | inr other ↦
              elim (All-contains (IsFrom t v same rising back row gone) (last t v same rising back row gone).versions one
              (last_from t v same rising back row gone) among) [
                | inr it ↦ absurd (both_ways (one.node == row.id) other (eq-eqb one.node row.id (ap (λ (one : VersionRow). one.node) it.0)))
                | inl was ↦
                    Contains-append_left (held_beside t row.owner row.id) (those_but thin with_it) (held one)
                    (Contains-map held _ one
                    (Contains-filter (is_held_by t.nodes row.owner) (filter (λ (row_of : VersionRow). not (row_of.node == row.id)) t.versions) one
                    (Contains-filter (λ (row_of : VersionRow). not (row_of.node == row.id)) t.versions one was (ap not other))
                    (eq-eqb (owner_of t.nodes one.node) row.owner owner)))
              ]
        ]
