-- What is known of another content of a file: its row, and what becomes of versions.
use Rattle.std.proofs.Common.{◌≡◌, ◌≢◌, ◌⊎◌, ℕ, ◌+◌, ◌<◌, ◌≤◌, ◌==◌, ◌&&◌, inl, inr, not, Bool, true, false, List, [], ◌∷◌, ◌++◌, ◌∙◌, filter, get_or, length, max, Option, if◌then◌else◌, refl, sym, ap, subst, arith, le_refl}
use Rattle.std.specs.Prelude.{None, Some, is_some}
use Rattle.std.specs.List.{All, AllPairs}
use Rattle.std.specs.Option.{IfSome, option_map_or}
use Rattle.std.specs.declared.cmp.Ordering.{Ordering}
use Rattle.std.specs.declared.cmp.Ordering.TheVariants.{Equal, Greater, Less}
use Rattle.std.proofs.lemmas.Bool.{and_from, and_parts, both_ways, cond_both, eq-eqb, eqb-true, not-true}
use Rattle.std.proofs.lemmas.Cmp.{tied_itself}
use Rattle.std.proofs.lemmas.List.Elements.{All-append, All-cons, All-filter, All-map, All-nil, All-weaker, filter_passes}
use Rattle.std.proofs.lemmas.List.Kept.{AllPairs-cons, AllPairs-filter}
use Rattle.std.proofs.lemmas.List.Sums.{sum_by-cons}
use Rattle.std.proofs.lemmas.Option.{none-some, same_Some}
use Rattle.nf_base.specs.Content.{content_eq}
use Rattle.nf_base.specs.declared.changes.Change.{Change}
use Rattle.nf_base.specs.declared.changes.Change.TheVariants.{Drop, Put}
use Rattle.nf_base.specs.declared.changes.RowKey.TheVariants as keys
use Rattle.nf_base.specs.declared.content.Piece.{Piece}
use Rattle.nf_base.specs.declared.limits.TheConstants.{MAX_STORED_PIECES, MAX_VERSIONS}
use Rattle.nf_base.specs.declared.rows.MetaRow.{MetaRow}
use Rattle.nf_base.specs.declared.rows.NodeRow.{NodeRow}
use Rattle.nf_base.specs.declared.rows.Row.TheVariants as rows
use Rattle.nf_base.specs.declared.rows.VersionRow.{VersionRow}
use Rattle.nf_defs.proofs.Puts.{below_one, key_total, same_one}
use Rattle.nf_defs.specs.Prelude.{by_order, filled, is_folder_kind, key_cmp, made, node_key, node_row, piece_count, put, Tables, version_key}
use Rattle.nf_retention.specs.declared.versions.Version.{Version}
use Rattle.nf_words.proofs.Asks.{nothing_known}
use Rattle.nf_words.proofs.Bodies.{IsOfBody, body_sound, content_decides, IsNext, body_next, next_le, none_next, pieces_still, refills_none}
use Rattle.nf_words.proofs.Fits.{AreApart, Differs, drops, drops_count, drops_lean, drops_rows, IsAgain, KnownChange, KnownRows, KnownVersion, lean_more, node_apart, one_more, put_differs, put_found, upload_sound, Within}
use Rattle.nf_words.proofs.Forgetting.{AreTwo, gone_may, gone_two, heads, IsVersion, tails}
use Rattle.nf_words.proofs.Found.{found_has, found_passes, put_is_found}
use Rattle.nf_words.specs.Changes.{Charged, charged, is_same, refilled, refills, turns_over}
use Rattle.nf_words.specs.Prelude.{AreSound, blob_after, counted, IsLean, IsNodeSound, IsPieceSound, last_number, LeadsToRoot, raised, stored_pieces, versions_added}
use Rattle.nf_words.specs.Others.{IsVersionSound}
use Rattle.nf_words.specs.Versions.{becomes_version, content_size, drop_back, drop_gone, drop_version, gone_after, has_already, is_at, is_empty, is_version, put_replaced, stays_version, version_for, version_row}

-- ---- how many pieces there are then

pub refilled_pieces : (nodes : List NodeRow) (old new : NodeRow) → AllPairs (λ (a b : NodeRow). a.id < b.id) nodes → node_row nodes old.id ≡ Some old
    → new.id ≡ old.id → piece_count (put node_key new nodes) + length old.content ≡ piece_count nodes + length new.content
refilled_pieces [] old new rising there same = absurd (none-some old there)
refilled_pieces (x ∷ xs) old new rising there same =
    here (key_cmp (new.id ∷ []) (x.id ∷ [])) refl (x.id == old.id) refl there
    (λ found. refilled_pieces xs old new (tails (λ (a b : NodeRow). a.id < b.id) x xs rising) found same)
  where
    pieces : NodeRow → ℕ
    pieces row = length row.content

    later : node_row xs old.id ≡ Some old → x.id < old.id
    later found =
        subst (λ (o : Option NodeRow). IfSome o (λ (row : NodeRow). x.id < row.id)) found
        (found_has (λ (row : NodeRow). x.id < row.id) (λ (row : NodeRow). row.id == old.id) xs (heads (λ (a b : NodeRow). a.id < b.id) x xs rising))

    itself : key_cmp (new.id ∷ []) (x.id ∷ []) ≡ Equal → x.id ≡ old.id
    itself e = sym (same_one new.id x.id e) ∙ same

    apart : x.id ≡ old.id → key_cmp (new.id ∷ []) (x.id ∷ []) ≡ Equal
    apart is = ap (λ (n : ℕ). key_cmp (n ∷ []) (x.id ∷ [])) (same ∙ sym is) ∙ tied_itself key_total (x.id ∷ [])

    here : (o : Ordering) → key_cmp (new.id ∷ []) (x.id ∷ []) ≡ o → (b : Bool) → (x.id == old.id) ≡ b
        → (if b then Some x else node_row xs old.id) ≡ Some old
        → (node_row xs old.id ≡ Some old → piece_count (put node_key new xs) + length old.content ≡ piece_count xs + length new.content)
        → piece_count (by_order o (new ∷ x ∷ xs) (new ∷ xs) (x ∷ put node_key new xs)) + length old.content ≡ piece_count (x ∷ xs) + length new.content
    here Equal e true is found more =
        omega (arith, sum_by-cons pieces new xs, sum_by-cons pieces x xs, ap pieces (same_Some x old found))
    here Equal e false is found more = absurd (both_ways (x.id == old.id) is (eq-eqb x.id old.id (itself e)))
    here Greater e true is found more = let equal = apart (eqb-true x.id old.id is) in absurd (cc)
    here Greater e false is found more =
        omega (arith, sum_by-cons pieces x (put node_key new xs), sum_by-cons pieces x xs, more found)
    here Less e true is found more = let equal = apart (eqb-true x.id old.id is) in absurd (cc)
    here Less e false is found more = absurd (omega (arith, later found, below_one new.id x.id e, same))

-- what becomes a version is one more
pub added_one : (t : Tables) (node : ℕ) (back : Option ℕ) (row : NodeRow) → node_row t.nodes node ≡ Some row → becomes_version t.versions back row ≡ true
    → versions_added t node back ≡ 1
added_one t node back row there becomes = ap added there ∙ ap count becomes
  where
    count : Bool → ℕ
    count b = if b then 1 else 0

    added : Option NodeRow → ℕ
    added o = option_map_or (λ one. count (becomes_version t.versions back one)) o 0

module _ (t : Tables) (now : ℕ) (back : Option ℕ) (content : List Piece) (row : NodeRow) (sound : AreSound t)
    (there : node_row t.nodes row.id ≡ Some row) (file : is_folder_kind row.kind ≡ false) (present : LeadsToRoot t.nodes row.id)
    (coming : IfSome back (λ (at : ℕ). is_some (version_row t.versions row.id at) ≡ true)) where
  abbrev to : Charged
  to = charged t row.owner (content_size row.content) (content_size content)

  abbrev gone : List Version
  gone = gone_after t now back row to.quota to.charge

  abbrev becomes : Bool
  becomes = becomes_version t.versions back row

  abbrev stays : Bool
  stays = stays_version t back row gone

  abbrev its : VersionRow
  its = version_for row

  -- ---- the versions that are dropped

  -- the one that comes back, and those that go but for what is replaced
  abbrev coming_back : Option ℕ → Bool → List Version
  coming_back None b = []
  coming_back (Some at) b = if b && at == row.changed then [] else record { node = row.id; at = at; size = 0 } ∷ []

  abbrev is_other : Version → Bool
  is_other version = not (becomes && is_version row.id row.changed version)

  abbrev rest : List Version
  rest = filter is_other gone

  abbrev dropped_all : List Version
  dropped_all = coming_back back stays ++ rest

  drops_are : (o : Option ℕ) (b : Bool) → drop_back o row b ++ drop_gone becomes row gone ≡ drops (coming_back o b ++ rest)
  drops_are None b = refl
  drops_are (Some at) b = here (b && at == row.changed)
    where
      here : (c : Bool) → (if c then [] else Drop (keys.Version row.id at) ∷ []) ++ drops rest
          ≡ drops ((if c then [] else record { node = row.id; at = at; size = 0 } ∷ []) ++ rest)
      here true = refl
      here false = refl

  -- not of the moment of what is replaced
  abbrev IsOff : Version → Type 0
  IsOff version = version.node ≡ row.id → version.at ≢ row.changed

  its_test : (version : Version) → version.node ≡ row.id → version.at ≡ row.changed → is_version row.id row.changed version ≡ true
  its_test version node at =
      and_from (version.node == row.id) (version.at == row.changed) (eq-eqb version.node row.id node) (eq-eqb version.at row.changed at)

  rest_off : becomes ≡ true → All IsOff rest
  rest_off is k d within node at =
      let version = get_or rest k d in
      both_ways (becomes && is_version row.id row.changed version) (not-true _ (filter_passes is_other gone k d within))
      (and_from becomes (is_version row.id row.changed version) is (its_test version node at))

  abbrev Stands : Version → Type 0
  Stands version = IsVersion t version × (version.node ≡ row.id → is_at back version.at ≡ false)

  rest_stand : All Stands rest
  rest_stand k d within =
      elim (All-filter is_other (λ (version : Version). ((becomes ≡ true) × (version.node ≡ row.id) × (version.at ≡ row.changed)) ⊎ Stands version) gone
      (gone_may t now back row sound.others.versions_rise to.quota to.charge) k d within) [
        | inl its ↦ absurd (rest_off its.0 k d within its.1 its.2)
        | inr is ↦ is
      ]

  back_there : (o : Option ℕ) (b : Bool) → IfSome o (λ (at : ℕ). is_some (version_row t.versions row.id at) ≡ true) → All (IsVersion t) (coming_back o b)
  back_there None b is = All-nil (IsVersion t)
  back_there (Some at) b is =
      let one : Version = record { node = row.id; at = at; size = 0 } in
      cond_both (b && at == row.changed) [] (one ∷ []) (All (IsVersion t)) (λ e. All-nil (IsVersion t))
      (λ e. All-cons (IsVersion t) one [] is (All-nil (IsVersion t)))

  dropped_there : All (IsVersion t) dropped_all
  dropped_there =
      All-append (IsVersion t) (coming_back back stays) rest (back_there back stays coming)
      (All-weaker Stands (IsVersion t) (λ version is. is.0) rest rest_stand)

  rest_two : AllPairs AreTwo rest
  rest_two = AllPairs-filter AreTwo is_other gone (gone_two t now back row sound.others.versions_rise to.quota to.charge)

  two_with : (o : Option ℕ) (b : Bool) → back ≡ o → AllPairs AreTwo (coming_back o b ++ rest)
  two_with None b e = rest_two
  two_with (Some at) b e =
      let one : Version = record { node = row.id; at = at; size = 0 } in
      cond_both (b && at == row.changed) [] (one ∷ []) (λ (front : List Version). AllPairs AreTwo (front ++ rest)) (λ e. rest_two)
      (λ f.
      AllPairs-cons AreTwo one rest
      (All-weaker Stands (AreTwo one)
      (λ version is node same.
      both_ways (is_at back version.at) (is.1 (sym node)) (ap (λ (o : Option ℕ). is_at o version.at) e ∙ eq-eqb at version.at same)) rest rest_stand)
      rest_two)

  dropped_two : AllPairs AreTwo dropped_all
  dropped_two = two_with back stays refl

  back_off : (o : Option ℕ) (b : Bool) → b ≡ true → All IsOff (coming_back o b)
  back_off None b is = All-nil IsOff
  back_off (Some at) b is =
      let one : Version = record { node = row.id; at = at; size = 0 } in
      cond_both (b && at == row.changed) [] (one ∷ []) (All IsOff) (λ e. All-nil IsOff)
      (λ e.
      All-cons IsOff one [] (λ node same. both_ways (b && at == row.changed) e (and_from b (at == row.changed) is (eq-eqb at row.changed same)))
      (All-nil IsOff))

  stays_becomes : stays ≡ true → becomes ≡ true
  stays_becomes is = (and_parts becomes _ is).0

  dropped_off : stays ≡ true → All IsOff dropped_all
  dropped_off is = All-append IsOff (coming_back back stays) rest (back_off back stays is) (rest_off (stays_becomes is))

  -- ---- what is replaced

  abbrev is_put : Bool
  is_put = stays && not (has_already t.versions row)

  abbrev front : Bool → List Change
  front b = if b then Put (rows.Version its) ∷ [] else []

  abbrev turned : Bool → List Change
  turned b = front b ++ drops dropped_all

  turned_is : turns_over t now back content row ≡ turned is_put
  turned_is = ap (λ (changes : List Change). put_replaced t row stays ++ changes) (drops_are back stays)

  turned_count : (meta : MetaRow) (b : Bool) → counted meta (turned b) ≡ meta
  turned_count meta true = drops_count meta dropped_all
  turned_count meta false = drops_count meta dropped_all

  -- it isn't the same as what is there
  put_other : is_put ≡ true → Differs t (Put (rows.Version its))
  put_other is = λ same.
      let found = put_is_found version_key (λ (one : VersionRow). one.node == row.id && one.at == row.changed) its t.versions
      (and_from (row.id == row.id) (row.changed == row.changed) (eq-eqb row.id row.id refl) (eq-eqb row.changed row.changed refl)) keyed in
      let was = sym (ap (λ (u : Tables). version_row u.versions row.id row.changed) same) ∙ found in
      both_ways (has_already t.versions row) (not-true _ (and_parts stays (not (has_already t.versions row)) is).1)
      (ap (λ (o : Option VersionRow). option_map_or (λ version. content_eq version.content row.content) o false) was
      ∙ (content_decides row.content row.content).1 refl)
    where
      keyed : (one : VersionRow) → (one.node == row.id && one.at == row.changed) ≡ true → version_key one ≡ version_key its
      keyed one is =
          let both = and_parts (one.node == row.id) (one.at == row.changed) is in
          ap (λ (n : ℕ). n ∷ one.at ∷ []) (eqb-true one.node row.id both.0) ∙ ap (λ (n : ℕ). row.id ∷ n ∷ []) (eqb-true one.at row.changed both.1)

  put_apart : is_put ≡ true → All (AreApart (Put (rows.Version its))) (drops dropped_all)
  put_apart is =
      All-map (AreApart (Put (rows.Version its))) drop_version dropped_all
      (All-weaker IsOff (λ (version : Version). AreApart (Put (rows.Version its)) (drop_version version)) (λ version off same. off (cc) (cc)) dropped_all
      (dropped_off (and_parts stays (not (has_already t.versions row)) is).0))

  turned_lean : (b : Bool) → is_put ≡ b → IsLean t (turned b)
  turned_lean true is =
      lean_more t (Put (rows.Version its)) (drops dropped_all) (put_other is) (put_apart is) (drops_lean t dropped_all dropped_there dropped_two)
  turned_lean false is = drops_lean t dropped_all dropped_there dropped_two

  turned_apart : (new : NodeRow) (b : Bool) → All (AreApart (Put (rows.Node new))) (turned b)
  turned_apart new true =
      All-cons (AreApart (Put (rows.Node new))) (Put (rows.Version its)) (drops dropped_all) (λ same. cc) (node_apart new dropped_all)
  turned_apart new false = node_apart new dropped_all

  turned_rows : (blob : Option ℕ) (u : Tables) (b : Bool) → (b ≡ true → KnownVersion t u its) → KnownRows t blob u (turned b)
  turned_rows blob u true known =
      one_more u (Put (rows.Version its)) (drops dropped_all) (known refl) (drops_rows t blob (made u (Put (rows.Version its))) dropped_all)
  turned_rows blob u false known = drops_rows t blob u dropped_all

  fine : IsNodeSound t row
  fine =
      subst (λ (o : Option NodeRow). IfSome o (IsNodeSound t)) there
      (found_has (IsNodeSound t) (λ (one : NodeRow). one.id == row.id) t.nodes sound.nodes)

  has_some : becomes ≡ true → row.content ≢ []
  has_some is = λ none.
      both_ways (is_empty row.content) (not-true _ (and_parts (not (is_empty row.content)) _ is).0)
      (ap (λ (pieces : List Piece). length pieces == 0) none)

  -- it is a version then
  version_in : (u : Tables) → u.versions ≡ t.versions → (new : NodeRow) → node_row u.nodes row.id ≡ Some new → is_folder_kind new.kind ≡ false
      → t.meta.next_blob ≤ u.meta.next_blob → (becomes ≡ true → length t.versions + 1 ≤ MAX_VERSIONS)
      → stored_pieces u + length row.content ≤ MAX_STORED_PIECES → is_put ≡ true → KnownVersion t u its
  version_in u same new found kind up few pieces is = record {
    version = record {
      file = ap (λ (o : Option NodeRow). option_map_or (λ one. not (is_folder_kind one.kind)) o false) found ∙ ap not kind;
      some = has_some (stays_becomes (and_parts stays _ is).0);
      pieces = pieces_still t u row.content up fine.pieces;
      few = omega (arith, ap length same, few (stays_becomes (and_parts stays _ is).0));
      few_pieces = pieces;
    };
    was = row;
    there = there;
    of_was = refl;
  }

  -- ---- all of it

  abbrev new : NodeRow
  new = filled content now row

  differs : is_same now content row ≡ false → node_row t.nodes row.id ≢ Some new
  differs other = λ same.
      let it : row ≡ new = same_Some row new (sym there ∙ same) in
      both_ways (is_same now content row) other
      (and_from (content_eq row.content content) (row.changed == now) ((content_decides row.content content).1 (ap (λ (r : NodeRow). r.content) it))
      (eq-eqb row.changed now (ap (λ (r : NodeRow). r.changed) it)))

  -- its pieces are sound, be they of a body, of a version or of an upload
  sound_in : (u : Tables) (blob : Option ℕ) → IsOfBody t.meta blob content ⊎ ((blob ≡ None) × IsAgain t row.id content)
      → blob_after t.meta.next_blob blob ≤ u.meta.next_blob → All (IsPieceSound u) content
  sound_in u blob body given =
      elim body [
        | inl of ↦ body_sound t.meta u blob content sound.counters of given
        | inr (none, inl (version, at, found, same)) ↦
            (let is = subst (λ (o : Option VersionRow). IfSome o (IsVersionSound t)) found
            (found_has (IsVersionSound t) (λ (one : VersionRow). one.node == row.id && one.at == at) t.versions sound.others.versions) in
            subst (λ (c : List Piece). All (IsPieceSound u) c) (sym same)
            (pieces_still t u version.content (omega (arith, given, next_le t.meta.next_blob blob)) is.pieces))
        | inr (none, inr of) ↦ upload_sound t u content sound.others.chunks (omega (arith, given, next_le t.meta.next_blob blob)) of
      ]

  next_in : (blob : Option ℕ) → IsOfBody t.meta blob content ⊎ ((blob ≡ None) × IsAgain t row.id content) → IsNext t.meta.next_blob blob
  next_in blob (inl of) = body_next t.meta blob content of
  next_in blob (inr (none, of)) = none_next t.meta.next_blob blob none

  pub refills_known : (blob : Option ℕ) → stored_pieces t + length content ≤ MAX_STORED_PIECES
      → (becomes ≡ true → length t.versions + 1 ≤ MAX_VERSIONS) → blob_after t.meta.next_blob blob ≤ max t.meta.next_blob last_number
      → IsOfBody t.meta blob content ⊎ ((blob ≡ None) × IsAgain t row.id content) → (is_same now content row ≡ true → blob ≡ None)
      → KnownChange t now (refills t now back content row) blob
  refills_known blob few few_versions counts body stored =
      subst (λ (changes : List Change). KnownChange t now ((if is_same now content row then [] else Put (rows.Node new) ∷ []) ++ changes) blob)
      (sym turned_is) (here (is_same now content row) refl)
    where
      here : (b : Bool) → is_same now content row ≡ b → KnownChange t now ((if b then [] else Put (rows.Node new) ∷ []) ++ turned is_put) blob
      here true e =
          let up = raised t now (turned is_put) blob in
          let same : row.content ≡ content = (content_decides row.content content).0 (and_parts (content_eq row.content content) (row.changed == now) e).0 in
          let count = turned_count t.meta is_put in
          record {
            rows = turned_rows blob up is_put
                (version_in up refl row there file (next_le t.meta.next_blob blob) few_versions (omega (arith, few, ap length same)));
            lean = turned_lean is_put refl;
            stored = λ none. stored e;
            next = next_in blob body;
            next_user = omega (arith, ap (λ (meta : MetaRow). meta.next_user) count);
            next_group = omega (arith, ap (λ (meta : MetaRow). meta.next_group) count);
            next_node = omega (arith, ap (λ (meta : MetaRow). meta.next_node) count);
            next_share = omega (arith, ap (λ (meta : MetaRow). meta.next_share) count);
            next_blob = counts;
          }
      here false e =
          let up = raised t now (Put (rows.Node new) ∷ turned is_put) blob in
          let count = turned_count (record t.meta { next_node = max t.meta.next_node (row.id + 1) }) is_put in
          record {
            rows = one_more up (Put (rows.Node new)) (turned is_put)
                (inr (record {
                  filled = record {
                    old = row;
                    there = there;
                    file = file;
                    present = present;
                    same = refl;
                    changed = le_refl _;
                    pieces = sound_in up blob body (le_refl _);
                    few_pieces = inl few;
                  };
                  given = fine.given;
                  body = body;
                }))
                (turned_rows blob (made up (Put (rows.Node new))) is_put
                (version_in (made up (Put (rows.Node new))) refl new (put_found new t.nodes) file (next_le t.meta.next_blob blob) few_versions
                (omega (arith, few, refilled_pieces t.nodes row new sound.rising there refl))));
            lean = lean_more t (Put (rows.Node new)) (turned is_put) (put_differs t new (differs e)) (turned_apart new is_put) (turned_lean is_put refl);
            stored = λ none. absurd (cc);
            next = next_in blob body;
            next_user = omega (arith, ap (λ (meta : MetaRow). meta.next_user) count);
            next_group = omega (arith, ap (λ (meta : MetaRow). meta.next_group) count);
            next_node = omega (arith, fine.given, ap (λ (meta : MetaRow). meta.next_node) count);
            next_share = omega (arith, ap (λ (meta : MetaRow). meta.next_share) count);
            next_blob = counts;
          }

-- ---- a content over that of a file, unless the file has it since that moment

pub over_known : (t : Tables) (now node : ℕ) (content : List Piece) (blob : Option ℕ) (blobs : ℕ) (row : NodeRow) → AreSound t
    → node_row t.nodes node ≡ Some row → is_folder_kind row.kind ≡ false → LeadsToRoot t.nodes node
    → Within t 0 0 (versions_added t node None) (length content) blobs → blob_after t.meta.next_blob blob ≤ max t.meta.next_blob last_number
    → IsOfBody t.meta blob content ⊎ ((blob ≡ None) × IsAgain t row.id content) → KnownChange t now (refilled t now content row) blob
over_known t now node content blob blobs row sound there file present fits counts body = here (is_same now content row) refl
  where
    id : row.id ≡ node
    id = eqb-true row.id node (found_passes (λ (one : NodeRow). one.id == node) t.nodes row there)

    is : IsNodeSound t row
    is = subst (λ (o : Option NodeRow). IfSome o (IsNodeSound t)) there
        (found_has (IsNodeSound t) (λ (one : NodeRow). one.id == node) t.nodes sound.nodes)

    none : is_same now content row ≡ true → blob ≡ None
    none same =
        elim body [
          | inl of ↦ refills_none t row now content blob is.pieces of same
          | inr again ↦ again.0
        ]

    here : (b : Bool) → is_same now content row ≡ b → KnownChange t now (if b then [] else refills t now None content row) blob
    here true e = subst (λ (o : Option ℕ). KnownChange t now [] o) (sym (none e)) (nothing_known t now)
    here false e =
        refills_known t now None content row sound (ap (node_row t.nodes) id ∙ there) file (subst (LeadsToRoot t.nodes) (sym id) present) tt blob
        fits.pieces (λ becomes. omega (arith, fits.versions, added_one t node None row there becomes)) counts body none
