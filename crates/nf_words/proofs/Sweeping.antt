-- What a sweep takes: items and uploads, each once.
use Rattle.std.proofs.Common.{◌≡◌, ◌≢◌, ◌⊎◌, inl, inr, bytes_eq, length, ◌&&◌, ℕ, ◌==◌, List, [], ◌∷◌, ◌++◌, filter, get_or, not, true, Option, refl, sym, ap, ◌∙◌, arith, Bool, subst, IfSome}
use Rattle.std.specs.Prelude.{None, Some, is_some}
use Rattle.std.specs.List.{All, AllPairs, flat_map}
use Rattle.std.proofs.lemmas.Bool.{and_from, and_parts, both_ways, cond_both, eq-eqb, eqb-true, not-true}
use Rattle.std.proofs.lemmas.Cmp.{tied_itself}
use Rattle.std.proofs.lemmas.List.Elements.{All-append, All-cons, All-filter, All-head, All-nil, All-tail, All-weaker, filter_passes}
use Rattle.std.proofs.lemmas.List.Kept.{AllPairs-cons, AllPairs-filter}
use Rattle.std.proofs.lemmas.Option.{same_Some}
use Rattle.std.proofs.lemmas.Slice.Eq.{bytes_eq-Decides}
use Rattle.nf_base.specs.declared.rows.ItemRow.{ItemRow}
use Rattle.nf_base.specs.declared.rows.NodeRow.{NodeRow}
use Rattle.nf_base.specs.declared.rows.UploadRow.{UploadRow}
use Rattle.nf_defs.proofs.Puts.{key_total, tail_rising}
use Rattle.nf_defs.specs.Prelude.{IsRising, item_row, key_cmp, node_row, Tables, upload_key}
use Rattle.nf_words.proofs.Forgetting.{heads, tails}
use Rattle.nf_words.proofs.Found.{found_has}
use Rattle.nf_words.proofs.Known.{IsItem, KnownGoes, KnownIdle}
use Rattle.nf_words.proofs.Trashing.{Distinct, gone_has, item_is, of_user, user_goes, user_once}
use Rattle.nf_words.specs.Prelude.{AreSound, gone_from, gone_with, item_for, is_idle, IsItemSound, items_of, owners_of, quota_of, upload_row}

some_there : {X : Type 0} (o : Option X) → is_some o ≡ true → (x : X) × (o ≡ Some x)
some_there None is = absurd (cc)
some_there (Some x) is = (x, refl)

abbrev AreOthers : ℕ → ℕ → Type 0
AreOthers a b = a ≢ b

-- two lists of different numbers that have none in common
pub joined_once : (xs ys : List ℕ) → Distinct xs → Distinct ys → All (λ (x : ℕ). All (AreOthers x) ys) xs → Distinct (xs ++ ys)
joined_once [] ys a b apart = b
joined_once (x ∷ xs) ys a b apart =
    AllPairs-cons AreOthers x (xs ++ ys)
    (All-append (AreOthers x) xs ys (heads AreOthers x xs a) (All-head (λ (x : ℕ). All (AreOthers x) ys) x xs apart))
    (joined_once xs ys (tails AreOthers x xs a) b (All-tail (λ (x : ℕ). All (AreOthers x) ys) x xs apart))

owners_once : (items : List ItemRow) → Distinct (owners_of items)
owners_once [] = λ i j d before within. absurd (omega (arith, within))
owners_once (item ∷ items) =
    AllPairs-cons AreOthers item.owner (filter off (owners_of items))
    (λ k d within same.
    let other = get_or (filter off (owners_of items)) k d in
    both_ways (other == item.owner) (not-true (other == item.owner) (filter_passes off (owners_of items) k d within)) (eq-eqb other item.owner (sym same)))
    (AllPairs-filter AreOthers off (owners_of items) (owners_once items))
  where
    off : ℕ → Bool
    off user = not (user == item.owner)

-- ---- uploads

abbrev AreOtherUploads : UploadRow → UploadRow → Type 0
AreOtherUploads a b = upload_key a ≢ upload_key b

uploads_once : (uploads : List UploadRow) → IsRising upload_key uploads → AllPairs AreOtherUploads uploads
uploads_once uploads rising i j d before within = λ same.
    let a = get_or uploads i d in
    let b = get_or uploads j d in
    let equal = tied_itself key_total (upload_key b) in
    let less = ap (λ (key : List ℕ). key_cmp key (upload_key b)) (sym same) ∙ rising i j d before within in absurd (cc)

-- the row of an upload among those by rising key is what a look-up finds
pub uploads_there : (uploads : List UploadRow) → IsRising upload_key uploads
    → All (λ (row : UploadRow). upload_row uploads row.user row.dir ≡ Some row) uploads
uploads_there [] rising = All-nil (λ (row : UploadRow). upload_row [] row.user row.dir ≡ Some row)
uploads_there (first ∷ uploads) rising =
    All-cons (λ (row : UploadRow). upload_row (first ∷ uploads) row.user row.dir ≡ Some row) first uploads
    (rw (and_from (first.user == first.user) (bytes_eq first.dir first.dir) (eq-eqb first.user first.user refl) ((bytes_eq-Decides first.dir first.dir).1 refl)) refl)
    (λ k d within.
    let row = get_or uploads k d in
    cond_both (first.user == row.user && bytes_eq first.dir row.dir) (Some first) (upload_row uploads row.user row.dir)
    (λ (o : Option UploadRow). o ≡ Some row)
    (λ e.
    let both = and_parts (first.user == row.user) (bytes_eq first.dir row.dir) e in
    absurd (heads AreOtherUploads first uploads (uploads_once (first ∷ uploads) rising) k d within
    (ap (λ (n : ℕ). n ∷ length first.dir ∷ first.dir) (eqb-true first.user row.user both.0)
    ∙ ap (λ (dir : List ℕ). row.user ∷ length dir ∷ dir) ((bytes_eq-Decides first.dir row.dir).0 both.1))))
    (λ e. uploads_there uploads (tail_rising upload_key first uploads rising) k d within))

module _ (t : Tables) (sound : AreSound t) where
  -- the node is that of an item of the user's
  abbrev pub IsOf : ℕ → ℕ → Type 0
  IsOf user node = (item : ItemRow) × (item_row t.items node ≡ Some item) × (item.owner ≡ user)

  -- each item of a user's is that user's
  pub owned : (user : ℕ) → All (λ (item : ItemRow). IsOf user item.node) (items_of t user)
  owned user k d within =
      let item = get_or (items_of t user) k d in
      let mine = eqb-true item.owner user (filter_passes (λ (item : ItemRow). item.owner == user) t.items k d within) in
      let fine = All-filter (λ (item : ItemRow). item.owner == user) (IsItemSound t) t.items sound.others.items k d within in
      let found = some_there (item_row t.items item.node) (of_user t sound user k d within) in
      let node = item_is t sound item.node found.0 found.1 in
      let other = subst (λ (o : Option ItemRow). IfSome o (IsItemSound t)) found.1 (found_has (IsItemSound t) (λ (other : ItemRow). other.node == item.node) t.items sound.others.items) in
      let same : other.of ≡ fine.of = same_Some other.of fine.of (sym other.there ∙ ap (node_row t.nodes) node ∙ fine.there) in
      (found.0, found.1, sym other.owner ∙ ap (λ (row : NodeRow). row.owner) same ∙ fine.owner ∙ mine)

  pub gone_owned : (now user : ℕ) → All (IsOf user) (gone_from t now user)
  gone_owned now user = gone_has (IsOf user) t now (quota_of t user) (items_of t user) (owned user)

  -- what is a user's isn't among what goes of others
  elsewhere : (now user node : ℕ) (owners : List ℕ) → All (AreOthers user) owners → IsOf user node
      → All (AreOthers node) (flat_map (gone_from t now) owners)
  elsewhere now user node [] others is = All-nil (AreOthers node)
  elsewhere now user node (owner ∷ owners) others is =
      All-append (AreOthers node) (gone_from t now owner) (flat_map (gone_from t now) owners)
      (All-weaker (IsOf owner) (AreOthers node)
      (λ other of same.
      let item : is.0 ≡ of.0 = same_Some is.0 of.0 (sym is.1 ∙ ap (item_row t.items) same ∙ of.1) in
      All-head (AreOthers user) owner owners others (sym is.2 ∙ ap (λ (row : ItemRow). row.owner) item ∙ of.2))
      (gone_from t now owner) (gone_owned now owner))
      (elsewhere now user node owners (All-tail (AreOthers user) owner owners others) is)

  all_once : (now : ℕ) (owners : List ℕ) → Distinct owners → Distinct (flat_map (gone_from t now) owners)
  all_once now [] once = once
  all_once now (owner ∷ owners) once =
      joined_once (gone_from t now owner) (flat_map (gone_from t now) owners) (user_once t sound now (quota_of t owner) owner)
      (all_once now owners (tails AreOthers owner owners once))
      (All-weaker (IsOf owner) (λ (node : ℕ). All (AreOthers node) (flat_map (gone_from t now) owners))
      (λ node is. elsewhere now owner node owners (heads AreOthers owner owners once) is)
      (gone_from t now owner) (gone_owned now owner))

  all_items : (now : ℕ) (owners : List ℕ) → All (IsItem t) (flat_map (gone_from t now) owners)
  all_items now [] = All-nil (IsItem t)
  all_items now (owner ∷ owners) =
      All-append (IsItem t) (gone_from t now owner) (flat_map (gone_from t now) owners) (user_goes t sound now (quota_of t owner) owner) (all_items now owners)

  pub swept_goes : (now : ℕ) → KnownGoes t (flat_map (gone_from t now) (owners_of t.items))
  swept_goes now = record { items = all_items now (owners_of t.items); once = all_once now (owners_of t.items) (owners_once t.items) }

  -- each upload is found, and no two are of one user and one name
  pub swept_idle : (now : ℕ) → KnownIdle t (filter (is_idle now) t.uploads)
  swept_idle now = record {
    there = All-filter (is_idle now) (λ (row : UploadRow). upload_row t.uploads row.user row.dir ≡ Some row) t.uploads
        (uploads_there t.uploads sound.others.uploads_rise);
    once = AllPairs-filter AreOtherUploads (is_idle now) t.uploads (uploads_once t.uploads sound.others.uploads_rise);
  }

  -- of what goes with a node that leaves its place, all but the node are of its owner's items
  pub rest_owned : (now : ℕ) (row : NodeRow) → All (IsOf row.owner) (filter (λ node. not (node == row.id)) (gone_with t now row))
  rest_owned now row k d within =
      let off : ℕ → Bool = λ node. not (node == row.id) in
      let node = get_or (filter off (gone_with t now row)) k d in
      let either =
      All-filter off (λ (node : ℕ). (node ≡ row.id) ⊎ IsOf row.owner node) (gone_with t now row)
      (gone_has (λ (node : ℕ). (node ≡ row.id) ⊎ IsOf row.owner node) t now (quota_of t row.owner) (item_for now row ∷ items_of t row.owner)
      (All-cons (λ (item : ItemRow). (item.node ≡ row.id) ⊎ IsOf row.owner item.node) (item_for now row) (items_of t row.owner) (inl refl)
      (All-weaker (λ (item : ItemRow). IsOf row.owner item.node) (λ (item : ItemRow). (item.node ≡ row.id) ⊎ IsOf row.owner item.node) (λ item is. inr is)
      (items_of t row.owner) (owned row.owner))))
      k d within in
      elim either [
        | inl same ↦ absurd (both_ways (node == row.id) (not-true (node == row.id) (filter_passes off (gone_with t now row) k d within)) (eq-eqb node row.id same))
        | inr is ↦ is
      ]
