-- What becomes of versions by an act: each is one that there was, or what its file had.
use Rattle.std.proofs.Common.{◌≡◌, ℕ, inl, inr, not, List, [], ◌∷◌, Option, None, Some, get_or, refl, sym, subst, Bool, true, false, ◌==◌, filter, map, option_map, if◌then◌else◌, ap, ◌∙◌}
use Rattle.std.specs.Prelude.{bytes_eq, is_some}
use Rattle.std.specs.List.{All, Contains}
use Rattle.std.proofs.lemmas.List.Elements.{All-contains_itself, All-filter, All-head, All-map, All-tail, filter_agree}
use Rattle.nf_base.specs.declared.changes.Change.{Change}
use Rattle.nf_base.specs.declared.changes.Change.TheVariants.{Drop, Put}
use Rattle.nf_base.specs.declared.changes.RowKey.TheVariants as keys
use Rattle.nf_base.specs.declared.rows.NodeRow.{NodeRow}
use Rattle.nf_base.specs.declared.rows.Row.TheVariants as rows
use Rattle.nf_base.specs.declared.rows.VersionRow.{VersionRow}
use Rattle.nf_defs.proofs.Puts.{all_put}
use Rattle.nf_defs.specs.Prelude.{made, node_row, Tables, version_key, without_under, put_all, relinked, with_node}
use Rattle.nf_laws.specs.Acts.{AreVersionsFewer, IsOldVersion, AreVersionsLeft}
use Rattle.nf_laws.proofs.Each.{none_keep, NoStore, settled_keep}
use Rattle.nf_laws.proofs.Lists.{changes_have, IsAside}
use Rattle.nf_words.proofs.Fits.{KnownChange}
use Rattle.nf_words.specs.declared.answer.Report.{Report}
use Rattle.nf_words.specs.declared.answer.Report.TheVariants as report
use Rattle.nf_words.proofs.Known.{Known}
use Rattle.nf_words.specs.Prelude.{altered, AreSound, deed_done, IsOfPeople, deeds_done, discard, drop_version, goes_itself, item_for, purges, versions_there}
use Rattle.nf_words.specs.declared.answer.Allowed.{Allowed}
use Rattle.nf_words.specs.declared.answer.Allowed.TheVariants as allowed
use Rattle.nf_words.specs.declared.answer.Deed.{Deed}
use Rattle.nf_words.specs.declared.answer.Deed.TheVariants as deed
use Rattle.std.proofs.lemmas.Bool.{both_ways, cond_both, false_from_ne_true}
use Rattle.nf_retention.specs.declared.versions.Version.{Version}
use Rattle.nf_defs.specs.Tree.{trashed}
use Rattle.nf_laws.proofs.Climbs.{some_there}
use Rattle.nf_laws.proofs.Files.{file_row}
use Rattle.nf_laws.proofs.Gone.{kept_left}
use Rattle.nf_laws.proofs.OneRow.{KeepsId, row_with}

abbrev pub AreOldVersions : Tables → Tables → Type 0
AreOldVersions t u = All (IsOldVersion t) u.versions

-- no change of people touches one
pub people_versions : (u : Tables) (change : Change) → IsOfPeople u change → (made u change).versions ≡ u.versions
people_versions u (Put (rows.User row)) is = refl
people_versions u (Put (rows.Token row)) is = refl
people_versions u (Put (rows.Group row)) is = refl
people_versions u (Put (rows.Member row)) is = refl
people_versions u (Drop (keys.Member group user)) is = refl
people_versions u change is = absurd is

aside_old : (t : Tables) (blob : Option ℕ) (u : Tables) (change : Change) → AreOldVersions t u → IsAside t blob u change → AreOldVersions t (made u change)
aside_old t blob u (Put (rows.Version row)) old known =
    all_put version_key (IsOldVersion t) row u.versions (inr (known.was, known.there, known.of_was)) old
aside_old t blob u (Drop (keys.Version node at)) old known =
    All-filter (λ (row : VersionRow). not (bytes_eq (node ∷ at ∷ []) (version_key row))) (IsOldVersion t) u.versions old
aside_old t blob u (Put (rows.Upload row)) old known = old
aside_old t blob u (Put (rows.Chunk row)) old known = old
aside_old t blob u change old known = absurd known

deed_old : (t u : Tables) (one : Deed) → NoStore one → AreOldVersions t u → AreOldVersions t (deed_done u one)
deed_old t u (deed.Discard item) none old = old
deed_old t u (deed.Purge node) none old =
    All-filter (λ (row : VersionRow). is_some (node_row (without_under u.nodes node) row.node)) (IsOldVersion t) u.versions old
deed_old t u (deed.Restore node folder name) none old = old
deed_old t u (deed.Relink node folder name) none old = old
deed_old t u (deed.Join more) none old = old
deed_old t u (deed.Requote row) none old = old
deed_old t u (deed.Store changes) none old = absurd none
deed_old t u (deed.Abandon user dir) none old = old
deed_old t u (deed.Forget node at) none old =
    All-filter (λ (row : VersionRow). not (bytes_eq (node ∷ at ∷ []) (version_key row))) (IsOldVersion t) u.versions old

all_old : (t : Tables) → AreOldVersions t t
all_old t k d within = inl (All-contains_itself t.versions k d within)

changes_old : (t : Tables) (now : ℕ) (changes : List Change) (blob : Option ℕ) (told : Report) → AreSound t → KnownChange t now changes blob
    → AreOldVersions t (altered t now (allowed.Change changes blob told))
changes_old t now changes blob told sound known =
    changes_have (AreOldVersions t) t now changes blob told sound.rising known (λ u row old it. old) (λ u row old it. old) (λ u row old it. old)
    (λ u row old it. old) (λ u change old it. subst (All (IsOldVersion t)) (sym (people_versions u change it)) old)
    (λ u change old it. aside_old t blob u change old it) (λ u row root old it. old) (all_old t)

pub altered_old : (t : Tables) (now : ℕ) (act : Allowed) → AreSound t → Known t now act → AreOldVersions t (altered t now act)
altered_old t now (allowed.Change changes blob told) sound known = changes_old t now changes blob told sound known
altered_old t now (allowed.Deeds deeds told) sound known =
    settled_keep (AreOldVersions t) t now deeds known (deed_old t) (λ changes stored. changes_old t now changes None report.Done sound stored) (all_old t)
altered_old t now act sound known = all_old t

-- deeds that store no changes make none
deed_fewer : (t u : Tables) (one : Deed) → NoStore one → AreVersionsFewer t u → AreVersionsFewer t (deed_done u one)
deed_fewer t u (deed.Discard item) none old = old
deed_fewer t u (deed.Purge node) none old =
    All-filter (λ (row : VersionRow). is_some (node_row (without_under u.nodes node) row.node)) (Contains t.versions) u.versions old
deed_fewer t u (deed.Restore node folder name) none old = old
deed_fewer t u (deed.Relink node folder name) none old = old
deed_fewer t u (deed.Join more) none old = old
deed_fewer t u (deed.Requote row) none old = old
deed_fewer t u (deed.Store changes) none old = absurd none
deed_fewer t u (deed.Abandon user dir) none old = old
deed_fewer t u (deed.Forget node at) none old =
    All-filter (λ (row : VersionRow). not (bytes_eq (node ∷ at ∷ []) (version_key row))) (Contains t.versions) u.versions old

pub deeds_fewer : (t : Tables) (deeds : List Deed) → All NoStore deeds → AreVersionsFewer t (deeds_done t deeds)
deeds_fewer t deeds none = none_keep (AreVersionsFewer t) (deed_fewer t) t deeds none (λ k d within. All-contains_itself t.versions k d within)

-- nor do changes that put none
pub drops_fewer : (t u : Tables) (gone : List Version) → AreVersionsFewer t u → AreVersionsFewer t (put_all u (map drop_version gone))
drops_fewer t u [] old = old
drops_fewer t u (version ∷ gone) old =
    drops_fewer t (made u (drop_version version)) gone
    (All-filter (λ (row : VersionRow). not (bytes_eq (version.node ∷ version.at ∷ []) (version_key row))) (Contains t.versions) u.versions old)

pub added_fewer : (t : Tables) (row : NodeRow) (gone : List Version) → AreVersionsFewer t (put_all t (Put (rows.Node row) ∷ map drop_version gone))
added_fewer t row gone =
    drops_fewer t (made t (Put (rows.Node row))) gone (λ k d within. All-contains_itself t.versions k d within)

-- ---- deeds that take no version but with its file

abbrev pub KeepsVersions : Deed → Type 0
KeepsVersions (deed.Join more) = ⊥
KeepsVersions (deed.Forget node at) = ⊥
KeepsVersions (deed.Store changes) = ⊥
KeepsVersions other = Unit {0}

-- a row that is another is one still
turned_some : (nodes : List NodeRow) (node : ℕ) (change : NodeRow → NodeRow) → KeepsId change → (other : ℕ)
    → is_some (node_row nodes other) ≡ is_some (node_row (with_node nodes node change) other)
turned_some nodes node change keeps other =
    sym (ap is_some (row_with nodes node change keeps other) ∙ here (other == node) (node_row nodes other))
  where
    here : (b : Bool) (o : Option NodeRow) → is_some (if b then option_map change o else o) ≡ is_some o
    here true None = refl
    here true (Some row) = refl
    here false o = refl

there_with : (t u : Tables) (node : ℕ) (change : NodeRow → NodeRow) → KeepsId change → AreVersionsLeft t u
    → u.versions ≡ versions_there (with_node u.nodes node change) t.versions
there_with t u node change keeps left =
    left ∙ filter_agree (λ version. is_some (node_row u.nodes version.node)) (λ version. is_some (node_row (with_node u.nodes node change) version.node))
    (λ version. turned_some u.nodes node change keeps version.node) t.versions

-- what passes one test passes another
filter_within : {X : Type 0} (p q : X → Bool) (xs : List X) → ((x : X) → p x ≡ true → q x ≡ true) → filter p (filter q xs) ≡ filter p xs
filter_within p q [] passes = refl
filter_within {X = X} p q (x ∷ xs) passes = here (q x) refl (filter_within p q xs passes)
  where
    here : (b : Bool) → q x ≡ b → filter p (filter q xs) ≡ filter p xs
        → filter p (if b then x ∷ filter q xs else filter q xs) ≡ (if p x then x ∷ filter p xs else filter p xs)
    here true e rest = ap (λ (l : List X). if p x then x ∷ l else l) rest
    here false e rest =
        let off : p x ≡ false = false_from_ne_true (p x) (λ is. both_ways (q x) e (passes x is)) in
        rest ∙ sym (ap (λ (b : Bool). if b then x ∷ filter p xs else filter p xs) off)

deed_left : (t u : Tables) (one : Deed) → KeepsVersions one → AreVersionsLeft t u → AreVersionsLeft t (deed_done u one)
deed_left t u (deed.Discard item) keeps left = there_with t u item.node trashed (λ row. refl) left
deed_left t u (deed.Purge node) keeps left =
    let after = without_under u.nodes node in
    ap (versions_there after) left
    ∙ filter_within (λ version. is_some (node_row after version.node)) (λ version. is_some (node_row u.nodes version.node)) t.versions
    (λ version is. let row = some_there (node_row after version.node) is in ap is_some (kept_left u.nodes node version.node row.0 row.1).1)
deed_left t u (deed.Restore node folder name) keeps left = there_with t u node (relinked folder name) (λ row. refl) left
deed_left t u (deed.Relink node folder name) keeps left = there_with t u node (relinked folder name) (λ row. refl) left
deed_left t u (deed.Join more) keeps left = absurd keeps
deed_left t u (deed.Requote row) keeps left = left
deed_left t u (deed.Forget node at) keeps left = absurd keeps
deed_left t u (deed.Store changes) keeps left = absurd keeps
deed_left t u (deed.Abandon user dir) keeps left = left

deeds_left : (t u : Tables) (deeds : List Deed) → All KeepsVersions deeds → AreVersionsLeft t u → AreVersionsLeft t (deeds_done u deeds)
deeds_left t u [] keeps left = left
deeds_left t u (one ∷ deeds) keeps left =
    deeds_left t (deed_done u one) deeds (All-tail KeepsVersions one deeds keeps) (deed_left t u one (All-head KeepsVersions one deeds keeps) left)

pub all_pass : {X : Type 0} (p : X → Bool) (xs : List X) → All (λ (x : X). p x ≡ true) xs → xs ≡ filter p xs
all_pass p [] passes = refl
all_pass {X = X} p (x ∷ xs) passes =
    ap (λ (l : List X). x ∷ l) (all_pass p xs (All-tail (λ (x : X). p x ≡ true) x xs passes))
    ∙ sym (ap (λ (b : Bool). if b then x ∷ filter p xs else filter p xs) (All-head (λ (x : X). p x ≡ true) x xs passes))

pub none_left : (t : Tables) → AreSound t → AreVersionsLeft t t
none_left t sound =
    all_pass (λ version. is_some (node_row t.nodes version.node)) t.versions
    (λ k d within. let row = file_row t.nodes (get_or t.versions k d).node (sound.others.versions k d within).file in ap is_some row.1)

-- so they leave the versions of what is there
pub versions_left : (t : Tables) (deeds : List Deed) → AreSound t → All KeepsVersions deeds → AreVersionsLeft t (deeds_done t deeds)
versions_left t deeds sound keeps = deeds_left t t deeds keeps (none_left t sound)

pub purges_keep : (nodes : List ℕ) → All KeepsVersions (purges nodes)
purges_keep nodes = All-map KeepsVersions (λ (node : ℕ). deed.Purge node) nodes (λ k d within. tt)

pub discard_keeps : (t : Tables) (now : ℕ) (row : NodeRow) → KeepsVersions (discard t now row)
discard_keeps t now row =
    cond_both (goes_itself t now row) (deed.Purge row.id) (deed.Discard (item_for now row)) KeepsVersions (λ e. tt) (λ e. tt)
