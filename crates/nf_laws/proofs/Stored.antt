-- What a body that is stored adds to the charge of an owner.
use Rattle.std.proofs.Common.{ℕ, ◌+◌, ◌==◌, ◌≡◌, Bool, true, false, not, List, [], ◌∷◌, Option, None, Some, Result, Ok, if◌then◌else◌, refl, sym, ap, subst, ◌∙◌, arith, map}
use Rattle.std.specs.Prelude.{IsOk, sum_by}
use Rattle.std.specs.Option.{IfSome, option_map_or}
use Rattle.std.proofs.lemmas.Bool.{and_parts, cond_both, eq-eqb, eqb-true, ne_eqb}
use Rattle.std.proofs.lemmas.List.Sums.{sum_by_push}
use Rattle.nf_base.specs.Content.{content_eq}
use Rattle.nf_base.specs.declared.changes.Change.{Change}
use Rattle.nf_base.specs.declared.changes.Change.TheVariants.{Put}
use Rattle.nf_base.specs.declared.content.Piece.{Piece}
use Rattle.nf_base.specs.declared.rows.NodeKind.TheVariants.{File}
use Rattle.nf_base.specs.declared.rows.NodeRow.{NodeRow}
use Rattle.nf_base.specs.declared.rows.Row.TheVariants as rows
use Rattle.nf_defs.proofs.Climbs.{holds_some}
use Rattle.nf_defs.specs.Prelude.{Access, filled, is_folder_kind, node_row, owner_of, Tables, put, put_all, node_key}
use Rattle.nf_laws.proofs.Charging.{alike, charge_beside}
use Rattle.nf_laws.proofs.Entries.{step_changed}
use Rattle.nf_laws.proofs.Puts.{put_changed, put_new}
use Rattle.nf_laws.proofs.Reading.{none_refused}
use Rattle.nf_laws.proofs.Sizes.{weight}
use Rattle.nf_laws.proofs.Trashing.{IsOther, trash_after}
use Rattle.nf_laws.proofs.Weighing.{row_owned}
use Rattle.nf_laws.specs.Charges.{bytes_at, bytes_owned, bytes_trashed, IsCharged, owned_bytes, WritesAreCharged}
use Rattle.nf_words.proofs.Bodies.{content_decides}
use Rattle.nf_words.proofs.Ends.{goal_held}
use Rattle.nf_words.proofs.Fits.{newest}
use Rattle.nf_words.proofs.Passing.{not_refused}
use Rattle.nf_words.specs.Prelude.{access_of, after, after_mark, altered, answer_at, answered_by, AreSound, blob_for, changed, chunk_refusal, chunk_stored, content_in, decision_of, end_refusal, ends_at, ends_goal, goal_at, IsHeld, IsStorable, new_node, node_of_key, refilled, stored_at, stores, charged, content_size, drop_version, is_same, unsettled}
use Rattle.nf_words.specs.declared.answer.Allowed.{Allowed}
use Rattle.nf_words.specs.declared.answer.Allowed.TheVariants as allowed
use Rattle.nf_words.specs.declared.answer.Denial.{Denial}
use Rattle.nf_words.specs.declared.answer.Goal.{Goal}
use Rattle.nf_words.specs.declared.answer.Goal.TheVariants.{Chunk, Serve, Store}
use Rattle.nf_words.specs.declared.answer.LockKey.{LockKey}
use Rattle.nf_words.specs.declared.answer.LockKey.TheVariants.{Node, Slot}
use Rattle.nf_words.specs.declared.answer.Report.{Report}
use Rattle.nf_words.specs.declared.answer.Report.TheVariants.{Done, Made}
use Rattle.nf_words.specs.declared.history.Mark.{Mark}
use Rattle.nf_words.specs.declared.history.Mark.TheVariants as mark
use Rattle.nf_words.specs.declared.history.Outcome.{Outcome}
use Rattle.nf_words.specs.declared.history.Outcome.TheVariants.{Body}
use Rattle.nf_laws.proofs.Refilled.{added_made, nodes_filled, refilled_made}
use Rattle.nf_retention.specs.declared.versions.Version.{Version}

-- some bytes of an owner's come in the place of others, and no other user has more or less
abbrev pub Comes : Tables → ℕ → ℕ → ℕ → Tables → Type 0
Comes t owner old new made =
    (user : ℕ) → bytes_owned made.nodes user + (if owner == user then old else 0) ≡ bytes_owned t.nodes user + (if owner == user then new else 0)

-- the content of a body has its bytes
pub body_weighs : (next size : ℕ) (digest : List ℕ) → sum_by (λ piece. piece.size) (content_in (blob_for next size) digest size) ≡ size
body_weighs next size digest = here (size == 0) refl
  where
    here : (empty : Bool) → (size == 0) ≡ empty
        → sum_by (λ piece. piece.size) (content_in (if empty then None else Some next) digest size) ≡ size
    here true is = sym (eqb-true size 0 is)
    here false is = omega arith

-- another content of a file is its owner's, with another version in its place, too
pub refills_comes : (t : Tables) (now node size : ℕ) (content : List Piece) (row : NodeRow) (nodes : List NodeRow) → AreSound t
    → node_row t.nodes node ≡ Some row → sum_by (λ piece. piece.size) content ≡ size → nodes ≡ nodes_filled t now content row
    → (user : ℕ) → bytes_owned nodes user + (if row.owner == user then weight row else 0) ≡ bytes_owned t.nodes user + (if row.owner == user then size else 0)
refills_comes t now node size content row nodes sound there weighs are user =
    subst Fine (sym are)
    (cond_both (is_same now content row) t.nodes (put node_key new t.nodes) Fine
    (λ same.
    let content_is = (content_decides row.content content).0 (and_parts (content_eq row.content content) (row.changed == now) same).0 in
    ap (λ (n : ℕ). bytes_owned t.nodes user + (if row.owner == user then n else 0)) (ap (sum_by (λ (piece : Piece). piece.size)) content_is ∙ weighs))
    (λ other.
    omega (
      arith,
      ap (λ (all : List NodeRow). bytes_owned all user) (put_changed t.nodes node (filled content now) row refl sound.rising there),
      row_owned t.nodes node user (filled content now) row there,
      ap (λ (n : ℕ). if row.owner == user then n else 0) weighs,
    )))
  where
    new : NodeRow
    new = filled content now row

    Fine : List NodeRow → Type 0
    Fine nodes = bytes_owned nodes user + (if row.owner == user then weight row else 0) ≡ bytes_owned t.nodes user + (if row.owner == user then size else 0)

filled_comes : (t : Tables) (now node size : ℕ) (content : List Piece) (blob : Option ℕ) (row : NodeRow) → AreSound t
    → node_row t.nodes node ≡ Some row → sum_by (λ piece. piece.size) content ≡ size
    → Comes t row.owner (weight row) size (altered t now (allowed.Change (refilled t now content row) blob Done))
filled_comes t now node size content blob row sound there weighs =
    refills_comes t now node size content row (put_all t (refilled t now content row)).nodes sound there weighs
    (ap (λ (u : Tables). u.nodes) (refilled_made t now content row))

-- and a new file is that of its folder's
pub born_comes : (t : Tables) (now folder size : ℕ) (name : List ℕ) (content : List Piece) (blob : Option ℕ) (gone : List Version) → AreSound t
    → sum_by (λ piece. piece.size) content ≡ size
    → Comes t (owner_of t.nodes folder) 0 size
    (altered t now (allowed.Change (Put (rows.Node (new_node t now folder name File content)) ∷ map drop_version gone) blob Made))
born_comes t now folder size name content blob gone sound weighs user =
    let row = new_node t now folder name File content in
    omega (
      arith,
      ap (λ (u : Tables). bytes_owned u.nodes user) (added_made t row gone),
      ap (λ (all : List NodeRow). bytes_owned all user) (put_new row t.nodes (newest t sound)),
      sum_by_push (owned_bytes user) t.nodes row,
      ap (λ (n : ℕ). if owner_of t.nodes folder == user then n else 0) weighs,
      alike (owner_of t.nodes folder == user) 0,
    )

pub stored_comes : (t : Tables) (now : ℕ) (key : LockKey) (digest : List ℕ) (size : ℕ) → AreSound t → IsHeld t key
    → Comes t (owner_of t.nodes (node_of_key key)) (bytes_at t.nodes key) size (altered t now (stored_at t now key digest size))
stored_comes t now (Node node) digest size sound held =
    let blob = blob_for t.meta.next_blob size in
    let content = content_in blob digest size in
    let file = holds_some (λ row. not (is_folder_kind row.kind)) (node_row t.nodes node) held in
    subst (λ (o : Option NodeRow). Comes t (option_map_or (λ row. row.owner) o 0)
    (sum_by (λ piece. piece.size) (option_map_or (λ row. row.content) o [])) size (altered t now (allowed.Change (option_map_or (refilled t now content) o []) blob Done)))
    (sym file.1) (filled_comes t now node size content blob file.0 sound file.1 (body_weighs t.meta.next_blob size digest))
stored_comes t now (Slot folder name) digest size sound held =
    let blob = blob_for t.meta.next_blob size in
    let content = content_in blob digest size in
    born_comes t now folder size name content blob (unsettled t (charged t (owner_of t.nodes folder) 0 (content_size content)) []) sound
    (body_weighs t.meta.next_blob size digest)

-- ---- what an End does is no act of the trash

stores_other : (t : Tables) (now : ℕ) (key : LockKey) (digest : List ℕ) (size : ℕ) → IsOther (stored_at t now key digest size)
stores_other t now (Node node) digest size = tt
stores_other t now (Slot folder name) digest size = tt

closed_other : (act : Allowed) → ◌≡◌ {A = Result Allowed Denial} (Ok allowed.Close) (Ok act) → IsOther act
closed_other act is = let same : allowed.Close ≡ act = cc in subst IsOther same tt

goal_other : (access : Access) (t : Tables) (now : ℕ) (outcome : Outcome) (goal : Goal) (act : Allowed) → ends_goal access t now outcome goal ≡ Ok act
    → IsOther act
goal_other access t now (Body digest size) (Serve content) act is = closed_other act is
goal_other access t now (Body digest size) (Store by key wanted) act is =
    subst IsOther (not_refused (end_refusal access t now by key size) (stored_at t now key digest size) act is).1 (stores_other t now key digest size)
goal_other access t now (Body digest size) (Chunk user dir number wanted) act is =
    subst IsOther (not_refused (chunk_refusal t user dir number size) (chunk_stored t now user dir number digest size) act is).1 tt
goal_other access t now outcome goal act is = closed_other act is

pub end_other : (access : Access) (t : Tables) (now : ℕ) (outcome : Outcome) (goal : Option Goal) (act : Allowed) → ends_at access t now outcome goal ≡ Ok act
    → IsOther act
end_other access t now outcome None act is = closed_other act is
end_other access t now outcome (Some goal) act is = goal_other access t now outcome goal act is

-- ---- the law

-- the nodes are others whether or not the moment is stamped
nodes_changed : (t : Tables) (now : ℕ) (changes : List Change) (blob : Option ℕ) (report : Report)
    → (altered t now (allowed.Change changes blob report)).nodes ≡ (changed t now (allowed.Change changes blob report)).nodes
nodes_changed t now [] blob report = refl
nodes_changed t now (change ∷ changes) blob report = refl

stored_nodes : (t : Tables) (now : ℕ) (key : LockKey) (digest : List ℕ) (size : ℕ)
    → (altered t now (stored_at t now key digest size)).nodes ≡ (changed t now (stored_at t now key digest size)).nodes
stored_nodes t now (Node node) digest size =
    let blob = blob_for t.meta.next_blob size in
    nodes_changed t now (option_map_or (refilled t now (content_in blob digest size)) (node_row t.nodes node) []) blob Done
stored_nodes t now (Slot folder name) digest size = refl

-- what comes is charged, where the trash stays as it is
pub comes_charged : (t made : Tables) (owner old new : ℕ) → ((user : ℕ) → bytes_trashed made user ≡ bytes_trashed t user) → Comes t owner old new made
    → IsCharged t made owner old new
comes_charged t made owner old new trash comes = record {
  owned = omega (
    arith,
    rw (eq-eqb owner owner refl) at (comes owner),
    charge_beside t owner,
    charge_beside made owner,
    trash owner,
  );
  others = λ user other.
      omega (
        arith,
        rw (ne_eqb owner user (λ same. other (sym same))) at (comes user),
        charge_beside t user,
        charge_beside made user,
        trash user,
      );
}

pub writes_charged : WritesAreCharged
writes_charged n s e by key digest size sound may goal event ok =
    comes_charged t (after s e).tables owner old size (λ user. trash_after n s e user sound may no_trash) (here e.mark ok)
  where
    t : Tables
    t = s.tables

    owner : ℕ
    owner = owner_of t.nodes (node_of_key key)

    old : ℕ
    old = bytes_at t.nodes key

    act : Allowed
    act = stored_at t e.moment key digest size

    goes : decision_of s e.seat e.moment e.event ≡ stores (access_of s) t e.moment by key digest size
    goes =
        ap (decision_of s e.seat e.moment) event
        ∙ ap (ends_at (access_of s) t e.moment (Body digest size)) goal

    no_trash : (act : Allowed) → decision_of s e.seat e.moment e.event ≡ Ok act → IsOther act
    no_trash act is =
        end_other (access_of s) t e.moment (Body digest size) (goal_at s e.seat) act (sym (ap (decision_of s e.seat e.moment) event) ∙ is)

    here : (m : Mark) → IsOk (answer_at s e m) → Comes t owner old size (after_mark s e m).tables
    here mark.Answered ok =
        let none : stores (access_of s) t e.moment by key digest size ≡ Ok act =
        none_refused (end_refusal (access_of s) t e.moment by key size) act (subst (λ (d : Result Allowed Denial). IsOk (answered_by d)) goes ok) in
        let held = subst (λ (o : Option Goal). IfSome o (IsStorable t)) goal (goal_held s e.seat sound) in
        λ user.
        ap (λ (all : List NodeRow). bytes_owned all user + (if owner == user then old else 0))
        (ap (λ (u : Tables). u.nodes) (step_changed s e.seat e.moment e.event act (goes ∙ none)) ∙ sym (stored_nodes t e.moment key digest size))
        ∙ stored_comes t e.moment key digest size sound.rows held.0 user
    here mark.Store ok = absurd (cc)
    here mark.Memory ok = absurd (cc)
