-- What a PUT stored is what a later GET of the path is granted.
use Rattle.std.proofs.Common.{ℕ, Bool, suc, ◌+◌, ◌==◌, ◌≡◌, true, false, not, List, [], ◌∷◌, ◌++◌, Option, None, Some, Result, Ok, length, take, option_map, refl, sym, ap, subst, ◌∙◌, arith, le_refl, ◌≢◌, ◌<◌, get_or}
use Rattle.std.specs.Prelude.{IsOk, is_some, if◌then◌else◌}
use Rattle.std.specs.Option.{option_map_or, IfSome}
use Rattle.std.proofs.Math.Seq.{take-length}
use Rattle.std.proofs.lemmas.Bool.{and_parts, cond_both, false≢true, not-true, or_right}
use Rattle.nf_access.proofs.Granted.{grants_are_chains_lem, reach_is_a_chain_lem}
use Rattle.nf_access.specs.Access.{Allows, allows, is_open}
use Rattle.nf_access.specs.Mounts.{mount_at}
use Rattle.nf_access.specs.Shares.{Ground, ground_of}
use Rattle.nf_base.specs.Content.{content_eq}
use Rattle.nf_base.specs.declared.content.Piece.{Piece}
use Rattle.nf_base.specs.declared.rows.NodeKind.TheVariants.{File}
use Rattle.nf_base.specs.declared.rows.NodeRow.{NodeRow}
use Rattle.nf_base.specs.declared.rows.Place.TheVariants.{Inside}
use Rattle.nf_base.specs.declared.rows.ShareRow.{ShareRow}
use Rattle.nf_defs.proofs.Climbs.{holds_some}
use Rattle.nf_defs.specs.Prelude.{child_of, filled, is_folder, is_folder_kind, Leads, leads_on, node_key, node_row, put, stays, Tables, with_node}
use Rattle.nf_base.specs.declared.perms.Act.TheVariants.{Read}
use Rattle.nf_defs.specs.declared.Found.{Found}
use Rattle.nf_defs.specs.declared.Found.TheVariants.{At}
use Rattle.nf_defs.specs.declared.Seeker.{Seeker}
use Rattle.nf_defs.specs.declared.Seeker.TheVariants.{Link, User}
use Rattle.nf_laws.proofs.Added.{new_there}
use Rattle.nf_laws.proofs.Entries.{step_changed}
use Rattle.nf_laws.proofs.May.{led_own, own_may}
use Rattle.nf_laws.proofs.OneRow.{row_itself}
use Rattle.nf_laws.proofs.Paths.{child_there, leads_found}
use Rattle.nf_laws.proofs.Puts.{put_changed, put_new}
use Rattle.nf_laws.proofs.Replaced.{kept_replaced}
use Rattle.nf_laws.proofs.Rows.{AreKept, folder_kept, kept_joined, row_id}
use Rattle.nf_laws.proofs.Stays as states
use Rattle.nf_laws.specs.Access.{Owns}
use Rattle.nf_laws.specs.Reads.{IsLetRead, IsStored, IsWellAsked, LeadsToKey, PathStays, StoredIsRead, IsFreeToRead}
use Rattle.nf_words.proofs.Bodies.{content_decides}
use Rattle.nf_words.proofs.Fits.{newest}
use Rattle.nf_words.proofs.Orders.{none_of}
use Rattle.nf_words.proofs.Passing.{Passes, in_order}
use Rattle.nf_words.proofs.Starts.{by_link, by_user, has_asker, IsAsking, link_mount, link_seeks, user_no_link, user_seeks}
use Rattle.nf_words.proofs.Ways.{bounded}
use Rattle.nf_words.specs.Prelude.{access_of, acts_rule, after, after_mark, allowed_of, answered_by, AreSound, asker_of, blob_for, broken_by, Call, call_decision, call_of, caller_row, changed, content_in, decision_of, end_refusal, ends_at, exists_rule, found, IsSound, IsHeld, IsStorable, is_by_link, is_owner, limit_rule, link_of, linked_of, may_by, mount_for, mount_of, mounted, new_node, overwrite_rule, place_rule, refilled, replay, root_of, rules, seeker_of, shown, State, stored_at, stores, target_rule, upload_rule, unless_refused, unreached, way_of, AreApartHolds, HoldsFor, IsTicketSound, step, ticket_of, without_ticket, Way, way_by, named_rule, sharing_rule, room_rule, quota_rule, is_same, stored_new, charged, content_size, unsettled, version_rule}
use Rattle.nf_words.specs.declared.answer.Allowed.{Allowed}
use Rattle.nf_words.specs.declared.answer.Allowed.TheVariants as allowed
use Rattle.nf_words.specs.declared.answer.Denial.{Denial}
use Rattle.nf_words.specs.declared.answer.Goal.TheVariants.{Serve, Store}
use Rattle.nf_words.specs.declared.answer.LockKey.{LockKey}
use Rattle.nf_words.specs.declared.answer.LockKey.TheVariants.{Node, Slot}
use Rattle.nf_words.specs.declared.answer.Reply.TheVariants.{Granted}
use Rattle.nf_words.specs.declared.answer.Report.TheVariants.{Done}
use Rattle.nf_words.specs.declared.history.Entry.{Entry}
use Rattle.nf_words.specs.declared.history.Mark.{Mark}
use Rattle.nf_words.specs.declared.history.Outcome.TheVariants.{Body}
use Rattle.nf_words.specs.declared.request.Spot.{Spot}
use Rattle.nf_words.specs.declared.request.Wanted.TheVariants.{Get}
use Rattle.nf_words.proofs.Ends.{goal_held}
use Rattle.nf_laws.proofs.Free.{free_unlocked}
use Rattle.nf_words.specs.declared.answer.Goal.{Goal}
use Rattle.nf_laws.proofs.Held.{held_given}
use Rattle.nf_words.proofs.Steps.{end_tickets}
use Rattle.nf_words.proofs.Found.{found_has}
use Rattle.nf_words.proofs.Spared.{found_apart, holds_turned}
use Rattle.nf_words.specs.declared.answer.Hold.{Hold}
use Rattle.nf_words.specs.declared.answer.Mode.TheVariants.{Exclusive}
use Rattle.nf_words.specs.declared.history.Event.{Event}
use Rattle.nf_words.specs.declared.history.Ticket.{Ticket}
use Rattle.std.proofs.lemmas.List.Elements.{All-filter, filter_passes}
use Rattle.std.proofs.lemmas.Option.{none-some, same_Some}
use Rattle.std.specs.List.{All, list_any}
use Rattle.nf_laws.proofs.Refilled.{added_made, changed_nodes, refilled_made}

-- ---- paths that stay

-- a path leads on where each node keeps its owner, place, name and kind
leads_kept : (before behind : List NodeRow) (from : ℕ) (names : List (List ℕ)) (node : ℕ) → AreKept before behind
    → Leads before from names node → Leads behind from names node
leads_kept before behind _ _ _ kept (stays at) = stays at
leads_kept before behind _ _ _ kept (leads_on at name names child node folds there place named led) =
    let k = kept child.id child there in
    let id : k.row.id ≡ child.id = row_id behind child.id k.row k.there in
    leads_on at name names k.row node (folder_kept before behind at kept folds).0
    (subst (λ (n : ℕ). node_row behind n ≡ Some k.row) (sym id) k.there) (k.place ∙ place) (k.name ∙ named)
    (subst (λ (n : ℕ). Leads behind n names node) (sym id) (leads_kept before behind child.id names node kept led))

-- and by one name more
leads_more : (rows : List NodeRow) (from : ℕ) (names : List (List ℕ)) (folder : ℕ) (child : NodeRow) → Leads rows from names folder
    → is_folder rows folder ≡ true → node_row rows child.id ≡ Some child → child.place ≡ Inside folder
    → Leads rows from (names ++ child.name ∷ []) child.id
leads_more rows _ _ _ child (stays at) folds there place = leads_on at child.name [] child child.id folds there place refl (stays child.id)
leads_more rows _ _ _ child (leads_on at name names other folder first is inside named led) folds there place =
    leads_on at name (names ++ child.name ∷ []) other child.id first is inside named (leads_more rows other.id names folder child led folds there place)

leads_stay : (before behind : List NodeRow) (from : ℕ) (names : List (List ℕ)) (node : ℕ)
    → Leads before from names node → PathStays before behind from names → Leads behind from names node
leads_stay before behind _ _ _ (stays at) same = stays at
leads_stay before behind _ _ _ (leads_on at name names child node folds there place named led) same =
    let first : node_row behind at ≡ node_row before at = same 0 at (omega arith) (stays at) in
    let second : node_row behind child.id ≡ node_row before child.id =
    same 1 child.id (omega arith) (leads_on at name [] child child.id folds there place named (stays child.id)) in
    leads_on at name names child node
    (ap (λ (o : Option NodeRow). option_map_or (λ row. is_folder_kind row.kind) o false) first ∙ folds) (second ∙ there) place named
    (leads_stay before behind child.id names node led
    (λ k other few led. same (suc k) other (omega arith) (leads_on at name (take k names) child other folds there place named led)))

-- ---- what is stored

-- a path leads to a file of that number and content
record HasFile (rows : List NodeRow) (root : ℕ) (path : List (List ℕ)) (content : List Piece) (node : ℕ) : Type 0 where
  led : Leads rows root path node
  row : NodeRow
  there : node_row rows node ≡ Some row
  file : is_folder_kind row.kind ≡ false
  filled : row.content ≡ content

over_file : (t : Tables) (now node root : ℕ) (path : List (List ℕ)) (content : List Piece) (blob : Option ℕ) (old : NodeRow)
    → AreSound t → node_row t.nodes node ≡ Some old → is_folder_kind old.kind ≡ false → Leads t.nodes root path node
    → HasFile (changed t now (allowed.Change (refilled t now content old) blob Done)).nodes root path content node
over_file t now node root path content blob old sound there file led =
    let HasIt : List NodeRow → Type 0 = λ nodes. HasFile nodes root path content node in
    let change = filled content now in
    let after : List NodeRow = with_node t.nodes node change in
    let put_in : put node_key (change old) t.nodes ≡ after = put_changed t.nodes node change old refl sound.rising there in
    subst HasIt
    (sym (changed_nodes t now (refilled t now content old) blob Done ∙ ap (λ (u : Tables). u.nodes) (refilled_made t now content old)))
    (cond_both (is_same now content old) t.nodes (put node_key (change old) t.nodes) HasIt
    (λ same. record {
      led = led;
      row = old;
      there = there;
      file = file;
      filled = (content_decides old.content content).0 (and_parts (content_eq old.content content) (old.changed == now) same).0;
    })
    (λ other.
    subst HasIt (sym put_in)
    (record {
      led = leads_kept t.nodes after root path node (kept_replaced t.nodes now node content) led;
      row = change old;
      there = row_itself t.nodes node change (λ row. refl) ∙ ap (option_map change) there;
      file = file;
      filled = refl;
    })))

new_file : (t : Tables) (now folder root : ℕ) (name : List ℕ) (front : List (List ℕ)) (content : List Piece) (blob : Option ℕ) → AreSound t
    → is_folder t.nodes folder ≡ true → Leads t.nodes root front folder
    → HasFile (changed t now (stored_new t (new_node t now folder name File content) blob)).nodes root (front ++ name ∷ []) content t.meta.next_node
new_file t now folder root name front content blob sound folds led =
    let row = new_node t now folder name File content in
    let behind : List NodeRow = t.nodes ++ row ∷ [] in
    let kept = kept_joined t.nodes (row ∷ []) in
    let gone = unsettled t (charged t row.owner 0 (content_size content)) [] in
    subst (λ (nodes : List NodeRow). HasFile nodes root (front ++ name ∷ []) content t.meta.next_node)
    (sym (ap (λ (u : Tables). u.nodes) (added_made t row gone) ∙ put_new row t.nodes (newest t sound)))
    (record {
      row = row;
      led = leads_more behind root front folder row (leads_kept t.nodes behind root front folder kept led)
          (folder_kept t.nodes behind folder kept folds).0 (new_there t.nodes row (newest t sound)) refl;
      there = new_there t.nodes row (newest t sound);
      file = refl;
      filled = refl;
    })

-- the number of the file that is stored over, or of the new one
abbrev stored_node : Tables → LockKey → ℕ
stored_node t (Node node) = node
stored_node t (Slot folder name) = t.meta.next_node

stored_file : (t : Tables) (now : ℕ) (key : LockKey) (digest : List ℕ) (size root : ℕ) (path : List (List ℕ)) → AreSound t
    → IsHeld t key → LeadsToKey t.nodes root path key
    → HasFile (changed t now (stored_at t now key digest size)).nodes root path (content_in (blob_for t.meta.next_blob size) digest size)
    (stored_node t key)
stored_file t now (Node node) digest size root path sound there led =
    let content = content_in (blob_for t.meta.next_blob size) digest size in
    let blob = blob_for t.meta.next_blob size in
    let file = holds_some (λ row. not (is_folder_kind row.kind)) (node_row t.nodes node) there in
    subst (λ (o : Option NodeRow). HasFile (changed t now (allowed.Change (option_map_or (refilled t now content) o []) blob Done)).nodes root path content node) (sym file.1)
    (over_file t now node root path content blob file.0 sound file.1 (not-true (is_folder_kind file.0.kind) file.2) led)
stored_file t now (Slot folder name) digest size root path sound there (front, parts, led) =
    let blob = blob_for t.meta.next_blob size in
    let content = content_in blob digest size in
    subst (λ (names : List (List ℕ)). HasFile (changed t now (stored_at t now (Slot folder name) digest size)).nodes root names content t.meta.next_node) (sym parts)
    (new_file t now folder root name front content blob sound there.0 led)

pub none_refused : (refusal : Option Denial) (act : Allowed) → IsOk (answered_by (unless_refused refusal act)) → unless_refused refusal act ≡ Ok act
none_refused None act ok = refl
none_refused (Some refusal) act ok = absurd (false≢true ok)

entry_file : (n : ℕ) (s : State) (e : Entry) (root : ℕ) (path : List (List ℕ)) (content : List Piece) → (is : IsStored n s e root path content)
    → HasFile (after s e).tables.nodes root path content (stored_node s.tables is.key)
entry_file n s e root path content is =
    let t = s.tables in
    let act = stored_at t e.moment is.key is.digest is.size in
    let goes : decision_of s e.seat e.moment e.event ≡ stores (access_of s) t e.moment is.by is.key is.digest is.size =
    ap (decision_of s e.seat e.moment) is.brought ∙ ap (ends_at (access_of s) t e.moment (Body is.digest is.size)) is.granted in
    let none : stores (access_of s) t e.moment is.by is.key is.digest is.size ≡ Ok act =
    none_refused (end_refusal (access_of s) t e.moment is.by is.key is.size) act (subst (λ (d : Result Allowed Denial). IsOk (answered_by d)) goes is.accepted) in
    let becomes : (after s e).tables ≡ changed t e.moment act =
    ap (λ (m : Mark). (after_mark s e m).tables) is.answered
    ∙ step_changed s e.seat e.moment e.event act (goes ∙ none) in
    let there = subst (λ (o : Option Goal). IfSome o (IsStorable t)) is.granted (goal_held s e.seat is.sound) in
    let file = stored_file t e.moment is.key is.digest is.size root path is.sound.rows there.0 is.led in
    subst (λ (c : List Piece). HasFile (after s e).tables.nodes root path c (stored_node t is.key)) (sym is.body)
    (subst (λ (u : Tables). HasFile u.nodes root path (content_in (blob_for t.meta.next_blob is.size) is.digest is.size) (stored_node t is.key))
    (sym becomes) file)

-- ---- what is read

-- who asks is reached by the mount of a path, if it goes by one, and may read what is at its end
pub record IsLet (call : Call) (spot : Spot) (node : ℕ) : Type 0 where
  pub reached : unreached (access_of call.state) call (way_of call spot) ≡ None
  pub reads : may_by (access_of call.state) call.state.tables.nodes (seeker_of call) call.now Read node (way_of call spot).mount ≡ true

-- a user's names that lead from a root go by no mount: the first, if there is one, is that of a child
led_unmounted : (t : Tables) (user root : ℕ) (names : List (List ℕ)) (node : ℕ) → AreSound t → Leads t.nodes root names node
    → mounted t.nodes t.mounts user root names ≡ None
led_unmounted t user _ _ _ sound (stays at) = refl
led_unmounted t user _ _ _ sound (leads_on at name names child node folds there place named led) =
    let is : child_of t.nodes at name ≡ Some child.id =
    subst (λ (n : List ℕ). child_of t.nodes at n ≡ Some child.id) named (child_there t.nodes at child sound.names there place) in
    ap (λ (o : Option ℕ). if is_some o then None else mount_at t.mounts user name) is

-- what is at the end of a path is found there, and who asks may read it
record IsShown (call : Call) (spot : Spot) (node : ℕ) : Type 0 where
  at : found call spot ≡ At node
  lets : IsLet call spot node

-- so the way of such a path is from the user's root, and what it leads to is the user's own
owner_shown : (call : Call) (spot : Spot) (node : ℕ) → AreSound call.state.tables → seeker_of call ≡ User (asker_of call)
    → Leads call.state.tables.nodes (root_of call) spot.path node → Owns call.state.tables.nodes (seeker_of call) node → IsShown call spot node
owner_shown call spot node sound seeks led own = record {
  at = ap (λ (way : Way). way.place) way;
  lets = record {
    reached = ap (unreached (access_of call.state) call) way;
    reads = own_may (access_of call.state) t.nodes (seeker_of call) call.now Read node (way_of call spot).mount own;
  };
}
  where
    t : Tables
    t = call.state.tables

    mount : mount_of call spot ≡ None
    mount =
        ap (λ (s : Seeker). mount_for t.nodes t.mounts s (root_of call) spot.path) seeks
        ∙ led_unmounted t (asker_of call) (root_of call) spot.path node sound led

    way : way_of call spot ≡ record { mount = None; itself = false; place = At node }
    way =
        ap (way_by t.nodes (seeker_of call) (root_of call) spot.path) mount
        ∙ ap (λ (place : Found). record { mount = None; itself = false; place = place }) (leads_found t 0 (root_of call) spot.path node sound led)

-- all paths of a link go by what that is of, where a chain lets who knows it read
link_shown : (call : Call) (spot : Spot) (node : ℕ) (share : ShareRow) (up : List ShareRow) → AreSound call.state.tables
    → is_by_link call.request.caller ≡ true → Leads call.state.tables.nodes (root_of call) spot.path node
    → Allows (ground_of call.state.tables) call.now (seeker_of call) (root_of call) Read share up → IsShown call spot node
link_shown call spot node share up sound by led allowed = record {
  at = ap (λ (way : Way). way.place) way;
  lets = record {
    reached = ap (unreached (access_of call.state) call) way
        ∙ ap (λ (b : Bool). if b then None else Some (broken_by g (seeker_of call) call.now None (root_of call))) opens;
    reads = ap (λ (way : Way). may_by (access_of call.state) t.nodes (seeker_of call) call.now Read node way.mount) way
        ∙ or_right (is_owner t.nodes (seeker_of call) node) (list_any (allows call.now Read) (access_of call.state (seeker_of call) (root_of call))) reads;
  };
}
  where
    t : Tables
    t = call.state.tables

    g : Ground
    g = ground_of t

    way : way_of call spot ≡ record { mount = Some (root_of call); itself = false; place = At node }
    way =
        ap (λ (s : Seeker). way_by t.nodes s (root_of call) spot.path (mount_of call spot)) (link_seeks call by)
        ∙ ap (way_by t.nodes (Link (linked_of call)) (root_of call) spot.path) (link_mount call spot by)
        ∙ ap (λ (place : Found). record { mount = Some (root_of call); itself = false; place = place })
        (leads_found t 0 (root_of call) spot.path node sound led)

    opens : list_any (is_open call.now) (access_of call.state (seeker_of call) (root_of call)) ≡ true
    opens = (reach_is_a_chain_lem g call.now (seeker_of call) (root_of call) (bounded t sound)).1 (share, up, allowed.reaches)

    reads : list_any (allows call.now Read) (access_of call.state (seeker_of call) (root_of call)) ≡ true
    reads = (grants_are_chains_lem g call.now (seeker_of call) Read (root_of call) (bounded t sound)).1 (share, up, allowed)

-- whoever of the two asks is shown what a path leads to
led_shown : (call : Call) (spot : Spot) (node : ℕ) (row : NodeRow) → AreSound call.state.tables → IsWellAsked call → IsLetRead call (link_of call)
    → Leads call.state.tables.nodes (root_of call) spot.path node → node_row call.state.tables.nodes node ≡ Some row → IsShown call spot node
led_shown call spot node row sound asked reads led there = here (has_asker call asked.token asked.linked)
  where
    here : IsAsking call → IsShown call spot node
    here (by_user user is) =
        owner_shown call spot node sound (user_seeks call user is) led
        (led_own call spot.path node row sound led there (user_no_link call user is).0)
    here (by_link link by is) =
        let let_read : IsLetRead call (Some link) = subst (IsLetRead call) is reads in
        let root : root_of call ≡ link.node =
        ap (λ (o : Option ShareRow). option_map_or (λ row. row.node) o (option_map_or (λ row. row.root) (caller_row call) 0)) is in
        link_shown call spot node let_read.0 let_read.1 sound by led
        (subst (λ (n : ℕ). Allows (ground_of call.state.tables) call.now (seeker_of call) n Read let_read.0 let_read.1) (sym root) let_read.2)

-- a call of a GET that the rules of who asks, of names and of access pass is shown what its path leads to
pub shows : (call : Call) (spot : Spot) (node : ℕ) → call.request.wanted ≡ Get spot → found call spot ≡ At node → IsWellAsked call
    → IsLet call spot node → (is_folder call.state.tables.nodes node ≡ false → IsFreeToRead call.state call.seat node) → call_decision call ≡ Ok (shown (access_of call.state) call (way_of call spot).mount node)
unfolding place_rule named_rule acts_rule version_rule exists_rule target_rule overwrite_rule sharing_rule upload_rule limit_rule room_rule quota_rule
shows call spot node wanted at asked lets free =
    let access = access_of call.state in
    let passes : Passes access call = record {
      token = asked.token;
      not_you = asked.not_you;
      forbidden = asked.forbidden;
      place = rw (wanted, asked.linked, at, lets.reached) refl;
      named = rw wanted refl;
      acts = rw (wanted, at, lets.reads) refl;
      version = rw wanted refl;
      exists = rw wanted refl;
      target = rw wanted refl;
      overwrite = rw wanted refl;
      sharing = rw wanted refl;
      upload = rw wanted refl;
      locked = free_unlocked call spot node wanted at free;
      limit = rw wanted refl;
      room = rw wanted refl;
      quota = rw wanted refl;
    } in
    ap (λ (refusal : Option Denial). unless_refused refusal (allowed_of access call)) (none_of rules access call (in_order access call passes))
    ∙ rw (wanted, at) refl

-- so it is granted the content of a file
pub granted : (call : Call) (spot : Spot) (node : ℕ) (row : NodeRow) → call.request.wanted ≡ Get spot → found call spot ≡ At node
    → node_row call.state.tables.nodes node ≡ Some row → is_folder_kind row.kind ≡ false → IsWellAsked call → IsLet call spot node
    → IsFreeToRead call.state call.seat node → answered_by (call_decision call) ≡ Ok (Granted (Serve row.content))
granted call spot node row wanted at there file asked lets free =
    let folder : is_folder call.state.tables.nodes node ≡ false = rw there file in
    ap answered_by (shows call spot node wanted at asked lets (λ no_folder. free)) ∙ rw (folder, there) refl

pub stored_is_read : StoredIsRead
stored_is_read n s e es root path content seat now words request is legal same reads =
    let first = after s e in
    let last = replay first es in
    let call = call_of last seat now words request in
    let sound : IsSound last = states.stays (n + 1) first es (states.sound_after n s e is.sound is.may) legal in
    let file = entry_file n s e root path content is in
    let node = stored_node s.tables is.key in
    let led = leads_stay first.tables.nodes last.tables.nodes root path node file.led same in
    let there : node_row last.tables.nodes node ≡ Some file.row =
    same (length path) node (le_refl _)
    (subst (λ (names : List (List ℕ)). Leads first.tables.nodes root names node) (sym (take-length path)) file.led)
    ∙ file.there in
    let from : Leads last.tables.nodes (root_of call) reads.spot.path node =
    subst (λ (from : ℕ). Leads last.tables.nodes from reads.spot.path node) (sym reads.from)
    (subst (λ (names : List (List ℕ)). Leads last.tables.nodes root names node) (sym reads.of_path) led) in
    let shown = led_shown call reads.spot node file.row sound.rows reads.asked reads.reads from there in
    granted call reads.spot node file.row reads.wanted shown.at there file.file reads.asked shown.lets (reads.free node led)
    ∙ ap (λ (c : List Piece). answered_by (Ok (allowed.Get node c))) file.filled

-- ---- who stores over it

-- right after its End nobody stores over what was stored
pub stored_free : (n : ℕ) (s : State) (e : Entry) (root : ℕ) (path : List (List ℕ)) (content : List Piece) (is : IsStored n s e root path content)
    (node seat : ℕ) → Leads (after s e).tables.nodes root path node → IsFreeToRead (after s e) seat node
stored_free n s e root path content is node seat led =
    subst (λ (tickets : List Ticket). All Free tickets) (sym tickets)
    (λ k d within other holds.
    let ticket = get_or (without_ticket s e.seat).tickets k d in
    never ticket (All-filter (λ ticket. not (ticket.seat == e.seat)) (IsTicketSound s.tables) s.tickets is.sound.tickets k d within)
    (apart k d within (not-true (ticket.seat == e.seat) (filter_passes (λ ticket. not (ticket.seat == e.seat)) s.tickets k d within))) holds)
  where
    Free : Ticket → Type 0
    Free ticket = ticket.seat ≢ seat → ticket.hold ≢ Some (record { key = Node node; mode = Exclusive })

    t : Tables
    t = s.tables

    tickets : (after s e).tickets ≡ (without_ticket s e.seat).tickets
    tickets =
        ap (λ (m : Mark). (after_mark s e m).tickets) is.answered
        ∙ ap (λ (event : Event). (step s e.seat e.moment event).tickets) is.brought ∙ end_tickets s e.seat e.moment (Body is.digest is.size)

    -- the node is the one that was stored
    stored : node ≡ stored_node t is.key
    stored =
        let made = states.sound_after n s e is.sound is.may in
        let file = entry_file n s e root path content is in
        let both = sym (leads_found (after s e).tables 0 root path node made.rows led)
        ∙ leads_found (after s e).tables 0 root path (stored_node t is.key) made.rows file.led in cc

    -- which nobody else held
    own : (ticket : Ticket) × (ticket_of s e.seat ≡ Some ticket) × (ticket.goal ≡ Store is.by is.key is.size)
    own = here (ticket_of s e.seat) refl is.granted
      where
        here : (o : Option Ticket) → ticket_of s e.seat ≡ o → option_map (λ ticket. ticket.goal) o ≡ Some (Store is.by is.key is.size)
            → (ticket : Ticket) × (ticket_of s e.seat ≡ Some ticket) × (ticket.goal ≡ Store is.by is.key is.size)
        here None at granted = absurd (none-some (Store is.by is.key is.size) granted)
        here (Some ticket) at granted = (ticket, at, same_Some ticket.goal (Store is.by is.key is.size) granted)

    held : own.0.hold ≡ Some (record { key = is.key; mode = Exclusive })
    held =
        let sound = subst (λ (o : Option Ticket). IfSome o (IsTicketSound t)) own.1
        (found_has (IsTicketSound t) (λ (ticket : Ticket). ticket.seat == e.seat) s.tickets is.sound.tickets) in
        subst (λ (goal : Goal). HoldsFor goal own.0.hold) own.2 sound.hold

    apart : All (λ (ticket : Ticket). (ticket.seat == e.seat) ≡ false → AreApartHolds (Some (record { key = is.key; mode = Exclusive })) ticket.hold)
        (without_ticket s e.seat).tickets
    apart =
        All-filter (λ ticket. not (ticket.seat == e.seat))
        (λ (ticket : Ticket). (ticket.seat == e.seat) ≡ false → AreApartHolds (Some (record { key = is.key; mode = Exclusive })) ticket.hold) s.tickets
        (λ k d within other.
        subst (λ (o : Option Hold). AreApartHolds o (get_or s.tickets k d).hold) held
        (found_apart (λ (a b : Ticket). AreApartHolds a.hold b.hold) holds_turned (λ ticket. ticket.seat == e.seat) s.tickets own.0 is.sound.apart own.1
        k d within other))

    never : (ticket : Ticket) → IsTicketSound t ticket → AreApartHolds (Some (record { key = is.key; mode = Exclusive })) ticket.hold
        → ticket.hold ≢ Some (record { key = Node node; mode = Exclusive })
    never ticket sound differs holds =
        let there = subst (λ (o : Option Hold). IfSome o (λ (hold : Hold). IsHeld t hold.key)) holds sound.held in
        let other = subst (λ (o : Option Hold). AreApartHolds (Some (record { key = is.key; mode = Exclusive })) o) holds differs in
        here is.key stored (λ same. let both = other same in cc) (held_given t (Node node) is.sound.rows there)
      where
        here : (key : LockKey) → node ≡ stored_node t key → (key ≡ Node node → ⊥) → node < t.meta.next_node → ⊥
        here (Node one) same other given = other (ap Node (sym same))
        here (Slot folder name) same other given = omega (arith, same, given)
