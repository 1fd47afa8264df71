-- Nodes of sound tables lead up, and go on to where rows come among them.
use Rattle.std.proofs.Common.{ℕ, zero, suc, ◌+◌, ◌<◌, ◌==◌, ◌≡◌, ◌≤◌, List, [], ◌∷◌, ◌++◌, inl, inr, Option, Some, get_or, length, take, refl, sym, ap, subst, ◌∙◌, arith, length-append}
use Rattle.std.specs.List.{All}
use Rattle.std.specs.Option.{option_and_then}
use Rattle.std.proofs.lemmas.List.{get_or-append-add, get_or-take, length-take}
use Rattle.std.proofs.lemmas.List.Elements.{All-append, All-push, All-weaker}
use Rattle.nf_base.specs.declared.limits.TheConstants.{MAX_DEPTH}
use Rattle.nf_base.specs.declared.changes.Change.{Change}
use Rattle.nf_base.specs.declared.changes.Change.TheVariants.{Drop, Put}
use Rattle.nf_base.specs.declared.changes.RowKey.TheVariants as keys
use Rattle.nf_base.specs.declared.rows.NodeRow.{NodeRow}
use Rattle.nf_base.specs.declared.rows.Place.TheVariants.{Inside}
use Rattle.nf_base.specs.declared.rows.Row.TheVariants as rows
use Rattle.nf_base.specs.declared.rows.UserRow.{UserRow}
use Rattle.nf_charge.specs.Sums.{LeadsUp, LeadUp}
use Rattle.nf_defs.specs.Prelude.{climb, depth, filled, folder_of, made, node_row, Tables, walk_of, with_node}
use Rattle.nf_laws.proofs.Added.{new_there}
use Rattle.nf_laws.proofs.Climbs.{depth_is, node_row_each, parent_at}
use Rattle.nf_laws.proofs.Copied.{copy_at, copy_in, walk_first}
use Rattle.nf_laws.proofs.InTurn.{Joins}
use Rattle.nf_laws.proofs.Lists.{born_made, filled_made, Rising}
use Rattle.nf_laws.proofs.OneRow.{with_all}
use Rattle.nf_laws.proofs.Peopled.{people_nodes}
use Rattle.nf_laws.proofs.Replaced.{kept_replaced}
use Rattle.nf_laws.proofs.Rows.{AreKept, climb_kept, folder_there, found_is, kept_joined, none_over, row_id, top_kept}
use Rattle.nf_laws.proofs.Upwards.{climbs_depth, deepest_among}
use Rattle.nf_laws.proofs.Walked.{AllPairs-append}
use Rattle.nf_laws.specs.Transfers.{IsCopyOf, Mirrors}
use Rattle.nf_words.proofs.Fits.{KnownRow}
use Rattle.nf_words.proofs.Known.{KnownTransfer}
use Rattle.nf_words.specs.Prelude.{AreSound, IsBorn, IsNewUser, IsTop}
use Rattle.nf_words.specs.declared.request.Transfer.{Transfer}
use Rattle.nf_state.specs.Current.{LeadUpBehind}

-- ---- a node that leads up

abbrev LeadsHere : List NodeRow → NodeRow → Type 0
LeadsHere rows row = LeadsUp rows MAX_DEPTH row.id

top_of : (rows : List NodeRow) (most node : ℕ) (leads : LeadsUp rows most node) → IsTop rows leads.top.id
top_of rows most node leads = record { row = leads.top; there = leads.there; ends = leads.ends }

-- it climbs to a top
leads_to : (rows : List NodeRow) (most node steps top : ℕ) → steps ≤ most → climb rows steps node ≡ Some top → IsTop rows top
    → LeadsUp rows most node
leads_to rows most node steps top few climbs ends =
    let same = row_id rows top ends.row ends.there in
    record {
      steps = steps;
      few = few;
      top = ends.row;
      climbs = climbs ∙ ap Some (sym same);
      there = ap (node_row rows) same ∙ ends.there;
      ends = ends.ends;
    }

leads_more : (rows : List NodeRow) (most more node : ℕ) → most ≤ more → LeadsUp rows most node → LeadsUp rows more node
leads_more rows most more node higher leads =
    leads_to rows more node leads.steps leads.top.id (omega (arith, leads.few)) leads.climbs (top_of rows most node leads)

-- and still does where each node keeps its place
leads_kept : (rows others : List NodeRow) (most node : ℕ) → AreKept rows others → LeadsUp rows most node → LeadsUp others most node
leads_kept rows others most node kept leads =
    leads_to others most node leads.steps leads.top.id leads.few (climb_kept leads.steps rows others node leads.top.id kept leads.climbs)
    (top_kept rows others leads.top.id kept (top_of rows most node leads))

-- in just as many steps as it is deep
leads_depth : (rows : List NodeRow) (node : ℕ) → LeadsUp rows MAX_DEPTH node → LeadsUp rows (depth rows node) node
leads_depth rows node leads =
    let ends = top_of rows MAX_DEPTH node leads in
    let deep = depth_is leads.steps rows node leads.top.id (none_over rows leads.top.id ends) leads.few leads.climbs in
    leads_to rows (depth rows node) node leads.steps leads.top.id (omega (arith, deep)) leads.climbs ends

-- and what is in it does in a step more
leads_child : (rows : List NodeRow) (most node folder : ℕ) (row : NodeRow) → node_row rows node ≡ Some row → row.place ≡ Inside folder
    → LeadsUp rows most folder → LeadsUp rows (suc most) node
leads_child rows most node folder row there place leads =
    let up = parent_at rows node folder row there place in
    leads_to rows (suc most) node (suc leads.steps) leads.top.id (omega (arith, leads.few))
    (ap (option_and_then (climb rows leads.steps)) up ∙ leads.climbs) (top_of rows most folder leads)

-- ---- sound tables

pub sound_leads : (t : Tables) → AreSound t → LeadUp t.nodes
sound_leads t sound k d within =
    let row = sound.nodes k d within in
    leads_to t.nodes MAX_DEPTH (get_or t.nodes k d).id row.steps row.top row.shallow row.climbs row.ends

-- ---- rows that are put

-- with rows behind them those that are there lead up
leads_before : (rows more : List NodeRow) → LeadUp rows → All (LeadsHere (rows ++ more)) rows
leads_before rows more leads =
    All-weaker (LeadsHere rows) (LeadsHere (rows ++ more))
    (λ row here. leads_kept rows (rows ++ more) MAX_DEPTH row.id (kept_joined rows more) here) rows leads

-- so does a new one
pub leads_born : (t : Tables) (row : NodeRow) → LeadUp t.nodes → IsBorn t row → LeadUp (t.nodes ++ row ∷ [])
leads_born t row leads born =
    let nodes = t.nodes in
    let all = nodes ++ row ∷ [] in
    let folder = folder_there nodes born.folder born.in_folder in
    let up = found_is (LeadsHere nodes) (λ old. old.id == born.folder) nodes folder.0 leads folder.1 in
    let over = leads_depth nodes born.folder (subst (LeadsUp nodes MAX_DEPTH) (row_id nodes born.folder folder.0 folder.1) up.1) in
    let further = leads_kept nodes all (depth nodes born.folder) born.folder (kept_joined nodes (row ∷ [])) over in
    let new = leads_child all (depth nodes born.folder) row.id born.folder row (new_there nodes row born.newest) born.place further in
    All-push (LeadsHere all) nodes row (leads_before nodes (row ∷ []) leads)
    (leads_more all (suc (depth nodes born.folder)) MAX_DEPTH row.id (omega (arith, born.deep)) new)

-- a new user's root is a top itself
pub leads_rooted : (t : Tables) (row : UserRow) (root : NodeRow) → LeadUp t.nodes → IsNewUser t row root → LeadUp (t.nodes ++ root ∷ [])
leads_rooted t row root leads new =
    let all = t.nodes ++ root ∷ [] in
    All-push (LeadsHere all) t.nodes root (leads_before t.nodes (root ∷ []) leads) (record {
      steps = 0;
      few = omega arith;
      top = root;
      climbs = refl;
      there = new_there t.nodes root new.newest_node;
      ends = ap folder_of new.place;
    })

-- with another content all stay in their places
leads_filled : (t : Tables) (row : NodeRow) → LeadUp t.nodes → LeadUp (with_node t.nodes row.id (filled row.content row.changed))
leads_filled t row leads =
    let change = filled row.content row.changed in
    let others = with_node t.nodes row.id change in
    with_all (LeadsHere others) t.nodes row.id change (λ old here. here)
    (All-weaker (LeadsHere t.nodes) (LeadsHere others)
    (λ old here. leads_kept t.nodes others MAX_DEPTH old.id (kept_replaced t.nodes row.changed row.id row.content) here) t.nodes leads)

-- what is known of a changed row keeps it
pub leads_row : (t u : Tables) (blob : Option ℕ) (change : Change) → Rising u.nodes → LeadUp u.nodes → KnownRow t blob u change
    → LeadUp (made u change).nodes
leads_row t u blob (Put (rows.Node row)) rising leads known =
    elim known [
      | inl it ↦ subst (λ (v : Tables). LeadUp v.nodes) (sym (born_made u row it.born)) (leads_born u row leads it.born)
      | inr it ↦ subst (λ (v : Tables). LeadUp v.nodes) (sym (filled_made u row rising it.filled)) (leads_filled u row leads)
    ]
leads_row t u blob (Put (rows.Share row)) rising leads known = leads
leads_row t u blob (Put (rows.Mount row)) rising leads known = leads
leads_row t u blob (Put (rows.Version row)) rising leads known = leads
leads_row t u blob (Put (rows.Upload row)) rising leads known = leads
leads_row t u blob (Put (rows.Chunk row)) rising leads known = leads
leads_row t u blob (Drop (keys.Version node at)) rising leads known = leads
leads_row t u blob change rising leads known = subst LeadUp (sym (people_nodes u change known.1)) leads

-- ---- copies

-- the first copies behind those that are there
module _ (t : Tables) (now : ℕ) (transfer : Transfer) (name : List ℕ) (copies : List NodeRow) (mirrors : Mirrors t now transfer name copies)
    (sound : AreSound t) (known : KnownTransfer t transfer name) (count : ℕ) where
  abbrev front : List NodeRow
  front = take count copies

  abbrev all : List NodeRow
  all = t.nodes ++ front

  front_at : (k : ℕ) (d : NodeRow) → k < length front → (k < length copies) × (get_or front k d ≡ get_or copies k d)
  front_at k d within = let long = length-take count copies in (omega (arith, long), get_or-take count copies k d (omega (arith, long)))

  copy : (k : ℕ) (d : NodeRow) → k < length front → IsCopyOf t now transfer name k (get_or copies k d)
  copy k d within = copy_at t now transfer name copies mirrors k d (front_at k d within).0

  front_id : (k : ℕ) (d : NodeRow) → k < length front → (get_or front k d).id ≡ t.meta.next_node + k
  front_id k d within = ap (λ (row : NodeRow). row.id) (front_at k d within).1 ∙ (copy k d within).id

  all_rise : Rising all
  all_rise =
      AllPairs-append (λ (a b : NodeRow). a.id < b.id) t.nodes front sound.rising
      (λ i j d before within. omega (arith, front_id i d (omega arith), front_id j d within))
      (λ i d within k e also. omega (arith, (sound.nodes i d within).given, front_id k e also))

  copy_there : (k : ℕ) (d : NodeRow) → k < length front → node_row all (t.meta.next_node + k) ≡ Some (get_or copies k d)
  copy_there k d within =
      let same = get_or-append-add t.nodes front k d ∙ (front_at k d within).1 in
      let there = node_row_each all all_rise (length t.nodes + k) d (omega (arith, length-append t.nodes front)) in
      ap (node_row all) (sym (copy k d within).id) ∙ subst (λ (row : NodeRow). node_row all row.id ≡ Some row) same there

  -- the folder of all leads up as before
  folder_leads : LeadsUp all (depth t.nodes transfer.folder) transfer.folder
  folder_leads =
      let folder = folder_there t.nodes transfer.folder known.in_folder in
      let over = climbs_depth t transfer.folder folder.0 sound folder.1 in
      leads_kept t.nodes all (depth t.nodes transfer.folder) transfer.folder (kept_joined t.nodes front)
      (leads_to t.nodes (depth t.nodes transfer.folder) transfer.folder (depth t.nodes transfer.folder) over.0 (omega arith) over.1 over.2)

  -- how deep the node of the k-th copy is
  abbrev deep_at : ℕ → ℕ
  deep_at k = depth t.nodes (get_or (walk_of t.nodes transfer.node) k 0)

  -- each copy does through those that it is in, which come before it
  copy_leads : (m k : ℕ) (d : NodeRow) → k < m → k < length front
      → (most : ℕ) × (most + deep_at 0 ≡ deep_at k + 1 + depth t.nodes transfer.folder) × LeadsUp all most (t.meta.next_node + k)
  copy_leads zero k d before within = absurd (omega arith)
  copy_leads (suc m) zero d before within = (
    suc (depth t.nodes transfer.folder),
    omega arith,
    leads_child all (depth t.nodes transfer.folder) (t.meta.next_node + 0) transfer.folder (get_or copies 0 d) (copy_there 0 d within)
        (copy 0 d within).placed.0 folder_leads,
  )
  copy_leads (suc m) (suc k) d before within =
      let c = copy_in t now transfer name copies mirrors sound k d (front_at (suc k) d within).0 in
      let rest = copy_leads m c.at d (omega (arith, c.before)) (omega (arith, c.before)) in (
        suc rest.0,
        omega (arith, rest.1, c.deeper),
        leads_child all rest.0 (t.meta.next_node + suc k) (t.meta.next_node + c.at) (get_or copies (suc k) d) (copy_there (suc k) d within)
            c.place rest.2,
      )

  front_leads : All (LeadsHere all) front
  front_leads k d within =
      let c = copy_leads (suc k) k d (omega arith) within in
      let walk = walk_of t.nodes transfer.node in
      let first = walk_first t.nodes transfer.node in
      let few : c.0 ≤ MAX_DEPTH = omega (
        arith,
        c.1,
        known.deep,
        mirrors.all,
        (front_at k d within).0,
        deepest_among t.nodes walk k 0 (omega (arith, mirrors.all, (front_at k d within).0)),
        ap (depth t.nodes) first.0,
      ) in
      subst (LeadsUp all MAX_DEPTH) (sym (front_id k d within)) (leads_more all c.0 MAX_DEPTH (t.meta.next_node + k) few c.2)

  front_all : LeadUp all
  front_all = All-append (LeadsHere all) t.nodes front (leads_before t.nodes front (sound_leads t sound)) front_leads

pub copies_lead : (t : Tables) (now : ℕ) (copies : List NodeRow) → AreSound t → Joins t now copies → LeadUpBehind t.nodes copies
copies_lead t now copies sound joins count = front_all t now joins.transfer joins.name copies joins.mirrors sound joins.known count
