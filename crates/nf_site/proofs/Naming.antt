-- The blobs that rows name: those of what nodes, versions and chunks contain.
use Rattle.std.proofs.Common.{◌≡◌, ◌⊎◌, ⊎_elim, ◌↔◌, inl, inr, ℕ, zero, suc, List, [], ◌∷◌, ◌++◌, map, refl, sym, ap, subst, ◌∙◌, arith}
use Rattle.std.specs.List.{Contains, flat_map}
use Rattle.std.proofs.lemmas.Grind.{flat_map-append}
use Rattle.std.proofs.lemmas.List.{append_assoc, map-append}
use Rattle.std.proofs.lemmas.List.Elements.{Contains-append_cases, Contains-append_left, Contains-append_right}
use Rattle.std.proofs.lemmas.List.Folds.{flat_map-map}
use Rattle.nf_base.specs.declared.content.Piece.{Piece}
use Rattle.nf_base.specs.declared.rows.ChunkRow.{ChunkRow}
use Rattle.nf_base.specs.declared.rows.NodeRow.{NodeRow}
use Rattle.nf_base.specs.declared.rows.Row.{Row}
use Rattle.nf_base.specs.declared.rows.Row.TheVariants.{User, Token, Group, Member, Node, Share, Mount, Version, Item, Upload, Chunk}
use Rattle.nf_base.specs.declared.rows.VersionRow.{VersionRow}
use Rattle.nf_defs.specs.Tables.{Tables, rows_of}
use Rattle.nf_laws.specs.Named.{IsNamedBlob, blobs_named, blobs_of, goal_blobs, named_blobs}
use Rattle.nf_words.specs.Prelude.{contents_of, row_content, State}
use Rattle.nf_words.specs.declared.history.Ticket.{Ticket}
use Rattle.nf_site.specs.Naming.{NamesBlob}

-- ---- members

pub contains_cases : {X : Type 0} (y x : X) (xs : List X) → Contains (y ∷ xs) x → (y ≡ x) ⊎ Contains xs x
contains_cases y x xs (zero, within, same) = inl same
contains_cases y x xs (suc k, within, same) = inr (k, omega (arith, within), same)

pub contains_none : {X : Type 0} (x : X) → Contains [] x → ⊥
contains_none x is = omega (arith, is.1)

pub flat_has : {X Y : Type 0} (f : X → List Y) (xs : List X) (x : X) (y : Y) → Contains xs x → Contains (f x) y → Contains (flat_map f xs) y
flat_has f [] x y among has = absurd (contains_none x among)
flat_has {X} f (z ∷ xs) x y among has = here (contains_cases z x xs among) (λ later. flat_has f xs x y later has)
  where
    here : (z ≡ x) ⊎ Contains xs x → (Contains xs x → Contains (flat_map f xs) y) → Contains (f z ++ flat_map f xs) y
    here (inl same) rest = Contains-append_left (f z) (flat_map f xs) y (subst (λ (one : X). Contains (f one) y) (sym same) has)
    here (inr later) rest = Contains-append_right (f z) (flat_map f xs) y (rest later)

pub its_number : (pieces : List Piece) (piece : Piece) → Contains pieces piece → Contains (blobs_of pieces) piece.blob
its_number [] piece is = absurd (contains_none piece is)
its_number (one ∷ pieces) piece is = here (contains_cases one piece pieces is) (its_number pieces piece)
  where
    here : (one ≡ piece) ⊎ Contains pieces piece → (Contains pieces piece → Contains (blobs_of pieces) piece.blob)
        → Contains (one.blob ∷ blobs_of pieces) piece.blob
    here (inl same) others = (0, omega arith, ap (λ (x : Piece). x.blob) same)
    here (inr among) others = let more = others among in (suc more.0, omega (arith, more.1), more.2)

-- ---- a blob is in the list exactly where a row names it

from_flat : {X Y : Type 0} (f : X → List Y) (xs : List X) (y : Y) → Contains (flat_map f xs) y
    → (x : X) × (Contains xs x × Contains (f x) y)
from_flat f [] y is = absurd (contains_none y is)
from_flat {X} {Y} f (x ∷ xs) y is =
    here (Contains-append_cases (f x) (flat_map f xs) y is) (λ later. from_flat f xs y later)
  where
    here : Contains (f x) y ⊎ Contains (flat_map f xs) y
        → (Contains (flat_map f xs) y → (z : X) × (Contains xs z × Contains (f z) y))
        → (z : X) × (Contains (x ∷ xs) z × Contains (f z) y)
    here (inl mine) rest = (x, ((0, omega arith, refl), mine))
    here (inr among) rest =
        let later = rest among in (later.0, ((suc later.1.0.0, omega (arith, later.1.0.1), later.1.0.2), later.1.1))

with_number : (pieces : List Piece) (id : ℕ) → Contains (blobs_of pieces) id → (piece : Piece) × (Contains pieces piece × (piece.blob ≡ id))
with_number [] id is = absurd (contains_none id is)
with_number (piece ∷ pieces) id is = here (contains_cases piece.blob id (blobs_of pieces) is) (λ later. with_number pieces id later)
  where
    here : (piece.blob ≡ id) ⊎ Contains (blobs_of pieces) id
        → (Contains (blobs_of pieces) id → (one : Piece) × (Contains pieces one × (one.blob ≡ id)))
        → (one : Piece) × (Contains (piece ∷ pieces) one × (one.blob ≡ id))
    here (inl same) rest = (piece, ((0, omega arith, refl), same))
    here (inr among) rest =
        let later = rest among in (later.0, ((suc later.1.0.0, omega (arith, later.1.0.1), later.1.0.2), later.1.1))

pub exactly_named : (rows : List Row) (id : ℕ) → Contains (named_blobs rows) id ↔ IsNamedBlob rows id
exactly_named rows id = (there, back)
  where
    there : Contains (named_blobs rows) id → IsNamedBlob rows id
    there is =
        let found = with_number (flat_map row_content rows) id is in
        let row = from_flat row_content rows found.0 found.1.0 in
        (found.0, (record { row = row.0; among = row.1.0; named = row.1.1 }, found.1.1))

    back : IsNamedBlob rows id → Contains (named_blobs rows) id
    back (piece, (named, same)) = subst (λ (n : ℕ). Contains (named_blobs rows) n) same
        (its_number (flat_map row_content rows) piece (flat_has row_content rows named.row piece named.among named.named))

-- ---- kind by kind

abbrev joined : List (List Piece) → List Piece
joined contents = flat_map (λ (content : List Piece). content) contents

-- rows of a kind that has no content name nothing
none_name : {X : Type 0} (f : X → Row) (xs : List X) → ((x : X) → row_content (f x) ≡ []) → flat_map row_content (map f xs) ≡ []
none_name f [] none = refl
none_name f (x ∷ xs) none =
    ap (λ (pieces : List Piece). pieces ++ flat_map row_content (map f xs)) (none x) ∙ none_name f xs none

behind : {X : Type 0} (f : X → Row) (xs : List X) (rows : List Row) → ((x : X) → row_content (f x) ≡ [])
    → flat_map row_content (map f xs ++ rows) ≡ flat_map row_content rows
behind f xs rows none =
    flat_map-append row_content (map f xs) rows
    ∙ ap (λ (pieces : List Piece). pieces ++ flat_map row_content rows) (none_name f xs none)

-- and those of another are named first
before : {X : Type 0} (f : X → Row) (content : X → List Piece) (xs : List X) (rows : List Row) (contents : List (List Piece))
    → ((x : X) → row_content (f x) ≡ content x) → flat_map row_content rows ≡ joined contents
    → flat_map row_content (map f xs ++ rows) ≡ joined (map content xs ++ contents)
before f content [] rows contents its rest = rest
before f content (x ∷ xs) rows contents its rest =
    (λ i. its x i ++ before f content xs rows contents its rest i)

-- what rows name are their contents, one after the other
pub rows_contents : (t : Tables) → flat_map row_content (rows_of t) ≡ joined (contents_of t)
rows_contents t =
    let uploads = map Upload t.uploads ++ map Chunk t.chunks in
    let items = map Item t.items ++ uploads in
    let versions = map Version t.versions ++ items in
    let mounts = map Mount t.mounts ++ versions in
    let shares = map Share t.shares ++ mounts in
    let nodes = map Node t.nodes ++ shares in
    let members = map Member t.members ++ nodes in
    let groups = map Group t.groups ++ members in
    let tokens = map Token t.tokens ++ groups in
    let chunks : flat_map row_content (map Chunk t.chunks) ≡ joined (map (λ (row : ChunkRow). row.content) t.chunks) =
    flat_map-map row_content Chunk t.chunks
    ∙ sym (flat_map-map (λ (content : List Piece). content) (λ (row : ChunkRow). row.content) t.chunks) in
    behind User t.users tokens (λ row. refl) ∙ behind Token t.tokens groups (λ row. refl) ∙ behind Group t.groups members (λ row. refl)
    ∙ behind Member t.members nodes (λ row. refl)
    ∙ before Node (λ (row : NodeRow). row.content) t.nodes shares
    (map (λ (row : VersionRow). row.content) t.versions ++ map (λ (row : ChunkRow). row.content) t.chunks) (λ row. refl)
    (behind Share t.shares mounts (λ row. refl) ∙ behind Mount t.mounts versions (λ row. refl)
    ∙ before Version (λ (row : VersionRow). row.content) t.versions items (map (λ (row : ChunkRow). row.content) t.chunks) (λ row. refl)
    (behind Item t.items uploads (λ row. refl) ∙ behind Upload t.uploads (map Chunk t.chunks) (λ row. refl) ∙ chunks))

-- ---- table by table

rows_blobs : {X : Type 0} (content : X → List Piece) (rows : List X)
    → blobs_of (joined (map content rows)) ≡ flat_map (λ (row : X). blobs_of (content row)) rows
rows_blobs content [] = refl
rows_blobs content (row ∷ rows) =
    map-append (λ (piece : Piece). piece.blob) (content row) (joined (map content rows))
    ∙ ap (λ (blobs : List ℕ). blobs_of (content row) ++ blobs) (rows_blobs content rows)

abbrev node_blobs : Tables → List ℕ
node_blobs t = flat_map (λ (row : NodeRow). blobs_of row.content) t.nodes

abbrev version_blobs : Tables → List ℕ
version_blobs t = flat_map (λ (row : VersionRow). blobs_of row.content) t.versions

abbrev chunk_blobs : Tables → List ℕ
chunk_blobs t = flat_map (λ (row : ChunkRow). blobs_of row.content) t.chunks

abbrev sent_blobs : State → List ℕ
sent_blobs s = flat_map (λ (ticket : Ticket). goal_blobs ticket.goal) s.tickets

-- the blobs of one content after another
parts_blobs : (one other : List (List Piece)) → blobs_of (joined (one ++ other)) ≡ blobs_of (joined one) ++ blobs_of (joined other)
parts_blobs one other =
    ap blobs_of (flat_map-append (λ (content : List Piece). content) one other)
    ∙ map-append (λ (piece : Piece). piece.blob) (joined one) (joined other)

rows_named : (t : Tables) → named_blobs (rows_of t) ≡ (node_blobs t ++ version_blobs t) ++ chunk_blobs t
rows_named t =
    let of_node = λ (row : NodeRow). row.content in
    let of_version = λ (row : VersionRow). row.content in
    let of_chunk = λ (row : ChunkRow). row.content in
    ap blobs_of (rows_contents t)
    ∙ parts_blobs (map of_node t.nodes) (map of_version t.versions ++ map of_chunk t.chunks)
    ∙ ap (λ (blobs : List ℕ). blobs_of (joined (map of_node t.nodes)) ++ blobs) (parts_blobs (map of_version t.versions) (map of_chunk t.chunks))
    ∙ (λ i. rows_blobs of_node t.nodes i ++ (rows_blobs of_version t.versions i ++ rows_blobs of_chunk t.chunks i))
    ∙ sym (append_assoc (node_blobs t) (version_blobs t) (chunk_blobs t))

-- what nodes, versions and chunks contain and what is to be sent is all that is named
pub all_named : (s : State) → ((node_blobs s.tables ++ version_blobs s.tables) ++ chunk_blobs s.tables) ++ sent_blobs s ≡ blobs_named s
all_named s = ap (λ (blobs : List ℕ). blobs ++ sent_blobs s) (sym (rows_named s.tables))

-- a blob is among them exactly where a row or a granted GET names it
pub names_blob : (s : State) (id : ℕ) → Contains (blobs_named s) id ↔ NamesBlob s id
names_blob s id = (there, back)
  where
    there : Contains (blobs_named s) id → NamesBlob s id
    there is = ⊎_elim (λ named. inl ((exactly_named (rows_of s.tables) id).0 named))
        (λ sent. inr (from_flat (λ (ticket : Ticket). goal_blobs ticket.goal) s.tickets id sent))
        (Contains-append_cases (named_blobs (rows_of s.tables)) (sent_blobs s) id is)

    back : NamesBlob s id → Contains (blobs_named s) id
    back (inl named) = Contains-append_left (named_blobs (rows_of s.tables)) (sent_blobs s) id ((exactly_named (rows_of s.tables) id).1 named)
    back (inr (ticket, (among, sent))) = Contains-append_right (named_blobs (rows_of s.tables)) (sent_blobs s) id
        (flat_has (λ (one : Ticket). goal_blobs one.goal) s.tickets ticket id among sent)
