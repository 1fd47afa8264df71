-- What is named is there still when the other blobs are dropped, and those are not.
use Rattle.std.proofs.Common.{◌≡◌, ◌⊎◌, ⊎_elim, inl, inr, ◌==◌, ℕ, suc, Bool, true, false, List, [], ◌∷◌, filter, get_or, refl, sym, subst, ◌∙◌, arith}
use Rattle.std.specs.Prelude.{Option, None, Some, option_map}
use Rattle.std.specs.List.{All, Contains, flat_map, list_any}
use Rattle.std.proofs.lemmas.Bool.{both_ways, eq-eqb, eqb-true}
use Rattle.std.proofs.lemmas.List.Elements.{Contains-append_left, Contains-get_or}
use Rattle.nf_base.specs.declared.content.Piece.{Piece}
use Rattle.nf_base.specs.declared.rows.Row.{Row}
use Rattle.nf_defs.specs.Blobs.{Blobs, blob_at}
use Rattle.nf_defs.specs.Tables.{rows_of}
use Rattle.nf_keeper.specs.Keeping.{is_kept, swept}
use Rattle.nf_laws.specs.Named.{blobs_named, blobs_of, goal_blobs}
use Rattle.nf_laws.specs.Wholes.{IsGoalHeld, IsHeld, IsNamed, IsThere, IsWhole}
use Rattle.nf_session.specs.Book.{TellsStill}
use Rattle.nf_site.proofs.Naming.{contains_cases, contains_none, flat_has, its_number, names_blob, rows_contents}
use Rattle.nf_site.specs.Kept.{Kept}
use Rattle.nf_told.specs.Told.{Told}
use Rattle.nf_words.specs.Prelude.{contents_of, row_content, State}
use Rattle.nf_words.specs.declared.answer.Goal.{Goal}
use Rattle.nf_words.specs.declared.answer.Goal.TheVariants.{Chunk, Serve, Store}
use Rattle.nf_words.specs.declared.history.Ticket.{Ticket}
use Rattle.nf_desk.specs.Desk.{TellsSite, blobs_in}

-- ---- what is named

pub row_named : (s : State) (piece : Piece) → IsNamed (rows_of s.tables) piece → Contains (blobs_named s) piece.blob
row_named s piece is = (names_blob s piece.blob).1 (inl (piece, (is, refl)))

content_named : (s : State) (content : List Piece) (piece : Piece) → Contains (contents_of s.tables) content → Contains content piece
    → Contains (blobs_named s) piece.blob
content_named s content piece among has =
    let pieces = flat_map row_content (rows_of s.tables) in
    Contains-append_left (blobs_of pieces) (flat_map (λ (ticket : Ticket). goal_blobs ticket.goal) s.tickets) piece.blob
    (its_number pieces piece
    (subst (λ (all : List Piece). Contains all piece) (sym (rows_contents s.tables))
    (flat_has (λ (one : List Piece). one) (contents_of s.tables) content piece among has)))

granted_named : (s : State) (ticket : Ticket) (id : ℕ) → Contains s.tickets ticket → Contains (goal_blobs ticket.goal) id → Contains (blobs_named s) id
granted_named s ticket id among has = (names_blob s id).1 (inr (ticket, (among, has)))

-- ---- what is kept

-- whether the number is among these
abbrev is_among : List ℕ → ℕ → Bool
is_among keep id = list_any (λ (one : ℕ). one == id) keep

among_any : (keep : List ℕ) (id : ℕ) → Contains keep id → is_among keep id ≡ true
among_any [] id is = absurd (contains_none id is)
among_any (one ∷ keep) id is = here (one == id) refl (contains_cases one id keep is) (among_any keep id)
  where
    here : (b : Bool) → (one == id) ≡ b → (one ≡ id) ⊎ Contains keep id → (Contains keep id → is_among keep id ≡ true)
        → is_among (one ∷ keep) id ≡ true
    here true e which rest = rw e refl
    here false e (inl same) rest = absurd (both_ways (one == id) e (eq-eqb one id same))
    here false e (inr among) rest = rw e (rest among)

any_among : (keep : List ℕ) (id : ℕ) → is_among keep id ≡ true → Contains keep id
any_among [] id is = absurd (cc)
any_among (one ∷ keep) id is = here (one == id) refl is (any_among keep id)
  where
    here : (b : Bool) → (one == id) ≡ b → is_among (one ∷ keep) id ≡ true → (is_among keep id ≡ true → Contains keep id)
        → Contains (one ∷ keep) id
    here true e is rest = (0, omega arith, eqb-true one id e)
    here false e is rest = let more = rest (rw e at is) in (suc more.0, omega (arith, more.1), more.2)

module _ (keep : List ℕ) (id : ℕ) where
  -- a number that is kept has the bytes that it had
  kept_at : is_among keep id ≡ true → (blobs : Blobs) → blob_at (filter (is_kept keep) blobs) id ≡ blob_at blobs id
  kept_at is [] = refl
  kept_at is (blob ∷ blobs) = here (is_kept keep blob) refl (blob.0 == id) refl (kept_at is blobs)
    where
      here : (kept : Bool) → is_kept keep blob ≡ kept → (mine : Bool) → (blob.0 == id) ≡ mine
          → blob_at (filter (is_kept keep) blobs) id ≡ blob_at blobs id
          → blob_at (filter (is_kept keep) (blob ∷ blobs)) id ≡ blob_at (blob ∷ blobs) id
      here true e true same rest = rw (e, same) refl
      here true e false other rest = rw (e, other) rest
      here false e true same rest = absurd (both_ways (is_kept keep blob) e
          (subst (λ (n : ℕ). is_among keep n ≡ true) (sym (eqb-true blob.0 id same)) is))
      here false e false other rest = rw (e, other) rest

  -- another has none
  dropped_at : is_among keep id ≡ false → (blobs : Blobs) → blob_at (filter (is_kept keep) blobs) id ≡ None
  dropped_at is [] = refl
  dropped_at is (blob ∷ blobs) = here (is_kept keep blob) refl (blob.0 == id) refl (dropped_at is blobs)
    where
      here : (kept : Bool) → is_kept keep blob ≡ kept → (mine : Bool) → (blob.0 == id) ≡ mine
          → blob_at (filter (is_kept keep) blobs) id ≡ None → blob_at (filter (is_kept keep) (blob ∷ blobs)) id ≡ None
      here true e true same rest = absurd (both_ways (is_among keep id) is
          (subst (λ (n : ℕ). is_among keep n ≡ true) (eqb-true blob.0 id same) e))
      here true e false other rest = rw (e, other) rest
      here false e mine which rest = rw e rest

  pub unnamed_goes : (Contains keep id → ⊥) → (blobs : Blobs) → blob_at (filter (is_kept keep) blobs) id ≡ None
  unnamed_goes unnamed = here (is_among keep id) refl
    where
      here : (b : Bool) → is_among keep id ≡ b → (blobs : Blobs) → blob_at (filter (is_kept keep) blobs) id ≡ None
      here true e = absurd (unnamed (any_among keep id e))
      here false e = dropped_at e

-- what is told stays, or goes
pub swept_still : (cause : Type 0) (keep : List ℕ) (next : ℕ) (told : Option Told) → cause
    → TellsStill cause next (blobs_in told) (blobs_in (option_map (swept keep) told))
swept_still cause keep next None may = refl
swept_still cause keep next (Some told) may = λ id less. here id (is_among keep id) refl
  where
    here : (id : ℕ) (b : Bool) → is_among keep id ≡ b
        → (blob_at (filter (is_kept keep) told.blobs) id ≡ blob_at told.blobs id)
        ⊎ ((blob_at (filter (is_kept keep) told.blobs) id ≡ None) × cause)
    here id true e = inl (kept_at keep id e told.blobs)
    here id false e = inr (dropped_at keep id e told.blobs, may)

-- ---- what is there

there_still : (keep : List ℕ) (blobs : Blobs) (piece : Piece) → Contains keep piece.blob → IsThere blobs piece
    → IsThere (filter (is_kept keep) blobs) piece
there_still keep blobs piece named is = record {
  bytes = is.bytes;
  there = kept_at keep piece.blob (among_any keep piece.blob named) blobs ∙ is.there;
  size = is.size;
  digest = is.digest;
}

-- a piece that rows name
pub named_stay : (s : State) (told : Told) (piece : Piece) → IsNamed (rows_of s.tables) piece → IsThere told.blobs piece
    → IsThere (swept (blobs_named s) told).blobs piece
named_stay s told piece named is = there_still (blobs_named s) told.blobs piece (row_named s piece named) is

module _ (opening : List Row) (start : Blobs) (s : State) (blobs : Blobs) where
  abbrev left : Blobs
  left = filter (is_kept (blobs_named s)) blobs

  held_still : (piece : Piece) → Contains (blobs_named s) piece.blob → IsHeld opening start blobs piece → IsHeld opening start left piece
  held_still piece named held =
      ⊎_elim (λ there. inl (there_still (blobs_named s) blobs piece named there)) (λ damaged. inr damaged) held

  contents_still : (content : List Piece) → ((piece : Piece) → Contains content piece → Contains (blobs_named s) piece.blob)
      → All (IsHeld opening start blobs) content → All (IsHeld opening start left) content
  contents_still content named held = λ k d within.
      held_still (get_or content k d) (named (get_or content k d) (Contains-get_or content k d within)) (held k d within)

  goal_still : (goal : Goal) → ((id : ℕ) → Contains (goal_blobs goal) id → Contains (blobs_named s) id)
      → IsGoalHeld opening start blobs goal → IsGoalHeld opening start left goal
  goal_still (Serve content) named held =
      contents_still content (λ piece has. named piece.blob (its_number content piece has)) held
  goal_still (Store by key length) named held = tt
  goal_still (Chunk user dir number length) named held = tt

  pub whole_still : IsWhole opening start s blobs → IsWhole opening start s left
  whole_still whole = record {
    rows = λ k d within.
        let content = get_or (contents_of s.tables) k d in
        contents_still content (λ piece has. content_named s content piece (Contains-get_or (contents_of s.tables) k d within) has)
        (whole.rows k d within);
    tickets = λ k d within.
        let ticket = get_or s.tickets k d in
        goal_still ticket.goal (λ id has. granted_named s ticket id (Contains-get_or s.tickets k d within) has) (whole.tickets k d within);
  }

-- what is told stays true of the site
pub tells_swept : (start : Option Blobs) (k : Kept) (told : Told) → TellsSite start k told → TellsSite start k (swept (blobs_named k.state) told)
tells_swept start k told tells = record {
  rows = tells.rows;
  begun = tells.begun;
  at_start = tells.at_start;
  whole = whole_still k.opening tells.begun k.state told.blobs tells.whole;
}
