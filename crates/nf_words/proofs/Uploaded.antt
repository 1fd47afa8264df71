-- What is known of what is asked about uploads.
use Rattle.std.proofs.Common.{◌≡◌, ℕ, ◌+◌, ◌≤◌, ◌&&◌, inl, inr, Bool, true, false, List, [], ◌∷◌, ◌∙◌, length, Option, if◌then◌else◌, refl, sym, ap, subst, arith, le_refl}
use Rattle.std.specs.Prelude.{None, Some, is_some, nat_le}
use Rattle.std.specs.List.{list_all}
use Rattle.std.specs.Option.{option_map_or}
use Rattle.std.proofs.lemmas.Bool.{leb-true, ltb-false}
use Rattle.std.proofs.lemmas.List.Elements.{All-nil}
use Rattle.std.proofs.lemmas.Option.{none-some}
use Rattle.nf_base.specs.declared.changes.Change.TheVariants.{Put}
use Rattle.nf_base.specs.declared.content.Piece.{Piece}
use Rattle.nf_base.specs.declared.limits.TheConstants.{MAX_BODY, MAX_PIECES}
use Rattle.nf_base.specs.declared.rows.NodeKind.TheVariants.{File}
use Rattle.nf_base.specs.declared.rows.NodeRow.{NodeRow}
use Rattle.nf_base.specs.declared.rows.Row.TheVariants as rows
use Rattle.nf_base.specs.declared.rows.UploadRow.{UploadRow}
use Rattle.nf_base.specs.declared.rows.UserRow.{UserRow}
use Rattle.nf_defs.specs.Prelude.{child_of, depth, is_folder, is_folder_kind, made, node_row, owner_of, Tables, user_row}
use Rattle.nf_defs.specs.declared.Found.{Found}
use Rattle.nf_defs.specs.declared.Found.TheVariants.{At, Free, Missing}
use Rattle.nf_words.proofs.Asks.{nothing_known}
use Rattle.nf_words.proofs.Chunked.{upload_differs}
use Rattle.nf_words.proofs.Fits.{AreApart, KnownChange, lean_more, new_known, no_more, none_lean, one_more, within}
use Rattle.nf_words.proofs.Forgetting.{unsettled_there, unsettled_two}
use Rattle.nf_words.proofs.Known.{alone, IsOpen, Known}
use Rattle.nf_words.proofs.Known.KnownDeeds.{by_abandoning, by_joining}
use Rattle.nf_words.proofs.Passing.{if_none}
use Rattle.nf_words.proofs.Provided.{none_of}
use Rattle.nf_words.proofs.Refilling.{over_known}
use Rattle.nf_words.proofs.Starts.{row_of_caller}
use Rattle.nf_words.proofs.Starts.IsAsking.{by_user}
use Rattle.nf_words.proofs.Ways.{node_present, slot_known, slot_present, way_there}
use Rattle.nf_words.specs.Prelude.{access_of, AreSound, asker_of, assembled, assembled_at, assembled_limit, Call, caller_row, charged, chunk_number, chunk_sent, content_size, done, found, is_open, is_there, IsUnmounted, lacks_upload, last_name, LeadsToRoot, new_limit, nothing_done, raised, refilled, unreached, unsettled, upload_begun, upload_row, user_of, versions_added, way_of, whole_of}
use Rattle.nf_words.specs.Uploads.{is_digit, number_on}
use Rattle.nf_words.specs.declared.answer.Allowed.{Allowed}
use Rattle.nf_words.specs.declared.answer.Deed.TheVariants as deed
use Rattle.nf_words.specs.declared.answer.Denial.TheVariants as denial
use Rattle.nf_words.specs.declared.answer.Limit.TheVariants as limit
use Rattle.nf_words.specs.declared.answer.Report.TheVariants as report
use Rattle.nf_words.specs.declared.request.Spot.{Spot}
use Rattle.nf_words.specs.declared.route.Route.TheVariants.{Upload}

-- the number that a chunk's name tells is one of a chunk
pub number_fits : (name : List ℕ) (number : ℕ) → chunk_number name ≡ Some number → (1 ≤ number) × (number ≤ MAX_PIECES)
number_fits name number is =
    here (list_all is_digit name) (nat_le 1 (number_on 0 name)) (nat_le (number_on 0 name) MAX_PIECES) (number_on 0 name) is refl refl
  where
    here : (a b c : Bool) (n : ℕ) → (if a && (b && c) then Some n else None) ≡ Some number → nat_le 1 n ≡ b → nat_le n MAX_PIECES ≡ c
        → (1 ≤ number) × (number ≤ MAX_PIECES)
    here true true true n is low high =
        let same : n ≡ number = cc in
        (subst (λ (k : ℕ). 1 ≤ k) same (leb-true 1 n low), subst (λ (k : ℕ). k ≤ MAX_PIECES) same (leb-true n MAX_PIECES high))
    here true true false n is low high = absurd (none-some number is)
    here true false c n is low high = absurd (none-some number is)
    here false b c n is low high = absurd (none-some number is)

-- a content of an upload is put at a place
module _ (t : Tables) (now user : ℕ) (dir name : List ℕ) (sound : AreSound t) where
  abbrev content : List Piece
  content = whole_of t.chunks user dir

  over_file : (node : ℕ) (row : NodeRow) → node_row t.nodes node ≡ Some row → is_folder t.nodes node ≡ false → LeadsToRoot t.nodes node
      → assembled_limit t user dir (At node) ≡ None → KnownChange t now (assembled_at t now name content (At node)) None
  over_file node row there file present few =
      subst (λ (o : Option NodeRow). KnownChange t now (option_map_or (refilled t now content) o []) None) (sym there)
      (over_known t now node content None 0 row sound there (sym (ap (λ (o : Option NodeRow). option_map_or (λ one. is_folder_kind one.kind) o false) there) ∙ file)
      present (within t 0 0 (versions_added t node None) (length content) 0 few) (omega arith) (inr (refl, inr (user, dir, refl))))

  in_folder : (folder : ℕ) → is_folder t.nodes folder ≡ true → LeadsToRoot t.nodes folder → child_of t.nodes folder name ≡ None
      → IsUnmounted t folder name → assembled_limit t user dir (Free folder) ≡ None → KnownChange t now (assembled_at t now name content (Free folder)) None
  in_folder folder folds present free unmounted few =
      let to = charged t (owner_of t.nodes folder) 0 (content_size content) in
      new_known t now folder name File content None 0 (unsettled t to []) sound folds present free unmounted
      (within t 1 (depth t.nodes folder + 1) 0 (length content) 0 few) (omega arith) (inr (refl, (user, dir, refl))) (λ e. absurd (cc))
      (unsettled_there t to []) (unsettled_two t to [] sound.others.versions_rise)

-- of a user who is there
module _ (call : Call) (user : UserRow) (sound : AreSound call.state.tables) (is : caller_row call ≡ Some user) where
  abbrev t : Tables
  t = call.state.tables

  abbrev asker : ℕ
  asker = asker_of call

  abbrev IsKnown : Allowed → Type 0
  IsKnown act = Known t call.now act

  -- who asks is there
  pub asker_there : is_some (user_row t.users asker) ≡ true
  asker_there =
      ap (λ (n : ℕ). is_some (user_row t.users n)) (ap (λ (o : Option UserRow). option_map_or (λ row. row.id) o 0) is)
      ∙ ap is_some (row_of_caller t.users (user_of call) user is).1

  -- the upload is there
  pub upload_there : (dir : List ℕ) → lacks_upload call dir ≡ None → IsOpen t asker dir
  upload_there dir none = if_none _ denial.NotFound none

  off : {X : Type 0} (b : Bool) (x : X) → (if b then Some x else None) ≡ None → b ≡ false
  off false x none = refl
  off true x none = absurd (cc)

  -- one that begins
  pub begun_known : (dir : List ℕ) (to : List (List ℕ)) → (if is_open call dir then Some (denial.Exists Upload) else None) ≡ None
      → new_limit t asker ≡ None → IsKnown (upload_begun t call.now asker dir to)
  begun_known dir to free few =
      let row : UploadRow = record { user = asker; dir = dir; to = to; touched = call.now } in
      let fresh : upload_row t.uploads asker dir ≡ None = none_of _ (off _ (denial.Exists Upload) free) in
      let up = raised t call.now (Put (rows.Upload row) ∷ []) None in
      record {
        rows = one_more up (Put (rows.Upload row)) []
            (inl (record { fresh = fresh; user = asker_there; touched = le_refl _; few = ltb-false _ _ (off _ limit.Uploads few) }))
            (no_more (made up (Put (rows.Upload row))));
        lean = lean_more t (Put (rows.Upload row)) [] (upload_differs t row (λ same. none-some row (sym fresh ∙ same)))
            (All-nil (AreApart (Put (rows.Upload row)))) (none_lean t);
        stored = λ none. refl;
        next = tt;
        next_user = omega arith;
        next_group = omega arith;
        next_node = omega arith;
        next_share = omega arith;
        next_blob = omega arith;
      }

  -- a chunk that is sent
  pub sent_known : (dir name : List ℕ) (length : ℕ) → length ≤ MAX_BODY
      → IsKnown (option_map_or (chunk_sent asker dir length) (chunk_number name) nothing_done)
  sent_known dir name length short = here (chunk_number name) refl
    where
      here : (o : Option ℕ) → chunk_number name ≡ o → IsKnown (option_map_or (chunk_sent asker dir length) o nothing_done)
      here None e = nothing_known t call.now
      here (Some number) e =
          let fits = number_fits name number e in record { short = short; some = fits.0; few = fits.1 }

  -- an upload that goes
  pub abandoned_known : (dir : List ℕ) → lacks_upload call dir ≡ None → IsKnown (done (deed.Abandon asker dir ∷ []) report.Done)
  abandoned_known dir there = alone t call.now (deed.Abandon asker dir ∷ []) (by_abandoning asker dir (upload_there dir there))

  -- and one that becomes the content of a file
  pub joined_known : (dir : List ℕ) (spot : Spot) (place : Found) → unreached (access_of call.state) call (way_of call spot) ≡ None
      → found call spot ≡ place → is_there (is_folder t.nodes) (Some place) ≡ false → lacks_upload call dir ≡ None
      → assembled_limit t asker dir place ≡ None → IsKnown (assembled t call.now (last_name spot) asker dir place)
  joined_known dir spot place reached leads file there few =
      let changes = assembled_at t call.now (last_name spot) (whole_of t.chunks asker dir) place in
      alone t call.now (deed.Store changes ∷ deed.Abandon asker dir ∷ [])
      (by_joining changes asker dir (here place leads file few) (upload_there dir there))
    where
      here : (place : Found) → found call spot ≡ place → is_there (is_folder t.nodes) (Some place) ≡ false → assembled_limit t asker dir place ≡ None
          → KnownChange t call.now (assembled_at t call.now (last_name spot) (whole_of t.chunks asker dir) place) None
      here (At node) leads file few =
          let row = way_there call spot sound (by_user user is) node reached leads in
          over_file t call.now asker dir (last_name spot) sound node row.0 row.1 file (node_present call spot sound (by_user user is) node reached leads) few
      here (Free folder) leads file few =
          let slot = slot_known call spot sound (by_user user is) folder reached leads in
          in_folder t call.now asker dir (last_name spot) sound folder slot.folds (slot_present call spot sound (by_user user is) folder reached leads)
          slot.free slot.unmounted few
      here (Missing depth) leads file few = nothing_known t call.now
