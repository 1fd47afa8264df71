-- What a file that chunks were joined to is read as.
use Rattle.std.proofs.Common.{◌≡◌, ℕ, ◌+◌, List, Option, None, Some, option_map, inl, inr, sym, ap, subst, ◌∙◌}
use Rattle.nf_base.specs.declared.content.Piece.{Piece}
use Rattle.nf_base.specs.declared.rows.NodeRow.{NodeRow}
use Rattle.nf_defs.specs.Prelude.{node_row, Tables}
use Rattle.nf_defs.specs.declared.Found.{Found}
use Rattle.nf_defs.specs.declared.Found.TheVariants.{At, Free, Missing}
use Rattle.nf_joins.specs.Joined.{content_at, IsReadAs, JoinedIsRead}
use Rattle.nf_laws.proofs.Paths.{leads_found}
use Rattle.nf_laws.proofs.Reaching.{readable_served, serves_readable}
use Rattle.nf_laws.proofs.Stays.{sound_after, stays}
use Rattle.nf_laws.proofs.Uploaded.{joins_whole}
use Rattle.nf_laws.specs.Access.{LeadsBy}
use Rattle.nf_laws.specs.Uploads.{file_at, HasContent, IsJoined}
use Rattle.nf_words.specs.Prelude.{after, AreSound, asker_of, Call, call_of, found, IsSound, last_name, mount_of, replay, root_of, State, whole_of}
use Rattle.nf_words.specs.declared.request.Spot.{Spot}
use Rattle.nf_words.specs.declared.request.VersionAsk.{VersionAsk}
use Rattle.nf_words.specs.declared.request.Wanted.TheVariants as want

-- ---- a path leads to one node

at_same : {a b : ℕ} → At a ≡ At b → a ≡ b
at_same same = cc

one_node : (call : Call) (spot : Spot) (mount : Option ℕ) (a b : ℕ) → AreSound call.state.tables → LeadsBy call spot mount a → LeadsBy call spot mount b
    → a ≡ b
one_node call spot None a b sound first second =
    at_same (sym (leads_found call.state.tables 0 (root_of call) _ a sound first) ∙ leads_found call.state.tables 0 (root_of call) _ b sound second)
one_node call spot (Some mount) a b sound first second =
    at_same (sym (leads_found call.state.tables 0 mount _ a sound first) ∙ leads_found call.state.tables 0 mount _ b sound second)

same_spot : {a b : Spot} → want.Get a ≡ want.Get b → a ≡ b
same_spot same = cc

no_version : (spot : Spot) (asked : VersionAsk) → want.Get spot ≡ want.Version asked → ⊥
no_version spot asked same = cc

-- ---- the content

same_content : {a b : List Piece} → ◌≡◌ {A = Option (List Piece)} (Some a) (Some b) → a ≡ b
same_content same = cc

module _ (s : State) (node : ℕ) (content : List Piece) (sound : IsSound s) (there : content_at s node ≡ Some content) where
  filled : (row : NodeRow) (n : ℕ) → n ≡ node → node_row s.tables.nodes n ≡ Some row → row.content ≡ content
  filled row n same at =
      same_content (sym (ap (option_map (λ (row : NodeRow). row.content)) at) ∙ ap (content_at s) same ∙ there)

  pub read_as : IsReadAs s node content
  read_as = record {
    is_granted = λ seat now words request other file at.
        readable_served s seat now words request content sound (record {
          row = file.row;
          readable = file.readable;
          file = file.file;
          free = file.free;
          sent = filled file.row file.row.id at file.readable.there;
        });
    is_all = λ seat now words request spot other may wanted led answered.
        let call = call_of s seat now words request in
        elim (serves_readable s seat now words request other sound may answered) [
          | inl file ↦
              (let it = file.readable in
              let same : it.spot ≡ spot = same_spot (sym it.asked ∙ wanted) in
              let first : LeadsBy call spot (mount_of call spot) file.row.id =
              subst (λ (x : Spot). LeadsBy call x (mount_of call x) file.row.id) same it.led in
              let at : file.row.id ≡ node = one_node call spot (mount_of call spot) file.row.id node sound.rows first led in
              sym file.sent ∙ filled file.row file.row.id at it.there)
          | inr version ↦ absurd (no_version spot _ (sym wanted ∙ version.asked))
        ];
  }

-- ---- the join

joined_content : (before : Tables) (s : State) (now : ℕ) (name : List ℕ) (content : List Piece) (place : Found)
    → HasContent before s.tables.nodes now name content place → content_at s (file_at before place) ≡ Some content
joined_content before s now name content (At node) (row, was, is) = ap (option_map (λ (row : NodeRow). row.content)) is
joined_content before s now name content (Free folder) is = ap (option_map (λ (row : NodeRow). row.content)) is
joined_content before s now name content (Missing depth) never = absurd never

pub joined_read : JoinedIsRead
joined_read n s e es user dir node joins legal same =
    let call = call_of s e.seat e.moment joins.words joins.request in
    let joined : IsJoined call dir joins.spot (after s e).tables =
    joins_whole n s e joins.words joins.request dir joins.spot joins.total joins.sound joins.may joins.begins joins.wanted joins.done in
    let place = found call joins.spot in
    let content : content_at (after s e) (file_at s.tables place) ≡ Some (whole_of s.tables.chunks (asker_of call) dir) =
    joined_content s.tables (after s e) e.moment (last_name joins.spot) (whole_of s.tables.chunks (asker_of call) dir) place joined.content in
    let there : content_at (after s e) node ≡ Some (whole_of s.tables.chunks user dir) =
    ap (content_at (after s e)) joins.to_node ∙ content ∙ ap (λ (u : ℕ). Some (whole_of s.tables.chunks u dir)) (sym joins.by_user) in
    read_as (replay (after s e) es) node (whole_of s.tables.chunks user dir)
    (stays (n + 1) (after s e) es (sound_after n s e joins.sound joins.may) legal) (same ∙ there)
