-- Which steps bring no chunk.
use Rattle.std.proofs.Common.{◌≡◌, ◌⊎◌, ℕ, not, Bool, true, false, List, [], ◌∷◌, ◌++◌, Option, None, Some, inl, inr, refl, sym, ap, subst, ◌∙◌}
use Rattle.std.specs.List.{All}
use Rattle.std.specs.Prelude.{◌&&◌, ◌==◌}
use Rattle.std.specs.Option.{IfSome, option_map_or}
use Rattle.std.proofs.lemmas.Bool.{and_from, both_ways, eq-eqb, not-true}
use Rattle.std.proofs.lemmas.List.Elements.{All-append, All-cons, All-head, All-nil, All-tail, filter_passes}
use Rattle.std.proofs.lemmas.Slice.Eq.{bytes_eq-Decides}
use Rattle.nf_base.specs.declared.rows.ChunkRow.{ChunkRow}
use Rattle.nf_defs.specs.Prelude.{Tables}
use Rattle.nf_defs.specs.declared.Found.{Found}
use Rattle.nf_laws.proofs.Acting.{given_for}
use Rattle.nf_laws.proofs.Chunking.{abandon_leaves, is_that, that_is}
use Rattle.nf_joins.proofs.Acts.{same_act}
use Rattle.nf_laws.proofs.Each.{forgets_each, purges_each}
use Rattle.nf_laws.proofs.Entries.{entry_has}
use Rattle.nf_laws.proofs.Plain.{IsPlain, IsPlainAct, assembled_filing, decided_plain, filing_chunks}
use Rattle.nf_laws.proofs.Rows.{stamped_has}
use Rattle.nf_laws.proofs.Sent.{chunk_of}
use Rattle.nf_laws.specs.Access.{ChangesAllowed, IsProviding, IsRestoring, NodesAllowed, Provides, has_quota, has_token, joins, leaves, makes_group, makes_user}
use Rattle.nf_words.proofs.Begins.{places_at}
use Rattle.nf_words.proofs.Found.{found_has, found_passes}
use Rattle.nf_words.proofs.Passing.{call_passes}
use Rattle.nf_words.specs.Prelude.{abandoned, access_of, after, allowed_of, altered, assembled, asker_of, Call, call_of, changed, chunk_number, chunk_row, chunk_sent, decision_of, deed_done, deeds_done, forgets, given, is_chunk_of, last_name, nothing_done, purges, State, swept, told, upload_done}
use Rattle.nf_words.specs.declared.answer.Allowed.{Allowed}
use Rattle.nf_words.specs.declared.answer.Allowed.TheVariants as allowed
use Rattle.nf_words.specs.declared.answer.Deed.{Deed}
use Rattle.nf_words.specs.declared.answer.Deed.TheVariants as deed
use Rattle.nf_words.specs.declared.answer.Report.{Report}
use Rattle.nf_words.specs.declared.answer.Report.TheVariants.{Plain}
use Rattle.nf_words.specs.declared.history.Entry.{Entry}
use Rattle.nf_words.specs.declared.history.Event.TheVariants.{Begin, Sweep}
use Rattle.nf_words.specs.declared.request.PeopleAsk.{PeopleAsk}
use Rattle.nf_words.specs.declared.request.Places.{Places}
use Rattle.nf_words.specs.declared.request.Request.{Request}
use Rattle.nf_words.specs.declared.request.UploadAsk.{UploadAsk}
use Rattle.nf_words.specs.declared.request.UploadAsk.TheVariants as upload
use Rattle.nf_words.specs.declared.request.Wanted.TheVariants as want
use Rattle.nf_words.specs.declared.request.Words.{Words}

-- each chunk that is there afterwards was there, with the same row
abbrev pub Fewer : Tables → Tables → Type 0
Fewer before after =
    (user : ℕ) (dir : List ℕ) (number : ℕ) (row : ChunkRow) → chunk_row after.chunks user dir number ≡ Some row
    → chunk_row before.chunks user dir number ≡ Some row

pub fewer_same : (t made : Tables) → made.chunks ≡ t.chunks → Fewer t made
fewer_same t made same user dir number row is = sym (ap (λ (rows : List ChunkRow). chunk_row rows user dir number) same) ∙ is

pub fewer_then : (t m made : Tables) → Fewer t m → Fewer m made → Fewer t made
fewer_then t m made first second user dir number row is = first user dir number row (second user dir number row is)

-- ---- deeds

-- a chunk that is left isn't of the upload that goes
abandoned_fewer : (t : Tables) (user : ℕ) (dir : List ℕ) → Fewer t (abandoned t user dir)
abandoned_fewer t user dir of_user of_dir number row is = here (is_that user dir of_user of_dir) refl
  where
    Keeps : ChunkRow → Type 0
    Keeps x = not (is_chunk_of user dir x) ≡ true

    kept : Keeps row
    kept =
        subst (λ (o : Option ChunkRow). IfSome o Keeps) is
        (found_has Keeps (λ (x : ChunkRow). is_chunk_of of_user of_dir x && x.number == number) (abandoned t user dir).chunks
        (filter_passes (λ (x : ChunkRow). not (is_chunk_of user dir x)) t.chunks))

    passes : (is_chunk_of of_user of_dir row && row.number == number) ≡ true
    passes = found_passes (λ (x : ChunkRow). is_chunk_of of_user of_dir x && x.number == number) (abandoned t user dir).chunks row is

    here : (b : Bool) → is_that user dir of_user of_dir ≡ b → chunk_row t.chunks of_user of_dir number ≡ Some row
    here false other = sym ((abandon_leaves t user dir).chunks of_user of_dir number other) ∙ is
    here true same =
        let of = chunk_of of_user of_dir number row passes in
        let that = that_is user dir of_user of_dir same in
        absurd (both_ways (is_chunk_of user dir row) (not-true (is_chunk_of user dir row) kept)
        (and_from (row.user == user) _ (eq-eqb row.user user (of.0 ∙ that.0)) ((bytes_eq-Decides row.dir dir).1 (of.1.0 ∙ that.1))))

one_fewer : (t : Tables) (one : Deed) → IsPlain one → Fewer t (deed_done t one)
one_fewer t (deed.Store changes) plain = fewer_same t (deed_done t (deed.Store changes)) (filing_chunks t changes plain)
one_fewer t (deed.Abandon user dir) plain = abandoned_fewer t user dir
one_fewer t (deed.Discard item) plain = fewer_same t (deed_done t (deed.Discard item)) refl
one_fewer t (deed.Purge node) plain = fewer_same t (deed_done t (deed.Purge node)) refl
one_fewer t (deed.Restore node folder name) plain = fewer_same t (deed_done t (deed.Restore node folder name)) refl
one_fewer t (deed.Relink node folder name) plain = fewer_same t (deed_done t (deed.Relink node folder name)) refl
one_fewer t (deed.Join rows) plain = fewer_same t (deed_done t (deed.Join rows)) refl
one_fewer t (deed.Requote row) plain = fewer_same t (deed_done t (deed.Requote row)) refl
one_fewer t (deed.Forget node at) plain = fewer_same t (deed_done t (deed.Forget node at)) refl

deeds_fewer : (t : Tables) (deeds : List Deed) → All IsPlain deeds → Fewer t (deeds_done t deeds)
deeds_fewer t [] all = fewer_same t t refl
deeds_fewer t (one ∷ deeds) all = λ user dir number row is.
    one_fewer t one (All-head IsPlain one deeds all) user dir number row
    (deeds_fewer (deed_done t one) deeds (All-tail IsPlain one deeds all) user dir number row is)

-- what an act makes of the tables, whether or not the moment is stamped
act_fewer : (t : Tables) (now : ℕ) (act : Allowed) → Fewer t (altered t now act) → Fewer t (changed t now act)
act_fewer t now act fewer = stamped_has (Fewer t) t (altered t now act) now (told t act) (fewer_same t t refl) fewer

-- ---- what is settled

provided_chunks : (t : Tables) (now : ℕ) (made : Tables) (asked : PeopleAsk) → Provides t now made asked → made.chunks ≡ t.chunks
provided_chunks t now made _ (makes_user name token quota free fresh is) = ap (λ (u : Tables). u.chunks) is
provided_chunks t now made _ (makes_group name free is) = ap (λ (u : Tables). u.chunks) is
provided_chunks t now made _ (joins user group row there other is given each) = ap (λ (u : Tables). u.chunks) is
provided_chunks t now made _ (leaves user group row there member is) = ap (λ (u : Tables). u.chunks) is
provided_chunks t now made _ (has_quota user quota row there is) = ap (λ (u : Tables). u.chunks) is
provided_chunks t now made _ (has_token user token id there free is) = ap (λ (u : Tables). u.chunks) is

between_chunks : (s : State) (e : Entry) (made : Tables) → NodesAllowed s e made ⊎ (IsProviding s e made ⊎ IsRestoring s e made) → made.chunks ≡ s.tables.chunks
between_chunks s e made (inl nodes) = ap (λ (u : Tables). u.chunks) nodes.rest
between_chunks s e made (inr (inl people)) = provided_chunks s.tables e.moment made people.asked people.provides
between_chunks s e made (inr (inr item)) = ap (λ (u : Tables). u.chunks) item.rows

-- so no chunk comes before those of uploads do
pub behind_fewer : (s : State) (e : Entry) (made : Tables) (changes : ChangesAllowed s e made) → Fewer s.tables changes.behind
behind_fewer s e made changes =
    let u = changes.between in
    let gone : Fewer u changes.behind =
    subst (Fewer u) (sym changes.settled.gone)
    (deeds_fewer u (purges changes.settled.tops ++ forgets changes.settled.versions)
    (All-append IsPlain (purges changes.settled.tops) (forgets changes.settled.versions)
    (purges_each u e.moment IsPlain (λ node. tt) (λ item. tt) changes.settled.tops)
    (forgets_each IsPlain (λ node at. tt) changes.settled.versions))) in
    fewer_then s.tables u changes.behind (fewer_same s.tables u (between_chunks s e u changes.allowed)) gone

-- ---- a Begin that asks about an upload

asked_fewer : (call : Call) (places : Places) (asked : UploadAsk)
    → Fewer call.state.tables (altered call.state.tables call.now (upload_done call places asked))
asked_fewer call places (upload.New user dir to) = fewer_same call.state.tables (altered call.state.tables call.now (upload_done call places (upload.New user dir to))) refl
asked_fewer call places (upload.Chunk user dir name to length) = here (chunk_number name)
  where
    here : (o : Option ℕ) → Fewer call.state.tables (altered call.state.tables call.now (option_map_or (chunk_sent (asker_of call) dir length) o nothing_done))
    here None = fewer_same call.state.tables (altered call.state.tables call.now nothing_done) refl
    here (Some number) = fewer_same call.state.tables call.state.tables refl
asked_fewer call places (upload.Drop user dir) = abandoned_fewer call.state.tables (asker_of call) dir
asked_fewer call places (upload.Join dir spot total) = here places.target
  where
    t : Tables
    t = call.state.tables

    here : (o : Option Found) → Fewer t (altered t call.now (option_map_or (assembled t call.now (last_name spot) (asker_of call) dir) o allowed.Close))
    here None = fewer_same t t refl
    here (Some place) =
        deeds_fewer t (deed.Store _ ∷ deed.Abandon (asker_of call) dir ∷ [])
        (All-cons IsPlain (deed.Store _) (deed.Abandon (asker_of call) dir ∷ []) (assembled_filing t call.now (last_name spot) _ place)
        (All-cons IsPlain (deed.Abandon (asker_of call) dir) [] tt (All-nil IsPlain)))

pub begin_fewer : (s : State) (e : Entry) (words : Words) (request : Request) (asked : UploadAsk) → e.event ≡ Begin words request
    → request.wanted ≡ want.Upload asked → Fewer s.tables (after s e).tables
begin_fewer s e words request asked begins wanted =
    entry_has (λ t tickets blob. Fewer s.tables t) s e e.mark (fewer_same s.tables s.tables refl)
    (λ act decides.
    let call = call_of s e.seat e.moment words request in
    let is : allowed_of (access_of s) call ≡ act = (call_passes call act (sym (ap (decision_of s e.seat e.moment) begins) ∙ decides)).1 in
    let gives : act ≡ given (access_of s) call (places_at call (want.Upload asked)) (want.Upload asked) =
    sym is ∙ given_for call (want.Upload asked) wanted in
    act_fewer s.tables e.moment act
    (subst (λ (a : Allowed). Fewer s.tables (altered s.tables e.moment a)) (sym gives) (asked_fewer call (places_at call (want.Upload asked)) asked)))

-- ---- a sweep

deeds_act : (t : Tables) (now : ℕ) (act : Allowed) → IsPlainAct act → (deeds : List Deed) (r : Report) → act ≡ allowed.Deeds deeds r → Fewer t (changed t now act)
deeds_act t now act plain deeds r is =
    act_fewer t now act
    (subst (λ (a : Allowed). Fewer t (altered t now a)) (sym is) (deeds_fewer t deeds (subst IsPlainAct is plain)))

pub sweep_fewer : (s : State) (e : Entry) → e.event ≡ Sweep → Fewer s.tables (after s e).tables
sweep_fewer s e sweeps =
    entry_has (λ t tickets blob. Fewer s.tables t) s e e.mark (fewer_same s.tables s.tables refl)
    (λ act decides.
    let is : act ≡ swept s.tables e.moment = same_act (sym decides ∙ ap (decision_of s e.seat e.moment) sweeps) in
    deeds_act s.tables e.moment act (decided_plain s e.seat e.moment e.event act decides) _ Plain is)
