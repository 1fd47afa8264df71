-- The bytes of each piece that rows name: they are there when a run begins over a safe store, at each message, and when it ends.
use Rattle.std.proofs.Common.{◌≡◌, ◌≢◌, ◌⊎◌, ⊎_elim, ℕ, List, [], ◌∷◌, map, refl, sym, ◌∙◌, ap, subst, inl, inr}
use Rattle.std.specs.Prelude.{Option, None, Some, IsSome}
use Rattle.std.specs.List.{All, AllByRecursion}
use Rattle.std.proofs.lemmas.List.Elements.{All-append, All-cons, All-contains, All-map, All-nil}
use Rattle.std.proofs.lemmas.Option.{same_Some}
use Rattle.nf_outside.specs.Lent.{Taken}
use Rattle.sha2.specs.Sha256.{sha256}
use Rattle.nf_base.specs.declared.content.Piece.{Piece}
use Rattle.nf_base.specs.declared.rows.Row.{Row}
use Rattle.nf_base.specs.declared.rows.Row.TheVariants as row
use Rattle.nf_defs.proofs.Blobs.{put_at}
use Rattle.nf_defs.specs.Prelude.{Blobs, put_blob, rows_of, Tables, tables_of}
use Rattle.nf_desk.specs.Desk.{TellsSite, blobs_in}
use Rattle.nf_desk.specs.Opened.{IsFault, Opens, first_of, told_first}
use Rattle.nf_desk.specs.Opening.{AreSpelled, IsLoaded, OpensTo}
use Rattle.nf_desk.specs.declared.first.OpenFault.TheVariants as fault
use Rattle.nf_desk.specs.declared.first.First.{First}
use Rattle.nf_desk.specs.declared.first.Opening.{Opening}
use Rattle.nf_laws.proofs.Contents.{EachHas, by_kind}
use Rattle.nf_laws.specs.Wholes.{IsDamaged, IsNamed, IsSafe, IsThere}
use Rattle.nf_promises.specs.Complete.{StaysWhole}
use Rattle.nf_rows.specs.Spelling.{Raw}
use Rattle.nf_rows.specs.declared.fault.RowFault.{RowFault}
use Rattle.nf_rules.specs.Rules.{AreUnbroken, Broken}
use Rattle.nf_session.proofs.Causes.{session_follows, through_goes}
use Rattle.nf_session.specs.Prelude.{Book, Lasts, next_blob_of, OthersCame, Scene, Session, TellsStill, Through}
use Rattle.nf_session.specs.declared.ended.Ended.{Ended}
use Rattle.nf_site.specs.Demo.{demo_rows, hello}
use Rattle.nf_site.specs.Kept.{Kept}
use Rattle.nf_told.specs.Told.{Told, told_of}
use Rattle.nf_words.specs.Prelude.{contents_of, row_content, State}
use Rattle.filesd.specs.Ending.{IsEmptyStore, IsSafeStore}
use Rattle.filesd.specs.Next.{AreUndamaged, IsUndamaged, LeftIsThere, OpensOnward, OpensTables, StayWhole}
use Rattle.filesd.specs.Opening.{told_opened}
use Rattle.filesd.specs.Reopening.{Leaves, OpensAgain}
use Rattle.filesd.proofs.Spelled.{broken_never, loaded_is, missing_never, opened_so, unread_never}

-- ---- rows whose pieces are there

-- the pieces that a row names are there
abbrev pub HasPieces : Blobs → Row → Type 0
HasPieces blobs row = All (IsThere blobs) (row_content row)

pub each_has : (blobs : Blobs) (all : List Row) → AllByRecursion (HasPieces blobs) all → All (HasPieces blobs) all
each_has blobs [] has = All-nil (HasPieces blobs)
each_has blobs (row ∷ all) has = All-cons (HasPieces blobs) row all has.0 (each_has blobs all has.1)

pub has_safe : (rows : List Row) (blobs : Blobs) → All (HasPieces blobs) rows → IsSafe rows blobs
has_safe rows blobs has = λ piece named.
    All-contains (IsThere blobs) (row_content named.row) piece (All-contains (HasPieces blobs) rows named.row has named.among) named.named

-- the demonstration rows name one piece, which is stored with them
hello_there : (blobs : Blobs) → IsThere (put_blob blobs 1 hello) (record { blob = 1; size = 6; digest = sha256 hello })
hello_there blobs = record { bytes = hello; there = put_at blobs 1 hello; size = refl; digest = refl }

demo_safe : (blobs : Blobs) → IsSafe demo_rows (put_blob blobs 1 hello)
demo_safe blobs =
    let stored = put_blob blobs 1 hello in
    let none : All (IsThere stored) [] = All-nil (IsThere stored) in
    let one = All-cons (IsThere stored) (record { blob = 1; size = 6; digest = sha256 hello }) [] (hello_there blobs) none in
    has_safe demo_rows stored (each_has stored demo_rows
    (none, (none, (none, (none, (none, (none, (none, (none, (none, (none, (none, (none, (none, (one, tt)))))))))))))))

-- what a run begins with is safe
pub opened_safe : (told : Option Told) (raws : List Raw) (rows : List Row) → IsEmptyStore told ⊎ IsSafeStore told → IsLoaded told raws
    → OpensTo demo_rows raws rows → (shelf : Blobs) × ((blobs_in (told_opened raws told) ≡ Some shelf) × IsSafe rows shelf)
opened_safe told raws rows fits loaded opens = begun fits
  where
    over : (it : Told) (raws : List Raw) → told ≡ Some it → OpensTo demo_rows raws rows → (raws ≢ [] → IsSafe rows it.blobs)
        → (shelf : Blobs) × ((blobs_in (told_opened raws told) ≡ Some shelf) × IsSafe rows shelf)
    over it [] tells is safe = (
      put_blob it.blobs 1 hello,
      (
        ap (λ (t : Option Told). blobs_in (told_opened [] t)) tells,
        subst (λ (these : List Row). IsSafe these (put_blob it.blobs 1 hello)) (sym is) (demo_safe it.blobs),
      ),
    )
    over it (raw ∷ raws) tells is safe = (it.blobs, (ap (λ (t : Option Told). blobs_in t) tells, safe (λ none. cc)))

    begun : IsEmptyStore told ⊎ IsSafeStore told → (shelf : Blobs) × ((blobs_in (told_opened raws told) ≡ Some shelf) × IsSafe rows shelf)
    begun (inl (it, tells, none)) = over it raws tells opens (λ some. absurd (some (loaded_is told it raws tells loaded ∙ none)))
    begun (inr good) = over good.it raws good.tells opens (λ some.
        subst (λ (these : List Row). IsSafe these good.it.blobs)
        (sym (opened_so told good.it good.rows good.tells good.spelled good.unbroken demo_rows raws rows loaded opens)) good.safe)

-- ---- and stay undamaged

pub undamaged : (rows : List Row) (told : Option Blobs) (shelf : Blobs) → AreUnbroken rows → told ≡ Some shelf → IsSafe rows shelf → AreUndamaged rows told
undamaged rows told shelf unbroken tells safe = record {
  shelf = shelf;
  tells = tells;
  unbroken = unbroken;
  none = λ piece damaged. damaged.broken (safe piece damaged.named);
}

pub tells_some : (cause : Type 0) (next : ℕ) (old new : Option Blobs) → TellsStill cause next old new → IsSome old → IsSome new
tells_some cause next None new still some = absurd (cc)
tells_some cause next (Some old) None still some = absurd still
tells_some cause next (Some old) (Some new) still some = refl

pub undamaged_on : (a b : Book) → Lasts a b → IsUndamaged a → IsUndamaged b
undamaged_on a b lasts are = record {
  tells = tells_some (OthersCame a b) (next_blob_of a) a.told b.told lasts.told are.tells;
  start = subst (λ (rows : List Row). AreUndamaged rows b.start) (sym lasts.opening)
      (subst (λ (o : Option Blobs). AreUndamaged a.opening o) (sym lasts.start) are.start);
}

pub stays_whole : (b : Book) → IsUndamaged b → StaysWhole b
stays_whole b are = record {
  tells = are.tells;
  whole = λ piece was.
      are.start.none piece
      (subst (λ (z : Blobs). IsDamaged b.opening z piece) (same_Some was.begun are.start.shelf (sym was.tells ∙ are.start.tells))
      was.damaged);
}

pub stay_whole : {C : Type 0} (reads : C → Taken → C → Type 0) → StayWhole reads
stay_whole {C} reads = (messages, sessions)
  where
    messages : (a x : Scene C) (front : List (Scene C)) → Through reads a front x → IsUndamaged a.book → StaysWhole x.book
    messages a x front through are =
        stays_whole x.book (undamaged_on a.book x.book (through_goes reads a front x through).book.onward.lasts are)

    sessions : (a b : Scene C) (end : Option Ended) → Session reads a b end → IsUndamaged a.book → IsUndamaged b.book
    sessions a b end session are = undamaged_on a.book b.book (session_follows reads a b end session).lasts are

-- ---- the next opening

module _ (t : Tables) (it : Told) (rows : it.rows ≡ told_of t) (again : OpensAgain t) where
  pub told_spelled : AreSpelled it.rows (rows_of t)
  told_spelled = record { spelled = sym rows; fit = again.fit }

  opening_is : (opening : Opening) (after : Option Told) (site : Kept) → Opens opening (Some it) after site → site.opening ≡ rows_of t
  opening_is opening after site opens =
      opened_so (Some it) it (rows_of t) refl told_spelled again.unbroken (first_of opening).rows opens.raws site.opening opens.loaded
      opens.rows

  read_never : (opening : Opening) (index : ℕ) (why : RowFault) → IsFault opening (Some it) (fault.Unread index why) → ⊥
  read_never opening index why (may, (raws, loaded, is)) = unread_never (Some it) it (rows_of t) refl told_spelled raws index why loaded is

  break_never : (opening : Opening) (broken : Broken) → IsFault opening (Some it) (fault.Broken broken) → ⊥
  break_never opening broken (may, (raws, loaded, is)) =
      broken_never (Some it) it (rows_of t) refl told_spelled again.unbroken raws broken loaded is

  miss_never : (opening : Opening) → IsFault opening (Some it) fault.Missing → ⊥
  miss_never opening (kept, (raws, loaded, none)) =
      missing_never (Some it) it (rows_of t) refl told_spelled again.unbroken raws loaded none

  told_same : (first : First) (raws : List Raw) → IsLoaded (Some it) raws → told_first first raws (Some it) ≡ Some it
  told_same first [] loaded = absurd (missing_never (Some it) it (rows_of t) refl told_spelled again.unbroken [] loaded refl)
  told_same first (raw ∷ raws) loaded = refl

  pub opens_tables : OpensTables t (Some it)
  opens_tables = record {
    read = read_never;
    unbroken = break_never;
    there = miss_never;
    rows = opening_is;
    tables =
        λ opening after site opens.
        ap (λ (s : Kept). s.state.tables) opens.begun ∙ ap tables_of (opening_is opening after site opens) ∙ again.same;
    same = λ opening after site opens. opens.told ∙ told_same (first_of opening) opens.raws opens.loaded;
  }

-- ---- what a run leaves

module _ (k : Kept) (it : Told) (leaves : Leaves k (Some it)) where
  abbrev t : Tables
  t = k.state.tables

  -- ---- its pieces

  no_piece : All (IsThere it.blobs) []
  no_piece = All-nil (IsThere it.blobs)

  plain : {X : Type 0} (f : X → Row) (xs : List X) → ((x : X) → HasPieces it.blobs (f x)) → All (HasPieces it.blobs) (map f xs)
  plain f xs each = All-map (HasPieces it.blobs) f xs (λ i d within. each _)

  left_safe : (start : Option Blobs) (tells : TellsSite start k it) → ((piece : Piece) → IsDamaged k.opening tells.begun piece → ⊥)
      → IsSafe (rows_of t) it.blobs
  left_safe start tells none = has_safe (rows_of t) it.blobs
      (All-cons Has (row.Meta t.meta) _ no_piece
      (All-append Has (map row.User t.users) _ (plain row.User t.users (λ x. no_piece))
      (All-append Has (map row.Token t.tokens) _ (plain row.Token t.tokens (λ x. no_piece))
      (All-append Has (map row.Group t.groups) _ (plain row.Group t.groups (λ x. no_piece))
      (All-append Has (map row.Member t.members) _ (plain row.Member t.members (λ x. no_piece))
      (All-append Has (map row.Node t.nodes) _ (All-map Has row.Node t.nodes each.nodes)
      (All-append Has (map row.Share t.shares) _ (plain row.Share t.shares (λ x. no_piece))
      (All-append Has (map row.Mount t.mounts) _ (plain row.Mount t.mounts (λ x. no_piece))
      (All-append Has (map row.Version t.versions) _ (All-map Has row.Version t.versions each.versions)
      (All-append Has (map row.Item t.items) _ (plain row.Item t.items (λ x. no_piece))
      (All-append Has (map row.Upload t.uploads) (map row.Chunk t.chunks) (plain row.Upload t.uploads (λ x. no_piece))
      (All-map Has row.Chunk t.chunks each.chunks))))))))))))
    where
      Has : Row → Type 0
      Has row = HasPieces it.blobs row

      -- what is held is there
      there : All (All (IsThere it.blobs)) (contents_of t)
      there = λ i d within j e inside.
          ⊎_elim (λ there. there) (λ damaged. absurd (none _ damaged)) (tells.whole.rows i d within j e inside)

      each : EachHas (All (IsThere it.blobs)) t
      each = by_kind (All (IsThere it.blobs)) t there

  pub left_is_safe : (start : Option Blobs) (tells : TellsSite start k it) → ((piece : Piece) → IsDamaged k.opening tells.begun piece → ⊥)
      → IsSafeStore (Some it)
  left_is_safe start tells none = record {
    it = it;
    tells = refl;
    rows = rows_of t;
    spelled = told_spelled t it leaves.told.rows leaves.again;
    unbroken = leaves.again.unbroken;
    safe = left_safe start tells none;
  }

  pub left_opens : OpensTables t (Some it)
  left_opens = opens_tables t it leaves.told.rows leaves.again

pub opens_onward : OpensOnward
opens_onward k None leaves some = absurd (cc)
opens_onward k (Some it) leaves some =
    subst (λ (s : State). OpensTables s.tables (Some it)) leaves.history.replayed (left_opens k it leaves)

pub left_is_there : LeftIsThere
left_is_there k site None after opening leaves good opens = absurd (let tells = good.tells in cc)
left_is_there k site (Some it) after opening leaves good opens =
    let next = left_opens k it leaves in
    let its : site.opening ≡ good.rows =
    opened_so (Some it) good.it good.rows good.tells good.spelled good.unbroken (first_of opening).rows opens.raws site.opening opens.loaded opens.rows in
    record {
      rows = next.rows opening after site opens ∙ ap (λ (s : State). rows_of s.tables) leaves.history.replayed;
      it = good.it;
      tells = next.same opening after site opens ∙ good.tells;
      pieces = λ piece named. good.safe piece (subst (λ (these : List Row). IsNamed these piece) its named);
    }
