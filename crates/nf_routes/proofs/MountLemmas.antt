-- The first row of the router that fits a path is that of the mount that the path is in, also with its bytes beyond ASCII escaped.
use Rattle.std.proofs.Common.{◌≡◌, ◌∙◌, ℕ, ◌==◌, Bool, true, false, ◌&&◌, ◌||◌, if◌then◌else◌, not, List, [], ◌∷◌, ◌++◌, length, take, Some, cond, refl, ap, sym, subst, eqb-true, arith}
use Rattle.std.specs.Prelude.{bytes_eq}
use Rattle.std.specs.List.{find, flat_map}
use Rattle.std.proofs.lemmas.Bool.Decides.{nat_tests}
use Rattle.matchit.specs.Rows.{RowsOf}
use Rattle.matchit.specs.Seek.{first}
use Rattle.percent_encoding.specs.AsciiSet.{should_percent_encode}
use Rattle.percent_encoding.specs.Percent.{encode_byte, percent_encode, percent_encode_byte}
use Rattle.percent_encoding.specs.declared.ascii_set.TheConstants.{CONTROLS}
use Rattle.nf_routes.specs.Mounts.{words, has_more, is_in, mounts, mount_of}
use Rattle.nf_routes.specs.Rows.{rows_of, table}
use Rattle.nf_routes.specs.declared.mounts.Mount.{Mount}
use Rattle.nf_routes.specs.declared.mounts.Mount.TheVariants as mount
use Rattle.nf_routes.proofs.PlainLemmas.{fits, find_row, first_row, are_plain, are_apart}

-- no byte is the token of the catch-all
abbrev no_token : List ℕ → Bool
no_token [] = true
no_token (x ∷ bytes) = if x == 257 then false else no_token bytes

same_either_way : (x b : ℕ) → (b == x) ≡ (x == b)
same_either_way x b = by (x == b) refl (b == x) refl
  where
    by : (v : Bool) → (x == b) ≡ v → (w : Bool) → (b == x) ≡ w → (b == x) ≡ (x == b)
    by true e true f = f ∙ sym e
    by false e false f = f ∙ sym e
    by true e false f = absurd (let bad : ⊥ = grind (arith, nat_tests) in bad)
    by false e true f = absurd (let bad : ⊥ = grind (arith, nat_tests) in bad)

-- a pattern without a catch-all
fits_all : (bytes path : List ℕ) → no_token bytes ≡ true → fits bytes path ≡ bytes_eq path bytes
fits_all [] [] h = refl
fits_all [] (b ∷ path) h = refl
fits_all (x ∷ bytes) [] h = refl
fits_all (x ∷ bytes) (b ∷ path) h = by (x == 257) refl h (x == b) refl (fits_all bytes path)
  where
    by : (t : Bool) → (x == 257) ≡ t → (if t then false else no_token bytes) ≡ true → (v : Bool) → (x == b) ≡ v
        → (no_token bytes ≡ true → fits bytes path ≡ bytes_eq path bytes) → fits (x ∷ bytes) (b ∷ path) ≡ bytes_eq (b ∷ path) (x ∷ bytes)
    by true q k v e go = absurd (let bad : ⊥ = cc in bad)
    by false q k true e go = rw (same_either_way x b, e, q, go k) (elim (bytes_eq path bytes) as (λ z. (z || false) ≡ z) [ true ↦ refl | false ↦ refl ])
    by false q k false e go = rw (same_either_way x b, e, q) refl

-- a path that begins with bytes
abbrev begins : List ℕ → List ℕ → Bool
begins bytes path = bytes_eq (take (length bytes) path) bytes

-- and isn't only they
abbrev goes_on : List ℕ → List ℕ → Bool
goes_on bytes path = begins bytes path && not (bytes_eq path bytes)

-- a pattern with a catch-all behind its bytes
fits_front : (bytes path : List ℕ) → no_token bytes ≡ true → fits (bytes ++ 257 ∷ []) path ≡ goes_on bytes path
fits_front [] [] h = refl
fits_front [] (b ∷ path) h = ends ((257 == b) && fits [] path)
  where
    ends : (v : Bool) → (v || true) ≡ true
    ends true = refl
    ends false = refl
fits_front (x ∷ bytes) [] h = refl
fits_front (x ∷ bytes) (b ∷ path) h = by (x == 257) refl h (x == b) refl (fits_front bytes path)
  where
    by : (t : Bool) → (x == 257) ≡ t → (if t then false else no_token bytes) ≡ true → (v : Bool) → (x == b) ≡ v
        → (no_token bytes ≡ true → fits (bytes ++ 257 ∷ []) path ≡ goes_on bytes path) → fits (x ∷ (bytes ++ 257 ∷ [])) (b ∷ path) ≡ goes_on (x ∷ bytes) (b ∷ path)
    by true q k v e go = absurd (let bad : ⊥ = cc in bad)
    by false q k true e go = rw (same_either_way x b, e, q, go k) (elim (goes_on bytes path) as (λ z. (z || false) ≡ z) [ true ↦ refl | false ↦ refl ])
    by false q k false e go = rw (same_either_way x b, e, q) refl

-- only the bytes begin with them, too
only_begins : (bytes path : List ℕ) → bytes_eq path bytes ≡ true → begins bytes path ≡ true
only_begins [] [] is = refl
only_begins [] (b ∷ path) is = refl
only_begins (x ∷ bytes) [] is = is
only_begins (x ∷ bytes) (b ∷ path) is = by (b == x) is (only_begins bytes path)
  where
    by : (v : Bool) → (v && bytes_eq path bytes) ≡ true → (bytes_eq path bytes ≡ true → begins bytes path ≡ true) → (v && begins bytes path) ≡ true
    by true is go = go is
    by false is go = is

module _ {K : Type 0} (k : K) (rows : RowsOf K) where
  -- one row of bytes
  alone : (bytes path : List ℕ) → no_token bytes ≡ true → find_row ((bytes, k) ∷ rows) path ≡ (if bytes_eq path bytes then Some k else find_row rows path)
  alone bytes path h = rw (fits_all bytes path h) refl

  -- and one for what stands behind them
  with_rest : (bytes path : List ℕ) → no_token bytes ≡ true
      → find_row ((bytes ++ 257 ∷ [], k) ∷ (bytes, k) ∷ rows) path ≡ (if begins bytes path then Some k else find_row rows path)
  with_rest bytes path h =
      rw (fits_front bytes path h, fits_all bytes path h) (by (begins bytes path) (bytes_eq path bytes) (only_begins bytes path))
    where
      by : (v w : Bool) → (w ≡ true → v ≡ true)
          → (if v && not w then Some k else (if w then Some k else find_row rows path)) ≡ (if v then Some k else find_row rows path)
      by true true is = refl
      by true false is = refl
      by false true is = absurd (let bad : false ≡ true = is refl in let worse : ⊥ = cc in worse)
      by false false is = refl

mount_rows : (m : Mount) (rows : RowsOf Mount) (path : List ℕ) → find_row (rows_of m ++ rows) path ≡ (if is_in m path then Some m else find_row rows path)
mount_rows mount.Files rows path = with_rest mount.Files rows (words mount.Files) path refl
mount_rows mount.Public rows path = with_rest mount.Public rows (words mount.Public) path refl
mount_rows mount.Uploads rows path = with_rest mount.Uploads rows (words mount.Uploads) path refl
mount_rows mount.Trashbin rows path = with_rest mount.Trashbin rows (words mount.Trashbin) path refl
mount_rows mount.Versions rows path = with_rest mount.Versions rows (words mount.Versions) path refl
mount_rows mount.Shares rows path = alone mount.Shares rows (words mount.Shares) path refl
mount_rows mount.Share rows path = with_rest mount.Share rows (words mount.Share) path refl
mount_rows mount.Users rows path = alone mount.Users rows (words mount.Users) path refl
mount_rows mount.User rows path = with_rest mount.User rows (words mount.User) path refl
mount_rows mount.Groups rows path = alone mount.Groups rows (words mount.Groups) path refl

rows_of_mounts : (ms : List Mount) (path : List ℕ) → find_row (flat_map rows_of ms) path ≡ find (λ m. is_in m path) ms
rows_of_mounts [] path = refl
rows_of_mounts (m ∷ ms) path =
    mount_rows m (flat_map rows_of ms) path ∙ ap (λ rest. cond (is_in m path) (Some m) rest) (rows_of_mounts ms path)

-- the two tests of the table compute
plain : are_plain table ≡ true
unfolding table
plain = refl

unlike : are_apart table ≡ true
unfolding table
unlike = refl

table_rows : (path : List ℕ) → find_row table path ≡ find (λ m. is_in m path) mounts
unfolding table
table_rows path = rows_of_mounts mounts path

-- ---- escapes

-- a byte that stays as it is, and is none that an escape begins with
abbrev is_kept : ℕ → Bool
is_kept x = not (x == 37) && not (should_percent_encode CONTROLS x)

abbrev are_kept : List ℕ → Bool
are_kept [] = true
are_kept (x ∷ bytes) = is_kept x && are_kept bytes

-- neither an escape nor the byte that it stands for is such a byte
escape_differs : (x b : ℕ) → is_kept x ≡ true → should_percent_encode CONTROLS b ≡ true → ((37 == x) ≡ false) × ((b == x) ≡ false)
escape_differs x b kept escaped = (first (37 == x) refl, second (b == x) refl)
  where
    first : (v : Bool) → (37 == x) ≡ v → v ≡ false
    first true e = absurd (let bad : ⊥ = grind (arith, nat_tests) in bad)
    first false e = refl

    second : (v : Bool) → (b == x) ≡ v → v ≡ false
    second true e =
        absurd (let same : should_percent_encode CONTROLS x ≡ true = subst (λ (y : ℕ). should_percent_encode CONTROLS y ≡ true) (eqb-true b x e) escaped in
        let bad : ⊥ = grind (arith, nat_tests) in bad)
    second false e = refl

kept_first : (x : ℕ) (bytes : List ℕ) → are_kept (x ∷ bytes) ≡ true → (is_kept x ≡ true) × (are_kept bytes ≡ true)
kept_first x bytes h = by (is_kept x) (are_kept bytes) h
  where
    by : (v w : Bool) → (v && w) ≡ true → (v ≡ true) × (w ≡ true)
    by true w h = (refl, h)
    by false w h = absurd (let bad : ⊥ = cc in bad)

abbrev encoded : List ℕ → List ℕ
encoded path = flat_map (encode_byte CONTROLS) path

-- bytes that stay as they are stand at the front of a path, or are all of it, where they do in the path with its escapes
encoded_begins : (bytes path : List ℕ) → are_kept bytes ≡ true → begins bytes (encoded path) ≡ begins bytes path
unfolding percent_encode_byte
encoded_begins [] path h = refl
encoded_begins (x ∷ bytes) [] h = refl
encoded_begins (x ∷ bytes) (b ∷ path) h =
    by (should_percent_encode CONTROLS b) refl (kept_first x bytes h).0 (encoded_begins bytes path (kept_first x bytes h).1)
  where
    by : (v : Bool) → should_percent_encode CONTROLS b ≡ v → is_kept x ≡ true → begins bytes (encoded path) ≡ begins bytes path
        → begins (x ∷ bytes) ((if v then percent_encode_byte b else b ∷ []) ++ encoded path) ≡ begins (x ∷ bytes) (b ∷ path)
    by true e kept go = rw ((escape_differs x b kept e).0, (escape_differs x b kept e).1) refl
    by false e kept go = ap (λ rest. (b == x) && rest) go

encoded_all : (bytes path : List ℕ) → are_kept bytes ≡ true → bytes_eq (encoded path) bytes ≡ bytes_eq path bytes
unfolding percent_encode_byte
encoded_all [] [] h = refl
encoded_all [] (b ∷ path) h = by (should_percent_encode CONTROLS b)
  where
    by : (v : Bool) → bytes_eq ((if v then percent_encode_byte b else b ∷ []) ++ encoded path) [] ≡ false
    by true = refl
    by false = refl
encoded_all (x ∷ bytes) [] h = refl
encoded_all (x ∷ bytes) (b ∷ path) h =
    by (should_percent_encode CONTROLS b) refl (kept_first x bytes h).0 (encoded_all bytes path (kept_first x bytes h).1)
  where
    by : (v : Bool) → should_percent_encode CONTROLS b ≡ v → is_kept x ≡ true → bytes_eq (encoded path) bytes ≡ bytes_eq path bytes
        → bytes_eq ((if v then percent_encode_byte b else b ∷ []) ++ encoded path) (x ∷ bytes) ≡ bytes_eq (b ∷ path) (x ∷ bytes)
    by true e kept go = rw ((escape_differs x b kept e).0, (escape_differs x b kept e).1) refl
    by false e kept go = ap (λ rest. (b == x) && rest) go

-- the words of all mounts are such bytes
are_words : (m : Mount) → are_kept (words m) ≡ true
unfolding should_percent_encode
are_words mount.Files = refl
are_words mount.Public = refl
are_words mount.Uploads = refl
are_words mount.Trashbin = refl
are_words mount.Versions = refl
are_words mount.Shares = refl
are_words mount.Share = refl
are_words mount.Users = refl
are_words mount.User = refl
are_words mount.Groups = refl

encoded_in : (m : Mount) (path : List ℕ) → is_in m (encoded path) ≡ is_in m path
encoded_in m path = by (has_more m)
  where
    by : (more : Bool) → bytes_eq (if more then take (length (words m)) (encoded path) else encoded path) (words m)
        ≡ bytes_eq (if more then take (length (words m)) path else path) (words m)
    by true = encoded_begins (words m) path (are_words m)
    by false = encoded_all (words m) path (are_words m)

encoded_find : (ms : List Mount) (path : List ℕ) → find (λ m. is_in m (encoded path)) ms ≡ find (λ m. is_in m path) ms
encoded_find [] path = refl
encoded_find (m ∷ ms) path = rw (encoded_in m path) (ap (λ rest. cond (is_in m path) (Some m) rest) (encoded_find ms path))

-- a router with these rows finds the mount of a path in the path with its escapes
pub first_mount : (path : List ℕ) → first table (percent_encode CONTROLS path) ≡ mount_of path
unfolding mount_of percent_encode
first_mount path =
    first_row table (encoded path) plain unlike ∙ (table_rows (encoded path) ∙ encoded_find mounts path)
