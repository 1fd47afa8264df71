-- The rows of tables, kind after kind, and each two of them.
use Rattle.std.proofs.Common.{◌≡◌, ℕ, zero, suc, ◌<◌, ◌≤◌, List, [], ◌∷◌, ◌++◌, get_or, map, refl, subst, arith}
use Rattle.std.specs.List.{All, AllPairs}
use Rattle.std.proofs.lemmas.List.{append-nil}
use Rattle.std.proofs.lemmas.List.Elements.{All-append, All-cons, All-map, All-nil, All-weaker}
use Rattle.std.proofs.lemmas.List.Kept.{AllPairs-cons}
use Rattle.nf_base.specs.Keys.{key_of}
use Rattle.nf_base.specs.declared.rows.Row.{Row}
use Rattle.nf_base.specs.declared.rows.Row.TheVariants as rows
use Rattle.nf_defs.specs.Tables.{Tables, rows_of}
use Rattle.nf_rows.specs.Spelling.{kind_of}
use Rattle.nf_rules.proofs.Shared.{IsAmong, each_among}

-- the row is one of the tables'
abbrev pub IsOf : Tables → Row → Type 0
IsOf t (rows.Meta row) = row ≡ t.meta
IsOf t (rows.User row) = IsAmong t.users row
IsOf t (rows.Token row) = IsAmong t.tokens row
IsOf t (rows.Group row) = IsAmong t.groups row
IsOf t (rows.Member row) = IsAmong t.members row
IsOf t (rows.Node row) = IsAmong t.nodes row
IsOf t (rows.Share row) = IsAmong t.shares row
IsOf t (rows.Mount row) = IsAmong t.mounts row
IsOf t (rows.Version row) = IsAmong t.versions row
IsOf t (rows.Item row) = IsAmong t.items row
IsOf t (rows.Upload row) = IsAmong t.uploads row
IsOf t (rows.Chunk row) = IsAmong t.chunks row

-- what each row of the tables has, their list has
pub rows_have : (P : Row → Type 0) (t : Tables) → ((row : Row) → IsOf t row → P row) → All P (rows_of t)
rows_have P t each =
    All-cons P (rows.Meta t.meta) _ (each (rows.Meta t.meta) refl)
    (kind_has rows.User t.users (λ row. each (rows.User row)) _
    (kind_has rows.Token t.tokens (λ row. each (rows.Token row)) _
    (kind_has rows.Group t.groups (λ row. each (rows.Group row)) _
    (kind_has rows.Member t.members (λ row. each (rows.Member row)) _
    (kind_has rows.Node t.nodes (λ row. each (rows.Node row)) _
    (kind_has rows.Share t.shares (λ row. each (rows.Share row)) _
    (kind_has rows.Mount t.mounts (λ row. each (rows.Mount row)) _
    (kind_has rows.Version t.versions (λ row. each (rows.Version row)) _
    (kind_has rows.Item t.items (λ row. each (rows.Item row)) _
    (kind_has rows.Upload t.uploads (λ row. each (rows.Upload row)) _
    (All-map P rows.Chunk t.chunks (λ k d within. each (rows.Chunk (get_or t.chunks k d)) (each_among t.chunks k d within)))))))))))))
  where
    kind_has : {X : Type 0} (row_of : X → Row) (some : List X) → ((x : X) → IsAmong some x → P (row_of x)) → (others : List Row) → All P others
        → All P (map row_of some ++ others)
    kind_has row_of some each others rest =
        All-append P (map row_of some) others
        (All-map P row_of some (λ k d within. each (get_or some k d) (each_among some k d within))) rest

-- ---- each two

abbrev pub kind : Row → ℕ
kind row = kind_of (key_of row)

module _ (R : Row → Row → Type 0) (differ : (a b : Row) → kind a < kind b → R a b) where
  -- each two rows have it, and no kind is below that one
  record Stacked (least : ℕ) (some : List Row) : Type 0 where
    pairs : AllPairs R some
    from : All (λ row. least ≤ kind row) some

  nothing : (least : ℕ) → Stacked least []
  nothing least = record { pairs = λ i j d before within. absurd (omega arith); from = All-nil (λ row. least ≤ kind row) }

  abbrev OfKind : {X : Type 0} → (X → Row) → List X → Type 0
  OfKind row_of some = AllPairs (λ a b. R (row_of a) (row_of b)) some

  -- rows of a kind before others whose kinds are above it
  more : {X : Type 0} (row_of : X → Row) (this : ℕ) → ((x : X) → kind (row_of x) ≡ this) → (some : List X) (others : List Row)
      → OfKind row_of some → Stacked (suc this) others → Stacked this (map row_of some ++ others)
  more row_of this is [] others pairs rest =
      record {
        pairs = rest.pairs;
        from = All-weaker (λ row. suc this ≤ kind row) (λ row. this ≤ kind row) (λ row le. omega arith) others rest.from;
      }
  more row_of this is (x ∷ some) others pairs rest =
      let tail = more row_of this is some others (λ i j d before within. pairs (suc i) (suc j) d (omega arith) (omega arith)) rest in
      record {
        pairs = AllPairs-cons R (row_of x) (map row_of some ++ others)
            (All-append (R (row_of x)) (map row_of some) others
            (All-map (R (row_of x)) row_of some (λ k d within. pairs zero (suc k) d (omega arith) (omega arith)))
            (All-weaker (λ row. suc this ≤ kind row) (R (row_of x)) (λ row le. differ (row_of x) row (omega (arith, is x))) others rest.from))
            tail.pairs;
        from = All-cons (λ row. this ≤ kind row) (row_of x) (map row_of some ++ others) (omega (arith, is x)) tail.from;
      }

  -- where each two of one kind have it, each two have it, since kinds rise
  pub each_two : (t : Tables) → OfKind rows.User t.users → OfKind rows.Token t.tokens → OfKind rows.Group t.groups
      → OfKind rows.Member t.members → OfKind rows.Node t.nodes → OfKind rows.Share t.shares → OfKind rows.Mount t.mounts
      → OfKind rows.Version t.versions → OfKind rows.Item t.items → OfKind rows.Upload t.uploads → OfKind rows.Chunk t.chunks
      → AllPairs R (rows_of t)
  each_two t users tokens groups members nodes shares mounts versions items uploads chunks =
      (more rows.Meta 1 (λ row. refl) (t.meta ∷ []) _ (λ i j d before within. absurd (omega arith))
      (more rows.User 2 (λ row. refl) t.users _ users
      (more rows.Token 3 (λ row. refl) t.tokens _ tokens
      (more rows.Group 4 (λ row. refl) t.groups _ groups
      (more rows.Member 5 (λ row. refl) t.members _ members
      (more rows.Node 6 (λ row. refl) t.nodes _ nodes
      (more rows.Share 7 (λ row. refl) t.shares _ shares
      (more rows.Mount 8 (λ row. refl) t.mounts _ mounts
      (more rows.Version 9 (λ row. refl) t.versions _ versions
      (more rows.Item 10 (λ row. refl) t.items _ items
      (more rows.Upload 11 (λ row. refl) t.uploads _ uploads
      (subst (Stacked 12) (append-nil (map rows.Chunk t.chunks))
      (more rows.Chunk 12 (λ row. refl) t.chunks [] chunks (nothing 13)))))))))))))).pairs
