-- Tables that are made of rows.
use Rattle.std.proofs.Common.{ℕ, suc, ◌+◌, ◌<◌, ◌≡◌, List, length, get_or, drop, sym, ap, ◌∙◌, add-one, drop-cons}
use Rattle.nf_base.specs.declared.changes.RowKey.{RowKey}
use Rattle.nf_base.specs.declared.changes.RowKey.TheVariants as keys
use Rattle.nf_base.specs.declared.rows.Row.{Row}
use Rattle.nf_base.specs.declared.rows.Row.TheVariants as rows
use Rattle.nf_defs.specs.Prelude.{AreRising, chunk_key, drop_row, group_key, IsRising, item_key, member_key, mount_key, node_key, numbers_of, put_row, put_rows, share_key, Tables, token_key, upload_key, user_key, version_key}
use Rattle.nf_defs.proofs.Puts.{dropped_rising, put_rising}

-- one row more
pub rows_more : (t more : Tables) (all : List Row) (i : ℕ) (row : Row) → i < length all → row ≡ get_or all i row → more ≡ put_row t row
    → put_rows more (drop (i + 1) all) ≡ put_rows t (drop i all)
rows_more t more all i row within is put =
    ap (λ (k : ℕ). put_rows more (drop k all)) (add-one i)
    ∙ ap (λ (x : Tables). put_rows x (drop (suc i) all)) (put ∙ ap (λ (r : Row). put_row t r) is)
    ∙ sym (ap (λ (xs : List Row). put_rows t xs) (drop-cons all i row within))

-- the rows of each kind rise
pub rises : (t : Tables) → IsRising user_key t.users → IsRising token_key t.tokens → IsRising group_key t.groups
    → IsRising member_key t.members → IsRising node_key t.nodes → IsRising share_key t.shares → IsRising mount_key t.mounts
    → IsRising version_key t.versions → IsRising item_key t.items → IsRising upload_key t.uploads → IsRising chunk_key t.chunks → AreRising t
rises t a b c d e f g h i j k =
    record { users = a; tokens = b; groups = c; members = d; nodes = e; shares = f; mounts = g; versions = h; items = i; uploads = j; chunks = k }

-- the rows of each kind stay by rising key
pub rising_more : (t : Tables) (row : Row) → AreRising t → AreRising (put_row t row)
rising_more t (rows.Meta row) h =
    rises _ h.users h.tokens h.groups h.members h.nodes h.shares h.mounts h.versions h.items h.uploads h.chunks
rising_more t (rows.User row) h =
    rises _ (put_rising user_key row t.users h.users) h.tokens h.groups h.members h.nodes h.shares h.mounts h.versions h.items h.uploads h.chunks
rising_more t (rows.Token row) h =
    rises _ h.users (put_rising token_key row t.tokens h.tokens) h.groups h.members h.nodes h.shares h.mounts h.versions h.items h.uploads h.chunks
rising_more t (rows.Group row) h =
    rises _ h.users h.tokens (put_rising group_key row t.groups h.groups) h.members h.nodes h.shares h.mounts h.versions h.items h.uploads h.chunks
rising_more t (rows.Member row) h =
    rises _ h.users h.tokens h.groups (put_rising member_key row t.members h.members) h.nodes h.shares h.mounts h.versions h.items h.uploads h.chunks
rising_more t (rows.Node row) h =
    rises _ h.users h.tokens h.groups h.members (put_rising node_key row t.nodes h.nodes) h.shares h.mounts h.versions h.items h.uploads h.chunks
rising_more t (rows.Share row) h =
    rises _ h.users h.tokens h.groups h.members h.nodes (put_rising share_key row t.shares h.shares) h.mounts h.versions h.items h.uploads h.chunks
rising_more t (rows.Mount row) h =
    rises _ h.users h.tokens h.groups h.members h.nodes h.shares (put_rising mount_key row t.mounts h.mounts) h.versions h.items h.uploads h.chunks
rising_more t (rows.Version row) h =
    rises _ h.users h.tokens h.groups h.members h.nodes h.shares h.mounts (put_rising version_key row t.versions h.versions) h.items h.uploads h.chunks
rising_more t (rows.Item row) h =
    rises _ h.users h.tokens h.groups h.members h.nodes h.shares h.mounts h.versions (put_rising item_key row t.items h.items) h.uploads h.chunks
rising_more t (rows.Upload row) h =
    rises _ h.users h.tokens h.groups h.members h.nodes h.shares h.mounts h.versions h.items (put_rising upload_key row t.uploads h.uploads) h.chunks
rising_more t (rows.Chunk row) h =
    rises _ h.users h.tokens h.groups h.members h.nodes h.shares h.mounts h.versions h.items h.uploads (put_rising chunk_key row t.chunks h.chunks)

-- the rows that are left when one is dropped rise still
pub rising_fewer : (t : Tables) (key : RowKey) → AreRising t → AreRising (drop_row t key)
rising_fewer t keys.Meta h = h
rising_fewer t (keys.User id) h =
    rises _ (dropped_rising user_key (numbers_of (keys.User id)) t.users h.users) h.tokens h.groups h.members h.nodes h.shares h.mounts h.versions h.items h.uploads h.chunks
rising_fewer t (keys.Token digest) h =
    rises _ h.users (dropped_rising token_key (numbers_of (keys.Token digest)) t.tokens h.tokens) h.groups h.members h.nodes h.shares h.mounts h.versions h.items h.uploads h.chunks
rising_fewer t (keys.Group id) h =
    rises _ h.users h.tokens (dropped_rising group_key (numbers_of (keys.Group id)) t.groups h.groups) h.members h.nodes h.shares h.mounts h.versions h.items h.uploads h.chunks
rising_fewer t (keys.Member group user) h =
    rises _ h.users h.tokens h.groups (dropped_rising member_key (numbers_of (keys.Member group user)) t.members h.members) h.nodes h.shares h.mounts h.versions h.items h.uploads h.chunks
rising_fewer t (keys.Node id) h =
    rises _ h.users h.tokens h.groups h.members (dropped_rising node_key (numbers_of (keys.Node id)) t.nodes h.nodes) h.shares h.mounts h.versions h.items h.uploads h.chunks
rising_fewer t (keys.Share id) h =
    rises _ h.users h.tokens h.groups h.members h.nodes (dropped_rising share_key (numbers_of (keys.Share id)) t.shares h.shares) h.mounts h.versions h.items h.uploads h.chunks
rising_fewer t (keys.Mount user node) h =
    rises _ h.users h.tokens h.groups h.members h.nodes h.shares (dropped_rising mount_key (numbers_of (keys.Mount user node)) t.mounts h.mounts) h.versions h.items h.uploads h.chunks
rising_fewer t (keys.Version node at) h =
    rises _ h.users h.tokens h.groups h.members h.nodes h.shares h.mounts (dropped_rising version_key (numbers_of (keys.Version node at)) t.versions h.versions) h.items h.uploads h.chunks
rising_fewer t (keys.Item node) h =
    rises _ h.users h.tokens h.groups h.members h.nodes h.shares h.mounts h.versions (dropped_rising item_key (numbers_of (keys.Item node)) t.items h.items) h.uploads h.chunks
rising_fewer t (keys.Upload user dir) h =
    rises _ h.users h.tokens h.groups h.members h.nodes h.shares h.mounts h.versions h.items (dropped_rising upload_key (numbers_of (keys.Upload user dir)) t.uploads h.uploads) h.chunks
rising_fewer t (keys.Chunk user dir number) h =
    rises _ h.users h.tokens h.groups h.members h.nodes h.shares h.mounts h.versions h.items h.uploads (dropped_rising chunk_key (numbers_of (keys.Chunk user dir number)) t.chunks h.chunks)
