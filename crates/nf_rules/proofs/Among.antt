-- What the rows of tables have, where each row has it that was put into them.
use Rattle.std.proofs.Common.{◌≡◌, ◌⊎◌, Bool, true, false, ◌||◌, List, [], ◌∷◌, get_or, refl, sym, subst, ◌∙◌, inl, inr}
use Rattle.std.specs.List.{All, list_any}
use Rattle.std.proofs.lemmas.Bool.{false≢true, not-false}
use Rattle.std.proofs.lemmas.List.Elements.{All-head, All-nil, All-tail}
use Rattle.nf_base.specs.declared.rows.Row.{Row}
use Rattle.nf_base.specs.declared.rows.Row.TheVariants as rows
use Rattle.nf_base.specs.declared.rows.MetaRow.{MetaRow}
use Rattle.nf_base.specs.declared.rows.UserRow.{UserRow}
use Rattle.nf_base.specs.declared.rows.TokenRow.{TokenRow}
use Rattle.nf_base.specs.declared.rows.GroupRow.{GroupRow}
use Rattle.nf_base.specs.declared.rows.MemberRow.{MemberRow}
use Rattle.nf_base.specs.declared.rows.NodeRow.{NodeRow}
use Rattle.nf_base.specs.declared.rows.ShareRow.{ShareRow}
use Rattle.nf_base.specs.declared.rows.MountRow.{MountRow}
use Rattle.nf_base.specs.declared.rows.VersionRow.{VersionRow}
use Rattle.nf_base.specs.declared.rows.ItemRow.{ItemRow}
use Rattle.nf_base.specs.declared.rows.UploadRow.{UploadRow}
use Rattle.nf_base.specs.declared.rows.ChunkRow.{ChunkRow}
use Rattle.nf_defs.specs.Prelude.{chunk_key, group_key, item_key, member_key, mount_key, no_rows, node_key, put_row, put_rows, share_key, Tables, tables_of, token_key, upload_key, user_key, version_key}
use Rattle.nf_defs.proofs.Puts.{all_put}
use Rattle.nf_rules.specs.Rules.{is_meta, lacks_meta}

-- each row but the meta row has it
pub record Have (P : Row → Type 0) (t : Tables) : Type 0 where
  pub users : All (λ (row : UserRow). P (rows.User row)) t.users
  pub tokens : All (λ (row : TokenRow). P (rows.Token row)) t.tokens
  pub groups : All (λ (row : GroupRow). P (rows.Group row)) t.groups
  pub members : All (λ (row : MemberRow). P (rows.Member row)) t.members
  pub nodes : All (λ (row : NodeRow). P (rows.Node row)) t.nodes
  pub shares : All (λ (row : ShareRow). P (rows.Share row)) t.shares
  pub mounts : All (λ (row : MountRow). P (rows.Mount row)) t.mounts
  pub versions : All (λ (row : VersionRow). P (rows.Version row)) t.versions
  pub items : All (λ (row : ItemRow). P (rows.Item row)) t.items
  pub uploads : All (λ (row : UploadRow). P (rows.Upload row)) t.uploads
  pub chunks : All (λ (row : ChunkRow). P (rows.Chunk row)) t.chunks

haves : (P : Row → Type 0) (t : Tables) → All (λ (row : UserRow). P (rows.User row)) t.users → All (λ (row : TokenRow). P (rows.Token row)) t.tokens
    → All (λ (row : GroupRow). P (rows.Group row)) t.groups → All (λ (row : MemberRow). P (rows.Member row)) t.members
    → All (λ (row : NodeRow). P (rows.Node row)) t.nodes → All (λ (row : ShareRow). P (rows.Share row)) t.shares
    → All (λ (row : MountRow). P (rows.Mount row)) t.mounts → All (λ (row : VersionRow). P (rows.Version row)) t.versions
    → All (λ (row : ItemRow). P (rows.Item row)) t.items → All (λ (row : UploadRow). P (rows.Upload row)) t.uploads
    → All (λ (row : ChunkRow). P (rows.Chunk row)) t.chunks → Have P t
haves P t a b c d e f g h i j k =
    record { users = a; tokens = b; groups = c; members = d; nodes = e; shares = f; mounts = g; versions = h; items = i; uploads = j; chunks = k }

one_more : (P : Row → Type 0) (t : Tables) (row : Row) → P row → Have P t → Have P (put_row t row)
one_more P t (rows.Meta row) it h =
    haves P _ h.users h.tokens h.groups h.members h.nodes h.shares h.mounts h.versions h.items h.uploads h.chunks
one_more P t (rows.User row) it h =
    haves P _ (all_put user_key (λ row. P (rows.User row)) row t.users it h.users) h.tokens h.groups h.members h.nodes h.shares h.mounts h.versions h.items h.uploads h.chunks
one_more P t (rows.Token row) it h =
    haves P _ h.users (all_put token_key (λ row. P (rows.Token row)) row t.tokens it h.tokens) h.groups h.members h.nodes h.shares h.mounts h.versions h.items h.uploads h.chunks
one_more P t (rows.Group row) it h =
    haves P _ h.users h.tokens (all_put group_key (λ row. P (rows.Group row)) row t.groups it h.groups) h.members h.nodes h.shares h.mounts h.versions h.items h.uploads h.chunks
one_more P t (rows.Member row) it h =
    haves P _ h.users h.tokens h.groups (all_put member_key (λ row. P (rows.Member row)) row t.members it h.members) h.nodes h.shares h.mounts h.versions h.items h.uploads h.chunks
one_more P t (rows.Node row) it h =
    haves P _ h.users h.tokens h.groups h.members (all_put node_key (λ row. P (rows.Node row)) row t.nodes it h.nodes) h.shares h.mounts h.versions h.items h.uploads h.chunks
one_more P t (rows.Share row) it h =
    haves P _ h.users h.tokens h.groups h.members h.nodes (all_put share_key (λ row. P (rows.Share row)) row t.shares it h.shares) h.mounts h.versions h.items h.uploads h.chunks
one_more P t (rows.Mount row) it h =
    haves P _ h.users h.tokens h.groups h.members h.nodes h.shares (all_put mount_key (λ row. P (rows.Mount row)) row t.mounts it h.mounts) h.versions h.items h.uploads h.chunks
one_more P t (rows.Version row) it h =
    haves P _ h.users h.tokens h.groups h.members h.nodes h.shares h.mounts (all_put version_key (λ row. P (rows.Version row)) row t.versions it h.versions) h.items h.uploads h.chunks
one_more P t (rows.Item row) it h =
    haves P _ h.users h.tokens h.groups h.members h.nodes h.shares h.mounts h.versions (all_put item_key (λ row. P (rows.Item row)) row t.items it h.items) h.uploads h.chunks
one_more P t (rows.Upload row) it h =
    haves P _ h.users h.tokens h.groups h.members h.nodes h.shares h.mounts h.versions h.items (all_put upload_key (λ row. P (rows.Upload row)) row t.uploads it h.uploads) h.chunks
one_more P t (rows.Chunk row) it h =
    haves P _ h.users h.tokens h.groups h.members h.nodes h.shares h.mounts h.versions h.items h.uploads (all_put chunk_key (λ row. P (rows.Chunk row)) row t.chunks it h.chunks)

-- rows that each have it leave it with each
had : (P : Row → Type 0) (t : Tables) (all : List Row) → All P all → Have P t → Have P (put_rows t all)
had P t [] each h = h
had P t (row ∷ all) each h = had P (put_row t row) all (All-tail P row all each) (one_more P t row (All-head P row all each) h)

pub all_have : (P : Row → Type 0) (all : List Row) → All P all → Have P (tables_of all)
all_have P all each = had P no_rows all each (record {
  users = All-nil (λ row. P (rows.User row));
  tokens = All-nil (λ row. P (rows.Token row));
  groups = All-nil (λ row. P (rows.Group row));
  members = All-nil (λ row. P (rows.Member row));
  nodes = All-nil (λ row. P (rows.Node row));
  shares = All-nil (λ row. P (rows.Share row));
  mounts = All-nil (λ row. P (rows.Mount row));
  versions = All-nil (λ row. P (rows.Version row));
  items = All-nil (λ row. P (rows.Item row));
  uploads = All-nil (λ row. P (rows.Upload row));
  chunks = All-nil (λ row. P (rows.Chunk row));
})

-- what each has, it has of what follows
pub have_weaker : (P Q : Row → Type 0) (t : Tables) → ((row : Row) → P row → Q row) → Have P t → Have Q t
have_weaker P Q t weaker h = record {
  users = λ k d within. weaker (rows.User (get_or t.users k d)) (h.users k d within);
  tokens = λ k d within. weaker (rows.Token (get_or t.tokens k d)) (h.tokens k d within);
  groups = λ k d within. weaker (rows.Group (get_or t.groups k d)) (h.groups k d within);
  members = λ k d within. weaker (rows.Member (get_or t.members k d)) (h.members k d within);
  nodes = λ k d within. weaker (rows.Node (get_or t.nodes k d)) (h.nodes k d within);
  shares = λ k d within. weaker (rows.Share (get_or t.shares k d)) (h.shares k d within);
  mounts = λ k d within. weaker (rows.Mount (get_or t.mounts k d)) (h.mounts k d within);
  versions = λ k d within. weaker (rows.Version (get_or t.versions k d)) (h.versions k d within);
  items = λ k d within. weaker (rows.Item (get_or t.items k d)) (h.items k d within);
  uploads = λ k d within. weaker (rows.Upload (get_or t.uploads k d)) (h.uploads k d within);
  chunks = λ k d within. weaker (rows.Chunk (get_or t.chunks k d)) (h.chunks k d within);
}

-- ---- the meta row

other_meta : (t : Tables) (row : Row) → is_meta row ≡ false → (put_row t row).meta ≡ t.meta
other_meta t (rows.Meta row) other = absurd (false≢true (sym other))
other_meta t row other = refl

the_meta : (t : Tables) (row : Row) → is_meta row ≡ true → row ≡ rows.Meta (put_row t row).meta
the_meta t (rows.Meta row) is = refl
the_meta t row is = absurd (false≢true is)

meta_had : (P : Row → Type 0) (t : Tables) (all : List Row) → All P all → P (rows.Meta t.meta) ⊎ (list_any is_meta all ≡ true)
    → P (rows.Meta (put_rows t all).meta)
meta_had P t [] each (inl it) = it
meta_had P t [] each (inr there) = absurd (false≢true there)
meta_had P t (row ∷ all) each h =
    here (is_meta row) refl h (λ h. meta_had P (put_row t row) all (All-tail P row all each) h)
  where
    or_false : (a b : Bool) → a ≡ false → (a || b) ≡ b
    or_false true b e = absurd (false≢true (sym e))
    or_false false b e = refl

    here : (a : Bool) → is_meta row ≡ a → P (rows.Meta t.meta) ⊎ ((is_meta row || list_any is_meta all) ≡ true)
        → (P (rows.Meta (put_row t row).meta) ⊎ (list_any is_meta all ≡ true) → P (rows.Meta (put_rows t (row ∷ all)).meta))
        → P (rows.Meta (put_rows t (row ∷ all)).meta)
    here true e h rest = rest (inl (subst P (the_meta t row e) (All-head P row all each)))
    here false e (inl it) rest = rest (inl (subst (λ (meta : MetaRow). P (rows.Meta meta)) (sym (other_meta t row e)) it))
    here false e (inr there) rest = rest (inr (sym (or_false (is_meta row) (list_any is_meta all) e) ∙ there))

-- where a meta row is there, that of the tables has what each row has
pub meta_has : (P : Row → Type 0) (all : List Row) → lacks_meta all ≡ false → All P all → P (rows.Meta (tables_of all).meta)
meta_has P all there each = meta_had P no_rows all each (inr (not-false (list_any is_meta all) there))
