-- Rows by rising key.
use Rattle.std.specs.Prelude.{◌≡◌, ℕ, List}
use Rattle.std.specs.List.{AllPairs}
use Rattle.std.specs.declared.cmp.Ordering.TheVariants.{Less}
use Rattle.nf_defs.specs.Keys.{user_key, token_key, group_key, member_key, node_key, share_key, mount_key, version_key, item_key, upload_key, chunk_key}
use Rattle.nf_defs.specs.Puts.{key_cmp}
use Rattle.nf_defs.specs.Tables.{Tables}

-- each row's key is below those of the rows after it
abbrev pub IsRising : {R : Type 0} → (R → List ℕ) → List R → Type 0
IsRising {R} key rows = AllPairs (λ (a b : R). key_cmp (key a) (key b) ≡ Less) rows

-- the rows of each kind are
pub record AreRising (t : Tables) : Type 0 where
  pub users : IsRising user_key t.users
  pub tokens : IsRising token_key t.tokens
  pub groups : IsRising group_key t.groups
  pub members : IsRising member_key t.members
  pub nodes : IsRising node_key t.nodes
  pub shares : IsRising share_key t.shares
  pub mounts : IsRising mount_key t.mounts
  pub versions : IsRising version_key t.versions
  pub items : IsRising item_key t.items
  pub uploads : IsRising upload_key t.uploads
  pub chunks : IsRising chunk_key t.chunks
