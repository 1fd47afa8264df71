-- Numbers are given once.
use Rattle.std.specs.Prelude.{◌≡◌, ◌⊎◌, ℕ, ◌≤◌, true, All, List, is_some}
use Rattle.nf_base.specs.declared.rows.MetaRow.{MetaRow}
use Rattle.nf_base.specs.declared.rows.NodeRow.{NodeRow}
use Rattle.nf_defs.specs.Tree.{node_row}
use Rattle.nf_words.specs.Prelude.{IsLegalFrom, IsSound, replay, State}
use Rattle.nf_words.specs.declared.history.Entry.{Entry}

-- no counter is lower than it was
pub record AreHigher (before after : MetaRow) : Type 0 where
  pub users : before.next_user ≤ after.next_user
  pub groups : before.next_group ≤ after.next_group
  pub nodes : before.next_node ≤ after.next_node
  pub shares : before.next_share ≤ after.next_share
  pub blobs : before.next_blob ≤ after.next_blob

-- counters never fall
abbrev pub CountersRise : Type 0
CountersRise = (s : State) (es : List Entry) → AreHigher s.tables.meta (replay s es).tables.meta

-- a node that wasn't there has a number that wasn't given
abbrev pub NumbersAreNew : Type 0
NumbersAreNew =
    (n : ℕ) (s : State) (es : List Entry) → IsSound s → IsLegalFrom n s es
    → All (λ (row : NodeRow). (is_some (node_row s.tables.nodes row.id) ≡ true) ⊎ (s.tables.meta.next_node ≤ row.id)) (replay s es).tables.nodes
