-- What becomes of nodes follows from what is needed.
use Rattle.std.proofs.Common.{ℕ, zero, suc, ◌+◌, ◌==◌, ◌&&◌, ◌≡◌, ◌≢◌, ◌<◌, ◌≤◌, Bool, true, false, not, List, [], ◌∷◌, Option, None, Some, if◌then◌else◌, length, map, get_or, refl, sym, ap, subst, ◌∙◌, inl, inr, arith}
use Rattle.std.specs.Prelude.{is_some, slice_get}
use Rattle.std.proofs.lemmas.Bool.{both_ways, cases_Bool, eq-eqb, eqb-true}
use Rattle.std.proofs.lemmas.Option.{slice_get-get_or, slice_get_within}
use Rattle.nf_base.specs.declared.content.Piece.{Piece}
use Rattle.nf_base.specs.declared.perms.Act.TheVariants.{Create, Update}
use Rattle.nf_base.specs.declared.rows.NodeKind.{NodeKind}
use Rattle.nf_base.specs.declared.rows.NodeRow.{NodeRow}
use Rattle.nf_base.specs.declared.rows.ShareRow.{ShareRow}
use Rattle.nf_defs.specs.Prelude.{folder_of, node_row, Tables}
use Rattle.nf_laws.proofs.Regions.{none_given}
use Rattle.nf_laws.specs.Access.{Follows, IsMadeIn, IsNeeded, in_it, in_made, is_made, is_updated}
use Rattle.nf_laws.specs.Acts.{IsAdded}
use Rattle.nf_laws.specs.Transfers.{IsPlacedCopy, Mirrors}
use Rattle.nf_words.specs.Prelude.{AreSound, ended_row, Need}
use Rattle.nf_words.specs.declared.request.Transfer.{Transfer}
use Rattle.nf_laws.proofs.Refilled.{IsFilledAt}

-- what becomes of each node whose row is another
abbrev pub AllFollow : List Need → List NodeRow → List NodeRow → Type 0
AllFollow needs before after = (node : ℕ) → node_row after node ≢ node_row before node → Follows needs before after node

-- so it is, where it is of one node and of every other
pub one_follows : (needs : List Need) (before after : List NodeRow) (one : ℕ) → Follows needs before after one
    → ((node : ℕ) → node ≢ one → node_row after node ≢ node_row before node → Follows needs before after node)
    → AllFollow needs before after
one_follows needs before after one follows others node differs =
    elim (cases_Bool (node == one)) [
      | inl same ↦ subst (Follows needs before after) (sym (eqb-true node one same)) follows
      | inr other ↦ others node (λ e. both_ways (node == one) other (eq-eqb node one e)) differs
    ]

pub added_follow : (t made : Tables) (now folder : ℕ) (name : List ℕ) (kind : NodeKind) (content : List Piece) (needs : List Need)
    → IsAdded t made now folder name kind content → IsNeeded needs Create folder → AllFollow needs t.nodes made.nodes
added_follow t made now folder name kind content needs is needed =
    one_follows needs t.nodes made.nodes t.meta.next_node
    (is_made folder needed (in_it t.meta.next_node is.fresh (rw is.itself refl)))
    (λ node other differs. absurd (differs (is.others node other)))

pub filled_follow : (before after : List NodeRow) (now node : ℕ) (content : List Piece) (needs : List Need)
    → IsFilledAt before after now node content → IsNeeded needs Update node → AllFollow needs before after
filled_follow before after now node content needs is needed =
    one_follows needs before after node
    (is_updated is.row (record is.row { content = content; changed = now }) needed is.there is.itself refl)
    (λ other differs changes. absurd (changes (is.others other differs)))

-- ---- the shares

-- the shares of nodes that pass a test are ended
abbrev pub shares_by : (ℕ → Bool) → List ShareRow → List ShareRow
shares_by goes shares = map (λ share. if goes share.node then ended_row share else share) shares

-- the node was there, and isn't any more
abbrev pub is_gone_from : List NodeRow → List NodeRow → ℕ → Bool
is_gone_from before after node = is_some (node_row before node) && not (is_some (node_row after node))

-- the shares, where those are ended whose nodes are gone
abbrev pub shares_gone : List NodeRow → List NodeRow → List ShareRow → List ShareRow
shares_gone before after shares = shares_by (is_gone_from before after) shares

-- where every node stays, they are as they were
pub kept_shares : (before after : List NodeRow) (shares : List ShareRow)
    → ((node : ℕ) → is_some (node_row before node) ≡ true → is_some (node_row after node) ≡ true) → shares ≡ shares_gone before after shares
kept_shares before after [] stay = refl
kept_shares before after (share ∷ shares) stay =
    ap (λ (rest : List ShareRow). share ∷ rest) (kept_shares before after shares stay)
    ∙ ap (λ (b : Bool). (if b then ended_row share else share) ∷ shares_gone before after shares)
    (sym (here (is_some (node_row before share.node)) (stay share.node)))
  where
    here : (b : Bool) → (b ≡ true → is_some (node_row after share.node) ≡ true) → (b && not (is_some (node_row after share.node))) ≡ false
    here true still = ap not (still refl)
    here false still = refl

-- ---- copies

-- the copies are there, and nothing else has a number that wasn't given
pub record AreLaid (next : ℕ) (copies after : List NodeRow) : Type 0 where
  pub there : (k : ℕ) (copy : NodeRow) → slice_get copies k ≡ Some copy → node_row after copy.id ≡ Some copy
  pub new : (node : ℕ) (row : NodeRow) → next ≤ node → node_row after node ≡ Some row → (k : ℕ) × (slice_get copies k ≡ Some row) × (row.id ≡ node)

module _ (t : Tables) (now : ℕ) (transfer : Transfer) (name : List ℕ) (copies after : List NodeRow) (sound : AreSound t)
    (mirrors : Mirrors t now transfer name copies) (laid : AreLaid t.meta.next_node copies after) where
  -- each copy is made in the folder of the transfer, or in the copy of a folder
  copy_made : (n k : ℕ) (copy : NodeRow) → k < n → slice_get copies k ≡ Some copy → IsMadeIn t.nodes after transfer.folder copy.id
  copy_made zero k copy less is = absurd (omega (arith, less))
  copy_made (suc n) k copy less is =
      here k less is (mirrors.each k copy is).of (mirrors.each k copy is).placed (λ at parent before found. copy_made n at parent before found)
    where
      none : node_row t.nodes copy.id ≡ None
      none = none_given t copy.id sound (omega (arith, (mirrors.each k copy is).id))

      here : (k : ℕ) → k < suc n → slice_get copies k ≡ Some copy → (of : NodeRow) → IsPlacedCopy t transfer name k of copy
          → ((at : ℕ) (parent : NodeRow) → at < n → slice_get copies at ≡ Some parent → IsMadeIn t.nodes after transfer.folder parent.id)
          → IsMadeIn t.nodes after transfer.folder copy.id
      here zero less is of placed rest = in_it copy.id none (rw (laid.there 0 copy is) (ap folder_of placed.0))
      here (suc k) less is of (named, (folder, at, of_place, at_index, before, place)) rest =
          let within : at < length copies = omega (arith, before, slice_get_within copies (suc k) copy is) in
          let found = slice_get-get_or copies at copy within in
          in_made copy.id (t.meta.next_node + at) none (rw (laid.there (suc k) copy is) (ap folder_of place))
          (subst (IsMadeIn t.nodes after transfer.folder) (mirrors.each at (get_or copies at copy) found).id
          (rest at (get_or copies at copy) (omega (arith, before, less)) found))

  -- so it is made where something is created
  pub copy_follows : (needs : List Need) → IsNeeded needs Create transfer.folder → (node : ℕ) → t.meta.next_node ≤ node
      → node_row after node ≢ node_row t.nodes node → Follows needs t.nodes after node
  copy_follows needs needed node new differs = here (node_row after node) refl
    where
      here : (o : Option NodeRow) → node_row after node ≡ o → Follows needs t.nodes after node
      here None e = absurd (differs (e ∙ sym (none_given t node sound new)))
      here (Some copy) e =
          let at = laid.new node copy new e in
          is_made transfer.folder needed
          (subst (IsMadeIn t.nodes after transfer.folder) at.2 (copy_made (suc at.0) at.0 copy (omega arith) at.1))
