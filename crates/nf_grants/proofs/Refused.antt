-- After a refusal the first share that is received has a chain, and a broken link in it.
use Rattle.std.proofs.Common.{ℕ, ◌+◌, ◌≡◌, ◌==◌, ◌&&◌, true, List, Option, Some, None, [], ◌∷◌, sym, ap, ◌∙◌}
use Rattle.std.specs.Prelude.{is_some, unwrap_or}
use Rattle.nf_access.proofs.Breaks.{broken_is_found_lem}
use Rattle.nf_access.proofs.Chains.{chain_found, line, within_is}
use Rattle.nf_access.proofs.LookUps.{find_among}
use Rattle.nf_access.specs.Broken.{broken_in, first_received}
use Rattle.nf_access.specs.Laws.{IsBounded, IsRefused}
use Rattle.nf_access.specs.Shares.{Ground, chain_of, chain_within, receives}
use Rattle.nf_access.specs.declared.Cause.{Cause}
use Rattle.nf_base.specs.declared.limits.TheConstants.{MAX_CHAIN}
use Rattle.nf_base.specs.declared.perms.Act.{Act}
use Rattle.nf_base.specs.declared.rows.ShareRow.{ShareRow}
use Rattle.nf_defs.specs.declared.Seeker.{Seeker}
use Rattle.nf_grants.proofs.Walks.{broken}

module _ (g : Ground) (who : Seeker) (node above : ℕ) (share : ShareRow) (bounded : IsBounded g) (most : MAX_CHAIN ≡ above + 1)
    (first : first_received g.members g.shares who node ≡ Some share) where
  within : chain_within MAX_CHAIN g.shares share.id ≡ line above g.shares share
  within =
      let there = (find_among (λ share. share.node == node && receives g.members who share) g.shares share first).0 in
      within_is MAX_CHAIN above g.shares share share.id most (bounded.numbered share there)

  pub has_line : is_some (line above g.shares share) ≡ true
  has_line =
      let there = (find_among (λ share. share.node == node && receives g.members who share) g.shares share first).0 in
      let chain = bounded.chained share there in
      ap is_some (sym within ∙ chain_found MAX_CHAIN g.shares share chain.0 chain.1 (bounded.short (share ∷ chain.0) chain.1))

  pub line_broken : (now : ℕ) (act : Option Act) → IsRefused g now who act node
      → (found : ℕ × Cause) × (broken g now act None above share ≡ Some found) × (broken_in g now act None (chain_of g.shares share.id) ≡ Some found)
  unfolding chain_of
  line_broken now act refused =
      let is = broken_is_found_lem g now who act node share bounded refused first in (
        (is.link, is.cause),
        ap (λ (o : Option (List ShareRow)). broken_in g now act None (unwrap_or o [])) (sym within) ∙ is.found,
        is.found,
      )
