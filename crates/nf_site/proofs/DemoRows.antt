-- The demonstration rows break no rule: the digests of the tokens are computed, and then the rules.
use Rattle.std.proofs.Common.{◌≡◌, ℕ, List, [], ◌∷◌, codes, refl, subst, sym}
use Rattle.sha2.specs.Sha256.{compress, digest_bytes, first_words, hash_after, rounds, schedule, sha256}
use Rattle.nf_base.specs.declared.rows.Row.{Row}
use Rattle.nf_base.specs.declared.rows.Row.TheVariants as row
use Rattle.nf_rows.specs.Spelling.{spelled}
use Rattle.nf_rules.specs.Rules.{AreUnbroken, leads, leads_within}
use Rattle.nf_site.specs.Demo.{demo_rows, hello_file, root, user}

abbrev alice_digest : List ℕ
alice_digest =
    0xA4 ∷ 0x2A ∷ 0xC5 ∷ 0x10 ∷ 0x88 ∷ 0x69 ∷ 0xB5 ∷ 0x99 ∷ 0xBC ∷ 0xBA ∷ 0xC2 ∷ 0x10 ∷ 0x69 ∷ 0xF6 ∷ 0x3F ∷ 0xB4
    ∷ 0x7F ∷ 0x07 ∷ 0x45 ∷ 0x2F ∷ 0xCC ∷ 0x4B ∷ 0x87 ∷ 0xE8 ∷ 0x9B ∷ 0x3C ∷ 0x06 ∷ 0xA9 ∷ 0x45 ∷ 0x61 ∷ 0x2D ∷ 0x0B ∷ []

alice_is : sha256 (codes "alice-1") ≡ alice_digest
unfolding first_words schedule rounds compress hash_after digest_bytes sha256
alice_is = refl

abbrev bob_digest : List ℕ
bob_digest =
    0xA5 ∷ 0xFC ∷ 0x3E ∷ 0xAC ∷ 0x91 ∷ 0x07 ∷ 0xFE ∷ 0x9B ∷ 0x44 ∷ 0x99 ∷ 0x65 ∷ 0x91 ∷ 0x6D ∷ 0x54 ∷ 0xB3 ∷ 0x34
    ∷ 0x23 ∷ 0x3B ∷ 0x80 ∷ 0x77 ∷ 0xA3 ∷ 0x7F ∷ 0x78 ∷ 0x2D ∷ 0x9B ∷ 0x59 ∷ 0xE6 ∷ 0xE9 ∷ 0x8E ∷ 0x04 ∷ 0xDE ∷ 0xF8 ∷ []

bob_is : sha256 (codes "bob-1") ≡ bob_digest
unfolding first_words schedule rounds compress hash_after digest_bytes sha256
bob_is = refl

abbrev carol_digest : List ℕ
carol_digest =
    0xB5 ∷ 0x2A ∷ 0x4A ∷ 0xBE ∷ 0x79 ∷ 0xE1 ∷ 0x55 ∷ 0x21 ∷ 0xCF ∷ 0xB9 ∷ 0x82 ∷ 0x70 ∷ 0xBB ∷ 0xB4 ∷ 0xDF ∷ 0x9A
    ∷ 0x21 ∷ 0x80 ∷ 0xDF ∷ 0x89 ∷ 0x70 ∷ 0x28 ∷ 0xE9 ∷ 0xEF ∷ 0x5B ∷ 0x20 ∷ 0x78 ∷ 0xFE ∷ 0x89 ∷ 0x8E ∷ 0x3B ∷ 0x86 ∷ []

carol_is : sha256 (codes "carol-1") ≡ carol_digest
unfolding first_words schedule rounds compress hash_after digest_bytes sha256
carol_is = refl

-- the demonstration rows, with these digests
abbrev rows_with : List ℕ → List ℕ → List ℕ → List Row
rows_with alice bob carol =
    row.Meta (record { next_user = 4; next_group = 3; next_node = 5; next_share = 1; next_blob = 2; last = 0 })
    ∷ user 1 (codes "alice") ∷ user 2 (codes "bob") ∷ user 3 (codes "carol")
    ∷ row.Token (record { digest = alice; user = 1 }) ∷ row.Token (record { digest = bob; user = 2 })
    ∷ row.Token (record { digest = carol; user = 3 })
    ∷ row.Group (record { id = 1; name = codes "admin" }) ∷ row.Group (record { id = 2; name = codes "board" })
    ∷ row.Member (record { group = 1; user = 1 })
    ∷ root 1 (codes "alice") ∷ root 2 (codes "bob") ∷ root 3 (codes "carol") ∷ hello_file ∷ []

computed : AreUnbroken (rows_with alice_digest bob_digest carol_digest)
unfolding spelled leads leads_within
computed = refl

pub demo_unbroken : AreUnbroken demo_rows
demo_unbroken =
    subst (λ (alice : List ℕ). AreUnbroken (rows_with alice (sha256 (codes "bob-1")) (sha256 (codes "carol-1")))) (sym alice_is)
    (subst (λ (bob : List ℕ). AreUnbroken (rows_with alice_digest bob (sha256 (codes "carol-1")))) (sym bob_is)
    (subst (λ (carol : List ℕ). AreUnbroken (rows_with alice_digest bob_digest carol)) (sym carol_is) computed))
