-- A chunk that is there after a history was there, or was sent.
use Rattle.std.proofs.Common.{◌⊎◌, ℕ, ◌+◌, zero, suc, take, List, [], ◌∷◌, inl, inr, refl, ap}
use Rattle.nf_base.specs.declared.rows.ChunkRow.{ChunkRow}
use Rattle.nf_joins.proofs.Fewer.{Fewer, begin_fewer, behind_fewer, fewer_same, fewer_then, sweep_fewer}
use Rattle.nf_joins.proofs.Sending.{sent_step}
use Rattle.nf_joins.specs.Sent.{ChunksWereSent, IsSent, IsThere, Stays, WasSent}
use Rattle.nf_laws.proofs.Allowing.{changes_allowed}
use Rattle.nf_laws.proofs.Stays.{sound_after}
use Rattle.nf_laws.specs.Access.{ChangesAllowed, UploadsFollow, is_asked, is_same, is_sent, is_swept}
use Rattle.nf_defs.specs.Prelude.{Tables}
use Rattle.nf_words.specs.Prelude.{after, IsSound, MayCome, replay, State}
use Rattle.nf_words.specs.declared.history.Entry.{Entry}

-- one entry
pub one_step : (n : ℕ) (s : State) (e : Entry) (row : ChunkRow) → IsSound s → MayCome n s e → IsThere (after s e) row → IsThere s row ⊎ IsSent s e row
one_step n s e row sound may is = here changes.behind changes.uploads (behind_fewer s e (after s e).tables changes)
  where
    changes : ChangesAllowed s e (after s e).tables
    changes = changes_allowed n s e sound may

    was : Fewer s.tables (after s e).tables → IsThere s row ⊎ IsSent s e row
    was fewer = inl (fewer row.user row.dir row.number row is)

    here : (behind : Tables) → UploadsFollow s e behind (after s e).tables → Fewer s.tables behind → IsThere s row ⊎ IsSent s e row
    here behind (is_same same) fewer =
        was (fewer_then s.tables behind (after s e).tables fewer (fewer_same behind (after s e).tables (ap (λ (u : Tables). u.chunks) same)))
    here behind (is_asked words request asked begins wanted only) fewer = was (begin_fewer s e words request asked begins wanted)
    here behind (is_sent outcome user dir number length ends goal only) fewer = sent_step n s e row may user dir number length goal outcome ends is
    here behind (is_swept sweeps only) fewer = was (sweep_fewer s e sweeps)

-- a chunk that is there and stays so from the next entry on
stays_on : (s : State) (e : Entry) (es : List Entry) (row : ChunkRow) → IsThere s row → Stays (after s e) es row → Stays s (e ∷ es) row
stays_on s e es row is stays zero = is
stays_on s e es row is stays (suc k) = stays k

-- an entry before a chunk that was sent
sent_on : (s : State) (e : Entry) (es : List Entry) (row : ChunkRow) → WasSent (after s e) es row → WasSent s (e ∷ es) row
sent_on s e es row was = record {
  front = e ∷ was.front;
  entry = was.entry;
  behind = was.behind;
  parts = ap (λ (all : List Entry). e ∷ all) was.parts;
  sent = was.sent;
  stays = was.stays;
}

pub were_sent : ChunksWereSent
were_sent n s [] row sound legal is = inl (λ k. here k)
  where
    here : (k : ℕ) → IsThere (replay s (take k [])) row
    here zero = is
    here (suc k) = is
were_sent n s (e ∷ es) row sound (may, legal) is =
    elim (were_sent (n + 1) (after s e) es row (sound_after n s e sound may) legal is) [
      | inl stays ↦
          elim (one_step n s e row sound may (stays 0)) [
            | inl was ↦ inl (stays_on s e es row was stays)
            | inr sent ↦ inr (record { front = []; entry = e; behind = es; parts = refl; sent = sent; stays = stays })
          ]
      | inr was ↦ inr (sent_on s e es row was)
    ]
