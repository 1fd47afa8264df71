-- What can't come of a step while nothing fails, and how a session ends then.
use Rattle.std.proofs.Common.{ℕ, ◌==◌, ◌≡◌, ◌-◌, ◌⊎◌, Bool, true, false, List, length, Option, None, Some, Result, Ok, Err, inl, inr, refl, sym, ap, subst, ◌∙◌, arith}
use Rattle.std.specs.Prelude.{IfSome, IsSome, Vec}
use Rattle.std.specs.declared.alloc.Global.{Global}
use Rattle.nf_base.specs.declared.limits.TheConstants.{MAX_MESSAGES}
use Rattle.nf_base.specs.declared.content.Piece.{Piece}
use Rattle.nf_base.specs.declared.rows.Row.{Row}
use Rattle.nf_defs.specs.Blobs.{Blobs}
use Rattle.nf_dav.specs.Reply.{continue_reply}
use Rattle.nf_dav.specs.declared.replies.Manner.{Manner}
use Rattle.nf_http.specs.Filling.{HasReadCause}
use Rattle.nf_http.specs.Head.{Head}
use Rattle.nf_http.specs.declared.wire.WireFault.{WireFault}
use Rattle.nf_http.specs.declared.wire.WireFault.TheVariants as wire
use Rattle.nf_laws.specs.Wholes.{IsDamaged}
use Rattle.nf_outside.specs.Causes.{Rose}
use Rattle.nf_outside.specs.Lent.{Taken}
use Rattle.nf_words.specs.declared.answer.Damage.{Damage}
use Rattle.nf_words.specs.declared.answer.Denial.{Denial}
use Rattle.nf_words.specs.declared.answer.Denial.TheVariants as denial
use Rattle.nf_session.specs.Prelude.{Answers, Book, CutsEarly, CutsShort, denial_of, end_by, end_of, end_of_close, end_of_denial, EndsBy, EndsSo, FailsPiece, how_of, Lasts, manner_of, Meets, MeetsWith, next_blob_of, OnlyReads, OthersCame, Responds, Says, Scene, SendsFile, stays_granted, StopsShort, Struck, TellsDamage, TellsStill, Turn, Way, way_of, Writes}
use Rattle.nf_session.specs.declared.backend.Ending.TheVariants as ending
use Rattle.nf_session.specs.declared.backend.PieceFault.{PieceFault}
use Rattle.nf_session.specs.declared.backend.PieceFault.TheVariants as fault
use Rattle.nf_session.specs.declared.begun.Begun.{Begun}
use Rattle.nf_session.specs.declared.ended.Ended.{Ended}
use Rattle.nf_session.specs.declared.ended.Ended.TheVariants as ended
use Rattle.nf_session.specs.declared.response.Response.{Response}
use Rattle.nf_session.specs.declared.response.Response.TheVariants as response
use Rattle.nf_session.proofs.Calm.{Calm, calm_of, calm_then, closes_go, early_goes, goes_then, heads_go, invites_go, judges_go, same_goes, takes_go}
use Rattle.nf_session.proofs.Causes.{through_goes}
use Rattle.nf_session.proofs.Inviting.{stops_sends}
use Rattle.nf_session.proofs.Lasting.{lasts_then}
use Rattle.nf_session.proofs.Turns.{sends_says}
use Rattle.nf_promises.specs.Complete.{EndsWell, IsWell, NothingFails, StaysWhole}

-- ---- what was written

-- no fault of the output: then only memory can be wanting
says_whole : {C : Type 0} (a b : Scene C) (bytes : List ℕ) (by : Ended) → (Rose a.write_faults b.write_faults → ⊥)
    → Says {T = Unit {0}} a b bytes (Err by) → by ≡ ended.Memory
says_whole a b bytes ended.Memory risen same = refl
says_whole a b bytes ended.WriteFault risen part = absurd (risen part.cause)
says_whole a b bytes other risen never = absurd never

-- how bytes that are no message end it then
abbrev pub IsRefused : Option Ended → Type 0
IsRefused end = (end ≡ Some ended.Memory) ⊎ (end ≡ Some ended.BadMessage)

so_whole : {C : Type 0} (refusal : Denial) (a b : Scene C) (by : Ended) → (Rose a.write_faults b.write_faults → ⊥) → EndsSo refusal a b by → IsRefused (Some by)
so_whole refusal a b ended.BadMessage risen wrote = inr refl
so_whole refusal a b ended.WriteFault risen part = absurd (risen part.cause)
so_whole refusal a b ended.Memory risen same = inl refl
so_whole refusal a b other risen never = absurd never

-- ---- between two scenes, while nothing fails

module _ {C : Type 0} (a b : Scene C) (nothing : NothingFails a b) (whole : StaysWhole a.book) where
  pub not_struck : (x y : Scene C) → Calm a x → Calm y b → Struck x.book.strikes y.book.strikes → ⊥
  not_struck x y before behind struck =
      omega (arith, before.onward.lasts.strikes, behind.onward.lasts.strikes, struck, nothing.store.0, nothing.store.1)

  not_risen : (x y : Scene C) → Calm a x → Calm y b → Rose x.write_faults y.write_faults → ⊥
  not_risen x y before behind rose = omega (arith, before.write, behind.write, rose, nothing.write.0, nothing.write.1)

  not_unread : (x y : Scene C) → Calm a x → Calm y b → Rose x.read_faults y.read_faults → ⊥
  not_unread x y before behind rose = omega (arith, before.read, behind.read, rose, nothing.read.0, nothing.read.1)

  -- ---- pieces

  not_damaged : (x : Book) (piece : Piece) (damage : Damage) → Lasts a.book x → IfSome x.told (TellsDamage x piece damage) → ⊥
  not_damaged x piece damage before damaged = here a.book.told x.told whole.tells before.told damaged
    where
      here : (old new : Option Blobs) → IsSome old → TellsStill (OthersCame a.book x) (next_blob_of a.book) old new
          → IfSome new (TellsDamage x piece damage) → ⊥
      here None new tells still damaged = cc
      here (Some old) None tells still damaged = still
      here (Some old) (Some shelf) tells still damaged =
          let was = damaged.damaged in
          whole.whole piece (record {
            begun = was.begun;
            tells = sym before.start ∙ was.tells;
            damaged = subst (λ (rows : List Row). IsDamaged rows was.begun piece) before.opening was.damaged;
          })

  pub piece_wanting : (x y : Scene C) (piece : Piece) (why : PieceFault) → Calm a x → Calm y b → Lasts x.book y.book
      → FailsPiece x.book y.book piece why → why ≡ fault.Memory
  piece_wanting x y piece fault.Store before behind lasts struck = absurd (not_struck x y before behind struck)
  piece_wanting x y piece (fault.Damaged damage) before behind lasts (calm, differs, damaged) =
      absurd (not_damaged y.book piece damage (lasts_then a.book x.book y.book before.onward.lasts lasts) damaged)
  piece_wanting x y piece fault.Memory before behind lasts fails = refl

  sends_whole : (close : Bool) (content : List Piece) (first : Option (Vec ℕ Global)) (x y : Scene C) (by : Ended) → Calm a x → Calm y b
      → SendsFile {T = Unit {0}} close content first x y (Err by) → by ≡ ended.Memory
  sends_whole close content first x y ended.Memory before behind sends = refl
  sends_whole close content first x y (ended.Cut why) before behind (given, writes, lacks, other) =
      absurd (other (piece_wanting x y lacks.piece why before behind writes.pieces.waits.lasts lacks.failed))
  sends_whole close content first x y ended.WriteFault before behind (given, breaks) = absurd (not_risen x y before behind breaks.cause)
  sends_whole close content first x y other before behind never = absurd never

  -- ---- what ends a message

  writes_whole : (manner : Manner) (v : Response) (x y : Scene C) (by : Ended) → Calm a x → Calm y b
      → Writes {T = Unit {0}} manner v x y (Err by) → by ≡ ended.Memory
  writes_whole manner (response.File content first) x y by before behind sends = sends_whole manner.close content first x y by before behind sends
  writes_whole manner other x y by before behind says = says_whole x y _ by (not_risen x y before behind) says

  -- it was written, or there was no memory for it
  pub responds_whole : (last : Bool) (way : Way) (v : Response) (x y : Scene C) (result : Result (Option Ended) Ended) → Calm a x → Calm y b
      → Responds last way v x y result
      → (end_by result ≡ Some ended.Memory) ⊎ ((end_by result ≡ end_of way.closes v) × Writes {T = Unit {0}} (manner_of last way v) v x y (Ok tt))
  responds_whole last way v x y (Ok end) before behind (is, writes) = inr (is, writes)
  responds_whole last way v x y (Err by) before behind writes = inl (ap (λ (e : Ended). Some e) (writes_whole (manner_of last way v) v x y by before behind writes))

  pub cut_whole : (T : Type 0) (x m y : Scene C) (why : WireFault) (by : Ended) → Calm a x → Calm y b → OnlyReads x m
      → HasReadCause {T = T} x.read_faults m.read_faults (Err why) → EndsBy why m y by → IsRefused (Some by)
  cut_whole T x m y wire.Memory by before behind only cause (is, same) = inl (ap (λ (e : Ended). Some e) is)
  cut_whole T x m y wire.ReadFault by before behind only cause (is, same) =
      absurd (not_unread x y before behind (ap (λ (s : Scene C). s.read_faults) same ∙ cause))
  cut_whole T x m y other by before behind only cause ends =
      let write : m.write_faults ≡ x.write_faults = ap (λ (s : Scene C). s.write_faults) only in
      so_whole (denial_of other) m y by (λ rose. not_risen x y before behind (subst (λ (n : ℕ). Rose n y.write_faults) write rose)) ends

  pub stop_whole : (reads : C → Taken → C → Type 0) (head : Head) (u : Begun) (x : Scene C) (end : Option Ended) → Calm a x
      → StopsShort reads head u x b end → end ≡ Some ended.Memory
  stop_whole reads head u x end before stops =
      let behind = calm_of (closes_go reads ending.Gone _ stops.sent b stops.closes) in
      let says = sends_says {T = Unit {0}} x stops.sent continue_reply (Err stops.by) (stops_sends head u x stops.sent (Unit {0}) stops.by stops.invites) in
      stops.ends ∙ ap (λ (e : Ended). Some e) (says_whole x stops.sent continue_reply stops.by (not_risen x stops.sent before behind) says)

  pub short_whole : (reads : C → Taken → C → Type 0) (head : Head) (u : Begun) (x : Scene C) (end : Option Ended) → Calm a x
      → CutsShort reads head u x b end → IsRefused end
  short_whole reads head u x end before cuts =
      subst (λ (e : Option Ended). IsRefused e) (sym cuts.ends)
      (cut_whole ℕ x cuts.cut cuts.sent cuts.fault cuts.by before (calm_of (closes_go reads ending.Gone _ cuts.sent b cuts.closes))
      cuts.takes.only cuts.takes.cause cuts.responds)

  pub early_whole : (head : Head) (x : Scene C) (end : Option Ended) → Calm a x → CutsEarly head x b end → IsRefused end
  early_whole head x end before cuts =
      subst (λ (e : Option Ended). IsRefused e) (sym cuts.ends)
      (cut_whole ℕ x cuts.cut b cuts.fault cuts.by before (calm_of (same_goes b b 0 refl)) cuts.takes.1.only cuts.takes.1.cause cuts.responds)

-- ---- how a session ends

close_well : (closes : Bool) → IsWell (end_of_close closes)
close_well true = tt
close_well false = tt

denial_well : (closes : Bool) (refusal : Denial) → IsWell (end_of_denial closes refusal)
denial_well closes denial.RunFull = tt
denial_well closes other = close_well closes

response_well : (closes : Bool) (v : Response) → IsWell (end_of closes v)
response_well closes (response.Denied refusal) = denial_well closes refusal
response_well closes other = close_well closes

well_by : (end good : Option Ended) → end ≡ good → IsWell good → IsWell end
well_by end good is well = subst (λ (e : Option Ended). IsWell e) (sym is) well

module _ {C : Type 0} (reads : C → Taken → C → Type 0) (a b : Scene C) (nothing : NothingFails a b) (whole : StaysWhole a.book) where
  answers_well : (last : Bool) (head : Head) (u : Begun) (x : Scene C) (end : Option Ended) → Calm a x → Answers reads last head u x b end → IsWell end
  answers_well last head u x end before answers =
      let v = answers.response in
      let taken = calm_then a x answers.taken before (calm_of (takes_go reads head x answers.taken u v answers.takes)) in
      let behind = calm_of (closes_go reads (how_of v answers.result) (stays_granted v) answers.sent b answers.closes) in
      here (responds_whole a b nothing whole last (way_of head u) v answers.taken answers.sent answers.result taken behind answers.responds)
    where
      here : (end_by answers.result ≡ Some ended.Memory) ⊎ ((end_by answers.result ≡ end_of (way_of head u).closes answers.response)
          × Writes {T = Unit {0}} (manner_of last (way_of head u) answers.response) answers.response answers.taken answers.sent (Ok tt)) → IsWell end
      here (inl is) = well_by end _ (answers.ends ∙ is) tt
      here (inr (is, writes)) = well_by end _ (answers.ends ∙ is) (response_well (way_of head u).closes answers.response)

  refused_well : (end : Option Ended) → IsRefused end → IsWell end
  refused_well end (inl is) = well_by end _ is tt
  refused_well end (inr is) = well_by end _ is tt

  meets_well : (last : Bool) (head : Head) (x : Scene C) (end : Option Ended) → Calm a x → Meets reads last head x b end → IsWell end
  meets_well last head x end before (inl cut) = refused_well end (early_whole a b nothing whole head x end before cut)
  meets_well last head x end before (inr (m, early, takes, meets)) =
      here (calm_then a x m before (calm_of (early_goes head x m early takes))) meets
    where
      here : Calm a m → MeetsWith reads last head early m b end → IsWell end
      here before (n, u, judges, inl stops) =
          well_by end _ (stop_whole a b nothing whole reads head u n end (calm_then a m n before (calm_of (judges_go reads head early m n u judges))) stops) tt
      here before (n, u, judges, inr (t, invites, inl answers)) =
          answers_well last head u t end
          (calm_then a m t before (calm_of (goes_then (judges_go reads head early m n u judges) (invites_go head u n t invites)))) answers
      here before (n, u, judges, inr (t, invites, inr cuts)) =
          refused_well end (short_whole a b nothing whole reads head u t end
          (calm_then a m t before (calm_of (goes_then (judges_go reads head early m n u judges) (invites_go head u n t invites)))) cuts)

  turn_well : (last : Bool) (x : Scene C) (end : Option Ended) → Calm a x → Turn reads last x b end → IsWell end
  turn_well last x end before (inl (heads, is)) = well_by end _ is tt
  turn_well last x end before (inr (inl (m, why, by, heads, ends, is))) =
      refused_well end (subst (λ (e : Option Ended). IsRefused e) (sym is)
      (cut_whole a b nothing whole (Option Head) x m b why by before (calm_of (same_goes b b 0 refl)) heads.only heads.cause ends))
  turn_well last x end before (inr (inr (m, head, heads, meets))) =
      meets_well last head m end (calm_then a x m before (calm_of (heads_go x m 0 (Some head) heads))) meets

pub ends_well : {C : Type 0} (reads : C → Taken → C → Type 0) → EndsWell reads
ends_well reads a b end session nothing whole =
    turn_well reads a b nothing whole (length session.scenes == MAX_MESSAGES - 1) session.before end
    (calm_of (through_goes reads a session.scenes session.before session.through)) session.turn
