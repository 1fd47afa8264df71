-- The file of the demonstration rows is one that a run serves.
use Rattle.std.proofs.Common.{◌≡◌, ◌∙◌, ◌&&◌, ◌||◌, ap, refl, arith, true, List, [], ◌∷◌, ◌++◌, codes, Some, None, ℕ, Ok, is_some, if◌then◌else◌, Bool, find, false}
use Rattle.std.specs.Prelude.{bytes_eq, Option, option_map}
use Rattle.std.specs.List.{list_all}
use Rattle.std.specs.Option.{option_and_then, option_map_or, option_or}
use Rattle.std.proofs.lemmas.Slice.Eq.{bytes_eq-Decides}
use Rattle.sha2.specs.Sha256.{sha256, digest_bytes, hash_after, compress, rounds, schedule, first_words}
use Rattle.nf_base.specs.declared.rows.TokenRow.{TokenRow}
use Rattle.nf_base.specs.declared.rows.UserRow.{UserRow}
use Rattle.nf_site.specs.Demo.{hello, demo_rows}
use Rattle.nf_access.specs.Shares.{ground_of}
use Rattle.nf_base.specs.declared.perms.Act.TheVariants.{Read}
use Rattle.nf_defs.specs.Prelude.{holder_of, user_row}
use Rattle.nf_defs.specs.declared.Seeker.TheVariants.{User}
use Rattle.nf_defs.specs.declared.Found.TheVariants.{At}
use Rattle.nf_words.specs.Prelude.{access_of, acts_rule, allowed_of, answer_to, asked_of, asker_of, answered_by, blob_for, Call, call_of, caller_row, content_in, exists_rule, first_refused, forbidden_rule, found, given, limit_rule, locked_rule, mounted, named_rule, needs_between, not_you_rule, opened, overwrite_rule, place_rule, places_by, places_of, quota_rule, room_rule, root_of, rules, seeker_of, sharing_rule, source_refused, target_rule, token_rule, unless_refused, upload_rule, version_rule, Way, way_by, way_of}
use Rattle.nf_words.specs.declared.answer.Denial.{Denial}
use Rattle.nf_words.specs.declared.answer.Denial.TheVariants as denial
use Rattle.nf_words.specs.declared.answer.Goal.TheVariants.{Serve}
use Rattle.nf_words.specs.declared.answer.Reply.TheVariants.{Granted}
use Rattle.nf_words.specs.declared.history.Event.TheVariants.{Begin}
use Rattle.nf_words.specs.declared.request.Caller.TheVariants.{Token}
use Rattle.nf_words.specs.declared.request.Places.{Places}
use Rattle.nf_words.specs.declared.request.Spot.{Spot}
use Rattle.nf_words.specs.declared.request.Wanted.TheVariants.{Get}
use Rattle.nf_words.specs.declared.request.Words.{Words}
use Rattle.nf_words.proofs.Orders.{none_of}
use Rattle.nf_words.proofs.Passing.{Passes, in_order}
use Rattle.nf_promises.specs.Kept.{get_of}
use Rattle.nf_defs.proofs.Blobs.{put_at}
use Rattle.nf_told.specs.Told.{Told}
use Rattle.filesd.specs.OneFile.{IsFileOf, fresh_book}

abbrev secret : List ℕ
secret = sha256 (codes "alice-1")

abbrev spot : Spot
spot = record { user = Some (codes "alice"); path = codes "hello.txt" ∷ [] }

holder_first : (row : TokenRow) (rows : List TokenRow) (digest : List ℕ) → row.digest ≡ digest → holder_of (row ∷ rows) digest ≡ Some row.user
holder_first row rows digest is =
    let same : bytes_eq row.digest digest ≡ true = (bytes_eq-Decides row.digest digest).1 is in
    ap (λ (b : Bool). option_map (λ (r : TokenRow). r.user) (if b then Some row else find (λ (r : TokenRow). bytes_eq r.digest digest) rows)) same

abbrev others : List TokenRow
others = record { digest = sha256 (codes "bob-1"); user = 2 } ∷ record { digest = sha256 (codes "carol-1"); user = 3 } ∷ []

tokens : (opened demo_rows).tables.tokens ≡ record { digest = secret; user = 1 } ∷ others
unfolding sha256 digest_bytes hash_after compress rounds schedule first_words
tokens = refl

holds : holder_of (opened demo_rows).tables.tokens secret ≡ Some 1
holds = ap (λ (rows : List TokenRow). holder_of rows secret) tokens ∙ holder_first (record { digest = secret; user = 1 }) others secret refl

hello_granted : (seat now : ℕ) (words : Words)
    → answer_to (opened demo_rows) seat now (Begin words (get_of (Token secret) spot))
    ≡ Ok (Granted (Serve (content_in (blob_for 1 6) (sha256 hello) 6)))
unfolding token_rule not_you_rule forbidden_rule place_rule named_rule acts_rule version_rule exists_rule target_rule overwrite_rule sharing_rule upload_rule locked_rule limit_rule room_rule quota_rule
hello_granted seat now words =
    let s = opened demo_rows in
    let access = access_of s in
    let call : Call = call_of s seat now words (get_of (Token secret) spot) in
    let row : caller_row call ≡ user_row s.tables.users 1 = ap (option_and_then (user_row s.tables.users)) holds in
    let root : root_of call ≡ 1 = ap (λ (o : Option UserRow). option_map_or (λ row. row.root) o 0) row in
    let way : way_of call spot ≡ record { mount = None; itself = false; place = At 4 } =
    ap (λ (r : ℕ). way_by s.tables.nodes (seeker_of call) r spot.path (mounted s.tables.nodes s.tables.mounts (asker_of call) r spot.path)) root in
    let at : found call spot ≡ At 4 = ap (λ (way : Way). way.place) way in
    let asker : asker_of call ≡ 1 = ap (λ (o : Option UserRow). option_map_or (λ row. row.id) o 0) row in
    let places : places_of call ≡ record { source = Some (At 4); target = None } =
    ap (λ (way : Way). places_by (asked_of (Get spot)) (record { source = Some way; target = None })) way in
    let token : token_rule access call ≡ None = ap (λ (o : Option UserRow). if is_some o || false then None else Some denial.Token) row in
    let not_you : not_you_rule access call ≡ None =
    ap (λ (o : Option UserRow). if list_all (λ name. option_map_or (λ row. bytes_eq row.name name) o false) (codes "alice" ∷ []) && true then None else Some denial.NotYou) row in
    let led : place_rule access call ≡ None = ap (λ (way : Way). option_or (source_refused access call way) None) way in
    let may : acts_rule access call ≡ None =
    ap (λ (way : Way). first_refused access (ground_of s.tables) (seeker_of call) now
    (needs_between s.tables.nodes (root_of call) (asked_of (Get spot)) (Some way) None ++ [])) way
    ∙ ap (λ (user : ℕ). first_refused access (ground_of s.tables) (User user) now
    (record { act = Read; node = 4; mount = None } ∷ [])) asker in
    let passes : Passes access call = record {
      token = token;
      not_you = not_you;
      forbidden = refl;
      place = led;
      named = refl;
      acts = may;
      version = refl;
      exists = refl;
      target = refl;
      overwrite = refl;
      sharing = refl;
      upload = refl;
      locked = refl;
      limit = refl;
      room = refl;
      quota = refl;
    } in
    ap (λ (refusal : Option Denial). answered_by (unless_refused refusal (allowed_of access call)))
    (none_of rules access call (in_order access call passes))
    ∙ ap (λ (p : Places). answered_by (Ok (given access call p (Get spot)))) places

pub hello_is_file : (told : Told) (faults : ℕ) → IsFileOf (fresh_book told faults) (Token secret) spot hello
hello_is_file told faults = record {
  blob = 1;
  granted = hello_granted;
  given = omega arith;
  there = λ some. put_at told.blobs 1 hello;
}
