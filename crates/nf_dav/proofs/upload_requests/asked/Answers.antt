use Rattle.std.proofs.Common.{◌≡◌, ◌∙◌, List, [], ℕ, None, ap, option_map, slice_get, subst, sym, unwrap_or}
use Rattle.std.proofs.lemmas.Result.{err_from_is_err_and}
use Rattle.nf_base.specs.Naming.{name_fault}
use Rattle.nf_routes.specs.declared.methods.Method.{Method}
use Rattle.nf_words.specs.declared.answer.Denial.TheVariants as denial
use Rattle.nf_dav.specs.Asked.{Tells, first_of, upload_chunk, upload_dir, upload_fault, upload_user}
use Rattle.nf_dav.specs.declared.requests.Unasked.{Unasked}
use Rattle.nf_dav.proofs.Named.{tells_first, tells_next}
use Rattle.nf_dav.proofs.upload_requests.asked.Goals as goal

-- a name that is bad as it stands in the segments
abbrev IsBad : List ℕ → Unasked → Type 0
IsBad name why = Tells (option_map denial.BadName (name_fault name)) why

pub returns-in_err-user : goal.returns-in_err-user
returns-in_err-user c =
    let p = err_from_is_err_and c.from_residual.result c.from_residual.ensures.1 in
    let why = c.in_err-user.field-0.0 in
    let user : c.first.result.now ≡ upload_user c.args.message.now = c.first.ensures ∙ ap first_of c.requires.segments in
    rw (p.1, p.2) (tells_first _ _ why (subst (λ (name : List ℕ). IsBad name why) user c.in_err-user.ensures))

pub returns-in_err-dir : goal.returns-in_err-dir
returns-in_err-dir c =
    let p = err_from_is_err_and c.from_residual-in_err-dir.result c.from_residual-in_err-dir.ensures.1 in
    let why = c.in_err-dir.field-0.0 in
    let user : c.first.result.now ≡ upload_user c.args.message.now = c.first.ensures ∙ ap first_of c.requires.segments in
    let dir : c.segment.result.now ≡ upload_dir c.args.message.now =
    c.segment.ensures ∙ ap (λ (segments : List (List ℕ)). unwrap_or (slice_get segments 1) []) c.requires.segments in
    rw (p.1, p.2) (tells_next _ _ why (subst (λ (name : List ℕ). name_fault name ≡ None) user c.in_ok-user.ensures.0)
    (tells_first _ _ why (subst (λ (name : List ℕ). IsBad name why) dir c.in_err-dir.ensures)))

pub returns-in_err-name-in-Put : goal.returns-in_err-name-in-Put
returns-in_err-name-in-Put c =
    let p = err_from_is_err_and c.from_residual-in_err-name-in-Put.result c.from_residual-in_err-name-in-Put.ensures.1 in
    let why = c.in_err-name-in-Put.field-0.0 in
    let user : c.first.result.now ≡ upload_user c.args.message.now = c.first.ensures ∙ ap first_of c.requires.segments in
    let dir : c.segment.result.now ≡ upload_dir c.args.message.now =
    c.segment.ensures ∙ ap (λ (segments : List (List ℕ)). unwrap_or (slice_get segments 1) []) c.requires.segments in
    let chunk : c.segment-in-Put.result.now ≡ upload_chunk c.args.message.now =
    c.segment-in-Put.ensures ∙ ap (λ (segments : List (List ℕ)). unwrap_or (slice_get segments 2) []) c.requires.segments in
    rw (p.1, p.2) (subst (λ (m : Method). Tells (option_map denial.BadName (upload_fault m c.args.message.now)) why) (sym c.in-Put.is)
    (tells_next _ _ why (subst (λ (name : List ℕ). name_fault name ≡ None) user c.in_ok-user.ensures.0)
    (tells_next _ _ why (subst (λ (name : List ℕ). name_fault name ≡ None) dir c.in_ok-dir.ensures.0)
    (tells_first _ _ why (subst (λ (name : List ℕ). IsBad name why) chunk c.in_err-name-in-Put.ensures)))))
