use Rattle.std.proofs.Common.{◌≡◌, ◌∙◌, List, ℕ, None, ap, map, sym, subst}
use Rattle.nf_base.specs.Naming.{name_fault}
use Rattle.nf_routes.specs.Targets.{segments_of}
use Rattle.nf_dav.specs.Asked.{first_of, segments_fault}
use Rattle.nf_dav.proofs.Asked.{fine_first}
use Rattle.nf_dav.proofs.requests.files_request.Goals as goal

pub caller_by-requires-clause-fine : goal.caller_by-requires-clause-fine
caller_by-requires-clause-fine c =
    let read = c.in_ok-segments.ensures ∙ ap segments_of c.target.ensures in
    let fine = subst (λ (segments : List (List ℕ)). segments_fault segments ≡ None)
    (ap (map (λ segment. segment.items)) c.deref.ensures.value ∙ read) c.in_ok-source.ensures.0 in
    subst (λ (first : List ℕ). name_fault first ≡ None)
    (sym (c.first.ensures ∙ ap first_of (ap (map (λ segment. segment.items)) c.deref-3.ensures.value ∙ read)))
    (fine_first c.args.message.now c.args.front c.requires fine)
