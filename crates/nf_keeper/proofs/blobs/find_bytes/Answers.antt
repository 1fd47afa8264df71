use Rattle.std.proofs.Common.{◌∙◌, ℕ, List, Some, ap}
use Rattle.std.specs.Prelude.{option_map}
use Rattle.nf_keeper.proofs.Found.{found_is}
use Rattle.nf_keeper.proofs.blobs.find_bytes.Goals as goal

pub returns-in-Some : goal.returns-in-Some
returns-in-Some c =
    ap (λ (bytes : List ℕ). Some bytes) (c.deref.ensures.value ∙ ap (λ (blob : ℕ × List ℕ). blob.1) c.blob.view_is)
    ∙ ap (option_map (λ (blob : ℕ × List ℕ). blob.1)) c.in-Some.ensures ∙ found_is c.args.blobs.now c.args.id

pub returns-in-None : goal.returns-in-None
returns-in-None c = ap (option_map (λ (blob : ℕ × List ℕ). blob.1)) c.in-None.ensures ∙ found_is c.args.blobs.now c.args.id
