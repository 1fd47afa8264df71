use Rattle.std.proofs.Common.{◌≡◌, ap, ◌∙◌, arith}
use Rattle.nf_charge.specs.Sums.{bytes_under}
use Rattle.nf_words.specs.Listing.{size_of}
use Rattle.nf_words.specs.State.{State}
use Rattle.nf_view.proofs.Sizes.{size_told, sum_is_size}
use Rattle.nf_view.proofs.view.View.size.Goals as goal

pub overflow_cast-result : goal.overflow_cast-result
overflow_cast-result c =
    let t = c.args.self.now.tables in
    let rows = ap (λ (s : State). bytes_under s.tables.nodes c.args.node) c.self.view_is in
    let is : c.bytes_under.result ≡ size_of t.nodes c.args.node = c.bytes_under.ensures ∙ rows ∙ sum_is_size t c.args.node c.requires in
    omega (arith, is, size_told t.nodes c.args.node)

pub returns : goal.returns
returns c =
    let t = c.args.self.now.tables in
    let rows = ap (λ (s : State). bytes_under s.tables.nodes c.args.node) c.self.view_is in
    c.bytes_under.ensures ∙ rows ∙ sum_is_size t c.args.node c.requires
