use Rattle.std.proofs.Common.{◌≡◌, true, false, ◌∙◌, arith}
use Rattle.nf_base.specs.FreeNames.{candidate, is_taken}
use Rattle.nf_base.proofs.FreeNames.{AreTakenBelow-more, AreTakenBelow-two}
use Rattle.nf_mounts.proofs.Naming.{first_free}
use Rattle.nf_words.specs.Prelude.{names_taken_in}
use Rattle.nf_view.proofs.Taken.{taken_few}
use Rattle.nf_view.proofs.homes.free_in.Goals as goal

pub loop-free-init : goal.loop-free-init
loop-free-init c = AreTakenBelow-two c.args.name.now (names_taken_in c.args.view.now.tables c.args.user c.args.folder)

pub numbered_name-requires : goal.numbered_name-requires
numbered_name-requires c =
    let few = taken_few c.args.view.now.tables c.args.user c.args.folder c.requires in
    omega (arith, few, c.loop-free.invariant.few)

pub returns-then-is_free_in-2 : goal.returns-then-is_free_in-2
returns-then-is_free_in-2 c =
    let names = names_taken_in c.args.view.now.tables c.args.user c.args.folder in
    let own : is_taken c.args.name.now names ≡ true = grind arith in
    let free : is_taken (candidate c.args.name.now c.loop-free.number) names ≡ false = rw (← c.in_ok-free.ensures) (grind arith) in
    c.in_ok-free.ensures ∙ first_free c.args.name.now names c.loop-free.number own c.loop-free.invariant free

pub overflow_add-number : goal.overflow_add-number
overflow_add-number c =
    let few = taken_few c.args.view.now.tables c.args.user c.args.folder c.requires in
    omega (arith, few, c.loop-free.invariant.few)

pub loop-free-preserved : goal.loop-free-preserved
loop-free-preserved c =
    let names = names_taken_in c.args.view.now.tables c.args.user c.args.folder in
    let few = taken_few c.args.view.now.tables c.args.user c.args.folder c.requires in
    let taken : is_taken (candidate c.args.name.now c.loop-free.number) names ≡ true = rw (← c.in_ok-free.ensures) (grind arith) in
    AreTakenBelow-more c.args.name.now names c.loop-free.number (omega (arith, few)) c.loop-free.invariant taken
