use Rattle.std.proofs.Common.{◌≡◌, true, false, ◌∙◌, arith}
use Rattle.nf_access.specs.Mounts.{names_in_root}
use Rattle.nf_base.specs.FreeNames.{candidate, is_taken}
use Rattle.nf_base.proofs.FreeNames.{AreTakenBelow-two, AreTakenBelow-more}
use Rattle.nf_mounts.proofs.Naming.{first_free}
use Rattle.nf_access.proofs.Naming.{names_few}
use Rattle.nf_mounts.proofs.mounts.Mounts.free_in_root.Goals as goal

pub loop-free-init : goal.loop-free-init
loop-free-init c = AreTakenBelow-two c.args.name.now (names_in_root c.args.people.now.users c.args.tree.now.rows c.args.self.now.rows c.args.user)

pub numbered_name-requires : goal.numbered_name-requires
numbered_name-requires c =
    let few = names_few c.args.people.now.users c.args.tree.now.rows c.args.self.now.rows c.args.user in
    omega (arith, c.loop-free.invariant.few)

pub returns-then-is_name_free-2 : goal.returns-then-is_name_free-2
returns-then-is_name_free-2 c =
    let names = names_in_root c.args.people.now.users c.args.tree.now.rows c.args.self.now.rows c.args.user in
    let own : is_taken c.args.name.now names ≡ true = grind arith in
    let free : is_taken (candidate c.args.name.now c.loop-free.number) names ≡ false = rw (← c.in_ok-free.ensures) (grind arith) in
    c.in_ok-free.ensures ∙ first_free c.args.name.now names c.loop-free.number own c.loop-free.invariant free

pub overflow_add-number : goal.overflow_add-number
overflow_add-number c =
    let few = names_few c.args.people.now.users c.args.tree.now.rows c.args.self.now.rows c.args.user in
    omega (arith, c.loop-free.invariant.few)

pub loop-free-preserved : goal.loop-free-preserved
loop-free-preserved c =
    let names = names_in_root c.args.people.now.users c.args.tree.now.rows c.args.self.now.rows c.args.user in
    let few = names_few c.args.people.now.users c.args.tree.now.rows c.args.self.now.rows c.args.user in
    let taken : is_taken (candidate c.args.name.now c.loop-free.number) names ≡ true = rw (← c.in_ok-free.ensures) (grind arith) in
    AreTakenBelow-more c.args.name.now names c.loop-free.number (omega arith) c.loop-free.invariant taken
