use Rattle.std.proofs.Common.{◌-◌, ltb, length, drop, rules, arith, length-drop}
use Rattle.std.proofs.lemmas.Bool.{ltb-false, ltb-true}
use Rattle.std.proofs.lemmas.List.{take_all}
use Rattle.std.proofs.lemmas.List.Sorted.{IsPartitionPoint-from_clause}
use Rattle.nf_base.specs.declared.rows.MemberRow.{MemberRow}
use Rattle.nf_people.proofs.Members.{front_is, groups_part}
use Rattle.nf_people.proofs.people.rows_from.Goals as goal

pub returns : goal.returns
returns c =
    let rows = c.args.rows.now in
    let group = c.args.group in
    let from = c.partition_point-from.result in
    let parts = IsPartitionPoint-from_clause (λ (row : MemberRow). ltb row.group group) rows from c.partition_point-from.ensures.partitioned
    (groups_part group rows c.requires) (λ a r f' called. (search rules, search rules)) in
    rw (take_all (length rows - from) (drop from rows) (let n = length-drop from rows in omega arith))
    (front_is group rows from c.requires (λ k d less. ltb-true _ group (parts.0 k d (omega arith) less))
    (λ k d le within. ltb-false _ group (parts.1 k d le within)))
