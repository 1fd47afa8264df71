use Rattle.std.proofs.Common.{◌≡◌, take}
use Rattle.std.specs.List.{flat_map}
use Rattle.filesd.specs.Generate.{user_line}
use Rattle.filesd.proofs.generating.user_lines.Given as goal

abbrev pub invariant-loop-user : goal.invariant-loop-user
invariant-loop-user l = l.lines.items ≡ flat_map user_line (take l.user-index l.totals.users.items)
