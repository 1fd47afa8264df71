use Rattle.std.proofs.Common.{◌≡◌, take, filter}
use Rattle.std.specs.Prelude.{filter_map}
use Rattle.nf_reach.specs.Asking.{user_in}
use Rattle.nf_words.specs.Sharing.{is_listed_for, share_line}
use Rattle.nf_decide.proofs.shared.share_lines.Given as goal

-- the lines of the shares so far
abbrev pub invariant-loop-row : goal.invariant-loop-row
invariant-loop-row l =
    l.lines.items
    ≡ filter_map (share_line l.view.tables) (filter (is_listed_for l.asker.base.members (user_in l.asker.seeker) l.node l.with_me) (take l.row-index l.row-items))
