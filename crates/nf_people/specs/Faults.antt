-- Why people can't be added, and what a call that adds does.
use Rattle.std.specs.Prelude.{◌≡◌, ℕ, Bool, not, nat_le, List, [], ◌∷◌, length, Option, None, Some, Result, Ok, Err, is_some, if◌then◌else◌}
use Rattle.nf_base.specs.declared.limits.TheConstants.{MAX_GROUPS, MAX_MEMBERS, MAX_TOKENS, MAX_USERS}
use Rattle.nf_base.specs.declared.rows.UserRow.{UserRow}
use Rattle.nf_base.specs.declared.rows.TokenRow.{TokenRow}
use Rattle.nf_base.specs.declared.rows.GroupRow.{GroupRow}
use Rattle.nf_base.specs.declared.rows.MemberRow.{MemberRow}
use Rattle.nf_defs.specs.People.{user_row, user_named, holder_of, group_row, group_named, is_member_of}
use Rattle.nf_people.specs.People.{PeopleValue}
use Rattle.nf_people.specs.declared.faults.PeopleFault.{PeopleFault}
use Rattle.nf_people.specs.declared.faults.PeopleFault.TheVariants.{Taken, Unknown, Limit, Memory}

-- the first whose test holds
abbrev pub first_fault : List (Bool × PeopleFault) → Option PeopleFault
first_fault [] = None
first_fault (t ∷ tests) = if t.0 then Some t.1 else first_fault tests

-- as many are there as may be
abbrev pub is_full : ℕ → ℕ → Bool
is_full limit count = nat_le limit count

-- why the user can't be added
abbrev pub fault_of_user : PeopleValue → UserRow → Option PeopleFault
fault_of_user p row =
    first_fault ((is_some (user_named p.users row.name), Taken) ∷ (is_full MAX_USERS (length p.users), Limit MAX_USERS) ∷ [])

-- why the group can't be
abbrev pub fault_of_group : PeopleValue → GroupRow → Option PeopleFault
fault_of_group p row =
    first_fault ((is_some (group_named p.groups row.name), Taken) ∷ (is_full MAX_GROUPS (length p.groups), Limit MAX_GROUPS) ∷ [])

-- why the token can't be
abbrev pub fault_of_token : PeopleValue → TokenRow → Option PeopleFault
fault_of_token p row =
    first_fault
    ((is_some (holder_of p.tokens row.digest), Taken)
    ∷ (not (is_some (user_row p.users row.user)), Unknown)
    ∷ (is_full MAX_TOKENS (length p.tokens), Limit MAX_TOKENS)
    ∷ [])

-- why the member can't be
abbrev pub fault_of_member : PeopleValue → MemberRow → Option PeopleFault
fault_of_member p row =
    first_fault
    ((is_member_of p.members row.group row.user, Taken)
    ∷ (not (is_some (group_row p.groups row.group)), Unknown)
    ∷ (not (is_some (user_row p.users row.user)), Unknown)
    ∷ (is_full MAX_MEMBERS (length p.members), Limit MAX_MEMBERS)
    ∷ [])

-- why a quota can't be set
abbrev pub fault_of_quota : PeopleValue → ℕ → Option PeopleFault
fault_of_quota p user = first_fault ((not (is_some (user_row p.users user)), Unknown) ∷ [])

-- with no fault the people become those, and else they stay as they were; the room is told apart
abbrev pub Adds : Option PeopleFault → PeopleValue → PeopleValue → PeopleValue → Result (Unit {0}) PeopleFault → Type 0
Adds fault old added new (Ok _) = (fault ≡ None) × (new ≡ record added { room = new.room })
Adds fault old added new (Err Memory) = (fault ≡ None) × (new ≡ record old { room = new.room })
Adds fault old added new (Err Taken) = (fault ≡ Some Taken) × (new ≡ record old { room = new.room })
Adds fault old added new (Err Unknown) = (fault ≡ Some Unknown) × (new ≡ record old { room = new.room })
Adds fault old added new (Err (Limit count)) = (fault ≡ Some (Limit count)) × (new ≡ record old { room = new.room })
