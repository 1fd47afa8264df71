-- Tables that were loaded.
use Rattle.nf_defs.specs.Tables.{Tables}
use Rattle.nf_people.specs.People.{ArePeople}
use Rattle.nf_rules.specs.Ruled.{AreRuled}

-- what people need of the rows of users, tokens, groups and members
pub people_of : (t : Tables) → AreRuled t → ArePeople t.users t.tokens t.groups t.members
people_of t ruled = record {
  users_rise = ruled.ordered.rising.users;
  tokens_rise = ruled.ordered.rising.tokens;
  groups_rise = ruled.ordered.rising.groups;
  members_rise = ruled.ordered.rising.members;
  user_names = ruled.ordered.user_names;
  group_names = ruled.ordered.group_names;
}
