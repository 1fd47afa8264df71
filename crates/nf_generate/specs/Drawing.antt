-- What a message asks for and for whom, as it is drawn from the numbers of a seed.
use Rattle.std.specs.Prelude.{ℕ, ◌+◌, ◌*◌, ◌/◌, ◌%◌, ◌^◌, ◌==◌, Bool, nat_lt, List, if◌then◌else◌, codes}
use Rattle.nf_generate.specs.declared.drawing.Act.{Act}
use Rattle.nf_generate.specs.declared.drawing.Act.TheVariants as act
use Rattle.nf_generate.specs.declared.drawing.Drawing.{Drawing}
use Rattle.nf_generate.specs.declared.drawing.User.{User}
use Rattle.nf_generate.specs.declared.drawing.User.TheVariants as user

-- the state behind a draw, by a linear congruential generator of 64 bits
abbrev pub next_state : ℕ → ℕ
next_state x = (x * 6364136223846793005 + 1442695040888963407) % (2 ^ 64)

-- the number below n that is drawn: the top 31 bits of that state, modulo n
abbrev pub drawn : ℕ → ℕ → ℕ
drawn x n = (next_state x / (2 ^ 33)) % n

abbrev pub name_of : User → List ℕ
name_of user.Alice = codes "alice"
name_of user.Bob = codes "bob"
name_of user.Carol = codes "carol"

abbrev pub user_of : ℕ → User
user_of n = if n == 0 then user.Alice else if n == 1 then user.Bob else user.Carol

-- who is next in the circle
abbrev pub behind : User → User
behind user.Alice = user.Bob
behind user.Bob = user.Carol
behind user.Carol = user.Alice

-- half of all store a file
abbrev pub has_size : ℕ → Bool
has_size choice = nat_lt choice 5

abbrev pub act_of : ℕ → ℕ → Act
act_of choice size =
    if choice == 5 then act.Get
    else if choice == 6 then act.Delete
    else if choice == 7 then act.Move
    else if choice == 8 then act.Share
    else if choice == 9 then act.List
    else act.Put size

-- who asks is drawn first, then the number of the file, then what is asked for, and last the size of what is stored
abbrev pub choice_of : ℕ → ℕ
choice_of x = drawn (next_state (next_state x)) 10

abbrev pub size_of : ℕ → ℕ
size_of x = if has_size (choice_of x) then drawn (next_state (next_state (next_state x))) 2000 else 0

abbrev pub drawing : ℕ → Drawing
drawing x = record {
  user = user_of (drawn x 3);
  file = drawn (next_state x) 10;
  act = act_of (choice_of x) (size_of x);
}

-- the state behind all of that
abbrev pub state_behind : ℕ → ℕ
state_behind x =
    let last = next_state (next_state (next_state x)) in
    if has_size (choice_of x) then next_state last else last
