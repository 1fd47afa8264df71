-- Messages of a seed, each served in a session of its own, and how that goes.
use Rattle.std.specs.Prelude.{◌≡◌, ◌⊎◌, ℕ, zero, suc, ◌+◌, ◌-◌, ◌^◌, ◌<◌, ◌≤◌, ◌==◌, Bool, false, List, [], Option, None, Some, codes, if◌then◌else◌}
use Rattle.std.specs.List.{starts_with}
use Rattle.nf_generate.specs.Drawing.{drawing, state_behind}
use Rattle.nf_generate.specs.Messages.{moment_of}
use Rattle.nf_generate.specs.Writing.{message_bytes}
use Rattle.nf_http.specs.Told.{stream}
use Rattle.nf_outside.specs.Lent.{Lent, lent, takes}
use Rattle.nf_session.specs.Book.{Book}
use Rattle.nf_session.specs.Session.{Session}
use Rattle.nf_session.specs.Steps.{Scene}
use Rattle.nf_session.specs.declared.ended.Ended.{Ended}
use Rattle.nf_session.specs.declared.ended.Ended.TheVariants as ended
use Rattle.nf_trial.specs.declared.same.Same.{Same}
use Rattle.nf_trial.specs.declared.trials.Tried.{Tried}
use Rattle.nf_trial.specs.declared.trials.Tried.TheVariants as tried

-- the same number is read or drawn again and again
abbrev pub says : Same → ℕ → Same → Type 0
says before number after = (number ≡ before.number) × (after ≡ before)

-- a count rose, or is as high as it can be
abbrev pub Risen : ℕ → ℕ → Type 0
Risen before now = (before < now) ⊎ (2 ^ 64 - 1 ≤ now)

-- ---- the list

-- the state that a message is drawn from
abbrev pub state_at : ℕ → ℕ → ℕ
state_at seed zero = seed
state_at seed (suc n) = state_behind (state_at seed n)

abbrev pub message_at : ℕ → ℕ → List ℕ
message_at seed n = message_bytes n (drawing (state_at seed n))

-- ---- one message

-- before its session: the link holds the message, and nothing was written; the clock reads its moment, and the dice draw 0
abbrev pub scene_before : Book → List ℕ → ℕ → Scene (Lent Same Same)
scene_before book bytes moment = record {
  input = stream [] (Some bytes);
  kept = [];
  output = Some [];
  answers = None;
  book = book;
  lent = lent (record { number = moment }) (record { number = 0 });
  read_faults = 0;
  write_faults = 0;
}

-- a message is served at its moment, in a session of its own, through a seat that knew that and knows this then; that was written
pub record Serves (a b : Book) (bytes : List ℕ) (moment : ℕ) (output : List ℕ) (end : Option Ended) : Type 0 where
  pub after : Scene (Lent Same Same)
  pub session : Session (takes says says) (scene_before a bytes moment) after end
  pub book : after.book ≡ b
  pub written : after.output ≡ Some output

-- an answer begins with a status from 200 to 299
abbrev pub is_granted : List ℕ → Bool
is_granted output = starts_with (λ a b. a == b) output (codes "HTTP/1.1 2")

-- or it says that there was no memory
abbrev pub is_want : List ℕ → Bool
is_want output = starts_with (λ a b. a == b) output (codes "HTTP/1.1 503 ")

-- ---- one after the other

-- so many messages were answered, and so many of them granted: each in a session that was closed behind it
abbrev pub Answers : ℕ → Book → ℕ → Book → ℕ → Type 0
Answers seed a zero b granted = (b ≡ a) × (granted ≡ 0)
Answers seed a (suc n) b granted =
    (mid : Book) × (before : ℕ) × (output : List ℕ)
    × Answers seed a n mid before
    × Serves mid b (message_at seed n) (moment_of n) output (Some ended.Closed)
    × (is_want output ≡ false)
    × (granted ≡ before + (if is_granted output then 1 else 0))

-- behind some answered messages, one more was served, of those that are to be
pub record BreaksOff (seed count : ℕ) (a b : Book) (end : Option Ended) : Type 0 where
  pub number : ℕ
  pub few : number < count
  pub mid : Book
  pub granted : ℕ
  pub answers : Answers seed a number mid granted
  pub output : List ℕ
  pub serves : Serves mid b (message_at seed number) (moment_of number) output end

-- behind some answered messages there was no memory for the next
pub record RunsOut (seed count : ℕ) (a b : Book) : Type 0 where
  pub number : ℕ
  pub few : number < count
  pub granted : ℕ
  pub answers : Answers seed a number b granted

-- neither is memory wanting nor was the session closed
abbrev pub IsBroken : Option Ended → Type 0
IsBroken (Some ended.Closed) = ⊥
IsBroken (Some ended.ReadFault) = ⊥
IsBroken (Some ended.WriteFault) = ⊥
IsBroken (Some ended.Memory) = ⊥
IsBroken other = Unit {0}

abbrev pub Concludes : ℕ → ℕ → Book → Book → Tried → Type 0
Concludes seed count a b (tried.All granted denied) = Answers seed a count b granted × (granted + denied ≡ count)
Concludes seed count a b tried.Store = (end : Option Ended) × BreaksOff seed count a b end × Risen a.strikes b.strikes
Concludes seed count a b tried.Memory = RunsOut seed count a b ⊎ ((end : Option Ended) × BreaksOff seed count a b end)
Concludes seed count a b (tried.Broken end) = BreaksOff seed count a b end × IsBroken end
