-- One message more.
use Rattle.std.proofs.Common.{◌≡◌, ◌∙◌, ℕ, suc, ◌+◌, ◌<◌, Bool, List, [], Option, None, Some, sym, ap, subst, arith, inl, inr}
use Rattle.std.specs.Prelude.{if◌then◌else◌}
use Rattle.nf_generate.specs.Drawing.{state_behind}
use Rattle.nf_generate.specs.Messages.{moment_of, passed}
use Rattle.nf_generate.specs.declared.messages.Messages.{Messages}
use Rattle.nf_http.specs.Told.{stream}
use Rattle.nf_outside.specs.Lent.{Lent, takes}
use Rattle.nf_session.specs.Book.{Book}
use Rattle.nf_session.specs.Session.{Session}
use Rattle.nf_session.specs.Steps.{Scene}
use Rattle.nf_session.specs.declared.backend.Backend.{Ghosts as BackendOf}
use Rattle.nf_session.specs.declared.ended.Ended.{Ended}
use Rattle.nf_trial.specs.Noted.{Watched}
use Rattle.nf_trial.specs.Single.{TriesOne}
use Rattle.nf_trial.specs.Trials.{Answers, BreaksOff, Concludes, IsBroken, Risen, Serves, message_at, says, scene_before, state_at}
use Rattle.nf_trial.specs.declared.same.Same.{Same}
use Rattle.nf_trial.specs.declared.trials.One.{One}
use Rattle.nf_trial.specs.declared.trials.One.TheVariants as one
use Rattle.nf_trial.specs.declared.trials.Tried.TheVariants as tried

-- ---- where a session begins

abbrev pub scene_with : Option (List ℕ) → Option (List ℕ) → Book → Same → Same → ℕ → ℕ → Scene (Lent Same Same)
scene_with left written book clock dice reads writes = record {
  input = stream [] left;
  kept = [];
  output = written;
  answers = None;
  book = book;
  lent = record { clock = clock; dice = dice };
  read_faults = reads;
  write_faults = writes;
}

pub begins_at : (left written : Option (List ℕ)) (book : Book) (clock dice : Same) (reads writes : ℕ) (bytes : List ℕ) (moment : ℕ)
    → left ≡ Some bytes → written ≡ Some [] → clock ≡ record { number = moment } → dice ≡ record { number = 0 } → reads ≡ 0 → writes ≡ 0
    → scene_with left written book clock dice reads writes ≡ scene_before book bytes moment
begins_at left written book clock dice reads writes bytes moment l w c d r f = λ i. scene_with (l i) (w i) book (c i) (d i) (r i) (f i)

-- a session that begins there
pub serves_by : (a b : Scene (Lent Same Same)) (book last : Book) (bytes : List ℕ) (moment : ℕ) (output : List ℕ) (end : Option Ended)
    → a ≡ scene_before book bytes moment → b.book ≡ last → b.output ≡ Some output → Session (takes says says) a b end
    → Serves book last bytes moment output end
serves_by a b book last bytes moment output end begins is written session = record {
  after = b;
  session = subst (λ (x : Scene (Lent Same Same)). Session (takes says says) x b end) begins session;
  book = is;
  written = written;
}

-- ---- the list

behind_at : (seed at : ℕ) → state_behind (state_at seed at) ≡ state_at seed (at + 1)
behind_at seed at = let next : suc at ≡ at + 1 = omega arith in ap (state_at seed) next

pub passes : (seed at : ℕ) (m next : Messages) → m ≡ record { index = at; state = state_at seed at } → next ≡ passed m
    → next ≡ record { index = at + 1; state = state_at seed (at + 1) }
passes seed at m next is after =
    after ∙ (ap passed is ∙ ap (λ (s : ℕ). record { index = at + 1; state = s }) (behind_at seed at))

-- ---- behind it

module _ {B L : Type 0} (k : BackendOf B L) (first : Book) (before after : Watched B) (seed at granted : ℕ) (bytes : List ℕ) (moment : ℕ)
    (answers : Answers seed first at (k.book before.backend) granted) (bytes_are : bytes ≡ message_at seed at) (moment_is : moment ≡ moment_of at) where
  -- that message was served
  serves_at : (result : One) (tries : TriesOne k before after bytes moment result)
      → Serves (k.book before.backend) (k.book after.backend) (message_at seed at) (moment_of at) tries.output tries.end
  serves_at result tries =
      subst (λ (m : ℕ). Serves (k.book before.backend) (k.book after.backend) (message_at seed at) m tries.output tries.end) moment_is
      (subst (λ (b : List ℕ). Serves (k.book before.backend) (k.book after.backend) b moment tries.output tries.end) bytes_are tries.serves)

  breaks_at : (count : ℕ) (result : One) (tries : TriesOne k before after bytes moment result) → at < count
      → BreaksOff seed count first (k.book after.backend) tries.end
  breaks_at count result tries few = record {
    number = at;
    few = few;
    mid = k.book before.backend;
    granted = granted;
    answers = answers;
    output = tries.output;
    serves = serves_at result tries;
  }

  pub one_more : (is : Bool) → TriesOne k before after bytes moment (one.Answered is)
      → Answers seed first (at + 1) (k.book after.backend) (granted + (if is then 1 else 0))
  one_more is tries =
      let next : suc at ≡ at + 1 = omega arith in
      subst (λ (n : ℕ). Answers seed first n (k.book after.backend) (granted + (if is then 1 else 0))) next (
        k.book before.backend,
        granted,
        tries.output,
        answers,
        subst (λ (e : Option Ended). Serves (k.book before.backend) (k.book after.backend) (message_at seed at) (moment_of at) tries.output e)
            tries.judged.0 (serves_at (one.Answered is) tries),
        tries.judged.1,
        ap (λ (b : Bool). granted + (if b then 1 else 0)) tries.judged.2,
      )

  pub store_fails : (count : ℕ) → TriesOne k before after bytes moment one.Store → at < count
      → k.book after.start.value ≡ first → Concludes seed count first (k.book after.backend) tried.Store
  store_fails count tries few start = (
    tries.end,
    breaks_at count one.Store tries few,
    subst (λ (b : Book). Risen b.strikes (k.book after.backend).strikes) start (tries.risen tries.judged),
  )

  pub memory_wants : (count : ℕ) → TriesOne k before after bytes moment one.Memory → at < count
      → Concludes seed count first (k.book after.backend) tried.Memory
  memory_wants count tries few = inr (tries.end, breaks_at count one.Memory tries few)

  pub breaks : (count : ℕ) (end : Option Ended) → TriesOne k before after bytes moment (one.Broken end) → at < count
      → Concludes seed count first (k.book after.backend) (tried.Broken end)
  breaks count end tries few = (
    subst (λ (e : Option Ended). BreaksOff seed count first (k.book after.backend) e) (sym tries.judged.0) (breaks_at count (one.Broken end) tries few),
    subst (λ (e : Option Ended). IsBroken e) (sym tries.judged.0) tries.judged.1,
  )

-- there was no memory for the next
pub runs_out : (seed count at granted : ℕ) (first last : Book) → Answers seed first at last granted → at < count
    → Concludes seed count first last tried.Memory
runs_out seed count at granted first last answers few = inl (record { number = at; few = few; granted = granted; answers = answers })
