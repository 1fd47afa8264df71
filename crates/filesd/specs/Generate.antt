-- A run of `generate`: messages of a seed, each in a session of its own through the one seat, and what they left.
use Rattle.std.specs.Prelude.{◌≡◌, ℕ, ◌++◌, List, [], Option, None, Some, codes, decimal}
use Rattle.std.specs.List.{flat_map}
use Rattle.std.specs.Option.{IfSome}
use Rattle.nf_defs.specs.Tables.{Tables}
use Rattle.nf_desk.specs.Desk.{Shown, TellsSite, blobs_in}
use Rattle.nf_desk.specs.Opening.{IsLoaded}
use Rattle.nf_site.specs.Demo.{demo_rows}
use Rattle.nf_site.specs.Held.{Held}
use Rattle.nf_site.specs.Totals.{all_grants, all_totals}
use Rattle.nf_site.specs.declared.totals.UserTotals.{UserTotals}
use Rattle.nf_told.specs.Told.{Told}
use Rattle.nf_trial.specs.Trials.{Concludes}
use Rattle.nf_trial.specs.declared.trials.Tried.{Tried}
use Rattle.nf_trial.specs.declared.trials.Tried.TheVariants as tried
use Rattle.filesd.specs.Init.{Writes}
use Rattle.filesd.specs.Opening.{IsUnopened, demo_blob, over_none, told_first}
use Rattle.filesd.specs.Outside.{Outside}
use Rattle.filesd.specs.Seat.{book_of}
use Rattle.filesd.specs.Session.{first_book, status_of}
use Rattle.filesd.specs.Sweep.{WritesNothing}
use Rattle.filesd.specs.declared.status.Status.{Status}
use Rattle.filesd.specs.declared.status.Status.TheVariants as exit

-- ---- the summary

-- what a user's files, trash and versions take up, in bytes
abbrev pub user_line : UserTotals → List ℕ
user_line user =
    user.name ++ (codes " charge " ++ (decimal user.charge ++ (codes " trash " ++ (decimal user.trash ++ (codes " versions "
    ++ (decimal user.versions ++ codes "\n"))))))

abbrev pub lines_of : List UserTotals → List ℕ
lines_of users = flat_map user_line users

-- how many messages there were, and how many of them were granted and denied
abbrev pub counts_text : ℕ → ℕ → ℕ → List ℕ
counts_text count granted denied =
    codes "messages " ++ (decimal count ++ (codes "\ngranted " ++ (decimal granted ++ (codes "\ndenied " ++ (decimal denied ++ codes "\n")))))

abbrev pub grants_text : ℕ → List ℕ
grants_text grants = codes "grants " ++ (decimal grants ++ codes "\n")

-- these, what all users have by rising number, and how many grants they have
abbrev pub summary : ℕ → ℕ → ℕ → Tables → List ℕ
summary count granted denied t = (counts_text count granted denied ++ lines_of (all_totals t)) ++ grants_text (all_grants t)

-- ---- the status, and what was written

-- the summary, where all messages were answered and there was memory for it; and nothing else
abbrev pub TellsTried : {C : Type 0} → ℕ → Tables → Tried → Outside C → Outside C → Status → Type 0
TellsTried count t (tried.All granted denied) a b exit.Memory = WritesNothing a b
TellsTried count t (tried.All granted denied) a b status = Writes (summary count granted denied t) a b status
TellsTried count t tried.Store a b status = (status ≡ exit.StoreFault) × WritesNothing a b
TellsTried count t tried.Memory a b status = (status ≡ exit.Memory) × WritesNothing a b
TellsTried count t (tried.Broken end) a b status = (status ≡ status_of end) × WritesNothing a b

-- ---- the run

-- the messages were served over a desk that was just opened, through the one seat of a run
pub record ListsSite {C : Type 0} (seed count : ℕ) (desk : Shown) (a b : Outside C) (status : Status) (site : Held) : Type 0 where
  pub tried : Tried
  pub concludes : Concludes seed count (book_of desk.site desk.start.told desk.told desk.faults)
      (book_of site.kept desk.start.told b.told b.faults) tried
  pub tells : TellsTried count site.kept.state.tables tried a b status
  pub told : IfSome b.told (TellsSite (blobs_in desk.start.told) site.kept)
  pub begun : b.begun ≡ a.begun

abbrev pub ListsDesk : {C : Type 0} → ℕ → ℕ → Shown → Outside C → Outside C → Status → Option Held → Type 0
ListsDesk seed count desk a b status None = ⊥
ListsDesk seed count desk a b status (Some site) = ListsSite seed count desk a b status site

-- what is told when the demonstration rows were stored
abbrev pub told_demo : Option Told → Option Told
told_demo told = told_first demo_rows demo_blob told

-- there were no rows, so the demonstration rows were stored, and the messages served over them
pub record Lists {C : Type 0} (seed count : ℕ) (a b : Outside C) (status : Status) (site : Held) : Type 0 where
  pub loaded : IsLoaded a.told []
  pub tried : Tried
  pub concludes : Concludes seed count (first_book demo_rows (told_demo a.told) a.faults) (book_of site.kept (told_demo a.told) b.told b.faults) tried
  pub tells : TellsTried count site.kept.state.tables tried a b status
  pub opening : site.kept.opening ≡ demo_rows
  -- what rows name at the end is there
  pub told : IfSome b.told (TellsSite (blobs_in (told_demo a.told)) site.kept)
  pub left : b.left ≡ a.left
  pub begun : b.begun ≡ a.begun
  pub read_faults : b.read_faults ≡ a.read_faults
  pub lent : b.lent ≡ a.lent

-- a whole run
abbrev pub Generates : {C : Type 0} → ℕ → ℕ → Outside C → Outside C → Status → Option Held → Type 0
Generates seed count a b status None = IsUnopened over_none a b status
Generates seed count a b status (Some site) = Lists seed count a b status site
