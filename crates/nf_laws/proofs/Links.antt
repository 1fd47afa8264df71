-- Shares that were there are there, of the same node and of the same kind.
use Rattle.std.proofs.Common.{◌≡◌, ℕ, ◌==◌, ◌<◌, Bool, inl, inr, List, Option, None, option_map, arith, refl, sym, ap, subst, ◌∙◌}
use Rattle.std.specs.Prelude.{Some}
use Rattle.std.proofs.lemmas.Bool.{both_ways, cases_Bool, eq-eqb, eqb-true}
use Rattle.std.proofs.lemmas.Option.{same_Some}
use Rattle.nf_access.specs.Shares.{is_link_kind, share_row}
use Rattle.nf_base.specs.declared.changes.Change.{Change}
use Rattle.nf_base.specs.declared.rows.NodeRow.{NodeRow}
use Rattle.nf_base.specs.declared.rows.ShareRow.{ShareRow}
use Rattle.nf_defs.specs.Prelude.{is_under, made, put, share_key, Tables}
use Rattle.nf_laws.proofs.Each.{NoStore, settled_keep}
use Rattle.nf_laws.proofs.Lists.{changes_have, KnownShare, aside_only}
use Rattle.nf_laws.proofs.Others.{row_ended, same_field, unless_gone}
use Rattle.nf_laws.proofs.Peopled.{people_shares}
use Rattle.nf_laws.proofs.Puts.{other_number}
use Rattle.nf_laws.proofs.Rows.{found_is, stamped_has}
use Rattle.nf_words.proofs.Asks.{share_found}
use Rattle.nf_words.proofs.Fits.{KnownChange}
use Rattle.nf_words.proofs.Known.{Known}
use Rattle.nf_words.specs.Prelude.{altered, AreSound, changed, deed_done, ended_under, IsLinkTo, IsNewShare, IsOtherShare, told}
use Rattle.nf_words.specs.declared.answer.Allowed.{Allowed}
use Rattle.nf_words.specs.declared.answer.Allowed.TheVariants as allowed
use Rattle.nf_words.specs.declared.answer.Deed.{Deed}
use Rattle.nf_words.specs.declared.answer.Deed.TheVariants as deed
use Rattle.nf_words.specs.declared.answer.Report.{Report}
use Rattle.nf_words.specs.declared.answer.Report.TheVariants as report

-- the share is there, of the node and of the kind of the old one
pub record IsSameShare (shares : List ShareRow) (id : ℕ) (old : ShareRow) : Type 0 where
  pub row : ShareRow
  pub there : share_row shares id ≡ Some row
  pub node : row.node ≡ old.node
  pub kind : row.kind ≡ old.kind

-- so is each that was there
abbrev pub AreSameShares : List ShareRow → List ShareRow → Type 0
AreSameShares shares others = (id : ℕ) (old : ShareRow) → share_row shares id ≡ Some old → IsSameShare others id old

abbrev pub KeepsShares : Tables → Tables → Type 0
KeepsShares t made = AreSameShares t.shares made.shares

all_shares : (shares : List ShareRow) → AreSameShares shares shares
all_shares shares id old there = record { row = old; there = there; node = refl; kind = refl }

then_shares : (first second third : List ShareRow) → AreSameShares first second → AreSameShares second third → AreSameShares first third
then_shares first second third one two id old there =
    let a = one id old there in
    let b = two id a.row a.there in
    record { row = b.row; there = b.there; node = b.node ∙ a.node; kind = b.kind ∙ a.kind }

-- ---- shares that end

ended_shares : (nodes : List NodeRow) (top : ℕ) (shares : List ShareRow) → AreSameShares shares (ended_under nodes top shares)
ended_shares nodes top shares id old there =
    let gone : ℕ → Bool = λ node. is_under nodes node top in
    record {
      row = unless_gone gone old;
      there = row_ended gone shares id ∙ ap (option_map (unless_gone gone)) there;
      node = same_field gone (λ s. s.node) (λ s. refl) old;
      kind = same_field gone (λ s. s.kind) (λ s. refl) old;
    }

-- ---- a share that is put

-- each other is left, and what is put for one that was there is of its node and kind
put_shares : (row : ShareRow) (shares : List ShareRow)
    → ((old : ShareRow) → share_row shares row.id ≡ Some old → (row.node ≡ old.node) × (row.kind ≡ old.kind))
    → AreSameShares shares (put share_key row shares)
put_shares row shares so id old there =
    elim (cases_Bool (id == row.id)) [
      | inl e ↦
          (let is = so old (subst (λ (n : ℕ). share_row shares n ≡ Some old) (eqb-true id row.id e) there) in
          record {
            row = row;
            there = ap (share_row (put share_key row shares)) (eqb-true id row.id e) ∙ share_found row shares;
            node = is.0;
            kind = is.1;
          })
      | inr e ↦ record {
        row = old;
        there = other_number (λ (r : ShareRow). r.id) row shares id (λ same. both_ways (id == row.id) e (eq-eqb id row.id same)) ∙ there;
        node = refl;
        kind = refl;
      }
    ]

-- a new one has a number that none of them has
new_share_keeps : (t : Tables) (row : ShareRow) → IsNewShare t row → AreSameShares t.shares (put share_key row t.shares)
new_share_keeps t row is =
    put_shares row t.shares (λ old there.
    let h = found_is (λ (other : ShareRow). other.id < row.id) (λ (other : ShareRow). other.id == row.id) t.shares old is.newest there in
    let same = eqb-true old.id row.id h.0 in absurd (omega (arith, same, h.1)))

other_share_keeps : (t : Tables) (row : ShareRow) → IsOtherShare t row → AreSameShares t.shares (put share_key row t.shares)
other_share_keeps t row is =
    put_shares row t.shares (λ old there.
    let same = is.same ∙ ap (λ (r : ShareRow). record r { perms = row.perms; until = row.until; ended = row.ended }) (same_Some is.old old (sym is.there ∙ there)) in
    (ap (λ (r : ShareRow). r.node) same, ap (λ (r : ShareRow). r.kind) same))

known_share_keeps : (first t : Tables) (row : ShareRow) → KnownShare first t row → AreSameShares t.shares (put share_key row t.shares)
known_share_keeps first t row known = elim known [ inl new ↦ new_share_keeps t row new.0 | inr other ↦ other_share_keeps t row other.0 ]

-- ---- every act

-- what is put in the trash and what goes for good ends shares, and of the deeds that store no changes no other changes one
deed_shares : (t u : Tables) (one : Deed) → NoStore one → KeepsShares t u → KeepsShares t (deed_done u one)
deed_shares t u (deed.Discard item) none keeps =
    then_shares t.shares u.shares (ended_under u.nodes item.node u.shares) keeps (ended_shares u.nodes item.node u.shares)
deed_shares t u (deed.Purge node) none keeps =
    then_shares t.shares u.shares (ended_under u.nodes node u.shares) keeps (ended_shares u.nodes node u.shares)
deed_shares t u (deed.Restore node folder name) none keeps = keeps
deed_shares t u (deed.Relink node folder name) none keeps = keeps
deed_shares t u (deed.Join rows) none keeps = keeps
deed_shares t u (deed.Requote row) none keeps = keeps
deed_shares t u (deed.Forget node at) none keeps = keeps
deed_shares t u (deed.Store changes) none keeps = absurd none
deed_shares t u (deed.Abandon user dir) none keeps = keeps

changes_shares : (t : Tables) (now : ℕ) (changes : List Change) (blob : Option ℕ) (told : Report) → AreSound t → KnownChange t now changes blob
    → KeepsShares t (altered t now (allowed.Change changes blob told))
changes_shares t now changes blob told sound known =
    changes_have (KeepsShares t) t now changes blob told sound.rising known (λ u row keeps it. keeps) (λ u row keeps it. keeps)
    (λ u row keeps it. keeps)
    (λ u row keeps it. then_shares t.shares u.shares (put share_key row u.shares) keeps (known_share_keeps t u row it))
    (λ u change keeps it. subst (AreSameShares t.shares) (sym (people_shares u change it)) keeps)
    (λ u change keeps it. subst (AreSameShares t.shares) (sym (ap (λ (v : Tables). v.shares) (aside_only t blob u change it))) keeps) (λ u row root keeps it. keeps)
    (all_shares t.shares)

altered_shares : (t : Tables) (now : ℕ) (act : Allowed) → AreSound t → Known t now act → KeepsShares t (altered t now act)
altered_shares t now (allowed.Change changes blob told) sound known = changes_shares t now changes blob told sound known
altered_shares t now (allowed.Deeds deeds told) sound known =
    settled_keep (KeepsShares t) t now deeds known (deed_shares t) (λ changes stored. changes_shares t now changes None report.Done sound stored)
    (all_shares t.shares)
altered_shares t now act sound known = all_shares t.shares

pub shares_kept : (t : Tables) (now : ℕ) (act : Allowed) → AreSound t → Known t now act → KeepsShares t (changed t now act)
shares_kept t now act sound known =
    stamped_has (KeepsShares t) t (altered t now act) now (told t act) (all_shares t.shares) (altered_shares t now act sound known)

-- so a link to a node stays one
pub link_stays : (t made : Tables) (share node : ℕ) → KeepsShares t made → IsLinkTo t share node → IsLinkTo made share node
link_stays t made share node keeps is =
    let same = keeps share is.row is.there in
    record { row = same.row; there = same.there; link = ap is_link_kind same.kind ∙ is.link; leads = same.node ∙ is.leads }
