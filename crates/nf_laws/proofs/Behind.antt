-- Versions that go behind other deeds: nothing else is another by them.
use Rattle.std.proofs.Common.{◌≡◌, ◌≤◌, ◌⊎◌, ℕ, inl, inr, List, [], ◌∷◌, ◌++◌, ◌∙◌, length, refl, sym, ap, arith, length-append}
use Rattle.std.proofs.lemmas.List.Elements.{All-weaker}
use Rattle.nf_base.specs.declared.rows.VersionRow.{VersionRow}
use Rattle.nf_defs.specs.Prelude.{Tables}
use Rattle.nf_laws.proofs.InTurn.{deeds_append}
use Rattle.nf_laws.proofs.Rows.{stamp, stamped_some}
use Rattle.nf_laws.specs.Acts.{AreVersionsFewer, HaveLeft, IsGoneWith, IsInTrash, IsRestored}
use Rattle.nf_laws.specs.Transfers.{AreCopied}
use Rattle.nf_retention.specs.declared.versions.Version.{Version}
use Rattle.nf_words.specs.Prelude.{Call, changed, deed_done, deeds_done, done, forgets, forgotten, told_deed, told_deeds}
use Rattle.nf_words.specs.declared.answer.Deed.{Deed}
use Rattle.nf_words.specs.declared.answer.Report.{Report}
use Rattle.nf_words.specs.declared.request.Transfer.{Transfer}

-- the tables with other versions
abbrev pub versioned : Tables → List VersionRow → Tables
versioned t versions = record t { versions = versions }

pub forgets_only : (u : Tables) (gone : List Version) → deeds_done u (forgets gone) ≡ versioned u (deeds_done u (forgets gone)).versions
forgets_only u [] = refl
forgets_only u (version ∷ gone) = forgets_only (forgotten u version.node version.at) gone

-- so behind others
pub behind_only : (t : Tables) (first : List Deed) (gone : List Version)
    → deeds_done t (first ++ forgets gone) ≡ versioned (deeds_done t first) (deeds_done t (first ++ forgets gone)).versions
behind_only t first gone =
    let same = deeds_append t first (forgets gone) in
    same ∙ forgets_only (deeds_done t first) gone
    ∙ ap (λ (versions : List VersionRow). versioned (deeds_done t first) versions) (ap (λ (u : Tables). u.versions) (sym same))

-- more is told of more deeds
told_more : (t : Tables) (xs ys : List Deed) → length (told_deeds t xs) ≤ length (told_deeds t (xs ++ ys))
told_more t [] ys = omega arith
told_more t (x ∷ xs) ys =
    omega (
      arith,
      told_more (deed_done t x) xs ys,
      length-append (told_deed t x) (told_deeds (deed_done t x) xs),
      length-append (told_deed t x) (told_deeds (deed_done t x) (xs ++ ys)),
    )

-- the tables after a step of which something is told
pub behind_changed : (t : Tables) (now : ℕ) (first : List Deed) (gone : List Version) (report : Report) → 1 ≤ length (told_deeds t first)
    → changed t now (done (first ++ forgets gone) report)
    ≡ versioned (changed t now (done first report)) (deeds_done t (first ++ forgets gone)).versions
behind_changed t now first gone report some =
    let all = first ++ forgets gone in
    stamped_some t (deeds_done t all) now (told_deeds t all) (omega (arith, some, told_more t first (forgets gone)))
    ∙ ap (λ (u : Tables). stamp u now) (behind_only t first gone)
    ∙ ap (λ (u : Tables). versioned u (deeds_done t all).versions) (sym (stamped_some t (deeds_done t first) now (told_deeds t first) some))

-- ---- what is said of the tables

module _ (t u : Tables) (versions : List VersionRow) where
  abbrev after : Tables
  after = versioned u versions

  left_behind : (now : ℕ) (leave tops : List ℕ) → HaveLeft t u now leave tops → HaveLeft t after now leave tops
  left_behind now leave tops h = record {
    left = All-weaker (λ (top : ℕ). IsInTrash t u now top ⊎ IsGoneWith t.nodes u.nodes top)
        (λ (top : ℕ). IsInTrash t after now top ⊎ IsGoneWith t.nodes after.nodes top) away leave h.left;
    beside = h.beside;
    gone = h.gone;
    none = h.none;
    items = h.items;
    shares = h.shares;
  }
    where
      away : (top : ℕ) → IsInTrash t u now top ⊎ IsGoneWith t.nodes u.nodes top → IsInTrash t after now top ⊎ IsGoneWith t.nodes after.nodes top
      away top (inl is) = inl (record {
        row = is.row;
        folder = is.folder;
        there = is.there;
        inside = is.inside;
        itself = is.itself;
        item = is.item;
        below = is.below;
      })
      away top (inr gone) = inr gone

  pub copied_behind : (now : ℕ) (transfer : Transfer) (name : List ℕ) (leave : List ℕ) → AreCopied t u now transfer name leave → AreVersionsFewer t after
      → AreCopied t after now transfer name leave
  copied_behind now transfer name leave h fewer = record {
    rows = h.rows;
    mirrors = h.mirrors;
    there = h.there;
    tops = h.tops;
    left = left_behind now leave h.tops h.left;
    others = h.others;
    versions = fewer;
    rest = ap (λ (v : Tables). versioned v versions) h.rest;
  }

pub restored_behind : (call : Call) (node : ℕ) (u : Tables) (versions : List VersionRow) → IsRestored call node u
    → AreVersionsFewer call.state.tables (versioned u versions) → IsRestored call node (versioned u versions)
restored_behind call node u versions h fewer = record {
  item = h.item;
  there = h.there;
  own = h.own;
  row = h.row;
  was = h.was;
  folds = h.folds;
  present = h.present;
  owner = h.owner;
  free = h.free;
  itself = h.itself;
  none = h.none;
  tops = h.tops;
  emptied = record { items = h.emptied.items; gone = h.emptied.gone; none = h.emptied.none };
  others = h.others;
  items = h.items;
  versions = fewer;
  rest = ap (λ (v : Tables). versioned v versions) h.rest;
}
