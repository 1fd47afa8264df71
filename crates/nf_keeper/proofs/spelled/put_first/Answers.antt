use Rattle.std.proofs.Common.{◌≡◌, ◌∙◌, ◌++◌, ◌∷◌, [], List, reverse, rules, sym, subst, ap}
use Rattle.std.proofs.lemmas.List.{reverse-append}
use Rattle.nf_rows.specs.Spelling.{Raw}
use Rattle.nf_told.specs.Told.{AreRisingRaws}
use Rattle.nf_keeper.specs.Spelled.{after_all}
use Rattle.nf_keeper.specs.declared.spelled.SpelledChange.{SpelledChange}
use Rattle.nf_keeper.specs.declared.spelled.SpelledChange.TheVariants.{Put}
use Rattle.nf_keeper.proofs.Together.{front_rising, last_put}
use Rattle.nf_keeper.proofs.spelled.put_first.Goals as goal

pub loop-row-preserved : goal.loop-row-preserved
loop-row-preserved c =
    let at = c.loop-row in
    let rest = c.pop.new.self.items in
    let changes = at.changes.items in
    let row = c.in-Some.row in
    let items : at.rows.items ≡ rest ++ row ∷ [] = c.in-Some.ensures.items in
    let rising = subst AreRisingRaws items at.invariant.rising in
    let pushed : c.push-done.new.self.items ≡ changes ++ Put row ∷ [] = search rules in
    record {
      left = ap (λ (changes : List SpelledChange). after_all rest (reverse changes)) pushed
          ∙ ap (after_all rest) (reverse-append changes (Put row ∷ []))
          ∙ last_put rest row (reverse changes) rising
          ∙ ap (λ (rows : List Raw). after_all rows (reverse changes)) (sym items)
          ∙ at.invariant.left;
      rising = front_rising rest row rising;
      count = search rules;
      room = search rules;
      capacity = search rules;
    }
