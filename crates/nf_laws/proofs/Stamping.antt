-- Changes that are known are known whatever moment is stamped before.
use Rattle.std.proofs.Common.{◌≡◌, ◌≢◌, ℕ, List, [], ◌∷◌, None, inl, inr, refl, sym, ap, subst, ◌∙◌, arith}
use Rattle.std.specs.List.{All}
use Rattle.std.proofs.lemmas.List.Elements.{All-cons, All-head, All-nil, All-tail}
use Rattle.nf_base.specs.declared.changes.Change.{Change}
use Rattle.nf_base.specs.declared.changes.Change.TheVariants.{Drop, Put}
use Rattle.nf_base.specs.declared.changes.RowKey.TheVariants as keys
use Rattle.nf_base.specs.declared.rows.MetaRow.{MetaRow}
use Rattle.nf_base.specs.declared.rows.Row.TheVariants.{Chunk, Group, Meta, Node, Share, User, Version}
use Rattle.nf_defs.specs.Prelude.{made, put_all, Tables}
use Rattle.nf_laws.proofs.Lists.{AreBuilt, IsBuilt, meta_one, only_built}
use Rattle.nf_laws.proofs.Rows.{stamp}
use Rattle.nf_words.proofs.Fits.{KnownChange, KnownRow, KnownRows, no_more, one_more, user_more, with_user}
use Rattle.nf_words.specs.Prelude.{above, counted, raised}

-- the moment doesn't count
above_stamped : (meta : MetaRow) (moment : ℕ) (change : Change) → above (record meta { last = moment }) change ≡ record (above meta change) { last = moment }
above_stamped meta moment (Put (User row)) = refl
above_stamped meta moment (Put (Group row)) = refl
above_stamped meta moment (Put (Node row)) = refl
above_stamped meta moment (Put (Share row)) = refl
above_stamped meta moment change = refl

pub counted_stamped : (meta : MetaRow) (moment : ℕ) (changes : List Change)
    → counted (record meta { last = moment }) changes ≡ record (counted meta changes) { last = moment }
counted_stamped meta moment [] = refl
counted_stamped meta moment (change ∷ changes) =
    ap (λ (m : MetaRow). counted m changes) (above_stamped meta moment change) ∙ counted_stamped (above meta change) moment changes

-- nor does the meta row for what changes make of all others
one_met : (t : Tables) (meta : MetaRow) (change : Change) → (then : MetaRow) × (made (record t { meta = meta }) change ≡ record (made t change) { meta = then })
one_met t meta (Put (Meta row)) = (row, refl)
one_met t meta (Drop keys.Meta) = (meta, refl)
one_met t meta (Drop (keys.User id)) = (meta, refl)
one_met t meta (Drop (keys.Token digest)) = (meta, refl)
one_met t meta (Drop (keys.Group id)) = (meta, refl)
one_met t meta (Drop (keys.Member group user)) = (meta, refl)
one_met t meta (Drop (keys.Node id)) = (meta, refl)
one_met t meta (Drop (keys.Share id)) = (meta, refl)
one_met t meta (Drop (keys.Mount user node)) = (meta, refl)
one_met t meta (Drop (keys.Version node at)) = (meta, refl)
one_met t meta (Drop (keys.Item node)) = (meta, refl)
one_met t meta (Drop (keys.Upload user dir)) = (meta, refl)
one_met t meta (Drop (keys.Chunk user dir number)) = (meta, refl)
one_met t meta (Put row) = (meta, refl)

pub put_met : (t : Tables) (meta last : MetaRow) (changes : List Change)
    → record (put_all (record t { meta = meta }) changes) { meta = last } ≡ record (put_all t changes) { meta = last }
put_met t meta last [] = refl
put_met t meta last (change ∷ changes) =
    let one = one_met t meta change in
    ap (λ (u : Tables). record (put_all u changes) { meta = last }) one.1 ∙ put_met (made t change) one.0 last changes

-- nor does the moment for what is known of a row
row_stamped : (t : Tables) (moment : ℕ) (u : Tables) (change : Change) → KnownRow t None u change → KnownRow (stamp t moment) None u change
row_stamped t moment u (Put (Node row)) (inl k) = inl (record { born = k.born; fresh = k.fresh; body = k.body })
row_stamped t moment u (Put (Node row)) (inr k) = inr (record { filled = k.filled; given = k.given; body = k.body })
row_stamped t moment u (Put (Version row)) k = record { version = k.version; was = k.was; there = k.there; of_was = k.of_was }
row_stamped t moment u (Put (Chunk row)) k = record { chunk = k.chunk; body = k.body }
row_stamped t moment u (Drop (keys.Version node at)) k = tt
row_stamped t moment u change k = k

rows_stamped : (t : Tables) (moment : ℕ) (u : Tables) (changes : List Change) → KnownRows t None u changes → KnownRows (stamp t moment) None u changes
rows_stamped t moment _ _ (no_more u) = no_more u
rows_stamped t moment _ _ (one_more u change changes known rest) =
    one_more u change changes (row_stamped t moment u change known) (rows_stamped t moment (made u change) changes rest)
rows_stamped t moment _ _ (user_more u row root changes known rest) =
    user_more u row root changes known (rows_stamped t moment (with_user u row root) changes rest)

-- and each makes a difference
one_differs : (t : Tables) (moment : ℕ) (change : Change) → IsBuilt change → made t change ≢ t → made (stamp t moment) change ≢ stamp t moment
one_differs t moment change built differs = λ same.
    differs (meta_one t t.meta change built
    ∙ ap (λ (u : Tables). record u { meta = t.meta }) (sym (meta_one t (stamp t moment).meta change built) ∙ same))

all_differ : (t : Tables) (moment : ℕ) (changes : List Change) → AreBuilt changes → All (λ (change : Change). made t change ≢ t) changes
    → All (λ (change : Change). made (stamp t moment) change ≢ stamp t moment) changes
all_differ t moment [] built differ = All-nil (λ (change : Change). made (stamp t moment) change ≢ stamp t moment)
all_differ t moment (change ∷ changes) built differ =
    All-cons (λ (change : Change). made (stamp t moment) change ≢ stamp t moment) change changes
    (one_differs t moment change built.0 (All-head (λ (change : Change). made t change ≢ t) change changes differ))
    (all_differ t moment changes built.1 (All-tail (λ (change : Change). made t change ≢ t) change changes differ))

pub change_stamped : (t : Tables) (now moment : ℕ) (changes : List Change) → KnownChange t now changes None → KnownChange (stamp t moment) now changes None
change_stamped t now moment changes k =
    let counts = counted_stamped t.meta moment changes in
    record {
      rows = subst (λ (u : Tables). KnownRows (stamp t moment) None u changes)
          (ap (λ (meta : MetaRow). record t { meta = record meta { next_blob = t.meta.next_blob; last = now } }) (sym counts))
          (rows_stamped t moment (raised t now changes None) changes k.rows);
      lean = record { once = k.lean.once; differ = all_differ t moment changes (only_built t None (raised t now changes None) changes k.rows) k.lean.differ };
      stored = k.stored;
      next = k.next;
      next_user = omega (arith, k.next_user, ap (λ (meta : MetaRow). meta.next_user) counts);
      next_group = omega (arith, k.next_group, ap (λ (meta : MetaRow). meta.next_group) counts);
      next_node = omega (arith, k.next_node, ap (λ (meta : MetaRow). meta.next_node) counts);
      next_share = omega (arith, k.next_share, ap (λ (meta : MetaRow). meta.next_share) counts);
      next_blob = k.next_blob;
    }
