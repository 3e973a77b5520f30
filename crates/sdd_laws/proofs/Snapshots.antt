-- The databases of the snapshots are databases, and have in each fragment that is read what its copy has.
use Rattle.sdd_laws.proofs.All.{All-contains, AreRecorded, AreWriters, Catalogue, Change, Contains, Contains-here, Contains-later, Database, Dated, Effect, HasRow, IsChange, IsDatabase, IsEntry, IsPlaced, IsSoundCatalogue, Item, Ledger, List, Reads, Row, Some, [], all_dated, ap, arith, change_is, contents, effect_once, effect_placed, entries_of, entry_placed, filter, fold, fragment_at, fragment_of, gathered, item_of, nat_tests, no_database, refl, rows_in_fragment, snapshot, subst, suc, sym, true, with_item, with_row_stays, writers, zero, ℕ, ℤ, ◌<◌, ◌∙◌, ◌∷◌, ◌≡◌}
use Rattle.sdd_laws.proofs.CopyEntries.{IsHeldBy, held_by, lies_there, entries_ascend}
use Rattle.sdd_laws.proofs.Together.{has_copy}
use Rattle.sdd_laws.proofs.Members.{is_in, Contains-from_filter}
use Rattle.sdd_laws.proofs.Origins.{Origin, origin, entry_lies, all_placed}
use Rattle.sdd_laws.proofs.Origins.Origin.{initial, made}
use Rattle.sdd_laws.specs.Ledger.{changes}

-- entries that are put together

gathered_is : (cat : Catalogue) (db : Database) (es : List (Item × Row)) → IsDatabase cat db
    → ((e : Item × Row) → Contains es e → IsEntry cat e) → IsDatabase cat (fold with_item db es)
gathered_is cat db [] is all = is
gathered_is cat db (x ∷ es) is all = grind (arith, with_row_stays, Contains-here, Contains-later, (gathered_is cat (with_item db x) es (with_row_stays cat db x.0 x.1 is (all x (Contains-here x es))) (λ e h. all e (Contains-later x es e h))))

entry_with : (cat : Catalogue) (rel : ℕ) (key : ℤ) (row : Row) (e : Item × Row) → (rel, key) ≡ e.0 → row ≡ e.1
    → IsEntry cat ((rel, key), row) → IsEntry cat e
entry_with cat rel key row e p q h = grind arith

module _ {T : Type 0} (cat : Catalogue) (sound : IsSoundCatalogue cat) (first : Database) (first_is : IsDatabase cat first)
    (L : Ledger T) (commits : List T) (recorded : AreRecorded cat first L commits) where
  abbrev ChangesAre : T → Type 0
  ChangesAre x = (c : Change) → Contains (changes L x) c → IsChange cat ((c.frag.0, c.key), c.row)

  -- what a copy holds are entries, where these transactions' changes are changes of items
  copy_entries : (txns : List T) → ((t : T) → Contains txns t → ChangesAre t) → (f : ℕ) (e : Item × Row)
      → Contains (entries_of cat f (contents f (all_dated cat first (writers L) txns))) e → IsEntry cat e
  copy_entries txns are f e h =
      let g = held_by cat f (all_dated cat first (writers L) txns) e h in
      by g.0 (origin cat first (writers L) txns g.0 g.1.there) g.1
    where
      by : (x : ℕ × Change) → Origin cat first (writers L) txns x
          → IsHeldBy cat f (all_dated cat first (writers L) txns) e x → IsEntry cat e
      by x (initial d i same) held =
          let rel : (fragment_at cat f).rel.0 ≡ d.0.0 =
          ap (λ n. (fragment_at cat n).rel.0) (sym held.frag ∙ ap (λ (z : ℕ × Change). z.1.frag.0) same)
          ∙ entry_lies cat sound first first_is d i in
          let item : d.0 ≡ e.0 =
          ap (λ r. (r, d.0.1)) (sym rel)
          ∙ ap (λ k. ((fragment_at cat f).rel.0, k)) (ap (λ (z : ℕ × Change). z.1.key) (sym same)) ∙ held.item in
          let rows : Some d.1 ≡ Some e.1 = ap (λ (z : ℕ × Change). z.1.row) (sym same) ∙ held.row in
          let row : d.1 ≡ e.1 = cc in
          entry_with cat d.0.0 d.0.1 d.1 e item row (All-contains (IsEntry cat) first d first_is.entries i)
      by x (made t i c m same) held =
          let k : IsChange cat ((c.frag.0, c.key), c.row) = are t i c m in
          let rel : (fragment_at cat f).rel.0 ≡ k.rel =
          ap (λ n. (fragment_at cat n).rel.0) (sym held.frag ∙ ap (λ (z : ℕ × Change). z.1.frag.0) same ∙ k.frag)
          ∙ entry_placed cat sound k.rel c.key k.there k.held in
          let has : HasRow cat k.rel c.key (Some e.1) =
          subst (HasRow cat k.rel c.key) (ap (λ (z : ℕ × Change). z.1.row) (sym same) ∙ held.row) k.row in
          let item : (k.rel, c.key) ≡ e.0 =
          ap (λ r. (r, c.key)) (sym rel)
          ∙ ap (λ q. ((fragment_at cat f).rel.0, q)) (ap (λ (z : ℕ × Change). z.1.key) (sym same)) ∙ held.item in
          entry_with cat k.rel c.key e.1 e item refl
          (record { relation = k.there; row = has.0; key = has.1; key_held = k.held })

  abbrev base : T → Database
  base x = gathered (recorded.pieces x)

  abbrev seen : T → ℕ → List T
  seen x f = filter (L.saw x f) commits

  base_from : (x : T) → Contains commits x
      → ((t : T) (f : ℕ) → Contains commits t → Reads cat L x f → L.saw x f t ≡ true → ChangesAre t)
      → IsDatabase cat (base x)
  base_from x there are =
      gathered_is cat [] (recorded.pieces x) (no_database cat) (λ e h.
      let g = recorded.are_pieces.of x there e h in
      copy_entries (seen x g.0)
      (λ t i. let k = Contains-from_filter (L.saw x g.0) commits t i in are t g.0 k.0 g.1 k.1) g.0 e g.2)

  changes_from : (x : T) → Contains commits x → IsDatabase cat (base x) → ChangesAre x
  changes_from x there is = grind (arith, change_is, is_in)

  -- by the places of the Commits
  bases_below : (n : ℕ) (x : T) → Contains commits x → recorded.place x < n → IsDatabase cat (base x)
  bases_below zero x there l = absurd (omega arith)
  bases_below (suc n) x there l =
      base_from x there
      (λ t f in_it r s. grind (arith, nat_tests, changes_from, (bases_below n t in_it (let m = recorded.earlier x t there in_it f r s in omega (arith, m, l)))))

  pub bases_are : (x : T) → Contains commits x → IsDatabase cat (base x)
  bases_are x there = bases_below (suc (recorded.place x)) x there (omega arith)

  pub are_writers : AreWriters cat (writers L) commits
  are_writers =
      record {
        time = recorded.time;
        one_time = λ x y a b e. ap (λ (z : Effect). z.changes) (recorded.one_time x y a b e);
        placed =
            λ x there.
            subst (λ (e : Effect). (c : Change) → Contains e.changes c → IsPlaced cat c) (recorded.effect_is x there)
            (λ c h. effect_placed cat sound (L.txn x) (recorded.fits x there) (recorded.puts_held x there) (base x) (bases_are x there) c (is_in _ c h));
        once =
            λ x there.
            subst
            (λ (e : Effect).
            (c d : Change) → Contains e.changes c → Contains e.changes d → item_of cat c ≡ item_of cat d → c ≡ d)
            (recorded.effect_is x there)
            (λ c d h k. effect_once cat sound (L.txn x) (recorded.fits x there) (recorded.puts_held x there) (base x) (bases_are x there) c d (is_in _ c h)
            (is_in _ d k));
      }

  abbrev copy_seen : T → ℕ → Dated
  copy_seen x f = all_dated cat first (writers L) (seen x f)

  -- an entry of a copy lies in its fragment
  lies_in : (x : T) (f : ℕ) (e : Item × Row) → Contains (snapshot cat first L commits x f) e
      → fragment_of cat e.0.0 e.0.1 ≡ f
  lies_in x f e h =
      let placed =
      all_placed cat first (writers L) sound first_is commits are_writers (seen x f)
      (λ t i. (Contains-from_filter (L.saw x f) commits t i).0) in
      lies_there cat f (copy_seen x f) e placed h

  -- in a fragment that it reads the database has what the copy has
  pub snapshot_is : (x : T) → Contains commits x → (f : ℕ) → Reads cat L x f
      → rows_in_fragment cat (base x) f ≡ snapshot cat first L commits x f
  snapshot_is x there f reads =
      has_copy cat (Reads cat L x) (snapshot cat first L commits x) (recorded.pieces x) (recorded.are_pieces.each x there)
      (recorded.are_pieces.of x there) (lies_in x) (λ g. entries_ascend cat g (copy_seen x g)) f reads
