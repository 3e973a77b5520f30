-- The rows of items to which changes were applied, one change after the other.
use Rattle.sdd_watch.proofs.All.{Apply, Bool, Catalogue, Change, D, Dated, DmNo, FragNo, Fragment, Held, History, Input, IsSiteOf, IsSoundCatalogue, Items, Kept, List, Log, None, Option, Rec, Represent, RowDelta, Some, TxnNo, Value, [], ap, applied_by, applied_in, arith, changes_applied, changes_at, changes_of, copy_module, d_site, false, filter-append, flat_map, flat_map-append, fold, get_or as slice_index_or, get_or_past, has_copy, if◌then◌else◌, is_here, is_of_item, items_at, items_keep, latest, length, list_any, map, map-append, max, of_fragment, pos, refl, rel_no, report_row, row_by, row_in, row_left, row_of_item, shown, sym, true, with_row, ℕ, ℤ, ◌++◌, ◌-◌, ◌<◌, ◌==◌, ◌∙◌, ◌∷◌, ◌≡◌, ◌≤◌}
use Rattle.sdd_watch.proofs.Folding.{Joins}

-- copies of a fragment

abbrev nothing : Fragment
nothing = record { name = []; rel = rel_no 0; least = pos 0; greatest = pos 0; copies = [] }

pub copy_past : (cat : Catalogue) (d f number : ℕ) → number ≡ max f 1 → length cat.fragments < number → false ≡ has_copy cat d f
copy_past cat d f number is past =
    let beyond : length cat.fragments ≤ f - 1 = omega (arith, is, past) in
    sym (ap (λ (x : Fragment). list_any (λ (y : DmNo). y.0 == d) x.copies) (get_or_past cat.fragments (f - 1) nothing beyond))

pub copy_within : (cat : Catalogue) (d f number : ℕ) (b : Bool) → number ≡ max f 1 → b ≡ has_copy cat d number → b ≡ has_copy cat d f
copy_within cat d f number b is e =
    let same : number - 1 ≡ f - 1 = omega (arith, is) in
    e ∙ ap (λ k. list_any (λ (x : DmNo). x.0 == d) (slice_index_or cat.fragments k nothing).copies) same

-- a module with a copy is there
pub copy_site : (g : Input) (d : DmNo) (f : ℕ) → IsSoundCatalogue g.catalogue → has_copy g.catalogue d.0 f ≡ true → IsSiteOf g (D d)
copy_site g d f sound e = d_site g.catalogue d.0 (copy_module g.catalogue sound d.0 f e)

-- the row that a copy has

shown_row : (o : Option (ℕ × Change)) → row_of_item (shown o) ≡ row_by o
shown_row None = refl
shown_row (Some x) = refl

pub row_is : (copies : Held) (copy : Kept Items) (frag : FragNo) (key : ℤ) (row : Option (List Value)) → is_here copies frag.0 ≡ true
    → copy ≡ record { live = true; value = items_at copies frag.0 } → row ≡ row_in copy.value key
    → (xs : Dated) → Represent copies xs → (change : Change) → change.frag ≡ frag → change.key ≡ key → row ≡ row_left xs change
row_is copies copy frag key row here is read xs represent change f k =
    let mine : Dated = of_fragment frag.0 xs in
    read
    ∙ ap (λ (c : Kept Items). row_in c.value key) is
    ∙ ap (λ es. row_in es key) (represent frag.0 here)
    ∙ ap row_of_item (sym ((items_keep mine).rows_are key)) ∙ shown_row (latest key mine)
    ∙ sym (ap (λ (n : FragNo). row_by (latest change.key (of_fragment n.0 xs))) f ∙ ap (λ j. row_by (latest j mine)) k)

-- a row more

pub row_stays : (g : Input) (log : Log) (rows : List RowDelta) (x : DmNo × Change) (b : Bool) → b ≡ list_any (is_of_item x) rows → b ≡ true
    → rows ≡ with_row g log rows x
row_stays g log rows x b is e = sym (ap (λ c. if c then rows else rows ++ report_row g log x ∷ []) (sym is ∙ e))

pub row_added : (g : Input) (log : Log) (rows more : List RowDelta) (x : DmNo × Change) (b : Bool) (row : RowDelta) → b ≡ list_any (is_of_item x) rows
    → b ≡ false → row ≡ report_row g log x → more ≡ rows ++ row ∷ [] → more ≡ with_row g log rows x
row_added g log rows more x b row is e reported push =
    push ∙ ap (λ r. rows ++ r ∷ []) reported ∙ sym (ap (λ c. if c then rows else rows ++ report_row g log x ∷ []) (sym is ∙ e))

-- what changes give, and records

pub changes_join : (g : Input) (dm : DmNo) → Joins (changes_applied g dm)
changes_join g dm = record {
  none = refl;
  both = λ xs ys.
      ap (map (λ x. (dm, x))) (filter-append (λ (x : Change). has_copy g.catalogue dm.0 x.frag.0) xs ys)
      ∙ map-append (λ x. (dm, x)) (changes_at g.catalogue dm.0 xs) (changes_at g.catalogue dm.0 ys);
}

pub records_join : (g : Input) (records : History) → Joins (flat_map (applied_by g records))
records_join g records = record { none = refl; both = flat_map-append (applied_by g records) }

given_one : (g : Input) (dm : DmNo) (change : Change) (b : Bool) → has_copy g.catalogue dm.0 change.frag.0 ≡ b
    → changes_applied g dm (change ∷ []) ≡ (if b then (dm, change) ∷ [] else [])
given_one g dm change true e = ap (λ c. map (λ x. (dm, x)) (if c then change ∷ [] else [])) e
given_one g dm change false e = ap (λ c. map (λ x. (dm, x)) (if c then change ∷ [] else [])) e

pub one_elsewhere : (g : Input) (log : Log) (dm : DmNo) (change : Change) (rows : List RowDelta) → has_copy g.catalogue dm.0 change.frag.0 ≡ false
    → rows ≡ fold (with_row g log) rows (changes_applied g dm (change ∷ []))
one_elsewhere g log dm change rows e = sym (ap (fold (with_row g log) rows) (given_one g dm change false e))

pub one_here : (g : Input) (log : Log) (dm : DmNo) (change : Change) (rows more : List RowDelta) → has_copy g.catalogue dm.0 change.frag.0 ≡ true
    → more ≡ with_row g log rows (dm, change) → more ≡ fold (with_row g log) rows (changes_applied g dm (change ∷ []))
one_here g log dm change rows more e add = add ∙ sym (ap (fold (with_row g log) rows) (given_one g dm change true e))

-- by what a record applies

abbrev given_by : Input → History → Option (TxnNo × DmNo) → List (DmNo × Change)
given_by g records None = []
given_by g records (Some x) = changes_applied g x.1 (changes_of x.0.0 records)

applied_is : (g : Input) (records : History) (r : ℕ × Rec) → applied_by g records r ≡ given_by g records (applied_in r)
applied_is g records (event, Apply txn class dm ts) = refl
applied_is g records _ = refl

pub none_applied : (g : Input) (log : Log) (records : History) (r : ℕ × Rec) (rows : List RowDelta) → None ≡ applied_in r
    → rows ≡ fold (with_row g log) rows (applied_by g records r)
none_applied g log records r rows e = sym (ap (fold (with_row g log) rows) (applied_is g records r ∙ ap (given_by g records) (sym e)))

pub some_applied : (g : Input) (log : Log) (records known : History) (r : ℕ × Rec) (txn : TxnNo) (dm : DmNo) (changes : List Change) (rows more : List RowDelta)
    → Some (txn, dm) ≡ applied_in r → known ≡ records → changes ≡ changes_of txn.0 known
    → more ≡ fold (with_row g log) rows (changes_applied g dm changes) → more ≡ fold (with_row g log) rows (applied_by g records r)
some_applied g log records known r txn dm changes rows more e same is add =
    add ∙ ap (λ cs. fold (with_row g log) rows (changes_applied g dm cs)) (is ∙ ap (changes_of txn.0) same)
    ∙ sym (ap (fold (with_row g log) rows) (applied_is g records r ∙ ap (given_by g records) (sym e)))
