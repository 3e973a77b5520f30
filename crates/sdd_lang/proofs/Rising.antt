-- Changes put one by one: one whose item is above that of the last goes after it.
use Rattle.sdd_lang.proofs.All.{AllByRecursion, Change, Changed, Greater, IsStrictlySortedBy, IsTotalOrder, Item, Less, List, Option, Ordering, Row, Some, [], ap, arith, by_item, change_of, changed_item, fold, fold-append, get_or, insert_entry, item_cmp, keys_of, length, length-map, map, map-append, nil_from_length, ordering_reverse, put_each, refl, slice_get, slice_get-get_or, sorted_head, sorted_tail, suc, sym, to_last_item, zero, ℕ, ◌++◌, ◌+◌, ◌-◌, ◌∙◌, ◌∷◌, ◌≡◌}
use Rattle.sdd_lang.proofs.SortedEntries.{inserted_sorted, item_cmp_total, sorted_nil}

pub changes_are : (changes : List Change) → changes ≡ map change_of (by_item changes)
changes_are [] = refl
changes_are (c ∷ changes) = ap (λ rest. c ∷ rest) (changes_are changes)

abbrev put : Changed → Item × Option Row → Changed
put kept c = insert_entry item_cmp kept c.0 c.1

abbrev Ascends : Changed → Type 0
Ascends changed = IsStrictlySortedBy item_cmp (keys_of changed)

-- putting the changes one by one gives these changes
abbrev AreAlone : List Change → Type 0
AreAlone changes = put_each (by_item changes) ≡ by_item changes

all_sorted : (more kept : Changed) → Ascends kept → Ascends (fold put kept more)
all_sorted [] kept h = h
all_sorted (c ∷ more) kept h = all_sorted more (put kept c) (inserted_sorted item_cmp item_cmp_total kept c.0 c.1 h)

-- entries that ascend, in any order of their keys

below_at : {K X : Type 0} (R : K → K → Ordering) (low : K) (es : List (K × X)) (i : ℕ) (last : K × X) → AllByRecursion (λ y. R low y ≡ Less) (keys_of es)
    → slice_get es i ≡ Some last → R low last.0 ≡ Less
below_at R low [] i last all e = absurd cc
below_at R low (x ∷ es) zero last all e = let same : x ≡ last = cc in rw same at all.0
below_at R low (x ∷ es) (suc i) last all e = below_at R low es i last all.1 e

put_last : {K X : Type 0} (R : K → K → Ordering) → IsTotalOrder R → (es : List (K × X)) (k : K) (v : X) (last : K × X) (i : ℕ)
    → IsStrictlySortedBy R (keys_of es) → slice_get es i ≡ Some last → length es ≡ i + 1 → R k last.0 ≡ Greater
    → insert_entry R es k v ≡ es ++ (k, v) ∷ []
put_last R total [] k v last i h at n e = absurd cc
put_last R total (x ∷ es) k v last zero h at n e = grind (arith, nil_from_length)
put_last R total (x ∷ es) k v last (suc i) h at n e =
    let below : R x.0 last.0 ≡ Less = below_at R x.0 es i last (sorted_head R x.0 (keys_of es) h) at in
    let above : R k x.0 ≡ Greater = (grind (arith, ordering_reverse)) in
    rw (above, (put_last R total es k v last i (sorted_tail R x.0 (keys_of es) h) at (omega arith) e))

-- the last change

entry_at : (changes : List Change) (i : ℕ) (c : Change) → slice_get changes i ≡ Some c → slice_get (by_item changes) i ≡ Some (changed_item c, c.row)
entry_at [] i c e = absurd cc
entry_at (x ∷ changes) zero c e = let same : x ≡ c = cc in ap (λ (y : Change). Some (changed_item y, y.row)) same
entry_at (x ∷ changes) (suc i) c e = entry_at changes i c e

last_there : (x : Change) (changes : List Change)
    → slice_get (x ∷ changes) (length (x ∷ changes) - 1) ≡ Some (get_or (x ∷ changes) (length changes) x)
last_there x changes = grind (arith, slice_get-get_or)

above_last : (changes : List Change) (item : Item) (row : Option Row) → AreAlone changes → to_last_item changes item ≡ Greater
    → insert_entry item_cmp (by_item changes) item row ≡ by_item changes ++ (item, row) ∷ []
above_last [] item row alone e = refl
above_last (x ∷ changes) item row alone e =
    let last : Change = get_or (x ∷ changes) (length changes) x in
    let at = last_there x changes in
    let above = rw at at e in
    let place : length (x ∷ changes) - 1 ≡ length changes = omega arith in
    let many : length (by_item (x ∷ changes)) ≡ length changes + 1 = grind (arith, length-map) in
    put_last item_cmp item_cmp_total (by_item (x ∷ changes)) item row (changed_item last, last.row) (length changes)
    (rw alone at (all_sorted (by_item (x ∷ changes)) [] (sorted_nil item_cmp))) (entry_at (x ∷ changes) (length changes) last (rw place at at)) many above

-- the list with one more change, above the last, is what putting it makes, and still alone
pub put_behind : (changes : List Change) (c : Change) → AreAlone changes → to_last_item changes (changed_item c) ≡ Greater
    → by_item (changes ++ c ∷ []) ≡ insert_entry item_cmp (by_item changes) (changed_item c) c.row
put_behind changes c alone above = (map-append (λ (c : Change). (changed_item c, c.row)) changes (c ∷ [])) ∙ sym (above_last changes (changed_item c) c.row alone above)

pub still_alone : (changes : List Change) (c : Change) → AreAlone changes → to_last_item changes (changed_item c) ≡ Greater
    → AreAlone (changes ++ c ∷ [])
still_alone changes c alone above = grind (arith, map-append, changed_item, fold-append, put, insert_entry, put_behind)

pub ruleset add_steps = (put_behind, still_alone)
