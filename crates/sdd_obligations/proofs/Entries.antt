-- What copies hold are entries of a database, where the changes that make them are changes of items.
use Rattle.sdd_obligations.proofs.All.{AllByRecursion, Catalogue, Change, Database, Dated, IsDatabase, IsEntry, IsItemChange, IsSoundCatalogue, Item, List, None, Option, Row, Some, [], all_joined, arith, cons_option, entry_placed, eq_is, false, filter_map, first_row, flat_map, fold, fragment_at, if◌then◌else◌, int_cmp, is_eq, items_of, keys_in, latest, map, nat_lt, newer, no_database, of_fragment, recursion_from_All, refl, row_left, row_with, same_key, true, with_item, with_row_stays, ℕ, ℤ, ◌∷◌, ◌≡◌}

-- each dated change is of an item
abbrev pub AreItems : Catalogue → Dated → Type 0
AreItems cat xs = AllByRecursion (λ (x : ℕ × Change). IsItemChange cat x.1) xs

pub all_gathered : {A B : Type 0} (P : B → Type 0) (f : A → List B) (xs : List A) → ((x : A) → AllByRecursion P (f x)) → AllByRecursion P (flat_map f xs)
all_gathered P f [] h = tt
all_gathered P f (x ∷ xs) h = all_joined P (f x) (flat_map f xs) (h x) (all_gathered P f xs h)

-- the change that stands at a key is one of the changes, and of that key
abbrev IsChangeOf : Catalogue → ℕ → ℤ → ℕ × Change → Type 0
IsChangeOf cat f k x = IsItemChange cat x.1 × (x.1.frag.0 ≡ f) × (x.1.key ≡ k)

abbrev IsOf : Catalogue → ℕ → ℕ × Change → Type 0
IsOf cat f x = IsItemChange cat x.1 × (x.1.frag.0 ≡ f)

one_of_two : (P : ℕ × Change → Type 0) (y : ℕ × Change) (o : Option (ℕ × Change)) (x : ℕ × Change) → P y
    → ((z : ℕ × Change) → o ≡ Some z → P z) → newer y o ≡ Some x → P x
one_of_two P y o x here rest e = grind (arith, nat_lt)

latest_is_of : (cat : Catalogue) (f : ℕ) (k : ℤ) (xs : Dated) → AllByRecursion (IsOf cat f) xs → (x : ℕ × Change) → latest k xs ≡ Some x → IsChangeOf cat f k x
latest_is_of cat f k [] all x e = cc
latest_is_of cat f k (y ∷ ys) all x e =
    elim (is_eq (int_cmp y.1.key k)) as (λ b. is_eq (int_cmp y.1.key k) ≡ b → (if b then newer y (latest k ys) else latest k ys) ≡ Some x → IsChangeOf cat f k x) [
      | true ↦ λ own q.
          let same : y.1.key ≡ k = same_key y.1.key k (eq_is (int_cmp y.1.key k) own) in
          one_of_two (IsChangeOf cat f k) y (latest k ys) x (all.0.0, all.0.1, same) (λ z p. latest_is_of cat f k ys all.1 z p) q
      | false ↦ λ own q. latest_is_of cat f k ys all.1 x q
    ] refl e

-- the changes of a fragment
kept_of : (cat : Catalogue) (f : ℕ) (xs : Dated) → AreItems cat xs → AllByRecursion (IsOf cat f) (of_fragment f xs)
kept_of cat f [] all = tt
kept_of cat f (x ∷ xs) all = grind (arith, IsOf, (kept_of cat f xs all.1))

-- the row that such a change leaves, at its item
abbrev entry_at : Catalogue → ℕ → ℤ × Row → Item × Row
entry_at cat f e = (((fragment_at cat f).rel.0, e.0), e.1)

row_is_entry : (cat : Catalogue) → IsSoundCatalogue cat → (f : ℕ) (k : ℤ) (x : ℕ × Change) (row : Row)
    → IsChangeOf cat f k x → x.1.row ≡ Some row → IsEntry cat (entry_at cat f (k, row))
row_is_entry cat sound f k x row change e = grind (arith, entry_placed)

one_more : (cat : Catalogue) → IsSoundCatalogue cat → (f : ℕ) (k : ℤ) (o : Option (ℕ × Change))
    (rest : List (ℤ × Row)) → ((x : ℕ × Change) → o ≡ Some x → IsChangeOf cat f k x)
    → AllByRecursion (IsEntry cat) (map (entry_at cat f) rest) → AllByRecursion (IsEntry cat) (map (entry_at cat f) (cons_option (row_left k o) rest))
one_more cat sound f k None rest h all = all
one_more cat sound f k (Some x) rest h all =
    elim x.1.row as (λ r. x.1.row ≡ r → AllByRecursion (IsEntry cat) (map (entry_at cat f) (cons_option (row_with k r) rest))) [
      | None ↦ λ e. all
      | Some row ↦ λ e. (row_is_entry cat sound f k x row (h x refl) e, all)
    ] refl

left_entries : (cat : Catalogue) → IsSoundCatalogue cat → (f : ℕ) (ys : Dated) → AllByRecursion (IsOf cat f) ys
    → (ks : List ℤ) → AllByRecursion (IsEntry cat)
    (map (entry_at cat f) (filter_map (λ k. row_left k (latest k ys)) ks))
left_entries cat sound f ys of [] = tt
left_entries cat sound f ys of (k ∷ ks) =
    one_more cat sound f k (latest k ys) (filter_map (λ k. row_left k (latest k ys)) ks) (latest_is_of cat f k ys of) (left_entries cat sound f ys of ks)

pub items_are_entries : (cat : Catalogue) → IsSoundCatalogue cat → (xs : Dated) → AreItems cat xs → (f : ℕ) → AllByRecursion (IsEntry cat) (items_of cat xs f)
items_are_entries cat sound xs all f = left_entries cat sound f (of_fragment f xs) (kept_of cat f xs all) (keys_in (of_fragment f xs))

-- entries make a database
pub entries_make : (cat : Catalogue) (db : Database) (es : List (Item × Row)) → IsDatabase cat db
    → AllByRecursion (IsEntry cat) es → IsDatabase cat (fold with_item db es)
entries_make cat db [] is all = is
entries_make cat db (e ∷ es) is all = entries_make cat (with_item db e) es (with_row_stays cat db e.0 e.1 is all.0) all.1

pub entries_make_one : (cat : Catalogue) (es : List (Item × Row)) → AllByRecursion (IsEntry cat) es → IsDatabase cat (fold with_item [] es)
entries_make_one cat es all = entries_make cat [] es (no_database cat) all

-- the rows of a database are changes of items
entries_are_items : (cat : Catalogue) (db : Database) → AllByRecursion (IsEntry cat) db → AreItems cat (map (first_row cat) db)
entries_are_items cat [] all = tt
entries_are_items cat (e ∷ es) all = grind (arith, (entries_are_items cat es all.1))

pub first_are_items : (cat : Catalogue) (db : Database) → IsDatabase cat db → AreItems cat (map (first_row cat) db)
first_are_items cat db is = entries_are_items cat db (recursion_from_All (IsEntry cat) db is.entries)
