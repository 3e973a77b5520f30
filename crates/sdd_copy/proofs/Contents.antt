-- What the write rule leaves is what the dated changes make of each item.
use Rattle.sdd_copy.proofs.All.{Bool, Change, Dated, Equal, Greater, Items, Less, List, None, Option, Ordering, Some, Value, [], ap, append-nil, append_assoc, arith, cond, contents, entries_in, exact_signed, false, filter_map, fold, fold-append, if◌then◌else◌, insert_entry, insert_key, int_cmp, int_cmp_total, is_at, is_eq, is_newer, items_of, keys_in, latest, lookup, map, match_ordering, nat_lt, nat_tests, newer, of_fragment, ordering_reverse, refl, row_at, row_left, rows_in, rows_left, subst, sym, true, written, ℕ, ℤ, ◌++◌, ◌∙◌, ◌∷◌, ◌≡◌}
use Rattle.sdd_copy.proofs.Members.{same_either}

abbrev Item : Type 0
Item = ℕ × Option (List Value)

-- the order of keys
pub same_key : (a b : ℤ) → int_cmp a b ≡ Equal → a ≡ b
same_key a b e = exact_signed a b e

pub flipped : (a b : ℤ) → int_cmp a b ≡ Greater → int_cmp b a ≡ Less
flipped a b e = int_cmp_total.antisymm b a ∙ ap ordering_reverse e

pub is_own : (a : ℤ) → is_eq (int_cmp a a) ≡ true
is_own a = (grind arith)

-- entries in order
abbrev pub Above : {X : Type 0} → ℤ → List (ℤ × X) → Type 0
Above k [] = Unit {0}
Above k (e ∷ es) = (int_cmp k e.0 ≡ Less) × Above k es

abbrev pub Ascends : {X : Type 0} → List (ℤ × X) → Type 0
Ascends [] = Unit {0}
Ascends (e ∷ es) = Above e.0 es × Ascends es

pub above_all : {X : Type 0} (j k : ℤ) (es : List (ℤ × X)) → int_cmp j k ≡ Less → Above k es → Above j es
above_all j k [] l h = tt
above_all j k (e ∷ es) l h = (int_cmp_total.trans j k e.0 l h.0, above_all j k es l h.1)

above_insert : {X : Type 0} (j k : ℤ) (v : X) (es : List (ℤ × X)) → int_cmp j k ≡ Less → Above j es → Above j (insert_entry int_cmp es k v)
above_insert j k v [] l h = (l, tt)
above_insert j k v (e ∷ es) l h = grind (arith, int_cmp, Above, match_ordering, insert_entry, (above_insert j k v es l h.1))

ascends_insert : {X : Type 0} (k : ℤ) (v : X) (es : List (ℤ × X)) → Ascends es → Ascends (insert_entry int_cmp es k v)
ascends_insert k v [] h = (tt, tt)
ascends_insert k v (e ∷ es) h = grind (arith, int_cmp, Ascends, match_ordering, insert_entry, above_all, above_insert, flipped, (ascends_insert k v es h.1))

abbrev keys : {X : Type 0} → List (ℤ × X) → List ℤ
keys es = map (λ e. e.0) es

keys-insert : {X : Type 0} (k : ℤ) (v : X) (es : List (ℤ × X)) → keys (insert_entry int_cmp es k v) ≡ insert_key int_cmp (keys es) k
keys-insert k v [] = refl
keys-insert k v (e ∷ es) = grind (arith, int_cmp, keys, match_ordering, insert_entry, insert_key, (keys-insert k v es))

pub above_none : {X : Type 0} (k : ℤ) (es : List (ℤ × X)) → Above k es → lookup (is_at (int_cmp k)) es ≡ None
above_none k [] h = refl
above_none k (e ∷ es) h = rw h.0 (above_none k es h.1)

-- a key that is there is not put again
keys_same : {X : Type 0} (k : ℤ) (v : X) (es : List (ℤ × X)) → Ascends es → lookup (is_at (int_cmp k)) es ≡ Some v
    → insert_key int_cmp (keys es) k ≡ keys es
keys_same k v [] h f = cc
keys_same k v (e ∷ es) h f =
    elim (int_cmp k e.0) as
    (λ o. int_cmp k e.0 ≡ o → cond (is_eq o) (Some e.1) (lookup (is_at (int_cmp k)) es) ≡ Some v → match_ordering o (k ∷ e.0 ∷ keys es)
    (e.0 ∷ keys es) (e.0 ∷ insert_key int_cmp (keys es) k) ≡ e.0 ∷ keys es) [
      | Less ↦ λ p q. let none = above_none k es (above_all k e.0 es p h.0) in absurd cc
      | Equal ↦ λ p q. refl
      | Greater ↦ λ p q. ap (λ l. e.0 ∷ l) (keys_same k v es h.1 q)
    ] refl f

pub eq_is : (o : Ordering) → is_eq o ≡ true → o ≡ Equal
eq_is o e = grind arith

lookup-insert : {X : Type 0} (q k : ℤ) (v : X) (es : List (ℤ × X))
    → lookup (is_at (int_cmp q)) (insert_entry int_cmp es k v) ≡ cond (is_eq (int_cmp q k)) (Some v) (lookup (is_at (int_cmp q)) es)
lookup-insert q k v [] = refl
lookup-insert {X} q k v (e ∷ es) = grind (arith, int_cmp, is_at, match_ordering, insert_entry, is_eq, same_key, eq_is, is_own, (lookup-insert q k v es))

-- the latest change, one change more
abbrev later_of : Option (ℕ × Change) → ℕ × Change → Option (ℕ × Change)
later_of None x = Some x
later_of (Some y) x = cond (nat_lt y.0 x.0) (Some x) (Some y)

one_step : (a b : Bool) (y x : ℕ × Change) (o m : Option (ℕ × Change)) → m ≡ (if b then later_of o x else o)
    → (if a then newer y m else m) ≡ (if b then later_of (if a then newer y o else o) x else (if a then newer y o else o))
one_step a b y x o m e = grind (arith, nat_lt, later_of, nat_tests)

latest_more : (k : ℤ) (ys : Dated) (x : ℕ × Change)
    → latest k (ys ++ x ∷ []) ≡ (if is_eq (int_cmp x.1.key k) then later_of (latest k ys) x else latest k ys)
latest_more k [] x = refl
latest_more k (y ∷ ys) x = one_step (is_eq (int_cmp y.1.key k)) (is_eq (int_cmp x.1.key k)) y x (latest k ys) (latest k (ys ++ x ∷ [])) (latest_more k ys x)

-- what a copy keeps of a change
abbrev pub shown : Option (ℕ × Change) → Option Item
shown None = None
shown (Some x) = Some (x.0, x.1.row)

pub record Keeps (ys : Dated) (es : Items) : Type 0 where
  pub ascends : Ascends es
  pub keys_are : keys es ≡ keys_in ys
  pub rows_are : (k : ℤ) → shown (latest k ys) ≡ lookup (is_at (int_cmp k)) es

own_item : (o : Option (ℕ × Change)) (x : ℕ × Change) (m : Option Item) → shown o ≡ m
    → shown (later_of o x) ≡ cond (is_newer x.0 m) (Some (x.0, x.1.row)) m
own_item o x m e = grind (arith, nat_lt)

lookup_written : (k : ℤ) (es : Items) (x : ℕ × Change) (e : Bool) → is_eq (int_cmp k x.1.key) ≡ e
    → lookup (is_at (int_cmp k)) (written es x) ≡ cond (is_newer x.0 (lookup (is_at (int_cmp x.1.key)) es))
    (cond e (Some (x.0, x.1.row)) (lookup (is_at (int_cmp k)) es)) (lookup (is_at (int_cmp k)) es)
lookup_written k es x e q = grind (arith, is_at, int_cmp, insert_entry, lookup-insert)

row_more : (ys : Dated) (es : Items) (x : ℕ × Change) (k : ℤ) (b : Bool) → ((j : ℤ) → shown (latest j ys) ≡ lookup (is_at (int_cmp j)) es)
    → is_eq (int_cmp x.1.key k) ≡ b
    → shown (if b then later_of (latest k ys) x else latest k ys) ≡ lookup (is_at (int_cmp k)) (written es x)
row_more ys es x k true h e = grind (arith, same_key, eq_is, int_cmp, is_at, own_item, lookup_written, is_eq, int_cmp_total, same_either)
row_more ys es x k false h e =
    h k ∙ (grind arith)
    ∙ sym (lookup_written k es x false ((ap is_eq (int_cmp_total.antisymm k x.1.key) ∙ same_either (int_cmp x.1.key k)) ∙ e))

abbrev with_key : List ℤ → ℕ × Change → List ℤ
with_key ks x = insert_key int_cmp ks x.1.key

keeps_more : (ys : Dated) (es : Items) (x : ℕ × Change) → Keeps ys es → Keeps (ys ++ x ∷ []) (written es x)
keeps_more ys es x k = grind (arith, ascends_insert, is_at, int_cmp, keys-insert, keys_same, insert_key, fold-append, with_key, shown, latest_more, row_more, is_eq)

keeps_all : (ys zs : Dated) (es : Items) → Keeps ys es → Keeps (ys ++ zs) (fold written es zs)
keeps_all ys [] es k = subst (λ xs. Keeps xs es) (sym (append-nil ys)) k
keeps_all ys (z ∷ zs) es k = grind (arith, append_assoc, Keeps, keeps_more, (keeps_all (ys ++ z ∷ []) zs (written es z) (keeps_more ys es z k)))

-- each entry is what f says of its key
abbrev AreShown : (ℤ → Option Item) → Items → Type 0
AreShown f [] = Unit {0}
AreShown f (e ∷ es) = (f e.0 ≡ Some e.1) × AreShown f es

shown_above : (f : ℤ → Option Item) (b : ℤ) (es : Items) → Above b es → Ascends es
    → ((k : ℤ) → int_cmp b k ≡ Less → f k ≡ lookup (is_at (int_cmp k)) es) → AreShown f es
shown_above f b [] a s h = tt
shown_above f b (e ∷ es) a s h = grind (arith, is_at, int_cmp, is_own, is_eq, ordering_reverse, int_cmp_total, (shown_above f e.0 es s.0 s.1 (λ k l. ((h k (int_cmp_total.trans b e.0 k a.0 l)) ∙ ap (λ o. cond (is_eq o) (Some e.1) (lookup (is_at (int_cmp k)) es)) (int_cmp_total.antisymm k e.0 ∙ ap ordering_reverse l)))))

shown_all : (f : ℤ → Option Item) (es : Items) → Ascends es → ((k : ℤ) → f k ≡ lookup (is_at (int_cmp k)) es) → AreShown f es
shown_all f [] s h = tt
shown_all f (e ∷ es) s h = (((h e.0) ∙ ap (λ b. cond b (Some e.1) (lookup (is_at (int_cmp e.0)) es)) (is_own e.0)), shown_above f e.0 es s.0 s.1 (λ k l. ((h k) ∙ ap (λ o. cond (is_eq o) (Some e.1) (lookup (is_at (int_cmp k)) es)) (int_cmp_total.antisymm k e.0 ∙ ap ordering_reverse l))))

left_one : (k : ℤ) (item : Item) (o : Option (ℕ × Change)) → shown o ≡ Some item → row_at k item.1 ≡ row_left k o
left_one k item o e = grind arith

left_all : (ys : Dated) (es : Items) → AreShown (λ k. shown (latest k ys)) es → entries_in es ≡ filter_map (λ k. row_left k (latest k ys)) (keys es)
left_all ys [] h = refl
left_all ys (e ∷ es) h = rw (left_one e.0 e.1 (latest e.0 ys) h.0, left_all ys es h.1) refl

pub items_keep : (mine : Dated) → Keeps mine (items_of mine)
items_keep mine = keeps_all [] mine [] (record { ascends = tt; keys_are = refl; rows_are = λ j. refl })

pub contents_are : (mine : Dated) → entries_in (items_of mine) ≡ rows_left mine
contents_are mine = grind (arith, left_all, shown_all, shown, items_keep, filter_map)

pub items_tell : (f : ℕ) (xs : Dated) → entries_in (items_of (of_fragment f xs)) ≡ contents f xs
items_tell f xs = contents_are (of_fragment f xs)

pub rows_are_left : (es : Items) (xs : Dated) (rows : List (List Value)) → rows ≡ rows_in es → es ≡ items_of xs → rows ≡ map (λ e. e.1) (rows_left xs)
rows_are_left es xs rows rows_is is = rows_is ∙ ap rows_in is ∙ ap (map (λ e. e.1)) (contents_are xs)
