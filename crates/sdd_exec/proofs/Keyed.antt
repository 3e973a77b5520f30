-- Rows put one by one by their keys: a key above the last goes after it.
use Rattle.sdd_exec.proofs.All.{AllByRecursion, Entry, Greater, IsStrictlySortedBy, Less, List, Row, Some, [], arith, by_keys, entries_of, fold, fold-append, insert_entry, inserted_sorted, int_cmp, int_cmp_total, keyed_rows, keys_of, length, map-append, nil_from_length, of_relation, ordering_reverse, refl, slice_get, slice_get-get_or, slice_index_or as get_or, sorted_head, sorted_nil, sorted_tail, suc, to_last_key, zero, ℕ, ℤ, ◌++◌, ◌+◌, ◌-◌, ◌∷◌, ◌≡◌}

pub entries_are : (rel : ℕ) (entries : List Entry) → entries_of rel entries ≡ of_relation rel (keyed_rows entries)
entries_are rel [] = refl
entries_are rel (e ∷ entries) = rw (entries_are rel entries)

abbrev put : List (ℤ × Row) → ℤ × Row → List (ℤ × Row)
put kept r = insert_entry int_cmp kept r.0 r.1

abbrev Ascends : List (ℤ × Row) → Type 0
Ascends rows = IsStrictlySortedBy int_cmp (keys_of rows)

-- putting the entries one by one gives these entries
abbrev AreAlone : List Entry → Type 0
AreAlone entries = by_keys (keyed_rows entries) ≡ keyed_rows entries

all_sorted : (rows kept : List (ℤ × Row)) → Ascends kept → Ascends (fold put kept rows)
all_sorted [] kept h = h
all_sorted (r ∷ rows) kept h = all_sorted rows (put kept r) (inserted_sorted int_cmp int_cmp_total kept r.0 r.1 h)

-- so they ascend
sorted_alone : (entries : List Entry) → AreAlone entries → Ascends (keyed_rows entries)
sorted_alone entries e = grind (arith, Ascends, all_sorted, sorted_nil, int_cmp)

below_at : (low : ℤ) (entries : List Entry) (i : ℕ) (last : Entry)
    → AllByRecursion (λ y. int_cmp low y ≡ Less) (keys_of (keyed_rows entries)) → slice_get entries i ≡ Some last → int_cmp low last.key ≡ Less
below_at low [] i last all e = absurd cc
below_at low (x ∷ entries) zero last all e = let same : x ≡ last = cc in rw same at all.0
below_at low (x ∷ entries) (suc i) last all e = below_at low entries i last all.1 e

put_last : (entries : List Entry) (k : ℤ) (v : Row) (last : Entry) (i : ℕ) → Ascends (keyed_rows entries)
    → slice_get entries i ≡ Some last → length entries ≡ i + 1 → int_cmp k last.key ≡ Greater
    → insert_entry int_cmp (keyed_rows entries) k v ≡ keyed_rows entries ++ (k, v) ∷ []
put_last [] k v last i h at n e = absurd cc
put_last (x ∷ entries) k v last zero h at n e = grind (arith, nil_from_length, int_cmp)
put_last (x ∷ entries) k v last (suc i) h at n e =
    let keys : List ℤ = keys_of (keyed_rows entries) in
    let rest : insert_entry int_cmp (keyed_rows entries) k v ≡ keyed_rows entries ++ (k, v) ∷ [] =
    put_last entries k v last i (sorted_tail int_cmp x.key keys h) at (omega arith) e in
    let below : int_cmp x.key last.key ≡ Less = below_at x.key entries i last (sorted_head int_cmp x.key keys h) at in
    let above : int_cmp k x.key ≡ Greater = (grind (arith, int_cmp, int_cmp_total, ordering_reverse)) in
    rw (above, rest)

last_there : (x : Entry) (entries : List Entry)
    → slice_get (x ∷ entries) (length (x ∷ entries) - 1) ≡ Some (get_or (x ∷ entries) (length entries) x)
last_there x entries = grind (arith, slice_get-get_or)

above_last_key : (entries : List Entry) (k : ℤ) (v : Row) → AreAlone entries → to_last_key entries k ≡ Greater
    → insert_entry int_cmp (keyed_rows entries) k v ≡ keyed_rows entries ++ (k, v) ∷ []
above_last_key [] k v alone e = refl
above_last_key (x ∷ entries) k v alone e =
    let at = last_there x entries in
    let place : length (x ∷ entries) - 1 ≡ length entries = omega arith in
    put_last (x ∷ entries) k v _ (length entries) (sorted_alone (x ∷ entries) alone) (rw place at at) (omega arith) (rw at at e)

pushed : (entries : List Entry) (e : Entry) → keyed_rows (entries ++ e ∷ []) ≡ keyed_rows entries ++ (e.key, e.row) ∷ []
pushed entries e = map-append (λ (e : Entry). (e.key, e.row)) entries (e ∷ [])

-- the list with one more entry, above the last, is what putting it makes, and still alone
pub put_behind : (entries : List Entry) (e : Entry) → AreAlone entries → to_last_key entries e.key ≡ Greater
    → keyed_rows (entries ++ e ∷ []) ≡ insert_entry int_cmp (keyed_rows entries) e.key e.row
put_behind entries e alone above = rw (pushed entries e, above_last_key entries e.key e.row alone above)

pub still_alone_keys : (entries : List Entry) (e : Entry) → AreAlone entries → to_last_key entries e.key ≡ Greater
    → AreAlone (entries ++ e ∷ [])
still_alone_keys entries e alone above = grind (arith, pushed, fold-append, put, insert_entry, int_cmp, put_behind)

pub ruleset put_steps = (put_behind, still_alone_keys)
