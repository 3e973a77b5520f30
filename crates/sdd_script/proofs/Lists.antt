-- Conditions and assignments that were written, one more.
use Rattle.sdd_script.proofs.All.{Assign, Catalogue, Condition, List, Plain, RelNo, add-one, append-nil, append_assoc, arith, assign_words, codes, condition_words, conditions_words, drop, drop-cons, drop_all, get_or, item_written, items_written, length, more_bytes, more_bytes-append, sets_words, spaced, ℕ, ◌++◌, ◌+◌, ◌<◌, ◌≡◌, ◌≤◌}

pub condition_more : (key : List ℕ) (cat : Catalogue) (rels : List RelNo) (conds : List Condition)
    (c : Condition) (out total : List ℕ) (i : ℕ) → i < length conds → c ≡ get_or conds i c
    → out ++ more_bytes (conditions_words key cat rels (drop i conds)) ≡ total
    → (out ++ (spaced (Plain key) ++ more_bytes (condition_words cat rels c))) ++ more_bytes
    (conditions_words (codes "and") cat rels (drop (i + 1) conds)) ≡ total
condition_more key cat rels conds c out total i lt is e = grind (arith, drop-cons, add-one, more_bytes-append, append_assoc)

pub conditions_written : (key : List ℕ) (cat : Catalogue) (rels : List RelNo) (conds : List Condition) (out total : List ℕ) (i : ℕ) → length conds ≤ i
    → out ++ more_bytes (conditions_words key cat rels (drop i conds)) ≡ total → out ≡ total
conditions_written key cat rels conds out total i past e = cc (append-nil out, drop_all i conds past, e)

pub assign_more : (cat : Catalogue) (rel : RelNo) (sets : List Assign) (a : Assign) (out total : List ℕ) (i : ℕ) → i < length sets
    → a ≡ get_or sets i a
    → out ++ more_bytes (sets_words cat rel (drop i sets)) ≡ total
    → (out ++ more_bytes (assign_words cat rel a)) ++ more_bytes
    (sets_words cat rel (drop (i + 1) sets)) ≡ total
assign_more cat rel sets a out total i lt is e = grind (arith, drop-cons, add-one, more_bytes-append, append_assoc)

pub assigns_written : (cat : Catalogue) (rel : RelNo) (sets : List Assign) (out total : List ℕ) (i : ℕ) → length sets ≤ i
    → out ++ more_bytes (sets_words cat rel (drop i sets)) ≡ total → out ≡ total
assigns_written cat rel sets out total i past e = cc (append-nil out, drop_all i sets past, e)

pub ruleset written = (item_written, items_written)
