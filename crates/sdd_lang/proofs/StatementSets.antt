-- The fragments that a transaction touches, statement by statement.
use Rattle.sdd_lang.proofs.All.{Bool, Catalogue, Condition, FragNo, Interval, List, RelNo, Relation, Stmt, Txn, [], allowed_keys, ap, arith, ascending, at_drop_more, drop, false, filter, filter-append, filter_map-append, flat_map, flat_map-append, fold-append, frag_no, fragments_in, get_or, has, insert_key, key_column, keys_left, length, map, meets_keys, members, nat_cmp, numbers_to, part_uses, put_all, read_set, refl, relation_at, restrictions_of, statement_uses, sym, take, take_all, take_more, true, uses_from, ℕ, ◌+◌, ◌-◌, ◌<◌, ◌∙◌, ◌∷◌, ◌≡◌, ◌≤◌}
use Rattle.sdd_lang.proofs.Numbering.{numbers_more}

-- one number more is looked at: it is put where it passes
pub one_put : (p : ℕ → Bool) (n : ℕ) (ks xs ys : List ℕ) → 1 ≤ n → true ≡ p n → xs ≡ put_all ks (filter p (numbers_to (n - 1)))
    → ys ≡ insert_key nat_cmp xs n → ys ≡ put_all ks (filter p (numbers_to (n + 1 - 1)))
one_put p n ks xs ys from passes so more = grind (arith, insert_key, nat_cmp, fold-append, numbers_more, filter-append)

pub none_put : (p : ℕ → Bool) (n : ℕ) (ks xs ys : List ℕ) → 1 ≤ n → false ≡ p n → xs ≡ put_all ks (filter p (numbers_to (n - 1)))
    → ys ≡ xs → ys ≡ put_all ks (filter p (numbers_to (n + 1 - 1)))
none_put p n ks xs ys from fails so same = grind (arith, fold-append, insert_key, nat_cmp, numbers_more, filter-append)

pub numbers_back : (ns : List ℕ) → map (λ (f : FragNo). f.0) (map frag_no ns) ≡ ns
numbers_back [] = refl
numbers_back (n ∷ ns) = ap (λ ks. n ∷ ks) (numbers_back ns)

-- the list of the members, where the numbers to the last fragment were looked at
pub listed_numbers : (cat : Catalogue) (flags : List Bool) (n : ℕ) (fs : List FragNo) → n - 1 ≡ length cat.fragments
    → fs ≡ map frag_no (filter (has flags) (numbers_to (n - 1))) → map (λ (f : FragNo). f.0) fs ≡ members cat flags
listed_numbers cat flags n fs end is = simp (is, numbers_back, end)

-- the fragments of a part, as numbers
abbrev pub part_numbers : Catalogue → ℕ → ℕ → List Condition → List ℕ
part_numbers cat rel part conds =
    filter (meets_keys cat rel (allowed_keys (key_column cat rel) (restrictions_of part conds))) (numbers_to (length cat.fragments))

-- the fragments of the first part, and then those of the others
pub one_part : (cat : Catalogue) (ks : List ℕ) (conds : List Condition) (part : ℕ) (rel : RelNo) (rels : List RelNo)
    → put_all ks (fragments_in (part_uses cat 0 conds part (rel ∷ rels))) ≡ put_all (put_all ks (part_numbers cat rel.0 part conds))
    (fragments_in (part_uses cat 0 conds (part + 1) rels))
one_part cat ks conds part rel rels = simp (numbers_back, fold-append)

-- the fragments of a part are put, where its keys are those that the conditions allow
pub part_put : (cat : Catalogue) (ks xs : List ℕ) (part : ℕ) (conds : List Condition) (rel : RelNo) (rels : List RelNo) (r : Relation) (keys : Interval)
    → r ≡ relation_at cat rel.0 → keys ≡ allowed_keys r.key (restrictions_of part conds)
    → xs ≡ put_all ks (filter (meets_keys cat rel.0 keys) (numbers_to (length cat.fragments)))
    → put_all xs (fragments_in (part_uses cat 0 conds (part + 1) rels)) ≡ put_all ks (fragments_in (part_uses cat 0 conds part (rel ∷ rels)))
part_put cat ks xs part conds rel rels r keys is allowed put = simp (put, allowed, is, one_part)

-- with the fragments of one part more, those that are left complete them as before
pub part_more : (cat : Catalogue) (ks xs ys : List ℕ) (part : ℕ) (conds : List Condition) (rels : List RelNo) (i : ℕ) (d : RelNo) (r : Relation) (keys : Interval)
    → i < length rels → r ≡ relation_at cat (get_or rels i d).0 → keys ≡ allowed_keys r.key (restrictions_of part conds)
    → ys ≡ put_all xs (filter (meets_keys cat (get_or rels i d).0 keys) (numbers_to (length cat.fragments)))
    → put_all xs (fragments_in (part_uses cat 0 conds part (drop i rels))) ≡ ks
    → put_all ys (fragments_in (part_uses cat 0 conds (part + 1) (drop (i + 1) rels))) ≡ ks
part_more cat ks xs ys part conds rels i d r keys within is allowed put so =
    part_put cat xs ys part conds (get_or rels i d) (drop (i + 1) rels) r keys is allowed put
    ∙ sym (at_drop_more (λ zs. put_all xs (fragments_in (part_uses cat 0 conds part zs))) rels i d within) ∙ so

-- the numbers of uses don't tell what they read
parts_alike : (cat : Catalogue) (before : ℕ) (conds : List Condition) (part : ℕ) (rels : List RelNo)
    → fragments_in (part_uses cat before conds part rels) ≡ fragments_in (part_uses cat 0 conds part rels)
parts_alike cat before conds part [] = refl
parts_alike cat before conds part (rel ∷ rels) = grind (arith, part_numbers, (parts_alike cat before conds (part + 1) rels))

-- the fragments that a statement reads
abbrev pub read_by : Catalogue → Stmt → List ℕ
read_by cat s = fragments_in (statement_uses cat 0 s)

read_from : (cat : Catalogue) (before : ℕ) (statements : List Stmt) → fragments_in (uses_from cat before statements) ≡ flat_map (read_by cat) statements
read_from cat before [] = refl
read_from cat before (s ∷ rest) = grind (arith, flat_map-append, parts_alike, read_by, (read_from cat (before + length (statement_uses cat before s)) rest))

-- what all statements read, the transaction reads
pub all_read : (cat : Catalogue) (txn : Txn) (i : ℕ) (xs : List ℕ) → length txn.statements ≤ i
    → xs ≡ ascending (flat_map (read_by cat) (take i txn.statements)) → xs ≡ read_set cat txn
all_read cat txn i xs past so = simp (so, take_all, read_from)

-- the keys that one condition more leaves
pub keys_more : (key part : ℕ) (conds : List Condition) (i : ℕ) (c : Condition) → i < length conds → c ≡ get_or conds i c
    → allowed_keys key (restrictions_of part (take (i + 1) conds)) ≡ keys_left key (allowed_keys key (restrictions_of part (take i conds))) (restrictions_of part (c ∷ []))
keys_more key part conds i c within is = rw (take_more conds i c within, ← is) (simp (filter_map-append, fold-append))
