-- The uses of a transaction are few, and its conditions are those of its fragments.
use Rattle.sdd_running.proofs.All.{All, All-head, All-tail, Bool, Catalogue, Condition, Delete, FitsStatement, FitsTxn, FragNo, IsClassOf, IsSmallStatement, IsSmallText, IsWhole, List, Put, Query, RelNo, Restriction, Stmt, Txn, Update, Use, [], ap, arith, ascending, conditions, conditions_at, false, few_filtered, few_picked, filter_map, flat_map-append, fold, frag_no, fragments_for, fragments_in, if◌then◌else◌, insert_key, inserted_few, length, length-append, length-range_with_len, map, modules_of, nat_cmp, nat_tests, numbers_to, part_uses, reads_at, refl, restrictions_of, statement_uses, suc, uses_from, uses_of, ℕ, ◌*◌, ◌+◌, ◌==◌, ◌∷◌, ◌≡◌, ◌≤◌}
use Rattle.sdd_module.specs.protocol.declared.entry.Entry as line

-- conditions, as the catalogue's fragments ask for them

frags_back : (fs : List FragNo) → map frag_no (map (λ (f : FragNo). f.0) fs) ≡ fs
frags_back [] = refl
frags_back (f ∷ fs) = ap (λ l. f ∷ l) (frags_back fs)

not_zero : (c : ℕ) → 1 ≤ c → (c == 0) ≡ false
not_zero c some = grind (arith, nat_tests)

pub declared_at : (cat : Catalogue) (table : List line.Entry) (c : ℕ) (frags : List ℕ) (fs : List FragNo) (own p2 d : ℕ) → IsClassOf cat c
    → map (λ (f : FragNo). f.0) fs ≡ frags → conditions cat table c d fs own p2 ≡ conditions_at cat table c frags own p2 d
declared_at cat table c frags fs own p2 d class e = grind (arith, conditions, frags_back, not_zero)

-- uses and fragments are few

pub same_length : {A B : Type 0} (f : A → B) (xs : List A) → length (map f xs) ≡ length xs
same_length f [] = refl
same_length f (x ∷ xs) = ap suc (same_length f xs)

few_for : (cat : Catalogue) (rel : ℕ) (restrictions : List Restriction) → length (fragments_for cat rel restrictions) ≤ length cat.fragments
few_for cat rel restrictions = grind (arith, same_length, few_filtered, length-range_with_len)

few_in_parts : (cat : Catalogue) (before : ℕ) (conds : List Condition) (part : ℕ) (rels : List RelNo) → length cat.fragments ≤ 256
    → length (fragments_in (part_uses cat before conds part rels)) ≤ 256 * length rels
few_in_parts cat before conds part [] small = omega arith
few_in_parts cat before conds part (rel ∷ rels) small =
    let frags : List FragNo = fragments_for cat rel.0 (restrictions_of part conds) in
    omega (
      arith,
      small,
      length-append (map (λ (f : FragNo). f.0) frags) (fragments_in (part_uses cat before conds (part + 1) rels)),
      same_length
          (λ (f : FragNo). f.0) frags,
      few_for cat rel.0 (restrictions_of part conds),
      few_in_parts cat before conds (part + 1) rels small,
    )

few_in_statement : (cat : Catalogue) (before : ℕ) (s : Stmt) → length cat.fragments ≤ 256 → IsSmallStatement s
    → length (fragments_in (statement_uses cat before s)) ≤ 1536
few_in_statement cat before (Put rel row) small few = omega arith
few_in_statement cat before (Query out rels conds) small few = omega (arith, few_in_parts cat before conds 1 rels small, few.0)
few_in_statement cat before (Update rel sets conds) small few = omega (arith, few_in_parts cat before conds 1 (rel ∷ []) small)
few_in_statement cat before (Delete rel conds) small few = omega (arith, few_in_parts cat before conds 1 (rel ∷ []) small)

few_in_statements : (cat : Catalogue) (before : ℕ) (sts : List Stmt) → length cat.fragments ≤ 256 → All IsSmallStatement sts
    → length (fragments_in (uses_from cat before sts)) ≤ 1536 * length sts
few_in_statements cat before [] small all = omega arith
few_in_statements cat before (s ∷ rest) small all =
    let here : List Use = statement_uses cat before s in
    let more : List Use = uses_from cat (before + length here) rest in
    omega (
      arith,
      few_in_statement cat before s small (All-head IsSmallStatement s rest all),
      few_in_statements cat (before + length here) rest small (All-tail IsSmallStatement s rest all),
      ap length (flat_map-append (λ (u : Use). map (λ (f : FragNo). f.0) u.frags) here more),
      length-append (fragments_in here) (fragments_in more),
    )

all_few : (ks ns : List ℕ) → length (fold (λ ks k. insert_key nat_cmp ks k) ks ns) ≤ length ks + length ns
all_few ks [] = omega arith
all_few ks (n ∷ ns) = omega (arith, all_few (insert_key nat_cmp ks n) ns, inserted_few nat_cmp ks n)

few_modules_by : (cat : Catalogue) (c : ℕ) (undeclared : Bool) (frags : List ℕ) → cat.dms ≤ 16 → length frags ≤ 65536
    → length (if undeclared then numbers_to cat.dms else ascending (filter_map (reads_at cat c) frags)) ≤ 65536
few_modules_by cat c undeclared frags low few = grind (arith, length-range_with_len, all_few, few_picked)

-- a transaction that fits is small

small_statement : (cat : Catalogue) (s : Stmt) → FitsStatement cat s → IsSmallStatement s
small_statement cat s fits = grind arith

pub small_text : (cat : Catalogue) (txn : Txn) → FitsTxn cat txn → IsSmallText txn
small_text cat txn fits = grind (arith, small_statement)

pub few_modules : (cat : Catalogue) (c : ℕ) (txn : Txn) → IsWhole cat → IsSmallText txn
    → length (modules_of cat c (ascending (fragments_in (uses_of cat txn)))) ≤ 65536
few_modules cat c txn whole small = grind (arith, few_modules_by, ascending, all_few, few_in_statements)
