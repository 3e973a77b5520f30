-- Lists of uses, statement by statement.
use Rattle.sdd_lang.proofs.All.{All, Catalogue, Condition, FitsStatement, List, RelNo, Stmt, Use, [], ap, append_assoc, arith, at_drop_more, cons_option, drop, false, filter_map-append, get_or, is_some, length, length-append, part_uses, refl, restriction_of, restrictions_of, statement_uses, subst, suc, sym, take, take_more, true, uses_from, ℕ, ◌*◌, ◌++◌, ◌+◌, ◌<◌, ◌∙◌, ◌∷◌, ◌≡◌, ◌≤◌}

pub length-part_uses : (cat : Catalogue) (before : ℕ) (conds : List Condition) (part : ℕ) (rels : List RelNo)
    → length (part_uses cat before conds part rels) ≡ length rels
length-part_uses cat before conds part [] = refl
length-part_uses cat before conds part (rel ∷ rels) = ap suc (length-part_uses cat before conds (part + 1) rels)

-- a statement that fits has six uses at most
pub few_uses : (cat : Catalogue) (before : ℕ) (s : Stmt) → FitsStatement cat s → length (statement_uses cat before s) ≤ 6
few_uses cat before s fits = grind (arith, length-part_uses)

-- what is known of the uses of the first statements
pub record AreUsesSoFar (cat : Catalogue) (statements : List Stmt) (i : ℕ) (uses : List Use) : Type 0 where
  pub few : length uses ≤ 6 * i
  pub uses_are : uses ++ uses_from cat (length uses) (drop i statements) ≡ uses_from cat 0 statements

pub uses_more : (cat : Catalogue) (statements : List Stmt) (i : ℕ) (s : Stmt) (xs ys : List Use) → All (FitsStatement cat) statements
    → i < length statements → s ≡ get_or statements i s
    → AreUsesSoFar cat statements i xs → ys ≡ xs ++ statement_uses cat (length xs) s → AreUsesSoFar cat statements (i + 1) ys
uses_more cat statements i s xs ys fits within is so more =
    let short = few_uses cat (length xs) s (subst (FitsStatement cat) (sym is) (fits i s within)) in
    let long : length ys ≡ length xs + length (statement_uses cat (length xs) s) = ap length more ∙ length-append xs (statement_uses cat (length xs) s) in
    let rest = at_drop_more (uses_from cat (length xs)) statements i s within ∙ ap (λ z. uses_from cat (length xs) (z ∷ drop (i + 1) statements)) (sym is) in
    record { few = omega (arith, so.few, short); uses_are = rw (long, more, append_assoc xs) (ap (λ zs. xs ++ zs) (sym rest) ∙ so.uses_are) }

restrictions_more : (part : ℕ) (conds : List Condition) (i : ℕ) (c : Condition) → i < length conds → c ≡ get_or conds i c
    → length (restrictions_of part (take (i + 1) conds)) ≡ length (restrictions_of part (take i conds)) + length (cons_option (restriction_of part c) [])
restrictions_more part conds i c within is = rw (take_more conds i c within, ← is) (simp (filter_map-append, length-append))

-- a condition that is a restriction is one more, and another one isn't
pub one_counted : (part : ℕ) (conds : List Condition) (i : ℕ) (c : Condition) (n : ℕ) → i < length conds → c ≡ get_or conds i c
    → true ≡ is_some (restriction_of part c)
    → n ≡ length (restrictions_of part (take i conds)) → n + 1 ≡ length (restrictions_of part (take (i + 1) conds))
one_counted part conds i c n within is some so =
    let one : length (cons_option (restriction_of part c) []) ≡ 1 = grind arith in
    omega (arith, restrictions_more part conds i c within is, one)

pub none_counted : (part : ℕ) (conds : List Condition) (i : ℕ) (c : Condition) (n : ℕ) → i < length conds → c ≡ get_or conds i c
    → false ≡ is_some (restriction_of part c)
    → n ≡ length (restrictions_of part (take i conds)) → n ≡ length (restrictions_of part (take (i + 1) conds))
none_counted part conds i c n within is none so =
    let none_more : length (cons_option (restriction_of part c) []) ≡ 0 = grind arith in
    omega (arith, restrictions_more part conds i c within is, none_more)
