-- The conditions of a READ ascend by class, and what ascends does so at each step.
use Rattle.sdd_obligations.proofs.All.{AllGt, Ascend, Catalogue, Cond, FragNo, IsStrict, List, None, Option, Some, [], arith, cond_of, condition_class, condition_on, conditions, conditions_at, cons_option, filter_map, frag_no, fragments_of, if_way, is_asked, length, map, range_with_len, refl, suc, undeclared_conditions, zero, ℕ, ◌+◌, ◌<◌, ◌==◌, ◌∷◌, ◌≡◌}
use Rattle.sdd_invariants.specs.protocol.declared.entry.Entry as line

-- conditions made for ascending classes

abbrev classes_in : List Cond → List ℕ
classes_in conds = map (λ (d : Cond). d.class.0) conds

made_above : (f : ℕ → Option Cond) (k a n : ℕ) → ((j : ℕ) (q : Cond) → f j ≡ Some q → q.class.0 ≡ j) → k < a
    → AllGt k (classes_in (filter_map f (range_with_len a n)))
made_above f k a zero g l = tt
made_above f k a (suc n) g l = grind (arith, (made_above f k (a + 1) n g (omega (arith, l))))

made_strict : (f : ℕ → Option Cond) (a n : ℕ) → ((j : ℕ) (q : Cond) → f j ≡ Some q → q.class.0 ≡ j) → IsStrict (classes_in (filter_map f (range_with_len a n)))
made_strict f a zero g = tt
made_strict f a (suc n) g =
    let i = made_strict f (a + 1) n g in
    elim (f a) as (λ o. f a ≡ o → IsStrict (classes_in (cons_option o (filter_map f (range_with_len (a + 1) n))))) [
      | None ↦ λ e. i
      | Some q ↦ λ e. (made_above f q.class.0 (a + 1) n g (let c = g a q e in omega (arith, c)), i)
    ] refl

every_above : (own : ℕ) (fs : List FragNo) (k a n : ℕ) → k < a → AllGt k (classes_in (map (λ c. cond_of c own fs) (range_with_len a n)))
every_above own fs k a zero l = tt
every_above own fs k a (suc n) l = (l, every_above own fs k (a + 1) n (omega (arith, l)))

every_strict : (own : ℕ) (fs : List FragNo) (a n : ℕ) → IsStrict (classes_in (map (λ c. cond_of c own fs) (range_with_len a n)))
every_strict own fs a zero = tt
every_strict own fs a (suc n) = (every_above own fs a (a + 1) n (omega arith), every_strict own fs (a + 1) n)

pub conditions_strict : (cat : Catalogue) (table : List line.Entry) (c : ℕ) (frags : List ℕ) (own p2 d : ℕ)
    → IsStrict (map (λ (q : Cond). q.class.0) (conditions_at cat table c frags own p2 d))
conditions_strict cat table c frags own p2 d =
    if_way (λ conds. IsStrict (classes_in conds)) (c == 0) (undeclared_conditions cat own) (conditions cat table c d (map frag_no frags) own p2)
    (every_strict own (map frag_no (fragments_of cat)) 1 (length cat.classes))
    (let test = is_asked cat c d (map frag_no frags) in
    made_strict (condition_on test table c own p2) 1 (length cat.classes) (condition_class test table c own p2))

-- what stands above all that comes before it stands above the one before it

pub strict_ascends : (ns : List ℕ) → IsStrict ns → Ascend ns
strict_ascends [] h = tt
strict_ascends (n ∷ ns) h = ((grind arith), strict_ascends ns h.1)
