-- The conditions, one more.
use Rattle.sdd_words.proofs.All.{Bool, Comparison, List, MatchOption, None, Option, Some, Word, [], ap, arith, codes, comparison_of, false, is_some, joined, length, nat_tests, not_empty, refl, sym, true, unwrap_or, ℕ, ◌<◌, ◌∙◌, ◌∷◌, ◌≡◌}
use Rattle.sdd_words.specs.Forms.{comparisons}

pub some_joined : {A : Type 0} (x : A) (read : Option (List A)) → is_some (joined (Some x) read) ≡ is_some read
some_joined x read = grind (arith, nat_tests)

pub comparison_more : (key : List ℕ) (k l o r : Word) (more ws : List Word) (c : Comparison) → ws ≡ k ∷ l ∷ o ∷ r ∷ more
    → Some c ≡ comparison_of key k l o r
    → comparisons key ws ≡ joined (Some c) (comparisons (codes "and") more)
unfolding comparisons
comparison_more key k l o r more ws c is e = rw (is, e) refl

pub no_comparison : (key : List ℕ) (k l o r : Word) (more ws : List Word) → ws ≡ k ∷ l ∷ o ∷ r ∷ more → None ≡ comparison_of key k l o r
    → comparisons key ws ≡ None
unfolding comparisons
no_comparison key k l o r more ws is e = rw (is, ← e) refl

pub comparisons_few : (key : List ℕ) (ws : List Word) → length ws < 4 → not_empty ws ≡ true → comparisons key ws ≡ None
unfolding comparisons
comparisons_few key ws few some = grind (arith, nat_tests)

pub comparison_read : (key : List ℕ) (k l o r : Word) (more ws : List Word) (read : Option Comparison) → ws ≡ k ∷ l ∷ o ∷ r ∷ more
    → read ≡ comparison_of key k l o r
    → MatchOption read (not_empty ws ≡ true → comparisons key ws ≡ None) (λ one. comparisons key ws ≡ joined (Some one) (comparisons (codes "and") more))
comparison_read key k l o r more ws None is e = λ _. no_comparison key k l o r more ws is e
comparison_read key k l o r more ws (Some c) is e = comparison_more key k l o r more ws c is e

-- whether words are conditions, one less
pub are_comparisons_more : (key : List ℕ) (ws more : List Word) (c : Comparison) (total : Bool)
    → comparisons key ws ≡ joined (Some c) (comparisons (codes "and") more)
    → is_some (comparisons key ws) ≡ total → is_some (comparisons (codes "and") more) ≡ total
are_comparisons_more key ws more c total is so_far = sym (some_joined c (comparisons (codes "and") more)) ∙ ap is_some (sym is) ∙ so_far

pub are_no_comparisons : (key : List ℕ) (ws : List Word) (total : Bool) → comparisons key ws ≡ None → is_some (comparisons key ws) ≡ total
    → false ≡ total
are_no_comparisons key ws total is so_far = ap is_some (sym is) ∙ so_far

pub are_comparisons_all : (key : List ℕ) (ws : List Word) (total : Bool) → not_empty ws ≡ false → is_some (comparisons key ws) ≡ total
    → true ≡ total
unfolding comparisons
are_comparisons_all key ws total none so_far = grind (arith, nat_tests)

-- what is left of them

some_left : {A : Type 0} (o read : Option (List A)) (x : A) → o ≡ joined (Some x) read → is_some o ≡ true
    → (is_some read ≡ true) × (unwrap_or o [] ≡ x ∷ unwrap_or read [])
some_left o read x e some = grind (arith, nat_tests)

pub first_of : {A : Type 0} (o read : Option (List A)) (x : A) → o ≡ joined (Some x) read → is_some o ≡ true
    → unwrap_or o [] ≡ x ∷ unwrap_or read []
first_of o read x e some = (some_left o read x e some).1

pub more_of : {A : Type 0} (o read : Option (List A)) (x : A) → o ≡ joined (Some x) read → is_some o ≡ true → is_some read ≡ true
more_of o read x e some = (some_left o read x e some).0

pub all_of : {A : Type 0} (o : Option (List A)) → is_some o ≡ true → o ≡ Some (unwrap_or o [])
all_of o some = grind (arith, nat_tests)

pub none_of : {A : Type 0} (o : Option (List A)) → is_some o ≡ false → o ≡ None
none_of o none = grind (arith, nat_tests)

pub none_left : (key : List ℕ) (ws : List Word) → not_empty ws ≡ false → unwrap_or (comparisons key ws) [] ≡ []
unfolding comparisons
none_left key ws none = grind (arith, nat_tests)
