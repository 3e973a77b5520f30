-- A fold over what the members of a list give, by one member after the other.
use Rattle.sdd_watch.proofs.All.{List, [], ap, drop, drop_all, fold, fold-append, get_or, length, sym, ℕ, ◌++◌, ◌+◌, ◌<◌, ◌∙◌, ◌∷◌, ◌≡◌, ◌≤◌}
use Rattle.sdd_moments.proofs.Loops.{next}

-- what the members of two lists give stands one after the other
pub record Joins {A B : Type 0} (give : List A → List B) : Type 0 where
  pub none : give [] ≡ []
  pub both : (xs ys : List A) → give (xs ++ ys) ≡ give xs ++ give ys

pub folded_more : {A B C : Type 0} (f : C → B → C) (give : List A → List B) (xs : List A) (x : A) (old new total : C) (i : ℕ) → Joins give
    → i < length xs → x ≡ get_or xs i x → new ≡ fold f old (give (x ∷ [])) → fold f old (give (drop i xs)) ≡ total
    → fold f new (give (drop (i + 1) xs)) ≡ total
folded_more f give xs x old new total i joins lt is add e =
    ap (λ c. fold f c (give (drop (i + 1) xs))) add
    ∙ sym (fold-append f old (give (x ∷ [])) (give (drop (i + 1) xs)))
    ∙ ap (fold f old) (sym (joins.both (x ∷ []) (drop (i + 1) xs)) ∙ ap give (sym (next xs x i lt is)))
    ∙ e

pub folded_end : {A B C : Type 0} (f : C → B → C) (give : List A → List B) (xs : List A) (old total : C) (i : ℕ) → Joins give
    → length xs ≤ i → fold f old (give (drop i xs)) ≡ total → old ≡ total
folded_end f give xs old total i joins past e = sym (ap (fold f old) (ap give (drop_all i xs past) ∙ joins.none)) ∙ e
