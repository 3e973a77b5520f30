-- What answers a message has rank 1, what a head does has rank 2, and what comes next has the lowest rank of all that is
-- due.
use Rattle.sdd_dm.proofs.All.{Act, ClassView, Home, IsLowest, List, None, Option, Some, View, [], ap, arith, by_head, by_open, first_some, head_due, open_due, or_else, rank_of_act, refl, slice_get, suc, sym, zero, ℕ, ◌∙◌, ◌∷◌, ◌≡◌, ◌≤◌}

pub open_ranked : (h : Home) (v : View) (k : ClassView) (a : Act) → open_due h v k ≡ Some a → rank_of_act a ≡ 1
open_ranked h v k a e = (grind arith)

pub head_ranked : (h : Home) (v : View) (k : ClassView) (a : Act) → head_due h v k ≡ Some a → rank_of_act a ≡ 2
head_ranked h v k a e = (grind (arith))

first_there : {A B : Type 0} (f : A → Option B) (xs : List A) (n : ℕ) (x : A) (b : B) → slice_get xs n ≡ Some x → f x ≡ Some b
    → (c : B) × (first_some f xs ≡ Some c)
first_there f [] n x b e g = cc
first_there f (y ∷ ys) zero x b e g = let s : y ≡ x = cc in (b, rw (s, g) refl)
first_there {B = B} f (y ∷ ys) (suc n) x b e g =
    elim (f y) as (λ o. (c : B) × (or_else o (first_some f ys) ≡ Some c)) [
      | None ↦ first_there f ys n x b e g
      | Some z ↦ (z, refl)
    ]

first_ranked : {A : Type 0} (f : A → Option Act) (n : ℕ) → ((x : A) (a : Act) → f x ≡ Some a → rank_of_act a ≡ n) → (xs : List A) (a : Act)
    → first_some f xs ≡ Some a → rank_of_act a ≡ n
first_ranked f n k [] a e = cc
first_ranked f n k (x ∷ xs) a e = grind (arith, or_else, first_some, rank_of_act, (first_ranked f n k xs a))

-- of two ranks, the first taken where it is there
lowest : (x y : Option Act) (a b : Act) → ((c : Act) → x ≡ Some c → rank_of_act c ≡ 1) → ((c : Act) → y ≡ Some c → rank_of_act c ≡ 2)
    → or_else x y ≡ Some a → rank_of_act a ≤ 2
lowest x y a b f g e = grind arith

pub lowest_is_next : (h : Home) (v : View) → IsLowest h v
lowest_is_next h v a b e (by_open {a = c} n k there p) =
    let first = first_there (open_due h v) v.classes n k c there p in
    let is_first : first_some (open_due h v) v.classes ≡ Some a = first.1 ∙ (sym (ap (λ o. or_else o (first_some (head_due h v) v.classes)) first.1) ∙ e) in
    let one = first_ranked (open_due h v) 1 (open_ranked h v) v.classes a is_first in
    let other = open_ranked h v k c p in
    omega arith
lowest_is_next h v a b e (by_head {a = c} n k there p) =
    let other = head_ranked h v k c p in
    let most = lowest (first_some (open_due h v) v.classes) (first_some (head_due h v) v.classes) a c
    (first_ranked (open_due h v) 1 (open_ranked h v) v.classes) (first_ranked (head_due h v) 2 (head_ranked h v) v.classes) e in
    omega arith
