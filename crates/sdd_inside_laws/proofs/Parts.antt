-- Lists: what is taken off a front part, and parts that are all the same or all found.
use Rattle.std.proofs.Common.{ap, arith, sym, ◌∙◌}
use Rattle.std.proofs.lemmas.List.{append_cancel_left, drop-append-le, drop-drop}
use Rattle.std.proofs.Math.Seq.{take-append_seam}
use Rattle.std.specs.Prelude.{ℕ, suc, ◌+◌, ◌-◌, ◌≡◌, ◌≤◌, List, [], ◌∷◌, ◌++◌, drop, length, map, slice_get, take, Some, refl}

-- a list of which a front part was taken, and then more where others stand behind it
pub moved_on : {A : Type 0} (low high : ℕ) (old over new : List A) → new ≡ old ++ over → low ≤ length old → low ≤ high
    → drop (high - low) (drop low old ++ over) ≡ drop high new
moved_on low high old over new e few up =
    let all : low + (high - low) ≡ high = omega (arith, up) in
    ap (drop (high - low)) (sym (drop-append-le low old over few)) ∙ drop-drop (high - low) low (old ++ over) ∙ ap (λ n. drop n (old ++ over)) all
    ∙ ap (drop high) (sym e)

pub none_long : {A : Type 0} (xs : List A) → length xs ≡ 0 → xs ≡ []
none_long [] e = refl
none_long (x ∷ xs) e = absurd (omega (arith, e))

-- two parts of one list that are as long are the same
pub same_fronts : {A : Type 0} (xs ys more others : List A) → xs ++ more ≡ ys ++ others → length xs ≡ length ys → xs ≡ ys
same_fronts xs ys more others e n =
    sym (take-append_seam xs more) ∙ ap (λ k. take k (xs ++ more)) n ∙ ap (take (length ys)) e ∙ take-append_seam ys others

pub same_rests : {A : Type 0} (xs ys more others : List A) → xs ++ more ≡ ys ++ others → xs ≡ ys → more ≡ others
same_rests xs ys more others e s = append_cancel_left xs more others (e ∙ ap (λ z. z ++ others) (sym s))

-- lists that are made of the same members
pub same_members : {A B : Type 0} (f h : A → B) (xs : List A) → ((k : ℕ) (x : A) → slice_get xs k ≡ Some x → f x ≡ h x) → map f xs ≡ map h xs
same_members f h [] e = refl
same_members f h (x ∷ xs) e = λ i. e 0 x refl i ∷ same_members f h xs (λ k y t. e (suc k) y t) i
