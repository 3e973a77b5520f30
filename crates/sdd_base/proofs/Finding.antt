-- The first file of a name, by a walk from the front.
use Rattle.sdd_base.proofs.All.{List, None, ShelfFile, Some, add-one, ap, arith, bytes_eq, bytes_eq-Decides, cond, drop, drop-cons, drop_all, false, file_at, find_file, get_or, length, name_at, nat_tests, refl, suc, true, ℕ, ◌+◌, ◌<◌, ◌∙◌, ◌∷◌, ◌≡◌, ◌≤◌}

file_at-get : (fs : List ShelfFile) (i : ℕ) (f : ShelfFile) → i < length fs → file_at fs i ≡ (get_or fs i f).bytes
file_at-get (x ∷ fs) (suc i) f lt = file_at-get fs i f (omega arith)
file_at-get _ _ f lt = grind (arith, nat_tests)

split : (fs : List ShelfFile) (i : ℕ) (f : ShelfFile) (name : List ℕ) → i < length fs → f ≡ get_or fs i f
    → find_file (drop i fs) name ≡ cond (bytes_eq f.name name) (Some f.bytes) (find_file (drop (i + 1) fs) name)
split fs i f name lt is = rw (drop-cons fs i f, ← is, add-one) refl

pub find-here : (fs : List ShelfFile) (i : ℕ) (f : ShelfFile) (name : List ℕ) → i < length fs → f ≡ get_or fs i f → bytes_eq f.name name ≡ true
    → find_file (drop i fs) name ≡ Some (file_at fs i)
find-here fs i f name lt is same = split fs i f name lt is ∙ rw (same, file_at-get fs i f lt, ← is) refl

pub find-on : (fs : List ShelfFile) (i : ℕ) (f : ShelfFile) (name : List ℕ) → i < length fs → f ≡ get_or fs i f → bytes_eq f.name name ≡ false
    → find_file (drop i fs) name ≡ find_file (drop (i + 1) fs) name
find-on fs i f name lt is other = split fs i f name lt is ∙ rw other refl

pub find-past : (fs : List ShelfFile) (i : ℕ) (name : List ℕ) → length fs ≤ i → find_file (drop i fs) name ≡ None
find-past fs i name past = ap (λ (l : List ShelfFile). find_file l name) (drop_all i fs past)

name_at-get : (fs : List ShelfFile) (i : ℕ) (f : ShelfFile) → i < length fs → name_at fs i ≡ (get_or fs i f).name
name_at-get (x ∷ fs) (suc i) f lt = name_at-get fs i f (omega arith)
name_at-get _ _ f lt = grind (arith, nat_tests)

-- and it has the name that was looked for
pub find-named : (fs : List ShelfFile) (i : ℕ) (f : ShelfFile) (name : List ℕ) → i < length fs → f ≡ get_or fs i f
    → bytes_eq f.name name ≡ true → name_at fs i ≡ name
find-named fs i f name lt is same = grind (arith, nat_tests, name_at-get, bytes_eq-Decides)
