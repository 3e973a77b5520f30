-- The rows of uses: frozen from copies that represent changes, and reduced one use after the other.
use Rattle.sdd_copy.proofs.All.{All, AllByRecursion, AreHere, Bool, CopyRows, Dated, FragNo, Frozen, Held, List, None, Represent, Restriction, Some, Use, Value, [], ap, arith, chosen, column, cond, contents, drop, entries_in, eq-eqb, filter, filter_same, first_some, flat_map, fold, frozen_for, is_among, is_here, is_known, known_use, length, map, map_over_more, recursion_from_All, reduced, refl, rows_at, rows_for, slice_index_or, slice_set, suc, take, take_all, true, with_keyed, with_values, zero, ℕ, ℤ, ◌++◌, ◌+◌, ◌<◌, ◌==◌, ◌∙◌, ◌∷◌, ◌≡◌, ◌≤◌}
use Rattle.sdd_copy.proofs.Contents.{items_tell}
use Rattle.sdd_copy.proofs.Members.{known_among}

-- copies that represent changes give the contents of these

frags_are_held : (copies : Held) (xs : Dated) (restrictions : List Restriction) (frags : List FragNo)
    → Represent copies xs → AllByRecursion (λ f. is_here copies f.0 ≡ true) frags
    → flat_map (λ f. chosen restrictions (rows_at copies f.0)) frags ≡ flat_map (λ f. chosen restrictions (contents f.0 xs)) frags
frags_are_held copies xs restrictions [] represent here = refl
frags_are_held copies xs restrictions (f ∷ frags) represent here =
    grind (arith, entries_in, items_tell, (frags_are_held copies xs restrictions frags represent here.1))

abbrev rows_in_order : List (ℤ × List Value) → List (List Value)
rows_in_order rows = map (λ e. e.1) (fold with_keyed [] rows)

abbrev numbered : ℕ → List (List Value) → ℕ × List (List Value)
numbered n rows = (n, rows)

abbrev pub held_for : CopyRows → Use → ℕ × List (List Value)
held_for copies u = (u.number, rows_for copies u)

uses_are_held : (copies : Held) (xs : Dated) (uses : List Use) → Represent copies xs → AllByRecursion (AreHere copies) uses
    → map (held_for (rows_at copies)) uses ≡ map (held_for (λ f. contents f xs)) uses
uses_are_held copies xs [] represent here = refl
uses_are_held copies xs (u ∷ uses) represent here = rw (
  ap (numbered u.number) (ap rows_in_order (frags_are_held copies xs u.restrictions u.frags represent
      (recursion_from_All (λ f. is_here copies f.0 ≡ true) u.frags here.0))),
  uses_are_held copies xs uses represent here.1,
) refl

abbrev pub with_uses : ℕ → List (ℕ × List (List Value)) → Frozen
with_uses ts uses = record { ts = ts; uses = uses }

pub frozen_is_held : (copies : Held) (xs : Dated) (ts : ℕ) (uses : List Use) (frozen : List (ℕ × List (List Value))) (i : ℕ)
    → frozen ≡ map (held_for (rows_at copies)) (take i uses) → length uses ≤ i
    → Represent copies xs → All (AreHere copies) uses → with_uses ts frozen ≡ frozen_for (λ f. contents f xs) ts uses
frozen_is_held copies xs ts uses frozen i so_far end represent here = grind (arith, with_uses, held_for, take_all, uses_are_held, recursion_from_All)

-- the first use with a number

pub first_at : (number i : ℕ) (es : List (ℕ × List (List Value))) (e : ℕ × List (List Value)) → i < length es
    → e ≡ slice_index_or es i e → e.0 ≡ number
    → first_some (λ x. cond (x.0 == number) (Some x.1) None) (drop i es) ≡ Some e.1
first_at number i [] e within at own = absurd (omega arith)
first_at number zero (x ∷ es) e within at own = grind (arith, eq-eqb)
first_at number (suc i) (x ∷ es) e within at own = first_at number i es e (omega arith) at own

-- a use is reduced

abbrev reduced_use : ℕ → ℕ → List Value → ℕ × List (List Value) → ℕ × List (List Value)
reduced_use number col values e = cond (e.0 == number) (e.0, filter (λ row. is_among values (column row col)) e.1) e

abbrev rows_known : ℕ → List Value → List (List Value) → List (List Value)
rows_known col values rows = filter (λ row. is_known (with_values [] values) (column row col)) rows

abbrev rows_among : ℕ → List Value → List (List Value) → List (List Value)
rows_among col values rows = filter (λ row. is_among values (column row col)) rows

same_use : (number col : ℕ) (values : List Value) (own : Bool) (n : ℕ) (rows : List (List Value))
    → cond own (numbered n (rows_known col values rows)) (numbered n rows)
    ≡ cond own (numbered n (rows_among col values rows)) (numbered n rows)
same_use number col values own n rows = grind (arith, numbered, filter_same, known_among)

uses_known : (number col : ℕ) (values : List Value) (es : List (ℕ × List (List Value)))
    → map (known_use number col (with_values [] values)) es ≡ map (reduced_use number col values) es
uses_known number col values [] = refl
uses_known number col values (e ∷ es) = rw (same_use number col values (e.0 == number) e.0 e.1, uses_known number col values es) refl

map_end : {A : Type 0} (f : A → A) (i : ℕ) (xs : List A) → length xs ≤ i → map f (take i xs) ++ drop i xs ≡ map f xs
map_end f zero [] h = refl
map_end f (suc i) [] h = refl
map_end f zero (x ∷ xs) h = absurd (omega arith)
map_end f (suc i) (x ∷ xs) h = ap (λ l. f x ∷ l) (map_end f i xs (omega arith))

-- one use more is reduced
pub over_more : {A : Type 0} (f : A → A) (xs ys : List A) (i : ℕ) (x new : A) → i < length xs
    → ys ≡ map f (take i xs) ++ drop i xs → x ≡ slice_index_or ys i x → new ≡ f x
    → slice_set ys i new ≡ map f (take (i + 1) xs) ++ drop (i + 1) xs
over_more f xs ys i x new h e g n = rw n (map_over_more f xs ys i x h e g)

-- all uses are
pub reduced_all : (number col i : ℕ) (values known : List Value) (uses xs : List (ℕ × List (List Value))) (ts : ℕ) (old : Frozen)
    → known ≡ with_values [] values
    → uses ≡ map (known_use number col known) (take i xs) ++ drop i xs → length xs ≤ i → xs ≡ old.uses
    → ts ≡ old.ts → with_uses ts uses ≡ reduced number col values old
reduced_all number col i values known uses xs ts old k e h same time =
    let all : uses ≡ map (reduced_use number col values) old.uses =
    e
    ∙ map_end (known_use number col known) i xs h
    ∙ ap (λ y. map (known_use number col y) xs) k
    ∙ uses_known number col values xs
    ∙ ap (map (reduced_use number col values)) same in
    rw (all, time) refl
