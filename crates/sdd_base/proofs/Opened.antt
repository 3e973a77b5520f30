-- What the opened files of a shelf in memory have unread, after one more is opened and after a read.
use Rattle.sdd_base.proofs.All.{GivesBytes, IfSome, List, OpenFile, Opened, ShelfFile, ShelfState, Some, [], ap, arith, drop, file_at, length, length-append, length-map, length-set, map, map-append, map-set, min, name_at, nat_tests, opened_at, option_map, refl, rest_at, set, slice_get, slice_get-map, slice_get_within, suc, sym, take, ℕ, ◌++◌, ◌+◌, ◌<◌, ◌∙◌, ◌∷◌, ◌≡◌}
use Rattle.sdd_base.proofs.Taken.{gives_part, held}

-- an element of the front list is one of the whole
pub slice_get-append : {A : Type 0} (xs ys : List A) (g : ℕ) → g < length xs → slice_get (xs ++ ys) g ≡ slice_get xs g
slice_get-append (x ∷ xs) ys (suc g) within = slice_get-append xs ys g (omega arith)
slice_get-append _ ys _ within = grind (arith, nat_tests)

-- a written element is read back
pub slice_get-set_same : {A : Type 0} (xs : List A) (f : ℕ) (y : A) → f < length xs → slice_get (set xs f y) f ≡ Some y
slice_get-set_same (x ∷ xs) (suc f) y within = slice_get-set_same xs f y (omega arith)
slice_get-set_same _ _ y within = grind (arith, nat_tests)

-- a write leaves the other elements
pub slice_get-set_other : {A : Type 0} (xs : List A) (f g : ℕ) (y : A) → (g ≡ f → ⊥) → slice_get (set xs f y) g ≡ slice_get xs g
slice_get-set_other (x ∷ xs) (suc f) (suc g) y other = slice_get-set_other xs f g y (λ e. other (ap suc e))
slice_get-set_other _ _ _ y other = grind (arith, nat_tests)

pub length-opened : (files : List ShelfFile) (opened_files : List OpenFile) (old : ShelfState) (faults : ℕ)
    → record { files = files; opened = map (opened_at files) opened_files; faults = faults } ≡ old → length opened_files ≡ length old.opened
length-opened files opened_files old faults is = sym (length-map opened_files (opened_at files)) ∙ ap (λ (s : ShelfState). length s.opened) is

-- the files that were open stay so when one more is
pub stay_open : (files : List ShelfFile) (opened_files after : List OpenFile) (opened : OpenFile) (old : ShelfState) (faults g : ℕ)
    → record { files = files; opened = map (opened_at files) opened_files; faults = faults } ≡ old → after ≡ opened_files ++ opened ∷ []
    → g < length old.opened → (g < length (map (opened_at files) after)) × (slice_get (map (opened_at files) after) g ≡ slice_get old.opened g)
stay_open files opened_files after opened old faults g is pushed within =
    grind (arith, nat_tests, map-append, length-append, slice_get-append)

-- what a read of one opened file leaves
pub record Reads (old now : List Opened) (f n : ℕ) (buf : List ℕ) : Type 0 where
  pub gives : GivesBytes (slice_get old f) (slice_get now f) buf n
  pub others : (g : ℕ) → (g ≡ f → ⊥) → g < length old → (g < length now) × (slice_get now g ≡ slice_get old g)
  pub stays : f < length now
  pub count : IfSome (slice_get old f) (λ file. n ≡ min (length buf) (length file.unread))

none_left : (n : ℕ) (buf rest : List ℕ) → n ≡ min (length buf) (length rest) → n ≡ 0 → 0 < length buf → rest ≡ []
none_left n buf [] count none room = refl
none_left n buf (x ∷ rest) count none room = absurd (omega arith)

pub reads : (files : List ShelfFile) (opened_files after : List OpenFile) (opened next : OpenFile) (old : ShelfState) (faults f n : ℕ) (buf : List ℕ)
    → record { files = files; opened = map (opened_at files) opened_files; faults = faults } ≡ old → slice_get opened_files f ≡ Some opened
    → after ≡ set opened_files f next
    → next ≡ record opened { at = opened.at + n } → take n buf ≡ take n (rest_at files opened)
    → n ≡ min (length buf) (length (rest_at files opened))
    → Reads old.opened (map (opened_at files) after) f n buf
reads files opened_files after opened next old faults f n buf is there put moved front count =
    let was : old.opened ≡ map (opened_at files) opened_files = sym (ap (λ (s : ShelfState). s.opened) is) in
    let now : map (opened_at files) after ≡ set (map (opened_at files) opened_files) f (opened_at files next) = ap (map (opened_at files)) put
    ∙ map-set (opened_at files) opened_files f next in
    let before : slice_get (map (opened_at files) opened_files) f ≡ Some (opened_at files opened) =
    slice_get-map (opened_at files) opened_files f ∙ ap (option_map (opened_at files)) there in
    let within : f < length (map (opened_at files) opened_files) =
    slice_get_within (map (opened_at files) opened_files) f (opened_at files opened) before in
    let written : slice_get (set (map (opened_at files) opened_files) f (opened_at files next)) f ≡ Some (opened_at files next) =
    slice_get-set_same (map (opened_at files) opened_files) f (opened_at files next) within in
    let bytes = file_at files opened.file in
    let left : opened_at files next ≡ held (name_at files opened.file) (drop (opened.at + n) bytes) = ap (opened_at files) moved in
    rw (was, now) (record {
      gives =
          rw (before, written, left)
          (gives_part (name_at files opened.file) bytes buf opened.at n front
          (none_left n buf (rest_at files opened) count));
      others = λ g other below. (
        omega (arith, length-set (map (opened_at files) opened_files) f (opened_at files next)),
        slice_get-set_other (map (opened_at files) opened_files) f g (opened_at files next) other,
      );
      stays = omega (arith, length-set (map (opened_at files) opened_files) f (opened_at files next));
      count = rw before count;
    })
