-- What rules that are kept tell of the lines of a report, and the other way round.
use Rattle.sdd_verify.proofs.All.{All, All-cons, All-head, All-tail, AreLines, Bool, Err, List, Numbered, Ok, [], ap, append_assoc, arith, at, bytes_eq, bytes_eq-Decides, cond, ends_replies, false, is_order_line, length, nat_tests, not_true, ok_is, order_line_in, passed, refl, spelled_lines, tells_reply, true, ℕ, ◌++◌, ◌+◌, ◌∷◌, ◌≡◌}

abbrev pub IsOther : List ℕ → Type 0
IsOther line = is_order_line line ≡ false

-- the first order line, after lines that are none
pub record FirstOrder (number : ℕ) (lines : List (List ℕ)) (at : ℕ × List ℕ × Numbered) : Type 0 where
  pub before : List (List ℕ)
  pub others : All IsOther before
  pub is : is_order_line at.1 ≡ true
  pub whole : lines ≡ before ++ at.1 ∷ at.2.1

first_by : (number : ℕ) (line : List ℕ) (lines : List (List ℕ)) (at : ℕ × List ℕ × Numbered) (b : Bool) → is_order_line line ≡ b
    → (order_line_in (number + 1) lines ≡ Ok at → FirstOrder (number + 1) lines at)
    → cond b (Ok (number, line, (number + 1, lines))) (order_line_in (number + 1) lines) ≡ Ok at → FirstOrder number (line ∷ lines) at
first_by number line lines at true e later h = grind (arith, nat_tests, ok_is, FirstOrder, IsOther)
first_by number line lines at false e later h =
    let f = later h in
    record { before = line ∷ f.before; others = All-cons IsOther line f.before e f.others; is = f.is; whole = ap (λ (l : List (List ℕ)). line ∷ l) f.whole }

pub first_order : (number : ℕ) (lines : List (List ℕ)) (at : ℕ × List ℕ × Numbered) → order_line_in number lines ≡ Ok at → FirstOrder number lines at
first_order number [] at h = absurd cc
first_order number (line ∷ lines) at h = first_by number line lines at (is_order_line line) refl (λ more. first_order (number + 1) lines at more) h

-- and the other way round
pub order_again : (number : ℕ) (before : List (List ℕ)) (line : List ℕ) (lines : List (List ℕ)) → All IsOther before → is_order_line line ≡ true
    → order_line_in number (before ++ line ∷ lines) ≡ Ok (number + length before, line, (number + length before + 1, lines))
order_again number [] line lines others is = let none : number + 0 ≡ number = omega arith in rw (is, none) refl
order_again number (first ∷ before) line lines others is =
    let other = All-head IsOther first before others in
    grind (arith, nat_tests, IsOther, (order_again (number + 1) before line lines (All-tail IsOther first before others) is))

-- lines that have come stand there, and then the rest

passed_by : (number : ℕ) (line : List ℕ) (more : List (List ℕ)) (found : List ℕ) (lines : List (List ℕ)) (rest : Numbered) (b : Bool) → bytes_eq found line ≡ b
    → (passed (number + 1) more lines ≡ Ok rest → lines ≡ more ++ rest.1)
    → cond b (passed (number + 1) more lines) (Err number) ≡ Ok rest → found ∷ lines ≡ (line ∷ more) ++ rest.1
passed_by number line more found lines rest b e later h = grind (arith, nat_tests, bytes_eq-Decides)

pub passed_is : (number : ℕ) (expected lines : List (List ℕ)) (rest : Numbered) → passed number expected lines ≡ Ok rest → lines ≡ expected ++ rest.1
passed_is number (line ∷ more) (found ∷ lines) rest h =
    passed_by number line more found lines rest (bytes_eq found line) refl (λ later. passed_is (number + 1) more lines rest later) h
passed_is number expected lines rest h = grind (arith, ok_is)

pub passed_again : (number : ℕ) (expected lines : List (List ℕ)) → passed number expected (expected ++ lines) ≡ Ok (number + length expected, lines)
passed_again number [] lines = let none : number + 0 ≡ number = omega arith in rw none refl
passed_again number (line ∷ expected) lines = grind (arith, bytes_eq, bytes_eq-Decides, (passed_again (number + 1) expected lines))

-- a line of no reply
pub record Follows (lines : List (List ℕ)) : Type 0 where
  pub next : List ℕ
  pub more : List (List ℕ)
  pub whole : lines ≡ next ∷ more
  pub other : tells_reply next ≡ false

pub follows : (lines : List (List ℕ)) → ends_replies lines ≡ true → Follows lines
follows lines h = grind (arith, nat_tests, not_true, tells_reply)

-- lines of which some stand before others

pub front_lines : (front rest : List (List ℕ)) → AreLines (front ++ rest) → AreLines front
front_lines [] rest h = tt
front_lines (line ∷ front) rest h = (h.0, front_lines front rest h.1)

pub rest_lines : (front rest : List (List ℕ)) → AreLines (front ++ rest) → AreLines rest
rest_lines [] rest h = h
rest_lines (line ∷ front) rest h = rest_lines front rest h.1

pub spelled_apart : (front rest : List (List ℕ)) (tail : List ℕ) → spelled_lines (front ++ rest) ++ tail ≡ spelled_lines front ++ (spelled_lines rest ++ tail)
spelled_apart [] rest tail = refl
spelled_apart (line ∷ front) rest tail = grind (arith, append_assoc, spelled_lines, (spelled_apart front rest tail))
