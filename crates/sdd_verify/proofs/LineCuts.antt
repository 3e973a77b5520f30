-- The lines of texts that stand one after the other.
use Rattle.sdd_verify.proofs.All.{AreLines, Bool, List, [], ap, append-nil, append_assoc, arith, cond, cut_takes, eqb, line_behind, lines_of, nat_tests, onto, refl, spelled_lines, sym, ℕ, ◌++◌, ◌∙◌, ◌∷◌, ◌≡◌}
use Rattle.sdd_script.specs.words.Lines.{cut_lines}

-- lines that are ended, and what stands after them
pub lines_behind : (lines : List (List ℕ)) (rest : List ℕ) → AreLines lines
    → cut_lines (spelled_lines lines ++ rest) ≡ (lines ++ (cut_lines rest).0, (cut_lines rest).1)
lines_behind [] rest h = refl
lines_behind (line ∷ lines) rest h = grind (arith, cut_lines, append_assoc, spelled_lines, line_behind, (lines_behind lines rest h.1))

lines_by : (c : ℕ) (cut : List (List ℕ) × List ℕ) (b : Bool) → eqb c 10 ≡ b → AreLines cut.0 → AreLines (cond b ([] ∷ cut.0, cut.1) (onto c cut)).0
lines_by c cut b e h = grind (arith, nat_tests)

-- what is cut at newlines are lines
pub cut_are_lines : (bytes : List ℕ) → AreLines (cut_lines bytes).0
unfolding cut_lines
cut_are_lines [] = tt
cut_are_lines (c ∷ bytes) = lines_by c (cut_lines bytes) (eqb c 10) refl (cut_are_lines bytes)

-- a text of ended lines
pub record IsWhole (text : List ℕ) : Type 0 where
  pub nothing_behind : (cut_lines text).1 ≡ []

-- its lines, ended, are the text
pub whole_is : (text : List ℕ) → IsWhole text → text ≡ spelled_lines (lines_of text)
whole_is text h =
    let lines : List ℕ = spelled_lines (cut_lines text).0 in
    sym (cut_takes text) ∙ ap (λ (l : List ℕ). lines ++ l) h.nothing_behind ∙ append-nil lines

-- what stands after it is cut by itself
pub whole_behind : (text rest : List ℕ) → IsWhole text → cut_lines (text ++ rest) ≡ (lines_of text ++ (cut_lines rest).0, (cut_lines rest).1)
whole_behind text rest h = ap (λ (t : List ℕ). cut_lines (t ++ rest)) (whole_is text h) ∙ lines_behind (lines_of text) rest (cut_are_lines text)

pub whole_append : (text rest : List ℕ) → IsWhole text → IsWhole rest → IsWhole (text ++ rest)
whole_append text rest h more = record { nothing_behind = ap (λ (c : List (List ℕ) × List ℕ). c.1) (whole_behind text rest h) ∙ more.nothing_behind }

pub whole_empty : IsWhole []
unfolding cut_lines
whole_empty = record { nothing_behind = refl }

-- a newline ends a line, whatever stands before it

record Ends (cut : List (List ℕ) × List ℕ) (rest : List ℕ) : Type 0 where
  line : List ℕ
  lines : List (List ℕ)
  is : cut ≡ (line ∷ lines, rest)

ends_by : (c : ℕ) (cut : List (List ℕ) × List ℕ) (rest : List ℕ) (b : Bool) → Ends cut rest → Ends (cond b ([] ∷ cut.0, cut.1) (onto c cut)) rest
ends_by c cut rest b h = grind (arith, nat_tests)

ends : (text rest : List ℕ) → Ends (cut_lines (text ++ 10 ∷ rest)) (cut_lines rest).1
unfolding cut_lines
ends [] rest = record { line = []; lines = (cut_lines rest).0; is = refl }
ends (c ∷ text) rest = ends_by c (cut_lines (text ++ 10 ∷ rest)) (cut_lines rest).1 (eqb c 10) (ends text rest)

pub whole_ended : (text rest : List ℕ) → IsWhole rest → IsWhole (text ++ 10 ∷ rest)
whole_ended text rest h = record { nothing_behind = ap (λ (c : List (List ℕ) × List ℕ). c.1) (ends text rest).is ∙ h.nothing_behind }
