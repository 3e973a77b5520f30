-- The lines of a text, each without its newline, and what stands after the last newline.
use Rattle.std.specs.Prelude.{◌≡◌, ◌≢◌, ℕ, ◌<◌, List, [], ◌∷◌, ◌++◌, length, ◌==◌, if◌then◌else◌}

-- one byte more at the front
abbrev pub onto : ℕ → List (List ℕ) × List ℕ → List (List ℕ) × List ℕ
onto c cut = elim cut.0 [ [] ↦ ([], c ∷ cut.1) | l ∷ ls ↦ ((c ∷ l) ∷ ls, cut.1) ]

unfoldable pub cut_lines : List ℕ → List (List ℕ) × List ℕ
cut_lines [] = ([], [])
cut_lines (c ∷ cs) = if c == 10 then ([] ∷ (cut_lines cs).0, (cut_lines cs).1) else onto c (cut_lines cs)

-- lines, each ended by a newline
abbrev pub spelled_lines : List (List ℕ) → List ℕ
spelled_lines [] = []
spelled_lines (l ∷ ls) = l ++ 10 ∷ spelled_lines ls

-- a line and what stands after its newline
pub record Cuts (bytes line rest : List ℕ) : Type 0 where
  pub whole : bytes ≡ line ++ 10 ∷ rest
  pub first : cut_lines bytes ≡ (line ∷ (cut_lines rest).0, (cut_lines rest).1)
  pub shorter : length rest < length bytes

abbrev pub HasNoNewline : List ℕ → Type 0
HasNoNewline [] = Unit {0}
HasNoNewline (c ∷ cs) = (c ≢ 10) × HasNoNewline cs

abbrev pub AreLines : List (List ℕ) → Type 0
AreLines [] = Unit {0}
AreLines (l ∷ ls) = HasNoNewline l × AreLines ls
