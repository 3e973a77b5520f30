-- The first line of a text.
use Rattle.sdd_words.proofs.All.{Bool, Cuts, List, [], add-one, ap, arith, drop, drop-cons, eqb, false, get_or, get_or-take, length, length-drop, length-take, nat_tests, refl, suc, sym, take, take-append-drop, ℕ, ◌++◌, ◌+◌, ◌<◌, ◌∙◌, ◌∷◌, ◌≡◌}
use Rattle.sdd_words.specs.Lines.{cut_lines}

not_newline : (c : ℕ) (b : Bool) → eqb c 10 ≡ b → (c ≡ 10 → ⊥) → eqb c 10 ≡ false
not_newline c b e other = grind (arith, nat_tests)

pub whole-first : (line rest : List ℕ) → ((k : ℕ) → k < length line → get_or line k 0 ≡ 10 → ⊥)
    → cut_lines (line ++ 10 ∷ rest) ≡ (line ∷ (cut_lines rest).0, (cut_lines rest).1)
unfolding cut_lines
whole-first [] rest none = refl
whole-first (c ∷ line) rest none = rw (not_newline c (eqb c 10) refl (none 0 (omega arith)), whole-first line rest (λ k lt. none (suc k) (omega arith))) refl

pub no_line : (bytes : List ℕ) → ((k : ℕ) → k < length bytes → get_or bytes k 0 ≡ 10 → ⊥) → cut_lines bytes ≡ ([], bytes)
unfolding cut_lines
no_line [] none = refl
no_line (c ∷ cs) none = rw (not_newline c (eqb c 10) refl (none 0 (omega arith)), no_line cs (λ k lt. none (suc k) (omega arith))) refl

pub cuts_at : (bytes : List ℕ) (i : ℕ) → i < length bytes → get_or bytes i 0 ≡ 10 → ((k : ℕ) → k < i → get_or bytes k 0 ≡ 10 → ⊥)
    → Cuts bytes (take i bytes) (drop (i + 1) bytes)
cuts_at bytes i lt e none =
    let p = (sym (take-append-drop i bytes) ∙ ap (λ (t : List ℕ). take i bytes ++ t) (rw (drop-cons bytes i 0, e, add-one) refl)) in
    let len : length (take i bytes) ≡ i = omega (arith, length-take i bytes) in
    record {
      whole = p;
      first = ap cut_lines p ∙ whole-first (take i bytes) (drop (i + 1) bytes) (λ k below. (rw (get_or-take i bytes k 0 (omega arith)) (none k (omega arith))));
      shorter = omega (arith, length-drop (i + 1) bytes);
    }
