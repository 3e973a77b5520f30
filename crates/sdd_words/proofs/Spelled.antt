-- Lines joined by newlines are cut into these lines, and what is cut is joined again.
use Rattle.sdd_words.proofs.All.{AreLines, Bool, HasNoNewline, List, [], arith, eqb, nat_tests, ne_eqb, refl, spelled_lines, ℕ, ◌++◌, ◌∙◌, ◌∷◌, ◌≡◌}
use Rattle.sdd_words.specs.Lines.{cut_lines, onto}

pub first_line : (line rest : List ℕ) → HasNoNewline line → cut_lines (line ++ 10 ∷ rest) ≡ (line ∷ (cut_lines rest).0, (cut_lines rest).1)
unfolding cut_lines
first_line [] rest h = refl
first_line (c ∷ line) rest h = rw (ne_eqb c 10 h.0, first_line line rest h.1) refl

pub cut_again : (ls : List (List ℕ)) → AreLines ls → cut_lines (spelled_lines ls) ≡ (ls, [])
unfolding cut_lines
cut_again [] h = refl
cut_again (l ∷ ls) h = let ih = cut_again ls h.1 in first_line l (spelled_lines ls) h.0 ∙ rw ih refl

abbrev back : List (List ℕ) × List ℕ → List ℕ
back cut = spelled_lines cut.0 ++ cut.1

onto_back : (c : ℕ) (ls : List (List ℕ)) (tail : List ℕ) → back (onto c (ls, tail)) ≡ c ∷ back (ls, tail)
onto_back c ls tail = grind (arith, nat_tests)

cut_step : (c : ℕ) (cs : List ℕ) (b : Bool) → eqb c 10 ≡ b → back (cut_lines cs) ≡ cs → back (cut_lines (c ∷ cs)) ≡ c ∷ cs
unfolding cut_lines
cut_step c cs b e ih = grind (arith, nat_tests)

pub cut_takes : (bytes : List ℕ) → spelled_lines (cut_lines bytes).0 ++ (cut_lines bytes).1 ≡ bytes
unfolding cut_lines
cut_takes [] = refl
cut_takes (c ∷ cs) = cut_step c cs (eqb c 10) refl (cut_takes cs)
