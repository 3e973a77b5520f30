-- The points of a text are those of its spelling.
use Rattle.sdd_words.proofs.All.{Bool, IsSpelling, List, [], ap, arith, behind_point, cases_Bool, content, escaped, has_one_point, has_point, inl, inr, is_point, nat_tests, refl, sym, word_spelled, ℕ, ◌∙◌, ◌∷◌, ◌≡◌}
use Rattle.sdd_words.proofs.Points.{has_here, has_on, behind_here, behind_on}

has_text : (text : List ℕ) → has_point (escaped text) ≡ has_point text
has_text [] = refl
has_text (c ∷ cs) = grind (arith, nat_tests, cases_Bool, has_here, has_on, (has_text cs))

behind_text : (text : List ℕ) → behind_point (escaped text) ≡ escaped (behind_point text)
behind_text [] = refl
behind_text (c ∷ cs) =
    (grind (arith, nat_tests)) ∙ elim (cases_Bool (is_point c)) [
      | inl e ↦ behind_here is_point c (escaped cs) e ∙ ap escaped (sym (behind_here is_point c cs e))
      | inr e ↦ behind_on is_point c (escaped cs) e ∙ behind_text cs ∙ ap escaped (sym (behind_on is_point c cs e))
    ]

pub one_point : (is_text : Bool) (spelling : List ℕ) → IsSpelling is_text spelling
    → has_one_point spelling ≡ has_one_point (content (word_spelled is_text spelling))
one_point is_text spelling is = grind (arith, has_text, behind_text, behind_point)
