-- What was written, one run more.
use Rattle.sdd_words.proofs.All.{List, [], ap, append_assoc, arith, cases_Bool, cond-false, cond-true, drop, escaped, inl, inr, is_special, length, length-drop, not, position_or_len, refl, suc, sym, take, take_all, ℕ, ◌++◌, ◌+◌, ◌-◌, ◌∙◌, ◌∷◌, ◌≡◌}
use Rattle.sdd_words.proofs.Runs.{run_of}

-- a run is spelled as it is
run_escaped : (text : List ℕ) → escaped text ≡ take (run_of text) text ++ escaped (drop (run_of text) text)
run_escaped [] = refl
run_escaped (c ∷ cs) =
    let parted = λ (n : ℕ). take n (c ∷ cs) ++ escaped (drop n (c ∷ cs)) in
    elim (cases_Bool (is_special c)) [
      | inl special ↦
          grind (arith, run_of, cond-false, is_special)
      | inr plain ↦
          let one : run_of (c ∷ cs) ≡ suc (run_of cs) =
          cond-true (not (is_special c)) (1 + run_of cs) 0 (ap not plain) ∙ omega arith in
          let rest : c ∷ escaped cs ≡ parted (suc (run_of cs)) = ap (λ (l : List ℕ). c ∷ l) (run_escaped cs) in
          ap (λ (l : List ℕ). l ++ escaped cs) (cond-false (is_special c) (92 ∷ c ∷ []) (c ∷ []) plain) ∙ rest ∙ sym (ap parted one)
    ]

-- a run was written, and the rest of the text is left
pub run_written : (out text : List ℕ) (n : ℕ) → n ≡ position_or_len is_special text
    → (out ++ take n text) ++ escaped (take (length text - n) (drop n text)) ≡ out ++ escaped text
run_written out text n run = grind (arith, take_all, length-drop, run_escaped, append_assoc)
