-- No line is at fault exactly where the rule finds nothing at each.
use Rattle.sdd_certify.proofs.All.{Finding, LineRule, List, None, Option, Some, Yes, [], ap, append-nil, append_assoc, arith, at_or, first_behind, get_or, length, refl, suc, sym, take, zero, ℕ, ◌++◌, ◌+◌, ◌<◌, ◌∙◌, ◌∷◌, ◌≡◌}

-- a line that isn't at fault
record Passed (o : Option (List ℕ)) (other : Finding) : Type 0 where
  none : o ≡ None
  other_is : other ≡ Yes

passed_by : (number : ℕ) (o : Option (List ℕ)) (other : Finding) → at_or number o other ≡ Yes → Passed o other
passed_by number None other h = record { none = refl; other_is = h }
passed_by number (Some name) other h = absurd cc

pub none_found : (rule : LineRule) (before lines : List (List ℕ)) → first_behind rule before lines ≡ Yes → (k : ℕ) → k < length lines
    → rule (before ++ take k lines) (get_or lines k []) ≡ None
none_found rule before [] h k lt = absurd (omega (arith, lt))
none_found rule before (line ∷ lines) h zero lt =
    let p = passed_by (length before + 1) (rule before line) (first_behind rule (before ++ line ∷ []) lines) h in
    ap (λ (b : List (List ℕ)). rule b line) (append-nil before) ∙ p.none
none_found rule before (line ∷ lines) h (suc k) lt =
    let p = passed_by (length before + 1) (rule before line) (first_behind rule (before ++ line ∷ []) lines) h in
    ap (λ (b : List (List ℕ)). rule b (get_or lines k [])) (sym (append_assoc before (line ∷ []) (take k lines)))
    ∙ none_found rule (before ++ line ∷ []) lines p.other_is k (omega (arith, lt))

pub all_none : (rule : LineRule) (before lines : List (List ℕ))
    → ((k : ℕ) → k < length lines → rule (before ++ take k lines) (get_or lines k []) ≡ None) → first_behind rule before lines ≡ Yes
all_none rule before [] h = refl
all_none rule before (line ∷ lines) h =
    let here : rule before line ≡ None = ap (λ (b : List (List ℕ)). rule b line) (sym (append-nil before)) ∙ h 0 (omega arith) in
    let more = all_none rule (before ++ line ∷ []) lines
    (λ k lt. ap (λ (b : List (List ℕ)). rule b (get_or lines k [])) (append_assoc before (line ∷ []) (take k lines)) ∙ h (suc k) (omega (arith, lt))) in
    rw here more
