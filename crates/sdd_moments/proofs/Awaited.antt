-- Messages in the order of their numbers, of which those up to a number are taken.
use Rattle.sdd_moments.proofs.All.{List, Purpose, [], ap, append-nil, append_assoc, arith, behind, le-leb, length, refl, sym, up_to, ℕ, ◌++◌, ◌<◌, ◌∙◌, ◌∷◌, ◌≡◌, ◌≤◌}

up_to_one : (n : ℕ) (x : ℕ × Purpose) (old new : List (ℕ × Purpose)) → old ≡ x ∷ new → x.0 ≤ n → up_to n old ≡ x ∷ up_to n new
up_to_one n x old new e l = rw (e, le-leb x.0 n l) refl

pub taken_more : (n : ℕ) (x : ℕ × Purpose) (old new taken more all : List (ℕ × Purpose)) → old ≡ x ∷ new → x.0 ≤ n
    → more ≡ taken ++ x ∷ [] → taken ++ up_to n old ≡ all → more ++ up_to n new ≡ all
taken_more n x old new taken more all is l push e =
    ap (λ xs. xs ++ up_to n new) push ∙ append_assoc taken (x ∷ []) (up_to n new)
    ∙ ap (λ xs. taken ++ xs) (sym (up_to_one n x old new is l)) ∙ e

pub left_more : (n : ℕ) (x : ℕ × Purpose) (old new all : List (ℕ × Purpose)) → old ≡ x ∷ new → x.0 ≤ n → behind n old ≡ all → behind n new ≡ all
left_more n x old new all is l e = sym (rw (is, le-leb x.0 n l) refl) ∙ e

pub taken_end : (n : ℕ) (old taken all : List (ℕ × Purpose)) → up_to n old ≡ [] → taken ++ up_to n old ≡ all → taken ≡ all
taken_end n old taken all none e = sym (append-nil taken) ∙ ap (λ xs. taken ++ xs) (sym none) ∙ e

pub shorter : (old new : List (ℕ × Purpose)) (x : ℕ × Purpose) → old ≡ x ∷ new → length new < length old
shorter old new x e = rw e (omega arith)
