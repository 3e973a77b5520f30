-- Moves that are looked at one after the other leave the first with the fewest source rows.
use Rattle.std.proofs.Common.{ℕ, ◌+◌, ◌<◌, ◌≡◌, refl, ap, sym, ◌∙◌, arith, Bool, List, [], ◌∷◌, ◌++◌, length, filter, drop, get_or, Option, Some, None, rules}
use Rattle.std.proofs.lemmas.List.Elements.{filter-append}
use Rattle.std.proofs.lemmas.List.{at_drop_more}
use Rattle.sdd_lang.specs.declared.condition.Condition.{Condition}
use Rattle.sdd_semijoin.specs.declared.step.Step.{Step}
use Rattle.sdd_semijoin.specs.Steps.{Move, moves, is_candidate, better, fewest, next_move}
use Rattle.sdd_semijoin.specs.Choosing.{moves_from, fewer, best_after}

-- to put a move before the best of others, or after the best before it, is the same
better_fewer : (counts : List ℕ) (b m : Move) (o : Option Move) → better counts b (better counts m o) ≡ better counts (fewer counts (Some b) m) o
better_fewer counts b m o = search rules

after_is_better : (counts : List ℕ) (b : Move) (ms : List Move) → best_after counts (Some b) ms ≡ better counts b (fewest counts ms)
after_is_better counts b [] = refl
after_is_better counts b (m ∷ ms) = after_is_better counts (fewer counts (Some b) m) ms ∙ sym (better_fewer counts b m (fewest counts ms))

best_is_fewest : (counts : List ℕ) (ms : List Move) → best_after counts None ms ≡ fewest counts ms
best_is_fewest counts [] = refl
best_is_fewest counts (m ∷ ms) = after_is_better counts m ms

best-append : (counts : List ℕ) (best : Option Move) (xs ys : List Move)
    → best_after counts best (xs ++ ys) ≡ best_after counts (best_after counts best xs) ys
best-append counts best [] ys = refl
best-append counts best (x ∷ xs) ys = best-append counts (Some (fewer counts best x)) xs ys

-- the moves of the first condition come first
moves_split : (k : ℕ) (c : Condition) (rest : List Condition) → moves_from k (c ∷ rest) ≡ moves_from k (c ∷ []) ++ moves_from (k + 1) rest
moves_split k c rest = grind arith

pub none_before : (counts : List ℕ) (done : List Step) (conds : List Condition)
    → best_after counts None (filter (is_candidate counts done) (moves_from 1 conds)) ≡ next_move conds counts done
none_before counts done conds = best_is_fewest counts (filter (is_candidate counts done) (moves conds))

-- one condition more
pub best_more : (counts : List ℕ) (done : List Step) (conds : List Condition) (i : ℕ) (c : Condition) (best new end : Option Move) → i < length conds
    → c ≡ get_or conds i c
    → new ≡ best_after counts best (filter (is_candidate counts done) (moves_from (i + 1) (c ∷ [])))
    → best_after counts best (filter (is_candidate counts done) (moves_from (i + 1) (drop i conds))) ≡ end
    → best_after counts new (filter (is_candidate counts done) (moves_from (i + 1 + 1) (drop (i + 1) conds))) ≡ end
best_more counts done conds i c best new end within is e h =
    let p : Move → Bool = is_candidate counts done in
    let rest : List Condition = drop (i + 1) conds in
    let here : moves_from (i + 1) (drop i conds) ≡ moves_from (i + 1) (c ∷ []) ++ moves_from (i + 1 + 1) rest =
    at_drop_more (moves_from (i + 1)) conds i c within ∙ ap (λ z. moves_from (i + 1) (z ∷ rest)) (sym is) ∙ moves_split (i + 1) c rest in
    let parts : filter p (moves_from (i + 1) (drop i conds)) ≡ filter p (moves_from (i + 1) (c ∷ [])) ++ filter p (moves_from (i + 1 + 1) rest) =
    ap (filter p) here ∙ filter-append p (moves_from (i + 1) (c ∷ [])) (moves_from (i + 1 + 1) rest) in
    ap (λ b. best_after counts b (filter p (moves_from (i + 1 + 1) rest))) e
    ∙ sym (best-append counts best (filter p (moves_from (i + 1) (c ∷ []))) (filter p (moves_from (i + 1 + 1) rest)))
    ∙ ap (best_after counts best) (sym parts) ∙ h
