-- With each move fewer are left: a query of n conditions is reduced by at most 2 * n moves.
use Rattle.std.proofs.Common.{ℕ, ◌+◌, ◌*◌, ◌<◌, ◌≤◌, ◌≡◌, arith, Bool, true, not, List, [], ◌∷◌, ◌++◌, length, filter, Option, Some}
use Rattle.std.specs.List.{flat_map, list_any}
use Rattle.std.proofs.lemmas.List.Folds.{list_any-append}
use Rattle.sdd_lang.specs.declared.condition.Condition.{Condition}
use Rattle.sdd_lang.specs.declared.condition.Condition.TheVariants.{Const, Same}
use Rattle.sdd_semijoin.specs.declared.step.Step.{Step}
use Rattle.sdd_semijoin.specs.Steps.{Move, joins_from, moves, moves_by, is_candidate, same_step, better, fewest, next_move}
use Rattle.sdd_semijoin.specs.Undone.{undone_among, undone}

-- how many moves there are

few_from : (k : ℕ) (conds : List Condition) → length (flat_map moves_by (joins_from k conds)) ≤ 2 * length conds
few_from k [] = omega arith
few_from k (Const left op value ∷ rest) = omega (arith, few_from (k + 1) rest)
few_from k (Same left right ∷ rest) = grind (arith, few_from (k + 1) rest)

few_left : (p : Move → Bool) (ms : List Move) → length (filter p ms) ≤ length ms
few_left p [] = omega arith
few_left p (m ∷ ms) = grind (arith, few_left p ms)

pub few_undone : (conds : List Condition) (done : List Step) → undone conds done ≤ 2 * length conds
few_undone conds done = omega (arith, few_left (λ m. not (list_any (same_step m.step) done)) (moves conds), few_from 1 conds)

-- whether a move is done after one step more

no_more : (done : List Step) (s : Step) (ms : List Move) → undone_among (done ++ s ∷ []) ms ≤ undone_among done ms
no_more done s [] = omega arith
no_more done s (m ∷ ms) = grind (arith, list_any-append, no_more done s ms)

less_behind : (done : List Step) (s : Step) (m : Move) (ms : List Move) → undone_among (done ++ s ∷ []) ms < undone_among done ms
    → undone_among (done ++ s ∷ []) (m ∷ ms) < undone_among done (m ∷ ms)
less_behind done s m ms h = grind (arith, list_any-append)

less_here : (done : List Step) (m : Move) (ms : List Move) → not (list_any (same_step m.step) done) ≡ true
    → undone_among (done ++ m.step ∷ []) (m ∷ ms) < undone_among done (m ∷ ms)
less_here done m ms e = grind (arith, list_any-append, no_more)

-- a move that is chosen
abbrev Falls : List Step → List Move → Move → Type 0
Falls done ms m = undone_among (done ++ m.step ∷ []) ms < undone_among done ms

falls_by : (counts : List ℕ) (done : List Step) (x : Move) (ms : List Move) (m : Move) (o : Option Move) → not (list_any (same_step x.step) done) ≡ true
    → (o ≡ Some m → Falls done ms m) → better counts x o ≡ Some m → Falls done (x ∷ ms) m
falls_by counts done x ms m o new rest e = grind (arith, less_here)

falls : (counts : List ℕ) (done : List Step) (ms : List Move) (m : Move) → fewest counts (filter (is_candidate counts done) ms) ≡ Some m
    → Falls done ms m
falls counts done [] m e = cc
falls counts done (x ∷ ms) m e = grind (arith, falls_by, less_behind, falls counts done ms m)

pub fewer_left : (conds : List Condition) (counts : List ℕ) (done : List Step) (m : Move) → next_move conds counts done ≡ Some m
    → undone conds (done ++ m.step ∷ []) < undone conds done
fewer_left conds counts done m e = falls counts done (moves conds) m e
