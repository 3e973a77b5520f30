-- Numbers of uses and conditions stay small.
use Rattle.sdd_exchange.proofs.All.{All, All-filter, All-head, All-nil, All-tail, Asking, Bool, Condition, Const, FitsMove, IsSmallQuery, Join, JoinsWithin, List, Move, Same, Some, Step, [], arith, chosen_by, fewest, filter, flat_map, if◌then◌else◌, is_candidate, joins_from, moves, moves_by, next_move, ℕ, ◌+◌, ◌==◌, ◌∷◌, ◌≡◌, ◌≤◌}

fewest_keeps : (P : Move → Type 0) (counts : List ℕ) (ms : List Move) (m : Move) → All P ms → fewest counts ms ≡ Some m → P m
fewest_keeps P counts [] m all e = cc
fewest_keeps P counts (x ∷ ms) m all e =
    chosen_by P counts x (fewest counts ms) m (All-head P x ms all) (λ y f. fewest_keeps P counts ms y (All-tail P x ms all) f) e

-- moves between columns whose uses have room
fit_by : (before : ℕ) (same : Bool) (j : Join) (rest : List Join) → before + j.left.part ≤ 192 → before + j.right.part ≤ 192
    → All (FitsMove before) (flat_map moves_by rest) → All (FitsMove before) (flat_map moves_by (if same then rest else j ∷ rest))
fit_by before same j rest l r all = grind (arith, flat_map)

fit_moves : (before k : ℕ) (conds : List Condition) → All (JoinsWithin before 192) conds → All (FitsMove before) (flat_map moves_by (joins_from k conds))
fit_moves before k [] all = All-nil (FitsMove before)
fit_moves before k (Const left op value ∷ rest) all = fit_moves before (k + 1) rest (All-tail (JoinsWithin before 192) (Const left op value) rest all)
fit_moves before k (Same left right ∷ rest) all =
    let here : JoinsWithin before 192 (Same left right) = All-head (JoinsWithin before 192) (Same left right) rest all in
    fit_by before (left.part == right.part) (record { number = k; left = left; right = right }) (joins_from (k + 1) rest) here.0 here.1
    (fit_moves before (k + 1) rest (All-tail (JoinsWithin before 192) (Same left right) rest all))

pub move_fits : (q : Asking) (counts : List ℕ) (steps : List Step) (m : Move) → IsSmallQuery q → next_move q.conds counts steps ≡ Some m → FitsMove q.before m
move_fits q counts steps m small e =
    fewest_keeps (FitsMove q.before) counts (filter (is_candidate counts steps) (moves q.conds)) m
    (All-filter (is_candidate counts steps) (FitsMove q.before) (moves q.conds) (fit_moves q.before 1 q.conds small.joins)) e
