-- An exchange has room from its beginning to its end.
use Rattle.sdd_exchange.proofs.All.{All, All-head, All-nil, All-tail, AreAwaited, AreSmall, Asking, Bool, CarriesFew, Exchange, Fetching, HasRoom, HasUnion, IsSmallQuery, IsSmallStatement, IsSmallText, List, Move, Msg, None, Option, Over, Phase, Row, Shipping, Site, Some, Step, Stmt, Txn, Value, [], after_hand, after_send, answered, arith, asking_of, askings, begins, cond, contains, counted, counts_for, fetches, fetches_from, few_filtered, few_picked, few_undone, fewer_left, first_phase, for_move, for_phase, for_reduce, goes_on, if◌then◌else◌, insert_key, inserted_few, is_fetching, length, length-append, most_values, move_at, moves_left, mul-le, mul-le-mul_right, nat_tests, next_move, not, on_answer, own, phase_ends, reduces, refl, subst, suc-mul, true, uses_in, value_cmp, with_values, without, ℕ, ◌&&◌, ◌*◌, ◌++◌, ◌+◌, ◌<◌, ◌==◌, ◌^◌, ◌∷◌, ◌≡◌, ◌≤◌}
use Rattle.sdd_rules.specs.All.{with_use}
use Rattle.sdd_exchange.proofs.Going.{goes_by}
use Rattle.sdd_module.specs.wire.declared.msg.Msg.TheVariants as msgs

-- lengths

pub few_with_use : (x : Exchange) (u : ℕ) → length (with_use x u) ≤ length x.modules
few_with_use x u = few_picked (λ (m : ℕ × List ℕ). cond (contains m.1 u) (Some m.0) None) x.modules

few_without : (ns : List ℕ) (d : ℕ) → length (without ns d) ≤ length ns
few_without ns d = few_filtered (λ n. not (n == d)) ns

fewer_without : (ns : List ℕ) (d : ℕ) → contains ns d ≡ true → length (without ns d) < length ns
fewer_without [] d e = cc
fewer_without (n ∷ ns) d e = grind (arith, contains, without, few_without, (fewer_without ns d))

few_united : (us vs : List Value) → length (with_values us vs) ≤ length us + length vs
few_united us [] = omega arith
few_united us (v ∷ vs) = omega (arith, few_united (insert_key value_cmp us v) vs, inserted_few value_cmp us v)

-- REDUCE

-- the exchange has room to reduce by m
pub record CanReduce (x : Exchange) : Type 0 where
  pub small : AreSmall x.left
  pub values : x.values + for_reduce (length x.modules) + moves_left x.left x.done * for_move (length x.modules) < 2 ^ 128
  pub union : length x.union ≤ most_values (length x.modules)
  pub rows : x.rows ≡ length x.found

reduces_room : (ts c : ℕ) (m : Move) (x : Exchange) → CanReduce x → HasRoom (reduces ts c m x)
reduces_room ts c m x can = grind (arith, mul-le, few_with_use)

-- FETCH

-- the exchange has room for a move
pub record CanMove (x : Exchange) : Type 0 where
  pub small : AreSmall x.left
  pub values : x.values + for_move (length x.modules) + moves_left x.left x.done * for_move (length x.modules) < 2 ^ 128
  pub rows : x.rows ≡ length x.found

from_room : (ts c : ℕ) (m : Move) (x : Exchange) (dms : List ℕ) → length dms ≤ length x.modules → CanMove x → HasRoom (fetches_from ts c m x dms)
from_room ts c m x dms few can = grind arith

fetches_room : (ts c : ℕ) (m : Move) (x : Exchange) → CanMove x → HasRoom (fetches ts c m x)
fetches_room ts c m x can = from_room ts c m x (with_use x m.source.part) (few_with_use x m.source.part) can

-- the next move, or SHIP

fewer_moves : (n k f : ℕ) → n < k → f + n * f ≤ k * f
fewer_moves n k f less = omega (arith, mul-le-mul_right f less, suc-mul n f)

rest_fewer : (q : Asking) (rest : List Asking) (steps : List Step) → moves_left rest [] ≤ moves_left (q ∷ rest) steps
rest_fewer q rest steps = omega arith

by_room : (ts c : ℕ) (x : Exchange) (q : Asking) (rest : List Asking) (steps : List Step) (o : Option Move) → AreSmall (q ∷ rest) → x.rows ≡ length x.found
    → x.values + moves_left (q ∷ rest) steps * for_move (length x.modules) < 2 ^ 128 → next_move q.conds (counts_for x.counts q) steps ≡ o
    → HasRoom (goes_on ts c x rest []) → HasRoom (goes_by ts c x q rest steps o)
by_room ts c x q rest steps None small rows values e other = other
by_room ts c x q rest steps (Some m) small rows values e other =
    fetches_room ts c (move_at q.before m) (record x { left = q ∷ rest; done = steps ++ m.step ∷ [] })
    (record { small = small; values = grind (arith, fewer_left, fewer_moves); rows = rows })

goes_room : (ts c : ℕ) (x : Exchange) (qs : List Asking) (steps : List Step) → AreSmall qs → x.rows ≡ length x.found
    → x.values + moves_left qs steps * for_move (length x.modules) < 2 ^ 128 → HasRoom (goes_on ts c x qs steps)
goes_room ts c x [] steps small rows values = record { small = small; values = omega (arith, values); union = tt; rows = rows }
goes_room ts c x (q ∷ rest) steps small rows values =
    by_room ts c x q rest steps (next_move q.conds (counts_for x.counts q) steps) small rows values refl
    (goes_room ts c x rest [] (All-tail IsSmallQuery q rest small) rows (grind (arith, mul-le-mul_right, rest_fewer)))

-- the end of a phase
ends_room : (ts c : ℕ) (x : Exchange) (p : Phase) → x.phase ≡ p → HasRoom x → HasRoom (phase_ends ts c x p)
ends_room ts c x (Fetching m) e room =
    let values : x.values + for_phase (length x.lacks) (length x.modules) (Fetching m) + moves_left x.left x.done * for_move (length x.modules) < 2 ^ 128 =
    subst (λ p. x.values + for_phase (length x.lacks) (length x.modules) p + moves_left x.left x.done * for_move (length x.modules) < 2 ^ 128) e room.values in
    let union : HasUnion (length x.union) (length x.lacks) (length x.modules) (Fetching m) = grind (arith, nat_tests) in
    reduces_room ts c m x (record { small = room.small; values = omega (arith, values); union = omega (arith, union); rows = room.rows })
ends_room ts c x Shipping e room = record { small = room.small; values = omega (arith, room.values); union = tt; rows = room.rows }
ends_room ts c x Over e room = room
ends_room ts c x _ e room = goes_room ts c x x.left x.done room.small room.rows (omega (arith, room.values))

on_answer_room : (ts c : ℕ) (x : Exchange) (dms : List ℕ) → HasRoom (record x { lacks = dms }) → HasRoom (on_answer ts c x dms)
on_answer_room ts c x dms room = grind (arith, ends_room)

-- answers

-- where fewer answers lack there is as much room
phase_fewer : (few lacks modules : ℕ) (p : Phase) → few ≤ lacks → for_phase few modules p ≤ for_phase lacks modules p
phase_fewer few lacks modules p le = grind arith

union_fewer : (union few lacks modules : ℕ) (p : Phase) → few ≤ lacks → HasUnion union lacks modules p → HasUnion union few modules p
union_fewer union few lacks modules p le h = grind arith

answered_room : (ts c d : ℕ) (x : Exchange) → HasRoom x → HasRoom (answered ts c d x)
answered_room ts c d x room = grind (arith, few_without, on_answer_room, phase_fewer, union_fewer)

-- the values that come have the room of the answer that lacked
values_by : (values few lacks modules : ℕ) (p : Phase) → is_fetching p ≡ true → few < lacks → values < 2 ^ 64
    → values + for_phase few modules p ≤ for_phase lacks modules p
values_by values few lacks modules p e less small = grind arith

united_by : (union all values few lacks modules : ℕ) (p : Phase) → is_fetching p ≡ true → few < lacks → values < 2 ^ 64 → all ≤ union + values
    → HasUnion union lacks modules p → HasUnion all few modules p
united_by union all values few lacks modules p e less small le h = grind arith

values_room : (ts c d : ℕ) (vs : List Value) (x : Exchange) → HasRoom x → is_fetching x.phase ≡ true → contains x.lacks d ≡ true → length vs < 2 ^ 64
    → HasRoom (answered ts c d (record x { union = with_values x.union vs; values = x.values + length vs }))
values_room ts c d vs x room fetching lacks few = grind (arith, fewer_without, on_answer_room, values_by, united_by, few_united)

rows_room : (ts c d : ℕ) (rows : List (ℕ × Row)) (x : Exchange) → HasRoom x
    → HasRoom (answered ts c d (record x { found = x.found ++ rows; rows = x.rows + length rows }))
rows_room ts c d rows x room =
    answered_room ts c d _ (record { small = room.small; values = room.values; union = room.union; rows = omega (arith, room.rows, length-append x.found rows) })

counts_room : (ts c d : ℕ) (counts : List ((ℕ × ℕ) × ℕ)) (x : Exchange) → HasRoom x → HasRoom (answered ts c d (record x { counts = counts }))
counts_room ts c d counts x room =
    answered_room ts c d (record x { counts = counts }) (record { small = room.small; values = room.values; union = room.union; rows = room.rows })

-- a message

where_own : (own : Bool) (x y : Exchange) → HasRoom x → (own ≡ true → HasRoom y) → HasRoom (if own then y else x)
where_own own x y room h = grind arith

pub handed_room : (ts c d : ℕ) (m : Msg) (x : Exchange) → HasRoom x → AreAwaited ts c d m x → CarriesFew m → HasRoom (after_hand ts c d m x)
handed_room ts c d (msgs.Ready t k counts) x room awaited few = grind (arith, nat_tests, where_own, counts_room, counted)
handed_room ts c d (msgs.Values t k u vs) x room awaited few =
    where_own ((t.0 == ts) && (k.0 == c)) x _ room (λ own. values_room ts c d vs x room (awaited own).0 (awaited own).1 few)
handed_room ts c d (msgs.Reduced t k u n) x room awaited few =
    where_own ((t.0 == ts) && (k.0 == c)) x _ room (λ own. counts_room ts c d (counted d ((u, n) ∷ []) x.counts) x room)
handed_room ts c d (msgs.Rows t k rows) x room awaited few = where_own ((t.0 == ts) && (k.0 == c)) x _ room (λ own. rows_room ts c d rows x room)
handed_room ts c d _ x room awaited few = room

-- the beginning

asking_small : (before : ℕ) (s : Stmt) → before + uses_in s ≤ 192 → before ≤ 186 → IsSmallStatement s → AreSmall (asking_of before s)
asking_small before s few low small = grind arith

few_uses : (s : Stmt) → IsSmallStatement s → uses_in s ≤ 6
few_uses s small = grind arith

askings_small : (before : ℕ) (sts : List Stmt) → before + 6 * length sts ≤ 192 → All IsSmallStatement sts → AreSmall (askings before sts)
askings_small before [] few all = All-nil IsSmallQuery
askings_small before (s ∷ rest) few all =
    let small : IsSmallStatement s = All-head IsSmallStatement s rest all in
    let uses = few_uses s small in
    grind (arith, nat_tests, asking_of, askings, uses_in, asking_small, (askings_small (before + uses_in s) rest (omega (arith, few, uses)) (All-tail IsSmallStatement s rest all)))

first_moves : (before : ℕ) (s : Stmt) (rest : List Asking) → IsSmallStatement s → moves_left (asking_of before s ++ rest) [] ≤ 32 + moves_left rest []
first_moves before s rest small = grind (arith, few_undone)

few_moves : (before : ℕ) (sts : List Stmt) → All IsSmallStatement sts → moves_left (askings before sts) [] ≤ 32 * length sts
few_moves before [] all = omega arith
few_moves before (s ∷ rest) all =
    grind (arith, first_moves, All-head, All-tail, few_moves (before + uses_in s) rest (All-tail IsSmallStatement s rest all))

-- 32 statements make at most 1024 moves
begins_values : (moves modules : ℕ) → moves ≤ 1024 → modules ≤ 65536 → moves * for_move modules < 2 ^ 128
begins_values moves modules few low = grind arith

begins_by : (text : Txn) (ms : List (ℕ × List ℕ)) (x : Exchange) → x.phase ≡ first_phase ms → AreSmall x.left
    → x.values + moves_left x.left x.done * for_move (length x.modules) < 2 ^ 128 → x.rows ≡ length x.found → HasRoom x
begins_by text ms x e small values rows = grind arith

pub begins_room : (text : Txn) (sends : List (Site × Msg)) → IsSmallText text → length sends ≤ 65536 → HasRoom (begins text sends)
begins_room text sends small few = grind (arith, few_moves, begins_by, begins, askings_small, begins_values, few_picked)

-- what is sent no longer takes no room
pub sent_room : (x : Exchange) → HasRoom x → HasRoom (after_send x)
sent_room x room = record { small = room.small; values = room.values; union = room.union; rows = room.rows }

-- the values that come have room
pub values_below : (x : Exchange) → HasRoom x → x.values < 2 ^ 128
values_below x room = omega (arith, room.values)
