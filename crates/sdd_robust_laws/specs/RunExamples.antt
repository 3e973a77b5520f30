-- Worked runs over the relation item (id, val): a lost update, write skew, a phantom, and a reader that sees what no serial
-- order shows.
use Rattle.std.specs.Prelude.{ℕ, ◌==◌, ◌≡◌, pos, Bool, true, false, if◌then◌else◌, List, [], ◌∷◌, ◌++◌, map, refl}
use Rattle.std.specs.List.{list_any}
use Rattle.sdd_lang.specs.All.{Database, Eq, Ge, Int, Le, Op, Reply, Rows, effect, rel_no, serial, tm_no}
use Rattle.sdd_lang.specs.declared.assign.Assign.TheVariants.{Add}
use Rattle.sdd_lang.specs.declared.condition.Condition.{Condition}
use Rattle.sdd_lang.specs.declared.condition.Condition.TheVariants.{Const}
use Rattle.sdd_lang.specs.declared.effect.Effect.{Effect}
use Rattle.sdd_lang.specs.declared.statement.Stmt.{Stmt}
use Rattle.sdd_lang.specs.declared.statement.Stmt.TheVariants.{Put, Query, Update}
use Rattle.sdd_lang.specs.declared.transaction.Txn.{Txn}
use Rattle.sdd_laws.specs.links.Examples.{crossing, row_of}
use Rattle.sdd_snapshot_replay.specs.Logs.{Log, database}
use Rattle.sdd_snapshot_replay.specs.Logs.Step.{begins, ends}
use Rattle.sdd_robust_laws.specs.Runs.{IsSnapshotRun, change_one_item, ended_since}

abbrev pub text : List Stmt → Txn
text statements = record { name = []; tm = tm_no 1; statements = statements }

-- conditions on the key
abbrev pub key_is : Op → ℕ → List Condition
key_is op n = Const (record { part = 1; column = 1 }) op (Int (pos n)) ∷ []

-- the values of rows with such keys
abbrev pub asks : Op → ℕ → Stmt
asks op n = Query (record { part = 1; column = 2 } ∷ []) (rel_no 1 ∷ []) (key_is op n)

abbrev pub adds : ℕ → ℕ → Stmt
adds n by = Update (rel_no 1) (Add 2 (pos by) ∷ []) (key_is Eq n)

abbrev pub puts : ℕ → ℕ → Stmt
puts n value = Put (rel_no 1) (row_of n value)

-- the rows 1 and 2, both with the value 0
abbrev pub two_rows : Database
two_rows = ((1, pos 1), row_of 1 0) ∷ ((1, pos 2), row_of 2 0) ∷ []

-- both have begun before the first ends
abbrev pub at_once : Log
at_once = ends 2 ∷ ends 1 ∷ begins 2 ∷ begins 1 ∷ []

-- A lost update: two runs of one increment, at once. The second to end doesn't commit.

abbrev increments : ℕ → Effect
increments n = effect crossing two_rows (text (adds 1 5 ∷ []))

pub second_is_refused : list_any (λ m. change_one_item crossing (increments m) (increments 2)) (ended_since (ends 1 ∷ begins 2 ∷ begins 1 ∷ []) 2) ≡ true
second_is_refused = refl

-- one that begins when the other has ended may commit
pub later_is_not : ended_since (begins 2 ∷ ends 1 ∷ begins 1 ∷ []) 2 ≡ []
later_is_not = refl

-- Write skew: each asks for the row that the other changes. Both commit.

abbrev pub skew : ℕ → Txn
skew n = if n == 1 then text (asks Eq 1 ∷ adds 2 5 ∷ []) else text (asks Eq 2 ∷ adds 1 5 ∷ [])

abbrev pub skew_effects : ℕ → Effect
skew_effects n = effect crossing two_rows (skew n)

pub skew_is_run : IsSnapshotRun crossing skew two_rows skew_effects at_once
skew_is_run =
    record {
      in_turn = ((refl, refl), ((refl, refl), (refl, (refl, tt))));
      sees = (refl, (refl, tt));
      succeed = refl;
      first_wins = (refl, (refl, tt));
    }

abbrev pub replies_of : (ℕ → Effect) → List ℕ → List Reply
replies_of effects order = map (λ n. (effects n).reply) order

-- the value that each reply shows
abbrev pub shows : List ℕ → List Reply
shows numbers = map (λ n. Rows (((Int (pos n) ∷ []) ∷ []) ∷ [])) numbers

-- neither shows the other's change, as the second of a serial run does
pub skew_replies : replies_of skew_effects (1 ∷ 2 ∷ []) ≡ shows (0 ∷ 0 ∷ [])
skew_replies = refl

pub skew_in_order : (serial crossing two_rows (map skew (1 ∷ 2 ∷ []))).0 ≡ shows (0 ∷ 5 ∷ [])
skew_in_order = refl

pub skew_turned : (serial crossing two_rows (map skew (2 ∷ 1 ∷ []))).0 ≡ shows (0 ∷ 5 ∷ [])
skew_turned = refl

-- A phantom: each asks for the rows of one half of the keys, and puts one into the other half. No row that was there is
-- changed.

abbrev pub phantom : ℕ → Txn
phantom n = if n == 1 then text (asks Le 9 ∷ puts 11 5 ∷ []) else text (asks Ge 10 ∷ puts 9 5 ∷ [])

abbrev pub phantom_effects : ℕ → Effect
phantom_effects n = effect crossing [] (phantom n)

pub phantom_is_run : IsSnapshotRun crossing phantom [] phantom_effects at_once
phantom_is_run =
    record {
      in_turn = ((refl, refl), ((refl, refl), (refl, (refl, tt))));
      sees = (refl, (refl, tt));
      succeed = refl;
      first_wins = (refl, (refl, tt));
    }

abbrev none_then_one : List Reply
none_then_one = Rows ([] ∷ []) ∷ shows (5 ∷ [])

pub phantom_replies : replies_of phantom_effects (1 ∷ 2 ∷ []) ≡ Rows ([] ∷ []) ∷ Rows ([] ∷ []) ∷ []
phantom_replies = refl

pub phantom_in_order : (serial crossing [] (map phantom (1 ∷ 2 ∷ []))).0 ≡ none_then_one
phantom_in_order = refl

pub phantom_turned : (serial crossing [] (map phantom (2 ∷ 1 ∷ []))).0 ≡ none_then_one
phantom_turned = refl

-- A reader alone makes the difference: 1 asks for row 2 and adds to row 1; 2 adds to row 2 meanwhile; 3, which begins when 2
-- has ended, asks for both rows. Without 3 the order is 1, 2.

abbrev pub reader : ℕ → Txn
reader n =
    if n == 1 then text (asks Eq 2 ∷ adds 1 5 ∷ [])
    else if n == 2 then text (adds 2 7 ∷ []) else text (asks Eq 1 ∷ asks Eq 2 ∷ [])

abbrev pub reader_log : Log
reader_log = ends 1 ∷ ends 3 ∷ begins 3 ∷ ends 2 ∷ begins 2 ∷ begins 1 ∷ []

abbrev pub reader_effects : ℕ → Effect
reader_effects n =
    if n == 3
    then effect crossing (database crossing two_rows (λ m. effect crossing two_rows (reader m)) (ends 2 ∷ begins 2 ∷ begins 1 ∷ [])) (reader 3)
    else effect crossing two_rows (reader n)

pub reader_is_run : IsSnapshotRun crossing reader two_rows reader_effects reader_log
reader_is_run =
    record {
      in_turn = ((refl, refl), ((refl, refl), (refl, ((refl, refl), (refl, (refl, tt))))));
      sees = (refl, (refl, (refl, tt)));
      succeed = refl;
      first_wins = (refl, (refl, (refl, tt)));
    }

-- the reader shows the change of 2 and not that of 1, and 1 doesn't show the change of 2
abbrev shows_two : ℕ → ℕ → Reply
shows_two a b = Rows (((Int (pos a) ∷ []) ∷ []) ∷ ((Int (pos b) ∷ []) ∷ []) ∷ [])

pub reader_replies : replies_of reader_effects (1 ∷ 2 ∷ 3 ∷ []) ≡ shows (0 ∷ []) ++ Rows [] ∷ shows_two 0 7 ∷ []
reader_replies = refl

-- so in no order: where 1 stands before 3, the reader shows its change; where 2 stands before 1, that shows the change of 2;
-- and where 3 stands before 2, the reader doesn't show the change of 2
abbrev replies_in : List ℕ → List Reply
replies_in order = (serial crossing two_rows (map reader order)).0

pub reader_123 : replies_in (1 ∷ 2 ∷ 3 ∷ []) ≡ shows (0 ∷ []) ++ Rows [] ∷ shows_two 5 7 ∷ []
reader_123 = refl

pub reader_132 : replies_in (1 ∷ 3 ∷ 2 ∷ []) ≡ shows (0 ∷ []) ++ shows_two 5 0 ∷ Rows [] ∷ []
reader_132 = refl

pub reader_213 : replies_in (2 ∷ 1 ∷ 3 ∷ []) ≡ Rows [] ∷ shows (7 ∷ []) ++ shows_two 5 7 ∷ []
reader_213 = refl

pub reader_231 : replies_in (2 ∷ 3 ∷ 1 ∷ []) ≡ Rows [] ∷ shows_two 0 7 ∷ shows (7 ∷ [])
reader_231 = refl

pub reader_312 : replies_in (3 ∷ 1 ∷ 2 ∷ []) ≡ shows_two 0 0 ∷ shows (0 ∷ []) ++ Rows [] ∷ []
reader_312 = refl

pub reader_321 : replies_in (3 ∷ 2 ∷ 1 ∷ []) ≡ shows_two 0 0 ∷ Rows [] ∷ shows (7 ∷ [])
reader_321 = refl
