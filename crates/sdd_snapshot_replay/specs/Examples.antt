-- Worked examples: runs of two transactions, both of which begin before the first ends.
use Rattle.std.specs.Prelude.{ℕ, ◌==◌, ◌≡◌, pos, if◌then◌else◌, List, [], ◌∷◌, refl}
use Rattle.sdd_lang.specs.All.{Ge, Int, Le, Op, Reply, Rows, effect, rel_no, serial, tm_no}
use Rattle.sdd_lang.specs.declared.condition.Condition.TheVariants.{Const}
use Rattle.sdd_lang.specs.declared.effect.Effect.{Effect}
use Rattle.sdd_lang.specs.declared.statement.Stmt.{Stmt}
use Rattle.sdd_lang.specs.declared.statement.Stmt.TheVariants.{Put, Query}
use Rattle.sdd_lang.specs.declared.transaction.Txn.{Txn}
use Rattle.sdd_laws.specs.links.Examples.{crossing, row_of}
use Rattle.sdd_snapshot_replay.specs.Logs.{Log, SeesSnapshots, database}
use Rattle.sdd_snapshot_replay.specs.Logs.Step.{begins, ends}

abbrev text : List Stmt → Txn
text statements = record { name = []; tm = tm_no 1; statements = statements }

-- the values of keys up to a bound, or from one on
abbrev asks : Op → ℕ → Stmt
asks op bound = Query (record { part = 1; column = 2 } ∷ []) (rel_no 1 ∷ []) (Const (record { part = 1; column = 1 }) op (Int (pos bound)) ∷ [])

abbrev both_begin_first : Log
both_begin_first = ends 2 ∷ ends 1 ∷ begins 2 ∷ begins 1 ∷ []

abbrev none_found : Reply
none_found = Rows ([] ∷ [])

abbrev one_found : Reply
one_found = Rows (((Int (pos 1) ∷ []) ∷ []) ∷ [])

-- Write skew: each asks for the values of one half of the keys, and puts a row into the other half.
abbrev skew : ℕ → Txn
skew n = if n == 1 then text (asks Le 9 ∷ Put (rel_no 1) (row_of 11 1) ∷ []) else text (asks Ge 10 ∷ Put (rel_no 1) (row_of 1 1) ∷ [])

abbrev skew_effects : ℕ → Effect
skew_effects n = effect crossing [] (skew n)

-- neither sees the other's row
pub skew_sees : SeesSnapshots crossing skew [] skew_effects both_begin_first
skew_sees = (refl, (refl, tt))

pub skew_replies : (skew_effects 1).reply ∷ (skew_effects 2).reply ∷ [] ≡ none_found ∷ none_found ∷ []
skew_replies = refl

-- but the second of a serial run does
pub skew_in_order : (serial crossing [] (skew 1 ∷ skew 2 ∷ [])).0 ≡ none_found ∷ one_found ∷ []
skew_in_order = refl

pub skew_turned : (serial crossing [] (skew 2 ∷ skew 1 ∷ [])).0 ≡ none_found ∷ one_found ∷ []
skew_turned = refl

-- A writer and a reader: the reader doesn't see the row, and stands first in the order.
abbrev beside : ℕ → Txn
beside n = if n == 1 then text (Put (rel_no 1) (row_of 1 1) ∷ []) else text (asks Le 9 ∷ [])

abbrev beside_effects : ℕ → Effect
beside_effects n = effect crossing [] (beside n)

pub beside_sees : SeesSnapshots crossing beside [] beside_effects both_begin_first
beside_sees = (refl, (refl, tt))

pub beside_replies : (beside_effects 2).reply ∷ (beside_effects 1).reply ∷ [] ≡ none_found ∷ Rows [] ∷ []
beside_replies = refl

pub beside_turned : (serial crossing [] (beside 2 ∷ beside 1 ∷ [])).0 ≡ none_found ∷ Rows [] ∷ []
beside_turned = refl

pub beside_rows : database crossing [] beside_effects both_begin_first ≡ (serial crossing [] (beside 2 ∷ beside 1 ∷ [])).1
beside_rows = refl
