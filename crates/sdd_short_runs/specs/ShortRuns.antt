-- Short runs: a transaction begins, others run one after the other, and the first one ends. The runs of the inner ones have the
-- numbers 0, 1, .. in their order, and that of the outer one has the next number.
use Rattle.std.specs.Prelude.{ℕ, suc, List, [], ◌∷◌, fold, length, map, slice_index_or}
use Rattle.std.specs.Borrow.{Bor}
use Rattle.sdd_lang.specs.All.{Catalogue, Database, after_changes, effect}
use Rattle.sdd_lang.specs.declared.effect.Effect.{Effect}
use Rattle.sdd_lang.specs.declared.transaction.Txn.{Txn}
use Rattle.sdd_snapshot_replay.specs.Logs.{Log}
use Rattle.sdd_snapshot_replay.specs.Logs.Step.{begins, ends}
use Rattle.sdd_robust_laws.specs.Runs.{IsCounterexample}

abbrev pub lent_txns : List (Bor Txn) → List Txn
lent_txns txns = map (λ t. t.now) txns

-- the database after effects, one after the other
abbrev pub after_effects : Catalogue → Database → List Effect → Database
after_effects cat db effects = fold (λ d e. after_changes cat d e.changes) db effects

-- the effects of transactions that run one after the other
abbrev pub effects_in_turn : Catalogue → Database → List Txn → List Effect
effects_in_turn cat db [] = []
effects_in_turn cat db (txn ∷ rest) =
    let e : Effect = effect cat db txn in
    e ∷ effects_in_turn cat (after_changes cat db e.changes) rest

-- the transaction that a run is of
abbrev pub txn_of : Txn → List Txn → ℕ → Txn
txn_of outer inner n = slice_index_or inner n outer

-- the effects by the numbers of the runs: while the outer one runs, no change of it is made
abbrev pub effect_of : Catalogue → Database → Txn → List Txn → ℕ → Effect
effect_of cat first outer inner n = slice_index_or (effects_in_turn cat first inner) n (effect cat first outer)

-- the log with runs of so many, one after the other, the first of which has this number
abbrev pub in_turn : ℕ → List Txn → Log → Log
in_turn n [] log = log
in_turn n (txn ∷ rest) log = in_turn (suc n) rest (ends n ∷ begins n ∷ log)

abbrev pub short_log : List Txn → Log
short_log inner = ends (length inner) ∷ in_turn 0 inner (begins (length inner) ∷ [])

-- the short run of these transactions is like no serial one
abbrev pub IsShortCounterexample : Catalogue → List Txn → Database → Txn → List Txn → Type 0
IsShortCounterexample cat work first outer inner =
    IsCounterexample cat work first (txn_of outer inner) (effect_of cat first outer inner) (short_log inner)
