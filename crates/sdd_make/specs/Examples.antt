-- Worked examples.
use Rattle.std.specs.Prelude.{ℕ, ◌≡◌, List, [], ◌∷◌, codes, refl}
use Rattle.std.specs.Fmt.{digits}
use Rattle.sdd_script.specs.All.{D, Settle, Submit, T, dm_no, tm_no, txn_no}
use Rattle.sdd_make.specs.Draws.{Drawing, ◌>>=◌, give, draw}
use Rattle.sdd_make.specs.Statements.{payment, txn_at}
use Rattle.sdd_make.specs.Summary.{summary_text}
use Rattle.sdd_make.specs.Turns.{arrival, workload_of}

-- the first three numbers of seed 1 that 2 ^ 15 bounds
abbrev pub three : Drawing (List ℕ)
three = do
  a ← draw 32768
  b ← draw 32768
  c ← draw 32768
  give (a ∷ b ∷ c ∷ [])

pub first_numbers : (three 1).0 ≡ 16838 ∷ 5758 ∷ 10113 ∷ []
first_numbers = refl

-- one transaction of seed 1: a payment from account 8 to account 1003, and three deliveries
pub one_transaction : (workload_of 1 1).txns ≡ txn_at 1 3 (payment 8 1003) ∷ []
one_transaction = refl

pub its_events
    : (workload_of 1 1).events
    ≡ Submit (txn_no 1) ∷ arrival (T (tm_no 1)) (D (dm_no 2)) ∷ arrival (D (dm_no 3)) (T (tm_no 1)) ∷ arrival (T (tm_no 3)) (D (dm_no 1)) ∷ Settle ∷ []
its_events = refl

pub no_transaction : (workload_of 7 0).events ≡ Settle ∷ []
no_transaction = refl

pub one_summary
    : summary_text (record { transactions = 1; committed = 1; rejections = 0; waits = 2; events = 33 })
    ≡ codes "transactions 1\ncommitted 1\nrejections 0\nwaits 2\nevents 33\nend\n"
unfolding digits
one_summary = refl
