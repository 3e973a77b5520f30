-- The transactions of a valid workload fit each catalogue that is in force.
use Rattle.sdd_verify.proofs.All.{All, All-nil, All-tail, Catalogue, FitsTxn, IsValid, IsValidTxn, List, Txn, Workload, [], arith, classes_in, era_at, eras_in, fits_era, subst, sym, ℕ, ◌∷◌, ◌≡◌}

all_fit : (cat : Catalogue) (work : Workload) (n : ℕ) (txns : List Txn) → All (IsValidTxn cat) txns → All (FitsTxn (era_at cat (eras_in cat work) n)) txns
all_fit cat work n [] all = All-nil (FitsTxn (era_at cat (eras_in cat work) n))
all_fit cat work n (t ∷ txns) all = grind (arith, era_at, eras_in, fits_era, classes_in, (all_fit cat work n txns (All-tail (IsValidTxn cat) t txns all)))

pub txns_fit : (cat : Catalogue) (work : Workload) (eras : List Catalogue) → eras ≡ eras_in cat work → IsValid cat work
    → (n : ℕ) → All (FitsTxn (era_at cat eras n)) work.txns
txns_fit cat work eras are valid n = subst (λ (es : List Catalogue). All (FitsTxn (era_at cat es n)) work.txns) (sym are) (all_fit cat work n work.txns valid.txns)
