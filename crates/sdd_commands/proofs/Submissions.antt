-- The transactions that are submitted, event by event.
use Rattle.sdd_commands.proofs.All.{All, All-cons, All-nil, Bor, Catalogue, Event, FitsStart, FitsTxn, IsValid, IsValidTxn, List, None, Option, Some, Submit, Txn, Workload, [], filter_map, filter_map-append, found_member, length, lent_fit, map, refl, start_fits, submitted, submitted_by, take, take_more, ℕ, ◌++◌, ◌+◌, ◌-◌, ◌<◌, ◌∷◌, ◌≡◌}
use Rattle.std.proofs.Common.{slice_index_or as get_or}

-- an event adds what it gives
pub submitted_more : (txns : List Txn) (events : List Event) (i : ℕ) (d : Event) → i < length events
    → filter_map (submitted_by txns) (take (i + 1) events) ≡ filter_map (submitted_by txns)
    (take i events) ++ filter_map (submitted_by txns) (get_or events i d ∷ [])
submitted_more txns events i d within = rw (take_more events i d within, filter_map-append) refl

event_fits : (cat : Catalogue) (txns : List Txn) (e : Event) (t : Txn) → All (IsValidTxn cat) txns → submitted_by txns e ≡ Some t → FitsTxn cat t
event_fits cat txns (Submit number) t all is = (found_member (IsValidTxn cat) txns (number.0 - 1) t all is).fits
event_fits cat txns _ t all is = absurd cc

fits_given : (cat : Catalogue) (txns : List Txn) (e : Event) (events : List Event) (given : Option Txn)
    → All (IsValidTxn cat) txns → submitted_by txns e ≡ given
    → All (FitsTxn cat) (filter_map (submitted_by txns) events) → All (FitsTxn cat) (filter_map (submitted_by txns) (e ∷ events))
fits_given cat txns e events None all is rest = rw is rest
fits_given cat txns e events (Some t) all is rest = rw is (All-cons (FitsTxn cat) t (filter_map (submitted_by txns) events) (event_fits cat txns e t all is) rest)

all_fit : (cat : Catalogue) (txns : List Txn) (events : List Event) → All (IsValidTxn cat) txns → All (FitsTxn cat) (filter_map (submitted_by txns) events)
all_fit cat txns [] all = All-nil (FitsTxn cat)
all_fit cat txns (e ∷ events) all = fits_given cat txns e events (submitted_by txns e) all refl (all_fit cat txns events all)

-- the transactions that a valid workload submits fit its catalogue
pub submitted_fit : (cat : Catalogue) (w : Workload) (txns : List (Bor Txn)) → IsValid cat w
    → map (λ t. t.now) txns ≡ submitted w → All (λ (t : Bor Txn). FitsTxn cat t.now) txns
submitted_fit cat w txns valid is = lent_fit cat txns (rw is (all_fit cat w.txns w.events valid.txns))

-- and so do its rows
pub rows_fit : (cat : Catalogue) (w : Workload) → IsValid cat w → All (FitsStart cat) w.rows
rows_fit cat w valid = start_fits cat w.rows valid.rows
