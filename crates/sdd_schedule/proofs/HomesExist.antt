-- The sites of modules and of transactions exist.
use Rattle.sdd_schedule.proofs.All.{Bool, Catalogue, D, DmNo, Input, IsSiteOf, IsSoundNetwork, List, Log, None, Option, Some, T, TmNo, Txn, U, ap, class_for, false, get_or, home_of, if◌then◌else◌, is_site, last_home, length, nth_era, redeclares, refl, slice_get, slice_get-get_or, slice_get_past, subst, sym, true, txn_at, ℕ, ◌-◌, ◌<◌, ◌==◌, ◌∙◌, ◌≡◌, ◌≤◌}
use Rattle.sdd_world.proofs.Placing.{in_range as within}
use Rattle.sdd_world.specs.needs.lang.Fits.{FitsTxn}

pub is_dm : (cat : Catalogue) (d : DmNo) → 1 ≤ d.0 → d.0 ≤ cat.dms → is_site cat.tms cat.dms (D d) ≡ true
is_dm cat d low high = within d.0 cat.dms low high

is_home : (cat : Catalogue) (tm : TmNo) (b : Bool) → 1 ≤ tm.0 → tm.0 ≤ cat.tms → is_site cat.tms cat.dms (if b then U else T tm) ≡ true
is_home cat tm true low high = refl
is_home cat tm false low high = within tm.0 cat.tms low high

-- by the classes of any catalogue
home_there : (cat era : Catalogue) (o : Option Txn) → ((txn : Txn) → o ≡ Some txn → FitsTxn cat txn) → is_site cat.tms cat.dms (home_of era o) ≡ true
home_there cat era None f = refl
home_there cat era (Some txn) f =
    let here = (f txn refl).module_is_there in
    is_home cat txn.tm (class_for era txn == 0) here.0 here.1

-- of what is given on a catalogue
pub dm_of : (g : Input) (cat : Catalogue) (d : DmNo) → g.catalogue ≡ cat → 1 ≤ d.0 → d.0 ≤ cat.dms → IsSiteOf g (D d)
dm_of g cat d same low high = is_dm g.catalogue d low (subst (λ (k : Catalogue). d.0 ≤ k.dms) (sym same) high)

pub last_home_there : (g : Input) (log : Log) (n : ℕ) → IsSoundNetwork g → IsSiteOf g (last_home g log n)
last_home_there g log n s = home_there g.catalogue (nth_era g (redeclares log)).catalogue (txn_at g n) (s.txns_fit n)

-- the transaction that is read at a place
pub txn_read : (g : Input) (n i : ℕ) (txns xs : List Txn) (txn : Txn) → txns ≡ g.txns → xs ≡ txns → i ≡ n - 1 → i < length xs → txn ≡ get_or xs i txn
    → txn_at g n ≡ Some txn
txn_read g n i txns xs txn same is at l e =
    subst (λ k. slice_get g.txns k ≡ Some txn) at (subst (λ ys. slice_get ys i ≡ Some txn) (is ∙ same) (slice_get-get_or xs i txn l ∙ ap (λ x. Some x) (sym e)))

pub no_txn : (g : Input) (n i : ℕ) (txns xs : List Txn) → txns ≡ g.txns → xs ≡ txns → i ≡ n - 1 → length xs ≤ i → txn_at g n ≡ None
no_txn g n i txns xs same is at l = subst (λ k. slice_get g.txns k ≡ None) at (subst (λ ys. slice_get ys i ≡ None) (is ∙ same) (slice_get_past xs i l))
