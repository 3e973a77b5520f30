-- A transaction that is next to be given to a module is new there, fits, and is of the module.
use Rattle.sdd_obligations.proofs.All.{Each, Entry, FitsTxn, Input, IsLawful, IsNew, IsSmall, Log, Option, Site, Some, Submits, Submitted, T, TmNo, Txn, all_new, arith, both, class_for, contains, current_era, differ, false, is_site, lawful_permitted, local_of, mark_due, nat_le, nat_tests, next, nth_era, redeclares, refl, setting_of, site_self, submits, subst, true, txn_at, ℕ, ◌∷◌, ◌≡◌, ◌≢◌, ◌≤◌}
use Rattle.sdd_needs.proofs.ErasInForce.{redeclared_is}
use Rattle.sdd_needs.proofs.OfNext.{of_next}
use Rattle.sdd_invariants.specs.logs.Due.{home_of}
use Rattle.sdd_invariants.specs.site_module.SiteLog as site

pub le_true : (a b : ℕ) → a ≤ b → nat_le a b ≡ true
le_true a b l = grind (arith, nat_tests)

-- it is new
pub is_new : (g : Input) (log : Log) (at : Site) (n : ℕ) (txn : Txn) → IsSmall g → IsLawful g log → next g log ≡ Some (Submitted at n)
    → txn_at g n ≡ Some txn → contains (submits (local_of g at log)) n ≡ false
is_new g log at n txn s l e f =
    let own : local_of g at (Submitted at n ∷ log) ≡ Submits n txn ∷ local_of g at log = rw (site_self at, f) refl in
    (subst (Each IsNew) own (all_new g at (Submitted at n ∷ log) (lawful_permitted g (Submitted at n ∷ log) s.once (e, l)))).0

-- it goes to the site of its class, by the catalogue in force

abbrev IsAtHome : Input → Log → Site → ℕ → Type 0
IsAtHome g log at n = at ≡ home_of (nth_era g (redeclares log)).catalogue (txn_at g n)

abbrev HomeEntry : Input → Log → Entry → Type 0
HomeEntry g log (Submitted at n) = IsAtHome g log at n
HomeEntry g log _ = Unit {0}

mark_home : (g : Input) (log : Log) (e : Entry) → mark_due g log ≡ Some e → HomeEntry g log e
mark_home g log e p = grind (arith)

pub at_home : (g : Input) (log : Log) (at : Site) (n : ℕ) → IsSmall g → IsLawful g log → next g log ≡ Some (Submitted at n) → IsAtHome g log at n
at_home g log at n s l e = mark_home g log (Submitted at n) (of_next g log (Submitted at n) s.few_ticks l e)

-- of a declared class it goes to its own module

pub declared_here : (g : Input) (log : Log) (t : TmNo) (n : ℕ) (txn : Txn) → IsSmall g → IsLawful g log → next g log ≡ Some (Submitted (T t) n)
    → txn_at g n ≡ Some txn → (T t ≡ T txn.tm) × (class_for (current_era (setting_of g (T t)) (local_of g (T t) log)).catalogue txn ≢ 0)
declared_here g log t n txn s l e f = grind (arith, at_home, redeclared_is, differ)

-- U and the modules of the network are its homes

home_of_some : (g : Input) (log : Log) (at : Site) (o : Option Txn) → ((txn : Txn) → o ≡ Some txn → (1 ≤ txn.tm.0) × (txn.tm.0 ≤ g.catalogue.tms))
    → at ≡ home_of (nth_era g (redeclares log)).catalogue o → is_site g.catalogue.tms g.catalogue.dms at ≡ true
home_of_some g log at o f e = grind (arith, both, le_true)

pub home_exists : (g : Input) (log : Log) (at : Site) (n : ℕ) → IsSmall g → IsLawful g log → next g log ≡ Some (Submitted at n)
    → ((k : ℕ) (txn : Txn) → txn_at g k ≡ Some txn → FitsTxn g.catalogue txn) → is_site g.catalogue.tms g.catalogue.dms at ≡ true
home_exists g log at n s l e fit = home_of_some g log at (txn_at g n) (λ txn p. let i = (fit n txn p).module_is_there in (i.0, i.1)) (at_home g log at n s l e)
