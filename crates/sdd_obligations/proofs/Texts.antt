-- The transaction of an attempt is one that was given to its class, and has what all these have.
use Rattle.sdd_obligations.proofs.All.{AllByRecursion, Attempt, Bool, Each, FitsInput, FitsText, Input, IsFair, IsNew, IsPermitted, IsServed, List, Option, Queued, Setting, Site, Some, Submits, Txn, [], active, arith, cons_option, current_era, each_local, filter_map, if◌then◌else◌, is_for, local_of, queue, queue_is, queued, setting_of, submits_of, subst, sym, true, ℕ, ◌++◌, ◌∷◌, ◌≡◌}
use Rattle.sdd_invariants.specs.site_module.SiteLog.{Entry, Log}
use Rattle.sdd_invariants.specs.logs.Entries as whole

-- so has each transaction that is given to class c at a site
abbrev pub SubmitHas : (Txn → Type 0) → Setting → ℕ → Log → Entry → Type 0
SubmitHas P s c log (Submits n txn) = is_for c (current_era s log).catalogue txn ≡ true → P txn
SubmitHas P s c log _ = Unit {0}

module _ (P : Txn → Type 0) where
  abbrev AreSo : List (ℕ × Txn) → Type 0
  AreSo xs = AllByRecursion (λ (x : ℕ × Txn). P x.1) xs

  one_behind : (xs : List (ℕ × Txn)) (n : ℕ) (txn : Txn) → P txn → AreSo xs → AreSo (xs ++ (n, txn) ∷ [])
  one_behind [] n txn h all = (h, tt)
  one_behind (x ∷ xs) n txn h all = (all.0, one_behind xs n txn h all.1)

  one_more : (b : Bool) (xs : List (ℕ × Txn)) (n : ℕ) (txn : Txn) → (b ≡ true → P txn) → AreSo xs → AreSo (if b then xs ++ (n, txn) ∷ [] else xs)
  one_more b xs n txn h all = grind (arith, one_behind)

  submits_so : (s : Setting) (c : ℕ) (log : Log) → Each (SubmitHas P s c) log → AreSo (submits_of s c log)
  submits_so s c [] h = tt
  submits_so s c (Submits n txn ∷ log) h = one_more (is_for c (current_era s log).catalogue txn) (submits_of s c log) n txn h.0 (submits_so s c log h.1)
  submits_so s c (_ ∷ log) h = submits_so s c log h.1

  abbrev TextsAre : List Queued → Type 0
  TextsAre qs = AllByRecursion (λ (q : Queued). P q.text) qs

  queued_so : (c : ℕ) (log : Log) (xs : List (ℕ × Txn)) → AreSo xs → TextsAre (filter_map (queued c log) xs)
  queued_so c log [] all = tt
  queued_so c log (x ∷ xs) all = grind (arith, TextsAre, cons_option, filter_map, (queued_so c log xs all.1))

  served_so : (o : Option Attempt) (qs : List Queued) (a : Attempt) → o ≡ Some a → IsServed o qs → TextsAre qs → P a.text
  served_so o qs a e h all = grind arith

  pub active_so : (s : Setting) (c : ℕ) (log : Log) (a : Attempt) → Each (IsFair s) log → Each IsNew log
      → Each (SubmitHas P s c) log → active s c log ≡ Some a → P a.text
  active_so s c log a fair new so e =
      let k = queue_is s c log fair new in
      served_so (active s c log) (queue s c log) a e k.served (subst TextsAre (sym k.is) (queued_so c log (submits_of s c log) (submits_so s c log so)))

-- all transactions that are given fit
pub submitted_fit : (g : Input) → FitsInput g → (at : Site) (c : ℕ) (log : whole.Log) → IsPermitted g log
    → Each (SubmitHas (FitsText g.catalogue) (setting_of g at) c) (local_of g at log)
submitted_fit g good at c = each_local g at (SubmitHas (FitsText g.catalogue) (setting_of g at) c) (record {
  handed = λ log p from n m a i. tt;
  ticked = λ log p n i. tt;
  submits = λ log p n txn a e i own. good.txns n txn e;
  redeclared = λ l k t i. tt;
  did = λ log act p due i. tt;
})
