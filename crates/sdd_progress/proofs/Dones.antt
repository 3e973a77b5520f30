-- Where nothing goes on and its WRITEs are applied, the module for undeclared transactions has counted the DONE of each data
-- module for its last Commit.
use Rattle.sdd_progress.proofs.All.{Act, Apply, Attempt, Bases, Bool, ClassNo, D, Did, DmNo, Does, Done, Each, Handed, HasResult, Input, IsApplied, IsDataStep, IsDueEach, IsIdle, IsModule, IsOfWrite, IsPermitted, IsQuiet, IsSoundCatalogue, IsStill, List, Log, Msg, Rec, Records, Setting, Site, Some, Ts, TxnNo, U, [], active, answers_read, ap, applies, arith, arrives, at_module, commit_act, d_fair, data_step, dm_no, dones_few, dones_of, each_at, false, hands_from, inl, is_done_of, is_put, last_served, local_of, number_of, numbers_to, one_if, passes, puts_to, refl, refuses_read, replies, result_in, same_number, same_or_not, setting_of, slice_get, subst, suc, sym, tally, tally_append, time_at, to_site, true, u_fair, u_table, waits_for, zero, ℕ, ◌++◌, ◌+◌, ◌<◌, ◌==◌, ◌∙◌, ◌∷◌, ◌≡◌, ◌≤◌}
use Rattle.sdd_progress.proofs.Applied.{all_applied}
use Rattle.sdd_progress.proofs.CountedDones.{all_current, counted_off}
use Rattle.sdd_progress.proofs.Handed.{all_handed}
use Rattle.sdd_progress.proofs.Still.{home_linked, module_up, still_of}
use Rattle.sdd_obligations.specs.site_module.SiteLog as site

-- one module's DONEs, and those of n modules from module a on

abbrev pub from_module : ℕ → site.Log → ℕ → ℕ
from_module x l d = tally (is_done_of x) (hands_from (D (dm_no d)) l)

abbrev sum_from : (ℕ → ℕ) → ℕ → ℕ → ℕ
sum_from f zero a = 0
sum_from f (suc n) a = f a + sum_from f n (a + 1)

sum_same : (f h : ℕ → ℕ) (n a : ℕ) → ((d : ℕ) → a ≤ d → h d ≡ f d) → sum_from h n a ≡ sum_from f n a
sum_same f h zero a e = refl
sum_same f h (suc n) a e = let i = sum_same f h n (a + 1) (λ d l. e d (omega (arith, l))) in let j = e a (omega arith) in omega (arith, i, j)

sum_one_more : (f h : ℕ → ℕ) (e more n a : ℕ) → ((d : ℕ) → (d == e) ≡ false → h d ≡ f d) → h e ≤ f e + more → sum_from h n a ≤ sum_from f n a + more
sum_one_more f h e more zero a same up = omega arith
sum_one_more f h e more (suc n) a same up = grind (arith, same_or_not, sum_same, (sum_one_more f h e more n (a + 1) same up))

nothing : (n a : ℕ) → sum_from (λ d. 0) n a ≤ 0
nothing zero a = omega arith
nothing (suc n) a = let i = nothing n (a + 1) in omega (arith, i)

dones_of_modules : (x n a : ℕ) (l : site.Log) → sum_from (from_module x l) n a ≤ dones_of x l
dones_of_modules x n a [] = nothing n a
dones_of_modules x n a (Handed from m ∷ l) =
    let j = sum_one_more (from_module x l) (from_module x (Handed from m ∷ l)) (number_of from) (one_if (is_done_of x m)) n a
    (λ d e. (grind arith))
    (grind (arith, tally_append)) in
    omega (arith, dones_of_modules x n a l, j)
dones_of_modules x n a (_ ∷ l) = dones_of_modules x n a l

one_each : (f : ℕ → ℕ) (n a : ℕ) → ((d : ℕ) → a ≤ d → d < a + n → 1 ≤ f d) → n ≤ sum_from f n a
one_each f zero a h = omega arith
one_each f (suc n) a h = grind (arith, (one_each f n (a + 1) (λ d l m. h d (omega (arith, l)) (omega (arith, m)))))

-- the DONE of one module

one_there : (f : Msg → Bool) (ms : List Msg) (k : ℕ) (m : Msg) → slice_get ms k ≡ Some m → f m ≡ true → 1 ≤ tally f ms
one_there f [] k m e p = cc
one_there f (x ∷ ms) zero m e p = let q : x ≡ m = cc in let o : one_if (f x) ≡ 1 = ap one_if (subst (λ y. f y ≡ true) (sym q) p) in omega (arith, o)
one_there f (x ∷ ms) (suc k) m e p = let i = one_there f ms k m e p in omega (arith, i)

-- an Apply of class 0 sends a DONE
sends_done : (s : Setting) (l : site.Log) (t : Ts) (j : ClassNo) (txn : TxnNo) (dm : DmNo)
    (sends : List (Site × Msg)) → IsDataStep s l (Records 0 (Apply txn j dm t) sends)
    → sends ≡ (U, Done t) ∷ []
sends_done s l t j txn dm sends h8 = grind (arith, applies, arrives, replies, answers_read, refuses_read, waits_for, passes)

done_put : (g : Input) (log : Log) (d n : ℕ) (ts : ℕ) (r : Rec) → IsStill g log → IsOfWrite (time_at ts) 0 n r → HasResult 0 (at_module g d log) r
    → (k : ℕ) × (slice_get (puts_to U (at_module g d log)) k ≡ Some (Done (time_at ts)))
done_put g log d n ts (Apply txn j dm t) h of x =
    let s : Setting = setting_of g (D (dm_no d)) in
    let act : Act = Records 0 (Apply txn j dm t) x.sends in
    let due = (each_at (IsDueEach s) x.later (Did act) x.before (subst (Each (IsDueEach s)) x.is (d_fair g (dm_no d) log h.permitted))).0 in
    let sends : x.sends ≡ (U, Done (time_at ts)) ∷ [] =
    sends_done s x.before t j txn dm x.sends (data_step s x.before act due) ∙ ap (λ y. (U, Done y) ∷ []) of.1 in
    let p = is_put U x.later act x.before 0 (Done (time_at ts)) (ap (λ y. slice_get (to_site U y) 0) sends) in
    (p.0, subst (λ l. slice_get (puts_to U l) p.0 ≡ Some (Done (time_at ts))) (sym x.is) p.1)
done_put g log d n ts r h of x = absurd of

-- the WRITEs of each Commit of U are applied at every module
abbrev pub AreServedApplied : Input → Log → Type 0
AreServedApplied g log =
    (later before : Log) (bases : Bases) (a : Attempt) → log ≡ later ++ Does U (commit_act g.catalogue bases 0 a) ∷ before
    → active (setting_of g U) 0 (local_of g U before) ≡ Some a → (d : ℕ) → IsModule g.catalogue d → IsApplied g log (dm_no d) 0 a

pub idle_applied : (g : Input) (log : Log) → IsQuiet g log → IsSoundCatalogue g.catalogue → IsIdle g log → AreServedApplied g log
idle_applied g log h sound idle later before bases a is active_is d m =
    all_applied g log 0 d later before bases a (still_of g log h) sound (omega arith) m (module_up g log d h m)
    (idle.processed 0 d (omega arith) m) is (inl refl)

-- the DONE of a module at which the WRITE is applied was handed over
pub from_applied : (g : Input) (log : Log) (d : ℕ) (a : Attempt) → IsStill g log → IsSoundCatalogue g.catalogue → IsModule g.catalogue d
    → IsApplied g log (dm_no d) 0 a → 1 ≤ from_module a.ts (local_of g U log) d
from_applied g log d a h sound m x =
    let p = done_put g log d a.txn a.ts x.rec h x.is (result_in 0 (at_module g d log) x.place x.rec x.there) in
    let same = all_handed g log (D (dm_no d)) U h refl (home_linked g.catalogue 0 d sound (omega arith) m).1 in
    one_there (is_done_of a.ts) (hands_from (D (dm_no d)) (local_of g U log)) p.0 (Done (time_at a.ts))
    (subst (λ ms. slice_get ms p.0 ≡ Some (Done (time_at a.ts))) (sym same) p.1) (same_number a.ts)

-- as many as there are modules, where each has one
abbrev pub EachDone : Input → Log → ℕ → Type 0
EachDone g log ts = (d : ℕ) → 1 ≤ d → d < 1 + g.catalogue.dms → 1 ≤ from_module ts (local_of g U log) d

all_done : (g : Input) (log : Log) (a : Attempt) → EachDone g log a.ts → g.catalogue.dms ≤ dones_of a.ts (local_of g U log)
all_done g log a each =
    omega (arith, one_each (from_module a.ts (local_of g U log)) g.catalogue.dms 1 each, (dones_of_modules a.ts g.catalogue.dms 1 (local_of g U log)))

-- then it has counted them all
pub each_counted : (g : Input) (log : Log) (k t : ℕ) (a : Attempt) → IsPermitted g log → slice_get (numbers_to g.catalogue.tms) k ≡ Some t
    → (last_served (setting_of g U) (local_of g U log)).ts ≡ a.ts → EachDone g log a.ts
    → (last_served (setting_of g U) (local_of g U log)).dones ≡ g.catalogue.dms
each_counted g log k t a h i ts each = grind (arith, counted_off, u_fair, u_table, all_current, dones_few, (all_done g log a each))

-- so has it where the WRITEs are applied
pub dones_counted : (g : Input) (log : Log) (k t : ℕ) (later before : Log) (bases : Bases) (a : Attempt) → IsStill g log
    → IsSoundCatalogue g.catalogue → AreServedApplied g log
    → slice_get (numbers_to g.catalogue.tms) k ≡ Some t → log ≡ later ++ Does U (commit_act g.catalogue bases 0 a) ∷ before
    → active (setting_of g U) 0 (local_of g U before) ≡ Some a → (last_served (setting_of g U) (local_of g U log)).ts ≡ a.ts
    → (last_served (setting_of g U) (local_of g U log)).dones ≡ g.catalogue.dms
dones_counted g log k t later before bases a h sound applied i is active_is ts =
    each_counted g log k t a h.permitted i ts (λ d l m.
    (let in_range : IsModule g.catalogue d = (l, omega (arith, m)) in
    from_applied g log d a h sound in_range (applied later before bases a is active_is d in_range)))
