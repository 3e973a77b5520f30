-- What a site that runs transactions sends lies below its clock's height.
use Rattle.sdd_obligations.proofs.All.{Act, AllLe, AllLow, Attempt, Bases, Catalogue, Cond, D, Each, FragNo, Hold, HoldRule, IsFair, IsLow, IsStepU, List, Msg, None, Option, Queued, Sends, Setting, Site, T, TmNo, [], active, arith, ascending, bound, by_condition, clock, clock_number, commit_act, commit_puts, cond_of, condition_on, conditions_at, current_era, dm_no, drawn, drawn_at, frag_no, fragments_in, fragments_of, hold_rule, if_way, inl, inr, is_asked, last_served, last_stamp, limit_le, map, next_stamp, number_of, refl, same_site, sends_of_act, stamp_or, stamp_rises, start_at, start_puts, start_read, starts_by, step_way, suc, t_step, tm_no, to_site, top, ts_of, u_way, uses_of, ℕ, ◌+◌, ◌==◌, ◌∷◌, ◌≡◌, ◌≤◌}
use Rattle.sdd_obligations.proofs.LowLists.{IsEarlyCond, all_low_up, conds_all_le, conds_le, low_one}
use Rattle.sdd_invariants.specs.All.{P2, P3, asked_by, classes_of, cond_for}
use Rattle.sdd_invariants.specs.site_module.SiteLog.{Log}
use Rattle.sdd_invariants.specs.protocol.declared.entry.Entry as line
use Rattle.sdd_invariants.specs.tm.Due as tm
use Rattle.sdd_invariants.specs.tm.Views as tm_views

-- the conditions of a READ tell its own time or that of P2

abbrev AreEarly : ℕ → List Cond → Type 0
AreEarly k ds = AllLe k (map (λ (d : Cond). d.time.0) ds)

cond_le : (k j t : ℕ) (frags : List FragNo) → t ≤ k → IsEarlyCond k (cond_for j t frags)
cond_le k j t [] l = tt
cond_le k j t (f ∷ frags) l = l

conditions_le : (k : ℕ) (cat : Catalogue) (table : List line.Entry) (c : ℕ) (frags : List ℕ) (own p2 d : ℕ) → own ≤ k → p2 ≤ k
    → AreEarly k (conditions_at cat table c frags own p2 d)
conditions_le k cat table c frags own p2 d l m =
    if_way (AreEarly k) (c == 0) _ _ (conds_all_le k (λ j. cond_of j own (map frag_no (fragments_of cat))) (classes_of cat) (λ j. l))
    (let test = is_asked cat c d (map frag_no frags) in
    conds_le k (condition_on test table c own p2) (classes_of cat)
    (λ j. by_condition test table c own p2 j (IsEarlyCond k) tt (cond_le k j p2 (asked_by P2 test table c j) m) (cond_le k j own (asked_by P3 test table c j) l)))

read_low : (h : ℕ) (s : Setting) (c : ℕ) (log : Log) (q : Queued) (d : ℕ) → number_of s.site ≤ 63 → (clock s.site log).ticks ≤ h
    → IsLow (suc h) (start_read s c log q d)
read_low h s c log q d w l =
    let own : next_stamp s log ≤ top (suc h) = omega (arith, clock_number s.site log) in
    let p2 : bound s log ≤ top (suc h) = omega arith in (
      own,
      conditions_le (top (suc h)) s.catalogue (current_era s log).table c
          (ascending (fragments_in (uses_of s.catalogue q.text))) (next_stamp s log) (bound s log) d own p2,
    )

-- all that an act puts lies below the height, which a Start raises
abbrev pub PutsLow : ℕ → Act → Type 0
PutsLow h act = (b : Site) → AllLow (starts_by act + h) (to_site b (sends_of_act act))

low_one_more : (n h : ℕ) (ms : List Msg) → n ≡ 1 → AllLow (suc h) ms → AllLow (n + h) ms
low_one_more n h ms e i = all_low_up (suc h) (n + h) ms (omega (arith, e)) i

start_low : (h : ℕ) (s : Setting) (c : ℕ) (log : Log) (q : Queued) → number_of s.site ≤ 63 → (clock s.site log).ticks ≤ h → PutsLow h (start_at s c log q)
start_low h s c log q w l b = elim (start_puts s c b log q) [
  | inl e ↦ (rw e tt)
  | inr p ↦ low_one_more (starts_by (start_at s c log q)) h _ refl (rw p.1 ((read_low h s c log q p.0 w l), tt))
]

stamp_low : (h : ℕ) (s : Setting) (log : Log) → number_of s.site ≤ 63 → (clock s.site log).ticks ≤ h → last_stamp s log ≤ top h
stamp_low h s log w l = let n = clock_number s.site log in omega arith

commit_low : (h : ℕ) (s : Setting) (c : ℕ) (bases : Bases) (a : Attempt) → a.ts ≤ top h → PutsLow h (commit_act s.catalogue bases c a)
commit_low h s c bases a l b = grind (arith, all_low_up, commit_puts)

send_low : (h : ℕ) (to : Site) (m : Msg) (hand : Option ℕ) → IsLow h m → PutsLow h (Sends to m hand)
send_low h to m hand i b = (all_low_up h ((starts_by (Sends to m hand)) + h) _ (omega arith) (low_one h (same_site b to) m i))

-- at a T

pub t_low : (h : ℕ) (s : Setting) (t : TmNo) (bases : Bases) (log : Log) (act : Act) → s.site ≡ T t → number_of s.site ≤ 63
    → (clock s.site log).ticks ≤ h → Each (IsFair s) log → tm.IsDue s.catalogue bases (tm_views.view_of s log) act → PutsLow h act
t_low h s t bases log act at w l f d = step_way s log act (λ x. HoldRule s log x → PutsLow h x) (λ c q p i e r. start_low h s c log q w l)
    (λ c b a p i r. let k = drawn_at s c log a f i in let n = stamp_low h s log w l in commit_low h s c b a (omega (arith, k, n)))
    (λ to m hand i r. (grind (arith, send_low, limit_le))) (t_step s t bases log act at d) (hold_rule s bases log act d)

-- at U: the time of a RELEASE is that of the attempt that was served last

ts_is : (o : Option Attempt) (k : ℕ) → stamp_or o ≤ k → ts_of o ≤ k
ts_is o k h = grind arith

pub served_low : (s : Setting) (log : Log) → Each (IsFair s) log → (last_served s log).ts ≤ last_stamp s log
served_low s [] f = omega arith
served_low s (e ∷ log) f = grind (arith, stamp_rises, drawn, ts_is, active, (served_low s log f.1))

pub u_low : (h : ℕ) (s : Setting) (log : Log) (act : Act) → number_of s.site ≤ 63 → (clock s.site log).ticks ≤ h
    → Each (IsFair s) log → IsStepU s log act → PutsLow h act
u_low h s log act w l f = u_way s log act (PutsLow h) (λ q i z r. start_low h s 0 log q w l)
    (λ b a i. let k = drawn_at s 0 log a f i in let n = stamp_low h s log w l in commit_low h s 0 b a (omega (arith, k, n)))
    (λ d m a e. send_low h (D (dm_no d)) m None (grind arith))
    (grind (arith, served_low, stamp_low, last_served, send_low, tm_no)) (λ t e. send_low h (T (tm_no t)) Hold None tt)
