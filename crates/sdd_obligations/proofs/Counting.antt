-- A class starts no more attempts than transactions were given to its site and messages handed to it.
use Rattle.sdd_obligations.proofs.All.{Act, Attempt, Bases, Catalogue, Did, Each, Handed, IsFair, IsNew, IsNumbered, IsServed, IsStep, List, Msg, None, Option, Queued, Sends, Setting, Site, Some, Submits, T, [], active, arith, class_at, class_starts, classes_of, commit_act, false, filter, filter_shorter, get_or_past, hands, home, inl, inr, length, length-append, length-map, length-range_with_len, not, queue, queue_is, refl, same_number, same_or_not, sent_way, slice_get, start_at, start_of_class, starts, step_way, submits, subst, suc, sym, tm_no, ℕ, ◌*◌, ◌+◌, ◌-◌, ◌==◌, ◌∷◌, ◌≡◌, ◌≤◌}
use Rattle.sdd_obligations.proofs.Sums.{range_at, total, total_le, total_raise, total_up}
use Rattle.sdd_invariants.specs.site_module.SiteLog.{Log}

abbrev busy : Option Attempt → ℕ
busy None = 0
busy (Some a) = 1

busy_le : (o : Option Attempt) → busy o ≤ 1
busy_le o = grind arith

busy_served : (o : Option Attempt) (qs : List Queued) → IsServed o qs → busy o ≤ length qs
busy_served o qs h = grind arith

-- the Starts of the class and what waits in its queue
abbrev IsCounted : Setting → ℕ → Log → Type 0
IsCounted s c log = class_starts c log + length (queue s c log) ≤ length (submits log) + hands log + busy (active s c log)

pub head_taken : (a : Attempt) (qs : List Queued) → IsServed (Some a) qs → suc (length (filter (λ q. not (q.number == a.txn)) qs)) ≤ length qs
head_taken a qs h = grind (arith, same_number, filter_shorter)

count_commit : (s : Setting) (c : ℕ) (bases : Bases) (log : Log) (a : Attempt) → active s c log ≡ Some a
    → IsServed (active s c log) (queue s c log) → IsCounted s c log → IsCounted s c (Did (commit_act s.catalogue bases c a) ∷ log)
count_commit s c bases log a e v h =
    rw (same_number c)
    (omega (arith, (head_taken a (queue s c log) (subst (λ o. IsServed o (queue s c log)) e v)), (busy_le (active s c log)), h))

count_send : (s : Setting) (c : ℕ) (log : Log) (to : Site) (m : Msg) (hand : Option ℕ) → IsCounted s c log → IsCounted s c (Did (Sends to m hand) ∷ log)
count_send s c log to m hand h = grind (arith, submits, hands, active, sent_way, busy, busy_le)

count_act : (s : Setting) (c : ℕ) (log : Log) (act : Act) → IsStep s log act → IsServed (active s c log) (queue s c log)
    → IsCounted s c log → IsCounted s c (Did act ∷ log)
count_act s c log act i v h = step_way s log act (λ x. IsCounted s c (Did x ∷ log))
    (grind (arith, same_or_not, IsCounted, start_at, same_number, busy, length-map, class_starts, queue))
    (λ k bases a at f. elim (same_or_not k c) [
      | inl p ↦ subst (λ j. IsCounted s c (Did (commit_act s.catalogue bases j a) ∷ log)) (sym p) (count_commit s c bases log a (rw p at f) v h)
      | inr p ↦ (rw p (omega (arith, h)))
    ]) (λ to m hand f. count_send s c log to m hand h) i

counted : (s : Setting) (c : ℕ) (log : Log) → Each (IsFair s) log → Each IsNew log → IsCounted s c log
counted s c [] f n = omega arith
counted s c (Handed from m ∷ log) f n = grind (arith, submits, hands, active, busy_le, counted s c log f.1 n.1)
counted s c (Submits k txn ∷ log) f n = grind (arith, length-append, (counted s c log f.1 n.1))
counted s c (Did act ∷ log) f n = count_act s c log act f.0 (queue_is s c log f.1 n.1).served (counted s c log f.1 n.1)
counted s c (_ ∷ log) f n = counted s c log f.1 n.1

pub class_few : (s : Setting) (c : ℕ) (log : Log) → Each (IsFair s) log → Each IsNew log → class_starts c log ≤ length (submits log) + hands log
class_few s c log f n =
    omega (arith, counted s c log f n, busy_served (active s c log) (queue s c log) (queue_is s c log f n).served)

-- a site starts attempts of classes that are there

no_class_past : (cat : Catalogue) (c t : ℕ) → (class_at cat c).tm.0 ≡ t → 1 ≤ t → (c == 0) ≡ false → c ≤ length cat.classes
no_class_past cat c t e l z = grind (arith, class_at, get_or_past)

of_tm : (cat : Catalogue) (c : ℕ) (at : Site) → IsNumbered at → T (tm_no (class_at cat c).tm.0) ≡ at → (c == 0) ≡ false → c ≤ length cat.classes
of_tm cat c (T t) l q z = let n : (class_at cat c).tm.0 ≡ t.0 = cc in no_class_past cat c t.0 n l z
of_tm cat c _ l q z = cc

pub class_here : (cat : Catalogue) (c : ℕ) (at : Site) → IsNumbered at → home cat c ≡ at → c ≤ length cat.classes
class_here cat c at l e = elim (same_or_not c 0) [ inl p ↦ omega (arith, p) | inr p ↦ of_tm cat c at l (rw p at e) p ]

-- all Starts of a site are of its classes

class_more : (s : Setting) (k : ℕ) (log : Log) (act : Act) (n : ℕ) → k ≤ length s.catalogue.classes → start_of_class k act ≡ n
    → n + total (λ c. class_starts c log) (classes_of s) ≤ total (λ c. class_starts c (Did act ∷ log)) (classes_of s)
class_more s k log act n l e =
    let there : slice_get (classes_of s) k ≡ Some k =
    subst (λ x. slice_get (classes_of s) k ≡ Some x) (omega arith) (range_at 0 (suc (length s.catalogue.classes)) k (omega (arith, l))) in
    total_raise (λ c. class_starts c log) (λ c. class_starts c (Did act ∷ log)) n (classes_of s) k k there (λ c. omega arith) (omega (arith, e))

start_total : (s : Setting) (log : Log) (act : Act) → IsNumbered s.site → IsStep s log act → starts log ≤ total (λ c. class_starts c log) (classes_of s)
    → starts (Did act ∷ log) ≤ total (λ c. class_starts c (Did act ∷ log)) (classes_of s)
start_total s log act l i h =
    step_way s log act (λ x. starts (Did x ∷ log) ≤ total (λ c. class_starts c (Did x ∷ log)) (classes_of s))
    (λ k q at f e. let m = class_more s k log (start_at s k log q) 1 (class_here s.catalogue k s.site l at) (rw (same_number k) refl) in omega (arith, m, h))
    (grind (arith, total_up, class_starts, commit_act, classes_of))
    (grind (arith, total_up, class_starts, classes_of)) i

by_classes : (s : Setting) (log : Log) → IsNumbered s.site → Each (IsFair s) log → starts log ≤ total (λ c. class_starts c log) (classes_of s)
by_classes s [] l f = omega arith
by_classes s (Did act ∷ log) l f = start_total s log act l f.0 (by_classes s log l f.1)
by_classes s (_ ∷ log) l f = by_classes s log l f.1

pub site_few : (s : Setting) (log : Log) → IsNumbered s.site → Each (IsFair s) log → Each IsNew log
    → starts log ≤ suc (length s.catalogue.classes) * (length (submits log) + hands log)
site_few s log l f n =
    let b = total_le (λ c. class_starts c log) (classes_of s) (length (submits log) + hands log) (λ c. class_few s c log f n) in
    let e : length (classes_of s) ≡ suc (length s.catalogue.classes) = length-range_with_len 0 (suc (length s.catalogue.classes)) in
    omega (arith, by_classes s log l f, (subst (λ k. total (λ c. class_starts c log) (classes_of s) ≤ k * (length (submits log) + hands log)) e b))
