-- The open ASKs keep their order.
use Rattle.sdd_rules.proofs.All.{Act, AllByRecursion, AreOpen, Ask, Bool, Did, Handed, Hold, HoldCounts, List, Log, Msg, Question, Records, Rise, Sends, Site, [], arith, asks, filter, hands, holds, holds_acted, refl, rules, suc, ℕ, ◌++◌, ◌<◌, ◌∷◌, ◌≡◌, ◌≢◌, ◌≤◌}

rise_lower : (low mid high : ℕ) (qs : List Question) → low ≤ mid → Rise mid high qs → Rise low high qs
rise_lower low mid high [] l h = omega arith
rise_lower low mid high (q ∷ qs) l h = let m : mid < q.hand = h.0 in (omega arith, h.1)

rise_higher : (low high top : ℕ) (qs : List Question) → high ≤ top → Rise low high qs → Rise low top qs
rise_higher low high top [] l h = omega arith
rise_higher low high top (q ∷ qs) l h = (h.0, rise_higher q.hand high top qs l h.1)

rise_kept : (p : Question → Bool) (low high : ℕ) (qs : List Question) → Rise low high qs → Rise low high (filter p qs)
rise_kept p low high [] h = h
rise_kept p low high (q ∷ qs) h = grind (arith, rise_lower, (rise_kept p q.hand high qs h.1))

rise_pushed : (low high : ℕ) (qs : List Question) (q : Question) → q.hand ≡ suc high → Rise low high qs → Rise low (suc high) (qs ++ q ∷ [])
rise_pushed low high [] q is h = (omega arith, omega arith)
rise_pushed low high (x ∷ qs) q is h = (h.0, rise_pushed x.hand high qs q is h.1)

all_below : (low high n : ℕ) (qs : List Question) → high < n → Rise low high qs → AllByRecursion (λ q. q.hand ≢ n) qs
all_below low high n [] l h = tt
all_below low high n (q ∷ qs) l h =
    (λ e. let m = up q.hand high qs h.1 in absurd (omega arith), all_below q.hand high n qs l h.1)
  where
    up : (low high : ℕ) (qs : List Question) → Rise low high qs → low ≤ high
    up low high [] h = h
    up low high (q ∷ qs) h = let m : low < q.hand = h.0 in let r = up q.hand high qs h.1 in omega arith

all_pushed : (P : Question → Type 0) (qs : List Question) (q : Question) → AllByRecursion P qs → P q → AllByRecursion P (qs ++ q ∷ [])
all_pushed P [] q h k = (k, tt)
all_pushed P (x ∷ qs) q h k = (h.0, all_pushed P qs q h.1 k)

all_kept : (P : Question → Type 0) (p : Question → Bool) (qs : List Question) → AllByRecursion P qs → AllByRecursion P (filter p qs)
all_kept P p [] h = tt
all_kept P p (q ∷ qs) h = grind (arith, all_kept P p qs h.1)

open_still : (log : Log) (from : Site) (m : Msg) → AreOpen log → asks (Handed from m ∷ log) ≡ asks log
    → (holds (Handed from m ∷ log)).last ≡ (holds log).last → AreOpen (Handed from m ∷ log)
open_still log from m h e f = record {
  rise = rw e (rise_higher 0 (hands log) (suc (hands log)) (asks log) (omega arith) h.rise);
  last = let l = h.last in rw f (omega arith);
  apart = rw (e, f) h.apart;
}

pub open_handed : (log : Log) (from : Site) (m : Msg) → AreOpen log → AreOpen (Handed from m ∷ log)
open_handed log from (Ask class time) h = grind (arith, rise_pushed, asks, all_pushed, holds)
open_handed log from Hold h = record {
  rise = rise_higher 0 (hands log) (suc (hands log)) (asks log) (omega arith) h.rise;
  last = omega arith;
  apart = all_below 0 (hands log) (suc (hands log)) (asks log) (omega arith) h.rise;
}
open_handed log from m h = open_still log from m h refl refl

same_last : (act : Act) (h : HoldCounts) → (holds_acted act h).last ≡ h.last
same_last act h = grind arith

pub open_did : (log : Log) (act : Act) → AreOpen log → AreOpen (Did act ∷ log)
open_did log (Sends to m hand) h = search (rules, same_last, rise_kept, hands, asks, all_kept)
open_did log (Records c r sends) h = record { rise = h.rise; last = h.last; apart = h.apart }
