-- HOLD, HELD and RELEASE come in turn.
use Rattle.sdd_obligations.proofs.All.{FitsHeldFrom, FitsHold, FitsRelease, Hand, Handed, Held, Hold, Input, IsHoldChain, IsPermitted, Log, Msg, Release, Site, Some, T, TmCounts, TmNo, Ts, U, ap, arith, counts, counts_tm, hold_chain, holds, if◌then◌else◌, local_of, nat_tests, numbers_to, refl, same_number, setting_of, site_self, slice_get, subst, suc, sym, true, ℕ, ◌-◌, ◌<◌, ◌==◌, ◌^◌, ◌∷◌, ◌≡◌, ◌≤◌}
use Rattle.sdd_obligations.proofs.Sums.{range_at}
use Rattle.sdd_invariants.specs.site_module.SiteLog as site

-- the T stands among those of the catalogue
pub at_place : (n t : ℕ) → 1 ≤ t → t ≤ n → slice_get (numbers_to n) (t - 1) ≡ Some t
at_place n t l m = grind (arith, range_at)

pub chain_at : (g : Input) (t : TmNo) (log : Log) → 1 ≤ t.0 → t.0 ≤ g.catalogue.tms → IsPermitted g log → IsHoldChain g t.0 log
chain_at g t log l m h = hold_chain g (t.0 - 1) t.0 log (at_place g.catalogue.tms t.0 l m) h

-- the logs of T and U with the message

own_hand : (g : Input) (a b : Site) (n : ℕ) (m : Msg) (log : Log) → local_of g b (Hand a b n m ∷ log) ≡ Handed a m ∷ local_of g b log
own_hand g a b n m log = rw (site_self b) refl

pub hold_fits : (g : Input) (t : TmNo) (n : ℕ) (log : Log) → 1 ≤ t.0 → t.0 ≤ g.catalogue.tms
    → IsPermitted g (Hand U (T t) n Hold ∷ log) → FitsHold (setting_of g (T t)) (local_of g (T t) log) U
hold_fits g t n log l m h =
    let more : (holds (local_of g (T t) (Hand U (T t) n Hold ∷ log))).holds ≡ suc
    (holds (local_of g (T t) log)).holds = ap (λ x. (holds x).holds) (own_hand g U (T t) n Hold log) in
    let same : (holds (local_of g (T t) (Hand U (T t) n Hold ∷ log))).releases ≡ (holds
    (local_of g (T t) log)).releases = ap (λ x. (holds x).releases) (own_hand g U (T t) n Hold log) in
    let o = (chain_at g t (Hand U (T t) n Hold ∷ log) l m h).one_open in
    record { home = refl; free = (grind (arith, nat_tests)) }

pub release_fits : (g : Input) (t : TmNo) (n : ℕ) (ts : Ts) (log : Log) → 1 ≤ t.0 → t.0 ≤ g.catalogue.tms → ts.0 < 2 ^ 62
    → IsPermitted g (Hand U (T t) n (Release ts) ∷ log) → FitsRelease (setting_of g (T t)) (local_of g (T t) log) U ts.0
release_fits g t n ts log l m early h =
    let lt : site.Log = local_of g (T t) log in
    let was = chain_at g t log l m h.1 in
    let now = chain_at g t (Hand U (T t) n (Release ts) ∷ log) l m h in
    let e = own_hand g U (T t) n (Release ts) log in
    let more : (holds (local_of g (T t) (Hand U (T t) n (Release ts) ∷ log))).releases ≡ suc (holds lt).releases = ap (λ x. (holds x).releases) e in
    let sent : (holds (local_of g (T t) (Hand U (T t) n (Release ts) ∷ log))).helds ≡ (holds lt).helds = ap (λ x. (holds x).helds) e in
    let a = now.released in let b = now.committed in let c = now.started in let d = now.got_held in let f = now.put_held in
    let o = was.one_open in let k = was.got_hold in let i = now.in_turn in
    record {
      home = refl;
      hold = (grind (arith, nat_tests));
      held = omega (arith, more, sent, a, b, c, d, f, o, k);
      early = early;
    }

one_held : (t : ℕ) (k : TmCounts) → k.tm ≡ t → (if t == k.tm then record k { helds = suc k.helds } else k).helds ≡ suc k.helds
one_held t k e = let q : (t == k.tm) ≡ true = subst (λ x. (t == x) ≡ true) (sym e) (same_number t) in rw q refl

pub held_fits : (g : Input) (t : TmNo) (n : ℕ) (time : Ts) (log : Log) → 1 ≤ t.0 → t.0 ≤ g.catalogue.tms → time.0 < 2 ^ 62
    → IsPermitted g (Hand (T t) U n (Held time) ∷ log) → FitsHeldFrom (local_of g U log) t.0 time.0
held_fits g t n time log l m early h =
    let lu : site.Log = local_of g U log in
    let now = chain_at g t (Hand (T t) U n (Held time) ∷ log) l m h in
    let same : (counts t.0 (local_of g U (Hand (T t) U n (Held time) ∷ log))).holds ≡ (counts t.0
    lu).holds = (grind arith) in
    let a = now.put_held in let b = now.got_hold in let c = now.put_hold in
    record { early = early; awaited = omega (arith, (one_held t.0 (counts t.0 lu) (counts_tm t.0 lu)), same, a, b, c) }
