-- Where a site that runs transactions sends to.
use Rattle.sdd_obligations.proofs.All.{Act, Ask, Attempt, Bases, Bool, D, Did, GoesTo, Handed, Held, Hold, IsAnAsk, IsStepU, List, Msg, None, Option, Question, Queued, Release, Sends, Setting, Site, Some, T, U, WasAsked, [], active, ap, arith, asks_acted, asks_handed, asks_next, asks_rows, bound, by_ask, by_exchange, by_hold, by_start, commit_act, cons_option, dm_no, false, filter_map, first_send, hands, head_of, if◌then◌else◌, in_either, in_filtered, in_mapped, in_one, inl, inr, is_over, null_at, or_else, refl, same_site, sends_of_act, site_is, slice_get, start_at, start_of, subst, suc, sym, the_one, time_at, tm_no, to_site, true, u_way, zero, ℕ, ◌==◌, ◌∷◌, ◌≡◌, ◌⊎◌}
use Rattle.sdd_invariants.specs.All.{asks}
use Rattle.sdd_invariants.specs.site_module.SiteLog.{Entry, Log}
use Rattle.sdd_invariants.specs.tm.Due.{IsDue}
use Rattle.sdd_invariants.specs.tm.Views.{view_of}

-- a message to a site is one of those that are sent

at_cons : (x : Site × Msg) (b : Site) (k : ℕ) (m : Msg) (ps : List (Site × Msg)) (c : Bool) → same_site b x.0 ≡ c
    → ((j : ℕ) → slice_get (to_site b ps) j ≡ Some m → (i : ℕ) × (slice_get ps i ≡ Some (b, m)))
    → slice_get (if c then x.1 ∷ to_site b ps else to_site b ps) k ≡ Some m → (i : ℕ) × (slice_get (x ∷ ps) i ≡ Some (b, m))
at_cons x b zero m ps true p f e = grind (arith, site_is)
at_cons x b (suc k) m ps true p f e = let i = f k e in (suc i.0, i.1)
at_cons x b k m ps false p f e = let i = f k e in (suc i.0, i.1)

pub sent_to : (b : Site) (ps : List (Site × Msg)) (k : ℕ) (m : Msg) → slice_get (to_site b ps) k ≡ Some m → (i : ℕ) × (slice_get ps i ≡ Some (b, m))
sent_to b [] k m e = cc
sent_to b (x ∷ ps) k m e = at_cons x b k m ps (same_site b x.0) refl (λ j p. sent_to b ps j m p) e

in_cons : {A : Type 0} (o : Option A) (xs : List A) (k : ℕ) (y : A) → slice_get (cons_option o xs) k ≡ Some y
    → ((j : ℕ) × (slice_get xs j ≡ Some y)) ⊎ (o ≡ Some y)
in_cons o xs k y e = grind arith

pub in_made : {A B : Type 0} (f : A → Option B) (xs : List A) (k : ℕ) (y : B) → slice_get (filter_map f xs) k ≡ Some y
    → (x : A) × (j : ℕ) × (slice_get xs j ≡ Some x) × (f x ≡ Some y)
in_made f [] k y e = cc
in_made f (x ∷ xs) k y e = elim (in_cons (f x) (filter_map f xs) k y e) [
  | inl p ↦ (let i = in_made f xs p.0 y p.1 in (i.0, suc i.1, i.2, i.3))
  | inr p ↦ (x, 0, refl, p)
]

-- all that an act sends goes where it may
abbrev pub Goes : Log → Act → Type 0
Goes log act = (b : Site) (k : ℕ) (m : Msg) → slice_get (to_site b (sends_of_act act)) k ≡ Some m → GoesTo log b m

goes_some : (log : Log) (x a : Act) → Goes log x → Some x ≡ Some a → Goes log a
goes_some log x a h e = let p : x ≡ a = cc in subst (Goes log) p h

goes_one : (log : Log) (to : Site) (x : Msg) (hand : Option ℕ) → GoesTo log to x → Goes log (Sends to x hand)
goes_one log to x hand h b k m e = let i = the_one b to x k m e in subst (GoesTo log b) i.1 (subst (λ s. GoesTo log s x) (sym i.0) h)

start_goes : (s : Setting) (log : Log) (c : ℕ) (q : Queued) → Goes log (start_at s c log q)
start_goes s log c q b k m e = grind (arith, sent_to, in_mapped)

commit_goes : (s : Setting) (log : Log) (c : ℕ) (bases : Bases) (a : Attempt) → Goes log (commit_act s.catalogue bases c a)
commit_goes s log c bases a b k m e = grind (arith, sent_to, in_made)

asks_to_d : (log : Log) (ts c d : ℕ) (m : Msg) → asks_rows ts c m ≡ true → GoesTo log (D (dm_no d)) m
asks_to_d log ts c d m e = grind arith

-- at a T

over_goes : (s : Setting) (log : Log) (bases : Bases) (c : ℕ) (a : Attempt) (b : Bool) (act : Act)
    → (if b then Some (commit_act s.catalogue bases c a) else None) ≡ Some act → Goes log act
over_goes s log bases c a b act e = grind (arith, goes_some, commit_goes)

send_goes : (s : Setting) (log : Log) (bases : Bases) (c : ℕ) (a : Attempt) (ms : List (ℕ × Msg)) (act : Act)
    → active s c log ≡ Some a → a.exchange.to_send ≡ ms
    → or_else (first_send ms) (if is_over a.exchange.phase then Some (commit_act s.catalogue bases c a) else None) ≡ Some act → Goes log act
send_goes s log bases c a [] act i p e = over_goes s log bases c a (is_over a.exchange.phase) act e
send_goes s log bases c a (m ∷ rest) act i p e =
    goes_some log (Sends (D (dm_no m.0)) m.1 None) act (goes_one log (D (dm_no m.0)) m.1 None
    (asks_to_d log a.ts c m.0 m.1 (asks_next s c log a m i (ap head_of p)))) e

-- an ASK that lacks its NULL was handed

more_asked : (log : Log) (e : Entry) (b : Site) → WasAsked log b IsAnAsk → WasAsked (e ∷ log) b IsAnAsk
more_asked log e b h = record { asked = h.asked; later = e ∷ h.later; before = h.before; is = ap (λ l. e ∷ l) h.is; fits = h.fits }

asks_in : (n : ℕ) (from : Site) (m : Msg) (log : Log) (qs : List Question) (k : ℕ) (q : Question)
    → ((j : ℕ) → slice_get qs j ≡ Some q → WasAsked log q.from IsAnAsk) → slice_get (asks_handed n from m qs) k ≡ Some q
    → WasAsked (Handed from m ∷ log) q.from IsAnAsk
asks_in n from (Ask class time) log qs k q f e = elim (in_either qs (record { hand = n; from = from; class = class.0; time = time.0 } ∷ []) k q e) [
  | inl p ↦ more_asked log (Handed from (Ask class time)) q.from (f k p)
  | inr p ↦ (let r : record { hand = n; from = from; class = class.0; time = time.0 } ≡ q =
      in_one (record { hand = n; from = from; class = class.0; time = time.0 } ∷ []) (record {
        hand = n;
        from = from;
        class = class.0;
        time = time.0;
      }) p.0 q refl p.1 in
      record { asked = Ask class time; later = []; before = log; is = ap (λ x. Handed x (Ask class time) ∷ log) (ap (λ (x : Question). x.from) r); fits = tt })
]
asks_in n from m log qs k q f e = more_asked log (Handed from m) q.from (f k e)

asks_left : (act : Act) (qs : List Question) (k : ℕ) (q : Question) → slice_get (asks_acted act qs) k ≡ Some q → (j : ℕ) × (slice_get qs j ≡ Some q)
asks_left act qs k q e = grind (arith, in_filtered)

pub was_asked_of : (log : Log) (k : ℕ) (q : Question) → slice_get (asks log) k ≡ Some q → WasAsked log q.from IsAnAsk
was_asked_of [] k q e = cc
was_asked_of (Handed from m ∷ log) k q e = asks_in (suc (hands log)) from m log (asks log) k q (λ j p. was_asked_of log j q p) e
was_asked_of (Did act ∷ log) k q e = let i = asks_left act (asks log) k q e in more_asked log (Did act) q.from (was_asked_of log i.0 q i.1)
was_asked_of (x ∷ log) k q e = more_asked log x q.from (was_asked_of log k q e)

null_goes : (log : Log) (q : Question) (b : Bool) (o : Option ℕ) (act : Act) → WasAsked log q.from IsAnAsk
    → (if b then null_at q o else None) ≡ Some act → Goes log act
null_goes log q true (Some t) act w e = grind (arith, goes_some, goes_one)
null_goes log q _ _ act w e = cc

held_goes : (s : Setting) (log : Log) (b : Bool) (hand : Option ℕ) (act : Act)
    → (if b then Some (Sends U (Held (time_at (bound s log))) hand) else None) ≡ Some act → Goes log act
held_goes s log b hand act e = grind (arith, goes_some, goes_one)

start_if : (s : Setting) (log : Log) (b : Bool) (c : ℕ) (o : Option Queued) (act : Act)
    → (if b then start_of s.catalogue (view_of s log) c o else None) ≡ Some act → Goes log act
start_if s log b c o act e = grind (arith, goes_some, start_goes)

pub t_goes : (s : Setting) (bases : Bases) (log : Log) (act : Act) → IsDue s.catalogue bases (view_of s log) act → Goes log act
t_goes s bases log act (by_exchange k c p e) = grind (arith, in_mapped, send_goes)
t_goes s bases log act (by_ask k n c q p r e) = null_goes log q (q.class == c.class) _ act (was_asked_of log n q r) e
t_goes s bases log act (by_hold e) = held_goes s log _ _ act e
t_goes s bases log act (by_start k c p e) = start_if s log _ c.class (head_of c.queue) act e

pub u_goes : (s : Setting) (log : Log) (act : Act) → IsStepU s log act → Goes log act
u_goes s log act = u_way s log act (Goes log) (λ q i z r. start_goes s log 0 q) (λ b a i. commit_goes s log 0 b a)
    (λ d m a e. goes_one log (D (dm_no d)) m None (asks_to_d log a.ts 0 d m e)) (λ t ts i p. goes_one log (T (tm_no t)) (Release ts) None tt)
    (λ t e. goes_one log (T (tm_no t)) Hold None tt)
