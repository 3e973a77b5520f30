-- Starts draw timestamps that rise and lie above all that was promised before.
use Rattle.sdd_invariants.proofs.All.{Act, AllOf, Attempt, Did, Each, Entry, Handed, IsClocked, IsFair, IsStep, List, Log, Option, Queued, Sends, Setting, Site, Some, [], active, arith, bound, clock, last_stamp, limit, limit_of, next_stamp, number_of, promise_of, promises, refl, slice_get, stamp_or, stamps, start_at, subst, suc, sym, zero, ℕ, ◌*◌, ◌++◌, ◌+◌, ◌<◌, ◌∙◌, ◌∷◌, ◌≡◌, ◌≢◌, ◌≤◌}
use Rattle.sdd_invariants.proofs.Active.{handed_way, sent_way, step_way}
use Rattle.sdd_invariants.proofs.Bools.{if_way}
use Rattle.sdd_invariants.proofs.Lists.{le_join, le_up, lt_above}

-- a clock keeps its number, and no entry lowers it

pub clock_number : (at : Site) (log : Log) → (clock at log).number ≡ number_of at
clock_number at [] = refl
clock_number at (Handed from m ∷ log) = (grind arith) ∙ clock_number at log
clock_number at (Did act ∷ log) = (grind arith) ∙ clock_number at log
clock_number at (_ ∷ log) = clock_number at log

pub clock_rises : (at : Site) (e : Entry) (log : Log) → (clock at log).ticks ≤ (clock at (e ∷ log)).ticks
clock_rises at e log = grind (arith)

pub clock_grows : (at : Site) (later log : Log) → (clock at log).ticks ≤ (clock at (later ++ log)).ticks
clock_grows at [] log = omega arith
clock_grows at (e ∷ later) log = let i = clock_grows at later log in let j = clock_rises at e (later ++ log) in omega arith

pub bound_rises : (s : Setting) (e : Entry) (log : Log) → bound s log ≤ bound s (e ∷ log)
bound_rises s e log = let r = clock_rises s.site e log in omega arith

pub bound_grows : (s : Setting) (later log : Log) → bound s log ≤ bound s (later ++ log)
bound_grows s later log = let r = clock_grows s.site later log in omega arith

pub stamp_rises : (s : Setting) (e : Entry) (log : Log) → last_stamp s log ≤ last_stamp s (e ∷ log)
stamp_rises s e log = let r = clock_rises s.site e log in let n = clock_number s.site log in let m = clock_number s.site (e ∷ log) in omega arith

pub stamp_below_bound : (s : Setting) (log : Log) → number_of s.site ≤ 63 → last_stamp s log ≤ bound s log
stamp_below_bound s log w = let n = clock_number s.site log in omega arith

pub bound_below_next : (s : Setting) (log : Log) → bound s log < next_stamp s log
bound_below_next s log = omega arith

pub stamp_below_next : (s : Setting) (log : Log) → last_stamp s log < next_stamp s log
stamp_below_next s log = omega arith

-- a Start draws what the clock then stands at
pub next_is_last : (s : Setting) (c : ℕ) (log : Log) (q : Queued) → last_stamp s (Did (start_at s c log q) ∷ log) ≡ next_stamp s log
next_is_last s c log q = refl

-- a clock that rises, and no new time
clock_on : (s : Setting) (log : Log) (e : Entry) → stamps (e ∷ log) ≡ stamps log → promises (e ∷ log) ≡ promises log → IsClocked s log → IsClocked s (e ∷ log)
clock_on s log e p q h = grind (arith, le_up, stamp_rises, bound, bound_rises)

-- the active attempts' timestamps were drawn from the clock
abbrev pub IsDrawn : Setting → Log → Type 0
IsDrawn s log = (c : ℕ) → stamp_or (active s c log) ≤ last_stamp s log

pub drawn : (s : Setting) (log : Log) → Each (IsFair s) log → IsDrawn s log
drawn s [] h c = omega arith
drawn s (e ∷ log) h c = grind (arith, active, stamp_rises, handed_way, step_way, start_at, if_way, stamp_or, sent_way, (drawn s log h.1 c), (drawn s log h.1))

pub drawn_at : (s : Setting) (c : ℕ) (log : Log) (a : Attempt) → Each (IsFair s) log → active s c log ≡ Some a → a.ts ≤ last_stamp s log
drawn_at s c log a h e = subst (λ o. stamp_or o ≤ last_stamp s log) e (drawn s log h c)

limit_le_of : (b k : ℕ) (o : Option Attempt) → stamp_or o ≤ k → k ≤ b → limit_of b o ≤ b
limit_le_of b k o h l = grind arith

pub limit_le : (s : Setting) (log : Log) (c : ℕ) → number_of s.site ≤ 63 → Each (IsFair s) log → limit s c log ≤ bound s log
limit_le s log c w h = limit_le_of (bound s log) (last_stamp s log) (active s c log) (drawn s log h c) (stamp_below_bound s log w)

clock_act : (s : Setting) (log : Log) (act : Act) → ((c : ℕ) → limit s c log ≤ bound s log) → IsStep s log act → IsClocked s log → IsClocked s (Did act ∷ log)
clock_act s log act l i h = step_way s log act (λ x. IsClocked s (Did x ∷ log)) (λ c q at f e. (grind (arith, bound, start_at, bound_rises, le_up, lt_above)))
    (λ c bases a at f. record { drawn_le = h.drawn_le; falls = h.falls; promised_le = h.promised_le })
    (λ to m hand f. record { drawn_le = h.drawn_le; falls = h.falls; promised_le = le_join (bound s log) (promise_of (Sends to m hand)) (promises log) (grind (arith)) h.promised_le }) i

pub clocked : (s : Setting) (log : Log) → number_of s.site ≤ 63 → Each (IsFair s) log → IsClocked s log
clocked s [] w h = record { drawn_le = tt; falls = tt; promised_le = tt }
clocked s (Did act ∷ log) w h = clock_act s log act (λ c. limit_le s log c w h.1) h.0 (clocked s log w h.1)
clocked s (x ∷ log) w h = clock_on s log x refl refl (clocked s log w h.1)

stamp_is : (s : Setting) (log : Log) → next_stamp s log ≡ suc (clock s.site log).ticks * 64 + number_of s.site
stamp_is s log = let n = clock_number s.site log in omega arith

of_act : (s : Setting) (log : Log) (act : Act) → IsStep s log act → AllOf (number_of s.site) (stamps log) → AllOf (number_of s.site) (stamps (Did act ∷ log))
of_act s log act i h = grind (arith, step_way, stamp_is)

pub of_site : (s : Setting) (log : Log) → Each (IsFair s) log → AllOf (number_of s.site) (stamps log)
of_site s [] h = tt
of_site s (Did act ∷ log) h = of_act s log act h.0 (of_site s log h.1)
of_site s (_ ∷ log) h = of_site s log h.1

pub stamp_at : (n : ℕ) (xs : List ℕ) (k x : ℕ) → AllOf n xs → slice_get xs k ≡ Some x → (j : ℕ) × (x ≡ suc j * 64 + n)
stamp_at n [] k x h e = cc
stamp_at n (y ∷ xs) zero x h e = let p : y ≡ x = cc in (h.0.0, sym p ∙ h.0.1)
stamp_at n (y ∷ xs) (suc k) x h e = stamp_at n xs k x h.1 e

-- two sites with different numbers drew no timestamp both
pub stamps_differ : (s r : Setting) (log more : Log) (i j x y : ℕ) → number_of s.site ≤ 63 → number_of r.site ≤ 63
    → number_of s.site ≢ number_of r.site → Each (IsFair s) log → Each (IsFair r) more
    → slice_get (stamps log) i ≡ Some x → slice_get (stamps more) j ≡ Some y → x ≢ y
stamps_differ s r log more i j x y a b d h k e f q = grind (arith, stamp_at, of_site)
