-- The clock of a site only goes on, so no READ that it sent has a time that is still to come.
use Rattle.sdd_attempt.proofs.All.{Act, AllUpTo, AreStamped, Did, Entry, IsUpTo, List, Log, Msg, Setting, Site, Ticking, [], arith, clock, false, is_read, pushed, pushed_by, refl, sends_of_act, sent, ticked_by, timestamp, ℕ, ◌++◌, ◌<◌, ◌∷◌, ◌≡◌, ◌≤◌}

-- the clock

abbrev pub NoSooner : Ticking → Ticking → Type 0
NoSooner k l = (k.ticks ≤ l.ticks) × (l.number ≡ k.number)

pub no_sooner_push : (k : Ticking) (t : ℕ) → NoSooner k (pushed k t)
no_sooner_push k t = (omega arith, refl)

pub no_sooner_hand : (m : Msg) (k : Ticking) → NoSooner k (pushed_by m k)
no_sooner_hand m k = grind arith

pub no_sooner_act : (act : Act) (k : Ticking) → NoSooner k (ticked_by act k)
no_sooner_act act k = grind arith

pub no_sooner : (at : Site) (e : Entry) (log : Log) → NoSooner (clock at log) (clock at (e ∷ log))
no_sooner at e log = grind arith

stamp_later : (k l : Ticking) → NoSooner k l → timestamp k ≤ timestamp l
stamp_later k l h = let same : l.number ≡ k.number = h.1 in let le : k.ticks ≤ l.ticks = h.0 in omega arith

pub stamps_grow : (at : Site) (e : Entry) (log : Log) → timestamp (clock at log) ≤ timestamp (clock at (e ∷ log))
stamps_grow at e log = stamp_later (clock at log) (clock at (e ∷ log)) (no_sooner at e log)

-- messages up to a time

later : (t u : ℕ) → t ≤ u → (m : Msg) → IsUpTo t m → IsUpTo u m
later t u l e h = grind arith

pub all_later : (t u : ℕ) → t ≤ u → (ms : List (Site × Msg)) → AllUpTo t ms → AllUpTo u ms
all_later t u l [] h = tt
all_later t u l (m ∷ ms) h = (later t u l m.1 h.0, all_later t u l ms h.1)

pub all_both : (t : ℕ) (ms ns : List (Site × Msg)) → AllUpTo t ms → AllUpTo t ns → AllUpTo t (ms ++ ns)
all_both t [] ns h k = k
all_both t (m ∷ ms) ns h k = (h.0, all_both t ms ns h.1 k)

-- a READ with a later time isn't among them
pub no_read : (t ts c : ℕ) (m : Msg) → t < ts → IsUpTo t m → is_read ts c m ≡ false
no_read t ts c m l h = grind arith

pub stamped_did : (s : Setting) (log : Log) (act : Act) → AreStamped s log → AllUpTo (timestamp (clock s.site (Did act ∷ log))) (sends_of_act act)
    → AreStamped s (Did act ∷ log)
stamped_did s log act st h = grind (arith, all_both, sent, all_later, stamps_grow)

-- an entry by which nothing is sent
pub stamped_still : (s : Setting) (log : Log) (e : Entry) → sent (e ∷ log) ≡ sent log → AreStamped s log → AreStamped s (e ∷ log)
stamped_still s log e same st = grind (arith, all_later, stamps_grow, sent)
