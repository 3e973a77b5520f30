-- On a link the times of a class never fall: each is at most the class's limit, which never falls either.
use Rattle.sdd_invariants.proofs.All.{Act, AllGe, AllLe, AllPiped, Attempt, Bases, Bool, Catalogue, Change, Did, Each, Entry, Handed, IsFair, IsRising, IsSend, IsStep, IsTimed, List, Log, Msg, None, Option, Queued, Sends, Setting, Site, Some, Submits, [], active, ap, arith, bound, class_is, commit_act, effect, false, filter_map, goes_through, head_of, if◌then◌else◌, inl, inr, limit, limit_of, map, next_stamp, number_of, numbers_to, piped, puts_to, queue, refl, same_site, sends_of_act, start_at, subst, sym, time_of, times_in, to_site, write_to, ℕ, ◌++◌, ◌==◌, ◌∙◌, ◌∷◌, ◌≡◌, ◌≤◌}
use Rattle.sdd_invariants.proofs.Clocks.{bound_rises, limit_le}
use Rattle.sdd_invariants.proofs.Active.{handed_way, sent_way, step_way}
use Rattle.sdd_invariants.proofs.Bools.{same_number, same_or_not}
use Rattle.sdd_invariants.proofs.Lists.{le_up}

abbrev pub AllAre : ℕ → List ℕ → Type 0
AllAre t [] = Unit {0}
AllAre t (x ∷ xs) = (x ≡ t) × AllAre t xs

-- lists
times_join : (c : ℕ) (xs ys : List Msg) → times_in c (xs ++ ys) ≡ times_in c xs ++ times_in c ys
times_join c [] ys = refl
times_join c (m ∷ xs) ys = grind (arith, time_of, times_join c xs ys)

all_ge_join : (k t : ℕ) (xs ys : List ℕ) → k ≤ t → AllGe k xs → AllAre t ys → AllGe k (xs ++ ys)
all_ge_join k t [] [] l h i = tt
all_ge_join k t [] (y ∷ ys) l h i = (omega (arith, i.0), all_ge_join k t [] ys l tt i.1)
all_ge_join k t (x ∷ xs) ys l h i = (h.0, all_ge_join k t xs ys l h.1 i)

rising_same : (t : ℕ) (ys : List ℕ) → AllAre t ys → IsRising ys
rising_same t [] i = tt
rising_same t (y ∷ ys) i = (all_ge_join y t [] ys (omega (arith, i.0)) tt i.1, rising_same t ys i.1)

rising_join : (t : ℕ) (xs ys : List ℕ) → IsRising xs → AllLe t xs → AllAre t ys → IsRising (xs ++ ys)
rising_join t [] ys h l i = rising_same t ys i
rising_join t (x ∷ xs) ys h l i = (all_ge_join x t xs ys l.0 h.0 i, rising_join t xs ys h.1 l.1 i)

le_same : (k t : ℕ) (xs ys : List ℕ) → t ≤ k → AllLe k xs → AllAre t ys → AllLe k (xs ++ ys)
le_same k t [] [] l h i = tt
le_same k t [] (y ∷ ys) l h i = (omega (arith, i.0), le_same k t [] ys l tt i.1)
le_same k t (x ∷ xs) ys l h i = (h.0, le_same k t xs ys l h.1 i)

-- one act: the limit doesn't fall, and what it puts has one time, from the limit before to the limit after
pub record Goes (s : Setting) (c : ℕ) (b : Site) (log : Log) (act : Act) : Type 0 where
  pub time : ℕ
  pub above : limit s c log ≤ time
  pub below : time ≤ limit s c (Did act ∷ log)
  pub all_at : AllAre time (times_in c (to_site b (sends_of_act act)))

-- an act that puts nothing of the class
quiet_act : (s : Setting) (c : ℕ) (b : Site) (log : Log) (act : Act) → limit s c log ≤ limit s c (Did act ∷ log)
    → times_in c (to_site b (sends_of_act act)) ≡ [] → Goes s c b log act
quiet_act s c b log act l e = record { time = limit s c log; above = omega arith; below = l; all_at = rw e tt }

times_if : (c t : ℕ) (b : Bool) (m : Msg) (ms : List Msg) → AllAre t (times_in c (m ∷ [])) → AllAre t (times_in c ms)
    → AllAre t (times_in c (if b then m ∷ ms else ms))
times_if c t b m ms h i = grind (arith, time_of)

piped_at : (c t : ℕ) (b : Site) (ps : List (Site × Msg)) → AllPiped c t ps → AllAre t (times_in c (to_site b ps))
piped_at c t b [] h = tt
piped_at c t b (p ∷ ps) h = times_if c t (same_site b p.0) p.1 (to_site b ps) (grind (arith, class_is, same_number, time_of)) (piped_at c t b ps h.1)

times_none : (c : ℕ) (b : Bool) (m : Msg) (ms : List Msg) → goes_through c m ≡ false → times_in c ms ≡ [] → times_in c (if b then m ∷ ms else ms) ≡ []
times_none c b m ms h i = grind arith

piped_other : (k c t : ℕ) (b : Site) (ps : List (Site × Msg)) → (k == c) ≡ false → AllPiped k t ps → times_in c (to_site b ps) ≡ []
piped_other k c t b [] e h = refl
piped_other k c t b (p ∷ ps) e h = times_none c (same_site b p.0) p.1 (to_site b ps) (ap (class_is c) h.0 ∙ e) (piped_other k c t b ps e h.1)

piped_map : (k t : ℕ) (f : ℕ → Site × Msg) (dms : List ℕ) → ((d : ℕ) → piped (f d).1 ≡ Some (k, t)) → AllPiped k t (map f dms)
piped_map k t f [] h = tt
piped_map k t f (d ∷ dms) h = (h d, piped_map k t f dms h)

piped_writes : (cat : Catalogue) (c : ℕ) (a : Attempt) (changes : List Change) (dms : List ℕ) → AllPiped c a.ts (filter_map (write_to cat c a changes) dms)
piped_writes cat c a changes [] = tt
piped_writes cat c a changes (d ∷ dms) = grind (arith, piped_writes cat c a changes dms)

pub piped_start : (s : Setting) (c : ℕ) (log : Log) (q : Queued) → AllPiped c (next_stamp s log) (sends_of_act (start_at s c log q))
piped_start s c log q = piped_map c _ _ _ (λ d. refl)

pub piped_commit : (s : Setting) (c : ℕ) (bases : Bases) (a : Attempt) → AllPiped c a.ts (sends_of_act (commit_act s.catalogue bases c a))
piped_commit s c bases a = piped_writes s.catalogue c a (effect s.catalogue (bases a.ts) a.text).changes (numbers_to s.catalogue.dms)

-- the three kinds of steps
start_own : (s : Setting) (c : ℕ) (b : Site) (log : Log) (q : Queued) → number_of s.site ≤ 63 → active s c log ≡ None
    → head_of (queue s c log) ≡ Some q → Goes s c b log (start_at s c log q)
start_own s c b log q w i e = grind (arith, same_number, piped_at, piped_start)

limit_on : (b d : ℕ) (o : Option Attempt) → b ≤ d → limit_of b o ≤ limit_of d o
limit_on b d o l = grind arith

commit_own : (s : Setting) (c : ℕ) (bases : Bases) (b : Site) (log : Log) (a : Attempt) → limit s c log ≤ bound s log
    → active s c log ≡ Some a → Goes s c b log (commit_act s.catalogue bases c a)
commit_own s c bases b log a l e = grind (arith, same_number, piped_at, piped_commit)

commit_other : (s : Setting) (k c : ℕ) (bases : Bases) (b : Site) (log : Log) (a : Attempt) → (k == c) ≡ false
    → Goes s c b log (commit_act s.catalogue bases k a)
commit_other s k c bases b log a e = grind (arith, quiet_act, piped_other, piped_commit)

send_goes : (s : Setting) (c : ℕ) (b : Site) (log : Log) (to : Site) (m : Msg) (hand : Option ℕ) → IsSend s log m → Goes s c b log (Sends to m hand)
send_goes s c b log to m hand e = grind (arith, quiet_act, sent_way, limit, limit_of, bound, active, times_none, same_or_not, times_if, class_is, same_number, time_of)

pub goes : (s : Setting) (c : ℕ) (b : Site) (log : Log) (act : Act) → number_of s.site ≤ 63 → limit s c log ≤ bound s log
    → IsStep s log act → Goes s c b log act
goes s c b log act w l i = step_way s log act (Goes s c b log)
    (λ k q at f e. elim (same_or_not k c) [
      | inl p ↦ subst (λ j. Goes s c b log (start_at s j log q)) (sym p) (start_own s c b log q w (rw p at f) (rw p at e))
      | inr p ↦ (grind (arith, quiet_act, start_at, limit_on, bound, active, piped_other, piped_start))
    ])
    (λ k bases a at f. elim (same_or_not k c) [
      | inl p ↦ subst (λ j. Goes s c b log (commit_act s.catalogue bases j a)) (sym p) (commit_own s c bases b log a l (rw p at f))
      | inr p ↦ commit_other s k c bases b log a p
    ]) (λ to m hand f. send_goes s c b log to m hand f) i

timed_on : (s : Setting) (c : ℕ) (b : Site) (log : Log) (e : Entry) → limit s c log ≤ limit s c (e ∷ log)
    → puts_to b (e ∷ log) ≡ puts_to b log → IsTimed s c b log → IsTimed s c b (e ∷ log)
timed_on s c b log e l p h = grind (arith, le_up)

limit_handed : (s : Setting) (c : ℕ) (from : Site) (m : Msg) (log : Log) → limit s c log ≤ bound s log → limit s c log ≤ limit s c (Handed from m ∷ log)
limit_handed s c from m log l = grind (arith, bound_rises, handed_way, limit_on)

pub timed : (s : Setting) (c : ℕ) (b : Site) (log : Log) → number_of s.site ≤ 63 → Each (IsFair s) log → IsTimed s c b log
timed s c b [] w h = record { rises = tt; within = tt }
timed s c b (Handed from m ∷ log) w h = timed_on s c b log (Handed from m) (limit_handed s c from m log (limit_le s log c w h.1)) refl (timed s c b log w h.1)
timed s c b (Submits n txn ∷ log) w h = timed_on s c b log (Submits n txn) (omega arith) refl (timed s c b log w h.1)
timed s c b (Did act ∷ log) w h =
    let i = timed s c b log w h.1 in
    let g = goes s c b log act w (limit_le s log c w h.1) h.0 in
    let e = times_join c (puts_to b log) (to_site b (sends_of_act act)) in
    record {
      rises = rw e (rising_join g.time _ _ i.rises (le_up (limit s c log) g.time _ g.above i.within) g.all_at);
      within = rw e (le_same (limit s c (Did act ∷ log)) g.time _ _ g.below
          (le_up (limit s c log) (limit s c (Did act ∷ log)) _ (omega (arith, g.above, g.below)) i.within) g.all_at);
    }
timed s c b (x ∷ log) w h =
    timed_on s c b log x (limit_on (bound s log) (bound s (x ∷ log)) (active s c log) (bound_rises s x log)) refl
    (timed s c b log w h.1)
