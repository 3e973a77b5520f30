-- HOLDs, HELDs and RELEASEs of each T stay in turn, and a Commit had its Start.
use Rattle.sdd_umod.proofs.All.{Held, InTurn, Log, TmCounts, ap, arith, commits, counted, counts, nat_tests, suc, sym, ℕ, ◌<◌, ◌∙◌, ◌≡◌}
use Rattle.sdd_counts.specs.rules.All.{Hold, Release}
use Rattle.sdd_counts.specs.declared.tm_count.Sign.TheVariants as signs
use Rattle.sdd_counts.proofs.rules.umod.Counts.{counts_tm}

-- one message more, of the T that has so many

pub turn_held : (commits n : ℕ) (k : TmCounts) → InTurn commits k → (n ≡ k.tm → k.helds < k.holds) → InTurn commits (counted signs.Held n k)
turn_held commits n k turn h = grind (arith, nat_tests)

pub turn_release : (commits n : ℕ) (k : TmCounts) → InTurn commits k → (n ≡ k.tm → k.releases < commits) → InTurn commits (counted signs.Release n k)
turn_release commits n k turn h = grind (arith, nat_tests)

pub turn_hold : (commits n : ℕ) (k : TmCounts) → InTurn commits k → (n ≡ k.tm → k.releases ≡ k.holds) → InTurn commits (counted signs.Hold n k)
turn_hold commits n k turn h = grind (arith, nat_tests)

-- one Commit more
pub turn_commit : (commits : ℕ) (k : TmCounts) → InTurn commits k → InTurn (suc commits) k
turn_commit commits k turn = let low = turn.committed in record { committed = omega arith; released = turn.released; answered = turn.answered }

-- the counts of a T that is found among all have its number
pub own_counts : (log : Log) (t u : ℕ) (k : TmCounts) → counts t log ≡ k → k.tm ≡ (counts u log).tm → counts u log ≡ k
own_counts log t u k is same = ap (λ n. counts n log) (sym (counts_tm u log) ∙ sym same ∙ ap (λ (x : TmCounts). x.tm) (sym is) ∙ counts_tm t log) ∙ is
