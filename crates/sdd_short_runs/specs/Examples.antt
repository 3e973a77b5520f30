-- Worked short runs over the relation item (id, val), where the rows 1 and 2 are there at first.
use Rattle.std.specs.Prelude.{ℕ, ◌≡◌, pos, Bool, true, false, not, List, [], ◌∷◌, map, refl}
use Rattle.sdd_lang.specs.All.{Int, Reply, Rows}
use Rattle.sdd_lang.specs.declared.effect.Effect.{Effect}
use Rattle.sdd_lang.specs.declared.transaction.Txn.{Txn}
use Rattle.sdd_links.specs.Examples.{crossing}
use Rattle.sdd_snapshot_replay.specs.Logs.Step.{begins, ends}
use Rattle.sdd_robust_laws.specs.RunExamples.{adds, reader, shows, skew, text, two_rows}
use Rattle.sdd_robust_laws.specs.Runs.{change_one_item}
use Rattle.sdd_robust.specs.Members.{members_of}
use Rattle.sdd_short_runs.specs.Found.{all_commit}
use Rattle.sdd_short_runs.specs.Pairs.{tried_pairs}
use Rattle.sdd_short_runs.specs.ShortRuns.{effect_of, short_log}

-- the outer one begins first and ends last
pub log_of_two : short_log (skew 1 ∷ skew 2 ∷ []) ≡ ends 2 ∷ ends 1 ∷ begins 1 ∷ ends 0 ∷ begins 0 ∷ begins 2 ∷ []
log_of_two = refl

abbrev effects : Txn → List Txn → ℕ → Effect
effects outer inner = effect_of crossing two_rows outer inner

-- whether both may end: the first committer wins
abbrev may_both : Txn → Txn → Bool
may_both outer inner = not (change_one_item crossing (effects outer (inner ∷ []) 0) (effects outer (inner ∷ []) 1))

-- write skew: each asks for the row that the other changes. Both may end, and neither shows the other's change
pub skew_may_end : may_both (skew 1) (skew 2) ≡ true
skew_may_end = refl

pub skew_replies : map (λ n. (effects (skew 1) (skew 2 ∷ []) n).reply) (0 ∷ 1 ∷ []) ≡ shows (0 ∷ 0 ∷ [])
skew_replies = refl

-- of these two transactions each may be the outer one
abbrev workload : List Txn
workload = skew 1 ∷ skew 2 ∷ []

pub skew_pairs : map {B = ℕ × ℕ} (λ p. (p.0.place, p.1.place)) (tried_pairs (members_of crossing workload two_rows)) ≡ (0, 1) ∷ (1, 0) ∷ []
skew_pairs = refl

pub skew_commits : all_commit crossing two_rows (skew 1) (skew 2 ∷ []) ≡ true
skew_commits = refl

-- a lost update is none: of two runs of one increment the outer one may not end
pub increments_may_not : may_both (text (adds 1 5 ∷ [])) (text (adds 1 5 ∷ [])) ≡ false
increments_may_not = refl

-- the values that two queries show
abbrev shows_two : ℕ → ℕ → Reply
shows_two a b = Rows (((Int (pos a) ∷ []) ∷ []) ∷ ((Int (pos b) ∷ []) ∷ []) ∷ [])

-- a reader that runs beside: it shows the change of the one before it, and the outer one doesn't
pub reader_replies : map (λ n. (effects (reader 1) (reader 2 ∷ reader 3 ∷ []) n).reply) (0 ∷ 1 ∷ 2 ∷ []) ≡ Rows [] ∷ shows_two 0 7 ∷ shows (0 ∷ [])
reader_replies = refl
