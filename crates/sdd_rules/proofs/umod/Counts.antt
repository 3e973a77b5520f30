-- What a handed message and an act leave of the counts of the module for undeclared transactions.
use Rattle.sdd_rules.proofs.All.{Log, Msg, Served, Site, TmCounts, [], arith, counts, counts_handed, refl, served_now, ℕ, ◌∷◌, ◌≡◌}

pub tm_handed : (from : Site) (m : Msg) (k : TmCounts) → (counts_handed from m k).tm ≡ k.tm
tm_handed from m k = grind (arith)

pub counts_tm : (t : ℕ) (log : Log) → (counts t log).tm ≡ t
counts_tm t [] = refl
counts_tm t (e ∷ log) = grind (arith, tm_handed, counts_tm t log)

pub commits_same : (m : Msg) (v : Served) → (served_now m v).commits ≡ v.commits
commits_same m v = grind arith
