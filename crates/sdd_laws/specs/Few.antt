-- How often a transaction starts: no more than once for each Commit of another one, and once more.
use Rattle.std.specs.Prelude.{ℕ, suc, ◌≤◌, ◌==◌, Bool, false, not, length, filter}
use Rattle.sdd_history.specs.declared.record.Rec.{Rec}
use Rattle.sdd_history.specs.declared.record.Rec.TheVariants.{Commit}
use Rattle.sdd_history.specs.Records.{History}
use Rattle.sdd_laws.specs.Starts.{is_start_of}

abbrev pub is_commit_of_other : ℕ → Rec → Bool
is_commit_of_other n (Commit txn attempt reply changes values rows) = not (txn.0 == n)
is_commit_of_other n _ = false

-- how many Starts transaction n has, and how many Commits the others have

abbrev pub starts_of : History → ℕ → ℕ
starts_of h n = length (filter (λ e. is_start_of n e.1) h)

abbrev pub commits_of_others : History → ℕ → ℕ
commits_of_others h n = length (filter (λ e. is_commit_of_other n e.1) h)

abbrev pub AreFew : History → Type 0
AreFew h = (n : ℕ) → starts_of h n ≤ suc (commits_of_others h n)
