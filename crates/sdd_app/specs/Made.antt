-- What a call comes to that makes a workload of a seed, with so many transactions, and runs it on the bank.
use Rattle.std.specs.Prelude.{ℕ, List}
use Rattle.sdd_verified.specs.make.Bank.{bank}
use Rattle.sdd_verified.specs.make.Turns.{workload_of}
use Rattle.sdd_verified.specs.run.Runs.{EndsAtLimit, IsSummaryOn}
use Rattle.sdd_verified.specs.Summaries.{TellsAllDone}
use Rattle.sdd_shell.specs.Verdict.{Verdict, Prints, PastLimit}

-- The summary of the run tells that all of its transactions are committed.
pub record IsMadeSummary (seed count : ℕ) (text : List ℕ) : Type 0 where
  pub summary : IsSummaryOn bank (workload_of seed count) text
  pub all_committed : TellsAllDone count text

-- the limit ends the run
abbrev pub MadeEndsAtLimit : ℕ → ℕ → Type 0
MadeEndsAtLimit seed count = EndsAtLimit bank (workload_of seed count)

pub data OverMade (seed count : ℕ) : Verdict → Type 0 where
  -- the summary is printed
  printed : (text : List ℕ) → IsMadeSummary seed count text → OverMade seed count (Prints text)
  -- the limit ends the run
  past_limit : MadeEndsAtLimit seed count → OverMade seed count PastLimit
