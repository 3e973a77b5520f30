-- How many HOLDs and RELEASEs went to a transaction module, and how many HELDs came from it: what U concludes, and how they grow.
use Rattle.std.specs.Prelude.{ℕ, suc, nat_lt, ◌<◌, ◌^◌, ◌≡◌, ◌==◌, Bool, ◌&&◌, if◌then◌else◌, List, slice_get, Some}
use Rattle.sdd_counts.specs.declared.tm_count.Sign.{Sign}
use Rattle.sdd_counts.specs.declared.tm_count.Sign.TheVariants as signs
use Rattle.sdd_rules.specs.umod.Views.{TmCounts}

-- before the first message
abbrev pub no_counts : ℕ → TmCounts
no_counts t = record { tm = t; holds = 0; helds = 0; releases = 0 }

-- one message more to or from the T of a number
abbrev pub counted : Sign → ℕ → TmCounts → TmCounts
counted signs.Hold n k = if n == k.tm then record k { holds = suc k.holds } else k
counted signs.Held n k = if n == k.tm then record k { helds = suc k.helds } else k
counted signs.Release n k = if n == k.tm then record k { releases = suc k.releases } else k

-- a T waits for its RELEASE
abbrev pub is_kept_on_hold : ℕ → TmCounts → Bool
is_kept_on_hold commits k = nat_lt k.releases commits

-- a T holds for the transaction of this number, and has said so
abbrev pub is_holding : ℕ → TmCounts → Bool
is_holding n k = (k.holds == n) && (k.helds == n)

-- each HOLD to a T was followed by a RELEASE
abbrev pub is_free : TmCounts → Bool
is_free k = k.releases == k.holds

-- numbers that have room for one more
pub record HasRoom (k : TmCounts) : Type 0 where
  pub holds : k.holds < 2 ^ 60
  pub helds : k.helds < 2 ^ 60
  pub releases : k.releases < 2 ^ 60

abbrev pub HaveRoom : List TmCounts → Type 0
HaveRoom counts = (i : ℕ) (k : TmCounts) → slice_get counts i ≡ Some k → HasRoom k
