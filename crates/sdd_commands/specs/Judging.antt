-- What `verify` prints of a report.
use Rattle.std.specs.Prelude.{ℕ, List, ◌++◌, ◌≡◌, codes, refl}
use Rattle.std.specs.Fmt.{decimal, digits}
use Rattle.sdd_verify.specs.declared.verdict.Verdict.{Verdict}
use Rattle.sdd_verify.specs.declared.verdict.Verdict.TheVariants.{Yes, No}

-- that it is verified, or the number of the first line at fault
abbrev pub verdict_line : Verdict → List ℕ
verdict_line Yes = codes "yes\n"
verdict_line (No line) = codes "no " ++ (decimal line ++ codes "\n")

-- worked: a report that is too long
pub too_long_line : verdict_line (No 0) ≡ codes "no 0\n"
unfolding digits
too_long_line = refl
