-- Whether a site took a value from above: its last value tells.
use Rattle.sdd_control.proofs.All.{Log, [], and_both, ap, arith, cases_Bool, inl, inr, is_above, is_from_above, last, lt-ltb, nat_lt, nat_tests, noted, or_left, or_right, sym, true, ℕ, ◌<◌, ◌∙◌, ◌∷◌, ◌≡◌}
use Rattle.sdd_control.proofs.Kept.{Kept, last_of_cases}
use Rattle.sdd_control.proofs.Leader.{above_one}
use Rattle.sdd_control.proofs.Puts.{same_itself}

-- the last value is one that was taken
from_above_noted : (j i : ℕ) (log : Log) → is_from_above (last log j) i ≡ true → noted (is_above j i) log ≡ true
from_above_noted j i [] e = e
from_above_noted j i (x ∷ log) e =
    grind (arith, last_of_cases, last, or_right, is_above, noted, is_from_above, nat_lt, or_left, and_both, same_itself, (from_above_noted j i log))

pub above_is_last : (backups writes : ℕ) (log : Log) → Kept backups writes log → (i j : ℕ) → noted (is_above j i) log ≡ is_from_above (last log j) i
above_is_last backups writes log k i j =
    elim (cases_Bool (noted (is_above j i) log)) [
      | inl e ↦
          let g = above_one j i log e in
          let t = k.rising g.0 j g.2 in
          let l : i < t.from = let p = t.least in let q = g.1 in omega arith in
          e ∙ sym (ap (λ z. is_from_above z i) t.is ∙ lt-ltb i t.from l)
      | inr e ↦ grind (arith, nat_tests, cases_Bool, is_from_above, last, from_above_noted)
    ]
