-- One value, and all or none.
use Rattle.sdd_control.proofs.All.{Act, All, AllWritten, FitAll, List, Log, NoneWritten, Note, Nought, OneValue, Val, [], answered, ap, arith, cases_eq, cases_lt, heir, inl, inr, is_number, is_ok, is_write, knows, log_after, log_of, nat_tests, note_of, noted, or_left, or_right, suc, sym, true, value, value_by, zero, ℕ, ◌+◌, ◌-◌, ◌<◌, ◌==◌, ◌∙◌, ◌∷◌, ◌≡◌, ◌≤◌}
use Rattle.sdd_control.proofs.Lists.{or_cases, every_at, and_right}
use Rattle.sdd_control.proofs.Cases.{case_of}
use Rattle.sdd_control.proofs.Kept.{Kept, Ready, kept_nil, kept_on, heir_at, more}

pub kept_after : (backups writes : ℕ) (log : Log) (acts : List Act) → Kept backups writes log
    → FitAll backups acts → Kept backups writes (log_after backups writes log acts)
kept_after backups writes log [] k f = k
kept_after backups writes log (a ∷ acts) k f = grind (
  arith,
  more,
  note_of,
  kept_on,
  case_of,
  (kept_after backups writes
      (more log a (note_of backups writes log a)) acts (kept_on backups writes log a (note_of backups writes log a) (case_of backups writes log a f.0) k) f.1),
)

pub kept : (backups writes : ℕ) (acts : List Act) → FitAll backups acts → Kept backups writes (log_of backups writes acts)
kept backups writes acts f = kept_after backups writes [] acts (kept_nil backups writes) f

number_is : (i n : ℕ) (x : Note) → is_write i n x ≡ true → is_number n x ≡ true
number_is i n x e = grind (arith, nat_tests, and_right)

-- a number that a site wrote is written
pub number_noted : (i n : ℕ) (xs : Log) → noted (is_write i n) xs ≡ true → noted (is_number n) xs ≡ true
number_noted i n [] e = e
number_noted i n (x ∷ xs) e = grind (arith, or_cases, is_write, noted, or_left, is_number, number_is, or_right, (number_noted i n xs))

module _ (backups writes : ℕ) (log : Log) (k : Kept backups writes log) where
  -- who led when each higher site had answered gives its value to each later heir
  pub agree : (n i : ℕ) (v : Val) → Ready backups log i v → (j : ℕ) → j < n → i < j → j ≤ backups → heir log j ≡ true → value log j ≡ v
  agree zero i v r j b l u h = absurd (omega arith)
  agree (suc n) i v r j b l u h =
      let known = heir_at log j i h l in
      elim (or_cases (noted (is_ok i j) log) (knows log i j) (every_at (answered log i) (i + 1) (backups - i) j r.answers (omega arith) (let w = r.within in omega arith))) [
        | inl e ↦
            let t = k.rising i j (k.ok_noted i j e) in
            let s = k.last_sound t.from j t.val t.is in
            let now : value log j ≡ t.val = ap (λ z. value_by z (j == 0) (heir log j)) t.is in
            elim (cases_eq i t.from) [
              | inl q ↦ now ∙ sym s.value ∙ ap (value log) (sym q) ∙ r.value
              | inr q ↦ grind (
                arith,
                nat_tests,
                (agree n i v r t.from (let m = s.below in omega arith) (let m = t.least in omega arith) (let m = s.below in omega arith) s.heir),
              )
            ]
        | inr e ↦ absurd (k.never_both i j known e)
      ]

  pub agree_both : (i j : ℕ) (v w : Val) → Ready backups log i v → Ready backups log j w → v ≡ w
  agree_both i j v w p q = grind (arith, nat_tests, cases_lt, cases_eq, agree, value)

  pub one_value : OneValue log
  one_value i j v w s t = agree_both i j v w (k.finished i v s) (k.finished j w t)

  pub none_written : NoneWritten log
  none_written i j n s t = let e : Nought ≡ All = agree_both i j Nought All (k.finished i Nought s) (k.wrote j n t) in cc

  pub all_written : AllWritten writes log
  all_written i n s l u = number_noted i n log (k.all_written i n s l u)

pub one_value_of : (backups writes : ℕ) (acts : List Act) → FitAll backups acts → OneValue (log_of backups writes acts)
one_value_of backups writes acts f = one_value backups writes (log_of backups writes acts) (kept backups writes acts f)

pub all_written_of : (backups writes : ℕ) (acts : List Act) → FitAll backups acts → AllWritten writes (log_of backups writes acts)
all_written_of backups writes acts f = all_written backups writes (log_of backups writes acts) (kept backups writes acts f)

pub none_written_of : (backups writes : ℕ) (acts : List Act) → FitAll backups acts → NoneWritten (log_of backups writes acts)
none_written_of backups writes acts f = none_written backups writes (log_of backups writes acts) (kept backups writes acts f)
