-- How several classes have a transaction: the first that has it tells.
use Rattle.sdd_tm.proofs.All.{Absent, ClassState, List, Standing, [], add-one, arith, drop, length, map, or_standing, refl, slice_index_or, standing_among, standing_of, suc, zero, ℕ, ◌+◌, ◌<◌, ◌∷◌, ◌≡◌, ◌≢◌, ◌≤◌}

-- those from a place on
abbrev pub standing_from : List ClassState → ℕ → ℕ → Standing
standing_from runs i n = standing_among (map (λ (k : ClassState). k.line) (drop i runs)) n

standing_next : (runs : List ClassState) (i n : ℕ) (run : ClassState) → run ≡ slice_index_or runs i run → i < length runs
    → standing_from runs i n ≡ or_standing (standing_of run.line n) (standing_from runs (suc i) n)
standing_next [] i n run e within = absurd (omega arith)
standing_next (x ∷ runs) zero n run e within = cc
standing_next (x ∷ runs) (suc i) n run e within = standing_next runs i n run e (omega arith)

pub standing_here : (runs : List ClassState) (i n : ℕ) (run : ClassState) → run ≡ slice_index_or runs i run → i < length runs
    → standing_from runs i n ≡ or_standing (standing_of run.line n) (standing_from runs (i + 1) n)
standing_here runs i n run e within = rw (add-one i) (standing_next runs i n run e within)

pub standing_passed : (x next : Standing) → x ≡ Absent → or_standing x next ≡ next
standing_passed x next e = rw e refl

pub standing_found : (x next : Standing) → x ≢ Absent → or_standing x next ≡ x
standing_found x next h = grind arith

pub standing_past : (runs : List ClassState) (i n : ℕ) → length runs ≤ i → standing_from runs i n ≡ Absent
standing_past [] zero n past = refl
standing_past [] (suc i) n past = refl
standing_past (x ∷ runs) zero n past = absurd (omega arith)
standing_past (x ∷ runs) (suc i) n past = standing_past runs i n (omega arith)
