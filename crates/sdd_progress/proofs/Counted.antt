-- A lawful log has no more rounds than marks, and one.
use Rattle.sdd_progress.proofs.AllEnds.{Event, Input, IsLawful, IsTheLog, IsWithin, List, Log, Mark, None, Redeclares, Round, [], after_mark, ap, arith, complete_parts, few_marks, left, length, mark_of, marks, rounds, suc, ℕ, ◌+◌, ◌<◌, ◌^◌, ◌∷◌, ◌≡◌, ◌≤◌}
use Rattle.sdd_progress.proofs.Beginning.{round_begins}

-- a round in progress counts for one
abbrev in_progress : List Event → ℕ
in_progress [] = 0
in_progress (e ∷ events) = 1

one_where_some : (events : List Event) → 0 < length events → in_progress events ≡ 1
one_where_some events l = grind arith

-- a mark ends a round, if it is the last of its events
after_one : (rest : List Event × List Event) (r m : ℕ) → r ≤ m + in_progress rest.1 → r ≤ suc m + in_progress (after_mark rest).1
after_one rest r m h = grind arith

counted : (g : Input) (log : Log) → IsLawful g log → rounds log ≤ marks log + in_progress (left g.events log).1
counted g [] h = omega arith
counted g (Mark e ∷ log) h = after_one (left g.events log) (rounds log) (marks log) (counted g log h.1)
counted g (Redeclares t ∷ log) h = after_one (left g.events log) (rounds log) (marks log) (counted g log h.1)
counted g (Round es ∷ log) h =
    let before = counted g log h.1 in
    let r = round_begins g log es h.0 in
    let none : in_progress (left g.events log).1 ≡ 0 = ap in_progress r.0 in
    let one = one_where_some es r.2 in
    omega arith
counted g (_ ∷ log) h = counted g log h.1

pub few_rounds : (g : Input) (log : Log) → IsLawful g log → rounds log ≤ suc (marks log)
few_rounds g log h = grind (arith, counted)

pub few_within : (g : Input) (log : Log) → IsLawful g log → IsWithin log → rounds log ≤ 2 ^ 32
few_within g log h w = grind (arith, few_rounds, few_marks)

-- where nothing is next no round is in progress
none_in_progress : (g : Input) (log : Log) (rest : List Event × List Event) → mark_of g log rest ≡ None → in_progress rest.1 ≡ 0
none_in_progress g log rest h = grind arith

pub few_complete : (g : Input) (log : Log) → IsTheLog g log → rounds log < 2 ^ 32
few_complete g log is = grind (arith, counted, none_in_progress, complete_parts, few_marks)
