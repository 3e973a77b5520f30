-- The marks of a lawful log submit transactions that the schedule names.
use Rattle.sdd_run.proofs.All.{All, All-head, All-tail, AreNumbered, Bool, Catalogue, Event, Input, IsFrom1To, IsLawful, IsValidEvent, List, Log, Mark, TxnNo, [], ap, arith, eq-eqb, eqb-true, left_is, length, marked, one_if, refl, submits_in, subst, sym, ℕ, ◌++◌, ◌+◌, ◌==◌, ◌∷◌, ◌≡◌, ◌≤◌}
use Rattle.sdd_progress.specs.obligations.All.{Submit}

-- a mark that stands in a log counts
marked_there : (n : TxnNo) (later before : Log) → 1 ≤ marked n.0 (later ++ Mark (Submit n) ∷ before)
marked_there n [] before = let e : one_if (n.0 == n.0) ≡ 1 = ap one_if (eq-eqb n.0 n.0 refl) in omega (arith, e)
marked_there n (Mark e ∷ later) before = let h = marked_there n later before in omega (arith, h)
marked_there n (_ ∷ later) before = marked_there n later before

-- a number that valid events submit is one of a transaction
named_by : (cat : Catalogue) (count n m : ℕ) (rest : ℕ) (b : Bool) → (m == n) ≡ b → IsFrom1To count m
    → (1 ≤ rest → IsFrom1To count n) → 1 ≤ one_if b + rest → IsFrom1To count n
named_by cat count n m rest b e v later h = grind (arith, eqb-true)

pub named : (cat : Catalogue) (count n : ℕ) (es : List Event) → All (IsValidEvent cat count) es → 1 ≤ submits_in n es → IsFrom1To count n
named cat count n [] v h = absurd (omega (arith, h))
named cat count n (Submit m ∷ es) v h =
    named_by cat count n m.0 (submits_in n es) (m.0 == n) refl (All-head (IsValidEvent cat count) (Submit m) es v)
    (named cat count n es (All-tail (IsValidEvent cat count) (Submit m) es v)) h
named cat count n (x ∷ es) v h = named cat count n es (All-tail (IsValidEvent cat count) x es v) (omega (arith, h))

pub are_numbered : (g : Input) (log : Log) → All (IsValidEvent g.catalogue (length g.txns)) g.events → IsLawful g log → AreNumbered g log
are_numbered g log valid lawful = λ later before n is.
    let all = (left_is g n.0 log lawful).all in
    named g.catalogue (length g.txns) n.0 g.events valid (omega (arith, (subst (λ l. 1 ≤ marked n.0 l) (sym is) (marked_there n later before)), all))
