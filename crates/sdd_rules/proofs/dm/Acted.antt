-- What an act of a data module changes of a class.
use Rattle.sdd_rules.proofs.All.{Bool, Change, Contains, Contains-append_left, Dated, Did, List, Log, Msg, Rec, Records, Site, false, if◌then◌else◌, is_processing, refl, true, waits, ℕ, ◌++◌, ◌+◌, ◌∷◌, ◌≡◌}
use Rattle.sdd_rules.proofs.dm.ByClass.{same_number}

pub acted_more : (b : Bool) (xs ys : Dated) (x : ℕ × Change) → Contains xs x → Contains (if b then xs ++ ys else xs) x
acted_more true xs ys x h = Contains-append_left xs ys x h
acted_more false xs ys x h = h

pub waits_own : (c : ℕ) (r : Rec) (sends : List (Site × Msg)) (log : Log) → is_processing r ≡ true
    → waits c (Did (Records c r sends) ∷ log) ≡ false
waits_own c r sends log e = rw (same_number c c refl, e) refl
