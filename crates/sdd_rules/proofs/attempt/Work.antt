-- The moves of an exchange, its queue and its messages: what is left of them.
use Rattle.sdd_rules.proofs.All.{Act, Attempt, Bool, List, Move, Msg, Option, Queued, Some, [], active_sent, arith, asks_rows, better, cond, false, filter, length, nat_lt, queue, send_due, suc, true, work_of, ℕ, ◌<◌, ◌∷◌, ◌≡◌, ◌≤◌}

pub some_is : {A : Type 0} {x y : A} → Some x ≡ Some y → x ≡ y
some_is e = cc

-- a message of an exchange is one less
pub work_sent : (c : ℕ) (m : Msg) (a : Attempt) (act : Act) (queue : List Queued) → asks_rows a.ts c m ≡ true
    → send_due a.exchange ≡ Some act → work_of (active_sent c m (Some a)) queue < work_of (Some a) queue
work_sent c m a act queue e f = grind arith

-- the move that is chosen is one of them
pub chosen_by : (P : Move → Type 0) (counts : List ℕ) (x : Move) (o : Option Move) (m : Move) → P x → ((y : Move) → o ≡ Some y → P y)
    → better counts x o ≡ Some m → P m
chosen_by P counts x o m p h e = grind (arith, some_is, nat_lt)

pub shorter : (p : Queued → Bool) (qs : List Queued) → length (filter p qs) ≤ length qs
shorter p [] = omega arith
shorter p (q ∷ qs) = let rest = shorter p qs in elim (p q) as (λ b. length (cond b (q ∷ filter p qs) (filter p qs)) ≤ suc (length qs)) [ true ↦ omega arith | false ↦ omega arith ]
