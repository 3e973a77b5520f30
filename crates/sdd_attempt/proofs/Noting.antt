-- What a Commit adds to the notes of a call.
use Rattle.sdd_attempt.proofs.All.{Bases, Catalogue, Commit, Effect, List, Msg, Notes, OnOk, Option, Queued, Rec, Result, Running, Site, TxnNo, [], append_assoc, arith, attempt_of, commit_act, effect, filter_map, numbers_to, picked_to, txn_no, with_act, with_sends-append, write_of, ℕ, ◌++◌, ◌+◌, ◌-◌, ◌∷◌, ◌≡◌, ◌≤◌}
use Rattle.sdd_module.specs.protocol.declared.entry.Entry as line

abbrev commit_of : TxnNo → ℕ → ℕ → ℕ → Effect → Rec
commit_of number tries values rows e = Commit number tries e.reply e.changes values rows

abbrev writes_of : Catalogue → ℕ → ℕ → ℕ → Effect → List (Site × Msg)
writes_of cat c ts number e = filter_map (write_of cat c ts number e.changes) (numbers_to cat.dms)

pub committed_noted : (cat : Catalogue) (bases : Bases) (c : ℕ) (q : Queued) (r : Running) (number : TxnNo)
    (tries values rows ts : ℕ) (e : Effect) (writes : List (Site × Msg)) (old mid new : Notes)
    → number ≡ txn_no q.number → tries ≡ q.tries → values ≡ r.exchange.values → rows ≡ r.exchange.rows → ts ≡ r.ts → e ≡ effect cat (bases r.ts) q.text
    → writes ≡ writes_of cat c ts number.0 e
    → mid ≡ record old { out = old.out ++ writes } → new ≡ record mid { recs = mid.recs ++ commit_of number tries values rows e ∷ [] }
    → new ≡ with_act (commit_act cat bases c (attempt_of q r)) old
committed_noted cat bases c q r number tries values rows ts e writes old mid new f g h i j k l m n = grind (arith, with_sends-append)

-- one module more, of those from 1 on
pub sent_to : (f : ℕ → Option (Site × Msg)) (n : ℕ) (first old new : Notes) → 1 ≤ n
    → old ≡ record first { out = first.out ++ filter_map f (numbers_to (n - 1)) } → new ≡ record old { out = old.out ++ filter_map f (n ∷ []) }
    → new ≡ record first { out = first.out ++ filter_map f (numbers_to (n + 1 - 1)) }
sent_to f n first old new some e g = grind (arith, filter_map, picked_to, append_assoc)

-- what holds in any case holds where a call succeeds
pub any_result : {T E : Type 0} (r : Result T E) (P : Type 0) → P → OnOk r P
any_result r P p = grind arith
