-- A Start whose number says how many Starts of its transaction stand before it is the only one with that number.
use Rattle.sdd_laws.proofs.All.{Attempt, Bool, History, IsAttempt, IsRecordAt, Rec, Start, [], arith, class_no, eq-eqb, filter, is_start_of, length, refl, starts_before, suc, take, time_at, true, txn_no, zero, ℕ, ◌<◌, ◌∷◌, ◌≡◌}

-- one that passes makes the number of those before a later place greater
counts_rise : (test : Rec → Bool) (p q : ℕ) (h : History) (r : Rec) → p < q → IsRecordAt h p r → test r ≡ true
    → length (filter (λ e. test e.1) (take p h)) < length (filter (λ e. test e.1) (take q h))
counts_rise test p zero h r l s t = absurd (omega arith)
counts_rise test p (suc q) [] r l s t = absurd (cc)
counts_rise test zero (suc q) (e ∷ h) r l s t = grind arith
counts_rise test (suc p) (suc q) (e ∷ h) r l s t = grind (arith, (counts_rise test p q h r (omega arith) s t))

pub start_counts : (h : History) (a : Attempt) (q : ℕ) → IsAttempt h a → a.place < q
    → starts_before h a.txn a.place < starts_before h a.txn q
start_counts h a q s l =
    counts_rise (is_start_of a.txn) a.place q h
    (Start (txn_no a.txn) a.number (class_no a.class) (time_at a.ts) a.p2 a.uses) l s (eq-eqb a.txn a.txn refl)

-- of one transaction and number there is one Start
pub one_start : (h : History) → ((a : Attempt) → IsAttempt h a → a.number ≡ suc (starts_before h a.txn a.place))
    → (a b : Attempt) → IsAttempt h a → IsAttempt h b → a.txn ≡ b.txn → a.number ≡ b.number → a.place ≡ b.place
one_start h numbered a b p q t n = grind (arith, start_counts)
