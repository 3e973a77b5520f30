-- Copies at which the same transactions that change the fragment are applied are equal.
use Rattle.sdd_laws.proofs.All.{AreAppliedAlike, Catalogue, Committed, History, List, RelNo, Row, Writers, changes, committed, copy_at, database_of, from_committed, is_applied, subst, true, ℕ, ◌≡◌}
use Rattle.sdd_laws.proofs.SameContents.{same_copies}
use Rattle.sdd_laws.proofs.Applied.{applied_alike}
use Rattle.sdd_laws.proofs.Precedes.{changes_member}

abbrev writers : Writers Committed
writers = record { ts = λ t. t.start.ts; changes = λ t. t.changes }

pub equal_copies : (cat : Catalogue) (rows : List (RelNo × Row)) (h : History) (f a j b k : ℕ)
    → AreAppliedAlike h f a j b k → copy_at cat rows h a j f ≡ copy_at cat rows h b k f
equal_copies cat rows h f a j b k alike =
    same_copies cat (database_of cat rows) writers (committed h) (λ t. is_applied h a j t.start.txn)
    (λ t. is_applied h b k t.start.txn) f
    (λ t m c there own.
    applied_alike h t.start.txn a j b k
    (alike t (from_committed h t m) (subst (λ n. changes t n ≡ true) own (changes_member t c there))))
