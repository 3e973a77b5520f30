-- What the answer "enough" means.
use Rattle.sdd_ask.proofs.All.{Catalogue, Entry, None, Option, Some, ap, arith, codes, first_p3, get_or, isolation_text, refl, ◌≡◌}
use Rattle.sdd_ask.proofs.Entries.{none_found}
use Rattle.sdd_ask.specs.Enough.{EnoughLeavesNoCycle}
use Rattle.sdd_snapshots.proofs.Theorems.{snapshots_by_table}

-- the texts differ at byte 20: `e` of "enough", `n` of "not shown"
none_there : (cat : Catalogue) (found : Option Entry) → codes "snapshot isolation: enough\n" ≡ isolation_text cat found → found ≡ None
none_there cat None e = refl
none_there cat (Some entry) e = absurd (let n = ap (λ t. get_or t 20 0) e in omega arith)

pub enough_leaves_no_cycle : EnoughLeavesNoCycle
enough_leaves_no_cycle cat is r sessions fits =
    snapshots_by_table cat is.entries r is.table sessions fits
    (none_found is.entries (none_there cat (first_p3 is.entries) is.spelled))
