-- The pairs that are tried, told of the workload.
use Rattle.std.proofs.Common.{All, List, subst, ◌≡◌}
use Rattle.sdd_lang.specs.All.{Catalogue, RelNo, Row, database_of}
use Rattle.sdd_lang.specs.declared.transaction.Txn.{Txn}
use Rattle.sdd_robust.specs.Members.{members_of}
use Rattle.sdd_robust.specs.declared.member.Member.{Member}
use Rattle.sdd_robust_answer.specs.Answers.{AreExplained}
use Rattle.sdd_script.specs.declared.workload.Workload.{Workload}
use Rattle.sdd_short_runs.specs.Found.{IsExplainedPair}
use Rattle.sdd_short_runs.specs.Pairs.{tried_pairs}

pub are_explained : (cat : Catalogue) (work : Workload) (rows : List (RelNo × Row)) (txns : List Txn) (all : List Member)
    → rows ≡ work.rows → txns ≡ work.txns → all ≡ members_of cat work.txns (database_of cat work.rows)
    → All (IsExplainedPair cat (database_of cat rows) txns) (tried_pairs all) → AreExplained cat work
are_explained cat work rows txns all its_rows its_txns its_members tried =
    subst (λ z. All (IsExplainedPair cat (database_of cat work.rows) work.txns) (tried_pairs z)) its_members
    (subst (λ z. All (IsExplainedPair cat (database_of cat work.rows) z) (tried_pairs all)) its_txns
    (subst (λ z. All (IsExplainedPair cat (database_of cat z) txns) (tried_pairs all)) its_rows tried))
