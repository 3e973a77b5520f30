-- What is printed of the submitted transactions, run one after the other on one database.
use Rattle.std.specs.Prelude.{ℕ, ◌-◌, ◌≡◌, refl, List, [], ◌∷◌, ◌++◌, codes, map, filter_map, Option, None, slice_get}
use Rattle.sdd_lang.specs.All.{Catalogue, Database, Event, Overflow, Reply, Rows, Settle, Submit, database_of, serial}
use Rattle.sdd_lang.specs.declared.transaction.Txn.{Txn}
use Rattle.sdd_report.specs.Replies.{names_line, replies_along}
use Rattle.sdd_script.specs.declared.workload.Workload.{Workload}

-- the transaction that an event submits
abbrev pub submitted_by : List Txn → Event → Option Txn
submitted_by txns (Submit number) = slice_get txns (number.0 - 1)
submitted_by txns event = None

-- in order of submission
abbrev pub submitted : Workload → List Txn
submitted w = filter_map (submitted_by w.txns) w.events

-- worked: the second is submitted before the first, and the third isn't
pub second_first : (a b c : Txn) → submitted (record {
  rows = [];
  txns = a ∷ b ∷ c ∷ [];
  lists =
      [];
  events = Submit (record { 0 = 2 }) ∷ Settle ∷ Submit (record { 0 = 1 }) ∷ [];
}) ≡ b ∷ a ∷ []
second_first a b c = refl

abbrev pub names_of : List Txn → List (List ℕ)
names_of txns = map (λ (t : Txn). t.name) txns

-- the order by the transactions' names, their replies, and the end
abbrev pub answer_text : List (List ℕ) → List Reply → List ℕ
answer_text names replies = names_line names ++ replies_along names replies ++ codes "end\n"

-- worked: p puts, and q fails
pub put_and_failure : answer_text (codes "p" ∷ codes "q" ∷ []) (Rows [] ∷ Overflow ∷ []) ≡ codes "order p q\nreply p ok\nreply q overflow\nend\n"
put_and_failure = refl

-- the lines of the replies of transactions that run one after the other on a database
abbrev pub replies_of : Catalogue → Database → List Txn → List ℕ
replies_of cat db txns = replies_along (names_of txns) (serial cat db txns).0

-- the order, and the replies on a database that began with the workload's rows
abbrev pub serial_text : Catalogue → Workload → List ℕ
serial_text cat w = answer_text (names_of (submitted w)) (serial cat (database_of cat w.rows) (submitted w)).0
