-- A test that tells that a history keeps the law of read conditions, by the protocol table of its catalogue.
use Rattle.sdd_history_examples.proofs.All.{AllByRecursion, Attempt, Bool, Catalogue, Change, Committed, Cond, Contains, Entry, Eras, FragNo, History, IsCommitted, IsConditionOf, IsTable, KeepsConditions, List, TouchesOne, and_from, applied_before, arith, attempts, before_applied, catalogue_at, committed, conditions_of, contains, each_has, eq-eqb, eqb-true, event_at, has_copy, in_attempts, is_applied, list_any, lt-ltb, ltb-true, map, member_passes, nat_lt, one_table, passes_member, refl, true, ℕ, ◌&&◌, ◌==◌, ◌≡◌}
use Rattle.sdd_history_examples.proofs.Each.{same, same_is, if_so, so, all_pairs, each_pair}
use Rattle.sdd_history_examples.proofs.Listed.{AnswerAt, answers, in_answers}

abbrev touches_one : Catalogue → Committed → ℕ → List FragNo → Bool
touches_one cat x d frags = list_any (λ c. has_copy cat d c.frag.0 && contains (map (λ f. f.0) frags) c.frag.0) x.changes

-- whether a transaction of the class that the condition names is applied exactly where it is before the time
abbrev is_split : Catalogue → History → AnswerAt → Cond → Committed → Bool
is_split cat h z c x =
    if_so (x.start.class == c.class.0) (if_so (touches_one cat x z.dm c.frags) (same (is_applied h z.dm z.place x.start.txn) (nat_lt x.start.ts c.time.0)))

abbrev is_met : Catalogue → (ℕ → List Entry) → History → Attempt → AnswerAt → Bool
is_met cat table h a z =
    if_so (z.txn == a.txn)
    (if_so (z.number == a.number) (all_pairs (is_split cat h z) (conditions_of cat (table (event_at h a.place)) a z.dm) (committed h)))

-- by the tables that are in force at events
abbrev pub conditions_met : Catalogue → (ℕ → List Entry) → History → Bool
conditions_met cat table h = all_pairs (is_met cat table h) (attempts h) (answers h)

-- the table of the catalogue in force where an attempt starts
abbrev pub HasTable : Catalogue → Eras → History → (ℕ → List Entry) → Attempt → Type 0
HasTable cat eras h table a = IsTable (catalogue_at cat eras (event_at h a.place)) (table (event_at h a.place))

-- its conditions are those by that table
by_table : (cat : Catalogue) (eras : Eras) (h : History) (table : ℕ → List Entry) (a : Attempt) (d : ℕ) (c : Cond) → HasTable cat eras h table a
    → IsConditionOf cat eras h a d c → Contains (conditions_of cat (table (event_at h a.place)) a d) c
by_table cat eras h table a d c is of = grind (arith, one_table)

touches_is : (cat : Catalogue) (x : Committed) (d : ℕ) (frags : List FragNo) → TouchesOne cat x d frags → touches_one cat x d frags ≡ true
touches_is cat x d frags t =
    let m = member_passes (λ (c : Change). c.frag.0 == t.fragment) x.changes t.changed in
    let f : m.0.frag.0 ≡ t.fragment = eqb-true m.0.frag.0 t.fragment m.2 in
    passes_member (λ (c : Change). has_copy cat d c.frag.0 && contains (map (λ (f : FragNo). f.0) frags) c.frag.0) x.changes m.0 m.1
    (grind (arith, and_from, has_copy, contains))

module _ (cat : Catalogue) (eras : Eras) (table : ℕ → List Entry) (h : History) (is : AllByRecursion (HasTable cat eras h table) (attempts h))
    (there : (t : Committed) → IsCommitted h t → Contains (committed h) t) (pass : conditions_met cat table h ≡ true)
  where
    pub keeps_conditions : KeepsConditions cat eras h
    keeps_conditions =
        record {
          met = λ a d k c x p s of q class t.
              let z : AnswerAt = record { txn = a.txn; number = a.number; dm = d; place = k } in
              let u = each_pair (is_met cat table h) (attempts h) (answers h) a z pass (in_attempts h a p) (in_answers h a.txn a.number d k s) in
              let all = all_pairs (is_split cat h z) (conditions_of cat (table (event_at h a.place)) a d) (committed h) in
              let v = so (a.txn == a.txn) (if_so (a.number == a.number) all) u (eq-eqb a.txn a.txn refl) in
              let w = so (a.number == a.number) all v (eq-eqb a.number a.number refl) in
              let split = each_pair (is_split cat h z) (conditions_of cat (table (event_at h a.place)) a d) (committed h) c x w
              (by_table cat eras h table a d c (each_has (HasTable cat eras h table) (attempts h) a is (in_attempts h a p)) of) (there x q) in
              let equal = same (is_applied h d k x.start.txn) (nat_lt x.start.ts c.time.0) in
              let one = so (x.start.class == c.class.0) (if_so (touches_one cat x d c.frags) equal) split (eq-eqb x.start.class c.class.0 class) in
              let two = so (touches_one cat x d c.frags) equal one (touches_is cat x d c.frags t) in
              let both : is_applied h d k x.start.txn ≡ nat_lt x.start.ts c.time.0 = same_is
              (is_applied h d k x.start.txn) (nat_lt x.start.ts c.time.0) two in
              (grind (arith, ltb-true, before_applied, applied_before, lt-ltb));
        }
