-- One database that runs the transactions along the order gives the replies of the run, and is left with its rows.
use Rattle.sdd_snapshot_replay.proofs.All.{All, All-contains, All-from_recursion, AreWriters, Catalogue, Change, Contains, Contains-cases, Contains-filter, Contains-from_filter, Contains-here, Contains-later, Contains-nil, Contains-range, Database, EachOnce, Effect, Entry, HasNoP3, HasValues, IsAlongBy, IsDatabase, IsOfClass, IsReplay, IsSoundCatalogue, IsTable, Item, Ledger, List, Log, MayComeFirst, Meeting, Meets, ReadWrite, Reads, Row, SeesSnapshots, SnapshotsReplay, Txn, WriteRead, after_changes, after_reply, all_dated, all_have, and_from, ap, arith, at_start, begin_of, both_write, cases_Bool, changes_stay, contains, contents, database, effect, end_of, ended, entries_of, eq-eqb, false, false≢true, fragment_of, fragments_of, inl, inr, item_cmp, item_cmp_exact, item_cmp_total, length, lie_in_write_set, list_any, lt-ltb, ltb-false, ltb-true, map, may_come_first, nat_lt, ne_eqb, not, one_more, or_left, or_right, passes_member, read_set, read_set_decides, reads_write, refl, rows_agree, rows_in_fragment, run_of, same_members, serial, snapshots_by_table, sound_whole, subst, sym, taken_along, true, write_set, writers, writes_read, ℕ, [], ◌==◌, ◌∙◌, ◌∷◌, ◌≡◌, ◌≢◌, ◌⊎◌}
use Rattle.sdd_snapshot_replay.specs.Logs as logs
use Rattle.sdd_snapshot_replay.proofs.Begun.{before_of, ends_rise}
use Rattle.sdd_snapshot_replay.proofs.Databases.{Based, databases, items_changed, values, writers_ok}
use Rattle.sdd_snapshot_replay.proofs.Fitting.{fits, written_there}
use Rattle.sdd_snapshot_replay.proofs.Listed.{member_is}
use Rattle.sdd_snapshot_replay.proofs.Sessions.{has_sessions, times}
use Rattle.sdd_snapshot_replay.proofs.Sorting.{all_in, clashes, comes_before, may_change, may_read, of_ended, order}

-- databases with the same rows in each fragment are the same
same_database : (cat : Catalogue) (a b : Database) → IsDatabase cat a → IsDatabase cat b
    → ((f : ℕ) → rows_in_fragment cat a f ≡ rows_in_fragment cat b f) → a ≡ b
same_database cat a b p q same =
    same_members item_cmp item_cmp_total item_cmp_exact a b p.ascends q.ascends (there a b same) (there b a (λ f. sym (same f)))
  where
    there : (a b : Database) → ((f : ℕ) → rows_in_fragment cat a f ≡ rows_in_fragment cat b f) → (e : Item × Row) → Contains a e → Contains b e
    there a b same e h =
        let f : ℕ = fragment_of cat e.0.0 e.0.1 in
        let mine = Contains-filter (λ (x : Item × Row). fragment_of cat x.0.0 x.0.1 == f) a e h (eq-eqb f f refl) in
        (Contains-from_filter (λ (x : Item × Row). fragment_of cat x.0.0 x.0.1 == f) b e (subst (λ xs. Contains xs e) (same f) mine)).0

module _ (cat : Catalogue) (sound : IsSoundCatalogue cat) (txns : ℕ → Txn) (class : ℕ → ℕ) (of : (n : ℕ) → IsOfClass cat (txns n) (class n))
    (first : Database) (first_is : IsDatabase cat first) (effects : ℕ → Effect) (log : Log) (sessions : logs.HasSessions class log)
    (sees : SeesSnapshots cat txns first effects log) where
  abbrev commits : List ℕ
  commits = ended log

  based : (n : ℕ) → Contains commits n → Based cat sound txns class of first first_is effects n
  based n h = (databases cat sound txns class of first first_is effects log sessions sees).1 n ((times class log sessions).had_begun n (member_is commits n h))

  -- those that ended, dated by their ends; each saw those that had ended when it began
  abbrev L : Ledger ℕ
  L = record { txn = txns; ts = end_of log; result = effects; saw = λ x f y. nat_lt (end_of log y) (begin_of log x) }

  ok : AreWriters cat (writers L) commits
  ok =
      writers_ok cat sound txns class of first first_is effects (end_of log) commits based
      (λ n h. let l = (times class log sessions).forward n (member_is commits n h) in omega arith)
      (λ n m h k e. (times class log sessions).one_end n m (member_is commits n h) (member_is commits m k) e)

  -- what one changes lies in its write set
  changes_written : (n : ℕ) → Contains commits n → (c : Change) → Contains (effects n).changes c → contains (write_set cat (txns n)) c.frag.0 ≡ true
  changes_written n h c k =
      let b = based n h in
      All-contains (λ (x : Change). contains (write_set cat (txns n)) x.frag.0 ≡ true) (effects n).changes c
      (subst (λ (e : Effect). All (λ (x : Change). contains (write_set cat (txns n)) x.frag.0 ≡ true) e.changes) b.effect_is
      (lie_in_write_set cat sound (txns n) (of n).fits b.db b.is)) k

  a_fragment : (n f : ℕ) → contains (write_set cat (txns n)) f ≡ true → Contains (fragments_of cat) f
  a_fragment n f e =
      let is = written_there cat (sound_whole cat sound) (class n) f (of n).class_is ((of n).writes f e) in
      Contains-range 1 (length cat.fragments) f is.from (let to = is.to in omega arith)

  -- of two in this order, of which the second doesn't have to come before, the first may come first
  may : (x y : ℕ) → Contains commits x → Contains commits y → end_of log y ≢ end_of log x → comes_before cat txns class log y x ≡ false → MayComeFirst cat L x y
  may x y hx hy apart none m meets = by m meets
    where
      differ : y ≢ x
      differ e = apart (ap (end_of log) e)

      clash : (f : ℕ) → Contains (fragments_of cat) f → clashes cat txns class log y x f ≡ true → ⊥
      clash f h e =
          false≢true
          (sym none
          ∙ and_from (not (y == x)) (list_any (clashes cat txns class log y x) (fragments_of cat)) (ap not (ne_eqb y x differ))
          (passes_member (clashes cat txns class log y x) (fragments_of cat) f h e))

      by : (m : Meeting) → Meets cat L x y m → may_come_first m ≡ true
      by m (both_write c d h k e) =
          let f : ℕ = c.frag.0 in
          let first_writes = changes_written x hx c h in
          let second_writes : may_change cat txns class log y f ≡ true =
          subst (λ g. contains (write_set cat (txns y)) g ≡ true) (sym e) (changes_written y hy d k) in
          elim (cases_Bool (nat_lt (end_of log y) (end_of log x))) [
            | inl t ↦
                absurd
                (clash f (a_fragment x f first_writes)
                (or_left _ _ (and_from (may_change cat txns class log y f) _ second_writes (and_from (may_change cat txns class log x f) _ first_writes t))))
            | inr n ↦ lt-ltb (end_of log x) (end_of log y) (let l = ltb-false (end_of log y) (end_of log x) n in omega arith)
          ]
      by m (writes_read c h r) =
          let f : ℕ = c.frag.0 in
          let writes = changes_written x hx c h in
          elim (cases_Bool (nat_lt (end_of log x) (begin_of log y))) [
            | inl t ↦ t
            | inr n ↦
                absurd
                (clash f (a_fragment x f writes)
                (or_right _ _ (or_left _ _ (and_from (may_read cat txns class log y f) _ (member_is (read_set cat (txns y)) f r)
                (and_from (may_change cat txns class log x f) _ writes (ap not n))))))
          ]
      by m (reads_write c h r) =
          let f : ℕ = c.frag.0 in
          let writes = changes_written y hy c h in
          elim (cases_Bool (nat_lt (end_of log y) (begin_of log x))) [
            | inl t ↦
                absurd
                (clash f (a_fragment y f writes)
                (or_right _ _ (or_right _ _ (and_from (may_change cat txns class log y f) _ writes
                (and_from (may_read cat txns class log x f) _ (member_is (read_set cat (txns x)) f r) t)))))
            | inr n ↦ ap not n
          ]

  abbrev IsAlong : List ℕ → Type 0
  IsAlong [] = Unit {0}
  IsAlong (x ∷ rest) = ((y : ℕ) → Contains rest y → MayComeFirst cat L x y) × IsAlong rest

  -- what is known where some are done and the others left
  record Stage (done rest : List ℕ) : Type 0 where
    all : (n : ℕ) → Contains commits n → Contains done n ⊎ Contains rest n
    of_done : (n : ℕ) → Contains done n → Contains commits n
    of_rest : (n : ℕ) → Contains rest n → Contains commits n
    before : (n m : ℕ) → Contains done n → Contains rest m → MayComeFirst cat L n m
    along : IsAlong rest

  next_stage : (done : List ℕ) (x : ℕ) (rest : List ℕ) → Stage done (x ∷ rest) → Stage (x ∷ done) rest
  next_stage done x rest st =
      record {
        all = λ n h. elim (st.all n h) [
          | inl d ↦ inl (Contains-later x done n d)
          | inr r ↦ elim (Contains-cases x rest n r) [ inl e ↦ inl (subst (Contains (x ∷ done)) (sym e) (Contains-here x done)) | inr k ↦ inr k ]
        ];
        of_done = λ n h. elim (Contains-cases x done n h) [ inl e ↦ subst (Contains commits) (sym e) (st.of_rest x (Contains-here x rest)) | inr d ↦ st.of_done n d ];
        of_rest = λ n h. st.of_rest n (Contains-later x rest n h);
        before = λ n m h k. elim (Contains-cases x done n h) [
          | inl e ↦ subst (λ z. MayComeFirst cat L z m) (sym e) (st.along.0 m k)
          | inr d ↦ st.before n m d (Contains-later x rest m k)
        ];
        along = st.along.1;
      }

  -- so each has its effect
  gives_next : (done : List ℕ) (x : ℕ) (rest : List ℕ) (db : Database) → Stage done (x ∷ rest) → HasValues cat first L done db
      → effect cat db (txns x) ≡ effects x
  gives_next done x rest db st has =
      let there = st.of_rest x (Contains-here x rest) in
      let b = before_of class cat txns first effects log sessions sees x ((times class log sessions).had_begun x (member_is commits x there)) in
      let base : Database = database cat first effects b.before in
      let base_has = values cat sound txns class of first first_is effects (end_of log) commits ok b.before
      (b.rises (end_of log) (ends_rise class log sessions)) b.runs b.sees (λ n h. (b.had_ended n h).0) in
      let base_values : HasValues cat first L (ended b.before) base = record { is = base_has.is; value = base_has.value } in
      let same : (f : ℕ) → Reads cat L x f → rows_in_fragment cat db f ≡ rows_in_fragment cat base f =
      λ f reads.
      rows_agree cat sound first first_is L commits ok done (ended b.before) db f st.of_done (λ n h. (b.had_ended n h).0) has
      (λ t h c.
      let saw = st.before t x h (Contains-here x rest) (WriteRead (nat_lt (end_of log t) (begin_of log x))) (writes_read c.0 c.1 (subst (λ g. Reads cat L x g) (sym c.2) reads)) in
      b.all_ended t (st.of_done t h) (ltb-true (end_of log t) (begin_of log x) saw))
      (λ t h c. elim (st.all t (b.had_ended t h).0) [
        | inl d ↦ d
        | inr r ↦ elim (Contains-cases x rest t r) [
          | inl e ↦
              let early = (b.had_ended t h).1 in
              let late = (times class log sessions).forward x (member_is commits x there) in
              let at = ap (end_of log) e in
              absurd (omega arith)
          | inr k ↦
              let unseen : not (nat_lt (end_of log t) (begin_of log x)) ≡ true =
              st.along.0 t k (ReadWrite (nat_lt (end_of log t) (begin_of log x))) (reads_write c.0 c.1 (subst (λ g. Reads cat L x g) (sym c.2) reads)) in
              let seen = lt-ltb (end_of log t) (begin_of log x) (b.had_ended t h).1 in
              absurd (false≢true (sym (ap not seen) ∙ unseen))
        ]
      ])
      ∙ sym
      (rows_agree cat sound first first_is L commits ok (ended b.before) (ended b.before) base f (λ n h. (b.had_ended n h).0)
      (λ n h. (b.had_ended n h).0) base_values (λ t h c. h) (λ t h c. h)) in
      read_set_decides cat sound (txns x) (of x).fits db base has.is base_values.is
      (All-from_recursion (λ f. rows_in_fragment cat db f ≡ rows_in_fragment cat base f) (read_set cat (txns x))
      (all_have (λ f. rows_in_fragment cat db f ≡ rows_in_fragment cat base f) (read_set cat (txns x)) same))
      ∙ b.effect_is

  -- a database with all changes
  record IsLeft (db : Database) : Type 0 where
    is : IsDatabase cat db
    rows : (f : ℕ) → rows_in_fragment cat db f ≡ entries_of cat f (contents f (all_dated cat first (writers L) commits))

  left_with : (done : List ℕ) (db : Database) → ((n : ℕ) → Contains done n → Contains commits n) → ((n : ℕ) → Contains commits n → Contains done n)
      → HasValues cat first L done db → IsLeft db
  left_with done db within whole has =
      record {
        is = has.is;
        rows = λ f. rows_agree cat sound first first_is L commits ok done commits db f within (λ n h. h) has (λ t h c. within t h) (λ t h c. whole t h);
      }

  run_from : (rest done : List ℕ) (db : Database) → Stage done rest → HasValues cat first L done db
      → ((serial cat db (map txns rest)).0 ≡ map (λ n. (effects n).reply) rest) × IsLeft (serial cat db (map txns rest)).1
  run_from [] done db st has = (
    refl,
    left_with done db st.of_done (λ n h. elim (st.all n h) [ inl d ↦ d | inr none ↦ absurd (Contains-nil n none) ]) has,
  )
  run_from (x ∷ rest) done db st has =
      let e : effect cat db (txns x) ≡ effects x = gives_next done x rest db st has in
      let there = st.of_rest x (Contains-here x rest) in
      let after : Database = after_changes cat db (effects x).changes in
      let after_is : IsDatabase cat after =
      changes_stay cat sound db (effects x).changes has.is (items_changed cat sound txns class of first first_is effects x (based x there)) in
      let next = next_stage done x rest st in
      let more = one_more cat sound first first_is L commits ok done x next.of_done (λ z h. st.before z x h (Contains-here x rest)) db has after_is in
      let later = run_from rest (x ∷ done) after next more in
      subst
      (λ (z : Effect).
      ((after_reply z.reply (serial cat (after_changes cat db z.changes) (map txns rest))).0 ≡ (effects x).reply ∷ map (λ n. (effects n).reply) rest)
      × IsLeft (after_reply z.reply (serial cat (after_changes cat db z.changes) (map txns rest))).1)
      (sym e) (ap (λ l. (effects x).reply ∷ l) later.0, later.1)

  along_of : (rest : List ℕ) → ((n : ℕ) → Contains rest n → Contains commits n) → IsAlongBy (end_of log) (comes_before cat txns class log) rest → IsAlong rest
  along_of [] within a = tt
  along_of (x ∷ rest) within a = (
    (λ y h. may x y (within x (Contains-here x rest)) (within y (Contains-later x rest y h)) (a.0 y h).0 (a.0 y h).1),
    along_of rest (λ n h. within n (Contains-later x rest n h)) a.1,
  )

  once_of : (rest : List ℕ) → IsAlongBy (end_of log) (comes_before cat txns class log) rest → EachOnce rest
  once_of [] a = tt
  once_of (x ∷ rest) a = ((λ m h e. (a.0 m h).0 (ap (end_of log) e)), once_of rest a.1)

  pub replayed : (entries : List Entry) → IsTable cat entries → HasNoP3 entries → IsReplay cat txns first effects log (order cat txns class log)
  replayed entries table none =
      let orderly = snapshots_by_table cat entries (run_of cat txns class log) table (has_sessions class cat txns of log sessions) (fits cat (sound_whole cat sound) txns class of log) none in
      let whole = all_in cat txns class log sessions orderly in
      let within = of_ended cat txns class log in
      let along = taken_along (end_of log) (comes_before cat txns class log) (length commits) commits in
      let begin : Stage [] (order cat txns class log) =
      record {
        all = λ n h. inr (whole n h);
        of_done = λ n h. absurd (Contains-nil n h);
        of_rest = within;
        before = λ n m h k. absurd (Contains-nil n h);
        along = along_of (order cat txns class log) within along;
      } in
      let run = run_from (order cat txns class log) [] first begin (at_start cat sound first first_is L) in
      let own = values cat sound txns class of first first_is effects (end_of log) commits ok log (ends_rise class log sessions) sessions sees (λ n h. h) in
      let left = left_with commits (database cat first effects log) (λ n h. h) (λ n h. h) (record { is = own.is; value = own.value }) in
      record {
        same = λ n. (whole n, within n);
        once = once_of (order cat txns class log) along;
        replies = run.0;
        rows = same_database cat _ _ run.1.is left.is (λ f. run.1.rows f ∙ sym (left.rows f));
      }

pub snapshots_replay : (cat : Catalogue) → IsSoundCatalogue cat → SnapshotsReplay cat
snapshots_replay cat sound entries table none txns class of first first_is effects log sessions sees =
    (order cat txns class log, replayed cat sound txns class of first first_is effects log sessions sees entries table none)
