-- One database that runs the transactions along the order gives the replies of the run, and is left with its rows.
use Rattle.sdd_robust_laws.proofs.All.{Access, All-contains, Contains-from_filter, Delete, FitsStatement, IsEntry, Put, Query, Stmt, Update, RelNo, Condition, Assign, chosen, columns_meet, eq-eqb, is_in, is_one_key, list_all, meets_all, succeeds, ◌==◌, Before, Bool, Catalogue, Change, Contains, Contains-cases, Contains-here, Contains-later, Contains-nil, Database, EachOnce, Effect, HasSessions, InTurn, IsAlongBy, IsDatabase, IsOrderly, IsReplay, IsSnapshotRun, IsSoundCatalogue, IsWorkload, Item, List, Log, Rises, Row, SeesSnapshots, Txn, accesses, after_changes, after_reply, and_from, ap, arith, at_entry, before_of, begin_of, begins, cases_lt, contains, database, effect, end_of, ended, ends, ends_rise, entry_at, false, false≢true, inl, inr, item_cmp, item_cmp_exact, item_cmp_total, fragment_of, item_of, length, map, member_is, passes_member, refl, row_at, same_members, serial, subst, sym, taken_along, times, true, ℕ, [], ◌&&◌, ◌<◌, ◌∙◌, ◌∷◌, ◌≡◌, ◌≢◌, ◌≤◌, ◌⊎◌}
use Rattle.sdd_robust_laws.proofs.Covered.{covers}
use Rattle.sdd_robust_laws.proofs.Cycles.{Comes, Ended}
use Rattle.sdd_robust_laws.proofs.Cycles.Comes.{both_change, misses, sees}
use Rattle.sdd_robust_laws.proofs.Order.{all_in, comes_before, is_before as order_is_before, may_read, of_ended, order, runs, touch}
use Rattle.sdd_robust_laws.proofs.ReadColumns.{AgreeOn, HasChosen, cell, one_effect}
use Rattle.sdd_robust_laws.proofs.Cells as cells
use Rattle.sdd_robust_laws.proofs.Changed.{Touches, change_explained}
use Rattle.sdd_robust_laws.proofs.FirstWins.{ShareItem, one_before}
use Rattle.sdd_robust_laws.proofs.Pivots.{all_pass}
use Rattle.sdd_robust_laws.proofs.Sure.{Changes}
use Rattle.sdd_robust_laws.proofs.Sure.Changes.{deletes, updates}
use Rattle.sdd_robust_laws.proofs.SureRows.{entry_changed}
use Rattle.sdd_robust_laws.proofs.Rows.{AreRows, ChangesOnce, at_first, one_more, same_database, same_row}
use Rattle.sdd_robust_laws.proofs.Snapshots.{AreBased, IsBased, after_is, changes_once, databases, fits, held, in_turn, sessions}

module _ (cat : Catalogue) (sound : IsSoundCatalogue cat) (work : List Txn) (of : IsWorkload cat work) (first : Database) (first_is : IsDatabase cat first)
    (txns : ℕ → Txn) (in_work : (n : ℕ) → Contains work (txns n)) (effects : ℕ → Effect) (log : Log) (run : IsSnapshotRun cat txns first effects log) where
  abbrev acc : ℕ → List Access
  acc n = accesses cat work first (txns n)

  abbrev commits : List ℕ
  commits = ended log

  abbrev end : ℕ → ℕ
  end = end_of log

  abbrev comes : ℕ → ℕ → Bool
  comes = comes_before cat acc effects log

  abbrev R : Ended
  R = runs cat acc effects log

  abbrev S : HasSessions (λ n. n) log
  S = sessions log run.in_turn

  forward : (n : ℕ) → contains commits n ≡ true → begin_of log n < end n
  forward = (times (λ z. z) log S).forward

  is_before : (x y : ℕ) → Comes R x y → comes x y ≡ true
  is_before = order_is_before cat acc effects log forward

  one_end : (m n : ℕ) → Contains commits m → Contains commits n → end m ≡ end n → m ≡ n
  one_end m n h k = (times (λ z. z) log S).one_end m n (member_is commits m h) (member_is commits n k)

  abbrev Based : ℕ → Type 0
  Based = IsBased cat sound work of first first_is txns in_work effects

  abbrev bases : (part : Log) → InTurn part → SeesSnapshots cat txns first effects part → AreBased cat sound work of first first_is txns in_work effects part
  bases = databases cat sound work of first first_is txns in_work effects

  based : (n : ℕ) → Contains commits n → Based n
  based n h = (bases log run.in_turn run.sees).each n ((times (λ z. z) log S).had_begun n (member_is commits n h))

  once : (n : ℕ) → Contains commits n → ChangesOnce cat first effects end n
  once n h = changes_once cat sound work of first first_is txns in_work effects n (based n h)

  abbrev Rows : List ℕ → Database → Type 0
  Rows = AreRows cat first effects end

  -- of a part of the log the database has the rows that those left which had ended
  rows_of_part : (part : Log) → InTurn part → SeesSnapshots cat txns first effects part → Rises end part
      → ((n : ℕ) → Contains (ended part) n → Contains commits n) → Rows (ended part) (database cat first effects part)
  rows_of_part [] r s t within = at_first cat first effects end
  rows_of_part (begins n ∷ part) r s t within = rows_of_part part r.1 s.1 t within
  rows_of_part (ends n ∷ part) r s t within =
      one_more cat first effects end (ended part) n (database cat first effects part) (bases part r.1 s).is.ascends
      (once n (within n (Contains-here n (ended part)))) (λ m h d c k l e. t.0 m h)
      (rows_of_part part r.1 s t.1 (λ m h. within m (Contains-later n (ended part) m h)))

  -- the part of the log before a run began, and its database

  before_n : (n : ℕ) → Contains commits n → Before (λ z. z) cat txns first effects log n
  before_n n h = before_of (λ z. z) cat txns first effects log S run.sees n ((times (λ z. z) log S).had_begun n (member_is commits n h))

  abbrev part_of : (n : ℕ) → Contains commits n → Log
  part_of n h = (before_n n h).before

  abbrev base : (n : ℕ) → Contains commits n → Database
  base n h = database cat first effects (part_of n h)

  base_is : (n : ℕ) (h : Contains commits n) → AreBased cat sound work of first first_is txns in_work effects (part_of n h)
  base_is n h = bases (part_of n h) (in_turn (part_of n h) (before_n n h).runs) (before_n n h).sees

  base_rises : (n : ℕ) (h : Contains commits n) → Rises end (part_of n h)
  base_rises n h = (before_n n h).rises end (ends_rise (λ z. z) log S)

  base_rows : (n : ℕ) (h : Contains commits n) → Rows (ended (part_of n h)) (base n h)
  base_rows n h =
      rows_of_part (part_of n h) (in_turn (part_of n h) (before_n n h).runs) (before_n n h).sees (base_rises n h) (λ m k. ((before_n n h).had_ended m k).0)

  -- two that change one item
  shared : (m n : ℕ) (d c : Change) → Contains (effects m).changes d → Contains (effects n).changes c → item_of cat d ≡ item_of cat c → ShareItem cat effects m n
  shared m n d c h k e = record { of_first = d; of_second = c; in_first = h; in_second = k; item = e }

  earlier : (m n : ℕ) → Contains commits m → Contains commits n → ShareItem cat effects m n → end m < end n → end m < begin_of log n
  earlier m n h k s l =
      let apart : m ≢ n = λ e. (let t : end m ≡ end n = ap end e in omega arith) in
      elim (one_before cat effects log S run.first_wins m n h k apart s) [
        | inl first_ended ↦ first_ended
        | inr second_ended ↦ (let f = forward m (member_is commits m h) in absurd (omega arith))
      ]

  -- A database that has the changes of those runs, of the ones that change an item as n does, which ended before n, has the rows
  -- that n saw of the items that n changes.
  whole_row : (n : ℕ) (h : Contains commits n) (some : List ℕ) (db : Database) → ((m : ℕ) → Contains some m → Contains commits m) → Rows some db
      → ((m : ℕ) → Contains some m → ShareItem cat effects m n → end m < end n)
      → ((m : ℕ) → Contains commits m → end m < begin_of log n → ShareItem cat effects m n → Contains some m)
      → (c : Change) → Contains (effects n).changes c → row_at db (item_of cat c) ≡ row_at (base n h) (item_of cat c)
  whole_row n h some db within rows before has c k =
      let b = before_n n h in
      same_row cat first effects end (item_of cat c) some (ended (part_of n h)) (λ m i. once m (within m i))
      (λ m o i j e. one_end m o (within m i) (b.had_ended o j).0 e)
      (λ m i d l e. b.all_ended m (within m i) (earlier m n (within m i) h (shared m n d c l k e) (before m i (shared m n d c l k e))))
      (λ m i d l e. has m (b.had_ended m i).0 (b.had_ended m i).1 (shared m n d c l k e))
      (row_at db (item_of cat c)) (row_at (base n h) (item_of cat c)) (rows (item_of cat c)) (base_rows n h (item_of cat c))

  abbrev touches : ℕ → Item → ℕ → Bool
  touches = touch cat acc effects log

  abbrev Cells : List ℕ → Database → Type 0
  Cells = cells.AreCells cat first effects end touches

  -- there it leaves each column that it doesn't touch
  leaves : (n : ℕ) (h : Contains commits n) (db : Database)
      → ((c : Change) → Contains (effects n).changes c → row_at db (item_of cat c) ≡ row_at (base n h) (item_of cat c))
      → (c : Change) → Contains (effects n).changes c → (k : ℕ) → touches n (item_of cat c) k ≡ false → cell c.row k ≡ cell (row_at db (item_of cat c)) k
  leaves n h db whole c i k none =
      let b = before_n n h in
      let x =
      change_explained cat sound work first (base n h) (base_is n h).is (txns n) (fits cat sound work of first first_is txns in_work effects n)
      (held cat sound work of first first_is txns in_work effects n) c (subst (λ (e : Effect). Contains e.changes c) (sym b.effect_is) i) in
      elim (x.keeps k) [
        | inl t ↦
            absurd
            (false≢true (sym none ∙ passes_member (λ (y : Access). y.changes && (covers y (item_of cat c) && columns_meet k y.column)) (acc n) t.access t.member
            (and_from t.access.changes _ t.changes (and_from (covers t.access (item_of cat c)) _ t.covered t.column))))
        | inr same ↦ same ∙ sym (ap (λ o. cell o k) (whole c i))
      ]

  -- those that aren't in a part ended after all that are
  abbrev IsFirst : Log → Type 0
  IsFirst part = (m : ℕ) → Contains commits m → Contains (ended part) m ⊎ ((x : ℕ) → Contains (ended part) x → end x < end m)

  cells_of_part : (part : Log) → InTurn part → SeesSnapshots cat txns first effects part → Rises end part
      → ((n : ℕ) → Contains (ended part) n → Contains commits n) → IsFirst part → Cells (ended part) (database cat first effects part)
  cells_of_part [] r s t within is_first = cells.at_first cat first effects end touches
  cells_of_part (begins n ∷ part) r s t within is_first = cells_of_part part r.1 s.1 t within is_first
  cells_of_part (ends n ∷ part) r s t within is_first =
      let h = within n (Contains-here n (ended part)) in
      let in_part : (m : ℕ) → Contains (ended part) m → Contains commits m = λ m i. within m (Contains-later n (ended part) m i) in
      let db : Database = database cat first effects part in
      let f = forward n (member_is commits n h) in
      let had : (m : ℕ) → Contains commits m → end m < begin_of log n → Contains (ended part) m =
      λ m i l. elim (is_first m i) [
        | inl j ↦ elim (Contains-cases n (ended part) m j) [
          | inl e ↦ (let same : end m ≡ end n = ap end e in absurd (omega arith))
          | inr old ↦ old
        ]
        | inr g ↦ (let late = g n (Contains-here n (ended part)) in absurd (omega arith))
      ] in
      let rest_first : IsFirst part =
      λ m i. elim (is_first m i) [
        | inl j ↦ elim (Contains-cases n (ended part) m j) [
          | inl e ↦ inr (λ x l. subst (λ z. end x < end z) (sym e) (t.0 x l))
          | inr old ↦ inl old
        ]
        | inr g ↦ inr (λ x l. g x (Contains-later n (ended part) x l))
      ] in
      let whole = whole_row n h (ended part) db in_part (rows_of_part part r.1 s t.1 in_part) (λ m i c. t.0 m i) (λ m i l c. had m i l) in
      cells.one_more cat first effects end touches (ended part) n db (bases part r.1 s).is.ascends (once n h) (leaves n h db whole)
      (λ m i d c k l e. t.0 m i) (cells_of_part part r.1 s t.1 in_part rest_first)

  base_cells : (n : ℕ) (h : Contains commits n) → Cells (ended (part_of n h)) (base n h)
  base_cells n h =
      let b = before_n n h in
      cells_of_part (part_of n h) (in_turn (part_of n h) b.runs) b.sees (base_rises n h) (λ m k. (b.had_ended m k).0)
      (λ m i. elim (cases_lt (end m) (begin_of log n)) [
        | inl l ↦ inl (b.all_ended m i l)
        | inr g ↦ inr (λ x k. (let l = (b.had_ended x k).1 in omega arith))
      ])

  -- what is known where some are done and the others left
  record Stage (done rest : List ℕ) : Type 0 where
    all : (n : ℕ) → Contains commits n → Contains done n ⊎ Contains rest n
    of_done : (n : ℕ) → Contains done n → Contains commits n
    of_rest : (n : ℕ) → Contains rest n → Contains commits n
    before : (n m : ℕ) → Contains done n → Contains rest m → (end m ≢ end n) × (comes m n ≡ false)
    along : IsAlongBy end comes rest

  next_stage : (done : List ℕ) (x : ℕ) (rest : List ℕ) → Stage done (x ∷ rest) → Stage (x ∷ done) rest
  next_stage done x rest st =
      record {
        all = λ n h. elim (st.all n h) [
          | inl d ↦ inl (Contains-later x done n d)
          | inr r ↦ elim (Contains-cases x rest n r) [ inl e ↦ inl (subst (Contains (x ∷ done)) (sym e) (Contains-here x done)) | inr k ↦ inr k ]
        ];
        of_done = λ n h. elim (Contains-cases x done n h) [ inl e ↦ subst (Contains commits) (sym e) (st.of_rest x (Contains-here x rest)) | inr d ↦ st.of_done n d ];
        of_rest = λ n h. st.of_rest n (Contains-later x rest n h);
        before = λ n m h k. elim (Contains-cases x done n h) [
          | inl e ↦ subst (λ z. (end m ≢ end z) × (comes m z ≡ false)) (sym e) (st.along.0 m k)
          | inr d ↦ st.before n m d (Contains-later x rest m k)
        ];
        along = st.along.1;
      }

  refuted : (x y : ℕ) → comes x y ≡ false → Comes R x y → ⊥
  refuted x y none c = false≢true (sym none ∙ is_before x y c)

  module _ (done : List ℕ) (x : ℕ) (rest : List ℕ) (st : Stage done (x ∷ rest)) where
    x_there : Contains commits x
    x_there = st.of_rest x (Contains-here x rest)

    is_x : contains commits x ≡ true
    is_x = member_is commits x x_there

    -- those that are done and change what it changes ended before it
    ended_before : (m : ℕ) → Contains done m → (d c : Change) → Contains (effects m).changes d → Contains (effects x).changes c → item_of cat d ≡ item_of cat c → end m < end x
    ended_before m h d c k l e =
        let p = st.before m x h (Contains-here x rest) in
        let is_m = member_is commits m (st.of_done m h) in
        elim (cases_lt (end m) (end x)) [
          | inl less ↦ less
          | inr more ↦
              let apart = p.0 in
              absurd (refuted x m p.1 (both_change (item_of cat c) is_x is_m (c, l, refl) (d, k, e) (strictly (end x) (end m) apart more)))
        ]
      where
        strictly : (a b : ℕ) → a ≢ b → a ≤ b → a < b
        strictly a b apart l = elim (cases_lt a b) [ inl less ↦ less | inr more ↦ absurd (apart (omega arith)) ]

    -- and those that ended before it began, and change what it changes, are done
    had_done : (m : ℕ) → Contains commits m → end m < begin_of log x → ShareItem cat effects m x → Contains done m
    had_done m h l s =
        let f = forward x is_x in
        elim (st.all m h) [
          | inl d ↦ d
          | inr r ↦ elim (Contains-cases x rest m r) [
            | inl same ↦ (let at : end m ≡ end x = ap end same in absurd (omega arith))
            | inr j ↦
                absurd
                (refuted m x (st.along.0 m j).1
                (both_change (item_of cat s.of_second) (member_is commits m h) is_x (s.of_first, s.in_first, s.item) (s.of_second, s.in_second, refl) (omega arith)))
          ]
        ]

    module _ (db : Database) (is : IsDatabase cat db) (rows : Rows done db) (own_cells : Cells done db) where
      whole : (c : Change) → Contains (effects x).changes c → row_at db (item_of cat c) ≡ row_at (base x x_there) (item_of cat c)
      whole =
          whole_row x x_there done db st.of_done rows
          (λ m h s. ended_before m h s.of_first s.of_second s.in_first s.in_second s.item) had_done

      -- of a column that it reads, those that are done touched what those did which had ended when it began
      done_had_ended : (item : Item) (k : ℕ) → may_read cat acc effects log x (item, k) ≡ true → (n : ℕ) → Contains done n → touches n item k ≡ true → (c : Change)
          → Contains (effects n).changes c → item_of cat c ≡ item → Contains (ended (part_of x x_there)) n
      done_had_ended item k reads n h t c l e =
          let there = st.of_done n h in
          let p = st.before n x h (Contains-here x rest) in
          let apart : x ≢ n = λ same. p.0 (ap end same) in
          elim (cases_lt (end n) (begin_of log x)) [
            | inl early ↦ (before_n x x_there).all_ended n there early
            | inr late ↦ absurd (refuted x n p.1 (misses (item, k) is_x (member_is commits n there) apart reads ((c, l, e), t) (omega arith)))
          ]

      had_ended_done : (item : Item) (k : ℕ) → may_read cat acc effects log x (item, k) ≡ true → (n : ℕ) → Contains (ended (part_of x x_there)) n → touches n item k ≡ true
          → (c : Change) → Contains (effects n).changes c → item_of cat c ≡ item → Contains done n
      had_ended_done item k reads n h t c l e =
          let had = (before_n x x_there).had_ended n h in
          let early = had.1 in
          elim (st.all n had.0) [
            | inl d ↦ d
            | inr r ↦ elim (Contains-cases x rest n r) [
              | inl same ↦
                  let late = forward x is_x in
                  let at : end n ≡ end x = ap end same in
                  absurd (omega arith)
              | inr j ↦ absurd (refuted n x (st.along.0 n j).1 (sees (item, k) (member_is commits n had.0) is_x ((c, l, e), t) reads early))
            ]
          ]

      agrees : AgreeOn (acc x) db (base x x_there)
      agrees a h reads item covered =
          let may : may_read cat acc effects log x (item, a.column) ≡ true =
          passes_member (λ (y : Access). y.reads && (covers y item && (y.column == a.column))) (acc x) a h
          (and_from a.reads _ reads (and_from (covers a item) _ covered (eq-eqb a.column a.column refl))) in
          cells.same_cell cat first effects end touches item a.column done (ended (part_of x x_there)) (λ n k. once n (st.of_done n k))
          (λ m n k l e. one_end m n (st.of_done m k) ((before_n x x_there).had_ended n l).0 e)
          (done_had_ended item a.column may) (had_ended_done item a.column may) (cell (row_at db item) a.column) (cell (row_at (base x x_there) item) a.column)
          (own_cells item a.column) (base_cells x x_there item a.column)

      -- it changes the rows on which its updates and deletes work, so they are whole
      worked_on : (s : Stmt) → Contains (txns x).statements s → (e : Item × Row) → Contains (base x x_there) e
          → Changes cat (fragment_of cat e.0.0 e.0.1, e.0.1) (base x x_there) s → row_at db e.0 ≡ row_at (base x x_there) e.0
      worked_on s h e k changes =
          let b = before_n x x_there in
          let done : succeeds (effects x).reply ≡ true = all_pass (λ n. succeeds (effects n).reply) commits x run.succeed is_x in
          let c =
          entry_changed cat sound work first (base x x_there) (base_is x x_there).is (base_is x x_there).has (txns x) s h e
          (All-contains (IsEntry cat) (base x x_there) e (base_is x x_there).is.entries k) changes (subst (λ (z : Effect). succeeds z.reply ≡ true) (sym b.effect_is) done) in
          subst (λ i. row_at db i ≡ row_at (base x x_there) i) c.2 (whole c.0 (subst (λ (z : Effect). Contains z.changes c.0) b.effect_is c.1))

      has_chosen : (s : Stmt) → Contains (txns x).statements s → HasChosen cat sound db (base x x_there) s
      has_chosen (Put rel row) h = tt
      has_chosen (Query out rels conds) h = tt
      has_chosen (Update rel sets conds) h =
          λ e k. worked_on (Update rel sets conds) h e
          (Contains-from_filter (λ (e : Item × Row). (e.0.0 == rel.0) && meets_all conds (e.1 ∷ [])) (base x x_there) e k).0
          (updates rel sets conds e (is_in (chosen (base x x_there) rel.0 conds) e k) refl)
      has_chosen (Delete rel conds) h =
          λ e k. worked_on (Delete rel conds) h e
          (Contains-from_filter (λ (e : Item × Row). (e.0.0 == rel.0) && meets_all conds (e.1 ∷ [])) (base x x_there) e k).0
          (deletes rel conds e (is_in (chosen (base x x_there) rel.0 conds) e k) refl)

      -- so it has its effect
      gives_next : effect cat db (txns x) ≡ effects x
      gives_next =
          one_effect cat sound work first (txns x) (fits cat sound work of first first_is txns in_work effects x) db (base x x_there) is
          (base_is x x_there).is agrees has_chosen
          ∙ (before_n x x_there).effect_is

  -- a database with the changes of all
  record IsLeft (db : Database) : Type 0 where
    is : IsDatabase cat db
    done : List ℕ
    within : (n : ℕ) → Contains done n → Contains commits n
    whole : (n : ℕ) → Contains commits n → Contains done n
    rows : Rows done db

  one_left : (a b : Database) → IsLeft a → IsLeft b → a ≡ b
  one_left a b p q =
      same_database cat a b p.is q.is
      (λ item. same_row cat first effects end item p.done q.done (λ n h. once n (p.within n h))
      (λ m n h k e. one_end m n (p.within m h) (q.within n k) e) (λ n h c k e. q.whole n (p.within n h)) (λ n h c k e. p.whole n (q.within n h))
      (row_at a item) (row_at b item) (p.rows item) (q.rows item))

  run_from : (rest done : List ℕ) (db : Database) → Stage done rest → IsDatabase cat db → Rows done db → Cells done db
      → ((serial cat db (map txns rest)).0 ≡ map (λ n. (effects n).reply) rest) × IsLeft (serial cat db (map txns rest)).1
  run_from [] done db st is rows own_cells = (
    refl,
    record {
      is = is;
      done = done;
      within = st.of_done;
      whole = λ n h. elim (st.all n h) [ inl d ↦ d | inr none ↦ absurd (Contains-nil n none) ];
      rows = rows;
    },
  )
  run_from (x ∷ rest) done db st is rows own_cells =
      let e : effect cat db (txns x) ≡ effects x = gives_next done x rest st db is rows own_cells in
      let there = x_there done x rest st in
      let after : Database = after_changes cat db (effects x).changes in
      let is_after : IsDatabase cat after = after_is cat sound work of first first_is txns in_work effects x (based x there) db is in
      let more = one_more cat first effects end done x db is.ascends (once x there) (ended_before done x rest st) rows in
      let more_cells =
      cells.one_more cat first effects end touches done x db is.ascends (once x there) (leaves x there db (whole done x rest st db is rows own_cells))
      (ended_before done x rest st) own_cells in
      let later = run_from rest (x ∷ done) after (next_stage done x rest st) is_after more more_cells in
      subst
      (λ (z : Effect).
      ((after_reply z.reply (serial cat (after_changes cat db z.changes) (map txns rest))).0 ≡ (effects x).reply ∷ map (λ n. (effects n).reply) rest)
      × IsLeft (after_reply z.reply (serial cat (after_changes cat db z.changes) (map txns rest))).1)
      (sym e) (ap (λ l. (effects x).reply ∷ l) later.0, later.1)

  once_of : (rest : List ℕ) → IsAlongBy end comes rest → EachOnce rest
  once_of [] a = tt
  once_of (x ∷ rest) a = ((λ m h e. (a.0 m h).0 (ap end e)), once_of rest a.1)

  abbrev in_order : List ℕ
  in_order = order cat acc effects log

  pub replayed : IsOrderly (Comes R) → IsReplay cat txns first effects log in_order
  replayed orderly =
      let whole = all_in cat acc effects log S orderly in
      let within = of_ended cat acc effects log in
      let along = taken_along end comes (length commits) commits in
      let begin : Stage [] in_order =
      record {
        all = λ n h. inr (whole n h);
        of_done = λ n h. absurd (Contains-nil n h);
        of_rest = within;
        before = λ n m h k. absurd (Contains-nil n h);
        along = along;
      } in
      let ran = run_from in_order [] first begin first_is (at_first cat first effects end) (cells.at_first cat first effects end touches) in
      let left : IsLeft (database cat first effects log) =
      record {
        is = (bases log run.in_turn run.sees).is;
        done = commits;
        within = λ n h. h;
        whole = λ n h. h;
        rows = rows_of_part log run.in_turn run.sees (ends_rise (λ n. n) log S) (λ n h. h);
      } in
      record {
        same = λ n. (whole n, within n);
        once = once_of in_order along;
        replies = ran.0;
        rows = one_left _ _ ran.1 left;
      }
