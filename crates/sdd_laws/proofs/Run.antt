-- The serial run along an order: each transaction gives the result of its Commit, and what is left has the values.
use Rattle.sdd_laws.proofs.All.{All-from_recursion, AreRecorded, Catalogue, ChangesOf, Contains, Contains-cases, Contains-here, Contains-later, Contains-nil, Database, Effect, GivesResults, HasValues, IsAlong, IsDatabase, IsOrder, IsReplayed, IsSoundCatalogue, Ledger, List, MayComeFirst, ReadWrite, Reads, WriteRead, [], after_changes, ap, arith, effect, false≢true, filter, gathered, inl, inr, map, nat_tests, not, read_set, read_set_decides, reads_write, refl, rows_in_fragment, rules, serial, stays_database, subst, sym, true, writers, writes_read, ℕ, ◌∙◌, ◌∷◌, ◌≡◌, ◌⊎◌}
use Rattle.sdd_laws.proofs.Members.{all_have, Contains-filter, Contains-from_filter}
use Rattle.sdd_laws.proofs.Origins.{origin, from_origin, more_origins}
use Rattle.sdd_laws.proofs.Values.{same_value}
use Rattle.sdd_laws.proofs.Fragments.{rows_agree}
use Rattle.sdd_laws.proofs.Snapshots.{bases_are, are_writers, snapshot_is}
use Rattle.sdd_laws.proofs.Steps.{at_start, one_more}
use Rattle.sdd_laws.specs.Ledger.{changes}
use Rattle.sdd_laws.specs.Replayed.{run}

-- the database that is left, with the changes that the Commits tell
abbrev after_all : {T : Type 0} → Catalogue → Ledger T → Database → List T → Database
after_all cat L db [] = db
after_all cat L db (x ∷ rest) = after_all cat L (after_changes cat db (changes L x)) rest

-- where each gives the result of its Commit, the serial run gives their replies
serial_gives : {T : Type 0} (cat : Catalogue) (L : Ledger T) (order : List T) (db : Database) → GivesResults cat L db order
    → serial cat db (map (λ x. L.txn x) order) ≡ (map (λ x. (L.result x).reply) order, after_all cat L db order)
serial_gives cat L [] db g = refl
serial_gives cat L (x ∷ rest) db g = search (rules, serial_gives cat L rest (after_changes cat db (changes L x)) g.1)

module _ {T : Type 0} (cat : Catalogue) (sound : IsSoundCatalogue cat) (first : Database) (first_is : IsDatabase cat first)
    (L : Ledger T) (commits : List T) (recorded : AreRecorded cat first L commits) where
  -- what is known where some are done and the others left
  record Stage (done rest : List T) : Type 0 where
    all : (z : T) → Contains commits z → Contains done z ⊎ Contains rest z
    of_done : (z : T) → Contains done z → Contains commits z
    of_rest : (z : T) → Contains rest z → Contains commits z
    before : (z y : T) → Contains done z → Contains rest y → MayComeFirst cat L z y
    along : IsAlong cat L rest

  next_stage : (done : List T) (x : T) (rest : List T) → Stage done (x ∷ rest) → Stage (x ∷ done) rest
  next_stage done x rest st =
      record {
        all = λ z h. elim (st.all z h) [
          | inl d ↦ inl (Contains-later x done z d)
          | inr r ↦ elim (Contains-cases x rest z r) [ inl e ↦ inl (subst (Contains (x ∷ done)) (sym e) (Contains-here x done)) | inr k ↦ inr k ]
        ];
        of_done = grind (arith, nat_tests, Contains-cases, Contains-here);
        of_rest = λ z h. st.of_rest z (Contains-later x rest z h);
        before = grind (arith, Contains-cases, Contains-later);
        along = st.along.1;
      }

  -- the transactions that one saw where it reads a fragment
  abbrev seen : T → ℕ → List T
  seen x f = filter (L.saw x f) commits

  -- of those that change a fragment which the next one reads, it saw exactly those done

  done_seen : (done : List T) (x : T) (rest : List T) (f : ℕ) → Stage done (x ∷ rest) → Reads cat L x f → (t : T)
      → Contains done t → ChangesOf L t f → Contains (seen x f) t
  done_seen done x rest f st reads t h c =
      let saw : L.saw x (c.0).frag.0 t ≡ true =
      st.before t x h (Contains-here x rest) (WriteRead (L.saw x (c.0).frag.0 t))
      (writes_read c.0 c.1 (subst (λ g. Reads cat L x g) (sym c.2) reads)) in
      Contains-filter (L.saw x f) commits t (st.of_done t h) (subst (λ g. L.saw x g t ≡ true) c.2 saw)

  seen_done : (done : List T) (x : T) (rest : List T) (f : ℕ) → Stage done (x ∷ rest) → Reads cat L x f → (t : T)
      → Contains (seen x f) t → ChangesOf L t f → Contains done t
  seen_done done x rest f st reads t h c =
      let k = Contains-from_filter (L.saw x f) commits t h in
      elim (st.all t k.0) as (λ _. Contains done t) [
        | inl d ↦ d
        | inr r ↦ elim (Contains-cases x rest t r) as (λ _. Contains done t) [
          | inl here ↦
              grind (arith, Contains-here)
          | inr behind ↦
              let unseen : not (L.saw x (c.0).frag.0 t) ≡ true =
              st.along.0 t behind (ReadWrite (L.saw x (c.0).frag.0 t))
              (reads_write c.0 c.1 (subst (λ g. Reads cat L x g) (sym c.2) reads)) in
              absurd (false≢true (subst (λ b. not b ≡ true) (subst (λ g. L.saw x g t ≡ true) (sym c.2) k.1) unseen))
        ]
      ]

  -- so the serial run gives the result of the next
  gives_next : (done : List T) (x : T) (rest : List T) (db : Database) → Stage done (x ∷ rest)
      → HasValues cat first L done db → effect cat db (L.txn x) ≡ L.result x
  gives_next done x rest db st has =
      let there : Contains commits x = st.of_rest x (Contains-here x rest) in
      let base : Database = gathered (recorded.pieces x) in
      let same : (f : ℕ) → Reads cat L x f → rows_in_fragment cat db f ≡ rows_in_fragment cat base f =
      λ f reads.
      rows_agree cat sound first first_is L commits (are_writers cat sound first first_is L commits recorded) done
      (seen x f) db f (λ t h. st.of_done t h) (λ t h. (Contains-from_filter (L.saw x f) commits t h).0)
      has (done_seen done x rest f st reads) (seen_done done x rest f st reads)
      ∙ sym (snapshot_is cat sound first first_is L commits recorded x there f reads) in
      read_set_decides cat sound (L.txn x) (recorded.fits x there) db base has.is
      (bases_are cat sound first first_is L commits recorded x there)
      (All-from_recursion (λ f. rows_in_fragment cat db f ≡ rows_in_fragment cat base f) (read_set cat (L.txn x))
      (all_have (λ f. rows_in_fragment cat db f ≡ rows_in_fragment cat base f) (read_set cat (L.txn x)) same))
      ∙ recorded.effect_is x there

  all_done : (done : List T) (db : Database) → Stage done [] → HasValues cat first L done db
      → HasValues cat first L commits db
  all_done done db st has =
      let in_done : (t : T) → Contains commits t → Contains done t =
      λ t k. elim (st.all t k) [ inl d ↦ d | inr none ↦ absurd (Contains-nil t none) ] in
      record {
        is = has.is;
        value = λ item.
            same_value cat _ _ item _
            (λ y o h.
            from_origin cat first (writers L) commits y
            (more_origins cat first (writers L) done commits y (λ t k. st.of_done t k)
            (origin cat first (writers L) done y h)))
            (λ y o h.
            from_origin cat first (writers L) done y
            (more_origins cat first (writers L) commits done y in_done (origin cat first (writers L) commits y h)))
            (has.value item);
      }

  run_from : (rest done : List T) (db : Database) → Stage done rest → HasValues cat first L done db
      → GivesResults cat L db rest × HasValues cat first L commits (after_all cat L db rest)
  run_from [] done db st has = (tt, all_done done db st has)
  run_from (x ∷ rest) done db st has =
      let there : Contains commits x = st.of_rest x (Contains-here x rest) in
      let e : effect cat db (L.txn x) ≡ L.result x = gives_next done x rest db st has in
      let after : IsDatabase cat (after_changes cat db (changes L x)) =
      subst (λ (z : Effect). IsDatabase cat (after_changes cat db z.changes)) e
      (stays_database cat sound (L.txn x) (recorded.fits x there) (recorded.puts_held x there) db has.is) in
      let next_st : Stage (x ∷ done) rest = next_stage done x rest st in
      let next =
      one_more cat sound first first_is L commits (are_writers cat sound first first_is L commits recorded) done x
      next_st.of_done (λ z h. st.before z x h (Contains-here x rest)) db has after in
      let later = run_from rest (x ∷ done) (after_changes cat db (changes L x)) next_st next in
      ((e, later.0), later.1)

  pub replayed : (order : List T) → IsOrder cat L commits order → IsReplayed cat first L commits order
  replayed order is_order =
      let begin : Stage [] order =
      record {
        all = λ z h. inr ((is_order.same z).0 h);
        of_done = λ z h. absurd (Contains-nil z h);
        of_rest = λ z h. (is_order.same z).1 h;
        before = λ z y h k. absurd (Contains-nil z h);
        along = is_order.along;
      } in
      let whole = run_from order [] first begin (at_start cat sound first first_is L) in
      let serial_is = serial_gives cat L order first whole.0 in
      let left : HasValues cat first L commits (run cat first L order).1 = grind (arith, nat_tests) in
      record {
        gives = whole.0;
        replies = ap (λ z. z.0) serial_is;
        leaves = left;
        copies = λ f applied all.
            rows_agree cat sound first first_is L commits (are_writers cat sound first first_is L commits recorded)
            commits (filter applied commits) (run cat first L order).1 f
            (λ t h. h) (λ t h. (Contains-from_filter applied commits t h).0) left
            (λ t h c. Contains-filter applied commits t h (all t h c))
            (λ t h c. (Contains-from_filter applied commits t h).0);
      }
