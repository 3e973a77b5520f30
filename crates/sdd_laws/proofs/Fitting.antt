-- The transactions of an era fit its catalogue, and meet the read conditions of its table.
use Rattle.sdd_laws.proofs.All.{All, All-contains, AllByRecursion, AppliedBefore, AreEras, Attempt, Catalogue, Change, ChangeExists, Commit, Committed, Cond, Contains, Declared, Effect, Entry, Eras, ExistsIn, FitsTxn as TextFits, FragNo, History, IsAnswered, IsCommitted, IsCovered, IsDatabase, IsEraOf, IsFragment, IsFragmentOf, IsOfSubmit, IsRecordAt, IsSeen, IsSoundCatalogue, IsTable, KeepsAnswers, KeepsApplies, KeepsConditions, KeepsEras, KeepsStarts, List, Meets, NumbersExist, Rec, RelNo, Row, TouchesOne, Txn as Text, [], all_at, ap, arith, ascending, ascending_back, at_member, base_of, catalogue_at, changes, conditions, contains, declared, eq-eqb, eqb-true, eras_begun, event_at, frag_no, fragments_in, has_copy, is_some, lie_in_write_set, map, member_passes, module_of, numbers_back, of_era, or_left, or_right, p2_time, reads, reads_at, slice_index_or, subst, sym, true, txn_no, write_set, write_set_in_era, ℕ, ◌-◌, ◌<◌, ◌==◌, ◌↔◌, ◌∙◌, ◌∷◌, ◌≡◌}
use Rattle.sdd_laws.proofs.Deeds.{Placed, deeds, are_starts}
use Rattle.sdd_laws.proofs.CatalogueAt.{era_is}
use Rattle.sdd_laws.proofs.Reading.{class_covers, read_at_event, reads_there}
use Rattle.sdd_acyclic.specs.Fits.{FitsSystem}
use Rattle.sdd_links.proofs.EachLink as numbers

-- a number of a list is there when they ascend
pub each_here : (xs zs : List ℕ) → ((n : ℕ) → contains xs n ≡ true → contains zs n ≡ true)
    → AllByRecursion (λ n. contains zs n ≡ true) xs
each_here [] zs h = tt
each_here (x ∷ xs) zs h = grind (arith, or_left, eq-eqb, or_right, (each_here xs zs (λ n c. h n (or_right (x == n) (contains xs n) c))))

pub in_ascending : (xs : List ℕ) (n : ℕ) → contains xs n ≡ true → contains (ascending xs) n ≡ true
in_ascending xs n c =
    at_member (λ m. contains (ascending xs) m ≡ true) xs n
    (ascending_back (λ m. contains (ascending xs) m ≡ true) xs (each_here (ascending xs) (ascending xs) (λ m d. d))) c

-- the fragments of an attempt's uses, ascending
abbrev pub frags_of : Placed → List FragNo
frags_of x = map frag_no (ascending (fragments_in x.txn.start.uses))

pub exists_at : (cat : Catalogue) (h : History) → NumbersExist cat h → (k : ℕ) (r : Rec) → IsRecordAt h k r → ExistsIn cat r
exists_at = numbers.exists_at

module _ (cat : Catalogue) (sound : IsSoundCatalogue cat) (eras : Eras) (are : AreEras cat eras) (rows : List (RelNo × Row)) (txns : List Text) (h : History)
    (exist : NumbersExist cat h) (fit : All (TextFits cat) txns)
    (starting : KeepsStarts cat eras txns h) (answering : KeepsAnswers cat rows txns h) (applying : KeepsApplies cat h) (kept : KeepsEras cat eras h)
    (meeting : KeepsConditions cat eras h)
    (bases : (t : Committed) → IsCommitted h t → IsDatabase cat (base_of cat rows h t.start))
  where
    -- a changed fragment is there
    changed_there : (t : Committed) → IsCommitted h t → (f : ℕ) → changes t f ≡ true → IsFragment cat f
    changed_there t p f c =
        let m = member_passes (λ (x : Change). x.frag.0 == f) t.changes c in
        let all : All (ChangeExists cat) t.changes =
        exists_at cat h exist t.place (Commit (txn_no t.start.txn) t.start.number t.reply t.changes t.values t.rows) p.committed in
        subst (IsFragment cat) (eqb-true m.0.frag.0 f m.2) (All-contains (ChangeExists cat) t.changes m.0 all m.1)

    -- and in the write set of its transaction
    changed_written : (t : Committed) (p : IsCommitted h t) (s : IsOfSubmit cat eras txns h t.start) (f : ℕ) → changes t f ≡ true
        → contains (write_set cat s.txn) f ≡ true
    changed_written t p s f c =
        let text : TextFits cat s.txn = all_at (TextFits cat) txns (t.start.txn - 1) s.txn fit s.txn_is in
        let base = base_of cat rows h t.start in
        let all = lie_in_write_set cat sound s.txn text base (bases t p) in
        let of : All (λ (x : Change). contains (write_set cat s.txn) x.frag.0 ≡ true) t.changes =
        subst (λ (e : Effect). All (λ (x : Change). contains (write_set cat s.txn) x.frag.0 ≡ true) e.changes)
        (answering.effect_is t s.txn p s.txn_is) all in
        let m = member_passes (λ (x : Change). x.frag.0 == f) t.changes c in
        grind arith

    -- the catalogue of an era
    abbrev pub catalogue_of : ℕ → Catalogue
    catalogue_of n = (slice_index_or eras (n - 1) (0, cat)).1

    module _ (n : ℕ) where
      abbrev pub Member : Type 0
      Member = Declared (of_era (deeds cat h) (λ p. eras_begun eras (event_at h p.submit)) n)

      abbrev start_of : Member → Attempt
      start_of x = x.txn.item.no.txn.start

      submit_of : (x : Member) → IsOfSubmit cat eras txns h (start_of x)
      submit_of x = starting.submitted (start_of x) x.txn.item.is.committed.started

      -- the catalogue in force at its Submit, and at its Start, is that of the era
      same_catalogue_at : (x : Member) → catalogue_at cat eras (event_at h (submit_of x).place) ≡ catalogue_of n
      same_catalogue_at x = grind arith

      covered_there : (x : Member) → IsCovered (catalogue_of n) (submit_of x).txn (start_of x).class
      covered_there x =
          subst (λ c. IsCovered c (submit_of x).txn (start_of x).class) (same_catalogue_at x)
          (class_covers cat sound eras are txns h starting (start_of x) (submit_of x) x.class)

      is_era : (x : Member) → IsEraOf cat (catalogue_of n)
      is_era x = subst (IsEraOf cat) (same_catalogue_at x) (era_is cat eras are (event_at h (submit_of x).place))

      in_era : (x : Member) (f : ℕ) → IsFragment cat f → IsFragmentOf (catalogue_of n) f
      in_era x f there = grind (arith, catalogue_of, is_era)

      pub fits : FitsSystem (catalogue_of n) (declared (of_era (deeds cat h) (λ p. eras_begun eras (event_at h p.submit)) n))
      fits =
          record {
            class = λ x. (covered_there x).class;
            fragment_read = λ x f r. in_era x f (reads_there cat sound eras are txns h starting (start_of x) f x.txn.item.is.committed.started r).fragment;
            fragment_changed = λ x f c. in_era x f (changed_there x.txn.item.no.txn x.txn.item.is.committed f c);
            reads = λ x f r.
                subst (λ k. is_some (reads_at k (start_of x).class f) ≡ true) (same_catalogue_at x)
                (read_at_event cat sound eras are txns h starting (start_of x) (submit_of x) f x.class r);
            changes = λ x f c.
                let s = submit_of x in
                (covered_there x).writes f
                (ap (λ w. contains w f) (write_set_in_era cat (catalogue_of n) (is_era x) s.txn)
                ∙ changed_written x.txn.item.no.txn x.txn.item.is.committed s f c);
          }

      module _ (table : List Entry) (is_table : IsTable (catalogue_of n) table) where
        met : (x y : Member) (f g : ℕ) (c : Cond) → reads (start_of y) f ≡ true
            → Contains (conditions cat table (start_of y).class (module_of cat (start_of y).class f) (frags_of y.txn.item.no) (start_of y).ts (p2_time (start_of y))) c
            → c.class.0 ≡ (start_of x).class → changes x.txn.item.no.txn g ≡ true → contains (map (λ (z : FragNo). z.0) c.frags) g ≡ true
            → has_copy cat (module_of cat (start_of y).class f) g ≡ true
            → IsSeen (deeds cat h) x.txn.item.no (module_of cat (start_of y).class f) y.txn.item.no ↔ ((start_of x).ts < c.time.0)
        met x y f g c r m e w named copied =
            let a = start_of y in
            let d = module_of cat a.class f in
            let t = x.txn.item.no.txn in
            let touches : TouchesOne cat t d c.frags = record { fragment = g; changed = w; copied = copied; named = named } in
            let split : (k : ℕ) → IsAnswered h a d k → AppliedBefore h t.start.txn d k ↔ (t.start.ts < c.time.0) =
            λ k q. meeting.met a d k c t y.txn.item.is.committed.started q (grind arith) x.txn.item.is.committed (sym e) touches in (
              (λ s. (split s.answer s.answered).0 (record { place = s.applied.place; applied = s.applied.applied; before = s.applied.before })),
              λ l.
                  let at = (are_starts cat sound eras are rows txns h starting answering applying).answered y.txn.item f r in
                  let b = (split at.place at.answered).1 l in
                  record {
                    answer = at.place;
                    answered = at.answered;
                    applied = record { place = b.place; applied = b.applied; before = b.before };
                  },
            )

        pub meets : Meets cat table (declared (of_era (deeds cat h) (λ p. eras_begun eras (event_at h p.submit)) n)) (λ x. frags_of x.txn.item.no)
        meets =
            record {
              class = λ x.
                  let c = (covered_there x).class in
                  let few = (is_era x).classes in
                  let to = c.to in
                  record { from = c.from; to = omega arith };
              reads = λ x f r.
                  let all = ascending (fragments_in (start_of x).uses) in
                  ap (λ z. contains z f) (numbers_back all) ∙ in_ascending (fragments_in (start_of x).uses) f r;
              dm = λ x f r. (reads_there cat sound eras are txns h starting (start_of x) f x.txn.item.is.committed.started r).read;
              copies = λ x f r. (reads_there cat sound eras are txns h starting (start_of x) f x.txn.item.is.committed.started r).copy;
              met = met;
            }
