-- Each link that is found is a precedence.
use Rattle.sdd_links.proofs.All.{All, All-contains, All-head, All-tail, AreMarks, Catalogue, ChangeExists, Committed, Contains, Contains-append_cases, Contains-cases, Contains-get_or, Contains-nil, ExistsIn, FragNo, History, IsClass, IsCommitted, IsFragment, IsOrderable, IsRecordAt, List, Marks, NumbersExist, Rec, Some, Use, UseExists, [], arith, by_class, by_fragment, chains, changes, cond, end_of, enumerate_from, eqb-true, false, flat_map, fragment_links, fragments_in, get_or as slice_index_or, group, groups, has_seen, inl, inr, length, links, links_at, ltb-true, map, module_of, nat_lt, read_links, refl, same_Some, slice_get, subst, suc, sym, true, was_seen, zero, ℕ, ◌++◌, ◌+◌, ◌-◌, ◌<◌, ◌==◌, ◌∙◌, ◌∷◌, ◌≡◌, ◌⊎◌}
use Rattle.sdd_links.proofs.Chained.{from_group, chains_are}
use Rattle.sdd_links.proofs.Grouped.{group_at}
use Rattle.sdd_links.proofs.Members.{Contains-from_flat_map, Contains-from_map, member_passes}
use Rattle.sdd_links.proofs.Halves.{end_of_is}
use Rattle.sdd_links.proofs.Implied.{overwrites, goes_before, reads_from, misses_it, by_class_order, by_writing, by_missing, by_reading, AreInOrder, Precedence, other_time, other_changes, seen_is}
use Rattle.sdd_links.proofs.Nodes.{at_enumerated, from_class, from_fragment, classes_rise, fragments_rise}

-- the numbers in a record that stands somewhere exist
pub exists_at : (cat : Catalogue) (h : History) → NumbersExist cat h → (k : ℕ) (r : Rec) → IsRecordAt h k r → ExistsIn cat r
exists_at cat [] all k r s = absurd (cc)
exists_at cat (e ∷ h) all zero r s = subst (ExistsIn cat) (same_Some e.1 r s) (All-head (λ x. ExistsIn cat x.1) e h all)
exists_at cat (e ∷ h) all (suc k) r s = exists_at cat h (All-tail (λ x. ExistsIn cat x.1) e h all) k r s

module _ (cat : Catalogue) (h : History) (exist : NumbersExist cat h) (t : Committed) (committed : IsCommitted h t) where
  pub class_exists : IsClass cat t.start.class
  class_exists = (exists_at cat h exist t.start.place _ committed.started).0

  pub uses_exist : All (UseExists cat) t.start.uses
  uses_exist = (exists_at cat h exist t.start.place _ committed.started).1

  pub read_exists : (f : ℕ) → Contains (fragments_in t.start.uses) f → IsFragment cat f
  read_exists f c =
      let u = Contains-from_flat_map (λ (v : Use). map (λ g. g.0) v.frags) t.start.uses f c in
      let g = Contains-from_map (λ (k : FragNo). k.0) u.0.frags f u.2 in
      let frags = (All-contains (UseExists cat) t.start.uses u.0 uses_exist u.1).1 in
      subst (IsFragment cat) (sym g.2) (All-contains (λ k. IsFragment cat k.0) u.0.frags g.0 frags g.1)

  pub change_exists : (f : ℕ) → changes t f ≡ true → IsFragment cat f
  change_exists f b =
      let c = member_passes (λ d. d.frag.0 == f) t.changes b in
      let all : All (ChangeExists cat) t.changes = exists_at cat h exist t.place _ committed.committed in
      subst (IsFragment cat) (eqb-true c.0.frag.0 f c.2) (All-contains (ChangeExists cat) t.changes c.0 all c.1)

-- the links at the end of what a reader has seen
pub record AtEnd (writers : List ℕ) (reader k : ℕ) (l : ℕ × ℕ) : Type 0 where
  pub which : ((0 < k) × (l ≡ (slice_index_or writers (k - 1) 0, reader))) ⊎ ((k < length writers) × (l ≡ (reader, slice_index_or writers k 0)))

at_end : (writers : List ℕ) (reader k : ℕ) (l : ℕ × ℕ) → Contains (links_at writers reader k) l → AtEnd writers reader k l
at_end writers reader k l c = grind (arith, nat_lt, slice_index_or, ltb-true, Contains-cases, Contains-nil)

module _ (cat : Catalogue) (h : History) (o : IsOrderable cat h) (marks : Marks) (are : AreMarks h marks) (txns : List Committed)
    (ordered : AreInOrder h txns) where
  abbrev pub writers_of : ℕ → List ℕ
  writers_of f = slice_index_or (groups (by_fragment txns) (length cat.fragments + 1)) f []

  pub writers_are : (f : ℕ) → IsFragment cat f → writers_of f ≡ group (by_fragment txns) f
  writers_are f within = let below = within.1 in group_at (by_fragment txns) (length cat.fragments + 1) f [] (omega arith)

  -- a writer of a fragment
  pub record Writer (f i : ℕ) : Type 0 where
    pub txn : Committed
    pub is : slice_get txns i ≡ Some txn
    pub changes : changes txn f ≡ true

  pub writer_in : (f i : ℕ) → IsFragment cat f → Contains (writers_of f) i → Writer f i
  writer_in f i within c =
      let r = from_fragment txns f i (from_group (by_fragment txns) f i (subst (λ l. Contains l i) (writers_are f within) c)) in
      record { txn = r.0; is = r.1; changes = r.2 }

  pub writer_at : (f q : ℕ) → IsFragment cat f → q < length (writers_of f) → Writer f (slice_index_or (writers_of f) q 0)
  writer_at f q within l = writer_in f (slice_index_or (writers_of f) q 0) within (Contains-get_or (writers_of f) q 0 l)

  -- how many of them a reader has seen
  abbrev pub seen_by : Committed → ℕ → ℕ
  seen_by t f = end_of (has_seen marks txns (module_of cat t.start.class f) t (writers_of f)) (length (writers_of f)) 0 (length (writers_of f))

  module _ (i : ℕ) (t : Committed) (there : slice_get txns i ≡ Some t) (f : ℕ) (read : Contains (fragments_in t.start.uses) f)
      (unchanged : changes t f ≡ false) where
    within : IsFragment cat f
    within = read_exists cat h o.numbers_exist t (ordered.committed i t there) f read

    writer_first : (j : ℕ) (w : Writer f j) → was_seen h w.txn (module_of cat t.start.class f) t ≡ true → Precedence cat h txns j i
    writer_first j w s = record {
      first = w.txn;
      second = t;
      first_is = w.is;
      second_is = there;
      precedes = by_reading cat h w.txn t
          (other_changes cat h o marks are txns ordered w.txn t f w.changes unchanged (ordered.committed j w.txn w.is) (ordered.committed i t there))
          (reads_from cat h w.txn t f read w.changes s);
    }

    reader_first : (j : ℕ) (w : Writer f j) → was_seen h w.txn (module_of cat t.start.class f) t ≡ false → Precedence cat h txns i j
    reader_first j w s = record {
      first = t;
      second = w.txn;
      first_is = there;
      second_is = w.is;
      precedes = by_missing cat h t w.txn
          (λ e. other_changes cat h o marks are txns ordered w.txn t f w.changes unchanged (ordered.committed j w.txn w.is) (ordered.committed i t there) (sym e))
          (misses_it cat h t w.txn f read w.changes s);
    }

    pub end_link : (l : ℕ × ℕ) → Contains (links_at (writers_of f) i (seen_by t f)) l → Precedence cat h txns l.0 l.1
    end_link l c =
        let d = module_of cat t.start.class f in
        let k = seen_by t f in
        let end = end_of_is (has_seen marks txns d t (writers_of f)) (length (writers_of f)) in
        elim ((at_end (writers_of f) i k l c).which) [
          | inl m ↦
              let positive = m.0 in
              let most = end.below in
              let w = writer_at f (k - 1) within (omega arith) in
              let seen = sym (seen_is cat h o marks are txns ordered d t (writers_of f) (k - 1) w.txn w.is) ∙ end.held m.0 in
              subst (λ (z : ℕ × ℕ). Precedence cat h txns z.0 z.1) (sym m.1) (writer_first (slice_index_or (writers_of f) (k - 1) 0) w seen)
          | inr m ↦
              let w = writer_at f k within m.0 in
              let unseen = sym (seen_is cat h o marks are txns ordered d t (writers_of f) k w.txn w.is) ∙ end.fails m.0 in
              subst (λ (z : ℕ × ℕ). Precedence cat h txns z.0 z.1) (sym m.1) (reader_first (slice_index_or (writers_of f) k 0) w unseen)
        ]

  class_link : (l : ℕ × ℕ) → Contains (chains (groups (by_class txns) (length cat.classes + 1))) l → Precedence cat h txns l.0 l.1
  class_link l c =
      let r = chains_are (by_class txns) (length cat.classes + 1) (classes_rise txns) l c in
      let x = from_class txns r.key l.0 r.first in
      let y = from_class txns r.key l.1 r.second in
      let rise = ordered.rise l.0 l.1 x.0 y.0 x.1 y.1 r.below in
      record {
        first = x.0;
        second = y.0;
        first_is = x.1;
        second_is = y.1;
        precedes = by_class_order cat h x.0 y.0
            (other_time cat h o marks are txns ordered x.0 y.0 rise (ordered.committed l.0 x.0 x.1) (ordered.committed l.1 y.0 y.1))
            (goes_before x.0 y.0 (x.2 ∙ sym y.2) rise);
      }

  writer_link : (l : ℕ × ℕ) → Contains (chains (groups (by_fragment txns) (length cat.fragments + 1))) l → Precedence cat h txns l.0 l.1
  writer_link l c =
      let r = chains_are (by_fragment txns) (length cat.fragments + 1) (fragments_rise txns) l c in
      let x = from_fragment txns r.key l.0 r.first in
      let y = from_fragment txns r.key l.1 r.second in
      let rise = ordered.rise l.0 l.1 x.0 y.0 x.1 y.1 r.below in
      record {
        first = x.0;
        second = y.0;
        first_is = x.1;
        second_is = y.1;
        precedes = by_writing cat h x.0 y.0
            (other_time cat h o marks are txns ordered x.0 y.0 rise (ordered.committed l.0 x.0 x.1) (ordered.committed l.1 y.0 y.1))
            (overwrites x.0 y.0 r.key x.2 y.2 rise);
      }

  read_link : (l : ℕ × ℕ) → Contains (read_links cat marks txns (groups (by_fragment txns) (length cat.fragments + 1))) l
      → Precedence cat h txns l.0 l.1
  read_link l c =
      let writers = groups (by_fragment txns) (length cat.fragments + 1) in
      let p = Contains-from_flat_map (λ (z : ℕ × Committed). flat_map (fragment_links cat marks txns writers z) (fragments_in z.1.start.uses))
      (enumerate_from 0 txns) l c in
      let f = Contains-from_flat_map (fragment_links cat marks txns writers p.0) (fragments_in p.0.1.start.uses) l p.2 in
      elim (changes p.0.1 f.0) as
      (λ b. changes p.0.1 f.0 ≡ b → Contains (cond b [] (links_at (writers_of f.0) p.0.0 (seen_by p.0.1 f.0))) l → Precedence cat h txns l.0 l.1) [
        | true ↦ λ b m. absurd (Contains-nil l m)
        | false ↦ λ b m. end_link p.0.0 p.0.1 (at_enumerated txns p.0 p.1) f.0 f.1 b l m
      ] refl f.2

  pub link_precedes : (l : ℕ × ℕ) → Contains (links cat marks txns) l → Precedence cat h txns l.0 l.1
  link_precedes l c =
      let of_class = chains (groups (by_class txns) (length cat.classes + 1)) in
      let of_frags = chains (groups (by_fragment txns) (length cat.fragments + 1)) in
      let reads = read_links cat marks txns (groups (by_fragment txns) (length cat.fragments + 1)) in
      elim (Contains-append_cases (of_class ++ of_frags) reads l c) [
        | inl m ↦ elim (Contains-append_cases of_class of_frags l m) [ inl n ↦ class_link l n | inr n ↦ writer_link l n ]
        | inr m ↦ read_link l m
      ]
