-- What is needed, by the classes to which tasks lead: the test finds it, and nothing else.
use Rattle.sdd_ask.proofs.All.{All-contains, Catalogue, Contains, Contains-range, D, Entry, IsClassOf, IsTable, IsWhole, List, Needs, Read, Relation, Site, T, Task, TellsNeeds, U, WIDTH, and_from, and_parts, ap, arith, attempt, attempts, awaits, begins, class_at, class_is, classes_of, closed, dm_no, each_to, eq-eqb, eqb-true, holds, inl, inr, is_class, is_held, is_own, is_queued, leads_to, length, list_any, meets, member_passes, moves, needed_by, needs_by, or_cases, or_left, or_right, passes_member, passing, queues, range_with_len, read_at_one, reads_at, refl, runs_at, subst, sym, tm_no, true, waits, waits_for, ℕ, ◌&&◌, ◌<◌, ◌==◌, ◌||◌, ◌≡◌, ◌≤◌}
use Rattle.sdd_base.specs.declared.number.DmNo.{DmNo}
use Rattle.std.proofs.Common.{le-leb}
use Rattle.sdd_ask.proofs.Closing.{Chain, closed_chain, still_related, transitive}
use Rattle.sdd_ask.proofs.Closing.Chain.{join, link}
use Rattle.sdd_ask.proofs.Entries.{waiting_classes}

-- the class to which a task leads, of which the site is an own one
record Leads (cat : Catalogue) (related : Relation) (c : ℕ) (s : Site) : Type 0 where
  other : ℕ
  is : IsClassOf cat other
  leads : related c other ≡ true
  owns : is_own cat other s ≡ true

leads_from : (cat : Catalogue) (related : Relation) (c : ℕ) (s : Site) → needs_by cat related c s ≡ true → Leads cat related c s
leads_from cat related c s e =
    let x = member_passes (leads_to cat related c s) (classes_of cat) e in
    let n : ℕ = length cat.classes in
    let within = All-contains (λ i. (1 ≤ i) × (i ≤ n)) (classes_of cat) x.0 (each_to n) x.1 in
    let p = and_parts (related c x.0) (is_own cat x.0 s) x.2 in
    record { other = x.0; is = record { from = within.0; to = within.1 }; leads = p.0; owns = p.1 }

leads_so : (cat : Catalogue) (related : Relation) (c : ℕ) (s : Site) (other : ℕ) → IsClassOf cat other → related c other ≡ true
    → is_own cat other s ≡ true → needs_by cat related c s ≡ true
leads_so cat related c s other is a b =
    passes_member (leads_to cat related c s) (classes_of cat) other (class_is cat other is)
    (and_from (related c other) (is_own cat other s) a b)

module _ (cat : Catalogue) (entries : List Entry) (table : IsTable cat entries) (whole : IsWhole cat) where
  abbrev pub by_wait : Relation
  by_wait = waits_for entries

  abbrev pub passed : Relation
  passed = closed (moves by_wait) WIDTH

  abbrev pub awaited : Relation
  awaited = awaits cat by_wait

  below : (i : ℕ) → IsClassOf cat i → i < WIDTH
  below i is = let to = is.to in let few = whole.few_classes in omega arith

  -- a class needs its own modules
  own_needed : (c : ℕ) (s : Site) → IsClassOf cat c → is_own cat c s ≡ true → Needs cat entries (attempt c) s
  own_needed c U is e = absurd cc
  own_needed c (T tm) is e =
      subst (λ z. Needs cat entries (attempt c) (T z)) (ap tm_no (eqb-true (class_at cat c).tm.0 tm.0 e)) (runs_at c is)
  own_needed c (D dm) is e =
      let x = member_passes (λ (r : Read). r.at.0 == dm.0) (class_at cat c).reads e in
      subst (λ z. Needs cat entries (attempt c) (D z)) (ap dm_no (eqb-true (x.0).at.0 dm.0 x.2)) (reads_at c x.0 is x.1)

  -- what is needed at the end of a chain is needed at its beginning
  along : (j k : ℕ) → Chain (moves by_wait) j k → (s : Site) → Needs cat entries (passing k) s → Needs cat entries (passing j) s
  along _ _ (join j i k a b) s h = along j i a s (along i k b s h)
  along _ _ (link j k e) s h =
      elim (or_cases (j == k) (by_wait j k || is_held by_wait j k) e) [
        | inl same ↦ subst (λ z. Needs cat entries (passing z) s) (sym (eqb-true j k same)) h
        | inr r ↦ elim (or_cases (by_wait j k) (is_held by_wait j k) r) [
          | inl w ↦ attempts j s (waits j k s w h)
          | inr held ↦
              let x = member_passes (λ r. by_wait r j && by_wait r k) (range_with_len 0 WIDTH) held in
              let p = and_parts (by_wait x.0 j) (by_wait x.0 k) x.2 in
              holds j k x.0 s p.0 p.1 h
        ]
      ]

  passing_sound : (j : ℕ) (s : Site) → needs_by cat passed j s ≡ true → Needs cat entries (passing j) s
  passing_sound j s e =
      let x = leads_from cat passed j s e in
      along j x.other (closed_chain (moves by_wait) WIDTH j x.other x.leads) s (attempts x.other s (own_needed x.other s x.is x.owns))

  -- what is needed by the passing of a class that an attempt awaits the attempt needs
  awaited_sound : (c j : ℕ) (s : Site) → awaited c j ≡ true → Needs cat entries (passing j) s → Needs cat entries (attempt c) s
  awaited_sound c j s e h = elim (or_cases (by_wait c j) (is_queued cat by_wait c j) e) [
    | inl w ↦ waits c j s w h
    | inr q ↦
        let x = member_passes (λ r. by_wait r c && (by_wait r j && meets cat c r)) (range_with_len 0 WIDTH) q in
        let p = and_parts (by_wait x.0 c) (by_wait x.0 j && meets cat c x.0) x.2 in
        let n = and_parts (by_wait x.0 j) (meets cat c x.0) p.1 in
        let m = and_parts (is_class cat c) (is_class cat x.0 && read_at_one cat c x.0) n.1 in
        let both = and_parts (is_class cat x.0) (read_at_one cat c x.0) m.1 in
        let own = member_passes (λ (r : Read). list_any (λ (o : Read). o.at.0 == r.at.0) (class_at cat x.0).reads) (class_at cat c).reads both.1 in
        let other = member_passes (λ (o : Read). o.at.0 == (own.0).at.0) (class_at cat x.0).reads own.2 in
        queues c j x.0 own.0 other.0 s own.1 other.1 (ap dm_no (sym (eqb-true (other.0).at.0 (own.0).at.0 other.2))) p.0 n.0 h
  ]

  attempt_sound : (c : ℕ) (s : Site) → needs_by cat (begins awaited passed) c s ≡ true → Needs cat entries (attempt c) s
  attempt_sound c s e =
      let x = leads_from cat (begins awaited passed) c s e in
      elim (or_cases (c == x.other) (list_any (λ j. awaited c j && passed j x.other) (range_with_len 0 WIDTH)) x.leads) [
        | inl same ↦ subst (λ z. Needs cat entries (attempt z) s) (sym (eqb-true c x.other same)) (own_needed x.other s x.is x.owns)
        | inr r ↦
            let y = member_passes (λ j. awaited c j && passed j x.other) (range_with_len 0 WIDTH) r in
            let p = and_parts (awaited c y.0) (passed y.0 x.other) y.2 in
            awaited_sound c y.0 s p.0 (passing_sound y.0 s (leads_so cat passed y.0 s x.other x.is p.1 x.owns))
      ]

  sound : (task : Task) (s : Site) → needed_by cat (begins awaited passed) passed task s ≡ true → Needs cat entries task s
  sound (attempt c) s e = attempt_sound c s e
  sound (passing j) s e = passing_sound j s e

  in_width : (p : ℕ → _) (i : ℕ) → IsClassOf cat i → p i ≡ true → list_any p (range_with_len 0 WIDTH) ≡ true
  in_width p i is e = passes_member p (range_with_len 0 WIDTH) i (Contains-range 0 WIDTH i (omega arith) (let l = below i is in omega arith)) e

  stays : (j : ℕ) → passed j j ≡ true
  stays j = still_related (moves by_wait) WIDTH j j (or_left (j == j) (by_wait j j || is_held by_wait j j) (eq-eqb j j refl))

  waited : (j i : ℕ) → by_wait j i ≡ true → passed j i ≡ true
  waited j i w =
      still_related (moves by_wait) WIDTH j i
      (or_right (j == i) (by_wait j i || is_held by_wait j i) (or_left (by_wait j i) (is_held by_wait j i) w))

  held : (j m reader : ℕ) → by_wait reader j ≡ true → by_wait reader m ≡ true → passed j m ≡ true
  held j m reader a b =
      still_related (moves by_wait) WIDTH j m
      (or_right (j == m) (by_wait j m || is_held by_wait j m)
      (or_right (by_wait j m) (is_held by_wait j m)
      (in_width (λ r. by_wait r j && by_wait r m) reader (waiting_classes cat entries table reader j a).0
      (and_from (by_wait reader j) (by_wait reader m) a b))))

  -- what an attempt awaits its class's passing leads to
  awaited_passes : (j i : ℕ) → awaited j i ≡ true → IsClassOf cat i × (passed j i ≡ true)
  awaited_passes j i e = elim (or_cases (by_wait j i) (is_queued cat by_wait j i) e) [
    | inl w ↦ ((waiting_classes cat entries table j i w).1, waited j i w)
    | inr q ↦
        let x = member_passes (λ r. by_wait r j && (by_wait r i && meets cat j r)) (range_with_len 0 WIDTH) q in
        let p = and_parts (by_wait x.0 j) (by_wait x.0 i && meets cat j x.0) x.2 in
        let n = and_parts (by_wait x.0 i) (meets cat j x.0) p.1 in
        ((waiting_classes cat entries table x.0 i n.0).1, held j i x.0 p.0 n.0)
  ]

  further : (j m : ℕ) (s : Site) → IsClassOf cat m → passed j m ≡ true → needs_by cat passed m s ≡ true → needs_by cat passed j s ≡ true
  further j m s is a e =
      let x = leads_from cat passed m s e in
      leads_so cat passed j s x.other x.is (transitive (moves by_wait) WIDTH j m x.other (below m is) a x.leads) x.owns

  begun_as : (j : ℕ) (s : Site) → needs_by cat (begins awaited passed) j s ≡ true → needs_by cat passed j s ≡ true
  begun_as j s e =
      let x = leads_from cat (begins awaited passed) j s e in
      elim (or_cases (j == x.other) (list_any (λ i. awaited j i && passed i x.other) (range_with_len 0 WIDTH)) x.leads) [
        | inl same ↦ leads_so cat passed j s x.other x.is (subst (λ z. passed j z ≡ true) (eqb-true j x.other same) (stays j)) x.owns
        | inr r ↦
            let y = member_passes (λ i. awaited j i && passed i x.other) (range_with_len 0 WIDTH) r in
            let p = and_parts (awaited j y.0) (passed y.0 x.other) y.2 in
            let way = awaited_passes j y.0 p.0 in
            further j y.0 s way.0 way.1 (leads_so cat passed y.0 s x.other x.is p.1 x.owns)
      ]

  at_itself : (c : ℕ) (s : Site) → IsClassOf cat c → is_own cat c s ≡ true → needs_by cat (begins awaited passed) c s ≡ true
  at_itself c s is owns =
      leads_so cat (begins awaited passed) c s c is
      (or_left (c == c) (list_any (λ j. awaited c j && passed j c) (range_with_len 0 WIDTH)) (eq-eqb c c refl)) owns

  class_number : (c : ℕ) → IsClassOf cat c → is_class cat c ≡ true
  class_number c is = and_from _ _ (le-leb 1 c is.from) (le-leb c (length cat.classes) is.to)

  -- a class that reads where this one does, and waits for it and for a third, keeps its reads behind its own writes
  queued : (c m reader : ℕ) (own other : Read) → Contains (class_at cat c).reads own → Contains (class_at cat reader).reads other → own.at ≡ other.at
      → by_wait reader c ≡ true → by_wait reader m ≡ true → awaited c m ≡ true
  queued c m reader own other a b same w v =
      let here = waiting_classes cat entries table reader c w in
      let one = passes_member (λ (o : Read). o.at.0 == own.at.0) (class_at cat reader).reads other b (eq-eqb other.at.0 own.at.0 (ap (λ (d : DmNo). d.0) (sym same))) in
      let both : read_at_one cat c reader ≡ true =
      passes_member (λ (r : Read). list_any (λ (o : Read). o.at.0 == r.at.0) (class_at cat reader).reads) (class_at cat c).reads own a one in
      let met : meets cat c reader ≡ true =
      and_from (is_class cat c) (is_class cat reader && read_at_one cat c reader) (class_number c here.1)
      (and_from (is_class cat reader) (read_at_one cat c reader) (class_number reader here.0) both) in
      or_right (by_wait c m) (is_queued cat by_wait c m)
      (in_width (λ r. by_wait r c && (by_wait r m && meets cat c r)) reader here.0
      (and_from (by_wait reader c) (by_wait reader m && meets cat c reader) w (and_from (by_wait reader m) (meets cat c reader) v met)))

  begun : (c j : ℕ) (s : Site) → IsClassOf cat j → awaited c j ≡ true → needs_by cat passed j s ≡ true → needs_by cat (begins awaited passed) c s ≡ true
  begun c j s is w e =
      let x = leads_from cat passed j s e in
      leads_so cat (begins awaited passed) c s x.other x.is
      (or_right (c == x.other) (list_any (λ i. awaited c i && passed i x.other) (range_with_len 0 WIDTH))
      (in_width (λ i. awaited c i && passed i x.other) j is (and_from (awaited c j) (passed j x.other) w x.leads)))
      x.owns

  complete : (task : Task) (s : Site) → Needs cat entries task s → needed_by cat (begins awaited passed) passed task s ≡ true
  complete _ _ (runs_at c is) = at_itself c (T (class_at cat c).tm) is (eq-eqb (class_at cat c).tm.0 (class_at cat c).tm.0 refl)
  complete _ _ (reads_at c read is there) =
      at_itself c (D read.at) is
      (passes_member (λ (r : Read). r.at.0 == read.at.0) (class_at cat c).reads read there (eq-eqb read.at.0 read.at.0 refl))
  complete _ _ (waits c j s w h) =
      begun c j s (waiting_classes cat entries table c j w).1 (or_left (by_wait c j) (is_queued cat by_wait c j) w) (complete (passing j) s h)
  complete _ _ (queues c m reader own other s a b same w v h) =
      begun c m s (waiting_classes cat entries table reader m v).1 (queued c m reader own other a b same w v) (complete (passing m) s h)
  complete _ _ (attempts j s h) = begun_as j s (complete (attempt j) s h)
  complete _ _ (holds j m reader s a b h) =
      further j m s (waiting_classes cat entries table reader m b).1 (held j m reader a b) (complete (passing m) s h)

  pub tells_needs : TellsNeeds cat entries (needed_by cat (begins awaited passed) passed)
  tells_needs task s = (sound task s, complete task s)
