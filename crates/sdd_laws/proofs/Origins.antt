-- Where the dated changes of copies come from; and so that each names its item's fragment, and those of one item with
-- one date leave one row.
use Rattle.sdd_laws.proofs.All.{ArePlaced, AreWriters, Catalogue, Change, Contains, Contains-append_cases, Contains-append_left, Contains-append_right, Database, DatesDiffer, IsDatabase, IsPlaced, IsSoundCatalogue, Item, LeaveOneRow, List, Row, Writers, all_dated, ap, arith, changes_of, dated, entry_placed, first_row, fragment_at, fragment_of, inl, inr, item_cmp, item_cmp_exact, item_cmp_total, item_of, map, subst, sym, ℕ, ◌∙◌, ◌≡◌}
use Rattle.sdd_laws.proofs.LookUps.{one_entry}
use Rattle.sdd_laws.proofs.Members.{Contains-map, Contains-from_map, Contains-flat_map, Contains-from_flat_map}

-- an entry of a database lies in a fragment of its relation
pub entry_lies : (cat : Catalogue) → IsSoundCatalogue cat → (db : Database) → IsDatabase cat db → (e : Item × Row)
    → Contains db e → (fragment_at cat (fragment_of cat e.0.0 e.0.1)).rel.0 ≡ e.0.0
entry_lies cat sound db is e h = grind (arith, entry_placed)

module _ {T : Type 0} (cat : Catalogue) (first : Database) (w : Writers T) where
  pub data Origin (txns : List T) (x : ℕ × Change) : Type 0 where
    initial : (e : Item × Row) → Contains first e → x ≡ first_row cat e → Origin txns x
    made : (t : T) → Contains txns t → (c : Change) → Contains (w.changes t) c → x ≡ (w.ts t, c) → Origin txns x

  pub origin : (txns : List T) (x : ℕ × Change) → Contains (all_dated cat first w txns) x → Origin txns x
  origin txns x h =
      elim (Contains-append_cases (map (first_row cat) first) (changes_of w txns) x h) [
        | inl a ↦ let m = Contains-from_map (first_row cat) first x a in initial m.0 m.1 m.2
        | inr b ↦
            let t = Contains-from_flat_map (λ x. dated (w.ts x) (w.changes x)) txns x b in
            let m = Contains-from_map (λ c. (w.ts t.0, c)) (w.changes t.0) x t.2 in
            made t.0 t.1 m.0 m.1 m.2
      ]

  pub from_origin : (txns : List T) (x : ℕ × Change) → Origin txns x → Contains (all_dated cat first w txns) x
  from_origin txns x (initial e h same) =
      subst (Contains (all_dated cat first w txns)) (sym same)
      (Contains-append_left (map (first_row cat) first) (changes_of w txns) (first_row cat e)
      (Contains-map (first_row cat) first e h))
  from_origin txns x (made t h c k same) =
      subst (Contains (all_dated cat first w txns)) (sym same)
      (Contains-append_right (map (first_row cat) first) (changes_of w txns) (w.ts t, c)
      (Contains-flat_map (λ x. dated (w.ts x) (w.changes x)) txns t (w.ts t, c) h
      (Contains-map (λ c. (w.ts t, c)) (w.changes t) c k)))

  -- what transactions changed, more have changed
  pub more_origins : (few many : List T) (x : ℕ × Change) → ((t : T) → Contains few t → Contains many t)
      → Origin few x → Origin many x
  more_origins few many x within (initial e h same) = initial e h same
  more_origins few many x within (made t h c k same) = made t (within t h) c k same

  module _ (sound : IsSoundCatalogue cat) (is : IsDatabase cat first) where
    pub first_item : (e : Item × Row) → Contains first e → item_of cat (first_row cat e).1 ≡ e.0
    first_item e h = ap (λ r. (r, e.0.1)) (entry_lies cat sound first is e h)

    module _ (commits : List T) (writers : AreWriters cat w commits) (txns : List T) (within : (t : T) → Contains txns t → Contains commits t) where
      pub all_placed : ArePlaced cat (all_dated cat first w txns)
      all_placed x h =
          elim (origin txns x h) [
            | initial e there same ↦
                grind (arith, fragment_of, first_item)
            | made t there c k same ↦
                subst (λ (z : ℕ × Change). IsPlaced cat z.1) (sym same) (writers.placed t (within t there) c k)
          ]

      -- two of one item and one date are one
      one_origin : (x y : ℕ × Change) → Origin txns x → Origin txns y → item_of cat x.1 ≡ item_of cat y.1 → x.0 ≡ y.0 → x ≡ y
      one_origin x y (initial d h p) (initial e k q) i t =
          let at : d.0 ≡ e.0 =
          sym (first_item d h) ∙ ap (λ (z : ℕ × Change). item_of cat z.1) (sym p) ∙ i
          ∙ ap (λ (z : ℕ × Change). item_of cat z.1) q ∙ first_item e k in
          let rows : d.1 ≡ e.1 =
          one_entry item_cmp item_cmp_total item_cmp_exact first e.0 d.1 e.1 is.ascends
          (subst (λ j. Contains first (j, d.1)) at h) k in
          p ∙ ap (first_row cat) (ap (λ j. (j, d.1)) at ∙ ap (λ r. (e.0, r)) rows) ∙ sym q
      one_origin x y (initial d h p) (made u k c m q) i t = grind arith
      one_origin x y (made u k c m q) (initial d h p) i t = grind arith
      one_origin x y (made u h c m p) (made v k d n q) i t =
          let times : w.ts u ≡ w.ts v = ap (λ (z : ℕ × Change). z.0) (sym p) ∙ t ∙ ap (λ (z : ℕ × Change). z.0) q in
          let items : item_of cat c ≡ item_of cat d =
          ap (λ (z : ℕ × Change). item_of cat z.1) (sym p) ∙ i ∙ ap (λ (z : ℕ × Change). item_of cat z.1) q in
          let same : c ≡ d =
          writers.once v (within v k) c d (subst (λ z. Contains z c) (writers.one_time u v (within u h) (within v k) times) m) n items in
          p ∙ ap (λ z. (z, c)) times ∙ ap (λ z. (w.ts v, z)) same ∙ sym q

      pub all_leave_one_row : LeaveOneRow cat (all_dated cat first w txns)
      all_leave_one_row x y h k i t = ap (λ (z : ℕ × Change). z.1.row) (one_origin x y (origin txns x h) (origin txns y k) i t)

      pub dates_differ : DatesDiffer (all_dated cat first w txns)
      dates_differ x y h k f i t =
          one_origin x y (origin txns x h) (origin txns y k)
          (ap (λ n. ((fragment_at cat n).rel.0, x.1.key)) f ∙ ap (λ i. ((fragment_at cat y.1.frag.0).rel.0, i)) i) t
