-- So the copy of a fragment at a module that has one is that which the history gives.
use Rattle.sdd_lawful.proofs.All.{AreErasOf, AreMade, Bool, Catalogue, Change, Committed, Contains, Contains-append_cases, Contains-append_left, Contains-append_right, Contains-filter, Contains-flat_map, Contains-from_filter, Contains-from_flat_map, Contains-from_map, Contains-map, D, Database, Dated, DatesDiffer, Eras, HasSoundData, Input, IsDatabase, IsEntry, IsMadeAt, IsPermitted, IsSoundCatalogue, Item, List, Log, Option, Rec, RelNo, Row, SiteLog, [], ap, applied, applied_till, arith, before_applied, change_of, committed, contents, database_of, dated, dm_no, each_has, effect_made, entry_placed, eqb-true, filter, first_row, flat_map, fragment_at, fragment_of, from_committed, has_copy, history, in_committed, inl, inr, item_cmp, item_cmp_exact, item_cmp_total, length, local_of, map, of_fragment, one_entry, order_tells_nothing, recursion_from_All, refl, rows_left, rows_make_database, same_start, setting_of, sorted_nil, subst, suc, sym, true, true_or_false, ℕ, ◌==◌, ◌∙◌, ◌∷◌, ◌≡◌, ◌≤◌, ◌⊎◌}
use Rattle.sdd_lawful.proofs.Beginnings.{in_numbers}
use Rattle.sdd_lawful.proofs.Committed.{committed_in, one_place, same_committed}
use Rattle.sdd_lawful.proofs.Conditions.{member_of}
use Rattle.sdd_lawful.proofs.Copied.{IsChangeOf, applied_from, apply_is, at_date, change_of as change_in, change_there}
use Rattle.sdd_lawful.proofs.Started.{start_in}
use Rattle.sdd_lawful.proofs.Starts.{one_time, start_within}
use Rattle.sdd_lawful.proofs.Touched.{copy_module}
use Rattle.sdd_invariants.specs.dm.Copies.{classes_of}
use Rattle.sdd_laws.specs.Snapshots as laws

-- the changes of one transaction differ in their fragments or keys
abbrev entry_with : Item → Option Row → Item × Option Row
entry_with i row = (i, row)

one_change : (changes : List Change) → AreMade changes → (c e : Change) → Contains changes c → Contains changes e → c.frag.0 ≡ e.frag.0 → c.key ≡ e.key → c ≡ e
one_change changes made c e h k f g =
    let x = Contains-from_map change_of made.changed c (subst (λ l. Contains l c) made.are h) in
    let y = Contains-from_map change_of made.changed e (subst (λ l. Contains l e) made.are k) in
    let cx : c ≡ change_of x.0 = x.2 in
    let ey : e ≡ change_of y.0 = y.2 in
    let fst : x.0.0.0 ≡ y.0.0.0 = ap (λ (z : Change). z.frag.0) (sym cx) ∙ f ∙ ap (λ (z : Change). z.frag.0) ey in
    let snd : x.0.0.1 ≡ y.0.0.1 = ap (λ (z : Change). z.key) (sym cx) ∙ g ∙ ap (λ (z : Change). z.key) ey in
    let item : x.0.0 ≡ y.0.0 = λ i. (fst i, snd i) in
    let row : x.0.1 ≡ y.0.1 = one_entry item_cmp item_cmp_total item_cmp_exact made.changed y.0.0 x.0.1 y.0.1 made.ascend
    (subst (λ i. Contains made.changed (entry_with i x.0.1)) item x.1) y.1 in
    cx ∙ (λ i. change_of (item i, row i)) ∙ sym ey

filter_twice : {A : Type 0} (p : A → Bool) (xs : List A) → filter p (filter p xs) ≡ filter p xs
filter_twice p [] = refl
filter_twice p (x ∷ xs) = grind (arith, true_or_false, filter_twice p xs)

module _ (g : Input) (rows : List (RelNo × Row)) (eras : Eras) (log : Log) (sound : IsSoundCatalogue g.catalogue) (fine : HasSoundData g rows)
    (h : IsPermitted g log) (are : AreErasOf g log eras) (d k : ℕ) (q : Rec) (m : IsMadeAt log k q) (f : ℕ) (copied : has_copy g.catalogue d f ≡ true) where
  abbrev cat : Catalogue
  cat = g.catalogue

  abbrev here : SiteLog
  here = local_of g (D (dm_no d)) m.before

  abbrev ours : Dated
  ours = of_fragment f (dated (setting_of g (D (dm_no d))) here)

  abbrev theirs : Dated
  theirs = of_fragment f (laws.dated_at cat rows (history log) d k)

  abbrev begins : Database
  begins = database_of cat rows

  -- of the module's own log
  own_kind : (x : ℕ × Change) → Contains ours x → (Contains (map (first_row cat) begins) x ⊎ IsChangeOf g log d k x) × ((x.1.frag.0 == f) ≡ true)
  own_kind x c =
      let p = Contains-from_filter (λ (y : ℕ × Change). y.1.frag.0 == f) (dated (setting_of g (D (dm_no d))) here) x c in (
        elim (Contains-append_cases (map (first_row cat) (database_of cat (setting_of g (D (dm_no d))).rows))
            (flat_map (λ c. applied c here) (classes_of (setting_of g (D (dm_no d))))) x p.0) [
              | inl i ↦ inl (subst (λ l. Contains l x) (ap (λ r. map (first_row cat) (database_of cat r)) (fine.alike d (copy_module cat sound d f copied))) i)
              | inr i ↦ inr (let r = Contains-from_flat_map (λ c. applied c here) (classes_of (setting_of g (D (dm_no d)))) x i in
                  let a = applied_from r.0 here x r.2 in change_in g log d k q m r.0 x sound h a (apply_is a.rec a.applies))
            ],
        p.1,
      )

  forth : (x : ℕ × Change) → Contains ours x → Contains theirs x
  forth x c =
      let w = own_kind x c in
      Contains-filter (λ (y : ℕ × Change). y.1.frag.0 == f) (laws.dated_at cat rows (history log) d k) x (elim w.0 [
        | inl i ↦ Contains-append_left (laws.first_rows cat rows) _ x i
        | inr i ↦ Contains-append_right (laws.first_rows cat rows) _ x
            (let one : Contains (committed (history log)) i.writer = in_committed (history log) (one_place g log sound h) i.writer i.is_committed in
            let kept = Contains-filter (λ (t : Committed). laws.is_applied (history log) d k t.start.txn) (committed (history log)) i.writer one
            (before_applied (history log) i.writer.start.txn d k i.applied) in
            let date = Contains-map (λ c. at_date i.writer.start.ts c) i.writer.changes x.1 i.change in
            let is : at_date i.writer.start.ts x.1 ≡ x = ap (λ t. at_date t x.1) (sym i.date_is) in
            Contains-flat_map laws.dated (filter (λ (t : Committed). laws.is_applied (history log) d k t.start.txn) (committed (history log))) i.writer x kept
            (subst (Contains (laws.dated i.writer)) is date))
      ]) w.1

  back : (x : ℕ × Change) → Contains theirs x → Contains ours x
  back x c =
      let p = Contains-from_filter (λ (y : ℕ × Change). y.1.frag.0 == f) (laws.dated_at cat rows (history log) d k) x c in
      Contains-filter (λ (y : ℕ × Change). y.1.frag.0 == f) (dated (setting_of g (D (dm_no d))) here) x
      (elim (Contains-append_cases (laws.first_rows cat rows)
      (flat_map laws.dated (filter (λ (t : Committed). laws.is_applied (history log) d k t.start.txn) (committed (history log)))) x p.0) [
        | inl i ↦ Contains-append_left (map (first_row cat) (database_of cat (setting_of g (D (dm_no d))).rows)) _ x
            (subst (λ l. Contains l x) (sym (ap (λ r. map (first_row cat) (database_of cat r)) (fine.alike d (copy_module cat sound d f copied)))) i)
        | inr i ↦ Contains-append_right (map (first_row cat) (database_of cat (setting_of g (D (dm_no d))).rows)) _ x
            (let r = Contains-from_flat_map laws.dated (filter (λ (t : Committed). laws.is_applied (history log) d k t.start.txn) (committed (history log))) x i in
            let t : Committed = r.0 in
            let kept = Contains-from_filter (λ (t : Committed). laws.is_applied (history log) d k t.start.txn) (committed (history log)) t r.1 in
            let ct = from_committed (history log) t kept.0 in
            let y = Contains-from_map (λ c. at_date t.start.ts c) t.changes x r.2 in
            let frag : y.0.frag.0 ≡ f = ap (λ (z : ℕ × Change). z.1.frag.0) (sym y.2) ∙ eqb-true x.1.frag.0 f p.1 in
            let there = change_there g log d k q m t y.0 sound h ct (applied_till (history log) t.start.txn d k kept.1) y.1
            (ap (has_copy cat d) frag ∙ copied) in
            let few = start_within g log eras t.start are (start_in g log t.start sound h ct.started) in
            let n = in_numbers 0 (suc (length cat.classes)) t.start.class (omega arith) (omega arith) in
            Contains-flat_map (λ c. applied c here) (classes_of (setting_of g (D (dm_no d)))) t.start.class x
            (member_of (classes_of (setting_of g (D (dm_no d)))) n.0 t.start.class n.1) (subst (Contains (applied t.start.class here)) (sym y.2) there))
      ]) p.1

  -- two with one date, fragment and key are one

  sorted_rows : IsDatabase cat begins
  sorted_rows = rows_make_database cat rows fine.rows_fit fine.rows_held

  both_first : (x y : ℕ × Change) → Contains (map (first_row cat) begins) x → Contains (map (first_row cat) begins) y → x.1.frag.0 ≡ y.1.frag.0
      → x.1.key ≡ y.1.key → x ≡ y
  both_first x y a b e k =
      let u = Contains-from_map (first_row cat) begins x a in
      let v = Contains-from_map (first_row cat) begins y b in
      let eu : IsEntry cat u.0 = each_has (IsEntry cat) begins u.0 (recursion_from_All (IsEntry cat) begins sorted_rows.entries) u.1 in
      let ev : IsEntry cat v.0 = each_has (IsEntry cat) begins v.0 (recursion_from_All (IsEntry cat) begins sorted_rows.entries) v.1 in
      let key : u.0.0.1 ≡ v.0.0.1 = ap (λ (z : ℕ × Change). z.1.key) (sym u.2) ∙ k ∙ ap (λ (z : ℕ × Change). z.1.key) v.2 in
      let frag : fragment_of cat u.0.0.0 u.0.0.1 ≡ fragment_of cat v.0.0.0 v.0.0.1 = ap (λ (z : ℕ × Change). z.1.frag.0) (sym u.2) ∙ e
      ∙ ap (λ (z : ℕ × Change). z.1.frag.0) v.2 in
      let rel : u.0.0.0 ≡ v.0.0.0 = sym (entry_placed cat sound u.0.0.0 u.0.0.1 eu.relation eu.key_held) ∙ ap (λ n. (fragment_at cat n).rel.0) frag
      ∙ entry_placed cat sound v.0.0.0 v.0.0.1 ev.relation ev.key_held in
      let item : u.0.0 ≡ v.0.0 = λ i. (rel i, key i) in
      let row : u.0.1 ≡ v.0.1 = one_entry item_cmp item_cmp_total item_cmp_exact begins v.0.0 u.0.1 v.0.1 sorted_rows.ascends
      (subst (λ i. Contains begins (i, u.0.1)) item u.1) v.1 in
      u.2 ∙ (λ i. first_row cat (item i, row i)) ∙ sym v.2

  later_date : (x : ℕ × Change) → IsChangeOf g log d k x → 1 ≤ x.0
  later_date x i = let s = start_in g log i.writer.start sound h i.is_committed.started in let p = s.says.p2_below in let e = i.date_is in omega arith

  both_later : (x y : ℕ × Change) → IsChangeOf g log d k x → IsChangeOf g log d k y → x.1.frag.0 ≡ y.1.frag.0 → x.1.key ≡ y.1.key → x.0 ≡ y.0 → x ≡ y
  both_later x y i j e kk t =
      let ts : i.writer.start.ts ≡ j.writer.start.ts = sym i.date_is ∙ t ∙ j.date_is in
      let place = one_time g log eras sound h are i.writer.start j.writer.start i.is_committed.started j.is_committed.started ts in
      let txn = (same_start (history log) i.writer.start j.writer.start i.is_committed.started j.is_committed.started place).txn in
      let one = same_committed g log sound h i.writer j.writer i.is_committed j.is_committed txn in
      let c = committed_in g log j.writer sound h j.is_committed in
      let made : AreMade j.writer.changes = subst AreMade (sym c.changes_are)
      (effect_made cat (c.bases c.running.ts) c.running.text.statements [] [] (sorted_nil item_cmp)) in
      let change = one_change j.writer.changes made x.1 y.1 (subst (λ (z : Committed). Contains z.changes x.1) one i.change) j.change e kk in
      λ n. (t n, change n)

  differ : DatesDiffer ours
  differ x y a b e kk t = elim (own_kind x a).0 [
    | inl i ↦ elim (own_kind y b).0 [
      | inl j ↦ both_first x y i j e kk
      | inr j ↦ absurd (let z = (ap (λ (z : ℕ × Change). z.0) (Contains-from_map (first_row cat) begins x i).2) in let w = later_date y j in omega arith)
    ]
    | inr i ↦ elim (own_kind y b).0 [
      | inl j ↦ absurd (let z = (ap (λ (z : ℕ × Change). z.0) (Contains-from_map (first_row cat) begins y j).2) in let w = later_date x i in omega arith)
      | inr j ↦ both_later x y i j e kk t
    ]
  ]

  pub same_copy : contents f (dated (setting_of g (D (dm_no d))) here) ≡ laws.copy_at cat rows (history log) d k f
  same_copy =
      ap rows_left (sym (filter_twice (λ (y : ℕ × Change). y.1.frag.0 == f) (dated (setting_of g (D (dm_no d))) here)))
      ∙ order_tells_nothing f ours theirs differ (λ x. (forth x, back x))
      ∙ ap rows_left (filter_twice (λ (y : ℕ × Change). y.1.frag.0 == f) (laws.dated_at cat rows (history log) d k))
