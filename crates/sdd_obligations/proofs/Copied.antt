-- The database of an attempt's snapshots has the copies that its modules had at their Answers.
use Rattle.sdd_obligations.proofs.All.{Answer, ArePlaced, AreThere, Attempt, Catalogue, Change, Contains, Contains-range, D, Database, Dated, DmNo, Does, FitsInput, FragNo, Has, Has-filter_map, Has-filter_map_from, Has-flat_map, Has-flat_map_from, Has-map, Has-map_from, HasAnswer, HasCopies, HasEras, Input, IsItemChange, IsPermitted, IsPiece, IsPlaced, IsSoundCatalogue, IsUsed, Item, List, Log, Option, Records, Row, Setting, Some, Txn, Use, active, answered_all, ap, arith, ascending, base_of, before_answer, contains, copies_read, dated, dm_no, each_has, each_of, entry_placed, false, filter_map, flat_map, fragments_in, frags_asked, has_copies, head, home, home_of, if◌then◌else◌, inl, inr, is_over, is_read_at, is_some, items_of, length, local_grows, local_of, map, modules_asked, modules_of, numbers_to, of_has, option_eq, own_act, pipe, reads_at, recursion_from_All, same_number, served_read, setting_of, snapshots_at, some_copy, subst, sym, there_is, to_has, true, use_part, use_there, uses_of, uses_there, ℕ, ◌==◌, ◌∙◌, ◌∷◌, ◌≡◌, ◌≤◌}
use Rattle.sdd_obligations.proofs.EffectsHeld.{HandFits, all_items}
use Rattle.sdd_obligations.proofs.Put.{acts_fit, databases, hands_fit}
use Rattle.sdd_obligations.proofs.ShippedAnswered.{answer_to}
use Rattle.sdd_obligations.proofs.Covered.{Covers, attempt_covered, class_within}
use Rattle.sdd_obligations.proofs.MembersInOrder.{from_order, has_contains, in_order}
use Rattle.sdd_obligations.proofs.Places.{IsAnswerAt}
use Rattle.sdd_obligations.proofs.Snapped.{IsSnapped, MaySnap, each_before_answer, may_snap, snapped}
use Rattle.sdd_obligations.proofs.ReadsFit.{same_option as read_is}
use Rattle.sdd_serving.specs.Freezing.{uses_at}
use Rattle.sdd_invariants.specs.site_module.SiteLog as site

-- where a class reads the fragments of a transaction that it covers

is_read : (o : Option ℕ) (d : ℕ) → o ≡ Some d → option_eq ◌==◌ o (Some d) ≡ true
is_read o d e = subst (λ z. option_eq ◌==◌ z (Some d) ≡ true) (sym e) (same_number d)

some_is : (o : Option ℕ) → is_some o ≡ true → (d : ℕ) × (o ≡ Some d)
some_is o e = grind arith

frag_among : (us : List Use) (u : Use) (f : FragNo) → Has us u → Has u.frags f → Has (fragments_in us) f.0
frag_among us u f h k = Has-flat_map (λ (u : Use). map (λ f. f.0) u.frags) us u f.0 h (Has-map (λ (f : FragNo). f.0) u.frags f k)

frag_there : (cat : Catalogue) (txn : Txn) (u : Use) (f : FragNo) → Has (uses_of cat txn) u → Has u.frags f → (1 ≤ f.0) × (f.0 ≤ length cat.fragments)
frag_there cat txn u f h k =
    each_of (λ (f : FragNo). (1 ≤ f.0) × (f.0 ≤ length cat.fragments)) u.frags f
    (recursion_from_All (λ (f : FragNo). (1 ≤ f.0) × (f.0 ≤ length cat.fragments)) u.frags
    (each_of (λ (u : Use). AreThere cat u.frags) (uses_of cat txn) u
    (recursion_from_All (λ (u : Use). AreThere cat u.frags) (uses_of cat txn) (uses_there cat txn)) h)) k

reads_somewhere : (cat : Catalogue) → IsSoundCatalogue cat → (c : ℕ) (txn : Txn) → Covers cat c txn
    → (u : Use) (f : FragNo) → Has (uses_of cat txn) u → Has u.frags f → (d : ℕ) × (reads_at cat c f.0 ≡ Some d)
reads_somewhere cat sound c txn (inl z) u f h k =
    let there = frag_there cat txn u f h k in
    subst (λ j. (d : ℕ) × (reads_at cat j f.0 ≡ Some d)) (sym z) (some_copy cat sound f.0 there.0 there.1)
reads_somewhere cat sound c txn (inr cov) u f h k = grind (arith, some_is, cat, has_contains, frag_among)

-- the module is there, and is asked
pub module_there : (cat : Catalogue) → IsSoundCatalogue cat → (c : ℕ) (txn : Txn) → Covers cat c txn
    → (u : Use) (f : FragNo) (d : ℕ) → Has (uses_of cat txn) u → Has u.frags f → reads_at cat c f.0 ≡ Some d → (1 ≤ d) × (d ≤ cat.dms)
module_there cat sound c txn cov u f d h k e =
    let there = frag_there cat txn u f h k in
    let s = served_read cat c f.0 d sound (class_within cat c txn cov) there.0 there.1 e in
    (s.module_from, s.module_to)

module_in : (cat : Catalogue) (d : ℕ) → (1 ≤ d) × (d ≤ cat.dms) → Has (numbers_to cat.dms) d
module_in cat d within = grind (arith, to_has, Contains-range)

module_asked : (cat : Catalogue) → IsSoundCatalogue cat → (c : ℕ) (txn : Txn) → Covers cat c txn
    → (u : Use) (f : FragNo) (d : ℕ) → Has (uses_of cat txn) u → Has u.frags f → reads_at cat c f.0 ≡ Some d
    → Has (modules_of cat c (ascending (fragments_in (uses_of cat txn)))) d
module_asked cat sound c txn cov u f d h k e =
    let frags : List ℕ = ascending (fragments_in (uses_of cat txn)) in
    elim (c == 0) as (λ b. Has (if b then numbers_to cat.dms else ascending (filter_map (reads_at cat c) frags)) d) [
      | true ↦ module_in cat d (module_there cat sound c txn cov u f d h k e)
      | false ↦ in_order (filter_map (reads_at cat c) frags) d (Has-filter_map (reads_at cat c) frags f.0 d
          (in_order (fragments_in (uses_of cat txn)) f.0 (frag_among (uses_of cat txn) u f h k)) e)
    ]

-- what a READ asks

asked_frag : (cat : Catalogue) (c d : ℕ) (txn : Txn) (u : Use) (f : FragNo) → Has (uses_of cat txn) u
    → Has u.frags f → is_read_at cat c d f.0 ≡ true → Has (ascending (fragments_in (uses_at cat c txn d)))
    f.0
asked_frag cat c d txn u f h k t =
    let p = use_part cat c d u f k t in
    in_order (fragments_in (uses_at cat c txn d)) f.0 (frag_among (uses_at cat c txn d) p.0 f
    (Has-filter_map (use_there cat c d) (uses_of cat txn) u p.0 h p.1) p.2)

-- and back
frag_asked : (cat : Catalogue) (c d : ℕ) (txn : Txn) (f : ℕ)
    → Has (ascending (fragments_in (uses_at cat c txn d))) f → IsUsed cat txn f × (is_read_at cat c d f ≡ true)
frag_asked cat c d txn f h = grind (arith, Has-flat_map_from, from_order, Has-map_from, Has-filter_map_from, there_is)

-- the places of changes

item_placed : (cat : Catalogue) → IsSoundCatalogue cat → (c : Change) → IsItemChange cat c → IsPlaced cat c
item_placed cat sound c h = grind (arith, entry_placed)

-- an Answer of the attempt, in the log of its module
answer_at : (g : Input) (log : Log) (d : DmNo) (c : ℕ) (a : Attempt) → HasAnswer g log d c a → IsAnswerAt a.ts (local_of g (D d) log)
answer_at g log d c a h =
    let x = local_grows g (D d) h.later (Does (D d) (Records c (Answer h.txn h.attempt (home_of (setting_of g (D d))).dm) h.sends) ∷ h.before) in
    grind (arith, own_act, same_number)

module _ (g : Input) (good : FitsInput g) (eras : HasEras g) (c : ℕ) (log : Log) (a : Attempt) (h : IsPermitted g log)
    (is : active (setting_of g (home g.catalogue c)) c (local_of g (home g.catalogue c) log) ≡ Some a) (over : is_over a.exchange.phase ≡ true) where
  abbrev cat : Catalogue
  cat = g.catalogue

  abbrev set : ℕ → Setting
  set d = setting_of g (D (dm_no d))

  abbrev own : ℕ → site.Log
  own d = local_of g (D (dm_no d)) log

  abbrev made_of : ℕ → Dated
  made_of d = dated (set d) (before_answer a.ts (own d))

  abbrev pieces : Database
  pieces = flat_map (snapshots_at g log a.ts) (numbers_to cat.dms)

  cover : Covers cat c a.text
  cover = attempt_covered g eras c log a h is

  placed : (d : ℕ) → ArePlaced cat (made_of d)
  placed d x there =
      let fit = each_before_answer (HandFits cat d) a.ts (own d) (hands_fit g (dm_no d) log h (acts_fit g good log h)) in
      item_placed cat good.sound x.1 (each_has (λ (x : ℕ × Change). IsItemChange cat x.1) (made_of d) x
      (all_items (set d) good.sound (good.rows (dm_no d)) d (before_answer a.ts (own d)) fit) there)

  place : (u : Use) (f : FragNo) → Has (uses_of cat a.text) u → Has u.frags f → (d : ℕ)
      × Has (modules_asked (setting_of g (home cat c)) c a.text) d × (is_read_at cat c d f.0 ≡ true)
  place u f h k =
      let r = reads_somewhere cat good.sound c a.text cover u f h k in
      (r.0, module_asked cat good.sound c a.text cover u f r.0 h k r.1, is_read (reads_at cat c f.0) r.0 r.1)

  -- each piece is read
  each : (e : Item × Row) → IsPiece cat c a.text made_of e → Contains pieces e
  each e p =
      let d : ℕ = p.module_no in
      let u : IsUsed cat a.text p.frag = p.used in
      let reads : reads_at cat c u.frag.0 ≡ Some d = ap (reads_at cat c) u.number ∙ read_is (reads_at cat c p.frag) d p.read in
      let asked : contains (modules_asked (setting_of g (home cat c)) c a.text) d ≡ true =
      has_contains (modules_asked (setting_of g (home cat c)) c a.text) d
      (module_asked cat good.sound c a.text cover u.usage u.frag d u.there u.among reads) in
      let x : IsAnswerAt a.ts (own d) = answer_at g log (dm_no d) c a (answered_all g c log a (dm_no d) h is over asked) in
      let s : IsSnapped (set d) a.ts (own d) = snapped (set d) a.ts (own d) x in
      let to = answer_to g good.sound c (class_within cat c a.text cover) log a (dm_no d) h is s.answer in
      let frag : Has (ascending (fragments_in (uses_at cat c a.text d))) p.frag =
      subst (Has (ascending (fragments_in (uses_at cat c a.text d)))) u.number
      (asked_frag cat c d a.text u.usage u.frag u.there u.among (is_read (reads_at cat c u.frag.0) d reads)) in
      let first : Has (frags_asked (head (pipe s.answer.class s.answer.before))) p.frag =
      subst (λ fs. Has fs p.frag) (grind (arith, ascending, fragments_in, head, pipe)) frag in
      let there : Has (items_of cat (dated (set d) s.answer.before) p.frag) e =
      subst (λ l. Has (items_of cat (dated (set d) l) p.frag) e) s.before_is (to_has (items_of cat (made_of d) p.frag) e p.there) in
      let read : Has (snapshots_at g log a.ts d) e =
      subst (λ es. Has es e) (sym s.is) (Has-flat_map (items_of cat (dated (set d) s.answer.before))
      (frags_asked (head (pipe s.answer.class s.answer.before))) p.frag e first there) in
      of_has pieces e (Has-flat_map (snapshots_at g log a.ts) (numbers_to cat.dms) d e
      (module_in cat d (module_there cat good.sound c a.text cover u.usage u.frag d u.there u.among
      reads)) read)

  -- and nothing else
  piece_by : (d : ℕ) (e : Item × Row) → MaySnap (set d) a.ts (own d) → Has (snapshots_at g log a.ts d) e → IsPiece cat c a.text made_of e
  piece_by d e (inl none) there = absurd (subst (λ es. Has es e) none there)
  piece_by d e (inr s) there =
      let to = answer_to g good.sound c (class_within cat c a.text cover) log a (dm_no d) h is s.answer in
      let q = Has-flat_map_from (items_of cat (dated (set d) s.answer.before))
      (frags_asked (head (pipe s.answer.class s.answer.before))) e (subst (λ es. Has es e) s.is there) in
      let f = frag_asked cat c d a.text q.0
      (subst (λ fs. Has fs q.0) ((grind arith) ∙ ap (λ us. ascending (fragments_in us)) to.uses_are) q.1) in
      record {
        frag = q.0;
        module_no = d;
        used = f.0;
        read = f.1;
        there = of_has (items_of cat (made_of d) q.0) e (subst (λ l. Has (items_of cat (dated (set d) l) q.0) e) (sym s.before_is) q.2);
      }

  of : (e : Item × Row) → Contains pieces e → IsPiece cat c a.text made_of e
  of e there =
      let p = Has-flat_map_from (snapshots_at g log a.ts) (numbers_to cat.dms) e (to_has pieces e there) in
      piece_by p.0 e (may_snap (set p.0) a.ts (own p.0)) p.2

  pub copies_are : HasCopies cat c a.text (modules_asked (setting_of g (home cat c)) c a.text) (copies_read g log a.ts) (base_of g log a.ts)
  copies_are = has_copies cat c a.text (modules_asked (setting_of g (home cat c)) c a.text) made_of placed place pieces each of (databases g good log h a.ts)
