-- What a committed transaction replies and changes is its effect on the database of its snapshots, as the history gives it.
use Rattle.sdd_lawful.proofs.All.{AreErasOf, ArePlaced, Attempt, Bool, Catalogue, Change, Committed, Contains, Contains-flat_map, Contains-from_flat_map, Contains-nil, D, Database, Did, Does, Effect, Eras, HasSoundData, History, Input, IsAnswered, IsCommitted, IsModule, IsPermitted, IsRecordAt, IsSoundCatalogue, IsStrictlySortedBy, Item, KeepsAnswers, List, Log, Rec, Records, RelNo, Row, Running, SiteLog, Some, Txn, [], answer_passes, ap, append_assoc, arith, ascending, by_use, commit_act, dated, dm_no, each_has, effect, entries_ascend, entry_placed, eqb-true, filter_map, flat_map, fold, fragment_at, fragment_of, fragments_in, from_ascending, gathered_from, gathered_sorted, gathered_there, has_copy, head, history, home, in_ascending, inl, inr, is_answer, is_answered, item_cmp, item_cmp_exact, item_cmp_total, keys_of, lies_there, local_of, module_of, number_member, numbers_to, one_active, one_entry, option_eq, pipe, position_or_len, reads, reads_at, reads_there, refl, same_members, same_number, setting_of, sorted_nil, subst, suc, sym, true, true_or_false, txn_at, txn_no, use_there, zero, ℕ, ◌++◌, ◌<◌, ◌==◌, ◌∙◌, ◌∷◌, ◌≡◌}
use Rattle.sdd_lawful.proofs.Answered.{IsAnswerIn, answer_in, answer_made, answer_rec}
use Rattle.sdd_lawful.proofs.OneAnswerEach.{answer_after, answered, commit_after, one_answer}
use Rattle.sdd_lawful.proofs.Asks.{read_there, there_read}
use Rattle.sdd_lawful.proofs.Beginnings.{in_numbers}
use Rattle.sdd_lawful.proofs.Classes.{at_home, home_setting, text_one as text_same}
use Rattle.sdd_lawful.proofs.Committed.{IsCommittedIn, committed_in, committed_made}
use Rattle.sdd_lawful.proofs.Conditions.{member_of}
use Rattle.sdd_lawful.proofs.Places.{entries_in_order}
use Rattle.sdd_lawful.proofs.SameCopies.{same_copy}
use Rattle.sdd_lawful.proofs.Snapshots.{HasSnapshot, IsTheAnswer, snapshot_or, the_answer}
use Rattle.sdd_lawful.proofs.Started.{act_local}
use Rattle.sdd_lawful.proofs.Starts.{keeps_starts}
use Rattle.sdd_lawful.proofs.Valid.{AllValidAt, IsValid, all_begin, applies_valid, base_is, commits_valid, dated_valid, home_runs}
use Rattle.sdd_invariants.specs.logs.Snapshots as log_base
use Rattle.sdd_laws.specs.Snapshots as laws

-- the place of a record that alone passes a test
first_place : (p : Rec → Bool) (h : History) (k : ℕ) (r : Rec) → IsRecordAt h k r → p r ≡ true
    → ((j : ℕ) (s : Rec) → IsRecordAt h j s → p s ≡ true → j ≡ k) → position_or_len (λ e. p e.1) h ≡ k
first_place p [] k r s t one = cc
first_place p (x ∷ h) zero r s t one = grind arith
first_place p (x ∷ h) (suc k) r s t one = elim (true_or_false (p x.1)) [
  | inl e ↦ absurd (let z = one 0 x.1 refl e in omega arith)
  | inr e ↦ (let i = first_place p h k r s t (λ j q a b. let w = one (suc j) q a b in omega arith) in rw e (omega arith))
]

-- the Answer of a committed attempt at the module where it reads a fragment
pub record IsSeen (g : Input) (log : Log) (t : Committed) (f d : ℕ) : Type 0 where
  pub place : ℕ
  pub module_is : module_of g.catalogue t.start.class f ≡ d
  pub read : reads_at g.catalogue t.start.class f ≡ Some d
  pub is_module : IsModule g.catalogue d
  pub copied : has_copy g.catalogue d f ≡ true
  pub answered : IsAnswered (history log) t.start d place
  pub before : place < t.place
  pub place_is : laws.answer_place (history log) t.start d ≡ place

module _ (g : Input) (rows : List (RelNo × Row)) (eras : Eras) (log : Log) (sound : IsSoundCatalogue g.catalogue) (fine : HasSoundData g rows)
    (h : IsPermitted g log) (are : AreErasOf g log eras) (t : Committed) (ct : IsCommitted (history log) t) where
  abbrev cat : Catalogue
  cat = g.catalogue

  abbrev a : Attempt
  a = t.start

  seen : (f : ℕ) → reads a f ≡ true → IsSeen g log t f (module_of cat a.class f)
  seen f rd =
      let r = reads_there cat sound eras are.are_eras g.txns (history log) (keeps_starts g log eras sound h are) a f ct.started rd in
      let d : ℕ = module_of cat a.class f in
      let b = answered g log sound h t d ct (by_use f rd r.read) in
      record {
        place = b.place;
        module_is = refl;
        read = r.read;
        is_module = r.is_module;
        copied = r.copy;
        answered = b.answered;
        before = b.before;
        place_is = first_place (is_answer a.txn a.number d) (history log) b.place (answer_rec a d) b.answered (answer_passes a.txn a.number d)
            (λ j s st p. one_answer g log sound h a.txn a.number d j b.place (is_answered (history log) a.txn a.number d j s st p) b.answered);
      }

  -- the entries of the copy of a fragment that it read
  abbrev piece : ℕ → Database
  piece f = laws.items_of cat f (laws.snapshot cat rows (history log) a f)

  answer_is : (d k : ℕ) → IsAnswered (history log) a d k → IsAnswerIn g log a d k
  answer_is d k s = answer_in g log a d k sound h ct.started s

  -- as the module's log gives it at an Answer
  piece_is : (f d k : ℕ) (x : IsSeen g log t f d) (s : IsAnswered (history log) a d k)
      → piece f ≡ log_base.items_of cat (dated (setting_of g (D (dm_no d))) (local_of g (D (dm_no d)) (answer_is d k s).before)) f
  piece_is f d k x s =
      let place : k ≡ x.place = one_answer g log sound h a.txn a.number d k x.place s x.answered in
      let w = answer_is d k s in
      let copy = same_copy g rows eras log sound fine h are d k (answer_rec a d) (answer_made g log a d k w) f x.copied in
      let theirs : laws.snapshot cat rows (history log) a f ≡ laws.copy_at cat rows (history log) d k f =
      ap (λ e. laws.copy_at cat rows (history log) e (laws.answer_place (history log) a e) f) x.module_is
      ∙ ap (λ e. laws.copy_at cat rows (history log) d e f) (x.place_is ∙ sym place) in
      ap (laws.items_of cat f) (theirs ∙ sym copy)

  pub c : IsCommittedIn g log t
  c = committed_in g log t sound h ct

  abbrev ours : List (Item × Row)
  ours = flat_map (log_base.snapshots_at g c.before a.ts) (numbers_to cat.dms)

  abbrev theirs : List (Item × Row)
  theirs = flat_map (λ f. piece f) (ascending (fragments_in a.uses))

  answer_of : (d : ℕ) (i : HasSnapshot (setting_of g (D (dm_no d))) a.ts (local_of g (D (dm_no d)) c.before)) → IsTheAnswer g log a d i.class i.before
  answer_of d i =
      the_answer g log (c.later ++ Does (home cat a.class) (commit_act cat c.bases a.class c.running) ∷ []) c.before
      eras a d i.later i.class i.txn i.attempt i.dm i.sends i.before sound h are ct.started (c.is
      ∙ sym (append_assoc c.later (Does (home cat a.class) (commit_act cat c.bases a.class c.running) ∷ []) c.before)) i.is i.at_time

  asked_is : (d : ℕ) (i : HasSnapshot (setting_of g (D (dm_no d))) a.ts (local_of g (D (dm_no d)) c.before)) (z : IsTheAnswer g log a d i.class i.before)
      → log_base.frags_asked (head (pipe i.class i.before)) ≡ ascending (fragments_in (filter_map (use_there cat a.class d) a.uses))
  asked_is d i z =
      let w = answer_is d z.place z.answered in
      ap (λ k. log_base.frags_asked (head (pipe k i.before))) z.class_is ∙ ap (λ l. log_base.frags_asked (head (pipe a.class l))) (sym (z.local_is w))
      ∙ ap log_base.frags_asked w.read.head_is ∙ ap (λ us. ascending (fragments_in us)) w.read.uses_are

  to_ours : (e : Item × Row) (f : ℕ) → reads a f ≡ true → Contains (piece f) e → Contains ours e
  to_ours e f rd there =
      let d : ℕ = module_of cat a.class f in
      let x = seen f rd in
      let s = setting_of g (D (dm_no d)) in
      let l : SiteLog = local_of g (D (dm_no d)) c.before in
      let hi = x.is_module.1 in
      let n = in_numbers 1 cat.dms d x.is_module.0 (omega arith) in
      Contains-flat_map (log_base.snapshots_at g c.before a.ts) (numbers_to cat.dms) d e (member_of (numbers_to cat.dms) n.0 d n.1)
      (elim (snapshot_or s a.ts l) [
        | inl i ↦ (let z = answer_of d i in
            let w = answer_is d z.place z.answered in
            let here : Contains (log_base.items_of cat (dated s i.before) f) e = subst (λ m. Contains (log_base.items_of cat (dated s m) f) e) (z.local_is w)
            (subst (λ m. Contains m e) (piece_is f d z.place x z.answered) there) in
            let f_there : Contains (log_base.frags_asked (head (pipe i.class i.before))) f = subst (λ m. Contains m f) (sym (asked_is d i z))
            (number_member (ascending (fragments_in (filter_map (use_there cat a.class d) a.uses))) f
            (in_ascending (fragments_in (filter_map (use_there cat a.class d) a.uses)) f
            (read_there cat a.class d f a.uses rd (ap (λ p. option_eq ◌==◌ p (Some d)) x.read ∙ same_number d)))) in
            subst (λ m. Contains m e) (sym i.are)
            (Contains-flat_map (log_base.items_of cat (dated s i.before)) (log_base.frags_asked (head (pipe i.class i.before))) f e f_there here))
        | inr i ↦ absurd (let w = answer_is d x.place x.answered in
            let before = entries_in_order log x.place t.place (answer_rec a d) _ (answer_made g log a d x.place w) (committed_made g log t c) x.before in
            let m = act_local g (D (dm_no d)) (Records a.class (answer_rec a d) w.sends) before.between w.before in
            let is : l ≡ m.0 ++ Did (Records a.class (answer_rec a d) w.sends) ∷ local_of g (D (dm_no d)) w.before = ap (local_of g (D (dm_no d))) before.is
            ∙ m.1 in
            let at : log_base.is_at a.ts (head (pipe a.class (local_of g (D (dm_no d)) w.before))) ≡ true = ap (log_base.is_at a.ts) w.read.head_is
            ∙ same_number a.ts in
            i.none m.0 a.class (txn_no a.txn) a.number (dm_no d) w.sends (local_of g (D (dm_no d)) w.before) is at)
      ])

  from_ours : (e : Item × Row) → Contains ours e → (f : ℕ) × (reads a f ≡ true) × Contains (piece f) e
  from_ours e k =
      let r = Contains-from_flat_map (log_base.snapshots_at g c.before a.ts) (numbers_to cat.dms) e k in
      let d : ℕ = r.0 in
      let s = setting_of g (D (dm_no d)) in
      let l : SiteLog = local_of g (D (dm_no d)) c.before in
      elim (snapshot_or s a.ts l) [
        | inl i ↦ (let z = answer_of d i in
            let w = answer_is d z.place z.answered in
            let q = Contains-from_flat_map (log_base.items_of cat (dated s i.before)) (log_base.frags_asked (head (pipe i.class i.before))) e
            (subst (λ m. Contains m e) i.are r.2) in
            let f : ℕ = q.0 in
            let fs = from_ascending (fragments_in (filter_map (use_there cat a.class d) a.uses)) f (subst (λ m. Contains m f) (asked_is d i z) q.1) in
            let rd = there_read cat a.class d f a.uses fs in
            let x = seen f rd.0 in
            let same : d ≡ module_of cat a.class f = (let r : Some d ≡ Some (module_of cat a.class f) = sym (grind (arith, eqb-true)) ∙ x.read in cc) in
            let y : IsSeen g log t f d = subst (IsSeen g log t f) (sym same) x in
            let here : Contains (log_base.items_of cat (dated s (local_of g (D (dm_no d)) w.before)) f) e = subst
            (λ m. Contains (log_base.items_of cat (dated s m) f) e) (sym (z.local_is w)) q.2 in
            (f, rd.0, subst (λ m. Contains m e) (sym (piece_is f d z.place y z.answered)) here))
        | inr i ↦ absurd (Contains-nil e (subst (λ m. Contains m e) i.are r.2))
      ]

  -- of an item there is one entry

  placed : (d : ℕ) (w : Log) → IsPermitted g w → IsModule cat d → ArePlaced cat (dated (setting_of g (D (dm_no d))) (local_of g (D (dm_no d)) w))
  placed d w hw m x k =
      let all : AllValidAt cat (dated (setting_of g (D (dm_no d))) (local_of g (D (dm_no d)) w)) = dated_valid (setting_of g (D (dm_no d)))
      (local_of g (D (dm_no d)) w) (all_begin g rows fine d m) (applies_valid g d w hw (commits_valid g rows w sound fine hw)) in
      let v : IsValid cat x.1 = each_has (λ (y : ℕ × Change). IsValid cat y.1) (dated (setting_of g (D (dm_no d))) (local_of g (D (dm_no d)) w)) x all k in
      let rel : (fragment_at cat x.1.frag.0).rel.0 ≡ v.rel = ap (λ n. (fragment_at cat n).rel.0) v.frag ∙ entry_placed cat sound v.rel x.1.key v.there v.held in
      ap (λ r. fragment_of cat r x.1.key) rel ∙ sym v.frag

  lies : (f : ℕ) (e : Item × Row) → reads a f ≡ true → Contains (piece f) e → fragment_of cat e.0.0 e.0.1 ≡ f
  lies f e rd k =
      let d : ℕ = module_of cat a.class f in
      let x = seen f rd in
      let w = answer_is d x.place x.answered in
      lies_there cat f (dated (setting_of g (D (dm_no d))) (local_of g (D (dm_no d)) w.before)) e (placed d w.before w.permitted.1 x.is_module)
      (subst (λ m. Contains m e) (piece_is f d x.place x x.answered) k)

  one_piece : (x y : Item × Row) (f n : ℕ) → reads a f ≡ true → reads a n ≡ true → Contains (piece f) x → Contains (piece n) y → x.0 ≡ y.0 → x ≡ y
  one_piece x y f n rf rn p q e =
      let same : n ≡ f = sym (lies n y rn q) ∙ ap (λ (i : Item). fragment_of cat i.0 i.1) (sym e) ∙ lies f x rf p in
      let d : ℕ = module_of cat a.class f in
      let sorted : IsStrictlySortedBy item_cmp (keys_of (piece f)) = entries_ascend cat f
      (laws.dated_at cat rows (history log) d (laws.answer_place (history log) a d)) in
      let row : x.1 ≡ y.1 = one_entry item_cmp item_cmp_total item_cmp_exact (piece f) y.0 x.1 y.1 sorted (subst (λ i. Contains (piece f) (i, x.1)) e p)
      (subst (λ m. Contains (piece m) y) same q) in
      λ i. (e i, row i)

  in_theirs : (e : Item × Row) → Contains theirs e → (f : ℕ) × (reads a f ≡ true) × Contains (piece f) e
  in_theirs e k =
      let r = Contains-from_flat_map (λ f. piece f) (ascending (fragments_in a.uses)) e k in
      (r.0, from_ascending (fragments_in a.uses) r.0 r.1, r.2)

  to_theirs : (e : Item × Row) (f : ℕ) → reads a f ≡ true → Contains (piece f) e → Contains theirs e
  to_theirs e f rd k =
      Contains-flat_map (λ f. piece f) (ascending (fragments_in a.uses)) f e
      (number_member (ascending (fragments_in a.uses)) f (in_ascending (fragments_in a.uses) f rd)) k

  forth : (e : Item × Row) → Contains (fold laws.with_item [] theirs) e → Contains (fold log_base.with_item [] ours) e
  forth e k = elim (gathered_from item_cmp item_cmp_total item_cmp_exact [] theirs e (sorted_nil item_cmp) k) [
    | inl n ↦ absurd (Contains-nil e n)
    | inr p ↦ (let x = in_theirs e p in
        gathered_there item_cmp item_cmp_total item_cmp_exact [] ours e (sorted_nil item_cmp)
        (λ y q s. let z = from_ours y q in one_piece y e z.0 x.0 z.1 x.1 z.2 x.2 s) (to_ours e x.0 x.1 x.2))
  ]

  back : (e : Item × Row) → Contains (fold log_base.with_item [] ours) e → Contains (fold laws.with_item [] theirs) e
  back e k = elim (gathered_from item_cmp item_cmp_total item_cmp_exact [] ours e (sorted_nil item_cmp) k) [
    | inl n ↦ absurd (Contains-nil e n)
    | inr p ↦ (let x = from_ours e p in
        gathered_there item_cmp item_cmp_total item_cmp_exact [] theirs e (sorted_nil item_cmp)
        (λ y q s. let z = in_theirs y q in one_piece y e z.0 x.0 z.1 x.1 z.2 x.2 s) (to_theirs e x.0 x.1 x.2))
  ]

  pub same_base : laws.base_of cat rows (history log) a ≡ log_base.base_of g c.before a.ts
  same_base =
      same_members item_cmp item_cmp_total item_cmp_exact (laws.base_of cat rows (history log) a) (log_base.base_of g c.before a.ts)
      (gathered_sorted item_cmp item_cmp_total item_cmp_exact [] theirs (sorted_nil item_cmp))
      (gathered_sorted item_cmp item_cmp_total item_cmp_exact [] ours (sorted_nil item_cmp)) forth back

  pub effect_is : (txn : Txn) → txn_at g a.txn ≡ Some txn
      → effect cat (laws.base_of cat rows (history log) a) txn ≡ record { reply = t.reply; changes = t.changes }
  effect_is txn e =
      let text : txn ≡ c.running.text = text_same (txn_at g a.txn) txn c.running.text e c.text_is in
      let based = base_is g (home cat a.class) c.before (commit_act cat c.bases a.class c.running) c.permitted (home_runs cat a.class) in
      let same : based.0 ≡ c.running = one_active (home_setting g a.class) a.class (at_home g a.class c.before) based.0 c.running based.1 c.active_is in
      let now : Effect = effect cat (log_base.base_of g c.before c.running.ts) c.running.text in
      let reply : t.reply ≡ now.reply = c.reply_is ∙ based.2 ∙ ap (λ (y : Running). (effect cat (log_base.base_of g c.before y.ts) y.text).reply) same in
      let changes : t.changes ≡ now.changes = c.changes_are ∙ based.3
      ∙ ap (λ (y : Running). (effect cat (log_base.base_of g c.before y.ts) y.text).changes) same in
      ap (λ b. effect cat b txn) same_base ∙ ap (effect cat (log_base.base_of g c.before a.ts)) text
      ∙ ap (λ ts. effect cat (log_base.base_of g c.before ts) c.running.text) (sym c.ts_is)
      ∙ (λ i. record { reply = sym reply i; changes = sym changes i })

pub keeps_answers : (g : Input) (rows : List (RelNo × Row)) (eras : Eras) (log : Log) → IsSoundCatalogue g.catalogue → HasSoundData g rows → IsPermitted g log
    → AreErasOf g log eras → KeepsAnswers g.catalogue rows g.txns (history log)
keeps_answers g rows eras log sound fine h are = record {
  one_answer = one_answer g log sound h;
  answer_after = answer_after g log sound h;
  commit_after = commit_after g log sound h;
  answered = λ t d ct asks. answered g log sound h t d ct asks;
  effect_is = λ t txn ct e. effect_is g rows eras log sound fine h are t ct txn e;
}
