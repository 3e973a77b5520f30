-- The history of a permitted log keeps the law of read conditions.
use Rattle.sdd_lawful.proofs.All.{AppliedBefore, AreErasOf, Attempt, Catalogue, Change, Committed, Cond, Contains, D, Does, Entry, Eras, FragNo, Input, IsAnswerWith, IsAnswered, IsApplied, IsAttempt, IsCommitted, IsConditionOf, IsPermitted, IsSoundCatalogue, IsTable, KeepsConditions, List, Log, None, Option, Records, Some, TouchesOne, [], any_at, ap, append_assoc, arith, ascending, class_no, classes_of, commit_act, cond_of, condition_class, condition_on, conditions, conditions_at, conditions_of, cons_option, contains, current_era, dm_no, eqb-true, event_at, false, filter, filter_map, frag_no, fragments_in, fragments_of, get_or_from_slice_get, has_copy, history, home, in_mapped, in_range, inl, inr, is_asked, length, list_any, map, marks, member_at, one_table, p2_time, place_within, refl, same_or_not, slice_get, split_applied, subst, suc, sym, time_at, touches, true, txn_no, zero, ℕ, ◌++◌, ◌<◌, ◌==◌, ◌||◌, ◌∙◌, ◌∷◌, ◌≡◌, ◌≤◌}
use Rattle.sdd_lawful.proofs.Answered.{IsReadIn, answer_in, answer_made, answer_rec}
use Rattle.sdd_lawful.proofs.Applies.{apply_of_committed, applied_seen, seen_applied}
use Rattle.sdd_lawful.proofs.Classes.{at_home, era_there, further_back, home_setting}
use Rattle.sdd_lawful.proofs.Committed.{IsCommittedIn, committed_in}
use Rattle.sdd_lawful.proofs.Homes.{home_small}
use Rattle.sdd_lawful.proofs.Places.{event_there}
use Rattle.sdd_lawful.proofs.Started.{start_of}
use Rattle.sdd_lawful.proofs.Touched.{any_there, copy_module, kept_there}
use Rattle.sdd_invariants.specs.protocol.declared.entry.Entry as line
use Rattle.sdd_laws.specs.Eras as law_eras

-- members of lists

pub member_of : {A : Type 0} (xs : List A) (k : ℕ) (x : A) → slice_get xs k ≡ Some x → Contains xs x
member_of xs k x e = (k, place_within xs k x e, get_or_from_slice_get xs k x x e)

pub in_filter_mapped : {A B : Type 0} (f : A → Option B) (xs : List A) (k : ℕ) (y : B) → slice_get (filter_map f xs) k ≡ Some y
    → (j : ℕ) × (x : A) × (slice_get xs j ≡ Some x) × (f x ≡ Some y)
in_filter_mapped f [] k y e = cc
in_filter_mapped {A = A} {B = B} f (x ∷ xs) k y e =
    elim (f x) as (λ o. f x ≡ o → slice_get (cons_option o (filter_map f xs)) k ≡ Some y → (j : ℕ) × (z : A) × (slice_get (x ∷ xs) j ≡ Some z) × (f z ≡ Some y)) [
      | None ↦ λ p q. let i = in_filter_mapped f xs k y q in (suc i.0, i.1, i.2, i.3)
      | Some w ↦ λ p q. elim k as (λ n. slice_get (w ∷ filter_map f xs) n ≡ Some y → (j : ℕ) × (z : A) × (slice_get (x ∷ xs) j ≡ Some z) × (f z ≡ Some y)) [
        | zero ↦ λ r. let s : ◌≡◌ {A = B} w y = cc in (0, x, refl, p ∙ ap (λ v. Some v) s)
        | suc n ↦ λ r. let i = in_filter_mapped f xs n y r in (suc i.0, i.1, i.2, i.3)
      ] q
    ] refl e

-- a condition is on a class, from 1 on

pub above_zero : (cat : Catalogue) (table : List line.Entry) (class : ℕ) (frags : List ℕ) (own p2 d k : ℕ) (c : Cond)
    → slice_get (conditions_at cat table class frags own p2 d) k ≡ Some c → 1 ≤ c.class.0
above_zero cat table class frags own p2 d k c e = elim (same_or_not class 0) [
  | inl p ↦ (let i = in_mapped (λ j. cond_of j own (map frag_no (fragments_of cat))) (classes_of cat) k c (rw (ap (λ y. y == 0) p) at e) in
      subst (λ (q : Cond). 1 ≤ q.class.0) i.2 (in_range 1 (length cat.classes) k i.0 i.1).0)
  | inr p ↦ (let test = is_asked cat class d (map frag_no frags) in
      let i = in_filter_mapped (condition_on test table class own p2) (classes_of cat) k c (rw p at e) in
      subst (λ n. 1 ≤ n) (sym (condition_class test table class own p2 i.1 c i.3)) (in_range 1 (length cat.classes) i.0 i.1 i.2).0)
]

-- the conditions of a READ are those of its attempt

pub start_event : (g : Input) (log later before : Log) (e : Entry) (a : Attempt) (d : ℕ) → log ≡ later ++ e ∷ before → (x : IsReadIn g before a d)
    → (all : Log) × (log ≡ all ++ x.start_log) × (event_at (history log) a.place ≡ marks x.start_log)
start_event g log later before e a d is x =
    let start : Entry = Does (home g.catalogue a.class) x.start in
    let f = further_back log later before e start x.between x.start_log is x.start_is in (
      f.0 ++ start ∷ [],
      f.1 ∙ sym (append_assoc f.0 (start ∷ []) x.start_log),
      (λ i. event_at (history (f.1 i)) (sym x.start_place i)) ∙ event_there f.0 start x.start_log (start_of a) x.start_makes,
    )

-- by the table of the catalogue in force at the Start
same_table : (g : Input) (log : Log) (eras : Eras) (a : Attempt) (table : List line.Entry) (all start_log : Log) → AreErasOf g log eras
    → log ≡ all ++ start_log → event_at (history log) a.place ≡ marks start_log
    → IsTable (law_eras.catalogue_at g.catalogue eras (event_at (history log) a.place)) table → (a.class == 0) ≡ false
    → (current_era (home_setting g a.class) (at_home g a.class start_log)).table ≡ table
same_table g log eras a table all start_log are is event t ne = grind (arith, at_home, era_there, one_table)

conds_by : (g : Input) (a : Attempt) (d : ℕ) (era_table table : List line.Entry) → ((a.class == 0) ≡ false → era_table ≡ table)
    → conditions_at g.catalogue era_table a.class (ascending (fragments_in a.uses)) a.ts (p2_time a) d ≡ conditions_of g.catalogue table a d
conds_by g a d era_table table f = grind (arith, conditions, ascending)

pub conds_are : (g : Input) (log : Log) (eras : Eras) (a : Attempt) (d : ℕ) (later before : Log) (e : Entry) (table : List line.Entry) → AreErasOf g log eras
    → log ≡ later ++ e ∷ before → (x : IsReadIn g before a d)
    → IsTable (law_eras.catalogue_at g.catalogue eras (event_at (history log) a.place)) table → x.conds ≡ conditions_of g.catalogue table a d
conds_are g log eras a d later before e table are is x t =
    let s = start_event g log later before e a d is x in
    x.conds_are ∙ conds_by g a d (current_era (home_setting g a.class) (at_home g a.class x.start_log)).table table
    (same_table g log eras a table s.0 x.start_log are s.1 s.2 t)

-- a change of one of a condition's fragments touches it

named_there : (frags : List FragNo) (f : ℕ) → contains (map (λ g. g.0) frags) f ≡ true → list_any (λ (g : FragNo). g.0 == f) frags ≡ true
named_there [] f e = e
named_there (g ∷ frags) f e =
    elim (g.0 == f) as (λ b. (b || contains (map (λ g. g.0) frags) f) ≡ true → (b || list_any
    (λ (g : FragNo). g.0 == f) frags) ≡ true) [ true ↦ λ h. refl | false ↦ λ h. named_there frags f h ] e

pub touching : (cat : Catalogue) (xs : List Change) (frags : List FragNo) (f d : ℕ) → list_any (λ (c : Change). c.frag.0 == f) xs ≡ true
    → has_copy cat d f ≡ true → contains (map (λ g. g.0) frags) f ≡ true → touches frags (filter (λ (x : Change). has_copy cat d x.frag.0) xs) ≡ true
touching cat xs frags f d e c n =
    let i = any_at (λ (x : Change). x.frag.0 == f) xs e in
    let p : i.1.frag.0 ≡ f = eqb-true i.1.frag.0 f i.3 in
    let k = kept_there (λ (x : Change). has_copy cat d x.frag.0) xs i.0 i.1 i.2 (ap (has_copy cat d) p ∙ c) in
    any_there (λ (x : Change). list_any (λ (g : FragNo). g.0 == x.frag.0) frags) (filter (λ (x : Change). has_copy cat d x.frag.0) xs) k.0 i.1 k.1
    (ap (λ y. list_any (λ (g : FragNo). g.0 == y) frags) p ∙ named_there frags f n)

-- at an Answer with a condition: those that it names are applied exactly where they have smaller timestamps

of_class : (g : Input) (log : Log) (x : Committed) (c : IsCommittedIn g log x) (j : ℕ) → x.start.class ≡ j
    → log ≡ c.later ++ Does (home g.catalogue j) (commit_act g.catalogue c.bases j c.running) ∷ c.before
of_class g log x c j e = subst (λ k. log ≡ c.later ++ Does (home g.catalogue k) (commit_act g.catalogue c.bases k c.running) ∷ c.before) e c.is

pub met : (g : Input) (log : Log) (eras : Eras) → IsSoundCatalogue g.catalogue → IsPermitted g log → AreErasOf g log eras
    → (a : Attempt) (d k : ℕ) (q : Cond) (x : Committed) → IsAttempt (history log) a → IsAnswered (history log) a d k
    → IsConditionOf g.catalogue eras (history log) a d q → IsCommitted (history log) x → x.start.class ≡ q.class.0 → TouchesOne g.catalogue x d q.frags
    → (AppliedBefore (history log) x.start.txn d k → x.start.ts < q.time.0) × (x.start.ts < q.time.0 → AppliedBefore (history log) x.start.txn d k)
met g log eras sound h are a d k q x s t cd cx class touch =
    let w = answer_in g log a d k sound h s t in
    let c = committed_in g log x sound h cx in
    let same = conds_are g log eras a d w.later w.before (Does (D (dm_no d)) (Records a.class (answer_rec a d) w.sends)) cd.table are w.is w.read cd.table_is in
    let m = member_at (conditions_of g.catalogue cd.table a d) q cd.there in
    let there : slice_get w.read.conds m.0 ≡ Some q = subst (λ ds. slice_get ds m.0 ≡ Some q) (sym same) m.1 in
    let answer : IsAnswerWith g w.before (dm_no d) q (Records a.class (answer_rec a d) w.sends) = record {
      class = a.class;
      txn = txn_no a.txn;
      attempt = a.number;
      module_no = dm_no d;
      sends = w.sends;
      act_is = refl;
      ts = time_at a.ts;
      of = class_no a.class;
      reader = txn_no a.txn;
      tries = a.number;
      conds = w.read.conds;
      uses = w.read.uses;
      head_is = w.read.head_is;
      place = m.0;
      there = there;
    } in
    let low = above_zero g.catalogue (current_era (home_setting g a.class) (at_home g a.class w.read.start_log)).table a.class
    (ascending (fragments_in a.uses)) a.ts (p2_time a) d m.0 q (subst (λ ds. slice_get ds m.0 ≡ Some q) w.read.conds_are there) in
    let at = copy_module g.catalogue sound d touch.fragment touch.copied in
    let small = home_small g.catalogue sound q.class.0 in
    let changed = subst (λ ys. list_any (λ (y : Change). y.frag.0 == touch.fragment) ys ≡ true) c.changes_are touch.changed in
    let r = split_applied g (dm_no d) q (Records a.class (answer_rec a d) w.sends) w.later w.before c.later c.before c.bases c.running
    (subst (IsPermitted g) w.is h) (omega arith) at.0 at.1 answer (λ z. absurd (omega arith)) (sym w.is ∙ of_class g log x c q.class.0 class)
    (touching g.catalogue _ q.frags touch.fragment d changed touch.copied touch.named) in
    let ts = c.ts_is in (
      (λ b. let p = (apply_of_committed g log x d b.place sound h cx b.applied).apply in
          let i = seen_applied g log x c d b.place k (answer_rec a d) (answer_made g log a d k w) p b.before in
          let l = r.0 (subst (λ j. IsApplied g w.before (dm_no d) j c.running) class i) in omega arith),
      (λ l. applied_seen g log x c d k (answer_rec a d) (answer_made g log a d k w) h (subst (λ j. IsApplied g w.before (dm_no d) j c.running) (sym class) (r.1 (omega arith)))),
    )

pub keeps_conditions : (g : Input) (log : Log) (eras : Eras) → IsSoundCatalogue g.catalogue → IsPermitted g log → AreErasOf g log eras
    → KeepsConditions g.catalogue eras (history log)
keeps_conditions g log eras sound h are = record { met = met g log eras sound h are }
