-- The history of a permitted log keeps the law of Starts.
use Rattle.sdd_lawful.proofs.All.{Act, AreErasOf, Attempt, Catalogue, Committed, CommittedBefore, Did, Does, Eras, Input, IsAttempt, IsBound, IsCommitted, IsEraOf, IsMadeAt, IsOfSubmit, IsPermitted, IsRecordAt, IsSoundCatalogue, IsSubmitted, KeepsStarts, List, Log, Msg, None, Option, Records, Site, Some, Start, Submit, Submits, Submitted, Ts, Txn, [], and_left, ap, append_assoc, arith, bound, catalogue_at, class_at, class_for, class_no, clock, covered, covers, dec_le, eqb-true, era_is, event_at, false, first_passes, history, home, home_fair, if◌then◌else◌, inl, inr, is_committed, is_some, length, local_of, lower_same_higher, marks, mul-add-mod_self_right, not, nth_era, number_of, option_map, or_right, p2_of, permitted_before, place_of_act, promises, record_at, redeclares, refl, same_number, same_or_not, slice_get, stamps, stamps_differ, starts_of, submits_of, subst, sym, time_at, true, txn_at, txn_no, unwrap_or, ℕ, ◌%◌, ◌++◌, ◌<◌, ◌==◌, ◌∙◌, ◌∷◌, ◌≡◌, ◌≢◌, ◌≤◌}
use Rattle.sdd_lawful.proofs.Classes.{IsForClass, IsGivenTo, at_home, era_there, further_back, home_setting, submit_local}
use Rattle.sdd_lawful.proofs.Commits.{CommitContent, commit_class, commit_in, commit_made, commit_rec, commit_seen, one_commit}
use Rattle.sdd_lawful.proofs.Counted.{numbered}
use Rattle.sdd_lawful.proofs.Homes.{home_small, homes_differ, positive}
use Rattle.sdd_lawful.proofs.Locals.{all_committed_at, below_at, commit_act_in, committed_later, most_at, promise_in, stamp_in, starts_grow, submitted_in}
use Rattle.sdd_lawful.proofs.Places.{entries_in_order, event_there, place_rises, recorded_there}
use Rattle.sdd_lawful.proofs.Started.{IsStartIn, act_local, given_of_attempt, given_of_start, start_act_of, start_in, start_made, start_of}
use Rattle.sdd_lawful.proofs.Submissions.{IsSubmitIn, given_at, one_submit, same_submission, submit_in}
use Rattle.sdd_invariants.specs.logs.Due.{home_of}
use Rattle.sdd_invariants.specs.site_module.SiteLog as site

-- classes by the eras

class_within : (cat : Catalogue) (txn : Txn) → class_for cat txn ≤ length cat.classes
class_within cat txn = elim (dec_le 1 (class_for cat txn)) [
  | yes p ↦ (covered cat txn (class_for cat txn) refl p).class.to
  | no p ↦ omega (arith, p)
]

-- the class of what is given is there
given_within : (g : Input) (log : Log) (eras : Eras) (n c : ℕ) (text : Txn) → AreErasOf g log eras → IsGivenTo g log n c text → c ≤ length g.catalogue.classes
given_within g log eras n c text are w =
    let era = (subst (IsEraOf g.catalogue) (are.era_is (w.later ++ Submitted (home g.catalogue c) n ∷ []) w.rest (w.is ∙ sym (append_assoc w.later (Submitted (home g.catalogue c) n ∷ []) w.rest))) (era_is g.catalogue eras are.are_eras (marks w.rest))).classes in
    let at = class_within (nth_era g (redeclares w.rest)).catalogue text in
    let e = w.class_is in omega arith

pub start_within : (g : Input) (log : Log) (eras : Eras) (a : Attempt) → AreErasOf g log eras → IsStartIn g log a → a.class ≤ length g.catalogue.classes
start_within g log eras a are x = given_within g log eras a.txn a.class x.says.text are (given_of_attempt g log a x)

-- the Submit of a Start

pub event_of_submit : (g : Input) (log : Log) (eras : Eras) (n : ℕ) (later rest : Log) (at : Site) → AreErasOf g log eras → log ≡ later ++ Submitted at n ∷ rest
    → catalogue_at g.catalogue eras (event_at (history log) (length (history rest))) ≡ (nth_era g (redeclares rest)).catalogue
event_of_submit g log eras n later rest at are is =
    let e : event_at (history log) (length (history rest)) ≡ marks rest =
    ap (λ l. event_at (history l) (length (history rest))) is ∙ event_there later (Submitted at n) rest (Submit (txn_no n)) refl in
    ap (catalogue_at g.catalogue eras) e ∙ are.era_is (later ++ Submitted at n ∷ []) rest (is ∙ sym (append_assoc later (Submitted at n ∷ []) rest))

submitted_of : (g : Input) (log : Log) (eras : Eras) → IsSoundCatalogue g.catalogue → IsPermitted g log → AreErasOf g log eras
    → (a : Attempt) → IsAttempt (history log) a → IsOfSubmit g.catalogue eras g.txns (history log) a
submitted_of g log eras sound h are a s =
    let x = start_in g log a sound h s in
    let w = (given_of_start g log a x).given in
    let at : Site = home g.catalogue a.class in
    let b = further_back log x.later x.before (Does at (start_act_of a x.sends)) (Submitted at a.txn) w.later w.rest x.is w.is in
    let rises = place_rises w.later (Submitted at a.txn) w.rest (Submit (txn_no a.txn)) refl in
    let front : length (history x.before) ≡ length (history (w.later ++ Submitted at a.txn ∷ w.rest)) = ap (λ l. length (history l)) w.is in
    let place = x.place_is in
    record {
      place = length (history w.rest);
      submitted = subst (λ l. IsSubmitted (history l) a.txn (length (history w.rest))) (sym b.1)
          (recorded_there b.0 (Submitted at a.txn) w.rest (Submit (txn_no a.txn)) refl);
      before = omega arith;
      txn = x.says.text;
      txn_is = w.text_is;
      class_is = w.class_is ∙ ap (λ c. class_for c x.says.text) (sym (event_of_submit g log eras a.txn b.0 w.rest at are b.1));
      uses_are = x.says.uses_are;
    }

-- two Starts, one before the other, at one site

start_behind : (g : Input) (a : Attempt) (c : ℕ) (sends : List (Site × Msg)) (between before log : Log)
    → home g.catalogue a.class ≡ home g.catalogue c → log ≡ between ++ Does (home g.catalogue a.class) (start_act_of a sends) ∷ before
    → (more : site.Log) × (at_home g c log ≡ more ++ Did (start_act_of a sends) ∷ at_home g a.class before)
start_behind g a c sends between before log e is =
    let m = act_local g (home g.catalogue a.class) (start_act_of a sends) between before in
    (m.0, ap (λ s. local_of g s log) (sym e) ∙ ap (local_of g (home g.catalogue a.class)) is ∙ m.1)

earlier_start : (g : Input) (log : Log) (a b : Attempt) (x : IsStartIn g log a) (y : IsStartIn g log b)
    → home g.catalogue a.class ≡ home g.catalogue b.class → a.place < b.place
    → (more : site.Log) × (at_home g b.class y.before ≡ more ++ Did (start_act_of a x.sends) ∷ at_home g a.class x.before)
earlier_start g log a b x y e l =
    let z = entries_in_order log a.place b.place (start_of a) (start_of b) (start_made g log a x) (start_made g log b y) l in
    start_behind g a b.class x.sends z.between x.before y.before e z.is

stamp_below : (g : Input) (log : Log) (a b : Attempt) (x : IsStartIn g log a) (y : IsStartIn g log b)
    → home g.catalogue a.class ≡ home g.catalogue b.class → a.place < b.place → a.ts < b.ts
stamp_below g log a b x y e l =
    let m = earlier_start g log a b x y e l in
    let i = stamp_in m.0 (at_home g a.class x.before) a.class (txn_no a.txn) a.number (class_no a.class) (time_at a.ts) a.p2 a.uses x.sends in
    let there : slice_get (stamps (at_home g b.class y.before)) i.0 ≡ Some a.ts = subst (λ k. slice_get (stamps k) i.0 ≡ Some a.ts) (sym m.1) i.1 in
    below_at b.ts (stamps (at_home g b.class y.before)) i.0 a.ts y.says.above_stamps there

-- one Start at a timestamp

stamp_there : (g : Input) (log : Log) (a : Attempt) (x : IsStartIn g log a) → (i : ℕ) × (slice_get (stamps (at_home g a.class log)) i ≡ Some a.ts)
stamp_there g log a x =
    let m = act_local g (home g.catalogue a.class) (start_act_of a x.sends) x.later x.before in
    let i = stamp_in m.0 (at_home g a.class x.before) a.class (txn_no a.txn) a.number (class_no a.class) (time_at a.ts) a.p2 a.uses x.sends in
    (i.0, subst (λ k. slice_get (stamps k) i.0 ≡ Some a.ts) (sym (ap (at_home g a.class) x.is ∙ m.1)) i.1)

differ_at : {A : Type 0} (g : Input) (log : Log) (a b : Attempt) (x : IsStartIn g log a) (y : IsStartIn g log b) → IsSoundCatalogue g.catalogue
    → IsPermitted g log → number_of (home g.catalogue a.class) ≢ number_of (home g.catalogue b.class) → a.ts ≡ b.ts → A
differ_at g log a b x y sound h ne e =
    let i = stamp_there g log a x in
    let j = stamp_there g log b y in
    let small = home_small g.catalogue sound a.class in
    let little = home_small g.catalogue sound b.class in
    absurd (stamps_differ (home_setting g a.class) (home_setting g b.class) (at_home g a.class log) (at_home g b.class log) i.0 j.0 a.ts b.ts
    (omega arith) (omega arith) ne (home_fair g a.class log h) (home_fair g b.class log h) i.1 j.1 e)

pub one_time : (g : Input) (log : Log) (eras : Eras) → IsSoundCatalogue g.catalogue → IsPermitted g log → AreErasOf g log eras
    → (a b : Attempt) → IsAttempt (history log) a → IsAttempt (history log) b → a.ts ≡ b.ts → a.place ≡ b.place
one_time g log eras sound h are a b s t e =
    let x = start_in g log a sound h s in
    let y = start_in g log b sound h t in
    elim (homes_differ g.catalogue sound a.class b.class (start_within g log eras a are x) (start_within g log eras b are y)) [
      | inl same ↦ elim (lower_same_higher a.place b.place) [
        | inl l ↦ (let r = stamp_below g log a b x y same l in absurd (omega arith))
        | inr l ↦ elim l [
          | inl p ↦ p
          | inr p ↦ (let r = stamp_below g log b a y x (sym same) p in absurd (omega arith))
        ]
      ]
      | inr ne ↦ differ_at g log a b x y sound h ne e
    ]

-- order of submission

-- of a class, what is given before a submission is committed where that one starts
earlier_committed : (g : Input) (log : Log) (a : Attempt) (x : IsStartIn g log a) (n : ℕ) (text : Txn) (later rest : Log)
    → (w : Log) → w ≡ later ++ Submitted (home g.catalogue a.class) n ∷ rest → w ≡ (given_of_start g log a x).given.rest
    → txn_at g n ≡ Some text → IsForClass g a.class rest text → is_committed a.class n (at_home g a.class x.before) ≡ true
earlier_committed g log a x n text later rest w is same t f =
    let s = given_of_start g log a x in
    let m = submit_local g a.class n text later rest t in
    let i = submitted_in (home_setting g a.class) a.class n text m.0 (at_home g a.class rest) f in
    let l : at_home g a.class s.given.rest ≡ m.0 ++ Submits n text ∷ at_home g a.class rest = ap (at_home g a.class) (sym same ∙ is) ∙ m.1 in
    grind (arith, at_home, all_committed_at, slice_get, submits_of)

abbrev submit_made_at : (g : Input) (log : Log) (n k : ℕ) → IsSubmitIn g log n k → IsMadeAt log k (Submit (txn_no n))
submit_made_at g log n k u = record { later = u.later; entry = Submitted u.at n; before = u.rest; is = u.is; makes = refl; place_is = u.place_is }

-- the submission of a started transaction is that of its Submit
given_rest : (g : Input) (log : Log) (a : Attempt) (x : IsStartIn g log a) (k : ℕ) → IsPermitted g log → (u : IsSubmitIn g log a.txn k)
    → u.rest ≡ (given_of_start g log a x).given.rest
given_rest g log a x k h u =
    let w = (given_of_start g log a x).given in
    let at : Site = home g.catalogue a.class in
    let b = further_back log x.later x.before (Does at (start_act_of a x.sends)) (Submitted at a.txn) w.later w.rest x.is w.is in
    (same_submission g a.txn log u.later b.0 u.rest w.rest u.at at h u.is b.1).0

-- of one class: the first submitted starts first
in_turn : (g : Input) (log : Log) → IsSoundCatalogue g.catalogue → IsPermitted g log → (a b : Attempt) (j k : ℕ)
    → IsAttempt (history log) a → IsAttempt (history log) b → a.class ≡ b.class → a.place < b.place
    → IsSubmitted (history log) a.txn j → IsSubmitted (history log) b.txn k → j ≤ k
in_turn g log sound h a b j k s t e l p q = elim (dec_le j k) [
  | yes r ↦ r
  | no r ↦ (let x = start_in g log a sound h s in
      let y = start_in g log b sound h t in
      let u = submit_in g log a.txn j h p in
      let v = submit_in g log b.txn k h q in
      let wb = (given_of_start g log b y).given in
      let z = entries_in_order log k j (Submit (txn_no b.txn)) (Submit (txn_no a.txn)) (submit_made_at g log b.txn k v) (submit_made_at g log a.txn j u)
      (omega (arith, r)) in
      let bs = given_rest g log b y k h v in
      let at_b : v.at ≡ home g.catalogue b.class = (same_submission g b.txn log v.later (given_of_attempt g log b y).later v.rest
      (given_of_attempt g log b y).rest v.at (home g.catalogue b.class) h v.is (given_of_attempt g log b y).is).1 in
      let is : u.rest ≡ z.between ++ Submitted (home g.catalogue a.class) b.txn ∷ v.rest = z.is
      ∙ ap (λ c. z.between ++ Submitted c b.txn ∷ v.rest) (at_b ∙ ap (home g.catalogue) (sym e)) in
      let f : IsForClass g a.class v.rest y.says.text = subst (λ c. IsForClass g c v.rest y.says.text) (sym e)
      (subst (λ w. IsForClass g b.class w y.says.text) (sym bs) wb.of_class) in
      let done = earlier_committed g log a x b.txn y.says.text z.between v.rest u.rest is (given_rest g log a x j h u) wb.text_is f in
      let m = earlier_start g log a b x y (ap (home g.catalogue) e) l in
      let later : is_committed a.class b.txn (at_home g b.class y.before) ≡ true = subst (λ w. is_committed a.class b.txn w ≡ true) (sym m.1)
      (committed_later a.class b.txn m.0 (Did (start_act_of a x.sends) ∷ (at_home g a.class x.before)) (committed_later a.class b.txn (Did (start_act_of a x.sends) ∷ []) (at_home g a.class x.before) done)) in
      let no : true ≡ false = sym (subst (λ c. is_committed c b.txn (at_home g b.class y.before) ≡ true) e later) ∙ y.says.not_committed in cc)
]

-- the site of a class

pub covers_home : (cat : Catalogue) (txn : Txn) (c : ℕ) → c ≡ class_for cat txn → 1 ≤ c → (class_at cat c).tm.0 ≡ txn.tm.0
covers_home cat txn c e l = grind (arith, covers, class_at, first_passes, and_left, eqb-true)

pub for_class : (g : Input) (c : ℕ) (rest : Log) (txn : Txn) → class_for (nth_era g (redeclares rest)).catalogue txn ≡ c → IsForClass g c rest txn
for_class g c rest txn e = grind (arith, same_or_not, class_at, era_there, or_right, same_number)

-- what is submitted before a transaction in its class is committed where it starts

commit_before : (g : Input) (log : Log) (a : Attempt) (x : IsStartIn g log a) (n : ℕ)
    → is_committed a.class n (at_home g a.class x.before) ≡ true → CommittedBefore (history log) n a.place
commit_before g log a x n e =
    let at : Site = home g.catalogue a.class in
    let m = commit_act_in a.class n (at_home g a.class x.before) e in
    let t : CommitContent = record { reply = m.reply; changes = m.changes; values = m.values; rows = m.rows } in
    let act : Act = Records a.class (commit_rec n m.attempt t) m.sends in
    let is : at_home g a.class x.before ≡ m.later ++ Did act ∷ m.before = m.is
    ∙ ap (λ j. m.later ++ Did (Records a.class (commit_rec j m.attempt t) m.sends) ∷ m.before) m.number_is in
    let p = place_of_act g at x.before m.later act m.before is in
    let b = further_back log x.later x.before (Does at (start_act_of a x.sends)) (Does at act) p.later p.rest x.is p.is in
    let rises = place_rises p.later (Does at act) p.rest (commit_rec n m.attempt t) refl in
    let front : length (history x.before) ≡ length (history (p.later ++ Does at act ∷ p.rest)) = ap (λ l. length (history l)) p.is in
    let place = x.place_is in
    record {
      place = length (history p.rest);
      number = m.attempt;
      commit = record { reply = m.reply; changes = m.changes; values = m.values; rows = m.rows; is_recorded = subst (λ l. IsRecordAt (history l) (length (history p.rest)) (commit_rec n m.attempt t)) (sym b.1) (recorded_there b.0 (Does at act) p.rest (commit_rec n m.attempt t) refl) };
      before = omega arith;
    }

after_earlier : (g : Input) (log : Log) (eras : Eras) → IsSoundCatalogue g.catalogue → IsPermitted g log → AreErasOf g log eras
    → (a : Attempt) (n j k : ℕ) (txn : Txn) → IsAttempt (history log) a → IsSubmitted (history log) a.txn k
    → IsSubmitted (history log) n j → j < k → txn_at g n ≡ Some txn
    → class_for (catalogue_at g.catalogue eras (event_at (history log) j)) txn ≡ a.class → CommittedBefore (history log) n a.place
after_earlier g log eras sound h are a n j k txn s p q l t c =
    let x = start_in g log a sound h s in
    let u = submit_in g log a.txn k h p in
    let v = submit_in g log n j h q in
    let z = entries_in_order log j k (Submit (txn_no n)) (Submit (txn_no a.txn)) (submit_made_at g log n j v) (submit_made_at g log a.txn k u) l in
    let era = event_of_submit g log eras n v.later v.rest v.at are v.is in
    let class : class_for (nth_era g (redeclares v.rest)).catalogue txn ≡ a.class =
    ap (λ f. class_for f txn) (sym era) ∙ ap (λ i. class_for (catalogue_at g.catalogue eras (event_at (history log) i)) txn) v.place_is ∙ c in
    let now : IsPermitted g (Submitted v.at n ∷ v.rest) = permitted_before g v.later (Submitted v.at n ∷ v.rest) (subst (IsPermitted g) v.is h) in
    let y = given_at g v.rest v.at n now in
    let era = (subst (IsEraOf g.catalogue) (are.era_is (v.later ++ Submitted v.at n ∷ []) v.rest (v.is ∙ sym (append_assoc v.later (Submitted v.at n ∷ []) v.rest))) (era_is g.catalogue eras are.are_eras (marks v.rest))) in
    let at : v.at ≡ home g.catalogue a.class =
    y.at_is ∙ ap (home_of (nth_era g (redeclares y.earlier)).catalogue) t ∙ ap (λ i. home_of (nth_era g i).catalogue (Some txn)) (sym (ap redeclares y.is))
    ∙ (grind (arith, same_or_not, positive, class_within, class_at, covers_home)) in
    let is : u.rest ≡ z.between ++ Submitted (home g.catalogue a.class) n ∷ v.rest = z.is ∙ ap (λ i. z.between ++ Submitted i n ∷ v.rest) at in
    commit_before g log a x n
    (earlier_committed g log a x n txn z.between v.rest u.rest is (given_rest g log a x k h u) t (for_class g a.class v.rest txn class))

-- Commits

by_last : (g : Input) (log : Log) → IsSoundCatalogue g.catalogue → IsPermitted g log → (t : Committed) (a : Attempt)
    → IsCommitted (history log) t → IsAttempt (history log) a → a.txn ≡ t.start.txn → a.number ≤ t.start.number
by_last g log sound h t a c s e =
    let content : CommitContent = record { reply = t.reply; changes = t.changes; values = t.values; rows = t.rows } in
    let x = commit_in g log t.start.txn t.start.number t.place content sound h c.committed in
    let y = start_in g log a sound h s in
    let k : a.class ≡ x.class = commit_class g log t.start.txn t.start.number t.place content x a sound h s e in
    elim (lower_same_higher a.place t.place) [
      | inl l ↦ (let z = entries_in_order log a.place t.place (start_of a) (commit_rec t.start.txn t.start.number content) (start_made g log a y)
          (commit_made g log t.start.txn t.start.number t.place content x) l in
          let m = start_behind g a x.class y.sends z.between y.before x.before (ap (home g.catalogue) k) z.is in
          let grow = starts_grow m.0 (at_home g a.class y.before) a.class (txn_no a.txn) a.number (class_no a.class) (time_at a.ts) a.p2 a.uses y.sends in
          let count : starts_of a.class a.txn (at_home g x.class x.before) ≡ starts_of a.class a.txn
          (m.0 ++ Did (start_act_of a y.sends) ∷ at_home g a.class y.before) = ap (starts_of a.class a.txn) m.1 in
          let last : t.start.number ≡ starts_of a.class a.txn (at_home g x.class x.before) = x.says.last_try
          ∙ ap (λ n. starts_of x.class n (at_home g x.class x.before)) (sym e) ∙ ap (λ i. starts_of i a.txn (at_home g x.class x.before)) (sym k) in
          let number = y.says.attempt_is in omega arith)
      | inr l ↦ elim l [
        | inl p ↦ (let q : Some (start_of a) ≡ Some (commit_rec t.start.txn t.start.number content) = sym s ∙ ap (record_at (history log)) p ∙ c.committed in
            cc)
        | inr l ↦ (let z = entries_in_order log t.place a.place (commit_rec t.start.txn t.start.number content) (start_of a)
            (commit_made g log t.start.txn t.start.number t.place content x) (start_made g log a y) l in
            let seen : is_committed x.class t.start.txn (at_home g x.class y.before) ≡ true = subst
            (λ b. is_committed x.class t.start.txn (at_home g x.class b) ≡ true) (sym z.is)
            (commit_seen g x.class t.start.txn t.start.number content x.sends z.between x.before) in
            let there : is_committed a.class a.txn (at_home g a.class y.before) ≡ true = subst (λ i. is_committed i a.txn (at_home g i y.before) ≡ true) (sym k)
            (subst (λ n. is_committed x.class n (at_home g x.class y.before) ≡ true) (sym e) seen) in
            let no : true ≡ false = sym there ∙ y.says.not_committed in cc)
      ]
    ]

-- the time of P2

some_p2 : (k b : ℕ) → is_some (p2_of k b) ≡ not (k == 0)
some_p2 k b = elim (k == 0) as (λ c. is_some (if c then None else Some (time_at b)) ≡ not c) [ true ↦ refl | false ↦ refl ]

pub p2_bound : (k b : ℕ) (p : Ts) → p2_of k b ≡ Some p → b ≡ p.0
p2_bound k b p e = grind (arith, same_or_not)

promise_below : (g : Input) (log : Log) (a b : Attempt) (x : IsStartIn g log a) (y : IsStartIn g log b) (p2 : ℕ) (o : Option Ts) → a.p2 ≡ o
    → home g.catalogue a.class ≡ home g.catalogue b.class → a.place < b.place → bound (home_setting g b.class) (at_home g b.class y.before) ≡ p2
    → unwrap_or (option_map (λ (t : Ts). t.0) o) 0 ≤ p2
promise_below g log a b x y p2 None f e l k = omega arith
promise_below g log a b x y p2 (Some t) f e l k =
    let m = earlier_start g log a b x y e l in
    let i = promise_in m.0 (at_home g a.class x.before) a.class (txn_no a.txn) a.number (class_no a.class) (time_at a.ts) t a.uses x.sends in
    let with_p2 : at_home g b.class y.before ≡ m.0 ++ Did
    (Records a.class (Start (txn_no a.txn) a.number (class_no a.class) (time_at a.ts) (Some t) a.uses) x.sends) ∷ at_home g a.class x.before = m.1
    ∙ ap (λ q. m.0 ++ Did (Records a.class (Start (txn_no a.txn) a.number (class_no a.class) (time_at a.ts) q a.uses) x.sends) ∷ at_home g a.class x.before) f in
    let there : slice_get (promises (at_home g b.class y.before)) i.0 ≡ Some t.0 = subst (λ w. slice_get (promises w) i.0 ≡ Some t.0) (sym with_p2) i.1 in
    let r = most_at _ (promises (at_home g b.class y.before)) i.0 t.0 y.says.p2_above_promises there in
    subst (λ w. t.0 ≤ w) k r

bound_of_start : (g : Input) (log : Log) → IsSoundCatalogue g.catalogue → IsPermitted g log → (a : Attempt) (p2 : Ts)
    → IsAttempt (history log) a → a.p2 ≡ Some p2 → IsBound (history log) a p2.0
bound_of_start g log sound h a p2 s e =
    let y = start_in g log a sound h s in
    let l : site.Log = at_home g a.class y.before in
    let b : bound (home_setting g a.class) l ≡ p2.0 = p2_bound a.class (bound (home_setting g a.class) l) p2 (sym y.says.p2_is ∙ e) in
    let below = y.says.p2_below in
    record {
      last = ap (λ n. n % 64) (sym b) ∙ mul-add-mod_self_right (clock (home g.catalogue a.class) l).ticks 64 63;
      below = omega arith;
      above = λ c t k less.
          let x = start_in g log c sound h t in
          let m = earlier_start g log c a x y (ap (home g.catalogue) k) less in
          let i = stamp_in m.0 (at_home g c.class x.before) c.class (txn_no c.txn) c.number (class_no c.class) (time_at c.ts) c.p2 c.uses x.sends in
          let there : slice_get (stamps l) i.0 ≡ Some c.ts = subst (λ w. slice_get (stamps w) i.0 ≡ Some c.ts) (sym m.1) i.1 in
          let r = most_at (bound (home_setting g a.class) l) (stamps l) i.0 c.ts y.says.p2_above_stamps there in
          (subst (λ w. c.ts ≤ w) b r, promise_below g log c a x y p2.0 c.p2 refl (ap (home g.catalogue) k) less b);
    }

pub keeps_starts : (g : Input) (log : Log) (eras : Eras) → IsSoundCatalogue g.catalogue → IsPermitted g log → AreErasOf g log eras
    → KeepsStarts g.catalogue eras g.txns (history log)
keeps_starts g log eras sound h are = record {
  submitted = submitted_of g log eras sound h are;
  one_submit = λ n j k. one_submit g log n j k h;
  numbered = numbered g log sound h;
  time = λ a s. (let x = start_in g log a sound h s in let l = x.says.p2_below in omega arith);
  one_time = one_time g log eras sound h are;
  rise = λ a b s t e l. stamp_below g log a b (start_in g log a sound h s) (start_in g log b sound h t) (ap (home g.catalogue) e) l;
  in_turn = in_turn g log sound h;
  after_earlier = after_earlier g log eras sound h are;
  one_commit = one_commit g log sound h;
  by_last = by_last g log sound h;
  bound_there = λ a s. (let x = start_in g log a sound h s in ap is_some x.says.p2_is ∙ some_p2 a.class _);
  bound = bound_of_start g log sound h;
}
