-- Where all is finished, every transaction that was submitted is committed, and nothing is pending.
use Rattle.sdd_progress.proofs.All.{Act, AllCommitted, AreNumbered, Bool, Catalogue, Change, Commit, CommitContent, Did, Does, HasSoundLists, History, Input, IsClass, IsEraOf, IsFinished, IsNotLeft, IsPermitted, IsRecordAt, IsSubmitIn, IsSubmitted, IsSubmittedIn, List, Log, Mark, None, Option, Queued, Rec, Records, Reply, Site, Some, Submit, Submits, Submitted, Submitting, T, TmNo, Txn, WasCommitted, [], all_new, ap, arith, class_at, class_for, commit_act_in, commit_rec, cons_none, cons_option, covered, covers_home, dec_le, false, filter_map, for_class, further_back, given_at, history, home, home_by, home_fair, home_setting, inl, inr, is_committed, length, list_any, member_there, nth_era, option_map, or_left, or_right, permitted_before, place_of_act, positive, queue, queue_is, queued, recorded_there, redeclares, refl, same_or_not, slice_get, submit_in, submit_local, submits_of, submitted_in, subst, suc, sym, tm_no, true, txn_no, zero, ℕ, ◌++◌, ◌-◌, ◌∙◌, ◌∷◌, ◌≡◌, ◌⊎◌}
use Rattle.sdd_progress.proofs.SinceRedeclare.{redeclares_back}
use Rattle.sdd_obligations.specs.All.{txn_at}
use Rattle.sdd_obligations.specs.logs.Due.{home_of}
use Rattle.sdd_obligations.specs.invariants.Steps.{starts_of}
use Rattle.sdd_lawful.proofs.Classes.{at_home}

-- the class of a transaction by the list in force is one of the whole catalogue, and run at the transaction's module

class_within : (cat era : Catalogue) → IsEraOf cat era → (txn : Txn) → IsClass cat (class_for era txn)
class_within cat era h txn = elim (dec_le 1 (class_for era txn)) [
  | yes p ↦ (let to = (covered era txn (class_for era txn) refl p).class.to in let few = h.classes in omega (arith, to, few))
  | no p ↦ omega (arith, p)
]

home_is : (cat era : Catalogue) → IsEraOf cat era → (txn : Txn) (c : ℕ) → c ≡ class_for era txn → home_by c txn ≡ home cat c
home_is cat era h txn c e = elim (same_or_not c 0) [
  | inl p ↦ ap (λ k. home_by k txn) p ∙ ap (home cat) (sym p)
  | inr p ↦ (let from = positive c p in
      let class = (covered era txn c e from).class in
      let same : (class_at era c).tm.0 ≡ txn.tm.0 = covers_home era txn c e from in
      let whole : (class_at cat c).tm.0 ≡ txn.tm.0 = ap (λ (t : TmNo). t.0) (sym (h.home c class.from class.to)) ∙ same in
      let here : home_by c txn ≡ T txn.tm = rw p refl in
      let there : home cat c ≡ T (tm_no (class_at cat c).tm.0) = rw p refl in
      here ∙ ap (λ n. T (tm_no n)) (sym whole) ∙ sym there)
]

-- what is not in the queue is committed

none_kept : {A B : Type 0} (f : A → Option B) (xs : List A) (i : ℕ) (x : A) → filter_map f xs ≡ [] → slice_get xs i ≡ Some x → f x ≡ None
none_kept f [] i x e h = cc
none_kept f (y ∷ xs) zero x e h = let p : y ≡ x = cc in subst (λ z. f z ≡ None) p (cons_none (f y) (filter_map f xs) e).0
none_kept f (y ∷ xs) (suc i) x e h = none_kept f xs i x (cons_none (f y) (filter_map f xs) e).1 h

-- a Commit of the log of a site is one of the history
committed_there : (g : Input) (log : Log) (c n : ℕ) → is_committed c n (at_home g c log) ≡ true → WasCommitted (history log) n
committed_there g log c n e =
    let at : Site = home g.catalogue c in
    let m = commit_act_in c n (at_home g c log) e in
    let t : CommitContent = record { reply = m.reply; changes = m.changes; values = m.values; rows = m.rows } in
    let act : Act = Records c (commit_rec n m.attempt t) m.sends in
    let is : at_home g c log ≡ m.later ++ Did act ∷ m.before =
    m.is ∙ ap (λ j. m.later ++ Did (Records c (commit_rec j m.attempt t) m.sends) ∷ m.before) m.number_is
    in
    let p = place_of_act g at log m.later act m.before is in
    let is_recorded : IsRecordAt (history log) (length (history p.rest)) (commit_rec n m.attempt t) =
    subst (λ l. IsRecordAt (history l) (length (history p.rest)) (commit_rec n m.attempt t)) (sym p.is)
    (recorded_there p.later (Does at act) p.rest (commit_rec n m.attempt t) refl) in
    record {
      place = length (history p.rest);
      number = m.attempt;
      commit = record { reply = m.reply; changes = m.changes; values = m.values; rows = m.rows; is_recorded = is_recorded };
    }

-- the text of what is given
record HasText (g : Input) (n : ℕ) : Type 0 where
  text : Txn
  is : txn_at g n ≡ Some text

text_of : (g : Input) (log : Log) (n k : ℕ) → IsPermitted g log → AreNumbered g log → (s : IsSubmitIn g log n k) → HasText g n
text_of g log n k h numbered s =
    let x = given_at g s.rest s.at n (permitted_before g s.later (Submitted s.at n ∷ s.rest) (subst (IsPermitted g) s.is h)) in
    let b = further_back log s.later s.rest (Submitted s.at n) (Mark (Submitting x.number)) [] x.earlier s.is x.is in
    let r = numbered b.0 x.earlier x.number b.1 in
    let m = member_there (n - 1) g.txns (omega (arith, r.0, r.1, x.number_is)) in
    record { text = m.0; is = m.1 }

-- a submitted transaction came to the module of its class, by the list in force then
pub record IsAtHome (g : Input) (log : Log) (n : ℕ) : Type 0 where
  pub text : Txn
  pub class : ℕ
  pub class_is : IsClass g.catalogue class
  pub later : Log
  pub rest : Log
  pub given : log ≡ later ++ Submitted (home g.catalogue class) n ∷ rest
  pub place : ℕ
  pub there : slice_get (submits_of (home_setting g class) class (at_home g class log)) place ≡ Some (n, text)

pub at_home_by : (g : Input) (log : Log) → IsPermitted g log → HasSoundLists g log → (n c : ℕ) → IsSubmittedIn g log n c
    → (x : IsAtHome g log n) × (x.class ≡ c)
at_home_by g log h lists n c s =
    let x = given_at g s.rest s.at n (permitted_before g s.later (Submitted s.at n ∷ s.rest) (subst (IsPermitted g) s.is h)) in
    let era : Catalogue = (nth_era g (redeclares s.rest)).catalogue in
    let back = redeclares_back s.later (Submitted s.at n ∷ s.rest) in
    let of : IsEraOf g.catalogue era = (lists (redeclares s.rest) (omega (arith, back, ap redeclares s.is))).era in
    let at : s.at ≡ home g.catalogue c =
    x.at_is ∙ (λ j. home_of (nth_era g (sym (ap redeclares x.is) j)).catalogue (s.text_is j))
    ∙ ap (λ k. home_by k s.text) (sym s.class_is) ∙ home_is g.catalogue era of s.text c s.class_is in
    let is : log ≡ s.later ++ Submitted (home g.catalogue c) n ∷ s.rest = s.is ∙ ap (λ a. s.later ++ Submitted a n ∷ s.rest) at in
    let m = submit_local g c n s.text s.later s.rest s.text_is in
    let local : at_home g c log ≡ m.0 ++ Submits n s.text ∷ at_home g c s.rest = ap (at_home g c) is ∙ m.1 in
    let i = submitted_in (home_setting g c) c n s.text m.0 (at_home g c s.rest) (for_class g c s.rest s.text (sym s.class_is)) in
    let there : IsAtHome g log n = record {
      text = s.text;
      class = c;
      class_is = subst (IsClass g.catalogue) (sym s.class_is) (class_within g.catalogue era of s.text);
      later = s.later;
      rest = s.rest;
      given = is;
      place = i.0;
      there = subst (λ l. slice_get (submits_of (home_setting g c) c l) i.0 ≡ Some (n, s.text)) (sym local) i.1;
    } in
    (there, refl)

-- its class, by the list in force when it was submitted
pub submitted_class : (g : Input) (log : Log) → IsPermitted g log → AreNumbered g log → (n k : ℕ) → IsSubmitted (history log) n k
    → (c : ℕ) × IsSubmittedIn g log n c
submitted_class g log h numbered n k submitted =
    let s = submit_in g log n k h submitted in
    let t = text_of g log n k h numbered s in
    let class : ℕ = class_for (nth_era g (redeclares s.rest)).catalogue t.text in
    (class, record { later = s.later; at = s.at; rest = s.rest; is = s.is; text = t.text; text_is = t.is; class_is = refl })

pub submitted_at_home : (g : Input) (log : Log) → IsPermitted g log → HasSoundLists g log → AreNumbered g log
    → (n k : ℕ) → IsSubmitted (history log) n k → IsAtHome g log n
submitted_at_home g log h lists numbered n k submitted =
    let s = submitted_class g log h numbered n k submitted in
    (at_home_by g log h lists n s.0 s.1).0

-- so it is committed, where nothing is left in the queue of its class
pub committed_where_none_queued : (g : Input) (log : Log) (n : ℕ) → IsPermitted g log → (x : IsAtHome g log n)
    → queue (home_setting g x.class) x.class (at_home g x.class log) ≡ [] → WasCommitted (history log) n
committed_where_none_queued g log n h x none =
    let c = x.class in
    let q = queue_is (home_setting g c) c (at_home g c log) (home_fair g c log h) (all_new g (home g.catalogue c) log h) in
    let out : queued c (at_home g c log) (n, x.text) ≡ None =
    none_kept (queued c (at_home g c log)) (submits_of (home_setting g c) c (at_home g c log)) x.place
    (n, x.text) (sym q.is ∙ none) x.there in
    committed_there g log c n (grind arith)

pub all_committed : (g : Input) (log : Log) → IsPermitted g log → HasSoundLists g log → AreNumbered g log → IsFinished g log → AllCommitted (history log)
all_committed g log h lists numbered done n k submitted =
    let x = submitted_at_home g log h lists numbered n k submitted in
    committed_where_none_queued g log n h x (done.no_queue x.class x.class_is)

-- a transaction that was submitted is committed, or stands in the queue of its class

some_kept : {A B : Type 0} (f : A → Option B) (xs : List A) (i : ℕ) (x : A) (y : B) → slice_get xs i ≡ Some x → f x ≡ Some y
    → (j : ℕ) × (slice_get (filter_map f xs) j ≡ Some y)
some_kept f [] i x y h e = cc
some_kept f (z ∷ xs) zero x y h e = let q : z ≡ x = cc in let r : f z ≡ Some y = subst (λ w. f w ≡ Some y) (sym q) e in (0, rw r refl)
some_kept f (z ∷ xs) (suc i) x y h e =
    let r = some_kept f xs i x y h e in
    elim (f z) as (λ o. (j : ℕ) × (slice_get (cons_option o (filter_map f xs)) j ≡ Some y)) [ None ↦ r | Some w ↦ (suc r.0, r.1) ]

pub record IsQueued (g : Input) (log : Log) (n : ℕ) : Type 0 where
  pub class : ℕ
  pub class_is : IsClass g.catalogue class
  pub later : Log
  pub rest : Log
  pub given : log ≡ later ++ Submitted (home g.catalogue class) n ∷ rest
  pub place : ℕ
  pub waiting : Queued
  pub there : slice_get (queue (home_setting g class) class (at_home g class log)) place ≡ Some waiting
  pub number_is : waiting.number ≡ n

pub committed_or_queued : (g : Input) (log : Log) → IsPermitted g log → HasSoundLists g log → AreNumbered g log
    → (n k : ℕ) → IsSubmitted (history log) n k → WasCommitted (history log) n ⊎ IsQueued g log n
committed_or_queued g log permitted lists numbered n k submitted =
    let x = submitted_at_home g log permitted lists numbered n k submitted in
    let c : ℕ = x.class in
    let q = queue_is (home_setting g c) c (at_home g c log) (home_fair g c log permitted) (all_new g (home g.catalogue c) log permitted) in
    let waiting : Queued = record { number = n; text = x.text; tries = starts_of c n (at_home g c log) } in
    elim (is_committed c n (at_home g c log)) as (λ b. is_committed c n (at_home g c log) ≡ b → WasCommitted (history log) n ⊎ IsQueued g log n) [
      | true ↦ λ e. inl (committed_there g log c n e)
      | false ↦ λ e.
          let r = some_kept (queued c (at_home g c log)) (submits_of (home_setting g c) c (at_home g c log)) x.place (n, x.text) waiting x.there (rw e refl) in
          inr (record {
            class = c;
            class_is = x.class_is;
            later = x.later;
            rest = x.rest;
            given = x.given;
            place = r.0;
            waiting = waiting;
            there = ap (λ qs. slice_get qs r.0) q.is ∙ r.1;
            number_is = refl;
          })
    ] refl

-- what is found of what is left is nothing

any_at : (p : ℕ × Rec → Bool) (h : History) (k : ℕ) (r : Rec) → ((event : ℕ) → p (event, r) ≡ true) → IsRecordAt h k r → list_any p h ≡ true
any_at p [] k r f e = cc
any_at p ((event, x) ∷ h) zero r f e = let q : x ≡ r = cc in or_left (p (event, x)) (list_any p h) (subst (λ y. p (event, y) ≡ true) (sym q) (f event))
any_at p (x ∷ h) (suc k) r f e = or_right (p x) (list_any p h) (any_at p h k r f e)

-- a test that each Commit of a committed transaction passes
pub any_commit : (h : History) (p : ℕ × Rec → Bool) (n : ℕ)
    → ((event attempt : ℕ) (reply : Reply) (changes : List Change) (values rows : ℕ) → p (event, Commit (txn_no n) attempt reply changes values rows) ≡ true)
    → WasCommitted h n → list_any p h ≡ true
any_commit h p n f d = grind (arith, any_at)

none_found : {A B : Type 0} (f : A → Option B) (xs : List A) → ((k : ℕ) (x : A) → slice_get xs k ≡ Some x → f x ≡ None) → filter_map f xs ≡ []
none_found f [] h = refl
none_found f (x ∷ xs) h = ap (λ o. cons_option o (filter_map f xs)) (h 0 x refl) ∙ none_found f xs (λ k y e. h (suc k) y e)

pub not_left : (h : History) → AllCommitted h → (k : ℕ) (x : ℕ × Rec) → slice_get h k ≡ Some x → IsNotLeft h x
not_left h all k (event, Submit n) e = all n.0 k (ap (option_map (λ (y : ℕ × Rec). y.1)) e)
not_left h all k (event, _) e = tt

pub none_left : {A : Type 0} (h : History) (f : ℕ × Rec → Option A) → AllCommitted h → ((x : ℕ × Rec) → IsNotLeft h x → f x ≡ None) → filter_map f h ≡ []
none_left h f all g = none_found f h (λ k x e. g x (not_left h all k x e))
