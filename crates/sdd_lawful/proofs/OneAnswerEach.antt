-- The Answers and Commits of a history: one Answer of an attempt at a module, after its Start, and before its Commit one
-- at each module that is asked.
use Rattle.sdd_lawful.proofs.All.{Act, Answer, AnsweredBefore, Asks, Attempt, Catalogue, Committed, D, Does, HasCommit, Input, IsAttempt, IsCommitted, IsPermitted, IsRecordAt, IsSoundCatalogue, List, Log, Option, Records, Some, StartedBefore, [], answered_once, ap, arith, ascending, by_no_class, by_use, commit_act, commit_answered, cons_option, contains, contains_at, dm_no, each_in_range, filter_map, found_has, fragments_in, has_copy, head, history, home, home_of, in_ascending, inl, inr, length, lower_same_higher, modules_of, numbers_to, only_right, or_left, or_right, range_with_len, reads_at, refl, same_number, same_or_not, setting_of, subst, sym, true, txn_no, ℕ, ◌++◌, ◌+◌, ◌<◌, ◌==◌, ◌∙◌, ◌∷◌, ◌≡◌, ◌≤◌}
use Rattle.sdd_lawful.proofs.Answered.{IsAnswerIn, answer_in, answer_made, answer_of_some, answer_rec}
use Rattle.sdd_lawful.proofs.Beginnings.{in_numbers}
use Rattle.sdd_lawful.proofs.Classes.{further_back}
use Rattle.sdd_lawful.proofs.Commits.{CommitContent, begun, commit_in}
use Rattle.sdd_lawful.proofs.Committed.{committed_in}
use Rattle.sdd_lawful.proofs.Homes.{home_small}
use Rattle.sdd_lawful.proofs.Places.{entries_in_order, place_rises, recorded_there}

not_behind : {A : Type 0} (g : Input) (log : Log) (a : Attempt) (d j k : ℕ) → IsSoundCatalogue g.catalogue → IsPermitted g log
    → IsAnswerIn g log a d j → IsAnswerIn g log a d k → j < k → A
not_behind g log a d j k sound h x y l =
    let z = entries_in_order log j k (answer_rec a d) (answer_rec a d) (answer_made g log a d j x) (answer_made g log a d k y) l in
    grind (arith, answered_once, head, subst (IsPermitted g) z.is y.permitted.1, home_small g.catalogue sound a.class)

answer_at : (g : Input) (log : Log) (a : Attempt) (n number d k : ℕ) → IsSoundCatalogue g.catalogue → IsPermitted g log → IsAttempt (history log) a
    → a.txn ≡ n → a.number ≡ number → IsRecordAt (history log) k (Answer (txn_no n) number (dm_no d)) → IsAnswerIn g log a d k
answer_at g log a n number d k sound h s e f st = grind (arith, answer_in)

pub one_answer : (g : Input) (log : Log) → IsSoundCatalogue g.catalogue → IsPermitted g log → (n number d j k : ℕ)
    → IsRecordAt (history log) j (Answer (txn_no n) number (dm_no d)) → IsRecordAt (history log) k (Answer (txn_no n) number (dm_no d)) → j ≡ k
one_answer g log sound h n number d j k s t =
    let x = answer_of_some g log n number d j h s in
    let a : Attempt = x.attempt in
    let y = answer_at g log a n number d k sound h x.started x.txn_is x.number_is t in
    elim (lower_same_higher j k) [
      | inl l ↦ not_behind g log a d j k sound h x.answer y l
      | inr r ↦ elim r [ inl e ↦ e | inr l ↦ not_behind g log a d k j sound h y x.answer l ]
    ]

pub answer_after : (g : Input) (log : Log) → IsSoundCatalogue g.catalogue → IsPermitted g log → (n number d k : ℕ)
    → IsRecordAt (history log) k (Answer (txn_no n) number (dm_no d)) → StartedBefore (history log) n number k
answer_after g log sound h n number d k s =
    let x = answer_of_some g log n number d k h s in
    let before = x.answer.read.start_before in let place = x.answer.place_is in
    record { attempt = x.attempt; started = x.started; txn_is = x.txn_is; number_is = x.number_is; before = omega arith }

pub commit_after : (g : Input) (log : Log) → IsSoundCatalogue g.catalogue → IsPermitted g log → (n number k : ℕ) → HasCommit (history log) n number k
    → StartedBefore (history log) n number k
commit_after g log sound h n number k c =
    let content : CommitContent = record { reply = c.reply; changes = c.changes; values = c.values; rows = c.rows } in
    let b = begun g log n number k content (commit_in g log n number k content sound h c.is_recorded) in
    record { attempt = b.attempt; started = b.started; txn_is = b.txn_is; number_is = b.number_is; before = b.before }

-- the modules that are asked

contains_made : (f : ℕ → Option ℕ) (xs : List ℕ) (x y : ℕ) → contains xs x ≡ true → f x ≡ Some y → contains (filter_map f xs) y ≡ true
contains_made f [] x y c e = cc
contains_made f (z ∷ xs) x y c e = elim (same_or_not z x) [
  | inl p ↦ (let q : f z ≡ Some y = ap f p ∙ e in rw q (or_left (y == y) (contains (filter_map f xs) y) (same_number y)))
  | inr p ↦ grind (arith, only_right, contains, cons_option, filter_map, or_right, (contains_made f xs x y (only_right (z == x) (contains xs x) p c) e))
]

zero_asks : (cat : Catalogue) (a : Attempt) (f d : ℕ) → a.class ≡ 0 → reads_at cat a.class f ≡ Some d
    → contains (modules_of cat a.class (ascending (fragments_in a.uses))) d ≡ true
zero_asks cat a f d p e =
    let q : (a.class == 0) ≡ true = ap (λ y. y == 0) p in
    let w : (1 ≤ d) × (d < 1 + cat.dms) = found_has (λ x. (1 ≤ x) × (x < 1 + cat.dms)) (λ dm. has_copy cat dm f) (range_with_len 1 cat.dms) d
    (each_in_range 1 cat.dms) (rw q at e) in
    let i = in_numbers 1 cat.dms d w.0 w.1 in
    rw q (contains_at (numbers_to cat.dms) i.0 d i.1)

pub asks_module : (cat : Catalogue) (a : Attempt) (d : ℕ) → Asks cat a d → contains (modules_of cat a.class (ascending (fragments_in a.uses))) d ≡ true
asks_module cat a d (by_no_class e m) =
    let hi = m.1 in let i = in_numbers 1 cat.dms d m.0 (omega arith) in
    let p : (a.class == 0) ≡ true = ap (λ y. y == 0) e in rw p (contains_at (numbers_to cat.dms) i.0 d i.1)
asks_module cat a d (by_use f r e) = elim (same_or_not a.class 0) [
  | inl p ↦ zero_asks cat a f d p e
  | inr p ↦ rw p (in_ascending (filter_map (reads_at cat a.class) (ascending (fragments_in a.uses))) d
      (contains_made (reads_at cat a.class) (ascending (fragments_in a.uses)) f d (in_ascending (fragments_in a.uses) f r) e))
]

pub answered : (g : Input) (log : Log) → IsSoundCatalogue g.catalogue → IsPermitted g log → (t : Committed) (d : ℕ) → IsCommitted (history log) t
    → Asks g.catalogue t.start d → AnsweredBefore (history log) t.start d t.place
answered g log sound h t d ct asks =
    let c = committed_in g log t sound h ct in
    let asked = subst (λ us. contains (modules_of g.catalogue t.start.class (ascending (fragments_in us))) d ≡ true) c.uses_are
    (asks_module g.catalogue t.start d asks) in
    let a = commit_answered g t.start.class c.before c.bases c.running (dm_no d) c.permitted c.active_is asked in
    let ans : Act = Records t.start.class (Answer a.txn a.attempt (home_of (setting_of g (D (dm_no d)))).dm) a.sends in
    let f = further_back log c.later c.before (Does (home g.catalogue t.start.class) (commit_act g.catalogue c.bases t.start.class c.running))
    (Does (D (dm_no d)) ans) a.later a.before c.is a.is in
    let there : IsRecordAt (history log) (length (history a.before)) (Answer a.txn a.attempt (dm_no d)) = subst
    (λ l. IsRecordAt (history l) (length (history a.before)) (Answer a.txn a.attempt (dm_no d))) (sym f.1)
    (recorded_there f.0 (Does (D (dm_no d)) ans) a.before (Answer a.txn a.attempt (dm_no d)) refl) in
    let rises = place_rises a.later (Does (D (dm_no d)) ans) a.before (Answer a.txn a.attempt (dm_no d)) refl in
    let size : length (history c.before) ≡ length (history (a.later ++ Does (D (dm_no d)) ans ∷ a.before)) = ap (λ l. length (history l)) a.is in
    let place = c.place_is in
    grind arith
