-- Tests that tell that a history keeps the law of Answers and Commits.
use Rattle.sdd_history_examples.proofs.All.{AllByRecursion, Answer, AnsweredBefore, Asks, Attempt, Bool, Catalogue, Committed, Contains, History, IsCommitted, IsRecordAt, KeepsAnswers, List, None, Option, RelNo, Row, Some, Txn, base_of, by_use, committed, dm_no, each_has, effect, eq-eqb, eqb-true, fragments_in, is_answer, is_answered, list_all, list_any, numbers_to, passes_before, reads_at, refl, subst, take, true, txn_at, txn_no, ℕ, ◌==◌, ◌≡◌}
use Rattle.sdd_history_examples.proofs.Each.{if_so, so, each, all_pairs, each_pair, each_number, each_to}
use Rattle.sdd_history_examples.proofs.Listed.{CommitAt, AnswerAt, commits, in_commits, answers, in_answers, is_started, started_before}
use Rattle.sdd_laws.specs.Deeds.Asks.{by_no_class}

-- whether an attempt is answered at a module before a place
abbrev pub is_answered_before : History → Attempt → ℕ → ℕ → Bool
is_answered_before h a d k = list_any (λ e. is_answer a.txn a.number d e.1) (take k h)

answered_before : (h : History) (a : Attempt) (d k : ℕ) → is_answered_before h a d k ≡ true → AnsweredBefore h a d k
answered_before h a d k e =
    let r = passes_before (is_answer a.txn a.number d) h k e in
    record { place = r.place; answered = is_answered h a.txn a.number d r.place r.rec r.is_recorded r.passes; before = r.before }

-- whether it is answered before its Commit where its class reads a fragment
abbrev answered_for : Catalogue → History → Committed → ℕ → Bool
answered_for cat h t f =
    elim (reads_at cat t.start.class f) [
      | None ↦ true
      | Some d ↦ is_answered_before h t.start d t.place
    ]

abbrev same_answer : AnswerAt → AnswerAt → Bool
same_answer x y = if_so (x.txn == y.txn) (if_so (x.number == y.number) (if_so (x.dm == y.dm) (x.place == y.place)))

-- the Commit tells the effect of the transaction's text on the database of its snapshots
abbrev TellsEffectOf : Catalogue → List (RelNo × Row) → History → Committed → Option Txn → Type 0
TellsEffectOf cat rows h t None = Unit {0}
TellsEffectOf cat rows h t (Some txn) = effect cat (base_of cat rows h t.start) txn ≡ record { reply = t.reply; changes = t.changes }

abbrev pub TellsEffect : Catalogue → List (RelNo × Row) → List Txn → History → Committed → Type 0
TellsEffect cat rows txns h t = TellsEffectOf cat rows h t (txn_at txns t.start.txn)

pub record PassAnswers (cat : Catalogue) (rows : List (RelNo × Row)) (txns : List Txn) (h : History) : Type 0 where
  pub one_answer : all_pairs same_answer (answers h) (answers h) ≡ true
  pub answer_after : list_all (λ x. is_started h x.txn x.number x.place) (answers h) ≡ true
  pub commit_after : list_all (λ x. is_started h x.txn x.number x.place) (commits h) ≡ true
  pub answered_everywhere : list_all (λ t. if_so (t.start.class == 0) (list_all (λ d. is_answered_before h t.start d t.place) (numbers_to cat.dms))) (committed h) ≡ true
  pub answered : list_all (λ t. list_all (answered_for cat h t) (fragments_in t.start.uses)) (committed h) ≡ true
  pub effects : AllByRecursion (TellsEffect cat rows txns h) (committed h)

tells : (cat : Catalogue) (rows : List (RelNo × Row)) (txns : List Txn) (h : History) (t : Committed) (txn : Txn)
    → txn_at txns t.start.txn ≡ Some txn → TellsEffect cat rows txns h t
    → effect cat (base_of cat rows h t.start) txn ≡ record { reply = t.reply; changes = t.changes }
tells cat rows txns h t txn e r = subst (TellsEffectOf cat rows h t) e r

module _ (cat : Catalogue) (rows : List (RelNo × Row)) (txns : List Txn) (h : History)
    (there : (t : Committed) → IsCommitted h t → Contains (committed h) t) (pass : PassAnswers cat rows txns h)
  where
    one_answer : (n number d j k : ℕ) → IsRecordAt h j (Answer (txn_no n) number (dm_no d)) → IsRecordAt h k (Answer (txn_no n) number (dm_no d)) → j ≡ k
    one_answer n number d j k p q =
        let e = each_pair same_answer (answers h) (answers h) _ _ pass.one_answer (in_answers h n number d j p) (in_answers h n number d k q) in
        let u = so (n == n) (if_so (number == number) (if_so (d == d) (j == k))) e (eq-eqb n n refl) in
        let v = so (number == number) (if_so (d == d) (j == k)) u (eq-eqb number number refl) in
        eqb-true j k (so (d == d) (j == k) v (eq-eqb d d refl))

    answered : (t : Committed) (d : ℕ) → IsCommitted h t → Asks cat t.start d → AnsweredBefore h t.start d t.place
    answered t d c (by_use f r e) =
        let all = each (λ (t : Committed). list_all (answered_for cat h t) (fragments_in t.start.uses)) (committed h) t pass.answered (there t c) in
        let one = each_number (answered_for cat h t) (fragments_in t.start.uses) f all r in
        answered_before h t.start d t.place
        (subst (λ (o : Option ℕ). elim o [ None ↦ true | Some d ↦ is_answered_before h t.start d t.place ] ≡ true) e one)
    answered t d c (by_no_class z m) =
        let u = each (λ (t : Committed). if_so (t.start.class == 0) (list_all (λ d. is_answered_before h t.start d t.place) (numbers_to cat.dms)))
        (committed h) t pass.answered_everywhere (there t c) in
        let all = so (t.start.class == 0) (list_all (λ d. is_answered_before h t.start d t.place) (numbers_to cat.dms)) u (eq-eqb t.start.class 0 z) in
        answered_before h t.start d t.place (each_to (λ d. is_answered_before h t.start d t.place) cat.dms d all m.0 m.1)

    pub keeps_answers : KeepsAnswers cat rows txns h
    keeps_answers =
        record {
          one_answer = one_answer;
          answer_after = λ n number d k s.
              started_before h n number k
              (each (λ (x : AnswerAt). is_started h x.txn x.number x.place) (answers h) _ pass.answer_after (in_answers h n number d k s));
          commit_after = λ n number k c.
              started_before h n number k
              (each (λ (x : CommitAt). is_started h x.txn x.number x.place) (commits h) _ pass.commit_after (in_commits h n number k c));
          answered = answered;
          effect_is = λ t txn c e. tells cat rows txns h t txn e (each_has (TellsEffect cat rows txns h) (committed h) t pass.effects (there t c));
        }
