use Rattle.sdd_short_runs.proofs.All.{BeginsWith, Contains, Contains-from_filter, Contains-get_or, HasOrder, HasReplyOrder, IfOk-weaker, [], ap, arith, database_with, effect_at, eq-eqb, eqb-true, last_database, length, nil_from_length, not, slice_index_or, subst, sym, take_all, true, txn_at, without, ℕ, ◌==◌, ◌∙◌, ◌≡◌}
use Rattle.sdd_short_runs.proofs.Beginnings.{first_of, none_left}
use Rattle.sdd_short_runs.proofs.Replies.{no_numbers}
use Rattle.sdd_short_runs.proofs.Searching.{none_more, without_less}
use Rattle.std.proofs.lemmas.Bool.{false≢true}
use Rattle.sdd_short_runs.proofs.orders.+has_order.Goals as goal
use Rattle.sdd_short_runs.proofs.orders.+has_order.Goals.{in-Some+in_ok-found-in-Some+else-found, in-None}

pub returns-then-is_empty-clause-order : goal.returns-then-is_empty-clause-order
returns-then-is_empty-clause-order t c =
    let run = c.args.run.now in
    let cat = run.catalogue.now in
    let empty : c.args.left.now ≡ [] = nil_from_length c.args.left.now (eqb-true (length c.args.left.now) 0 (sym c.is_empty.ensures ∙ c.if-is_empty.true)) in
    IfOk-weaker c.is_last.result (λ same. last_database run ≡ database_with run c.args.made.now → same ≡ true) _
    (λ same h text e has.
    h (none_left cat (txn_at run text) (effect_at run e) (last_database run) (database_with run c.args.made.now)
    (subst (HasOrder cat (txn_at run text) (effect_at run e) (last_database run) (database_with run c.args.made.now)) empty has)))
    c.is_last.ensures

pub returns-then-is_empty-clause-replies : goal.returns-then-is_empty-clause-replies
returns-then-is_empty-clause-replies t c =
    let run = c.args.run.now in
    let cat = run.catalogue.now in
    let empty : c.args.left.now ≡ [] = nil_from_length c.args.left.now (eqb-true (length c.args.left.now) 0 (sym c.is_empty.ensures ∙ c.if-is_empty.true)) in
    IfOk-weaker c.is_last.result (λ same. last_database run ≡ database_with run c.args.made.now → same ≡ true) _
    (λ same h yes text e.
    subst (HasReplyOrder cat (txn_at run text) (effect_at run e) (database_with run c.args.made.now)) (sym empty)
    (no_numbers cat (txn_at run text) (effect_at run e) (database_with run c.args.made.now)))
    c.is_last.ensures

pub has_order-requires : goal.has_order-requires
has_order-requires t c =
    let left = c.args.left.now in
    let number : ℕ = slice_index_or left c.numbers.number-index 0 in
    let rest : c.as_slice.result.now ≡ without left number = c.as_slice.ensures.value ∙ (rw c.in-Some.is at c.in_ok-begun.ensures.left) in
    let less = without_less left number (Contains-get_or left c.numbers.number-index 0 c.numbers-test.true) in
    let long = ap length rest in (
      omega (arith, less, long),
      (
        c.requires.tried,
        λ n h. c.requires.there n (Contains-from_filter (λ (m : ℕ). not (m == number)) left n (subst (λ z. Contains z n) rest h)).0,
      ),
    )

pub begin_with-requires : goal.begin_with-requires
begin_with-requires t c =
    record {
      tried = c.requires.tried;
      there = c.requires.there (slice_index_or c.args.left.now c.numbers.number-index 0)
          (Contains-get_or c.args.left.now c.numbers.number-index 0 c.numbers-test.true);
    }

pub numbers-preserved : goal.numbers-preserved
numbers-preserved t c = λ text e.
    let run = c.args.run.now in
    let cat = run.catalogue.now in
    let left = c.args.left.now in
    none_more (BeginsWith cat (txn_at run text) (effect_at run e) (last_database run) (database_with run c.args.made.now) left) left c.numbers.number-index
    c.numbers-test.true (c.numbers.invariant text e)
    (elim c.match-branch-2.branch [
      | in-Some+in_ok-found-in-Some+else-found w ↦ λ begins.
          false≢true (sym w.if-found.false ∙ w.in_ok-found-in-Some.ensures.order text e
          (subst (λ d. HasOrder cat (txn_at run text) (effect_at run e) (last_database run) (database_with run d) w.as_slice.result.now) (sym w.as_slice-in-Some.ensures.value)
          (subst (HasOrder cat (txn_at run text) (effect_at run e) (last_database run) (database_with run w.in-Some.begun.made.items)) (sym w.as_slice.ensures.value)
          ((rw w.in-Some.is at c.in_ok-begun.ensures.order) text e begins))))
      | in-None w ↦ (rw w.in-None.is at c.in_ok-begun.ensures.none) text e
    ])

pub returns-clause-order : goal.returns-clause-order
returns-clause-order t c = λ text e has.
    let run = c.args.run.now in
    let cat = run.catalogue.now in
    let left = c.args.left.now in
    let some : left ≡ [] → ⊥ = λ empty. false≢true (sym c.if-is_empty.false ∙ c.is_empty.ensures ∙ eq-eqb (length left) 0 (ap length empty)) in
    let first = first_of cat (txn_at run text) (effect_at run e) (last_database run) (database_with run c.args.made.now) left some has in
    let end = c.numbers-test.false in
    absurd (c.numbers.invariant text e first.0
    (subst (λ z. Contains z first.0) (sym (take_all c.numbers.number-index left (omega (arith, end)))) first.1.there) first.1)
