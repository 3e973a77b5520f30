use Rattle.sdd_short_runs.proofs.All.{FitsTxn, ap, effect, effects_in_turn, length, lent_txns, ◌∙◌}
use Rattle.sdd_short_runs.proofs.Counterexamples.{all_there, as_many, refuted}
use Rattle.sdd_short_runs.proofs.Kept.{all_of_run, all_succeed}
use Rattle.sdd_short_runs.proofs.Replies.{of_short_run, some_found}
use Rattle.sdd_short_runs.proofs.finding.has_none.Goals as goal

pub returns-clause-none : goal.returns-clause-none
returns-clause-none c = λ none e order.
    refuted c.args.catalogue.now c.args.short.now.outer.now (lent_txns c.args.short.now.inner.items) (lent_txns c.as_slice.result.now)
    c.args.effects.now c.args.base.now.value
    c.as_slice-2.result.now c.as_slice-3.result.now e c.in_ok-found.found (ap lent_txns c.as_slice.ensures.value ∙ c.in_ok-txns.ensures)
    (c.as_slice-2.ensures.value ∙ c.in_ok-changes.ensures)
    (c.as_slice-3.ensures.value ∙ c.in_ok-left.ensures)
    (c.in_ok-found.ensures.order c.args.short.now.outer.now e) none order

pub returns-clause-order : goal.returns-clause-order
returns-clause-order c = λ none e.
    of_short_run c.args.catalogue.now c.args.short.now.outer.now (lent_txns c.args.short.now.inner.items) (lent_txns c.as_slice.result.now)
    c.args.effects.now c.args.base.now.value
    c.as_slice-3.result.now e (ap lent_txns c.as_slice.ensures.value ∙ c.in_ok-txns.ensures)
    (c.as_slice-3.ensures.value ∙ c.in_ok-left.ensures)
    (c.in_ok-found.ensures.replies (some_found c.in_ok-found.found none) c.args.short.now.outer.now e)

pub has_order-requires-clause-tried : goal.has_order-requires-clause-tried
has_order-requires-clause-tried c =
    let cat = c.args.catalogue.now in
    let outer = c.args.short.now.outer.now in
    let inner = lent_txns c.args.short.now.inner.items in
    let texts = ap lent_txns c.as_slice.ensures.value ∙ c.in_ok-txns.ensures in
    record {
      sorted = c.requires.sorted;
      fit = all_of_run (FitsTxn cat) outer inner (lent_txns c.as_slice.result.now) texts c.requires.outer c.requires.inner;
      succeed = all_succeed cat (effect cat c.args.base.now.value outer) (effects_in_turn cat c.args.base.now.value inner) c.args.effects.now
          c.requires.committed.are c.requires.committed.commit;
      as_many = as_many cat c.args.base.now.value outer inner c.as_slice.result.now c.args.effects.now texts c.requires.committed.are;
    }

pub has_order-requires-clause-there : goal.has_order-requires-clause-there
has_order-requires-clause-there c =
    let cat = c.args.catalogue.now in
    let outer = c.args.short.now.outer.now in
    let inner = lent_txns c.args.short.now.inner.items in
    let texts = ap lent_txns c.as_slice.ensures.value ∙ c.in_ok-txns.ensures in
    all_there c.as_slice-3.result.now (length c.args.effects.now) (length c.as_slice.result.now)
    (c.as_slice-3.ensures.value ∙ c.in_ok-left.ensures)
    (as_many cat c.args.base.now.value outer inner c.as_slice.result.now c.args.effects.now texts c.requires.committed.are)
