use Rattle.sdd_exec.proofs.All.{Has, Has-get_or, IsExplored, IsExploredAt, IsSoundAt, List, NoneComesAt, Row, Some, arith, length, placed, slice_get, slice_index_or, subst, sym, ℕ, ◌∙◌, ◌≡◌}
use Rattle.sdd_exec.proofs.Stepped.{all_at, answered_at, dead_at, dead_explored_at, explored_at, got_at, known_at, more_at, neither, none_all_at, none_at, none_if, none_more_at, of_all, remembered_at, remembered_dead_at, sound_at, untold_at, whole_at}
use Rattle.sdd_exec.proofs.exploring.+explore.Goals as goal

pub returns-then-node-clause-explored : goal.returns-then-node-clause-explored
returns-then-node-clause-explored t c =
    of_all c.in_ok-told.told
    (whole_at c.args.parts.now c.args.conds.now c.args.out.now c.args.nodes.now c.args.place c.in-Some.node.now c.args.choice.now c.requires.nodes
    (got_at c.args.nodes.now c.args.place c.in-Some.node.now c.in-Some.ensures.lookup.3.0 c.in-Some.ensures.lookup.1)
    c.tell.new.state.found c.if-node.true c.in_ok-told.ensures.told)

pub returns-then-node-clause-none : goal.returns-then-node-clause-none
returns-then-node-clause-none t c =
    none_if c.in_ok-told.told _ _
    (λ told. untold_at c.args.parts.now c.args.conds.now c.args.out.now c.args.nodes.now c.args.place c.in-Some.node.now c.args.choice.now c.requires.nodes
    (got_at c.args.nodes.now c.args.place c.in-Some.node.now c.in-Some.ensures.lookup.3.0 c.in-Some.ensures.lookup.1)
    c.if-node.true told)
    c.in_ok-told.ensures.none

pub returns-then-branch-clause-explored : goal.returns-then-branch-clause-explored
returns-then-branch-clause-explored t c =
    dead_explored_at c.args.parts.now c.args.conds.now c.args.out.now c.args.nodes.now c.args.place c.in-Some.node.now c.args.choice.now c.requires.nodes
    (got_at c.args.nodes.now c.args.place c.in-Some.node.now c.in-Some.ensures.lookup.3.0 c.in-Some.ensures.lookup.1)
    c.args.state.now c.requires.kept (c.in_ok-is_dead.ensures c.if-branch.true)

pub returns-then-branch-clause-none : goal.returns-then-branch-clause-none
returns-then-branch-clause-none t c =
    λ none. dead_at c.args.parts.now c.args.conds.now c.args.out.now c.args.nodes.now c.args.place c.in-Some.node.now c.args.choice.now c.requires.nodes
    (got_at c.args.nodes.now c.args.place c.in-Some.node.now c.in-Some.ensures.lookup.3.0 c.in-Some.ensures.lookup.1)
    c.args.state.now c.requires.kept (c.in_ok-is_dead.ensures c.if-branch.true)

pub returns-then-branch-2-clause-explored : goal.returns-then-branch-2-clause-explored
returns-then-branch-2-clause-explored t c =
    known_at c.args.parts.now c.args.conds.now c.args.out.now c.args.nodes.now c.args.place c.in-Some.node.now c.args.choice.now c.requires.nodes
    (got_at c.args.nodes.now c.args.place c.in-Some.node.now c.in-Some.ensures.lookup.3.0 c.in-Some.ensures.lookup.1)
    c.args.state.now c.requires.kept (c.in_ok-is_known.ensures c.if-branch-2.true)

pub loop-row-init : goal.loop-row-init
loop-row-init t c = record {
  kept = c.requires.kept;
  still = λ row has. has;
  done = λ s there met agrees has. absurd has;
  none = λ untold s there met agrees has. has;
}

pub explore-requires : goal.explore-requires
explore-requires t c =
    let parts = c.args.parts.now in
    let is : slice_get c.args.nodes.now c.args.place ≡ Some c.in-Some.node.now =
    got_at c.args.nodes.now c.args.place c.in-Some.node.now c.in-Some.ensures.lookup.3.0 c.in-Some.ensures.lookup.1 in
    let next = c.in-Some-get.next.now in
    let listed : Has c.deref.result.now next =
    subst (Has c.deref.result.now) (sym c.in-Some-get.ensures.lookup.1)
    (Has-get_or c.deref.result.now c.in_ok-best.best next c.in-Some-get.ensures.lookup.3.0) in
    let has : Has c.in-Some.node.now.nexts.items next = rw c.deref.ensures.value at listed in
    let place : ℕ = slice_index_or c.in_ok-places.places.now c.loop-row.row-index 0 in
    let made : c.as_slice.result.now ≡ placed (length parts) c.args.choice.now next.part place =
    c.as_slice.ensures ∙ (rw c.count.ensures at c.in_ok-longer.ensures) in (
      omega arith,
      (
        c.requires.nodes,
        (
          c.loop-row.invariant.kept,
          subst (λ (d : List ℕ). IsSoundAt parts c.args.conds.now c.args.nodes.now next.node d) (sym made)
              (sound_at parts c.args.conds.now c.args.out.now c.args.nodes.now c.args.place c.in-Some.node.now c.args.choice.now c.requires.nodes is next has
              (c.is_led.ensures.led c.if-not-is_led.false) place c.requires.sound
              (subst (λ (l : List ℕ). Has l place) c.in_ok-places.ensures
              (Has-get_or c.in_ok-places.places.now c.loop-row.row-index 0 c.loop-row-test.true))),
        ),
      ),
    )

pub returns-then-branch-3-clause-explored : goal.returns-then-branch-3-clause-explored
returns-then-branch-3-clause-explored t c =
    answered_at c.args.parts.now c.args.conds.now c.args.out.now c.args.nodes.now c.args.place c.in-Some.node.now c.args.choice.now c.requires.nodes
    (got_at c.args.nodes.now c.args.place c.in-Some.node.now c.in-Some.ensures.lookup.3.0 c.in-Some.ensures.lookup.1)
    c.explore.new.state c.in_ok-more.ensures.kept (c.in_ok-is_answered.ensures c.if-branch-3.true)

pub loop-row-preserved : goal.loop-row-preserved
loop-row-preserved t c =
    let parts = c.args.parts.now in
    let is : slice_get c.args.nodes.now c.args.place ≡ Some c.in-Some.node.now =
    got_at c.args.nodes.now c.args.place c.in-Some.node.now c.in-Some.ensures.lookup.3.0 c.in-Some.ensures.lookup.1 in
    let next = c.in-Some-get.next.now in
    let listed : Has c.deref.result.now next =
    subst (Has c.deref.result.now) (sym c.in-Some-get.ensures.lookup.1)
    (Has-get_or c.deref.result.now c.in_ok-best.best next c.in-Some-get.ensures.lookup.3.0) in
    let has : Has c.in-Some.node.now.nexts.items next = rw c.deref.ensures.value at listed in
    let place : ℕ = slice_index_or c.in_ok-places.places.now c.loop-row.row-index 0 in
    let made : c.as_slice.result.now ≡ placed (length parts) c.args.choice.now next.part place =
    c.as_slice.ensures ∙ (rw c.count.ensures at c.in_ok-longer.ensures) in
    record {
      kept = c.in_ok-more.ensures.kept;
      still = λ row before. c.in_ok-more.ensures.still row (c.loop-row.invariant.still row before);
      done = more_at c.args.parts.now c.args.conds.now c.args.out.now c.args.nodes.now c.args.place
          c.in-Some.node.now c.args.choice.now c.requires.nodes is next has
          (c.is_led.ensures.led c.if-not-is_led.false) c.in_ok-places.places.now c.loop-row.row-index 0 c.loop-row.state.found c.explore.new.state.found
          (c.is_led.ensures.there c.if-not-is_led.false) c.loop-row-test.true c.in_ok-more.ensures.still c.loop-row.invariant.done
          (subst (λ (d : List ℕ). IsExploredAt c.args.parts.now c.args.conds.now c.args.out.now c.args.nodes.now next.node d c.explore.new.state.found) made
          (rw c.in-Some-2.is at c.in_ok-more.ensures.explored));
      none = λ untold.
          let both = neither c.loop-row.came c.in-Some-2.more (sym c.is_either-came.ensures ∙ untold) in
          none_more_at c.args.parts.now c.args.conds.now c.args.out.now c.args.nodes.now c.args.place
          c.in-Some.node.now c.args.choice.now c.requires.nodes is next has
          (c.is_led.ensures.led c.if-not-is_led.false) c.in_ok-places.places.now c.loop-row.row-index 0
          (c.is_led.ensures.there c.if-not-is_led.false) c.loop-row-test.true (c.loop-row.invariant.none both.0)
          (subst (λ (d : List ℕ). NoneComesAt c.args.parts.now c.args.conds.now c.args.nodes.now next.node d) made
          ((rw c.in-Some-2.is at c.in_ok-more.ensures.none) both.1));
    }

pub returns-then-came-clause-kept : goal.returns-then-came-clause-kept
returns-then-came-clause-kept t c =
    let is : slice_get c.args.nodes.now c.args.place ≡ Some c.in-Some.node.now =
    got_at c.args.nodes.now c.args.place c.in-Some.node.now c.in-Some.ensures.lookup.3.0 c.in-Some.ensures.lookup.1 in
    let next = c.in-Some-get.next.now in
    let listed : Has c.deref.result.now next =
    subst (Has c.deref.result.now) (sym c.in-Some-get.ensures.lookup.1)
    (Has-get_or c.deref.result.now c.in_ok-best.best next c.in-Some-get.ensures.lookup.3.0) in
    let has : Has c.in-Some.node.now.nexts.items next = rw c.deref.ensures.value at listed in
    remembered_at c.args.parts.now c.args.conds.now c.args.out.now c.args.nodes.now c.args.place
    c.in-Some.node.now c.args.choice.now c.requires.nodes is next has
    (c.is_led.ensures.led c.if-not-is_led.false) c.in_ok-places.places.now c.loop-row.row-index c.loop-row.state
    c.remember.new.state c.loop-row.invariant.kept c.requires.sound
    c.in_ok-places.ensures c.loop-row-test.false c.loop-row.invariant.done c.remember.ensures.found
    c.remember.ensures.told c.remember.ensures.dead c.in_ok-remember.ensures.seen

pub returns-then-came-clause-explored : goal.returns-then-came-clause-explored
returns-then-came-clause-explored t c =
    let is : slice_get c.args.nodes.now c.args.place ≡ Some c.in-Some.node.now =
    got_at c.args.nodes.now c.args.place c.in-Some.node.now c.in-Some.ensures.lookup.3.0 c.in-Some.ensures.lookup.1 in
    let next = c.in-Some-get.next.now in
    let listed : Has c.deref.result.now next =
    subst (Has c.deref.result.now) (sym c.in-Some-get.ensures.lookup.1)
    (Has-get_or c.deref.result.now c.in_ok-best.best next c.in-Some-get.ensures.lookup.3.0) in
    let has : Has c.in-Some.node.now.nexts.items next = rw c.deref.ensures.value at listed in
    explored_at c.args.parts.now c.args.conds.now c.args.out.now c.args.nodes.now c.args.place c.in-Some.node.now c.args.choice.now c.requires.nodes is
    c.remember.new.state.found
    (subst (λ (found : List Row).
    IsExplored c.args.parts.now c.args.conds.now c.args.out.now c.in-Some.node.now.taken.items c.args.choice.now found)
    (sym c.remember.ensures.found)
    (all_at c.args.parts.now c.args.conds.now c.args.out.now c.args.nodes.now c.args.place c.in-Some.node.now c.args.choice.now c.requires.nodes is next has
    (c.is_led.ensures.led c.if-not-is_led.false) c.in_ok-places.places.now c.loop-row.row-index
    c.loop-row.state.found c.in_ok-places.ensures c.loop-row-test.false
    c.loop-row.invariant.done))

pub returns-clause-kept : goal.returns-clause-kept
returns-clause-kept t c =
    let is : slice_get c.args.nodes.now c.args.place ≡ Some c.in-Some.node.now =
    got_at c.args.nodes.now c.args.place c.in-Some.node.now c.in-Some.ensures.lookup.3.0 c.in-Some.ensures.lookup.1 in
    let next = c.in-Some-get.next.now in
    let listed : Has c.deref.result.now next =
    subst (Has c.deref.result.now) (sym c.in-Some-get.ensures.lookup.1)
    (Has-get_or c.deref.result.now c.in_ok-best.best next c.in-Some-get.ensures.lookup.3.0) in
    let has : Has c.in-Some.node.now.nexts.items next = rw c.deref.ensures.value at listed in
    remembered_dead_at c.args.parts.now c.args.conds.now c.args.out.now c.args.nodes.now c.args.place
    c.in-Some.node.now c.args.choice.now c.requires.nodes is next has
    (c.is_led.ensures.led c.if-not-is_led.false) c.in_ok-places.places.now c.loop-row.row-index c.loop-row.state
    c.remember_dead.new.state c.loop-row.invariant.kept
    c.requires.sound c.in_ok-places.ensures c.loop-row-test.false (c.loop-row.invariant.none c.if-came.false) c.remember_dead.ensures.found
    c.remember_dead.ensures.told c.remember_dead.ensures.seen c.in_ok-remember_dead.ensures.dead

pub returns-clause-explored : goal.returns-clause-explored
returns-clause-explored t c =
    let is : slice_get c.args.nodes.now c.args.place ≡ Some c.in-Some.node.now =
    got_at c.args.nodes.now c.args.place c.in-Some.node.now c.in-Some.ensures.lookup.3.0 c.in-Some.ensures.lookup.1 in
    let next = c.in-Some-get.next.now in
    let listed : Has c.deref.result.now next =
    subst (Has c.deref.result.now) (sym c.in-Some-get.ensures.lookup.1)
    (Has-get_or c.deref.result.now c.in_ok-best.best next c.in-Some-get.ensures.lookup.3.0) in
    let has : Has c.in-Some.node.now.nexts.items next = rw c.deref.ensures.value at listed in
    explored_at c.args.parts.now c.args.conds.now c.args.out.now c.args.nodes.now c.args.place c.in-Some.node.now c.args.choice.now c.requires.nodes is
    c.remember_dead.new.state.found
    (subst (λ (found : List Row).
    IsExplored c.args.parts.now c.args.conds.now c.args.out.now c.in-Some.node.now.taken.items c.args.choice.now found)
    (sym c.remember_dead.ensures.found)
    (all_at c.args.parts.now c.args.conds.now c.args.out.now c.args.nodes.now c.args.place c.in-Some.node.now c.args.choice.now c.requires.nodes is next has
    (c.is_led.ensures.led c.if-not-is_led.false) c.in_ok-places.places.now c.loop-row.row-index
    c.loop-row.state.found c.in_ok-places.ensures c.loop-row-test.false
    c.loop-row.invariant.done))

pub returns-clause-none : goal.returns-clause-none
returns-clause-none t c =
    let is : slice_get c.args.nodes.now c.args.place ≡ Some c.in-Some.node.now =
    got_at c.args.nodes.now c.args.place c.in-Some.node.now c.in-Some.ensures.lookup.3.0 c.in-Some.ensures.lookup.1 in
    let next = c.in-Some-get.next.now in
    let listed : Has c.deref.result.now next =
    subst (Has c.deref.result.now) (sym c.in-Some-get.ensures.lookup.1)
    (Has-get_or c.deref.result.now c.in_ok-best.best next c.in-Some-get.ensures.lookup.3.0) in
    let has : Has c.in-Some.node.now.nexts.items next = rw c.deref.ensures.value at listed in
    λ none. none_at c.args.parts.now c.args.conds.now c.args.out.now c.args.nodes.now c.args.place c.in-Some.node.now c.args.choice.now c.requires.nodes is
    (none_all_at c.args.parts.now c.args.conds.now c.args.out.now c.args.nodes.now c.args.place
    c.in-Some.node.now c.args.choice.now c.requires.nodes is next has
    (c.is_led.ensures.led c.if-not-is_led.false) c.in_ok-places.places.now c.loop-row.row-index c.in_ok-places.ensures c.loop-row-test.false
    (c.loop-row.invariant.none c.if-came.false))
