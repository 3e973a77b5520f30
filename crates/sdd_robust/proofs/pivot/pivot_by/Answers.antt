use Rattle.std.proofs.Common.{arith, inl, refl, subst, sym, ◌∙◌}
use Rattle.sdd_robust.specs.Members.{lent}
use Rattle.sdd_robust.proofs.Pivots.{ClosesNone, all_close_none, no_start, none_missed_by, start_beside}
use Rattle.sdd_robust.proofs.Rests.{LeadNowhere, none_leads}
use Rattle.sdd_robust.proofs.Steps.{each_more, lent_at, lent_long}
use Rattle.sdd_robust.proofs.pivot.pivot_by.Goals.{then-is_start+in_ok-rest+in-Some, then-is_start+in_ok-rest+in-None+in_ok-missing-in-None+in-None-2, else-is_start}
use Rattle.sdd_robust.proofs.pivot.pivot_by.Goals as goal

pub returns-then-not-misses_by-clause-none : goal.returns-then-not-misses_by-clause-none
returns-then-not-misses_by-clause-none c =
    none_missed_by c.args.changes.now (lent c.args.few.now) c.requires.few c.args.pivot.now.accesses c.args.read.now
    (rw c.as_slice.ensures at c.if-not-misses_by.ensures)

pub missing_from-requires : goal.missing_from-requires
missing_from-requires c =
    let long = lent_long c.args.few.now in
    rw c.as_slice-in-None.ensures
    (start_beside (lent c.args.few.now) c.args.pivot.now.accesses c.args.read.now c.starts.place c.index-few-place.result.now
    (omega (arith, long, c.starts-test.true)) (lent_at c.args.few.now c.starts.place c.index-few-place.result c.index-few-place.is)
    (rw c.as_slice-in-starts.ensures at (c.if-is_start.ensures.yes refl))).0

pub returns-in-Some-2-clause-found : goal.returns-in-Some-2-clause-found
returns-in-Some-2-clause-found c =
    let long = lent_long c.args.few.now in
    let found = rw c.as_slice-in-None.ensures at (rw c.in-Some-2.is at c.in_ok-missing-in-None.ensures.found) in
    let start = start_beside (lent c.args.few.now) c.args.pivot.now.accesses c.args.read.now c.starts.place c.index-few-place.result.now
    (omega (arith, long, c.starts-test.true)) (lent_at c.args.few.now c.starts.place c.index-few-place.result c.index-few-place.is)
    (rw c.as_slice-in-starts.ensures at (c.if-is_start.ensures.yes refl)) in
    (refl, start.0, found.0, record { leads = found.1; missed = start.1; missing = found.2 })

pub starts-preserved : goal.starts-preserved
starts-preserved c =
    let long = lent_long c.args.few.now in
    let more = each_more (ClosesNone (lent c.args.few.now) c.args.pivot.now.accesses c.args.read.now) (lent c.args.few.now) c.starts.place
    c.index-few-place.result.now (omega (arith, long, c.starts-test.true))
    (lent_at c.args.few.now c.starts.place c.index-few-place.result c.index-few-place.is) in
    elim c.if-is_start.branch [
      | then-is_start+in_ok-rest+in-Some w ↦
          let nowhere = none_leads (lent c.args.few.now) c.args.pivot.now.accesses c.args.read.now c.starts.left c.in_ok-ends.ends w.in-Some.rest
          (rw c.as_slice-2.ensures at c.in_ok-ends.ensures) c.starts.invariant.1
          (rw (c.starts.invariant.0, c.requires.conflicts) at (rw w.in-Some.is at w.in_ok-rest.ensures.rest)) in (
            w.conflicts-is ∙ w.without_reached.ensures.same ∙ c.starts.invariant.0,
            subst (LeadNowhere (lent c.args.few.now) c.args.pivot.now.accesses c.args.read.now) (sym w.left-is) nowhere,
            more
                (no_start (lent c.args.few.now) c.args.pivot.now.accesses c.args.read.now w.in-Some.rest c.starts.place c.index-few-place.result.now nowhere
                (omega (arith, long, c.starts-test.true)) (lent_at c.args.few.now c.starts.place c.index-few-place.result c.index-few-place.is)
                (inl (rw w.in-Some.is at w.in_ok-rest.ensures.start)))
                c.starts.invariant.2,
          )
      | then-is_start+in_ok-rest+in-None+in_ok-missing-in-None+in-None-2 w ↦ (
        w.conflicts-is ∙ w.without_reached.ensures.same ∙ c.starts.invariant.0,
        subst (LeadNowhere (lent c.args.few.now) c.args.pivot.now.accesses c.args.read.now) (sym w.left-is) c.starts.invariant.1,
        more
            (λ _ a is.
            (rw w.as_slice-in-None.ensures at (rw w.in-None-2.is at w.in_ok-missing-in-None.ensures.none)) a is.leads is.missing)
            c.starts.invariant.2,
      )
      | else-is_start w ↦ (
        w.conflicts-is ∙ c.starts.invariant.0,
        subst (LeadNowhere (lent c.args.few.now) c.args.pivot.now.accesses c.args.read.now) (sym w.left-is) c.starts.invariant.1,
        more
            (no_start (lent c.args.few.now) c.args.pivot.now.accesses c.args.read.now c.starts.left c.starts.place c.index-few-place.result.now
            c.starts.invariant.1 (omega (arith, long, c.starts-test.true))
            (lent_at c.args.few.now c.starts.place c.index-few-place.result c.index-few-place.is)
            (rw c.as_slice-in-starts.ensures at (w.if-is_start.ensures.no refl)))
            c.starts.invariant.2,
      )
    ]

pub returns-clause-none : goal.returns-clause-none
returns-clause-none c =
    let long = lent_long c.args.few.now in
    all_close_none (lent c.args.few.now) c.args.pivot.now.accesses c.args.read.now c.starts.place (omega (arith, long, c.starts-test.false))
    c.starts.invariant.2
