use Rattle.std.proofs.Common.{List, ap, arith, length, ◌∙◌}
use Rattle.std.proofs.lemmas.List.Elements.{Contains-get_or}
use Rattle.sdd_robust_laws.specs.declared.access.Access.{Access}
use Rattle.sdd_robust.specs.Members.{kinds, lent}
use Rattle.sdd_robust.specs.Pivots.{Closes, beside}
use Rattle.sdd_robust.proofs.ByRelation.{none_reads}
use Rattle.sdd_robust.proofs.Pivots.{is_pivot, no_pivot_of}
use Rattle.sdd_robust.proofs.StandingFor.{none_of_all, pivot_of_all}
use Rattle.sdd_robust.proofs.Steps.{each_at}
use Rattle.sdd_robust.proofs.pivot.pivot_of.Goals as goal

pub returns-then-not-is_read_by_one-clause-none : goal.returns-then-not-is_read_by_one-clause-none
returns-then-not-is_read_by_one-clause-none c =
    none_reads c.args.all.now c.args.pivot.now.accesses (rw c.as_slice.ensures at c.if-not-is_read_by_one.ensures)

pub returns-in-Some-clause-found : goal.returns-in-Some-clause-found
returns-in-Some-clause-found c =
    let h = rw c.as_slice-read-items.ensures at (rw c.in-Some.is at c.in_ok-found.ensures.found) in
    pivot_of_all c.args.all.now (lent c.args.few.now) c.requires.few c.in-Some.found.pivot.now c.in-Some.found.missed.now c.in-Some.found.missing.now
    (is_pivot (lent c.args.few.now) c.args.pivot.now c.in-Some.found.pivot.now c.in-Some.found.missed.now
    c.in-Some.found.missing.now _ c.requires.there
    (Contains-get_or c.args.pivot.now.accesses c.reads.read-index _ (omega (arith, ap length c.as_slice-read-items.ensures))) h.0 h.1 h.2 h.3)

pub reads-preserved : goal.reads-preserved
reads-preserved c = (
  c.pivot_by.ensures.same ∙ c.reads.invariant.0,
  each_at (λ (read : Access). (d a : List Access)
      → Closes (kinds (beside c.args.pivot.now.accesses (lent c.args.few.now))) c.args.pivot.now.accesses read d a → ⊥)
      c.args.pivot.now.accesses c.reads.read-index _ (omega (arith, ap length c.as_slice-read-items.ensures))
      (rw c.as_slice-read-items.ensures at (rw c.in-None.is at c.in_ok-found.ensures.none)) c.reads.invariant.1,
)

pub returns-clause-none : goal.returns-clause-none
returns-clause-none c =
    none_of_all c.args.all.now (lent c.args.few.now) c.requires.few c.args.pivot.now.accesses
    (no_pivot_of (lent c.args.few.now) c.args.pivot.now c.reads.read-index (omega (arith, ap length c.as_slice-read-items.ensures)) c.reads.invariant.1)
