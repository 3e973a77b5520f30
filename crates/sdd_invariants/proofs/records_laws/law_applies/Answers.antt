use Rattle.sdd_invariants.proofs.Installed.{applied_below, apply_follows, around_applied}
use Rattle.sdd_invariants.proofs.records_laws.law_applies.Goals as goal

pub returns-clause-follows : goal.returns-clause-follows
returns-clause-follows g = apply_follows

pub returns-clause-rise : goal.returns-clause-rise
returns-clause-rise g = applied_below

pub returns-clause-around : goal.returns-clause-around
returns-clause-around g = around_applied
