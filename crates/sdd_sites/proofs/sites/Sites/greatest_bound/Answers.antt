use Rattle.sdd_sites.proofs.All.{T, ap, arith, bound_at, fold, greatest_bound, local_of, map, max, range_with_len, setting_of, subst, takes_part, tm_no, ◌+◌, ◌≤◌}
use Rattle.sdd_sites.proofs.NextEra.{greatest_first, greatest_last, greatest_next, t_here}
use Rattle.sdd_sites.proofs.sites.Sites.greatest_bound.Goals as goal

pub loop-number-init : goal.loop-number-init
loop-number-init c = λ g log is all.
    greatest_first (bound_at g log) c.args.catalogue.now.tms (greatest_bound g log) (ap (λ k. fold max 0 (map (bound_at g log) (range_with_len 1 k))) is)

pub bound-requires : goal.bound-requires
bound-requires c =
    let r = c.requires in
    let n = c.loop-number.number in
    let at = T (tm_no n) in
    let high : n ≤ c.args.catalogue.now.tms = omega arith in
    (takes_part at r.1, setting_of r.0 at, local_of r.0 at r.1, r.3 at (t_here r.0 n (omega arith) (subst (λ k. n ≤ k) r.2 high)))

pub loop-number-preserved : goal.loop-number-preserved
loop-number-preserved c = λ g log is all.
    let n = c.loop-number.number in
    let at = T (tm_no n) in
    let high : n ≤ c.args.catalogue.now.tms = omega arith in
    greatest_next (bound_at g log) c.loop-number.greatest n (c.args.catalogue.now.tms + 1)
    c.bound.result.0 c.max-greatest.result (greatest_bound g log) (omega arith)
    (c.bound.ensures (takes_part at log) (setting_of g at) (local_of g at log) (all at (t_here g n (omega arith) (subst (λ k. n ≤ k) is high))))
    c.max-greatest.ensures (c.loop-number.invariant g log is all)

pub returns : goal.returns
returns c = λ g log is all.
    greatest_last (bound_at g log) c.loop-number.greatest c.loop-number.number (c.args.catalogue.now.tms + 1) (greatest_bound g log) (omega arith)
    (c.loop-number.invariant g log is all)
