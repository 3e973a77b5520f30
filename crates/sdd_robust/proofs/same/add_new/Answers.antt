use Rattle.std.proofs.Common.{refl}
use Rattle.sdd_robust.proofs.StandingFor.{like_pushed, pushed_kept, pushed_of_them}
use Rattle.sdd_robust.proofs.same.add_new.Goals as goal

pub returns-then-is_among-clause-like_it : goal.returns-then-is_among-clause-like_it
returns-then-is_among-clause-like_it c = rw c.as_slice-2.ensures at (rw c.as_slice.ensures.value at (c.if-is_among.ensures refl))

pub returns-clause-kept : goal.returns-clause-kept
returns-clause-kept c = pushed_kept c.args.found.now.items c.push.new.self.items c.args.member c.in_ok-push.ensures.items

pub returns-clause-of_them : goal.returns-clause-of_them
returns-clause-of_them c = pushed_of_them c.args.found.now.items c.push.new.self.items c.args.member c.in_ok-push.ensures.items

pub returns-clause-like_it : goal.returns-clause-like_it
returns-clause-like_it c = like_pushed c.args.found.now.items c.push.new.self.items c.args.member c.in_ok-push.ensures.items
