use Rattle.std.proofs.Common.{arith}
use Rattle.sdd_robust.proofs.PlaceSets.{one_bit}
use Rattle.sdd_robust.proofs.place_set.has_one.Goals as goal

pub returns-then-word-ne0-clause-one : goal.returns-then-word-ne0-clause-one
returns-then-word-ne0-clause-one c = λ _. one_bit c.args.word (omega (arith, c.if-word-ne0.true)) c.ranges.word.fits
