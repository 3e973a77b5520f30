use Rattle.std.proofs.Common.{◌≡◌, ◌++◌, drop}
use Rattle.sdd_inside.specs.Json.{escaped}
use Rattle.sdd_inside.proofs.escape.put_bytes.Given as goal

-- what was written and what is left to write is all of it
abbrev pub invariant-part : goal.invariant-part
invariant-part l = l.out.items ++ escaped (drop l.byte-index l.part) ≡ l.fn.out.items ++ escaped l.fn.part
