-- The phases of an exchange, as a module keeps them.
use Rattle.std.specs.Prelude.{Option, Some, None}
use Rattle.sdd_rules.specs.All.{Move, Phase}
use Rattle.sdd_rules.specs.attempt.Exchange.{Reading, Fetching, Reducing, Shipping, Over}
use Rattle.sdd_exchange.specs.declared.answer.Answer.{Answer}
use Rattle.sdd_exchange.specs.declared.answer.Answer.TheVariants as answers
use Rattle.sdd_exchange.specs.declared.phase.Reduction.{Reduction}
use Rattle.sdd_exchange.specs.declared.phase.Phase as kept
use Rattle.sdd_exchange.specs.declared.phase.Phase.TheVariants as kinds

abbrev pub move_of : Reduction → Move
move_of r = record { step = r.step; source = r.source; target = r.target }

abbrev pub phase_of : kept.Phase → Phase
phase_of kinds.Reading = Reading
phase_of (kinds.Fetching r) = Fetching (move_of r)
phase_of (kinds.Reducing r) = Reducing (move_of r)
phase_of kinds.Shipping = Shipping
phase_of kinds.Over = Over

-- what is awaited in a phase: nothing where the exchange is over
abbrev pub awaited_in : Phase → Option Answer
awaited_in Reading = Some answers.Ready
awaited_in (Fetching m) = Some answers.Values
awaited_in (Reducing m) = Some answers.Reduced
awaited_in Shipping = Some answers.Rows
awaited_in Over = None
