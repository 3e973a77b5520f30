-- A lawful log submits only what its events submit.
use Rattle.sdd_lawful.proofs.All.{AreNumbered, Input, IsLawful, Log, Mark, SubmitGiven, [], ap, arith, eq-eqb, left_is, one_if, refl, submits_by, submits_in, subst, ◌++◌, ◌+◌, ◌∷◌, ◌≡◌, ◌≤◌}
use Rattle.sdd_invariants.specs.All.{Submit}

lawful_rest : (g : Input) (later log : Log) → IsLawful g (later ++ log) → IsLawful g log
lawful_rest g [] log h = h
lawful_rest g (e ∷ later) log h = lawful_rest g later log h.1

pub lawful_numbered : (g : Input) (log : Log) → SubmitGiven g → IsLawful g log → AreNumbered g log
lawful_numbered g log s h later before n is =
    let i = left_is g n.0 (Mark (Submit n) ∷ before) (lawful_rest g later (Mark (Submit n) ∷ before) (subst (IsLawful g) is h)) in
    let own : submits_by n.0 (Submit n) ≡ 1 = ap one_if (eq-eqb n.0 n.0 refl) in
    let some : 1 ≤ submits_in n.0 g.events = omega (arith, i.all) in
    s.given n.0 some
