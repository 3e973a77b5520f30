use Rattle.sdd_protocol.proofs.All.{Attempt, Bool, Cond, Global, IfOk-weaker, Vec, ap, classes_of, conditions, conditions_on, is_asked, is_marked, numbers_to, ℕ, ◌∙◌, ◌≡◌}
use mathlib.Core.Path.{fun_ext}
use Rattle.sdd_protocol.proofs.protocol_table.Table.condition.Goals as goal

pub returns : goal.returns
returns c =
    let cat = c.args.catalogue.now in
    let entries = c.args.self.now in
    let attempt : Attempt = record { class = c.args.class; own = c.args.own; p2 = c.args.p2 } in
    let asked : ℕ → Bool = is_asked cat c.args.class.0 c.args.dm.0 c.args.frags.now in
    let marked : ℕ → Bool = is_marked c.in_ok-asked.asked in
    let same : marked ≡ asked = fun_ext c.in_ok-asked.ensures in
    IfOk-weaker c.conditions.result
    (λ (found : Vec Cond Global). found.items ≡ conditions_on marked entries attempt (numbers_to c.classes.result))
    (λ (found : Vec Cond Global).
    found.items ≡ conditions cat entries c.args.class.0 c.args.dm.0 c.args.frags.now c.args.own.0 c.args.p2.0)
    (λ (found : Vec Cond Global) e.
    e
    ∙ ap (λ n. conditions_on marked entries attempt (numbers_to n)) c.classes.ensures
    ∙ ap (λ (t : ℕ → Bool). conditions_on t entries attempt (classes_of cat)) same)
    c.conditions.ensures
