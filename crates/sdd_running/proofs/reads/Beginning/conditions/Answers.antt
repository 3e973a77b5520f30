use Rattle.sdd_running.proofs.All.{Beginning, IsDeclared, [], ap, ascending, conditions, conditions_at, fragments_in, option_map, subst, sym, unwrap_or, ◌∙◌}
use Rattle.sdd_running.proofs.Uses.{declared_at}
use Rattle.sdd_running.proofs.reads.Beginning.conditions.Goals as goal

pub returns-in_ok-conds-in-Some : goal.returns-in_ok-conds-in-Some
returns-in_ok-conds-in-Some c =
    let b = c.self.inside in
    let frags = ascending (fragments_in b.uses.items) in
    let table = ap (option_map (λ t. t.now)) c.in-Some.is in
    let class = subst (IsDeclared b.catalogue.now b.class.0) table c.self.invariant.declared in
    c.from_vec-in-Some.ensures ∙ c.in_ok-conds-in-Some.ensures
    ∙ ap (λ fs. conditions b.catalogue.now c.in-Some.table.now b.class.0 c.args.dm.0 fs b.own.0 b.p2.0) c.as_slice-frags.ensures.value
    ∙ declared_at b.catalogue.now c.in-Some.table.now b.class.0 frags b.frags.items b.own.0 b.p2.0 c.args.dm.0 class c.self.invariant.frags_are
    ∙ ap (λ o. conditions_at b.catalogue.now (unwrap_or o []) b.class.0 frags b.own.0 b.p2.0 c.args.dm.0) (sym table)
    ∙ ap (λ (v : Beginning). conditions_at v.catalogue v.table v.class (ascending (fragments_in v.uses)) v.own v.p2 c.args.dm.0) c.self.view_is
