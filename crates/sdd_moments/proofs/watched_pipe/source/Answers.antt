-- Class 0 is run by the module for undeclared transactions, and any other one by its transaction module.
use Rattle.sdd_moments.proofs.All.{Catalogue, Class, T, ap, arith, class_at, length, source, subst, sym, ◌∙◌, ◌≡◌, ◌≤◌}
use Rattle.sdd_moments.proofs.Sourced.{source_of_class}
use Rattle.sdd_moments.proofs.watched_pipe.source.Goals as goal

pub returns-then-class-eq0 : goal.returns-then-class-eq0
returns-then-class-eq0 c = λ g e d. ap (source g d) (sym c.if-class-eq0.true)

pub returns-else-class-eq0 : goal.returns-else-class-eq0
returns-else-class-eq0 c = λ g e d.
    let same : c.class.result.now ≡ class_at g.catalogue c.args.class = c.class.ensures ∙ ap (λ (cat : Catalogue). class_at cat c.args.class) e in
    ap (λ (k : Class). T k.tm) same
    ∙ source_of_class g d c.args.class (omega arith) (subst (λ (cat : Catalogue). c.args.class ≤ length cat.classes) e c.requires)
