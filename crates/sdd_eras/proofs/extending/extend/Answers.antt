use Rattle.sdd_eras.proofs.All.{IfErr-weaker, IfOk-weaker, IsValid, TellsFirst, ap, catalogue_of, faults_of, subst, sym, with_classes, ◌++◌, ◌∙◌}
use Rattle.sdd_eras.proofs.Extended.{further_are_all, extended_is}
use Rattle.sdd_eras.proofs.extending.extend.Goals as goal

pub returns-clause-value : goal.returns-clause-value
returns-clause-value c =
    let cat = c.args.catalogue.now in
    let added = c.in_ok-parts-2.ensures ∙ ap (λ p. with_classes (p.classes ++ c.args.classes.now) p) c.in_ok-parts.ensures in
    IfOk-weaker c.build.result _ _
    (λ built is. is ∙ ap catalogue_of added ∙ extended_is cat c.args.classes.now c.law_is_sound.ensures.sound) c.build.ensures.value

pub returns-clause-allowed : goal.returns-clause-allowed
returns-clause-allowed c =
    let cat = c.args.catalogue.now in
    let added = c.in_ok-parts-2.ensures ∙ ap (λ p. with_classes (p.classes ++ c.args.classes.now) p) c.in_ok-parts.ensures in
    IfOk-weaker c.build.result _ _
    (λ built valid. sym (further_are_all cat c.args.classes.now c.law_is_sound.ensures.sound) ∙ subst IsValid added valid) c.build.ensures.valid

pub returns-clause-fault : goal.returns-clause-fault
returns-clause-fault c =
    let cat = c.args.catalogue.now in
    let added = c.in_ok-parts-2.ensures ∙ ap (λ p. with_classes (p.classes ++ c.args.classes.now) p) c.in_ok-parts.ensures in
    IfErr-weaker c.build.result _ _
    (λ e first. subst (TellsFirst e) (ap faults_of added ∙ further_are_all cat c.args.classes.now c.law_is_sound.ensures.sound) first) c.build.ensures.fault
