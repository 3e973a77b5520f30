use Rattle.sdd_eras.proofs.All.{IfOk-weaker, IsValid, ap, catalogue_of, length, parts_of, retired_parts, subst, sym, with_classes, ◌∙◌, ◌≤◌}
use Rattle.sdd_eras.proofs.Retired.{retired_valid, retired_is, as_many_parts}
use Rattle.sdd_eras.proofs.retiring.retire.Goals as goal

pub empty_first-requires : goal.empty_first-requires
empty_first-requires c =
    subst (λ n. c.args.upto ≤ n) (sym (ap (λ p. length p.classes) c.in_ok-parts.ensures ∙ as_many_parts c.args.catalogue.now)) c.requires

pub build_valid-requires : goal.build_valid-requires
build_valid-requires c =
    let cat = c.args.catalogue.now in
    let emptied = c.in_ok-parts-2.ensures ∙ ap (λ p. with_classes (retired_parts c.args.upto p.classes) p) c.in_ok-parts.ensures in
    subst IsValid (sym emptied) (retired_valid (parts_of cat) c.args.upto c.law_is_sound.ensures.sound.valid)

pub returns : goal.returns
returns c =
    let cat = c.args.catalogue.now in
    let emptied = c.in_ok-parts-2.ensures ∙ ap (λ p. with_classes (retired_parts c.args.upto p.classes) p) c.in_ok-parts.ensures in
    IfOk-weaker c.build_valid.result _ _
    (λ built is. is ∙ ap catalogue_of emptied ∙ retired_is cat c.args.upto c.law_is_sound.ensures.sound) c.build_valid.ensures
