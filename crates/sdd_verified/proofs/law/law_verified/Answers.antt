use Rattle.sdd_verified.proofs.All.{verified_yes, whole_named, whole_sound}
use Rattle.sdd_verified.proofs.Reported.{verified}
use Rattle.sdd_verified.proofs.law.law_verified.Goals as goal

pub returns : goal.returns
returns c = λ work text valid report small.
    let cat = c.args.catalogue.now in
    verified_yes cat work text valid
    (verified cat work text (whole_sound cat work c.law_is_sound.ensures.sound valid) (whole_named cat work c.law_is_sound.ensures.named valid) valid
    report small)
