use Rattle.sdd_watch.proofs.teller.TellerObserver.look_before.Goals as goal

pub foresee-finds-requires : goal.foresee-finds-requires
foresee-finds-requires c = let r = c.requires in (r.0, r.1, r.3, r.4)

pub returns : goal.returns
returns c = λ g log h calm tellable. record {
  tells = record { catalogue_is = h.catalogue_is; text_is = h.text_is; watches = h.watches };
  finds_is = c.foresee-finds.ensures g log calm tellable;
}
