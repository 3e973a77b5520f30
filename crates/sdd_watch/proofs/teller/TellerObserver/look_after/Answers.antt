use Rattle.sdd_watch.proofs.All.{IsToTell, ap, marked_between, subst, sym}
use Rattle.sdd_watch.proofs.Followed.{tells_on, to_tell}
use Rattle.sdd_watch.proofs.teller.TellerObserver.look_after.Goals as goal

pub tell-requires : goal.tell-requires
tell-requires c =
    let r = c.requires in (
      r.0,
      r.1,
      r.2,
      subst (λ x. IsToTell r.0 r.1 r.2 c.args.world.now c.args.self.now.watch c.args.turn x) (sym c.replace-finds.ensures.value)
          (to_tell r.0 r.1 r.2 c.args.world.now c.args.turn c.args.self.now r.3 r.4),
    )

pub returns : goal.returns
returns c = λ g old new h f.
    let next = subst (λ x. IsToTell g old new c.args.world.now c.args.self.now.watch c.args.turn x) (sym c.replace-finds.ensures.value)
    (to_tell g old new c.args.world.now c.args.turn c.args.self.now h f) in
    let b = marked_between g old new f.between in
    tells_on g old new b.0 c.args.self.now c.tell.new.self b.1 h.tells
    (record {
      catalogue = ap (λ r. r.now) c.tell.ensures.catalogue;
      text = c.in_ok-tell.ensures.text g old new next h.tells.catalogue_is;
      watches = c.in_ok-tell.ensures.watch g old new next;
    })
