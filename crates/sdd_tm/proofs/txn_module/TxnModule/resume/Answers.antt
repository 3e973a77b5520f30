-- The classes are gone through from the first on, and each act is made that is due.
use Rattle.sdd_tm.proofs.All.{IsAmid, IsCalm, Kept, Places, State, Works, every_place, length, nothing_noted, refl, subst, sym, true, ◌<◌, ◌^◌, ◌≡◌}
use Rattle.sdd_tm.proofs.Queueing.{amid_up, calm_up, few_queued, resume_does}
use Rattle.sdd_tm.proofs.txn_module.TxnModule.resume.Goals as goal

pub every_place-places-requires : goal.every_place-places-requires
every_place-places-requires c =
    let r = c.requires.queues in
    subst (λ (k : Kept State). length k.value.classes < 2 ^ 32) (sym c.self.view_is) (few_queued c.args.self.now r.0 r.2 r.3)

pub settle-requires-clause-calm : goal.settle-requires-clause-calm
settle-requires-clause-calm c =
    let r = c.requires.queues in
    let is : c.every_place-places.result ≡ every_place (length c.self.inside.parts.classes) = c.every_place-places.ensures in
    subst (λ (places : Places). IsCalm places.from places.end c.self.inside.parts) (sym is)
    (subst (λ (k : Kept State). IsCalm 0 (length k.value.classes) k.value) (sym c.self.view_is) (calm_up c.args.self.now r.0 r.2 r.3))

pub settle-requires-clause-amid : goal.settle-requires-clause-amid
settle-requires-clause-amid c =
    let r = c.requires.queues in (
      r.0,
      r.1,
      r.2,
      subst (λ (k : Kept State). IsAmid r.0 r.1 k.value r.2) (sym c.self.view_is) (amid_up c.args.self.now r.0 r.1 r.2 r.3 r.4),
    )

pub returns-clause-law : goal.returns-clause-law
returns-clause-law c =
    let works = subst (λ notes. Works c.self.inside.parts c.settle.new.self notes c.settle.new.draft)
    c.draft-draft.ensures c.in_ok-settle.ensures.works in
    let begun = subst (λ (k : Kept State). Works k.value c.settle.new.self nothing_noted c.settle.new.draft) c.self.view_is works in
    resume_does c.args.self.now (record { live = true; value = c.tell_held.new.self }) c.settle.new.draft
    c.tell_held.new.draft c.finish.result.recs c.finish.result.out refl
    (record {
      settled_state = c.settle.new.self;
      works = begun;
      settled = c.in_ok-settle.ensures.settled;
      held_is_sent = c.in_ok-tell_held.ensures.state;
      noted_is = c.in_ok-tell_held.ensures.draft;
    }) c.finish.ensures.recs c.finish.ensures.out
