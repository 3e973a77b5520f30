use Rattle.sdd_lists.proofs.All.{◌∙◌}
use Rattle.sdd_lists.proofs.Steps.{begins, era_allowed, era_follows, era_more, eras_begin}
use Rattle.sdd_lists.proofs.following.eras_of.Goals as goal

pub lists-init : goal.lists-init
lists-init c = record {
  follows = begins c.args.catalogue.now c.in_ok-last.last c.args.lists.now c.in_ok-last.ensures c.requires;
  all = eras_begin c.in_ok-last.last c.args.catalogue.now c.new-before.result.items _ c.new-before.ensures.items c.in_ok-last.ensures;
}

pub next_era-requires : goal.next_era-requires
next_era-requires c =
    era_allowed c.args.catalogue.now c.lists.last c.args.lists.now c.lists.classes-index c.classes-item.result c.as_slice.result.now
    c.lists-test.true c.classes-item.is c.as_slice.ensures c.lists.invariant.follows

pub lists-preserved : goal.lists-preserved
lists-preserved c =
    let next = c.replace.ensures.after ∙ c.in_ok-next.ensures in
    record {
      follows = era_follows c.args.catalogue.now c.lists.last c.args.lists.now c.lists.classes-index c.classes-item.result c.as_slice.result.now
          c.lists-test.true c.classes-item.is c.as_slice.ensures c.lists.invariant.follows c.replace.new.dest next;
      all = era_more c.args.catalogue.now c.lists.last c.args.lists.now c.lists.classes-index c.classes-item.result c.as_slice.result.now
          c.lists-test.true c.classes-item.is c.as_slice.ensures c.lists.invariant.follows c.replace.new.dest c.replace.result
          c.lists.before.items c.push.new.self.items _ next c.replace.ensures.value c.in_ok-push.ensures.items c.lists.invariant.all;
    }
