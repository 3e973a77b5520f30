use Rattle.sdd_lists.proofs.Steps.{whole_allowed, whole_follows, whole_more}
use Rattle.sdd_lists.proofs.following.whole_of.Goals as goal

pub with_added_classes-requires : goal.with_added_classes-requires
with_added_classes-requires c =
    whole_allowed c.args.catalogue.now c.lists.all c.args.lists.now c.lists.classes-index c.classes-item.result c.as_slice.result.now
    c.lists-test.true c.classes-item.is c.as_slice.ensures c.lists.invariant.follows

pub lists-preserved : goal.lists-preserved
lists-preserved c = record {
  follows = whole_follows c.args.catalogue.now c.lists.all c.args.lists.now c.lists.classes-index c.classes-item.result c.as_slice.result.now
      c.lists-test.true c.classes-item.is c.as_slice.ensures c.lists.invariant.follows c.in_ok-all-2.all c.in_ok-all-2.ensures;
  all = whole_more c.args.catalogue.now c.lists.all c.args.lists.now c.lists.classes-index c.classes-item.result c.as_slice.result.now
      c.lists-test.true c.classes-item.is c.as_slice.ensures c.lists.invariant.follows c.in_ok-all-2.all _ c.in_ok-all-2.ensures c.lists.invariant.all;
}
