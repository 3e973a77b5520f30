-- What was kept for a module that came up is handed over, one message after the other, over plain worlds.
use Rattle.sdd_world.proofs.All.{Boxes, HandedOn, Handing, Happened, HasSenders, Input, IsFirst, IsLowest, List, Log, Mark, Marked, Msg, OnlyAt, Risen, Rising, Site, TakesAway, Up, World, [], all_handed, ap, false, is_down, is_link, kept_count, kept_from, mailbox_at, position_of, refl, same_is, same_site, subst, suc, sym, TakesFrom, true, up_of as not_true, arith, ◌<◌, ◌∙◌, ◌∷◌, ◌≡◌}
use Rattle.sdd_world.proofs.Keeping.{by_site, others_stay}
use Rattle.sdd_world.proofs.Placing.{part_is}
use Rattle.sdd_world.proofs.Senders.{first_taken}
use Rattle.sdd_world.proofs.Turning.{parts_same, parts_spool}
use Rattle.sdd_sites.specs.needs.All.{Waits}

pub boxed : (old mid new : Boxes Msg) (at : Site) → new ≡ mid → suc (kept_count (mailbox_at mid at)) ≡ kept_count (mailbox_at old at)
    → kept_count (mailbox_at new at) < kept_count (mailbox_at old at)
boxed old mid new at e f = let s : kept_count (mailbox_at new at) ≡ kept_count (mailbox_at mid at) = ap (λ b. kept_count (mailbox_at b at)) e in omega (arith, s, f)

-- a message is taken out of the mailbox

still_rising : (g : Input) (old new : Boxes Msg) (at from : Site) (m : Msg) → Rising g old at → TakesFrom (mailbox_at old at) (mailbox_at new at) from m
    → OnlyAt old new at → Rising g new at
still_rising g old new at from m r t only = record {
  here = r.here;
  has = record { tms = only.tms ∙ r.has.tms; count = only.count ∙ r.has.count };
  box_up = t.down ∙ r.box_up;
  senders = record {
    tms = t.tms ∙ r.senders.tms;
    count = t.count ∙ r.senders.count;
    linked = λ x n. none_kept x n;
  };
}
  where
    none_kept : (x : Site) → is_link g.catalogue.tms g.catalogue.dms x at ≡ false → kept_from (mailbox_at new at) x ≡ []
    none_kept x n = elim (same_site x from) as (λ c. same_site x from ≡ c → kept_from (mailbox_at new at) x ≡ []) [
      | true ↦ λ p. (let is : x ≡ from = same_is x from p in
          let none : [] ≡ m ∷ kept_from (mailbox_at new at) from =
          sym (r.senders.linked from (subst (λ z. is_link g.catalogue.tms g.catalogue.dms z at ≡ false) is n)) ∙ t.here in cc)
      | false ↦ λ p. t.others x p ∙ r.senders.linked x n
    ] refl

pub taken_out : (w w1 : World) (g : Input) (log : Log) (at from : Site) (m : Msg)
    → Handing w g log at (kept_from (mailbox_at w.spool at)) → Rising g w.spool at → TakesFrom (mailbox_at w.spool at) (mailbox_at w1.spool at) from m
    → OnlyAt w.spool w1.spool at → w1 ≡ record w { spool = w1.spool }
    → Handing w1 g log at (kept_from (mailbox_at w.spool at)) × Rising g w1.spool at
taken_out w w1 g log at from m h r t only same = (
  record {
    parts = parts_same w w1 g log same h.parts;
    waits = h.waits;
    marks_are = ap (λ v. v.marks) same ∙ h.marks_are;
    spooled = others_stay g log w.spool w1.spool at only h.spooled;
  },
  still_rising g w.spool w1.spool at from m r t only,
)

pub first_kept : (g : Input) (boxes new : Boxes Msg) (at from : Site) (m : Msg) → Rising g boxes at
    → TakesFrom (mailbox_at boxes at) (mailbox_at new at) from m → IsLowest (mailbox_at boxes at) from
    → IsFirst g (kept_from (mailbox_at boxes at)) from at m (kept_from (mailbox_at new at) from)
first_kept g boxes new at from m r t l = first_taken g at (mailbox_at boxes at) r.senders from m (kept_from (mailbox_at new at) from) t.sender l t.here

pub less_kept : (boxes new : Boxes Msg) (at from : Site) (m : Msg) → TakesFrom (mailbox_at boxes at) (mailbox_at new at) from m
    → TakesAway (kept_from (mailbox_at boxes at)) (kept_from (mailbox_at new at)) from (kept_from (mailbox_at new at) from)
less_kept boxes new at from m t = record { here = refl; others = t.others }

-- one message that was kept is handed over
pub rising_on : (w : World) (boxes : Boxes Msg) (w2 : World) (g : Input) (log : Log) (at from : Site) (m : Msg)
    → Handing w g log at (kept_from (mailbox_at w.spool at)) → Rising g w.spool at → TakesFrom (mailbox_at w.spool at) (mailbox_at boxes at) from m
    → IsLowest (mailbox_at w.spool at) from → OnlyAt w.spool boxes at
    → ((h : Input) (l : Log) (kept less : Site → List Msg) (rest : List Msg)
    → Handing (record w { spool = boxes }) h l at kept → IsFirst h kept from at m rest → TakesAway kept less from rest
    → HandedOn w2 h at less (position_of h l) boxes)
    → (more : Log) × Handing w2 g more at (kept_from (mailbox_at w2.spool at)) × Rising g w2.spool at × (position_of g more ≡ position_of g log)
rising_on w boxes w2 g log at from m h r t l only hand =
    let o = taken_out w (record w { spool = boxes }) g log at from m h r t only refl in
    let k = hand g log (kept_from (mailbox_at w.spool at)) (kept_from (mailbox_at boxes at))
    (kept_from (mailbox_at boxes at) from) o.0 (first_kept g w.spool boxes at from m r t l) (less_kept w.spool boxes at from m t) in (
      k.more,
      subst (λ b. Handing w2 g k.more at (kept_from (mailbox_at b at))) (sym k.spool_is) k.handing,
      subst (λ b. Rising g b at) (sym k.spool_is) o.1,
      k.position_is,
    )

-- nothing is left to be handed over
pub none_left : (w : World) (boxes : Boxes Msg) (g : Input) (log more : Log) (at : Site) → Handing w g more at (kept_from (mailbox_at w.spool at))
    → Rising g w.spool at → position_of g more ≡ position_of g log → mailbox_at boxes at ≡ mailbox_at w.spool at
    → ((x : Site) → kept_from (mailbox_at w.spool at) x ≡ []) → OnlyAt w.spool boxes at → Risen (record w { spool = boxes }) g log at
none_left w boxes g log more at h r a same none only = record {
  more = more;
  handing = record {
    parts = parts_spool w boxes g more h.parts;
    waits = subst (λ b. Waits g more at (kept_from b)) (sym same) h.waits;
    marks_are = h.marks_are;
    spooled = others_stay g more w.spool boxes at only h.spooled;
  };
  rising = record {
    here = r.here;
    has = record { tms = only.tms ∙ r.has.tms; count = only.count ∙ r.has.count };
    box_up = ap (λ b. b.down) same ∙ r.box_up;
    senders = subst (λ b. HasSenders g at b) (sym same) r.senders;
  };
  position_is = a;
  none = λ x. ap (λ b. kept_from b x) same ∙ none x;
}

-- once none is kept, the event is done
pub came_up : (w w2 : World) (g : Input) (log more : Log) (at : Site) → Marked w g log (Up at) → position_of g more ≡ position_of g (Mark (Up at) ∷ log)
    → Risen w2 g more at → Happened w2 g log
came_up w w2 g log more at m e r = record {
  more = r.more;
  calm = record {
    parts = r.handing.parts;
    rests = record {
      lawful = r.handing.waits.lawful;
      within = r.handing.waits.within;
      no_mark = r.handing.waits.no_mark;
      no_site = r.handing.waits.no_site;
      handed_all = all_handed g r.more at (kept_from (mailbox_at w2.spool at)) r.handing.waits r.none;
    };
    marks_are = r.handing.marks_are;
    spooled = by_site g r.more w2.spool at
        (let up : is_down at r.more ≡ false = not_true (is_down at r.more) (sym (part_is g at r.more m.possible) ∙ r.handing.waits.part) in
        record {
          down_is = r.rising.box_up ∙ sym up;
          senders = r.rising.senders;
          kept = λ p x. (let no : true ≡ false = sym p ∙ up in cc);
          empty = λ p x. r.none x;
        }) r.handing.spooled;
  };
  position_is = r.position_is ∙ e;
}
