-- Messages are kept for a module that is down.
use Rattle.sdd_world.proofs.All.{Boxes, Carries, Deliver, Happened, HasSenders, Input, IsLinkOf, IsModuleOf, IsPlaced, IsSender, Keeping, KeepsFor, List, Log, Mark, Marked, Messages, Msg, NetValue, OnlyAt, Remain, Site, Spooled, U, World, [], and_left, and_right, ap, append-nil, append_assoc, calls_of, delivers_kept, delivery, false, from_one, if◌then◌else◌, is_down, is_link, kept_from, length, link_of, link_parts, mailbox_at, no_items, none_of_one as no_more, not, refl, remain_beside, remain_more, same_is, same_site, subst, sym, takes_part, true, ℕ, ◌++◌, ◌∙◌, ◌∷◌, ◌≡◌}
use Rattle.sdd_world.proofs.Marking.{marked_plain, sites_marked}
use Rattle.sdd_world.proofs.Parting.{spooled_on}
use Rattle.sdd_world.proofs.Placing.{is_placed, is_sender, no_u, part_is, site_of}
use Rattle.sdd_sites.specs.needs.net.Mailboxes.{Puts}

-- a module has a mailbox
pub placed : (g : Input) (log : Log) (boxes : Boxes Msg) (at busy : Site) → IsModuleOf g at → Spooled g log boxes busy → IsPlaced boxes at
placed g log boxes at busy h s = is_placed g boxes at s.has (site_of g at h)

pub down_of : (g : Input) (log : Log) (boxes : Boxes Msg) (at : Site) → IsModuleOf g at → Spooled g log boxes U → (mailbox_at boxes at).down ≡ is_down at log
down_of g log boxes at h s = (s.each at h (no_u g at h)).down_is

-- and takes part where it isn't down
pub part_of : (g : Input) (log : Log) (boxes : Boxes Msg) (at : Site) → IsModuleOf g at → Spooled g log boxes U
    → not (mailbox_at boxes at).down ≡ takes_part at log
part_of g log boxes at h s = ap not (down_of g log boxes at h s) ∙ sym (part_is g at log h)

-- senders of a module have a place in its mailbox
pub sender_of : (g : Input) (from at : Site) (boxes : Boxes Msg) → IsLinkOf g from at → HasSenders g at (mailbox_at boxes at)
    → IsSender (mailbox_at boxes at) from
sender_of g from at boxes l h = is_sender g at (mailbox_at boxes at) from h (link_parts g.catalogue.tms g.catalogue.dms from at l).from

-- the other mailboxes stay
pub others_stay : (g : Input) (log : Log) (old new : Boxes Msg) (at : Site) → OnlyAt old new at → Spooled g log old at → Spooled g log new at
others_stay g log old new at only s = record {
  has = record { tms = only.tms ∙ s.has.tms; count = only.count ∙ s.has.count };
  each = λ x here apart. subst (λ b. KeepsFor g log x b) (sym (only.others x apart)) (s.each x here apart);
}

moved : (from x : Site) (m : Msg) (rest old new : List Msg) → (same_site x from ≡ true → new ≡ old ++ m ∷ []) → (same_site x from ≡ false → new ≡ old)
    → old ++ from_one from (m ∷ rest) x ≡ new ++ from_one from rest x
moved from x m rest old new f h =
    elim (same_site x from) as (λ c. same_site x from ≡ c → old ++ (if c then m ∷ rest else []) ≡ new ++ (if c then rest else [])) [
      | true ↦ λ s. sym (append_assoc old (m ∷ []) rest) ∙ ap (λ z. z ++ rest) (sym (f s))
      | false ↦ λ s. ap (λ z. z ++ []) (sym (h s))
    ] refl

-- a site that isn't linked isn't the sender
apart_from : (g : Input) (from at x : Site) → IsLinkOf g from at → is_link g.catalogue.tms g.catalogue.dms x at ≡ false → same_site x from ≡ false
apart_from g from at x l e = elim (same_site x from) as (λ c. same_site x from ≡ c → c ≡ false) [
  | true ↦ λ p. (let yes : is_link g.catalogue.tms g.catalogue.dms x at ≡ true = subst (λ z. IsLinkOf g z at) (sym (same_is x from p)) l in
      let no : true ≡ false = sym yes ∙ e in cc)
  | false ↦ λ p. refl
] refl

-- a message is put
pub put_one : (g : Input) (log : Log) (old new : Boxes Msg) (from at : Site)
    (q rest : List Msg) (m : Msg) → q ≡ m ∷ rest → Keeping g log old from at q
    → Puts (mailbox_at old at) (mailbox_at new at) from m → OnlyAt old new at → Keeping g log new from at rest
put_one g log old new from at q rest m e k p only = record {
  here = k.here;
  linked = k.linked;
  is_down = k.is_down;
  box_down = p.down ∙ k.box_down;
  senders = record {
    tms = p.tms ∙ k.senders.tms;
    count = p.count ∙ k.senders.count;
    linked = λ x n. p.others x (apart_from g from at x k.linked n) ∙ k.senders.linked x n;
  };
  kept = λ x.
      let before : Remain log x at (kept_from (mailbox_at old at) x ++ from_one from (m ∷ rest) x) =
      subst (λ z. Remain log x at (kept_from (mailbox_at old at) x ++ from_one from z x)) e (k.kept x) in
      subst (λ z. Remain log x at z)
      (moved from x m rest (kept_from (mailbox_at old at) x) (kept_from (mailbox_at new at) x)
      (λ s. subst (λ z. kept_from (mailbox_at new at) z ≡ kept_from (mailbox_at old at) z ++ m ∷ [])
      (sym (same_is x from s)) p.here) (λ s. p.others x s)) before;
  others = others_stay g log old new at only k.others;
}

-- messages come for a module that is down
pub keeping_begins : (w : World) (g : Input) (log : Log) (a at : Site) (k : ℕ) (messages : List Msg) → Marked w g log (Deliver a at k)
    → IsModuleOf g at → is_down at log ≡ true → delivery k (link_of a at log) ≡ Messages messages
    → Keeping g (Mark (Deliver a at k) ∷ log) w.spool a at messages
keeping_begins w g log a at k messages m here down is =
    let box : KeepsFor g log at (mailbox_at w.spool at) = m.spooled.each at here (no_u g at here) in
    record {
      here = here;
      linked = m.possible.0;
      is_down = down;
      box_down = box.down_is ∙ down;
      senders = box.senders;
      kept = λ x.
          elim (same_site x a) as (λ c. same_site x a ≡ c
          → Remain (Mark (Deliver a at k) ∷ log) x at (kept_from (mailbox_at w.spool at) x ++ (if c then messages else []))) [
            | true ↦ λ s. subst (λ z. Remain (Mark (Deliver a at k) ∷ log) z at
                (kept_from (mailbox_at w.spool at) z ++ messages)) (sym (same_is x a s))
                (remain_more a at k log (kept_from (mailbox_at w.spool at) a) messages is (box.kept down a))
            | false ↦ λ s. subst (λ z. Remain (Mark (Deliver a at k) ∷ log) x at z)
                (sym (append-nil (kept_from (mailbox_at w.spool at) x)))
                (remain_beside a at k log x at (kept_from (mailbox_at w.spool at) x) (and_left (same_site x a) (same_site at at) s) (box.kept down x))
          ] refl;
      others = spooled_on g log (Mark (Deliver a at k) ∷ log) w.spool at (λ e. refl)
          (λ e apart x rest r. remain_beside a at k log x e rest (and_right (same_site x a) (same_site e at) apart) r)
          (record { has = m.spooled.has; each = λ e h apart. m.spooled.each e h (no_u g e h) });
    }

-- all are put, and all mailboxes stand
kept_box : (g : Input) (log : Log) (boxes : Boxes Msg) (a at : Site) → Keeping g log boxes a at [] → KeepsFor g log at (mailbox_at boxes at)
kept_box g log boxes a at k = record {
  down_is = k.box_down ∙ sym k.is_down;
  senders = k.senders;
  kept = λ p x. subst (λ z. Remain log x at z) (ap (λ z. kept_from (mailbox_at boxes at) x ++ z)
      (no_more a x) ∙ append-nil (kept_from (mailbox_at boxes at) x)) (k.kept x);
  empty = λ p x. (let no : true ≡ false = sym k.is_down ∙ p in cc);
}

-- with the mailbox of the busy module all mailboxes stand
pub by_site : (g : Input) (log : Log) (boxes : Boxes Msg) (at : Site) → KeepsFor g log at (mailbox_at boxes at) → Spooled g log boxes at → Spooled g log boxes U
by_site g log boxes at k s = record {
  has = s.has;
  each = λ x here apart.
      elim (same_site x at) as (λ c. same_site x at ≡ c → KeepsFor g log x (mailbox_at boxes x)) [
        | true ↦ λ p. subst (λ z. KeepsFor g log z (mailbox_at boxes z)) (sym (same_is x at p)) k
        | false ↦ λ p. s.each x here p
      ] refl;
}

pub all_kept : (g : Input) (log : Log) (boxes : Boxes Msg) (a at : Site) → Keeping g log boxes a at [] → Spooled g log boxes U
all_kept g log boxes a at k = by_site g log boxes at (kept_box g log boxes a at k) k.others

pub kept_happened : (w w2 : World) (net : NetValue) (g : Input) (log : Log) (a at : Site) (k : ℕ) (messages : List Msg) → Marked w g log (Deliver a at k)
    → takes_part at log ≡ false → delivery k (link_of a at log) ≡ Messages messages
    → Carries net g.catalogue.tms g.catalogue.dms (calls_of (Mark (Deliver a at k) ∷ log))
    → w2 ≡ record w { net = net; spool = w2.spool } → Keeping g (Mark (Deliver a at k) ∷ log) w2.spool a at [] → Happened w2 g log
kept_happened w w2 net g log a at k messages m down is n same kept =
    marked_plain w w2 g log (Deliver a at k) m (sites_marked w g log (Deliver a at k) m tt (λ x. refl)) (delivers_kept g a at k log messages m.marked down is)
    (same ∙ ap (λ z. record w { net = z; spool = w2.spool }) (sym (ap (λ v. v.net) same)))
    (subst (λ z. Carries z g.catalogue.tms g.catalogue.dms (calls_of (Mark (Deliver a at k) ∷ log))) (sym (ap (λ v. v.net) same)) n)
    (all_kept g (Mark (Deliver a at k) ∷ log) w2.spool a at kept)

pub all_put : (g : Input) (log : Log) (boxes : Boxes Msg) (a at : Site) (queue : List Msg)
    → Keeping g log boxes a at queue → (n : ℕ) → n ≡ length queue → n ≡ 0 → Keeping g log boxes a at []
all_put g log boxes a at queue k n e f = subst (λ q. Keeping g log boxes a at q) (no_items queue n e f) k

pub same_again : (w now : World) (boxes : Boxes Msg) → now ≡ record w { spool = now.spool } → record now { spool = boxes } ≡ record w { spool = boxes }
same_again w now boxes e = ap (λ (v : World). record v { spool = boxes }) e
