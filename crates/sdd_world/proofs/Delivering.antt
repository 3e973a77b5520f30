-- A packet arrives: what it brings is handed over, or kept for a module that is down.
use Rattle.sdd_world.proofs.All.{Acked, Position, Arrives, Boxes, Call, Carries, Deliver, Delivered, Delivers, HandedOn, Handing, Happened, Input, IsFirst, IsLinkOf, KeepsFor, List, Log, Mailbox, Mark, Marked, Messages, Msg, NetValue, Noted, Nothing, Site, Spooled, TakesAway, U, World, [], ack_same, position_of, all_handed, and_right, ap, calls_of, delivered, delivers_ack, delivers_nothing, delivery, false, first_of_one, from_one, handed, is_down, link, link_of, mailbox_at, none_of_one, nothing_same, refl, remain_beside, same_is, same_site, sent_stays, subst, sym, takes_of_one, takes_part, true, up_of, ℕ, ◌++◌, ◌+◌, ◌∙◌, ◌∷◌, ◌≡◌}
use Rattle.sdd_world.proofs.Marking.{marked_noted, marked_plain, sites_marked}
use Rattle.sdd_world.proofs.Parting.{spooled_on}
use Rattle.sdd_world.proofs.Placing.{no_u, part_is}

-- the mailboxes after a delivery, but for that of the site to which it goes
pub beside : (g : Input) (a b : Site) (k : ℕ) (log : Log) (boxes : Boxes Msg) → Spooled g log boxes b → Spooled g (Mark (Deliver a b k) ∷ log) boxes b
beside g a b k log boxes s =
    spooled_on g log (Mark (Deliver a b k) ∷ log) boxes b (λ at. refl)
    (λ at apart x rest r. remain_beside a b k log x at rest (and_right (same_site x a) (same_site at b) apart) r) s

pub but_for : (g : Input) (log : Log) (boxes : Boxes Msg) (b : Site) → Spooled g log boxes U → Spooled g log boxes b
but_for g log boxes b s = record { has = s.has; each = λ at here apart. s.each at here (no_u g at here) }

-- the mailbox of a module that is up
empty_at : (g : Input) (log more : Log) (at : Site) (box : Mailbox Msg) → KeepsFor g log at box
    → is_down at log ≡ false → is_down at more ≡ false → KeepsFor g more at box
empty_at g log more at box k e f = record {
  down_is = k.down_is ∙ e ∙ sym f;
  senders = k.senders;
  kept = λ p x. (let no : true ≡ false = sym p ∙ f in cc);
  empty = λ p x. k.empty e x;
}

-- with the mailbox of the busy site, all mailboxes stand
with_busy : (g : Input) (log more : Log) (boxes : Boxes Msg) (b : Site) → Spooled g log boxes U
    → takes_part b log ≡ true → takes_part b more ≡ true → Spooled g more boxes b → Spooled g more boxes U
with_busy g log more boxes b s p q r = record {
  has = r.has;
  each = λ at here apart.
      elim (same_site at b) as (λ c. same_site at b ≡ c → KeepsFor g more at (mailbox_at boxes at)) [
        | true ↦ λ e. (let same : at ≡ b = same_is at b e in
            let one : takes_part at log ≡ true = ap (λ z. takes_part z log) same ∙ p in
            let two : takes_part at more ≡ true = ap (λ z. takes_part z more) same ∙ q in
            empty_at g log more at (mailbox_at boxes at) (s.each at here apart) (up_of (is_down at log) (sym (part_is g at log here) ∙ one))
            (up_of (is_down at more) (sym (part_is g at more here) ∙ two)))
        | false ↦ λ e. r.each at here e
      ] refl;
}

-- in the loop that hands messages of one site over
pub one_first : (g : Input) (from to : Site) (q rest : List Msg) (m : Msg) → q ≡ m ∷ rest → IsLinkOf g from to → IsFirst g (from_one from q) from to m rest
one_first g from to q rest m e l = subst (λ z. IsFirst g (from_one from z) from to m rest) (sym e) (first_of_one g from to m rest l)

pub one_takes : (from : Site) (q rest : List Msg) (m : Msg) → q ≡ m ∷ rest → TakesAway (from_one from q) (from_one from rest) from rest
one_takes from q rest m e = subst (λ z. TakesAway (from_one from z) (from_one from rest) from rest) (sym e) (takes_of_one from m rest)

abbrev pub GivenLaw : NetValue → Delivered Msg → Site → Site → ℕ → Type 0
GivenLaw old d a b k = (tms dms : ℕ) (calls : List (Call Msg)) → Carries old tms dms calls → d ≡ delivery k (link a b calls)

abbrev pub PutLaw : NetValue → NetValue → Call Msg → Type 0
PutLaw old new c = (tms dms : ℕ) (calls : List (Call Msg)) → Carries old tms dms calls → Carries new tms dms (c ∷ calls)

all_beside : (g : Input) (a b : Site) (k : ℕ) (log : Log) (boxes : Boxes Msg)
    → ((x y : Site) → delivered (link_of x y (Mark (Deliver a b k) ∷ log)).there ≡ delivered
    (link_of x y log).there) → Spooled g log boxes U → Spooled g (Mark (Deliver a b k) ∷ log) boxes U
all_beside g a b k log boxes same s =
    spooled_on g log (Mark (Deliver a b k) ∷ log) boxes U (λ at. refl)
    (λ at apart x rest r. record {
      count = r.count ∙ sym (same x at);
      messages = λ i m p. sent_stays x at (Delivers a b k) (calls_of log) (handed x at log + i) m (r.messages i m p);
    }) s

pub got_nothing : (w w2 : World) (net : NetValue) (g : Input) (log : Log) (a b : Site) (k : ℕ)
    (d : Delivered Msg) → Marked w g log (Deliver a b k) → GivenLaw w.net d a b k
    → PutLaw w.net net (Delivers a b k) → d ≡ Nothing → w2 ≡ record w { net = net; history = w2.history }
    → w2.history ≡ w.history ++ (w.marks, Noted) ∷ [] → Happened w2 g log
got_nothing w w2 net g log a b k d m t f e same note =
    let f2 : PutLaw w.net w2.net (Delivers a b k) = subst (λ z. PutLaw w.net z (Delivers a b k)) (sym (ap (λ v. v.net) same)) f in
    let same2 : w2 ≡ record w { net = w2.net; history = w2.history } =
    same ∙ ap (λ z. record w { net = z; history = w2.history }) (sym (ap (λ v. v.net) same)) in
    let is : delivery k (link_of a b log) ≡ Nothing = sym (t g.catalogue.tms g.catalogue.dms (calls_of log) m.parts.net) ∙ e in
    marked_noted w w2 g log (Deliver a b k) m (sites_marked w g log (Deliver a b k) m tt (λ x. refl)) (delivers_nothing g a b k log m.marked is)
    (same2 ∙ ap (λ x. record w { net = w2.net; history = w2.history; spool = x }) (sym (ap (λ v. v.spool) same2))) note
    (f2 g.catalogue.tms g.catalogue.dms (calls_of log) m.parts.net)
    (subst (λ x. Spooled g (Mark (Deliver a b k) ∷ log) x U) (sym (ap (λ v. v.spool) same2))
    (all_beside g a b k log w.spool (nothing_same a b k log is) m.spooled))

pub got_ack : (w w2 : World) (g : Input) (log : Log) (a b : Site) (k : ℕ) (d : Delivered Msg)
    → Marked w g log (Deliver a b k) → GivenLaw w.net d a b k → PutLaw w.net w2.net (Delivers a b k)
    → d ≡ Acked → w2 ≡ record w { net = w2.net } → Happened w2 g log
got_ack w w2 g log a b k d m t f e same =
    let is : delivery k (link_of a b log) ≡ Acked = sym (t g.catalogue.tms g.catalogue.dms (calls_of log) m.parts.net) ∙ e in
    marked_plain w w2 g log (Deliver a b k) m (sites_marked w g log (Deliver a b k) m tt (λ x. refl)) (delivers_ack g a b k log m.marked is)
    (same ∙ ap (λ x. record w { net = w2.net; spool = x }) (sym (ap (λ v. v.spool) same))) (f g.catalogue.tms g.catalogue.dms (calls_of log) m.parts.net)
    (subst (λ x. Spooled g (Mark (Deliver a b k) ∷ log) x U) (sym (ap (λ v. v.spool) same))
    (all_beside g a b k log w.spool (ack_same a b k log is) m.spooled))

-- messages have come to a site
pub arrives : (w now : World) (g : Input) (log : Log) (a b : Site) (k : ℕ) (d : Delivered Msg)
    (messages : List Msg) → Marked w g log (Deliver a b k)
    → GivenLaw w.net d a b k → PutLaw w.net now.net (Delivers a b k)
    → d ≡ Messages messages → now ≡ record w { net = now.net } → Arrives w now g log a b k messages
arrives w now g log a b k d messages m t f e same = record {
  marked = m;
  delivered_are = sym (t g.catalogue.tms g.catalogue.dms (calls_of log) m.parts.net) ∙ e;
  same = same;
  net = f g.catalogue.tms g.catalogue.dms (calls_of log) m.parts.net;
}

-- once they are handed over, the event is done
pub handed_calm : (w w1 w2 : World) (g : Input) (log : Log) (a b : Site) (k : ℕ)
    → Marked w g log (Deliver a b k) → takes_part b log ≡ true → w1 ≡ record w { net = w1.net }
    → HandedOn w2 g b (from_one a []) (position_of g (Mark (Deliver a b k) ∷ log))
    w1.spool → Happened w2 g log
handed_calm w w1 w2 g log a b k m part same d =
    let h = d.handing in
    let boxes : w2.spool ≡ w.spool = d.spool_is ∙ ap (λ v. v.spool) same in
    record {
      more = d.more;
      calm = record {
        parts = h.parts;
        rests = record {
          lawful = h.waits.lawful;
          within = h.waits.within;
          no_mark = h.waits.no_mark;
          no_site = h.waits.no_site;
          handed_all = all_handed g d.more b (from_one a []) h.waits (none_of_one a);
        };
        marks_are = h.marks_are;
        spooled = subst (λ x. Spooled g d.more x U) (sym boxes)
            (with_busy g log d.more w.spool b m.spooled part h.waits.part (subst (λ x. Spooled g d.more x b) boxes h.spooled));
      };
      position_is = d.position_is;
    }

-- one more was handed over
pub handed_further : (w : World) (g : Input) (b : Site) (kept : Site → List Msg) (first now : Position)
    (boxes before : Boxes Msg) → now ≡ first → before ≡ boxes
    → HandedOn w g b kept now before → HandedOn w g b kept first boxes
handed_further w g b kept first now boxes before e f d = record { more = d.more; handing = d.handing; position_is = d.position_is ∙ e; spool_is = d.spool_is ∙ f }

-- none is handed over yet
pub handed_none : (w : World) (g : Input) (log : Log) (from to : Site) (messages queue : List Msg)
    → messages ≡ queue → Handing w g log to (from_one from messages) → HandedOn w g to (from_one from queue) (position_of g log) w.spool
handed_none w g log from to messages queue e h =
    record { more = log; handing = subst (λ q. Handing w g log to (from_one from q)) e h; position_is = refl; spool_is = refl }

pub handed_whole : {A : Type 0} (messages queue : List A) {items : List A} → items ≡ messages → queue ≡ items → messages ≡ queue
handed_whole messages queue e f = sym (f ∙ e)
