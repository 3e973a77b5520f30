-- A module goes down, or comes up, over plain worlds.
use Rattle.sdd_world.proofs.All.{AllHanded, AllRepresent, At, Bool, Boxes, Carries, D, Down, Event, Happened, HasSenders, Input, IsModuleOf, IsNoTick, Kept, KeepsFor, List, LivesT, Log, Mailbox, Mark, Marked, Msg, None, Noted, Notes, OnlyAt, Option, Parts, Remain, Represent, Rests, Resuming, Setting, Site, Sites, Some, Spooled, T, U, Up, World, [], ap, calls_of, false, goes_down, if◌then◌else◌, is_down, is_down_already, isnt_down, kept_from, local_of, mailbox_at, none_remains, not, not_false, refl, represents_queues, same_here, same_is, same_site, setting_of, slice_get, subst, sym, takes_part, true, up_of as not_true, ◌++◌, ◌-◌, ◌||◌, ◌∙◌, ◌∷◌, ◌≡◌}
use Rattle.sdd_world.proofs.Keeping.{by_site, down_of}
use Rattle.sdd_world.proofs.Marking.{marked_noted, marked_plain, sites_marked}
use Rattle.sdd_world.proofs.Parting.{keeps_on, represent_on}
use Rattle.sdd_world.proofs.Placing.{no_u, other_way, part_is}
use Rattle.sdd_sites.specs.needs.site_module.SiteLog as site
use Rattle.sdd_sites.specs.needs.tm.State as tm_state

-- which modules are down as one turns

other_downs : (x at : Site) (b down : Bool) → same_site x at ≡ false → (if same_site at x then b else down) ≡ down
other_downs x at b down n = ap (λ c. if c then b else down) (other_way x at n)

own_down : (at : Site) (log : Log) → is_down at (Mark (Down at) ∷ log) ≡ true
own_down at log = ap (λ c. if c then true else is_down at log) (same_here at)

again_down : (x at : Site) (log : Log) → is_down at log ≡ true → is_down x (Mark (Down at) ∷ log) ≡ is_down x log
again_down x at log p = elim (same_site at x) as (λ c. same_site at x ≡ c → (if c then true else is_down x log) ≡ is_down x log) [
  | true ↦ λ q. sym (subst (λ z. is_down z log ≡ true) (same_is at x q) p)
  | false ↦ λ q. refl
] refl

again_up : (x at : Site) (log : Log) → is_down at log ≡ false → is_down x (Mark (Up at) ∷ log) ≡ is_down x log
again_up x at log p = elim (same_site at x) as (λ c. same_site at x ≡ c → (if c then false else is_down x log) ≡ is_down x log) [
  | true ↦ λ q. sym (subst (λ z. is_down z log ≡ false) (same_is at x q) p)
  | false ↦ λ q. refl
] refl

same_part : (x : Site) (log more : Log) → is_down x more ≡ is_down x log → takes_part x more ≡ takes_part x log
same_part x log more e = ap (λ down. same_site x U || not down) e

-- the mailboxes as a module turns

senders_turned : (g : Input) (at : Site) (b : Mailbox Msg) (down : Bool) → HasSenders g at b → HasSenders g at (record b { down = down })
senders_turned g at b down h = record { tms = h.tms; count = h.count; linked = h.linked }

-- the mailbox of the module that turns changes alone
turned_others : (g : Input) (log more : Log) (old new : Boxes Msg) (at : Site)
    → ((x : Site) → same_site x at ≡ false → is_down x more ≡ is_down x log)
    → ((x y : Site) (rest : List Msg) → Remain log x y rest → Remain more x y rest)
    → OnlyAt old new at → Spooled g log old U → Spooled g more new at
turned_others g log more old new at downs remains only s = record {
  has = record { tms = only.tms ∙ s.has.tms; count = only.count ∙ s.has.count };
  each = λ x here apart.
      subst (λ b. KeepsFor g more x b) (sym (only.others x apart))
      (keeps_on g log more x (mailbox_at old x) (downs x apart) (λ y rest r. remains y x rest r) (s.each x here (no_u g x here)));
}

down_spool : (g : Input) (log : Log) (old new : Boxes Msg) (at : Site) → IsModuleOf g at → is_down at log ≡ false → AllHanded log
    → mailbox_at new at ≡ record (mailbox_at old at) { down = true } → OnlyAt old new at → Spooled g log old U
    → Spooled g (Mark (Down at) ∷ log) new U
down_spool g log old new at here up all box only s =
    let k : KeepsFor g log at (mailbox_at old at) = s.each at here (no_u g at here) in
    by_site g (Mark (Down at) ∷ log) new at
    (record {
      down_is = ap (λ b. b.down) box ∙ sym (own_down at log);
      senders = subst (λ b. HasSenders g at b) (sym box) (senders_turned g at (mailbox_at old at) true k.senders);
      kept = λ p x.
          let none : kept_from (mailbox_at new at) x ≡ [] = ap (λ b. kept_from b x) box ∙ k.empty up x in
          let r : Remain log x at [] = none_remains log x at (all x at (part_is g at log here ∙ ap not up)) in
          subst (λ z. Remain (Mark (Down at) ∷ log) x at z) (sym none) (record { count = r.count; messages = r.messages });
      empty = λ p x. (let no : true ≡ false = sym (own_down at log) ∙ p in cc);
    })
    (turned_others g log (Mark (Down at) ∷ log) old new at (λ x n. other_downs x at true (is_down x log) n)
    (λ x y rest r. record { count = r.count; messages = r.messages }) only s)

turn_same : (g : Input) (log more : Log) (old new : Boxes Msg) (at : Site) → IsModuleOf g at → ((x : Site) → is_down x more ≡ is_down x log)
    → ((x y : Site) (rest : List Msg) → Remain log x y rest → Remain more x y rest)
    → mailbox_at new at ≡ mailbox_at old at → OnlyAt old new at → Spooled g log old U → Spooled g more new U
turn_same g log more old new at here downs remains box only s =
    by_site g more new at
    (subst (λ b. KeepsFor g more at b) (sym box)
    (keeps_on g log more at (mailbox_at old at) (downs at) (λ x rest r. remains x at rest r) (s.each at here (no_u g at here))))
    (turned_others g log more old new at (λ x n. downs x) remains only s)

same_box : (b : Mailbox Msg) (down : Bool) → b.down ≡ down → record b { down = down } ≡ b
same_box b down e = ap (λ z. record b { down = z }) (sym e)

-- what a call that turns a module ensures
pub record SpoolTurns (old new : Boxes Msg) (at : Site) (down : Bool) : Type 0 where
  pub mailbox : mailbox_at new at ≡ record (mailbox_at old at) { down = down }
  pub others : OnlyAt old new at

-- the modules as one goes down: what it represented, it keeps

queues_at : (o : Option (Kept tm_state.State)) (setting : Setting) (l : site.Log) → At (LivesT true) o setting l → At (LivesT false) o setting l
queues_at None setting l h = h
queues_at (Some v) setting l h = record { live = h.live; represents_log = represents_queues v setting l h.represents_log }

queues_there : (m : Sites) (at : Site) (setting : Setting) (l : site.Log) → Represent m true at setting l → Represent m false at setting l
queues_there m U setting l h = h
queues_there m (T n) setting l h = (h.0, queues_at (slice_get m.tms.items (n.0 - 1)) setting l h.1)
queues_there m (D n) setting l h = h

none_after : (at : Site) (log : Log) → same_site at U ≡ false → takes_part at (Mark (Down at) ∷ log) ≡ false
none_after at log n = ap (λ u. u || not (is_down at (Mark (Down at) ∷ log))) n ∙ ap not (own_down at log)

sites_down : (w : World) (g : Input) (log : Log) (at : Site) → Marked w g log (Down at) → IsModuleOf g at → is_down at log ≡ false
    → AllRepresent w.sites g (Mark (Down at) ∷ log)
sites_down w g log at m turns up x here =
    let more : Log = Mark (Down at) ∷ log in
    elim (same_site x at) as (λ c. same_site x at ≡ c → Represent w.sites (takes_part x more) x (setting_of g x) (local_of g x more)) [
      | true ↦ λ p.
          let same : x ≡ at = same_is x at p in
          let part : takes_part x log ≡ true = ap (λ z. takes_part z log) same ∙ part_is g at log turns ∙ ap not up in
          let none : takes_part x more ≡ false = ap (λ z. takes_part z more) same ∙ none_after at log (no_u g at turns) in
          represent_on w.sites x false (takes_part x more) (setting_of g x) (local_of g x log) (local_of g x more) none refl
          (queues_there w.sites x (setting_of g x) (local_of g x log)
          (subst (λ z. Represent w.sites z x (setting_of g x) (local_of g x log)) part (m.parts.sites x here)))
      | false ↦ λ p. represent_on w.sites x (takes_part x log) (takes_part x more) (setting_of g x) (local_of g x log) (local_of g x more)
          (same_part x log more (other_downs x at true (is_down x log) p)) refl (m.parts.sites x here)
    ] refl

-- an event that finds its module as it is to be

same_note : (w w1 w2 : World) → w1 ≡ record w { spool = w1.spool } → w2 ≡ record w1 { history = w2.history }
    → w2 ≡ record w { net = w2.net; history = w2.history; spool = w2.spool }
same_note w w1 w2 one two =
    two ∙ ap (λ (v : World). record v { history = w2.history }) one
    ∙ ap (λ z. record w { net = z; history = w2.history; spool = w1.spool }) (sym (ap (λ v. v.net) two ∙ ap (λ v. v.net) one))
    ∙ ap (λ z. record w { net = w2.net; history = w2.history; spool = z }) (sym (ap (λ v. v.spool) two))

noted_too : (w w1 w2 : World) → w1 ≡ record w { spool = w1.spool }
    → w2.history ≡ w1.history ++ (w1.marks, Noted) ∷ [] → w2.history ≡ w.history ++ (w.marks, Noted) ∷ []
noted_too w w1 w2 one note = note ∙ ap (λ v. v.history ++ (v.marks, Noted) ∷ []) one

turned_noted : (w w1 w2 : World) (g : Input) (log : Log) (e : Event) (at : Site) → Marked w g log e → IsModuleOf g at → IsNoTick e
    → Rests g (Notes ∷ Mark e ∷ log) → ((x : Site) → is_down x (Mark e ∷ log) ≡ is_down x log)
    → mailbox_at w1.spool at ≡ mailbox_at w.spool at → ((x y : Site) (rest : List Msg) → Remain log x y rest → Remain (Mark e ∷ log) x y rest)
    → calls_of (Mark e ∷ log) ≡ calls_of log → OnlyAt w.spool w1.spool at → w1 ≡ record w { spool = w1.spool }
    → w2 ≡ record w1 { history = w2.history } → w2.history ≡ w1.history ++ (w1.marks, Noted) ∷ [] → Happened w2 g log
turned_noted w w1 w2 g log e at m here i r downs box remains calls only one two note =
    marked_noted w w2 g log e m (sites_marked w g log e m i (λ x. same_part x log (Mark e ∷ log) (downs x))) r (same_note w w1 w2 one two)
    (noted_too w w1 w2 one note)
    (subst (λ c. Carries w2.net g.catalogue.tms g.catalogue.dms c) (sym calls)
    (subst (λ z. Carries z g.catalogue.tms g.catalogue.dms (calls_of log)) (sym (ap (λ v. v.net) two ∙ ap (λ v. v.net) one)) m.parts.net))
    (subst (λ z. Spooled g (Mark e ∷ log) z U) (sym (ap (λ v. v.spool) two))
    (turn_same g log (Mark e ∷ log) w.spool w1.spool at here downs remains box only m.spooled))

-- the calls

pub went_down : (w w2 : World) (g : Input) (log : Log) (at : Site) (turned : Bool)
    → Marked w g log (Down at) → turned ≡ not (mailbox_at w.spool at).down → SpoolTurns w.spool w2.spool at true
    → turned ≡ true → w2 ≡ record w { spool = w2.spool } → Happened w2 g log
went_down w w2 g log at turned m t s e same =
    let up : is_down at log ≡ false = sym (down_of g log w.spool at m.possible m.spooled) ∙ not_true (mailbox_at w.spool at).down (sym t ∙ e) in
    marked_plain w w2 g log (Down at) m (sites_down w g log at m m.possible up) (goes_down g at log m.marked up)
    (same ∙ ap (λ z. record w { net = z; spool = w2.spool }) (sym (ap (λ v. v.net) same)))
    (subst (λ z. Carries z g.catalogue.tms g.catalogue.dms (calls_of log)) (sym (ap (λ v. v.net) same)) m.parts.net)
    (down_spool g log w.spool w2.spool at m.possible up m.marked.rests.handed_all s.mailbox s.others m.spooled)

pub was_down : (w w1 w2 : World) (g : Input) (log : Log) (at : Site) (turned : Bool)
    → Marked w g log (Down at) → turned ≡ not (mailbox_at w.spool at).down → SpoolTurns w.spool w1.spool at true
    → turned ≡ false → w1 ≡ record w { spool = w1.spool } → w2 ≡ record w1 { history = w2.history }
    → w2.history ≡ w1.history ++ (w1.marks, Noted) ∷ [] → Happened w2 g log
was_down w w1 w2 g log at turned m t s e one two note =
    let box_down : (mailbox_at w.spool at).down ≡ true = not_false (mailbox_at w.spool at).down (sym t ∙ e) in
    let down : is_down at log ≡ true = sym (down_of g log w.spool at m.possible m.spooled) ∙ box_down in
    turned_noted w w1 w2 g log (Down at) at m m.possible tt (is_down_already g at log m.marked down) (λ x. again_down x at log down)
    (s.mailbox ∙ same_box (mailbox_at w.spool at) true box_down) (λ x y rest q. record { count = q.count; messages = q.messages }) refl s.others one two note

pub wasnt_down : (w w1 w2 : World) (g : Input) (log : Log) (at : Site) (turned : Bool)
    → Marked w g log (Up at) → turned ≡ (mailbox_at w.spool at).down → SpoolTurns w.spool w1.spool at false
    → turned ≡ false → w1 ≡ record w { spool = w1.spool } → w2 ≡ record w1 { history = w2.history }
    → w2.history ≡ w1.history ++ (w1.marks, Noted) ∷ [] → Happened w2 g log
wasnt_down w w1 w2 g log at turned m t s e one two note =
    let up : is_down at log ≡ false = sym (down_of g log w.spool at m.possible m.spooled) ∙ sym t ∙ e in
    turned_noted w w1 w2 g log (Up at) at m m.possible tt (isnt_down g at log m.marked up) (λ x. again_up x at log up)
    (s.mailbox ∙ same_box (mailbox_at w.spool at) false (sym t ∙ e)) (λ x y rest q. record { count = q.count; messages = q.messages })
    refl s.others one two note

-- the parts of a world but for its mailboxes
pub parts_spool : (w : World) (boxes : Boxes Msg) (g : Input) (log : Log) → Parts w g log → Parts (record w { spool = boxes }) g log
parts_spool w boxes g log p = record {
  good = p.good;
  sound = p.sound;
  whole_is = p.whole_is;
  catalogue_is = p.catalogue_is;
  txns_are = p.txns_are;
  given_is = p.given_is;
  history_is = p.history_is;
  sites = p.sites;
  net = p.net;
}

pub parts_same : (w now : World) (g : Input) (log : Log) → now ≡ record w { spool = now.spool } → Parts w g log → Parts now g log
parts_same w now g log same p = subst (λ v. Parts v g log) (sym same) (parts_spool w now.spool g log p)

-- a module comes up
pub rises : (w w1 : World) (g : Input) (log : Log) (at : Site) (turned : Bool)
    → Marked w g log (Up at) → turned ≡ (mailbox_at w.spool at).down → SpoolTurns w.spool w1.spool at false
    → turned ≡ true → w1 ≡ record w { spool = w1.spool } → Resuming w1 g log at
rises w w1 g log at turned m t s e same =
    let box : KeepsFor g log at (mailbox_at w.spool at) = m.spooled.each at m.possible (no_u g at m.possible) in
    let down : is_down at log ≡ true = sym box.down_is ∙ sym t ∙ e in
    record {
      marked = m.marked;
      was_down = down;
      parts = parts_same w w1 g log same m.parts;
      marks_are = ap (λ v. v.marks) same ∙ m.marks_are;
      kept = λ x. subst (λ b. Remain log x at (kept_from b x)) (sym s.mailbox) (box.kept down x);
      rising = record {
        here = m.possible;
        has = record { tms = s.others.tms ∙ m.spooled.has.tms; count = s.others.count ∙ m.spooled.has.count };
        box_up = ap (λ b. b.down) s.mailbox;
        senders = subst (λ b. HasSenders g at b) (sym s.mailbox) (senders_turned g at (mailbox_at w.spool at) false box.senders);
      };
      others = turned_others g log (Mark (Up at) ∷ log) w.spool w1.spool at (λ x n. other_downs x at false (is_down x log) n)
          (λ x y rest r. record { count = r.count; messages = r.messages }) s.others m.spooled;
    }
