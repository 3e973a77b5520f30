-- Events of which nothing more is due, or that find nothing to do, over plain worlds.
use Rattle.sdd_world.proofs.All.{All, AllRepresent, Bool, Boxes, Call, Carries, Down, Event, Happened, Input, IsNoTick, List, Log, Lose, Loses, Mark, Marked, Msg, NetValue, None, Noted, Notes, Option, Packet, Remain, Repeat, Repeats, Resend, Resends, Rests, Site, Some, Spooled, TurnsNone, U, Up, World, [], after_mark, ap, arith, calls_of, delivered, delivered_lose, delivered_repeat, delivered_resend, due_by, false, handed, handed_still, history, is_down, is_none, is_some, left, length, link, link_of, mark_local, marks, nat_lt, none_by_mark, note_if, nth_era, packet_at, part_marked, redeclares, refl, rests_marked, rests_noted, sent_stays, slice_get, subst, suc, sym, takes_part, true, turns_none, unacked_none, unacked_some, ℕ, ◌++◌, ◌+◌, ◌∙◌, ◌∷◌, ◌≡◌, ◌≤◌}
use Rattle.sdd_world.proofs.Parting.{all_on, events_before, later, same_position, spooled_on}

note_some : {M : Type 0} (o : Option (Packet M)) → is_some o ≡ true → note_if (is_none o) ≡ None
note_some None e = cc
note_some (Some p) e = refl

note_none : {M : Type 0} (o : Option (Packet M)) → is_some o ≡ false → note_if (is_none o) ≡ Some Notes
note_none None e = refl
note_none (Some p) e = cc

-- an event that turns no module leaves the downs
pub same_downs : (at : Site) (e : Event) (log : Log) → TurnsNone e → is_down at (Mark e ∷ log) ≡ is_down at log
same_downs at (Down k) log h = absurd h
same_downs at (Up k) log h = absurd h
same_downs at _ log h = refl

-- what remains on a link stays, where an event delivers nothing on it and puts nothing away
abbrev pub KeepsLinks : Event → Log → Type 0
KeepsLinks e log = (a b : Site) (rest : List Msg) → Remain log a b rest → Remain (Mark e ∷ log) a b rest

keeps_by_call : (c : Call Msg) (e : Event) (log : Log) (a b : Site) → calls_of (Mark e ∷ log) ≡ c ∷ calls_of log
    → delivered (link a b (c ∷ calls_of log)).there ≡ delivered (link a b (calls_of log)).there
    → (rest : List Msg) → Remain log a b rest → Remain (Mark e ∷ log) a b rest
keeps_by_call c e log a b same d rest r = record {
  count = r.count ∙ sym d ∙ ap (λ cs. delivered (link a b cs).there) (sym same);
  messages = λ i m p. subst (λ cs. slice_get (link a b cs).there.sent (handed a b log + i) ≡ Some m)
      (sym same) (sent_stays a b c (calls_of log) (handed a b log + i) m (r.messages i m p));
}

pub lose_keeps : (a b : Site) (k : ℕ) (log : Log) → KeepsLinks (Lose a b k) log
lose_keeps a b k log x y = keeps_by_call (Loses a b k) (Lose a b k) log x y refl (delivered_lose x y a b k (calls_of log))

pub repeat_keeps : (a b : Site) (k : ℕ) (log : Log) → KeepsLinks (Repeat a b k) log
repeat_keeps a b k log x y = keeps_by_call (Repeats a b k) (Repeat a b k) log x y refl (delivered_repeat x y a b k (calls_of log))

pub resend_keeps : (a b : Site) (log : Log) → KeepsLinks (Resend a b) log
resend_keeps a b log x y = keeps_by_call (Resends a b) (Resend a b) log x y refl (delivered_resend x y a b (calls_of log))

-- what of a world stays but for its history, its network, its modules and its mailboxes
pub record Stays (old new : World) : Type 0 where
  pub whole : new.whole.now ≡ old.whole.now
  pub catalogue : new.catalogue.now ≡ old.catalogue.now
  pub txns : new.txns ≡ old.txns
  pub given : new.given ≡ old.given
  pub marks : new.marks ≡ old.marks

-- after an event the parts represent a longer log
pub record Results (w2 : World) (g : Input) (log more : Log) : Type 0 where
  pub rests : Rests g more
  pub marks_is : marks more ≡ suc (marks log)
  pub left_is : left g.events more ≡ after_mark (left g.events log)
  pub redeclares_is : redeclares more ≡ redeclares log
  pub history_is : w2.history ≡ history more
  pub sites : AllRepresent w2.sites g more
  pub net : Carries w2.net g.catalogue.tms g.catalogue.dms (calls_of more)
  pub spooled : Spooled g more w2.spool U

pub happened : (w w2 : World) (g : Input) (log : Log) (e : Event) (more : Log) → Marked w g log e → Stays w w2 → Results w2 g log more → Happened w2 g log
happened w w2 g log e more m s r = record {
  more = more;
  calm = record {
    parts = record {
      good = m.parts.good;
      sound = m.parts.sound;
      whole_is = s.whole ∙ m.parts.whole_is;
      catalogue_is = s.catalogue ∙ m.parts.catalogue_is ∙ ap (λ k. (nth_era g k).catalogue) (sym r.redeclares_is);
      txns_are = s.txns ∙ m.parts.txns_are;
      given_is = ap (λ v. v.items) s.given ∙ m.parts.given_is;
      history_is = r.history_is;
      sites = r.sites;
      net = r.net;
    };
    rests = r.rests;
    marks_are = s.marks ∙ m.marks_are ∙ sym r.marks_is;
    spooled = r.spooled;
  };
  position_is = same_position (left g.events more) (after_mark (left g.events log)) (marks more) (suc (marks log)) r.left_is r.marks_is;
}

-- the modules stay as they are after an event that lets no clock go on, where each takes part as before
pub sites_marked : (w : World) (g : Input) (log : Log) (e : Event) → Marked w g log e → IsNoTick e
    → ((x : Site) → takes_part x (Mark e ∷ log) ≡ takes_part x log) → AllRepresent w.sites g (Mark e ∷ log)
sites_marked w g log e m i part = all_on w.sites g log (Mark e ∷ log) part (λ x. mark_local g e log x i) m.parts.sites

-- an event of which nothing more is due
pub marked_plain : (w w2 : World) (g : Input) (log : Log) (e : Event) → Marked w g log e → AllRepresent w.sites g (Mark e ∷ log) → Rests g (Mark e ∷ log)
    → w2 ≡ record w { net = w2.net; spool = w2.spool } → Carries w2.net g.catalogue.tms g.catalogue.dms
    (calls_of (Mark e ∷ log)) → Spooled g (Mark e ∷ log) w2.spool U
    → Happened w2 g log
marked_plain w w2 g log e m all r same n s =
    happened w w2 g log e (Mark e ∷ log) m
    (record { whole = ap (λ v. v.whole.now) same; catalogue = ap (λ v. v.catalogue.now) same; txns = ap (λ v. v.txns) same; given = ap (λ v. v.given) same; marks = ap (λ v. v.marks) same })
    (record {
      rests = r;
      marks_is = refl;
      left_is = refl;
      redeclares_is = refl;
      history_is = ap (λ v. v.history) same ∙ m.parts.history_is;
      sites = subst (λ z. AllRepresent z g (Mark e ∷ log)) (sym (ap (λ v. v.sites) same)) all;
      net = n;
      spooled = s;
    })

noted_spool : (g : Input) (log : Log) (boxes : Boxes Msg) → Spooled g log boxes U → Spooled g (Notes ∷ log) boxes U
noted_spool g log boxes s = spooled_on g log (Notes ∷ log) boxes U (λ at. refl) (λ at apart x rest r. record { count = r.count; messages = r.messages }) s

-- an event that finds nothing to do, and is noted
pub marked_noted : (w w2 : World) (g : Input) (log : Log) (e : Event) → Marked w g log e → AllRepresent w.sites g (Mark e ∷ log)
    → Rests g (Notes ∷ Mark e ∷ log)
    → w2 ≡ record w { net = w2.net; history = w2.history; spool = w2.spool } → w2.history ≡ w.history ++ (w.marks, Noted) ∷ []
    → Carries w2.net g.catalogue.tms g.catalogue.dms (calls_of (Mark e ∷ log)) → Spooled g (Mark e ∷ log) w2.spool U → Happened w2 g log
marked_noted w w2 g log e m all r same noted n s =
    happened w w2 g log e (Notes ∷ Mark e ∷ log) m
    (record { whole = ap (λ v. v.whole.now) same; catalogue = ap (λ v. v.catalogue.now) same; txns = ap (λ v. v.txns) same; given = ap (λ v. v.given) same; marks = ap (λ v. v.marks) same })
    (record {
      rests = r;
      marks_is = refl;
      left_is = refl;
      redeclares_is = refl;
      history_is = noted ∙ ap (λ k. w.history ++ (k, Noted) ∷ []) m.marks_are ∙ ap (λ xs. xs ++ (suc (marks log), Noted) ∷ []) m.parts.history_is;
      sites = subst (λ z. AllRepresent z g (Notes ∷ Mark e ∷ log)) (sym (ap (λ v. v.sites) same))
          (all_on w.sites g (Mark e ∷ log) (Notes ∷ Mark e ∷ log) (λ x. refl) (λ x. refl) all);
      net = n;
      spooled = noted_spool g (Mark e ∷ log) w2.spool s;
    })

pub order_of : (w : World) (g : Input) (log : Log) (e : Event) → Marked w g log e → All {X = ℕ × _} (λ x. x.0 ≤ w.marks) w.history
order_of w g log e m = rw (m.marks_are, m.parts.history_is) (later (marks log) (suc (marks log)) (history log) (omega arith) (events_before log))

-- losing, repeating and resending

spool_kept : (g : Input) (log : Log) (e : Event) (boxes : Boxes Msg) → TurnsNone e
    → KeepsLinks e log → Spooled g log boxes U → Spooled g (Mark e ∷ log) boxes U
spool_kept g log e boxes t k s = spooled_on g log (Mark e ∷ log) boxes U (λ at. same_downs at e log t) (λ at apart x rest r. k x at rest r) s

pub record DoesNothing (w w2 : World) (g : Input) (log : Log) (e : Event) : Type 0 where
  pub no_tick : IsNoTick e
  pub turns_none : TurnsNone e
  pub links : KeepsLinks e log
  pub same : (a b : Site) → delivered (link_of a b (Mark e ∷ log)).there ≡ delivered (link_of a b log).there
  pub net : Carries w2.net g.catalogue.tms g.catalogue.dms (calls_of (Mark e ∷ log))

pub did : (w w2 : World) (g : Input) (log : Log) (e : Event) → Marked w g log e → DoesNothing w w2 g log e → due_by g e log ≡ None
    → w2 ≡ record w { net = w2.net } → Happened w2 g log
did w w2 g log e m q d same =
    marked_plain w w2 g log e m (sites_marked w g log e m q.no_tick (λ x. part_marked x e log q.turns_none))
    (rests_marked g log e m.marked (none_by_mark g log e q.no_tick (turns_none e log q.turns_none) m.marked.rests.no_site) d
    (handed_still log e q.turns_none q.same m.marked.rests.handed_all))
    (same ∙ ap (λ b. record w { net = w2.net; spool = b }) (sym (ap (λ v. v.spool) same))) q.net
    (subst (λ b. Spooled g (Mark e ∷ log) b U) (sym (ap (λ v. v.spool) same)) (spool_kept g log e w.spool q.turns_none q.links m.spooled))

pub noted : (w w2 : World) (g : Input) (log : Log) (e : Event) → Marked w g log e → DoesNothing w w2 g log e → due_by g e log ≡ Some Notes
    → w2 ≡ record w { net = w2.net; history = w2.history } → w2.history ≡ w.history ++ (w.marks, Noted) ∷ [] → Happened w2 g log
noted w w2 g log e m q d same note =
    marked_noted w w2 g log e m (sites_marked w g log e m q.no_tick (λ x. part_marked x e log q.turns_none))
    (rests_noted g log e m.marked q.no_tick (turns_none e log q.turns_none) d (handed_still log e q.turns_none q.same m.marked.rests.handed_all))
    (same ∙ ap (λ b. record w { net = w2.net; history = w2.history; spool = b }) (sym (ap (λ v. v.spool) same))) note q.net
    (subst (λ b. Spooled g (Mark e ∷ log) b U) (sym (ap (λ v. v.spool) same)) (spool_kept g log e w.spool q.turns_none q.links m.spooled))

pub lose_does : (w w2 : World) (g : Input) (log : Log) (a b : Site) (k : ℕ)
    → Carries w2.net g.catalogue.tms g.catalogue.dms (Loses a b k ∷ calls_of log) → DoesNothing w w2 g log (Lose a b k)
lose_does w w2 g log a b k n = record {
  no_tick = tt;
  turns_none = tt;
  links = lose_keeps a b k log;
  same = λ x y. delivered_lose x y a b k (calls_of log);
  net = n;
}

pub repeat_does : (w w2 : World) (g : Input) (log : Log) (a b : Site) (k : ℕ) → Carries w2.net g.catalogue.tms g.catalogue.dms (Repeats a b k ∷ calls_of log)
    → DoesNothing w w2 g log (Repeat a b k)
repeat_does w w2 g log a b k n = record {
  no_tick = tt;
  turns_none = tt;
  links = repeat_keeps a b k log;
  same = λ x y. delivered_repeat x y a b k (calls_of log);
  net = n;
}

pub resend_does : (w w2 : World) (g : Input) (log : Log) (a b : Site)
    → Carries w2.net g.catalogue.tms g.catalogue.dms (Resends a b ∷ calls_of log) → DoesNothing w w2 g log (Resend a b)
resend_does w w2 g log a b n = record {
  no_tick = tt;
  turns_none = tt;
  links = resend_keeps a b log;
  same = λ x y. delivered_resend x y a b (calls_of log);
  net = n;
}

abbrev pub NetLaw : NetValue → NetValue → Call Msg → Type 0
NetLaw old new c = (tms dms : ℕ) (calls : List (Call Msg)) → Carries old tms dms calls → Carries new tms dms (c ∷ calls)

abbrev pub ThereLaw : NetValue → Bool → Site → Site → ℕ → Type 0
ThereLaw old there a b k = (tms dms : ℕ) (calls : List (Call Msg)) → Carries old tms dms calls → there ≡ is_some (packet_at k (link a b calls))

pub lost : (w w2 : World) (g : Input) (log : Log) (a b : Site) (k : ℕ) (there : Bool)
    → Marked w g log (Lose a b k) → ThereLaw w.net there a b k → NetLaw w.net w2.net (Loses a b k)
    → there ≡ true → w2 ≡ record w { net = w2.net } → Happened w2 g log
lost w w2 g log a b k there m t f e same =
    did w w2 g log (Lose a b k) m (lose_does w w2 g log a b k (f g.catalogue.tms g.catalogue.dms (calls_of log) m.parts.net))
    (note_some (packet_at k (link_of a b log)) (sym (t g.catalogue.tms g.catalogue.dms (calls_of log) m.parts.net) ∙ e)) same

pub lost_nothing : (w w2 : World) (net : NetValue) (g : Input) (log : Log) (a b : Site) (k : ℕ)
    (there : Bool) → Marked w g log (Lose a b k) → ThereLaw w.net there a b k
    → NetLaw w.net net (Loses a b k) → there ≡ false → w2 ≡ record w { net = net; history = w2.history }
    → w2.history ≡ w.history ++ (w.marks, Noted) ∷ [] → Happened w2 g log
lost_nothing w w2 net g log a b k there m t f e same note =
    let f2 : NetLaw w.net w2.net (Loses a b k) = subst (λ z. NetLaw w.net z (Loses a b k)) (sym (ap (λ v. v.net) same)) f in
    let same2 : w2 ≡ record w { net = w2.net; history = w2.history } =
    same ∙ ap (λ z. record w { net = z; history = w2.history }) (sym (ap (λ v. v.net) same)) in
    noted w w2 g log (Lose a b k) m (lose_does w w2 g log a b k (f2 g.catalogue.tms g.catalogue.dms (calls_of log) m.parts.net))
    (note_none (packet_at k (link_of a b log)) (sym (t g.catalogue.tms g.catalogue.dms (calls_of log) m.parts.net) ∙ e)) same2 note

pub repeated : (w w2 : World) (g : Input) (log : Log) (a b : Site) (k : ℕ) (there : Bool)
    → Marked w g log (Repeat a b k) → ThereLaw w.net there a b k → NetLaw w.net w2.net (Repeats a b k)
    → there ≡ true → w2 ≡ record w { net = w2.net } → Happened w2 g log
repeated w w2 g log a b k there m t f e same =
    did w w2 g log (Repeat a b k) m (repeat_does w w2 g log a b k (f g.catalogue.tms g.catalogue.dms (calls_of log) m.parts.net))
    (note_some (packet_at k (link_of a b log)) (sym (t g.catalogue.tms g.catalogue.dms (calls_of log) m.parts.net) ∙ e)) same

pub repeated_nothing : (w w2 : World) (net : NetValue) (g : Input) (log : Log) (a b : Site) (k : ℕ)
    (there : Bool) → Marked w g log (Repeat a b k) → ThereLaw w.net there a b k
    → NetLaw w.net net (Repeats a b k) → there ≡ false → w2 ≡ record w { net = net; history = w2.history }
    → w2.history ≡ w.history ++ (w.marks, Noted) ∷ [] → Happened w2 g log
repeated_nothing w w2 net g log a b k there m t f e same note =
    let f2 : NetLaw w.net w2.net (Repeats a b k) = subst (λ z. NetLaw w.net z (Repeats a b k)) (sym (ap (λ v. v.net) same)) f in
    let same2 : w2 ≡ record w { net = w2.net; history = w2.history } =
    same ∙ ap (λ z. record w { net = z; history = w2.history }) (sym (ap (λ v. v.net) same)) in
    noted w w2 g log (Repeat a b k) m (repeat_does w w2 g log a b k (f2 g.catalogue.tms g.catalogue.dms (calls_of log) m.parts.net))
    (note_none (packet_at k (link_of a b log)) (sym (t g.catalogue.tms g.catalogue.dms (calls_of log) m.parts.net) ∙ e)) same2 note

abbrev pub SomeLaw : NetValue → Bool → Site → Site → Type 0
SomeLaw old some a b = (tms dms : ℕ) (calls : List (Call Msg)) → Carries old tms dms calls
    → some ≡ nat_lt (link a b calls).there.acked (length (link a b calls).there.sent)

pub resent : (w w2 : World) (g : Input) (log : Log) (a b : Site) (some : Bool)
    → Marked w g log (Resend a b) → SomeLaw w.net some a b → NetLaw w.net w2.net (Resends a b)
    → some ≡ true → w2 ≡ record w { net = w2.net } → Happened w2 g log
resent w w2 g log a b some m t f e same =
    did w w2 g log (Resend a b) m (resend_does w w2 g log a b (f g.catalogue.tms g.catalogue.dms (calls_of log) m.parts.net))
    (ap note_if (unacked_some (link_of a b log).there (sym (t g.catalogue.tms g.catalogue.dms (calls_of log) m.parts.net) ∙ e))) same

pub resent_nothing : (w w2 : World) (net : NetValue) (g : Input) (log : Log) (a b : Site) (some : Bool)
    → Marked w g log (Resend a b) → SomeLaw w.net some a b → NetLaw w.net net (Resends a b) → some ≡ false → w2 ≡ record w { net = net; history = w2.history }
    → w2.history ≡ w.history ++ (w.marks, Noted) ∷ [] → Happened w2 g log
resent_nothing w w2 net g log a b some m t f e same note =
    let f2 : NetLaw w.net w2.net (Resends a b) = subst (λ z. NetLaw w.net z (Resends a b)) (sym (ap (λ v. v.net) same)) f in
    let same2 : w2 ≡ record w { net = w2.net; history = w2.history } =
    same ∙ ap (λ z. record w { net = z; history = w2.history }) (sym (ap (λ v. v.net) same)) in
    noted w w2 g log (Resend a b) m (resend_does w w2 g log a b (f2 g.catalogue.tms g.catalogue.dms (calls_of log) m.parts.net))
    (ap note_if (unacked_none (link_of a b log).there (sym (t g.catalogue.tms g.catalogue.dms (calls_of log) m.parts.net) ∙ e))) same2 note
