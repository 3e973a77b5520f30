-- All that the acts of a transaction module rest on, and how it changes with an entry of the log.
use Rattle.std.specs.Prelude.{ℕ, suc, nat_lt, ◌==◌, Bool, not, List, [], ◌∷◌, ◌++◌, map, filter, length, is_none, Option}
use Rattle.sdd_module.specs.All.{Act, Ask, Did, Entry, Era, Handed, Held, Log, Msg, Redeclared, Release, Sends, Setting, Site, Submits, Ticked, Ticking, answers_hand, current_era, hands, number_of, numbers_to, pushed, ticked}
use Rattle.sdd_rules.specs.attempt.Attempts.{Attempt, active, active_after, active_handed}
use Rattle.sdd_module.specs.wire.declared.msg.Msg.TheVariants.{Hold}
use Rattle.sdd_rules.specs.attempt.Queues.{Queued, queue, queue_after, submitted}
use Rattle.sdd_module.specs.catalog.Catalogue.{class_at}
use Rattle.sdd_rules.specs.attempt.Clocks.{clock, pushed_by, ticked_by}

-- an ASK that has no NULL yet: its hand, the site that it came from, its class and its time
pub record Question : Type 0 where
  pub hand : ℕ
  pub from : Site
  pub class : ℕ
  pub time : ℕ

abbrev pub asks_handed : ℕ → Site → Msg → List Question → List Question
asks_handed n from (Ask class time) qs = qs ++ record { hand = n; from = from; class = class.0; time = time.0 } ∷ []
asks_handed n from _ qs = qs

abbrev pub asks_acted : Act → List Question → List Question
asks_acted (Sends to m hand) qs = filter (λ q. not (answers_hand hand q.hand)) qs
asks_acted _ qs = qs

-- in the order of their hands
abbrev pub asks : Log → List Question
asks [] = []
asks (Handed from m ∷ log) = asks_handed (suc (hands log)) from m (asks log)
asks (Did act ∷ log) = asks_acted act (asks log)
asks (_ ∷ log) = asks log

-- how many HOLDs and RELEASEs were handed and how many HELDs were sent, and the hand of the last HOLD
pub record HoldCounts : Type 0 where
  pub holds : ℕ
  pub last : ℕ
  pub releases : ℕ
  pub helds : ℕ

abbrev pub holds_handed : ℕ → Msg → HoldCounts → HoldCounts
holds_handed n Hold h = record h { holds = suc h.holds; last = n }
holds_handed n (Release ts) h = record h { releases = suc h.releases }
holds_handed n _ h = h

abbrev pub holds_acted : Act → HoldCounts → HoldCounts
holds_acted (Sends to (Held time) hand) h = record h { helds = suc h.helds }
holds_acted _ h = h

abbrev pub holds : Log → HoldCounts
holds [] = record { holds = 0; last = 0; releases = 0; helds = 0 }
holds (Handed from m ∷ log) = holds_handed (suc (hands log)) m (holds log)
holds (Did act ∷ log) = holds_acted act (holds log)
holds (_ ∷ log) = holds log

-- of one class: its queue and its active attempt
pub record ClassView : Type 0 where
  pub class : ℕ
  pub queue : List Queued
  pub active : Option Attempt

-- the number of hands, the clock, the classes in force, holds, ASKs, and the classes that the module runs
pub record View : Type 0 where
  pub hands : ℕ
  pub clock : Ticking
  pub era : Era
  pub holds : HoldCounts
  pub asks : List Question
  pub classes : List ClassView

-- the classes of the module, those that aren't in force too
abbrev pub runs : Setting → List ℕ
runs s = filter (λ c. (class_at s.catalogue c).tm.0 == number_of s.site) (numbers_to (length s.catalogue.classes))

abbrev pub class_view : Setting → Log → ℕ → ClassView
class_view s log c = record { class = c; queue = queue s c log; active = active s c log }

abbrev pub view_of : Setting → Log → View
view_of s log = record {
  hands = hands log;
  clock = clock s.site log;
  era = current_era s log;
  holds = holds log;
  asks = asks log;
  classes = map (class_view s log) (runs s);
}

-- the module is on hold: more HOLDs were handed than RELEASEs
abbrev pub on_hold : View → Bool
on_hold v = nat_lt v.holds.releases v.holds.holds

-- no attempt of the class is under way
abbrev pub is_idle : ClassView → Bool
is_idle k = is_none k.active

-- the view after an entry

abbrev pub class_after : Entry → View → ClassView → ClassView
class_after (Handed from m) v k = record k { active = active_handed k.class from m k.active }
class_after (Submits n txn) v k = record k { queue = submitted k.class v.era.catalogue n txn k.queue }
class_after (Did act) v k = record k { queue = queue_after k.class act k.queue; active = active_after k.class act k.queue k.active }
class_after _ v k = k

abbrev pub after : Entry → View → View
after (Handed from m) v = record {
  hands = suc v.hands;
  clock = pushed_by m v.clock;
  era = v.era;
  holds = holds_handed (suc v.hands) m v.holds;
  asks = asks_handed (suc v.hands) from m v.asks;
  classes = map (class_after (Handed from m) v) v.classes;
}
after (Submits n txn) v = record v { classes = map (class_after (Submits n txn) v) v.classes }
after (Ticked n) v = record v { clock = ticked v.clock n }
after (Redeclared era t) v = record v { clock = pushed v.clock t; era = era }
after (Did act) v = record v {
  clock = ticked_by act v.clock;
  holds = holds_acted act v.holds;
  asks = asks_acted act v.asks;
  classes = map (class_after (Did act) v) v.classes;
}
