-- What is reported follows the run: it stays where an event more is given and where a round begins, and grows with an event.
use Rattle.sdd_watch.proofs.All.{Event, Foresees, Input, IsLawful, IsMarkedBetween, IsToFollow, IsToTell, List, Log, Round, Teller, Tells, Turn, Watch, Watches, World, ap, change, line, sym, with_event, ◌++◌, ◌∙◌, ◌∷◌, ◌≡◌}
use Rattle.sdd_watch.proofs.TextSoFar.{text_given, text_more, text_round}

-- what is kept stays where a round begins, and where an event more is given

watches_round : (g : Input) (es : List Event) (log : Log) (w : Watch) → Watches g log w → Watches g (Round es ∷ log) w
watches_round g es log w h =
    record { sites = h.sites; links = h.links; queues = h.queues; pipes = h.pipes; records = h.records; commits = h.commits; dones = h.dones }

pub watches_given : (g : Input) (f : Event) (log : Log) (w : Watch) → Watches g log w → Watches (with_event g f) log w
watches_given g f log w h =
    record { sites = h.sites; links = h.links; queues = h.queues; pipes = h.pipes; records = h.records; commits = h.commits; dones = h.dones }

pub tells_round : (g : Input) (es : List Event) (log : Log) (t : Teller) → Tells g log t → Tells g (Round es ∷ log) t
tells_round g es log t h = record {
  catalogue_is = h.catalogue_is;
  text_is = h.text_is ∙ sym (text_round g es log);
  watches = watches_round g es log t.watch h.watches;
}

pub tells_given : (g : Input) (f : Event) (log : Log) (t : Teller) → IsLawful g log → Tells g log t → Tells (with_event g f) log t
tells_given g f log t l h = record {
  catalogue_is = h.catalogue_is;
  text_is = h.text_is ∙ sym (text_given g f log l);
  watches = watches_given g f log t.watch h.watches;
}

-- What was reported is reported of the longer log: its line is after the text, and what is kept is at its end.
pub record AddsReport (g : Input) (old new : Log) (t t2 : Teller) : Type 0 where
  pub catalogue : t2.catalogue.now ≡ t.catalogue.now
  pub text : t2.text.items ≡ t.text.items ++ line g.catalogue g.txns (change g old new)
  pub watches : Watches g new t2.watch

pub tells_on : (g : Input) (old new : Log) (e : Event) (t t2 : Teller) → IsMarkedBetween g old new e → Tells g old t → AddsReport g old new t t2
    → Tells g new t2
tells_on g old new e t t2 b h gets = record {
  catalogue_is = gets.catalogue ∙ h.catalogue_is;
  text_is =
      gets.text ∙ ap (λ xs. xs ++ line g.catalogue g.txns (change g old new)) h.text_is ∙ sym (text_more g old new e b);
  watches = gets.watches;
}

-- what is foreseen stays foreseen where an event more is given
pub foresees_given : (g : Input) (f : Event) (log : Log) (e : Event) (t : Teller) → IsLawful g log → Foresees g log e t → Foresees (with_event g f) log e t
foresees_given g f log e t l h = record { tells = tells_given g f log t l h.tells; finds_is = h.finds_is }

-- an event that is followed next is to be told
pub to_tell : (g : Input) (old new : Log) (w : World) (turn : Turn) (t : Teller) → Foresees g old turn.event t → IsToFollow g old new w turn
    → IsToTell g old new w t.watch turn t.finds
to_tell g old new w turn t h f = record {
  between = f.between;
  calm = f.calm;
  watches = h.tells.watches;
  turn_is = f.turn_is;
  foreseen_is = h.finds_is;
  tellable = f.tellable;
}
