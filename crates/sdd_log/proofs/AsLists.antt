-- What is ahead and the next mark are the same as by two lists.
use Rattle.sdd_log.proofs.All.{Ahead, BetweenRounds, Bool, Event, InRound, Input, List, Log, Mark, Redeclare, Redeclares, Round, Settle, [], after_mark, ahead, all_links, ap, as_lists, calls_of, events_ahead, false, left, mark_ahead, mark_between, mark_from, mark_of, next_mark, once_marked, quiet, refl, round, sym, true, with_round, ◌∙◌, ◌∷◌, ◌≡◌}

pub events_listed : (s : Ahead) → (as_lists s).0 ≡ events_ahead s
events_listed (InRound e rest events) = refl
events_listed (BetweenRounds events) = refl

pub round_listed : (es events : List Event) → as_lists (with_round es events) ≡ (events, es)
round_listed [] events = refl
round_listed (e ∷ rest) events = refl

marked_listed : (s : Ahead) → after_mark (as_lists s) ≡ as_lists (once_marked s)
marked_listed (InRound e rest events) = sym (round_listed rest events)
marked_listed (BetweenRounds events) = refl

pub left_is_ahead : (events : List Event) (log : Log) → left events log ≡ as_lists (ahead events log)
left_is_ahead events [] = refl
left_is_ahead events (Mark e ∷ log) = ap after_mark (left_is_ahead events log) ∙ marked_listed (ahead events log)
left_is_ahead events (Redeclares t ∷ log) = ap after_mark (left_is_ahead events log) ∙ marked_listed (ahead events log)
left_is_ahead events (Round es ∷ log) =
    ap (λ s. (s.0, es)) (left_is_ahead events log)
    ∙ ap (λ ws. (ws, es)) (events_listed (ahead events log))
    ∙ sym (round_listed es (events_ahead (ahead events log)))
left_is_ahead events (_ ∷ log) = left_is_ahead events log

mark_from_is : (g : Input) (log : Log) (q : Bool) (ws : List Event) → quiet (all_links g) (calls_of log) ≡ q
    → mark_from g log q (round (all_links g) (calls_of log)) ws ≡ mark_between g log ws
mark_from_is g log q [] e = refl
mark_from_is g log true (Settle ∷ ws) e = rw e (mark_from_is g log true ws e)
mark_from_is g log true (Redeclare ∷ ws) e = rw e refl
mark_from_is g log false (Settle ∷ ws) e = rw e refl
mark_from_is g log false (Redeclare ∷ ws) e = rw e refl
mark_from_is g log q (_ ∷ ws) e = refl

mark_listed : (g : Input) (log : Log) (s : Ahead) → mark_of g log (as_lists s) ≡ mark_ahead g log s
mark_listed g log (InRound e rest events) = refl
mark_listed g log (BetweenRounds events) = mark_from_is g log (quiet (all_links g) (calls_of log)) events refl

pub next_mark_is : (g : Input) (log : Log) → next_mark g log ≡ mark_of g log (left g.events log)
next_mark_is g log = sym (ap (mark_of g log) (left_is_ahead g.events log) ∙ mark_listed g log (ahead g.events log))

-- from one to the other

pub events_left : (events : List Event) (log : Log) → (left events log).0 ≡ events_ahead (ahead events log)
events_left events log = ap (λ s. s.0) (left_is_ahead events log) ∙ events_listed (ahead events log)

pub left_between : (events ws : List Event) (log : Log) → ahead events log ≡ BetweenRounds ws → left events log ≡ (ws, [])
left_between events ws log e = left_is_ahead events log ∙ ap as_lists e

no_round : (s : Ahead) → (as_lists s).1 ≡ [] → s ≡ BetweenRounds (events_ahead s)
no_round (InRound e rest events) h = cc
no_round (BetweenRounds events) h = refl

pub between_rounds : (events : List Event) (log : Log) → (left events log).1 ≡ [] → ahead events log ≡ BetweenRounds (events_ahead (ahead events log))
between_rounds events log h = no_round (ahead events log) (sym (ap (λ s. s.1) (left_is_ahead events log)) ∙ h)
