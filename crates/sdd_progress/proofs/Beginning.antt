-- A round begins only where the links aren't quiet, and then it has an event.
use Rattle.sdd_progress.proofs.AllEnds.{AtEach, Bool, Call, Event, Input, IsOfRound, List, Log, Redeclare, Round, Settle, Some, [], all_links, arith, calls_of, each_of_round, false, false≢true, left, length, links, mark_from, mark_of, next, no_events_quiet, quiet, refl, round, sym, true, ℕ, ◌<◌, ◌∙◌, ◌∷◌, ◌≡◌}
use Rattle.sdd_progress.proofs.Marked.{next_is_of_events}

none_or_some : (events : List Event) → (events ≡ [] → ⊥) → 0 < length events
none_or_some [] f = absurd (f refl)
none_or_some (e ∷ events) f = omega arith

pub has_event : {M : Type 0} (tms dms : ℕ) (calls : List (Call M)) → quiet (links tms dms) calls ≡ false → 0 < length (round (links tms dms) calls)
has_event tms dms calls e = none_or_some (round (links tms dms) calls) (λ none. false≢true (sym e ∙ no_events_quiet tms dms calls none))

pub events_of_round : {M : Type 0} (tms dms : ℕ) (calls : List (Call M)) → AtEach (IsOfRound tms dms) (round (links tms dms) calls)
events_of_round tms dms calls = each_of_round (IsOfRound tms dms) tms dms calls (λ a b l. (l, (l, refl)))

-- of the next mark between rounds

round_from : (g : Input) (log : Log) (q : Bool) (events ws es : List Event) → mark_from g log q events ws ≡ Some (Round es) → (q ≡ false) × (events ≡ es)
round_from g log true events (Settle ∷ ws) es h = round_from g log true events ws es h
round_from g log false events (Settle ∷ ws) es h = (refl, cc)
round_from g log false events (Redeclare ∷ ws) es h = (refl, cc)
round_from g log _ events _ es h = absurd (cc)

abbrev pub Begins : Input → Log → List Event → List Event × List Event → Type 0
Begins g log es rest = (rest.1 ≡ []) × (quiet (all_links g) (calls_of log) ≡ false) × (0 < length es)

round_of : (g : Input) (log : Log) (es : List Event) (rest : List Event × List Event) → mark_of g log rest ≡ Some (Round es) → Begins g log es rest
round_of g log es rest h = grind (arith, round_from, has_event)

pub round_begins : (g : Input) (log : Log) (es : List Event) → next g log ≡ Some (Round es) → Begins g log es (left g.events log)
round_begins g log es h = round_of g log es (left g.events log) (next_is_of_events g log (Round es) refl h)
