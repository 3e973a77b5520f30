use Rattle.sdd_script.proofs.All.{Event, drop, ended, event_words, flat_map, ◌++◌, ◌≡◌}
use Rattle.sdd_script.proofs.write_lines.put_events.Given as goal

-- what was written and what is left to write is all of it
abbrev pub invariant-events : goal.invariant-events
invariant-events l = l.out.items ++ flat_map (λ (e : Event). ended (event_words l.txns e))
    (drop l.event-index l.events) ≡ l.fn.out.items ++ flat_map (λ (e : Event). ended (event_words l.txns e))
    l.events
