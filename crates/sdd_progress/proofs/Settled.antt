-- A complete log at whose end the links are quiet is one at which nothing goes on; and it is, where a settle is the last.
use Rattle.sdd_progress.proofs.All.{AllCommitted, AreSubmittedOnce, Event, HasSoundLists, Input, IsAtEnd, IsFinished, IsModuleOf, IsQuiet, IsSettled, List, Log, Rests, Settle, Site, SubmitGiven, [], all_links, ap, arith, calls_of, complete_parts, false, history, is_down, lawful_numbered, lawful_permitted, none_to_hand, quiet, quiet_at_last, redeclares, subst, true, with_event, ◌++◌, ◌∷◌, ◌≡◌}
use Rattle.sdd_progress.proofs.Committed.{all_committed}
use Rattle.sdd_progress.proofs.Finished.{finished}
use Rattle.sdd_progress.proofs.IdleAtRedeclares.{idle_at_redeclares}
use Rattle.sdd_progress.proofs.NoneWaits.{is_idle}

-- between events
pub resting_is_quiet : (g : Input) (log : Log) → AreSubmittedOnce g.events → Rests g log → quiet (all_links g) (calls_of log) ≡ true
    → ((at : Site) → IsModuleOf g at → is_down at log ≡ false) → IsQuiet g log
resting_is_quiet g log once r links up = grind (arith, lawful_permitted, none_to_hand)

-- and at the end
pub settled_is_quiet : (g : Input) (log : Log) → AreSubmittedOnce g.events → IsSettled g log → IsQuiet g log
settled_is_quiet g log once s = grind (arith, complete_parts, lawful_permitted)

pub settled_is_finished : (g : Input) (log : Log) → HasSoundLists g log → AreSubmittedOnce g.events → IsSettled g log → IsFinished g log
settled_is_finished g log lists once s =
    let h = settled_is_quiet g log once s in
    let last = lists (redeclares log) (omega arith) in
    finished g log h last.fits.sound (is_idle g log h last (idle_at_redeclares g log once s.at_end.lawful lists s.at_end.up_before))

pub settled_is_committed : (g : Input) (log : Log) → HasSoundLists g log → SubmitGiven g → IsSettled g log → AllCommitted (history log)
settled_is_committed g log lists given s =
    all_committed g log (settled_is_quiet g log given.once s).permitted lists
    (lawful_numbered g log given s.at_end.lawful) (settled_is_finished g log lists given.once s)

-- where a settle is the last of the events
pub settle_ends : (g : Input) (log : Log) (events : List Event) → g.events ≡ events ++ Settle ∷ [] → IsAtEnd g log → IsSettled g log
settle_ends g log events e s =
    let before : Input = record g { events = events } in
    let there : IsAtEnd (with_event before Settle) log = subst (λ x. IsAtEnd x log) (ap (λ es. record g { events = es }) e) s in
    record { at_end = s; links = quiet_at_last before log there.lawful there.complete }
