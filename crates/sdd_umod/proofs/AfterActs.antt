-- What the module keeps of the log after each act is what its step leaves.
use Rattle.sdd_umod.proofs.All.{Act, Attempt, Bases, Commit, Did, Hold, IsApart, IsRequest, Log, None, Queued, Release, Send, Sends, Setting, Some, Start, T, TmNo, [], active, ap, arith, clock, clock_done, commit_act, commit_next, line_done, line_of, map_twice, refl, send_next, sent_apart, start_act, start_next, state_done, state_of, sym, time_at, ℕ, ◌∷◌, ◌≡◌}
use Rattle.sdd_attempt.specs.wire.declared.msg.Msg.TheVariants as messages
use Rattle.sdd_counts.specs.declared.tm_count.Sign.TheVariants as signs

-- the next message of the exchange
pub after_request : (s : Setting) (bases : Bases) (log : Log) (a : Attempt) (act : Act) → IsRequest 0 a act
    → send_next (active s 0 log) ≡ Some act → state_of s (Did act ∷ log) ≡ state_done bases Send (state_of s log)
after_request s bases log a act is e = grind (arith, is.act_is)

-- a Commit
pub after_commit : (s : Setting) (bases : Bases) (log : Log) (a : Attempt) → commit_next bases (line_of s log) ≡ Some (commit_act s.catalogue bases 0 a)
    → state_of s (Did (commit_act s.catalogue bases 0 a) ∷ log) ≡ state_done bases Commit (state_of s log)
after_commit s bases log a e = grind arith

-- a Start
pub after_start : (s : Setting) (bases : Bases) (log : Log) (q : Queued)
    → start_next [] (clock s.site log) (line_of s log) ≡ Some (start_act s.catalogue [] 0 (clock s.site log) q)
    → state_of s (Did (start_act s.catalogue [] 0 (clock s.site log) q) ∷ log) ≡ state_done bases Start (state_of s log)
after_start s bases log q e = sym (ap (λ o. record (state_of s log) { line = line_done o (line_of s log); clock = clock_done o (clock s.site log) }) e)

-- a message to a T

pub release_apart : (ts : ℕ) → IsApart 0 (messages.Release (time_at ts))
release_apart ts = record { reads = λ t. refl; asks = λ t. refl }

pub hold_apart : IsApart 0 messages.Hold
hold_apart = record { reads = λ t. refl; asks = λ t. refl }

pub after_release : (s : Setting) (bases : Bases) (log : Log) (tm : TmNo) (ts : ℕ)
    → state_of s (Did (Sends (T tm) (messages.Release (time_at ts)) None) ∷ log) ≡ state_done bases (Release tm) (state_of s log)
after_release s bases log tm ts = grind (arith, sent_apart, release_apart, map_twice)

pub after_hold : (s : Setting) (bases : Bases) (log : Log) (tm : TmNo)
    → state_of s (Did (Sends (T tm) messages.Hold None) ∷ log) ≡ state_done bases (Hold tm) (state_of s log)
after_hold s bases log tm = grind (arith, sent_apart, hold_apart, map_twice)
