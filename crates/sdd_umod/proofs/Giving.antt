-- A transaction that is given to the module goes to the end of its queue.
use Rattle.sdd_umod.proofs.All.{Bases, FitsSubmit, FitsTxn, IsAmid, IsKept, IsSetting, IsSoundLog, Log, None, Queued, Setting, State, Submits, Txn, active, arith, contains, false, line_submitted, map, new_in_queue, refl, resting, stamped_still, state_given, state_of, step_of, ℕ, ◌<◌, ◌^◌, ◌∷◌, ◌≡◌}
use Rattle.sdd_umod.proofs.Everywhere.{reads_all}
use Rattle.sdd_umod.proofs.Handing.{has_room, settled_line}

sound_given : (s : Setting) (bases : Bases) (log : Log) (n : ℕ) (txn : Txn) → n < 2 ^ 32 → IsSetting s
    → FitsSubmit s bases log n txn → IsSoundLog s log → IsSoundLog s (Submits n txn ∷ log)
sound_given s bases log n txn small setting f sound = record {
  line = line_submitted s 0 log n txn f.fresh small f.fitting (λ e. reads_all s.catalogue txn setting.valid) sound.line;
  stamped = stamped_still s log (Submits n txn) refl sound.stamped;
  turns = λ t. sound.turns t;
  started = record { few = sound.started.few };
}

pub amid_given : (s : Setting) (bases : Bases) (log : Log) (n : ℕ) (txn : Txn) → n < 2 ^ 32 → IsSetting s
    → IsSoundLog s log → step_of (state_of s log) ≡ None → FitsSubmit s bases log n txn → IsAmid s bases (state_given n txn (state_of s log)) (Submits n txn ∷ log)
amid_given s bases log n txn small setting sound settled f =
    let now : IsSoundLog s (Submits n txn ∷ log) = sound_given s bases log n txn small setting f sound in
    record {
      setting = setting;
      sound = now;
      state_is = (refl);
      databases = f.site.databases;
      served = resting s.catalogue bases (active s 0 log) (settled_line (state_of s log) settled);
      room = has_room s (Submits n txn ∷ log) now f.site.time;
    }

-- it fits the line, and is new there
pub fits_kept : (s : Setting) (bases : Bases) (log : Log) (state : State) (n : ℕ) (txn : Txn) → IsKept s log state → FitsSubmit s bases log n txn
    → FitsTxn state.line.catalogue txn × (contains (map (λ (q : Queued). q.number) state.line.queue) n ≡ false)
fits_kept s bases log state n txn kept f = grind (arith, new_in_queue)
