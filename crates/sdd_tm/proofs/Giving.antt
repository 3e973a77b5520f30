-- A transaction that is given to the module goes to the queue of its class.
use Rattle.sdd_tm.proofs.All.{AreSettled, Bases, Bool, Catalogue, FitsSubmit, IsAmid, IsSettingOf, IsSoundLog, List, Log, Setting, State, Submits, Txn, [], active, all_starts, and_parts, ap, arith, class_at, class_for, class_given, class_of, cond, covers, current_era, eqb-true, false, filter, head_of, is_for, is_some, length, line_submitted, list_all, map, map_map, map_same, ne_eqb, numbers_to, read_in_era, read_set, reads_at, refl, resting, runs, stamped_still, state_given, state_of, subst, sym, true, unwrap_or, uses_in_era, write_set, writes, ℕ, ◌&&◌, ◌+◌, ◌<◌, ◌==◌, ◌^◌, ◌||◌, ◌∙◌, ◌∷◌, ◌≡◌, ◌≤◌}
use Rattle.sdd_tm.proofs.ClassNumbers.{runs_class}
use Rattle.sdd_tm.proofs.Handing.{has_room, settled_of}
use Rattle.sdd_eras.proofs.EraSets as eras

-- the class of a transaction covers it

first_covers : (cat : Catalogue) (txn : Txn) (ns : List ℕ) (c : ℕ) → 1 ≤ c → unwrap_or (head_of (filter (covers cat txn) ns)) 0 ≡ c → covers cat txn c ≡ true
first_covers cat txn [] c low e = absurd (omega arith)
first_covers cat txn (n ∷ ns) c low e =
    elim (covers cat txn n) as (λ b. covers cat txn n ≡ b
    → unwrap_or (head_of (cond b (n ∷ filter (covers cat txn) ns) (filter (covers cat txn) ns))) 0 ≡ c
    → covers cat txn c ≡ true) [
      | true ↦ λ h g. subst (λ k. covers cat txn k ≡ true) g h
      | false ↦ λ h g. first_covers cat txn ns c low g
    ] refl e

covered : (cat : Catalogue) (txn : Txn) (c : ℕ) → 1 ≤ c → class_for cat txn ≡ c → list_all (λ f. is_some (reads_at cat c f)) (read_set cat txn) ≡ true
covered cat txn c low e =
    let all = first_covers cat txn (numbers_to (length cat.classes)) c low e in
    let both = and_parts ((class_at cat c).tm.0 == txn.tm.0)
    (list_all (λ f. is_some (reads_at cat c f)) (read_set cat txn) && list_all (writes cat c) (write_set cat txn)) all in
    (and_parts (list_all (λ f. is_some (reads_at cat c f)) (read_set cat txn)) (list_all (writes cat c) (write_set cat txn)) both.1).0

all_more : (p q : ℕ → Bool) (xs : List ℕ) → ((x : ℕ) → p x ≡ true → q x ≡ true) → list_all p xs ≡ true → list_all q xs ≡ true
all_more p q [] h e = refl
all_more p q (x ∷ xs) h e = let both = and_parts (p x) (list_all p xs) e in rw (h x both.0, all_more p q xs h both.1) refl

pub class_covers : (s : Setting) (log : Log) (txn : Txn) (c : ℕ) → IsSettingOf s log → 1 ≤ c
    → is_for c (current_era s log).catalogue txn ≡ true → list_all (λ f. is_some (reads_at s.catalogue c f))
    (read_set s.catalogue txn) ≡ true
class_covers s log txn c setting low e =
    let era : Catalogue = (current_era s log).catalogue in
    let is : class_for era txn ≡ c = (eqb-true (class_for era txn) c (subst (λ b. (b || (class_for era txn) == c) ≡ true) (ne_eqb c 0 (λ q. absurd (omega arith))) e)) in
    let same : read_set era txn ≡ read_set s.catalogue txn = grind (arith, uses_in_era) in
    subst (λ fs. list_all (λ f. is_some (reads_at s.catalogue c f)) fs ≡ true) same
    (all_more (λ f. is_some (reads_at era c f)) (λ f. is_some (reads_at s.catalogue c f)) (read_set era txn)
    (λ f r. ap is_some (sym (read_in_era s.catalogue era setting.era c f (eras.covered era txn c (sym is) low).class r)) ∙ r) (covered era txn c low is))

-- what is kept of the log

class_kept : (s : Setting) (log : Log) (n : ℕ) (txn : Txn) (c : ℕ) → 1 ≤ c
    → class_of s (Submits n txn ∷ log) c ≡ class_given (class_for (current_era s log).catalogue txn) n txn
    (class_of s log c)
class_kept s log n txn c low = grind arith

pub state_given_kept : (s : Setting) (log : Log) (n : ℕ) (txn : Txn)
    → state_of s (Submits n txn ∷ log) ≡ state_given (class_for (current_era s log).catalogue txn) n txn
    (state_of s log)
state_given_kept s log n txn =
    let k : ℕ = class_for (current_era s log).catalogue txn in
    let classes : map (class_of s (Submits n txn ∷ log)) (runs s) ≡ map (class_given k n txn) (map (class_of s log) (runs s)) =
    map_same (class_of s (Submits n txn ∷ log)) (λ c. class_given k n txn (class_of s log c)) (runs s)
    (λ i c e. class_kept s log n txn c (runs_class s i c e).0) ∙ sym (map_map (class_given k n txn) (class_of s log) (runs s)) in
    rw classes refl

-- what holds of the log

pub sound_given : (s : Setting) (bases : Bases) (log : Log) (n : ℕ) (txn : Txn) → n < 2 ^ 32 → IsSettingOf s log
    → FitsSubmit s bases log n txn → IsSoundLog s log → IsSoundLog s (Submits n txn ∷ log)
sound_given s bases log n txn small setting f sound = record {
  lines = λ i c e. line_submitted s c log n txn f.fresh small f.fitting (class_covers s log txn c setting (runs_class s i c e).0) (sound.lines i c e);
  stamped = stamped_still s log (Submits n txn) refl sound.stamped;
  unanswered = record { rise = sound.unanswered.rise; last = sound.unanswered.last; apart = sound.unanswered.apart };
  turns = sound.turns;
}

pub amid_given : (s : Setting) (bases : Bases) (log : Log) (n : ℕ) (txn : Txn) → n < 2 ^ 32 → IsSettingOf s log
    → IsSoundLog s log → AreSettled (state_of s log) → FitsSubmit s bases log n txn
    → IsAmid s bases (state_given (class_for (current_era s log).catalogue txn) n txn (state_of s log)) (Submits n txn ∷ log)
amid_given s bases log n txn small setting sound settled f =
    let now : IsSoundLog s (Submits n txn ∷ log) = sound_given s bases log n txn small setting f sound in
    let is = state_given_kept s log n txn in
    let same : IsSettingOf s (Submits n txn ∷ log) = grind arith in
    record {
      setting = same;
      sound = now;
      state_is = is;
      databases = f.site.databases;
      served = λ i c e. resting s.catalogue bases (active s c log) (settled_of s log settled i c e);
      room = subst (λ (st : State). st.clock.ticks + all_starts st.classes + 1 < 2 ^ 57) is (has_room s (Submits n txn ∷ log) same now f.site.time);
    }
