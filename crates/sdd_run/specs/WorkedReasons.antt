-- Worked logs: for what pending transactions wait there, and what isn't true of them.
use Rattle.std.proofs.Common.{ap, arith, sym, ◌∙◌}
use Rattle.std.proofs.lemmas.Bool.{false≢true}
use Rattle.std.specs.Prelude.{ℕ, ◌<◌, ◌==◌, ◌∷◌, ◌≡◌, ◌≤◌, List, None, Option, Some, [], negsuc, pos, refl, suc, zero}
use Rattle.sdd_progress.specs.obligations.All.{Attempt, Catalogue, Class, Cond, D, Deliver, Diagonal, Event, Fragment, Horizontal, Input, Int, Log, Msg, P2, Put, Query, Queued, Read, Submit, T, Tick, Txn, U, Update, Vertical, begins, class_no, dm_no, extended, frag_no, passed, pipe, rel_no, time_at, tm_no, txn_no}
use Rattle.sdd_progress.specs.obligations.catalog.declared.parts.Kind.TheVariants as kinds
use Rattle.sdd_progress.specs.obligations.protocol.declared.protocol.Protocol.TheVariants.{P1}
use Rattle.sdd_progress.specs.obligations.lang.declared.assign.Assign.TheVariants.{Add}
use Rattle.sdd_progress.specs.Quiet.{at_module}
use Rattle.sdd_report.specs.declared.pending.Waiting.{Waiting}
use Rattle.sdd_report.specs.declared.pending.Why.TheVariants.{Queued as InQueue, Underway, Waits}
use Rattle.sdd_run.specs.Reasons.{IsTrueReason, WaitsForAnswer, WaitsForClass, WaitsForHeld, attempt_at, commits_at_u, counts_at_u}

-- one relation, of two columns of numbers

abbrev of_items : ℕ → ℕ → List Fragment → List Class → Catalogue
of_items tms dms fragments classes = record {
  tms = tms;
  dms = dms;
  relations =
      (record { name = []; columns = (record { name = []; kind = kinds.Int }) ∷ (record { name = []; kind = kinds.Int }) ∷ []; key = 1 }) ∷ [];
  fragments = fragments;
  classes = classes;
}

abbrev query : ℕ → Txn
query tm = record { name = []; tm = tm_no tm; statements = Query ((record { part = 1; column = 2 }) ∷ []) (rel_no 1 ∷ []) [] ∷ [] }

abbrev found : Option Attempt → Attempt
found (Some a) = a
found None = record { txn = 0; attempt = 0; ts = 0; text = query 1; exchange = begins (query 1) [] }

-- a class reads at D1 what the classes of T2 and T3 write

abbrev two_writers : Catalogue
two_writers =
    of_items 3 1
    ((record { name = []; rel = rel_no 1; least = negsuc 9223372036854775807; greatest = pos 9223372036854775807; copies = dm_no 1 ∷ [] }) ∷ [])
    ((record { name = []; tm = tm_no 1; reads = (record { fragment = frag_no 1; at = dm_no 1 }) ∷ []; writes = [] })
    ∷ (record { name = []; tm = tm_no 2; reads = []; writes = frag_no 1 ∷ [] })
    ∷ (record { name = []; tm = tm_no 3; reads = []; writes = frag_no 1 ∷ [] }) ∷ [])

abbrev of_writers : List Event → Input
of_writers events = record {
  catalogue = two_writers;
  eras =
      (record {
        catalogue = two_writers;
        table =
            (record { edge = Vertical (class_no 1); block = 0; protocol = P1 })
            ∷ (record { edge = Vertical (class_no 2); block = 0; protocol = P1 })
            ∷ (record { edge = Vertical (class_no 3); block = 0; protocol = P1 })
            ∷ (record { edge = Horizontal (class_no 2) (class_no 3); block = 1; protocol = P1 })
            ∷ (record { edge = Diagonal (class_no 1) (class_no 2) (frag_no 1); block = 1; protocol = P2 })
            ∷ (record { edge = Diagonal (class_no 1) (class_no 3) (frag_no 1); block = 1; protocol = P2 }) ∷ [];
      })
      ∷ [];
  rows = [] ∷ [];
  txns = query 1 ∷ query 1 ∷ query 1 ∷ [];
  events = events;
}

-- three queries are submitted: the first has begun, and the second has the first place in the line

abbrev of_three : Input
of_three = of_writers (Submit (txn_no 1) ∷ Submit (txn_no 2) ∷ Submit (txn_no 3) ∷ [])

abbrev three : Log
three = extended 7 of_three []

pub first_place : IsTrueReason of_three three 2 (InQueue (class_no 1) 1)
first_place = record {
  class_is = omega arith;
  from = omega arith;
  waiting = record { number = 2; text = query 1; tries = 0 };
  there = refl;
  number_is = refl;
}

abbrev number_of : Option Queued → ℕ
number_of None = 0
number_of (Some q) = q.number

pub not_second : IsTrueReason of_three three 2 (InQueue (class_no 1) 2) → ⊥
not_second h = false≢true (ap (λ n. n == 2) (ap number_of h.there ∙ h.number_is))

-- a query waits: the class of T2 has passed its time, by a NULL, and that of T3 hasn't

abbrev of_null : Input
of_null =
    of_writers (Submit (txn_no 1) ∷ Deliver (T (tm_no 1)) (D (dm_no 1)) 1 ∷ Deliver (D (dm_no 1)) (T (tm_no 2)) 1 ∷ Deliver (T (tm_no 2)) (D (dm_no 1)) 2 ∷ [])

abbrev null_passed : Log
null_passed = extended 13 of_null []

abbrev on_class : ℕ → Cond
on_class c = record { class = class_no c; time = time_at 63; frags = frag_no 1 ∷ [] }

abbrev wait_for_class : ℕ → Waiting
wait_for_class c = record { dm = dm_no 1; class = class_no c; time = time_at 63 }

abbrev asking : Attempt
asking = found (attempt_at of_null null_passed 1)

pub waits_for_last : IsTrueReason of_null null_passed 1 (Waits (wait_for_class 3))
waits_for_last = (
  1,
  asking,
  record { class_is = omega arith; active_is = refl; number_is = refl },
  record {
    module_is = (omega arith, omega arith);
    conds = on_class 2 ∷ on_class 3 ∷ [];
    read = record { uses = record { number = 1; rel = rel_no 1; frags = frag_no 1 ∷ []; restrictions = [] } ∷ []; head_is = refl; has_wait = refl };
    cond = on_class 3;
    first = record { before = on_class 2 ∷ []; after = []; conds_are = refl; met = (refl, tt); unmet = refl };
    class_is = refl;
    time_is = refl;
    lowest = λ d conds l m r. absurd (omega (arith, l, m));
  },
)

pub not_first : WaitsForClass of_null null_passed 1 asking (wait_for_class 2) → ⊥
not_first h =
    let class_is = h.class_is in
    let time_is = h.time_is in
    false≢true (sym h.first.unmet ∙ (λ i. passed (pipe (sym class_is i).0 (at_module of_null 1 null_passed)) (sym time_is i).0))

-- a class reads at D1 and at D2 what another writes

abbrev two_modules : Catalogue
two_modules =
    of_items 2 2
    ((record { name = []; rel = rel_no 1; least = negsuc 9223372036854775807; greatest = pos 9; copies = dm_no 1 ∷ [] })
    ∷ (record { name = []; rel = rel_no 1; least = pos 10; greatest = pos 9223372036854775807; copies = dm_no 2 ∷ [] }) ∷ [])
    ((record { name = []; tm = tm_no 1; reads = []; writes = frag_no 1 ∷ frag_no 2 ∷ [] })
    ∷ (record {
      name = [];
      tm = tm_no 2;
      reads = (record { fragment = frag_no 1; at = dm_no 1 }) ∷ (record { fragment = frag_no 2; at = dm_no 2 }) ∷ [];
      writes = [];
    }) ∷ [])

abbrev of_modules : List Event → Input
of_modules events = record {
  catalogue = two_modules;
  eras =
      (record {
        catalogue = two_modules;
        table =
            (record { edge = Vertical (class_no 1); block = 0; protocol = P1 })
            ∷ (record { edge = Vertical (class_no 2); block = 0; protocol = P1 })
            ∷ (record { edge = Diagonal (class_no 2) (class_no 1) (frag_no 1); block = 1; protocol = P2 })
            ∷ (record { edge = Diagonal (class_no 2) (class_no 1) (frag_no 2); block = 1; protocol = P2 }) ∷ [];
      })
      ∷ [];
  rows = [] ∷ [] ∷ [];
  txns =
      query 2 ∷ record { name = []; tm = tm_no 1; statements = Put (rel_no 1) (Int (pos 1) ∷ Int (pos 5) ∷ []) ∷ [] }
      ∷ record { name = []; tm = tm_no 1; statements = Update (rel_no 1) (Add 2 (pos 1) ∷ []) [] ∷ [] } ∷ [];
  events = events;
}

-- of two modules that owe an answer the lower one is named

abbrev of_begun : Input
of_begun = of_modules (Submit (txn_no 1) ∷ [])

abbrev begun : Log
begun = extended 3 of_begun []

abbrev reading : Attempt
reading = found (attempt_at of_begun begun 2)

pub not_higher : WaitsForAnswer of_begun begun 2 reading 2 → ⊥
not_higher h = false≢true (sym (h.lowest 1 (omega arith)))

-- a READ of an earlier attempt waits at D2, and the second attempt has none there yet

abbrev of_again : Input
of_again =
    of_modules
    (Tick (tm_no 1) 5 ∷ Submit (txn_no 1) ∷ Submit (txn_no 2) ∷ Deliver (T (tm_no 2)) (D (dm_no 2)) 1 ∷ Deliver (T (tm_no 1)) (D (dm_no 1)) 1
    ∷ Deliver (T (tm_no 2)) (D (dm_no 1)) 1 ∷ Deliver (D (dm_no 1)) (T (tm_no 2)) 2 ∷ [])

abbrev again : Log
again = extended 22 of_again []

abbrev attempt_read : Option Msg → ℕ
attempt_read (Some (Read ts class txn attempt conds uses)) = attempt
attempt_read _ = 0

pub not_earlier : WaitsForClass of_again again 2 (found (attempt_at of_again again 2)) (record { dm = dm_no 2; class = class_no 1; time = time_at 63 }) → ⊥
not_earlier h = false≢true (ap (λ n. n == 2) (ap attempt_read h.read.head_is))

-- T1 has said HELD to U, and T2 hasn't

abbrev of_held : Input
of_held = of_modules (Submit (txn_no 3) ∷ Deliver U (T (tm_no 1)) 1 ∷ Deliver (T (tm_no 1)) U 2 ∷ [])

abbrev held : Log
held = extended 9 of_held []

pub waits_for_second : IsTrueReason of_held held 3 (Underway (T (tm_no 2)))
waits_for_second = record {
  tm_is = (omega arith, omega arith);
  not_started = refl;
  is_asked = refl;
  first = record {
    number = 3;
    text = record { name = []; tm = tm_no 1; statements = Update (rel_no 1) (Add 2 (pos 1) ∷ []) [] ∷ [] };
    tries = 0;
  };
  first_is = refl;
  number_is = refl;
  missing = omega arith;
  lowest = only_first;
} where
  only_first : (s : ℕ) → 1 ≤ s → s < 2 → (counts_at_u of_held held s).helds ≡ suc (commits_at_u of_held held)
  only_first zero l m = absurd (omega (arith, l))
  only_first (suc zero) l m = refl
  only_first (suc (suc s)) l m = absurd (omega (arith, m))

pub not_answered : WaitsForHeld of_held held 3 1 → ⊥
not_answered h = let l = h.missing in omega (arith, l)
