-- Where nothing goes on, an active attempt has a READ that is not processed, if the modules that it asks are up.
use Rattle.sdd_progress.proofs.All.{AllAskParts, AllByRecursion, AllHaveParts, Asks, AtTurn, Attempt, Bool, Catalogue, Condition, D, Exchange, FitsCondition, FitsInput, FitsQuery, FitsStatement, FitsText, HasNear, HasTurn, Input, IsAtTurn, IsClass, IsGoing, IsModule, IsNear, IsNearBy, IsPermitted, IsSoundCatalogue, IsStill, IsUnanswered, List, Log, Msg, None, Open, Query, RelNo, Site, Some, Stmt, Turn, View, [], active, active_near, active_so, all_new, and_right, answered_last, ap, apart, arith, asker, askings, asks_open, asks_rows, at_home, at_map, at_module, attempt_due, awaited, base_of, class_view, classes_of, contains, data_turns, dm_no, eqb-true, false, filter, first_send, first_some, firsts, from_site, home, home_fair, home_first, home_of, home_turns, in_filtered, inl, inr, is_asked_of, is_down, is_empty, is_over, is_question, is_read, length, map, not_both, open_due, opens, or_left, or_none, pipe, range_at, reads_asked, recursion_from_All, refl, rows_asked, same_number, setting_of, slice_get, small_home, sound_whole, spoken, submitted_fit, subst, sym, takes_part, to_module, true, turn_at, turn_with, unsent, uses_in, view_of, ℕ, ◌+◌, ◌==◌, ◌∙◌, ◌∷◌, ◌≡◌, ◌≤◌}
use Rattle.sdd_progress.proofs.Going.{is_going}
use Rattle.sdd_progress.proofs.Handed.{none_in_flight}
use Rattle.sdd_progress.proofs.Lists.{either, head_at, no_head, none_at}
use Rattle.sdd_progress.proofs.Still.{d_still, exchange_none, home_linked, up_part}
use Rattle.sdd_obligations.specs.Stages.{IsStage, agreed, answer_goes, question_goes}
use Rattle.sdd_obligations.specs.Turns.{answers, questions}
use Rattle.sdd_obligations.specs.site_module.SiteLog as site

-- what fits a catalogue counts its parts from 1

conds_parts : (cat : Catalogue) (rels : List RelNo) (conds : List Condition) → AllByRecursion (FitsCondition cat rels) conds → AllHaveParts conds
conds_parts cat rels [] h = tt
conds_parts cat rels (q ∷ conds) h = ((grind arith), conds_parts cat rels conds h.1)

askings_parts : (cat : Catalogue) (before : ℕ) (statements : List Stmt)
    → AllByRecursion (FitsStatement cat) statements → AllAskParts (askings before statements)
askings_parts cat before [] h = tt
askings_parts cat before (Query out rels conds ∷ rest) h =
    let f : FitsQuery cat out rels conds = h.0 in
    (conds_parts cat rels conds (recursion_from_All (FitsCondition cat rels) conds f.4.1), askings_parts cat (before + uses_in (Query out rels conds)) rest h.1)
askings_parts cat before (x ∷ rest) h = askings_parts cat (before + uses_in x) rest h.1

-- an attempt that has nothing to send and may not commit

pub no_sends : (ms : List (ℕ × Msg)) → first_send ms ≡ None → ms ≡ []
no_sends ms e = grind arith

pub record IsWaitingFor (a : Attempt) : Type 0 where
  pub nothing_to_send : a.exchange.to_send ≡ []
  pub not_over : is_over a.exchange.phase ≡ false

waits_for : (cat : Catalogue) (bases : site.Bases) (c : ℕ) (a : Attempt) → attempt_due cat bases c (Some a) ≡ None → IsWaitingFor a
waits_for cat bases c a e = grind (arith, or_none, no_sends)

-- a module whose answer lacks

lacking_one : (dms : List ℕ) → is_empty dms ≡ false → (d : ℕ) × (contains dms d ≡ true)
lacking_one [] e = cc
lacking_one (d ∷ dms) e = (d, or_left (d == d) (contains dms d) (same_number d))

record IsAskedAt (d : ℕ) (x : Exchange) (v : Turn) : Type 0 where
  uses : List ℕ
  question : Msg
  is : v ≡ Asks uses question
  within : contains (firsts x.modules) d ≡ true

asked_at : (d : ℕ) (x : Exchange) (v : Turn) → x.to_send ≡ [] → contains x.lacks d ≡ true → IsAtTurn d x v → IsAskedAt d x v
asked_at d x v e l h6 = grind (arith, unsent, to_module, awaited, answered_last, not_both, apart)

pub near_one : (n d : ℕ) (ms : List (ℕ × List ℕ)) (x : Exchange) → IsNearBy n (record x { modules = ms }) → contains (firsts ms) d ≡ true → IsNear n d
near_one n d [] x h e = cc
near_one n d (m ∷ ms) x h e = elim (either (m.0 == d) (contains (firsts ms) d) e) [
  | inl p ↦ subst (IsNear n) (eqb-true m.0 d p) h.modules.0
  | inr p ↦ near_one n d ms x (record { modules = h.modules.1; sends = h.sends }) p
]

-- at rest both sides have the same turn

one_turn : (v w : Turn) (qs xs : List Msg) → IsStage v w qs xs → qs ≡ [] → xs ≡ [] → v ≡ w
one_turn v w qs xs (agreed e p q) a b = e
one_turn v w qs xs (question_goes m p q e f) a b = cc
one_turn v w qs xs (answer_goes x p q e f) a b = cc

pub same_turn : (g : Input) (log : Log) (c d ts : ℕ) → IsStill g log → IsSoundCatalogue g.catalogue → IsClass g.catalogue c → IsModule g.catalogue d
    → takes_part (home g.catalogue c) log ≡ true → is_down (D (dm_no d)) log ≡ false
    → turn_at ts c d (at_home g c log) ≡ turn_with ts c (home g.catalogue c) (at_module g d log)
same_turn g log c d ts h sound l m part up =
    let at = home g.catalogue c in
    let linked = home_linked g.catalogue c d sound l m in
    let there = none_in_flight g log at (D (dm_no d)) h (up_part d log up) linked.0 in
    let back = none_in_flight g log (D (dm_no d)) at h part linked.1 in
    one_turn (turn_at ts c d (at_home g c log)) (turn_with ts c at (at_module g d log)) _ _
    ((spoken g c log h.permitted (small_home g.catalogue sound c l)).stages ts d) (ap (questions ts c) there) (ap (answers ts c) back)

-- no question of rows stands open

class_there : (s : site.Setting) (log : site.Log) (c : ℕ) → c ≤ length s.catalogue.classes → slice_get (view_of s log).classes c ≡ Some (class_view s log c)
class_there s log c l =
    let z : 0 + c ≡ c = omega arith in
    at_map (class_view s log) (classes_of s) c c (grind (arith, slice_get, classes_of, range_at))

pub none_open : (g : Input) (log : Log) (c d : ℕ) → IsStill g log → IsClass g.catalogue c
    → IsModule g.catalogue d → is_down (D (dm_no d)) log ≡ false → filter (is_asked_of c) (opens (at_module g d log)) ≡ []
none_open g log c d h l m up =
    let s = setting_of g (D (dm_no d)) in
    let v : View = view_of s (at_module g d log) in
    let p = or_none (first_some (open_due (home_of s) v) v.classes) _ (d_still g log d h m up) in
    let none : open_due (home_of s) v (class_view s (at_module g d log) c) ≡ None =
    none_at (open_due (home_of s) v) v.classes c (class_view s (at_module g d log) c) p.0 (class_there s (at_module g d log) c l) in
    (grind (arith, no_head, in_filtered, head_at))

less_left : {A : Type 0} (f g : A → Bool) (xs : List A) → ((x : A) → f x ≡ true → g x ≡ true) → filter g xs ≡ [] → filter f xs ≡ []
less_left f g [] i e = refl
less_left f g (x ∷ xs) i e = grind (arith, (less_left f g xs i (grind arith)))

-- the question that stands is a READ

not_rows : (ts c : ℕ) (at : Site) (os : List Open) (ns : List ℕ) (m : Msg) → filter (asks_open ts c) os ≡ []
    → map asker (filter (asks_open ts c) os) ≡ map (from_site at) (rows_asked ts c (Asks ns m)) → asks_rows ts c m ≡ false
not_rows ts c at os ns m e f = grind (arith, from_site, asker)

read_it_is : (ts c : ℕ) (m : Msg) → is_question ts c m ≡ true → asks_rows ts c m ≡ false → is_read ts c m ≡ true
read_it_is ts c m e f = grind (arith, not_both)

read_there : (ts c : ℕ) (ns : List ℕ) (m : Msg) (unprocessed : List Msg) → is_read ts c m ≡ true
    → filter (is_read ts c) unprocessed ≡ reads_asked ts c (Asks ns m) → slice_get (filter (is_read ts c) unprocessed) 0 ≡ Some m
read_there ts c ns m unprocessed e f = rw (f, e) refl

pub goes_on : (g : Input) (log : Log) (c : ℕ) (a : Attempt) → IsPermitted g log → FitsInput g → IsClass g.catalogue c
    → active (setting_of g (home g.catalogue c)) c (at_home g c log) ≡ Some a → IsGoing a.exchange
goes_on g log c a h good l e =
    let s = setting_of g (home g.catalogue c) in
    let at = home g.catalogue c in
    let sp = spoken g c log h (small_home g.catalogue good.sound c l) in
    let text : FitsText g.catalogue a.text = active_so (FitsText g.catalogue) s c (at_home g c log) a
    (home_fair g c log h) (all_new g at log h) (submitted_fit g good at c log h) e in
    let parts : AllAskParts (askings 0 a.text.statements) =
    askings_parts g.catalogue 0 a.text.statements (recursion_from_All (FitsStatement g.catalogue) a.text.statements text.fits.statements) in
    is_going s c (at_home g c log) a (home_fair g c log h) (home_first g c log h) sp.timely_at e parts

-- the site of the class takes part, and the modules are up that an active attempt of it asks
abbrev pub AsksUp : Input → Log → ℕ → Type 0
AsksUp g log c =
    (takes_part (home g.catalogue c) log ≡ true)
    × ((a : Attempt) → active (setting_of g (home g.catalogue c)) c (at_home g c log) ≡ Some a
    → (d : ℕ) → IsModule g.catalogue d → contains (firsts a.exchange.modules) d ≡ true → is_down (D (dm_no d)) log ≡ false)

-- the READ of the attempt is not processed at a module that it asks and that is up
pub record IsUnansweredUp (g : Input) (log : Log) (c : ℕ) (a : Attempt) : Type 0 where
  pub unanswered : IsUnanswered g log c a.ts
  pub asked : contains (firsts a.exchange.modules) unanswered.d ≡ true
  pub up : is_down (D (dm_no unanswered.d)) log ≡ false

-- a module whose answer lacks has been asked
record IsAskedOf (g : Input) (log : Log) (c d : ℕ) (a : Attempt) : Type 0 where
  module_is : IsModule g.catalogue d
  within : contains (firsts a.exchange.modules) d ≡ true
  uses : List ℕ
  question : Msg
  turn_is : turn_at a.ts c d (at_home g c log) ≡ Asks uses question

asked_of : (g : Input) (log : Log) (c d : ℕ) (a : Attempt) → IsStill g log → FitsInput g → IsClass g.catalogue c → takes_part (home g.catalogue c) log ≡ true
    → active (setting_of g (home g.catalogue c)) c (at_home g c log) ≡ Some a → contains a.exchange.lacks d ≡ true → IsAskedOf g log c d a
asked_of g log c d a h good l part e lack =
    let s = setting_of g (home g.catalogue c) in
    let sp = spoken g c log h.permitted (small_home g.catalogue good.sound c l) in
    let waits = waits_for g.catalogue (base_of g log) c a
    (subst (λ o. attempt_due g.catalogue (base_of g log) c o ≡ None) e (exchange_none g log c h good.sound l part)) in
    let is_recorded : AtTurn a.ts d (Some a) (turn_at a.ts c d (at_home g c log)) =
    subst (λ o. AtTurn a.ts d o (turn_at a.ts c d (at_home g c log))) e ((home_turns g c log h.permitted sp).turns a.ts d) in
    let q = asked_at d a.exchange (turn_at a.ts c d (at_home g c log)) waits.nothing_to_send lack (is_recorded.0 refl) in
    let near : IsNearBy g.catalogue.dms a.exchange =
    subst (HasNear g.catalogue.dms) e (active_near s c (at_home g c log) (sound_whole g.catalogue good.sound) (home_fair g c log h.permitted)) in
    record {
      module_is = near_one g.catalogue.dms d a.exchange.modules a.exchange near q.within;
      within = q.within;
      uses = q.uses;
      question = q.question;
      turn_is = q.is;
    }

-- so one whose answer lacks and that is up has its READ, not processed
pub unanswered_at : (g : Input) (log : Log) (c d : ℕ) (a : Attempt) → IsStill g log → FitsInput g → IsClass g.catalogue c
    → takes_part (home g.catalogue c) log ≡ true
    → active (setting_of g (home g.catalogue c)) c (at_home g c log) ≡ Some a → contains a.exchange.lacks d ≡ true
    → (IsModule g.catalogue d → contains (firsts a.exchange.modules) d ≡ true → is_down (D (dm_no d)) log ≡ false)
    → (u : IsUnansweredUp g log c a) × (u.unanswered.d ≡ d)
unanswered_at g log c d a h good l part e lack ups =
    let at = home g.catalogue c in
    let sp = spoken g c log h.permitted (small_home g.catalogue good.sound c l) in
    let q = asked_of g log c d a h good l part e lack in
    let up : is_down (D (dm_no d)) log ≡ false = ups q.module_is q.within in
    let there : turn_with a.ts c at (at_module g d log) ≡ Asks q.uses q.question =
    sym (same_turn g log c d a.ts h good.sound l q.module_is part up) ∙ q.turn_is in
    let has : HasTurn a.ts c at (opens (at_module g d log)) (pipe c (at_module g d log))
    (Asks q.uses q.question) = subst (HasTurn a.ts c at (opens (at_module g d log))
    (pipe c (at_module g d log))) there (data_turns g a.ts c d log h.permitted sp) in
    let none : filter (asks_open a.ts c) (opens (at_module g d log)) ≡ [] =
    less_left (asks_open a.ts c) (is_asked_of c) (opens (at_module g d log)) (λ o f. (grind (arith, and_right))) (none_open g log c d h l q.module_is up) in
    let read = read_it_is a.ts c q.question has.own.0 (not_rows a.ts c at (opens (at_module g d log)) q.uses q.question none has.rows_are) in
    let i = in_filtered (is_read a.ts c) (pipe c (at_module g d log)).unprocessed 0 q.question
    (read_there a.ts c q.uses q.question (pipe c (at_module g d log)).unprocessed read has.reads_are) in (
      record {
        unanswered = record { d = d; module_is = q.module_is; place = i.1; message = q.question; there = i.2; is_its = read };
        asked = q.within;
        up = up;
      },
      refl,
    )

-- some answer lacks of an attempt that is under way
pub lacks_one : (g : Input) (log : Log) (c : ℕ) (a : Attempt) → IsStill g log → FitsInput g → IsClass g.catalogue c → takes_part (home g.catalogue c) log ≡ true
    → active (setting_of g (home g.catalogue c)) c (at_home g c log) ≡ Some a → (d : ℕ) × (contains a.exchange.lacks d ≡ true) × IsModule g.catalogue d
lacks_one g log c a h good l part e =
    let waits = waits_for g.catalogue (base_of g log) c a
    (subst (λ o. attempt_due g.catalogue (base_of g log) c o ≡ None) e (exchange_none g log c h good.sound l part)) in
    let lack = lacking_one a.exchange.lacks ((goes_on g log c a h.permitted good l e).lacks waits.not_over) in
    (lack.0, lack.1, (asked_of g log c lack.0 a h good l part e lack.1).module_is)

pub has_unanswered : (g : Input) (log : Log) (c : ℕ) (a : Attempt) → IsStill g log → FitsInput g → IsClass g.catalogue c → AsksUp g log c
    → active (setting_of g (home g.catalogue c)) c (at_home g c log) ≡ Some a → IsUnansweredUp g log c a
has_unanswered g log c a h good l ups e =
    let lack = lacks_one g log c a h good l ups.0 e in
    (unanswered_at g log c lack.0 a h good l ups.0 e lack.1 (λ m q. ups.1 a e lack.0 m q)).0
