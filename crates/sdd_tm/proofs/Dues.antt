-- What is due by a log, where at most one class has a step of its own: that class's step.
use Rattle.sdd_tm.proofs.All.{Act, Answer, Bases, Bool, Catalogue, ClassState, ClassView, Commit, IsCalm, LineStep, Log, None, Option, Send, Setting, Some, Start, Step, ToCommit, ToSend, View, active, arith, asks, asks_of, attempt_due, can_answer, class_of, class_step, class_view, exchange_due, false, first_at, first_some, get_map, held_due, if◌then◌else◌, is_empty, is_none, line_step, list_any, next, none_due, none_first, not, null_due, of_line, of_map, on_hold, only_first, or_else, own_step, refl, rules, runs, slice_get, some_is, start_due, start_step, state_of, subst, true, view_of, ℕ, ◌&&◌, ◌∙◌, ◌≡◌, ◌≢◌}
use Rattle.sdd_tm.proofs.OpenAsks.{none_answered}

-- a step of a class

-- a class without a step of its own: its attempt does nothing, and no ASK can be answered
pub own_none : (k : ClassState) → own_step k ≡ None → (line_step k.line.active ≡ None) × (list_any (can_answer k.line.active) k.asks ≡ false)
own_none k e = (grind (arith))

pub class_none : (on : Bool) (k : ClassState) → own_step k ≡ None → start_step on k ≡ None → class_step on k ≡ None
class_none on k e f = rw (e, f) refl

pub none_parts : (on : Bool) (k : ClassState) → class_step on k ≡ None → (own_step k ≡ None) × (start_step on k ≡ None)
none_parts on k e = (grind arith)

pub data IsStep (on : Bool) (k : ClassState) : Step → Type 0 where
  sends : line_step k.line.active ≡ Some ToSend → IsStep on k Send
  commits_now : line_step k.line.active ≡ Some ToCommit → IsStep on k Commit
  answers : line_step k.line.active ≡ None → list_any (can_answer k.line.active) k.asks ≡ true → IsStep on k Answer
  starts : line_step k.line.active ≡ None → list_any (can_answer k.line.active) k.asks ≡ false
      → (not on && (is_none k.line.active && not (is_empty k.line.queue))) ≡ true → IsStep on k Start

step_by : (on : Bool) (k : ClassState) (l : Option LineStep) (b w : Bool) (s : Step) → line_step k.line.active ≡ l
    → list_any (can_answer k.line.active) k.asks ≡ b → (not on && (is_none k.line.active && not (is_empty k.line.queue))) ≡ w
    → or_else (or_else (of_line l) (if b then Some Answer else None)) (if w then Some Start else None) ≡ Some s → IsStep on k s
step_by on k (Some ToSend) b w s e f g h = subst (IsStep on k) (some_is h) (sends e)
step_by on k (Some ToCommit) b w s e f g h = subst (IsStep on k) (some_is h) (commits_now e)
step_by on k None true w s e f g h = subst (IsStep on k) (some_is h) (answers e f)
step_by on k None false true s e f g h = subst (IsStep on k) (some_is h) (starts e f g)
step_by on k None false false s e f g h = absurd cc

pub step_is : (on : Bool) (k : ClassState) (s : Step) → class_step on k ≡ Some s → IsStep on k s
step_is on k s e = search (rules, step_by)

-- the ranks of a log

module _ (s : Setting) (bases : Bases) (log : Log) where
  abbrev cat : Catalogue
  cat = s.catalogue

  abbrev v : View
  v = view_of s log

  at_class : (P : ClassView → Type 0) → ((place c : ℕ) → slice_get (runs s) place ≡ Some c → P (class_view s log c))
      → (place : ℕ) (k : ClassView) → slice_get v.classes place ≡ Some k → P k
  at_class P h place k e = let r = of_map (class_view s log) (runs s) place k e in subst P r.2 (h place r.0 r.1)

  pub null_none : (c : ℕ) → list_any (can_answer (active s c log)) (asks_of c (asks log)) ≡ false → null_due v (class_view s log c) ≡ None
  null_none c e = none_answered v (class_view s log c) (asks log) e

  start_none_if : (b w : Bool) (o : Option Act) → (if not b && w then Some Start else None) ≡ None → (if not b && w then o else None) ≡ None
  start_none_if b w o e = grind arith

  pub start_none : (c : ℕ) → start_step (on_hold v) (class_of s log c) ≡ None → start_due cat v (class_view s log c) ≡ None
  start_none c e = (grind arith)

  module _ (place end : ℕ) (calm : IsCalm place end (state_of s log)) where
    others_own : (i c : ℕ) → slice_get (runs s) i ≡ Some c → i ≢ place
        → (line_step (active s c log) ≡ None) × (list_any (can_answer (active s c log))
        (asks_of c (asks log)) ≡ false)
    others_own i c e apart = own_none (class_of s log c) (calm.own i (class_of s log c) (get_map (class_of s log) (runs s) i c e) (λ q. absurd (apart q)))

    only_exchange : (c : ℕ) → slice_get (runs s) place ≡ Some c → first_some (exchange_due cat bases) v.classes ≡ attempt_due cat bases c (active s c log)
    only_exchange c e =
        only_first (exchange_due cat bases) v.classes place (class_view s log c) (get_map (class_view s log) (runs s) place c e)
        (grind (arith, of_map, class_view, runs, exchange_due, cat, none_due, active, others_own))

    only_null : (c : ℕ) → slice_get (runs s) place ≡ Some c → first_some (null_due v) v.classes ≡ null_due v (class_view s log c)
    only_null c e =
        only_first (null_due v) v.classes place (class_view s log c) (get_map (class_view s log) (runs s) place c e)
        (λ i k g apart. let r = of_map (class_view s log) (runs s) i k g in
        subst (λ (x : ClassView). null_due v x ≡ None) r.2 (null_none r.0 (others_own i r.0 r.1 apart).1))

    -- an act of an attempt
    pub attempt_is_due : (c : ℕ) (act : Act) → slice_get (runs s) place ≡ Some c
        → attempt_due cat bases c (active s c log) ≡ Some act → next s bases log ≡ Some act
    attempt_is_due c act e f = let first : first_some (exchange_due cat bases) v.classes ≡ Some act = only_exchange c e ∙ f in rw first refl

    -- a NULL
    pub null_is_due : (c : ℕ) (act : Act) → slice_get (runs s) place ≡ Some c → line_step (active s c log) ≡ None
        → null_due v (class_view s log c) ≡ Some act → next s bases log ≡ Some act
    null_is_due c act e f g =
        let second : first_some (null_due v) v.classes ≡ Some act = only_null c e ∙ g in
        rw ((only_exchange c e ∙ none_due cat bases c (active s c log) f), second) refl

    -- a Start
    pub start_is_due : (c : ℕ) (act : Act) → slice_get (runs s) place ≡ Some c → line_step (active s c log) ≡ None
        → list_any (can_answer (active s c log)) (asks_of c (asks log)) ≡ false
        → on_hold v ≡ false → start_due cat v (class_view s log c) ≡ Some act → next s bases log ≡ Some act
    start_is_due c act e f g off h =
        let second : first_some (null_due v) v.classes ≡ None = only_null c e ∙ null_none c g in
        let third : held_due v ≡ None = rw off refl in
        let fourth : first_some (start_due cat v) v.classes ≡ Some act =
        first_at (start_due cat v) v.classes place (class_view s log c) act (get_map (class_view s log) (runs s) place c e) h
        (λ i k q less. let r = of_map (class_view s log) (runs s) i k q in
        subst (λ (x : ClassView). start_due cat v x ≡ None) r.2
        (start_none r.0 (calm.before i (class_of s log r.0) (get_map (class_of s log) (runs s) i r.0 r.1)
        less))) in
        rw ((only_exchange c e ∙ none_due cat bases c (active s c log) f), second, third, fourth) refl

  -- no class has a step: only a HELD can be due
  pub held_is_due : ((i : ℕ) (k : ClassState) → slice_get (state_of s log).classes i ≡ Some k → class_step (on_hold v) k ≡ None) → next s bases log ≡ held_due v
  held_is_due settled =
      let parts = λ (i c : ℕ) (e : slice_get (runs s) i ≡ Some c). none_parts (on_hold v) (class_of s log c)
      (settled i (class_of s log c) (get_map (class_of s log) (runs s) i c e)) in
      let first : first_some (exchange_due cat bases) v.classes ≡ None =
      none_first (exchange_due cat bases) v.classes (at_class (λ k. exchange_due cat bases k ≡ None)
      (λ i c e. none_due cat bases c (active s c log) (own_none (class_of s log c) (parts i c e).0).0)) in
      let second : first_some (null_due v) v.classes ≡ None =
      none_first (null_due v) v.classes (at_class (λ k. null_due v k ≡ None) (λ i c e. null_none c (own_none (class_of s log c) (parts i c e).0).1)) in
      let fourth : first_some (start_due cat v) v.classes ≡ None =
      none_first (start_due cat v) v.classes (at_class (λ k. start_due cat v k ≡ None) (λ i c e. start_none c (parts i c e).1)) in
      rw (first, second, fourth) (or_nothing (held_due v))
    where
      or_nothing : (o : Option Act) → or_else o None ≡ o
      or_nothing None = refl
      or_nothing (Some a) = refl
