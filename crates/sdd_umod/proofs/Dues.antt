-- What is due by a log is what the module does next by what it keeps of it.
use Rattle.sdd_umod.proofs.All.{Act, Bases, Bool, Catalogue, Commit, Hold, IsWhole, LineStep, List, Log, None, Option, Queued, Release, Send, Sends, Setting, Some, Start, State, Step, T, TmCounts, ToCommit, ToSend, View, [], act_of, active, ap, arith, attempt_due, false, find, first_found, first_found_if, first_some, head_is_untried, head_of, hold_due, hold_step, if◌then◌else◌, is_applied, is_empty, is_free, is_kept_on_hold, line_step, list_all, may_start, nat_tests, next, none_due, of_line, option_map, or_nothing, queue, refl, release_due, release_step, start_act, start_due, start_step, state_of, step_of, subst, sym, time_at, tm_no, tm_of, true, view_of, ◌&&◌, ◌==◌, ◌∙◌, ◌∷◌, ◌≡◌, ◌≤◌}
use Rattle.sdd_attempt.specs.wire.declared.msg.Msg.TheVariants as messages
use Rattle.sdd_counts.specs.rules.umod.Due as table

-- a step of the module

-- a step of its own attempt
pub data IsStep (state : State) : Step → Type 0 where
  sends : line_step state.line.active ≡ Some ToSend → IsStep state Send
  commits_now : line_step state.line.active ≡ Some ToCommit → IsStep state Commit
  releases : (k : TmCounts) → line_step state.line.active ≡ None → find (is_kept_on_hold state.served.commits) state.counts ≡ Some k
      → release_step state ≡ Some (Release (tm_of k)) → IsStep state (Release (tm_of k))
  starts : line_step state.line.active ≡ None → release_step state ≡ None → may_start state ≡ true → IsStep state Start
  holds : (k : TmCounts) → line_step state.line.active ≡ None → release_step state ≡ None → start_step state ≡ None
      → find is_free state.counts ≡ Some k → is_empty state.line.queue ≡ false → hold_step state ≡ Some (Hold (tm_of k)) → IsStep state (Hold (tm_of k))

pub line_none : (l : Option LineStep) → of_line l ≡ None → l ≡ None
line_none l e = grind arith

hold_is : (state : State) (step : Step) (b : Bool) (o : Option TmCounts) → line_step state.line.active ≡ None → release_step state ≡ None
    → start_step state ≡ None → is_empty state.line.queue ≡ b → find is_free state.counts ≡ o → hold_step state ≡ Some step
    → (if b then None else option_map Hold (option_map tm_of o)) ≡ Some step → IsStep state step
hold_is state step b o none r s e f g h = grind (arith, holds)

pub step_is : (state : State) (step : Step) → step_of state ≡ Some step → IsStep state step
step_is state step e = grind (arith, sends, commits_now, releases, line_none, starts, hold_is)

-- the ranks of a log

module _ (s : Setting) (bases : Bases) (log : Log) where
  abbrev cat : Catalogue
  cat = s.catalogue

  abbrev v : View
  v = view_of s log

  abbrev st : State
  st = state_of s log

  -- the act of a step, where there is one
  abbrev made : Option Step → Option Act
  made None = None
  made (Some step) = act_of bases st step

  abbrev release_to : TmCounts → Act
  release_to k = Sends (T (tm_no k.tm)) (messages.Release (time_at v.served.ts)) None

  abbrev hold_at : TmCounts → Act
  hold_at k = Sends (T (tm_no k.tm)) messages.Hold None

  made_if : (b : Bool) (o : Option TmCounts)
      → (if b then option_map release_to o else None) ≡ made (if b then option_map Release (option_map tm_of o) else None)
  made_if true None = refl
  made_if _ _ = refl

  pub releases_are : IsWhole cat → first_some (release_due cat v) v.counts ≡ made (release_step st)
  releases_are whole =
      let few : cat.dms ≤ 16 = whole.few_dms in
      let same : (v.served.dones == cat.dms) ≡ is_applied cat.dms st.served = sym (grind (arith, nat_tests)) in
      first_found_if (is_kept_on_hold v.served.commits) (v.served.dones == cat.dms) release_to v.counts
      ∙ ap (λ b. if b then option_map release_to (find (is_kept_on_hold v.served.commits) v.counts) else None) same
      ∙ made_if (is_applied cat.dms st.served) (find (is_kept_on_hold v.served.commits) v.counts)

  start_by : (qs : List Queued) (b : Bool) → queue s 0 log ≡ qs → list_all (table.is_holding v) v.counts ≡ b
      → table.start_of cat v (head_of qs) ≡ made (if head_is_untried qs && b then Some Start else None)
  start_by [] b e f = refl
  start_by (q ∷ qs) b e f =
      elim (q.tries == 0) as (λ t. (q.tries == 0) ≡ t → (if t && list_all (table.is_holding v) v.counts then Some (start_act cat [] 0 v.clock q) else None)
      ≡ made (if t && b then Some Start else None)) [
        | true ↦ λ t. by b f
        | false ↦ λ t. refl
      ] refl
    where
      by : (b : Bool) → list_all (table.is_holding v) v.counts ≡ b
          → (if list_all (table.is_holding v) v.counts then Some (start_act cat [] 0 v.clock q) else None) ≡ made (if b then Some Start else None)
      by true f = rw f (sym (ap (λ xs. option_map (start_act cat [] 0 v.clock) (head_of xs)) e))
      by false f = rw f refl

  pub start_is_due : start_due cat v ≡ made (start_step st)
  start_is_due = start_by (queue s 0 log) (list_all (table.is_holding v) v.counts) refl refl

  holds_by : (qs : List Queued) → first_some (λ k. table.hold_to k (head_of qs)) v.counts
      ≡ made (if is_empty qs then None else option_map Hold (option_map tm_of (find is_free v.counts)))
  holds_by [] = none v.counts
    where
      none : (ks : List TmCounts) → first_some (λ (k : TmCounts). table.hold_to k None) ks ≡ None
      none [] = refl
      none (k ∷ ks) = none ks
  holds_by (q ∷ qs) = first_found is_free hold_at v.counts ∙ by (find is_free v.counts)
    where
      by : (o : Option TmCounts) → option_map hold_at o ≡ made (option_map Hold (option_map tm_of o))
      by None = refl
      by (Some k) = refl

  pub holds_are : first_some (hold_due v) v.counts ≡ made (hold_step st)
  holds_are = holds_by (queue s 0 log)

  -- what is next

  pub attempt_is_due : (act : Act) → attempt_due cat bases 0 (active s 0 log) ≡ Some act → next s bases log ≡ Some act
  attempt_is_due act e = rw e refl

  pub release_is_due : (step : Step) (act : Act) → IsWhole cat → line_step (active s 0 log) ≡ None → release_step st ≡ Some step
      → act_of bases st step ≡ Some act → next s bases log ≡ Some act
  release_is_due step act whole none e f = grind (arith, none_due, releases_are)

  pub start_comes : (act : Act) → IsWhole cat → line_step (active s 0 log) ≡ None → release_step st ≡ None → start_step st ≡ Some Start
      → act_of bases st Start ≡ Some act → next s bases log ≡ Some act
  start_comes act whole none r e f = grind (arith, none_due, releases_are, start_is_due)

  pub hold_comes : (step : Step) (act : Act) → IsWhole cat → line_step (active s 0 log) ≡ None → release_step st ≡ None
      → start_step st ≡ None → hold_step st ≡ Some step → act_of bases st step ≡ Some act → next s bases log ≡ Some act
  hold_comes step act whole none r t e f = grind (arith, none_due, releases_are, start_is_due, holds_are)

  nothing_comes : IsWhole cat → step_of st ≡ None → next s bases log ≡ None
  nothing_comes whole e = grind (arith, or_nothing, none_due, line_none, releases_are, start_is_due, holds_are)

pub nothing_due : (s : Setting) (bases : Bases) (state : State) (log : Log) → IsWhole s.catalogue → state_of s log ≡ state
    → step_of state ≡ None → next s bases log ≡ None
nothing_due s bases state log whole is e = nothing_comes s bases log whole (subst (λ st. step_of st ≡ None) (sym is) e)
