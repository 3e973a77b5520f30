-- A script that a file gives is sound.
use Rattle.sdd_control.proofs.All.{Act, BadLine, Bool, ControlScript, Deliver, Draft, Ended, Err, Events, First, FitAll, FitsAct, Halt as Stop, Head, IfOk, IsSoundScript, Key, List, Option, Result, Send as Step, Some, Stage, Tells, Word, WorkError, WorkFault, WorkRule, [], arith, at_line, cond, control_script, delivery_of, end_of, event_rules, false, head_of, head_rules, is_ended, is_free, is_sound, is_utf8, key_of, key_rules, length, length-append, list_all, most_events, must, nat_le, nat_lt, nat_tests, not, number_of, number_within, one_line, require, site_number, site_of, sound_rules, tail_rules, true, with_act, within, words_of, words_rules, ℕ, ℤ, ◌&&◌, ◌+◌, ◌==◌, ◌>>=◌, ◌^◌, ◌∷◌, ◌≡◌, ◌≤◌}
use Rattle.sdd_control.specs.LineRules.{line_rules}
use Rattle.sdd_control.specs.Walk.{walk}
use Rattle.sdd_control.proofs.Following.{FitAll-append}
use Rattle.std.proofs.Common.{Ok}
use Rattle.sdd_control.specs.declared.key.Key.TheVariants as keys

-- what a reading that ends well gives passes the test
abbrev pub Gets : {A F : Type 0} → (A → Type 0) → Result A F → Type 0
Gets P (Ok x) = P x
Gets P (Err fault) = Unit {0}

gets_on : {A B F : Type 0} (P : A → Type 0) (Q : B → Type 0) (reading : Result A F) (f : A → Result B F)
    → Gets P reading → ((x : A) → P x → Gets Q (f x)) → Gets Q (reading >>= f)
gets_on P Q reading f h on = grind (arith, nat_tests)

gets_require : {A F : Type 0} (P : A → Type 0) (rule : F) (o : Option A) → ((x : A) → o ≡ Some x → P x) → Gets P (require rule o)
gets_require P rule o h = grind (arith, nat_tests)

gets_must : {F : Type 0} (rule : F) (b : Bool) → Gets (λ _. b ≡ true) (must rule b)
gets_must rule b = grind (arith, nat_tests)

pub record IsHead (head : Head) : Type 0 where
  pub some_backups : 1 ≤ head.backups
  pub most_backups : head.backups ≤ 8
  pub some_writes : 1 ≤ head.writes
  pub most_writes : head.writes ≤ 64

-- the events of a draft are those that the sites allow
abbrev pub StageFits : Stage → List Act → Type 0
StageFits First acts = acts ≡ []
StageFits (Events head) acts = IsHead head × FitAll head.backups acts
StageFits (Ended head) acts = IsHead head × FitAll head.backups acts

pub record IsDraft (draft : Draft) : Type 0 where
  pub few : length draft.acts ≤ 2 ^ 18
  pub fits : StageFits draft.stage draft.acts

within_range : (least most : ℕ) (o : Option ℤ) (n : ℕ) → within least most o ≡ Some n → (least ≤ n) × (n ≤ most)
within_range least most o n e = grind (arith, nat_tests)

number_gets : (least most : ℕ) (word : Word) → Gets (λ n. (least ≤ n) × (n ≤ most)) (number_within least most word)
number_gets least most word = grind (arith, nat_tests, gets_require, within, number_of, within_range)

head_gets : (words : List Word) → Gets IsHead (head_of words)
head_gets words = grind (arith, nat_tests, gets_on, is_free, IsHead, must, number_within, gets_must, number_gets)

site_gets : (backups : ℕ) (words : List Word) → Gets (λ i. i ≤ backups) (site_of backups words)
site_gets backups words = grind (arith, nat_tests, gets_on, is_free, must, site_number, nat_le, gets_must, number_gets)

linked_fits : (backups i j : ℕ) → (nat_le i backups && nat_le j backups && not (i == j)) ≡ true → FitsAct backups (Deliver i j)
linked_fits backups i j e = grind (arith, nat_tests)

delivery_gets : (backups : ℕ) (words : List Word) → Gets (FitsAct backups) (delivery_of backups words)
delivery_gets backups words = grind (arith, nat_tests, gets_on, is_free, must, site_number, nat_le, gets_must, number_gets, linked_fits)

act_gets : (head : Head) (draft : Draft) (act : Act) → draft.stage ≡ Events head → IsDraft draft → FitsAct head.backups act → Gets IsDraft (with_act draft act)
act_gets head draft act at d f =
    grind (arith, nat_tests, IsHead, StageFits, gets_on, nat_lt, most_events, IsDraft, must, gets_must, length-append, FitAll-append)

end_gets : (head : Head) (draft : Draft) (words : List Word) → draft.stage ≡ Events head → IsDraft draft → Gets IsDraft (end_of head draft words)
end_gets head draft words at d = grind (arith, nat_tests, StageFits)

event_gets : (key : Key) (head : Head) (draft : Draft) (words : List Word) → draft.stage ≡ Events head
    → IsDraft draft → Gets IsDraft (event_rules key head draft words)
event_gets keys.Step head draft words at d = gets_on _ IsDraft _ _ (site_gets head.backups words) (λ i l. act_gets head draft (Step i) at d l)
event_gets keys.Deliver head draft words at d = gets_on _ IsDraft _ _ (delivery_gets head.backups words) (λ act f. act_gets head draft act at d f)
event_gets keys.Stop head draft words at d = gets_on _ IsDraft _ _ (site_gets head.backups words) (λ i l. act_gets head draft (Stop i) at d l)
event_gets keys.End head draft words at d = end_gets head draft words at d
event_gets keys.Control head draft words at d = tt

first_gets : (key : Key) (draft : Draft) (words : List Word) → draft.stage ≡ First → IsDraft draft → Gets IsDraft (head_rules key draft words)
first_gets key draft words at d = grind (arith, nat_tests, StageFits, gets_on, IsHead, IsDraft, head_of, head_gets)

key_gets : (stage : Stage) (key : Key) (draft : Draft) (words : List Word) → draft.stage ≡ stage
    → IsDraft draft → Gets IsDraft (key_rules stage key draft words)
key_gets stage key draft words at d = grind (arith, nat_tests, first_gets, event_gets)

words_gets : (draft : Draft) (words : List Word) → IsDraft draft → Gets IsDraft (words_rules draft words)
words_gets draft words d = grind (arith, nat_tests, gets_on, key_of, IsDraft, require, key_rules, gets_require, key_gets)

line_gets : (draft : Draft) (line : List ℕ) → IsDraft draft → Gets IsDraft (line_rules draft line)
unfolding line_rules
line_gets draft line d =
    grind (
      arith,
      nat_tests,
      gets_on,
      is_utf8,
      IsDraft,
      must,
      require,
      words_of,
      sound_rules,
      gets_must,
      gets_require,
      list_all,
      is_sound,
      words_rules,
      words_gets,
    )

one_gets : (draft : Draft) (line : List ℕ) → IsDraft draft → Gets IsDraft (one_line draft line)
one_gets draft line d =
    elim (is_ended draft.stage) as (λ b. Gets IsDraft (cond b (Err BadLine) (line_rules draft line))) [ true ↦ tt | false ↦ line_gets draft line d ]

tail_gets : (stage : Stage) (acts : List Act) (tail : List ℕ) → length acts ≤ 2 ^ 18 → StageFits stage acts → Gets IsSoundScript (tail_rules stage acts tail)
tail_gets stage acts tail few fits = grind arith

at_line_gets : {A : Type 0} (P : A → Type 0) (line : ℕ) (reading : Result A WorkRule)
    (read_on : A → Result ControlScript WorkFault)
    → Gets P reading → ((x : A) → P x → Gets IsSoundScript (read_on x)) → Gets IsSoundScript (at_line line reading read_on)
at_line_gets P line reading read_on h on = grind (arith, nat_tests)

walk_gets : (line : ℕ) (draft : Draft) (lines : List (List ℕ)) (tail : List ℕ) → IsDraft draft → Gets IsSoundScript (walk line draft lines tail)
unfolding walk
walk_gets line draft [] tail d = at_line_gets IsSoundScript line _ _ (tail_gets draft.stage draft.acts tail d.few d.fits) (λ script s. s)
walk_gets line draft (l ∷ ls) tail d = at_line_gets IsDraft line _ _ (one_gets draft l d) (λ next n. walk_gets (line + 1) next ls tail n)

script_gets : (bytes : List ℕ) → Gets IsSoundScript (control_script bytes)
script_gets bytes = grind (arith, walk_gets)

-- what was read is sound
pub read_is_sound : (bytes : List ℕ) (r : Result ControlScript WorkError) → Tells r (control_script bytes) → IfOk r IsSoundScript
read_is_sound bytes r t = grind (arith, nat_tests, Gets, script_gets)
