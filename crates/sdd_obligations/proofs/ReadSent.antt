-- The READ whose answer lacks is the last of its attempt that was sent to its module, and no READY or REJECT of it was
-- handed.
use Rattle.sdd_obligations.proofs.All.{Act, Asks, Bool, D, Did, Each, Handed, IsFair, List, MayAsk, Msg, Setting, Silent, Site, Some, Turn, [], and_left, and_right, ap, arith, asked_by, at_site, cond, dm_no, false, filter, filter-append, head_of, if_way, in_filtered, inl, inr, is_a_read, is_question, is_read, is_verdict, list_any, map, not_both, not_true, numbers_of, questions, refl, same_site, same_sym, sends_of_act, site_is, slice_get, subst, sym, to_site, true, turn_after_question, turn_at, uses_by, ℕ, ◌++◌, ◌||◌, ◌∙◌, ◌∷◌, ◌≡◌}
use Rattle.sdd_obligations.proofs.QuestionsComeInTurn.{IsInTurn, asks_in_turn, in_turn}
use Rattle.sdd_obligations.proofs.HandedAnswersKeepTurns.{IsTimely, turn_after_one}
use Rattle.sdd_obligations.proofs.FirstSends.{IsFirstEach}
use Rattle.sdd_obligations.proofs.Opened.{sift_within}
use Rattle.sdd_obligations.proofs.Replying.{read_question, uses_twice}
use Rattle.sdd_invariants.specs.site_module.SiteLog.{Log}
use Rattle.sdd_invariants.specs.attempt.Fits as fits

-- of the READs of the attempt that were sent to module d, newest first, and whether one was answered
abbrev pub IsLastRead : ℕ → Turn → List (Site × Msg) → Bool → Type 0
IsLastRead d Silent reads answered = (reads ≡ []) × (answered ≡ false)
IsLastRead d (Asks ns m) reads answered = is_a_read m ≡ true → (head_of reads ≡ Some (D (dm_no d), m)) × (answered ≡ false) × (uses_by m ns ≡ ns)
IsLastRead d _ reads answered = Unit {0}

abbrev pub reads_sent : ℕ → ℕ → ℕ → Log → List (Site × Msg)
reads_sent ts c d log = filter (at_site (D (dm_no d)) (is_read ts c)) (fits.sent log)

abbrev pub was_answered : ℕ → ℕ → ℕ → Log → Bool
was_answered ts c d log = list_any (at_site (D (dm_no d)) (is_verdict ts c)) (fits.handed log)

-- sites

pub site_sym : (a b : Site) → same_site a b ≡ same_site b a
site_sym a b = grind (arith, same_sym)

-- of these sends the messages of a kind to one module

abbrev to_d : ℕ → Msg → Site × Msg
to_d d m = (D (dm_no d), m)

sent_of_kind : (f : Msg → Bool) (d : ℕ) (sends : List (Site × Msg))
    → filter (at_site (D (dm_no d)) f) sends ≡ map (to_d d) (filter f (to_site (D (dm_no d)) sends))
sent_of_kind f d [] = refl
sent_of_kind f d (p ∷ sends) = grind (arith, to_d, site_sym, site_is, (sent_of_kind f d sends))

last_asked : (ts c d : ℕ) (v : Turn) (m : Msg) (ms : List Msg) (reads : List (Site × Msg)) (b : Bool) → ms ≡ m ∷ [] → MayAsk v m
    → is_question ts c m ≡ true → IsLastRead d v reads b → IsLastRead d (turn_after_question m v) (map (to_d d) (filter (is_read ts c) ms) ++ reads) b
last_asked ts c d v m ms reads b e h q i = grind (arith, to_d, uses_twice)

last_act : (ts c d : ℕ) (act : Act) (log : Log) → IsInTurn (turn_at ts c d log) (questions ts c (to_site (D (dm_no d)) (sends_of_act act)))
    → IsLastRead d (turn_at ts c d log) (reads_sent ts c d log) (was_answered ts c d log)
    → IsLastRead d (turn_at ts c d (Did act ∷ log)) (reads_sent ts c d (Did act ∷ log)) (was_answered ts c d (Did act ∷ log))
last_act ts c d act log (inl e) h =
    subst (λ v. IsLastRead d v (reads_sent ts c d (Did act ∷ log)) (was_answered ts c d log)) (sym (ap (λ l. asked_by l (turn_at ts c d log)) e))
    (subst (λ l. IsLastRead d (turn_at ts c d log) l (was_answered ts c d log))
    (sym ((grind (arith, filter-append, reads_sent, sent_of_kind, to_d, sift_within, read_question))
    ∙ ap (λ l. map (to_d d) (filter (is_read ts c) l) ++ reads_sent ts c d log) e)) h)
last_act ts c d act log (inr p) h =
    subst (λ v. IsLastRead d v (reads_sent ts c d (Did act ∷ log)) (was_answered ts c d log)) (sym (ap (λ l. asked_by l (turn_at ts c d log)) p.1))
    (subst (λ l. IsLastRead d (turn_after_question p.0 (turn_at ts c d log)) l (was_answered ts c d log))
    (sym (grind (arith, filter-append, reads_sent, sent_of_kind, to_d, sift_within, read_question)))
    (last_asked ts c d (turn_at ts c d log) p.0 (questions ts c (to_site (D (dm_no d)) (sends_of_act act)))
    (reads_sent ts c d log) (was_answered ts c d log) p.1 p.2
    ((in_filtered (is_question ts c) (to_site (D (dm_no d)) (sends_of_act act)) 0 p.0
    (subst (λ l. slice_get l 0 ≡ Some p.0) (sym p.1) refl)).0) h))

-- a hand

last_hand : (ts c d : ℕ) (from : Site) (m : Msg) (log : Log) → IsTimely c log (Handed from m)
    → IsLastRead d (turn_at ts c d log) (reads_sent ts c d log) (was_answered ts c d log)
    → IsLastRead d (turn_at ts c d (Handed from m ∷ log)) (reads_sent ts c d (Handed from m ∷ log)) (was_answered ts c d (Handed from m ∷ log))
last_hand ts c d from m log timely h =
    grind (arith, IsLastRead, reads_sent, was_answered, turn_after_one, if_way, site_is, and_left, and_right, not_true, not_both, site_sym)

pub last_read : (s : Setting) (ts c d : ℕ) (log : Log) → Each (IsFair s) log → Each (IsFirstEach s) log → Each (IsTimely c) log
    → IsLastRead d (turn_at ts c d log) (reads_sent ts c d log) (was_answered ts c d log)
last_read s ts c d [] fair first timely = (refl, refl)
last_read s ts c d (Handed from m ∷ log) fair first timely = last_hand ts c d from m log timely.0 (last_read s ts c d log fair.1 first.1 timely.1)
last_read s ts c d (Did act ∷ log) fair first timely =
    last_act ts c d act log (asks_in_turn s c log act ts d fair.0 first.0
    (in_turn s c log fair.1 first.1 timely.1)) (last_read s ts c d log fair.1 first.1 timely.1)
last_read s ts c d (_ ∷ log) fair first timely = last_read s ts c d log fair.1 first.1 timely.1

pub numbers_are : (m : Msg) (ns : List ℕ) → is_a_read m ≡ true → uses_by m ns ≡ numbers_of m
numbers_are m ns e = grind arith

any_of_filter : (f : Site × Msg → Bool) (xs : List (Site × Msg)) (x : Site × Msg) → head_of (filter f xs) ≡ Some x → list_any f xs ≡ true
any_of_filter f [] x e = cc
any_of_filter f (y ∷ xs) x e = elim (f y) as (λ b. head_of (cond b (y ∷ filter f xs) (filter f xs)) ≡ Some x → (b || list_any f xs) ≡ true) [
  | true ↦ λ p. refl
  | false ↦ λ p. any_of_filter f xs x p
] e

-- one was sent to the module
pub was_sent : (ts c d : ℕ) (log : Log) (m : Msg) → head_of (reads_sent ts c d log) ≡ Some (D (dm_no d), m)
    → list_any (at_site (D (dm_no d)) (is_read ts c)) (fits.sent log) ≡ true
was_sent ts c d log m e = any_of_filter (at_site (D (dm_no d)) (is_read ts c)) (fits.sent log) (D (dm_no d), m) e
