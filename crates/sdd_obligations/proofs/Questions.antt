-- The questions that an exchange puts are those of its phase.
use Rattle.sdd_obligations.proofs.All.{AllByRecursion, Asking, Asks, AsksPhase, Bool, Exchange, List, MayAnswer, Move, Msg, Phase, Ready, Reduced, Reject, Replies, Rows, Shipping, Step, Turn, Value, Values, [], after_hand, answered, ap, arith, contains, counted, false, fetches_from, goes_on, if◌then◌else◌, is_a_refusal, is_answer, length, map, never, on_answer, phase_ends, question, question_of, reduces, refl, subst, sym, to_all, true, turn_after_answer, with_use, with_values, without, ℕ, ◌&&◌, ◌++◌, ◌+◌, ◌==◌, ◌∙◌, ◌∷◌, ◌≡◌}
use Rattle.sdd_obligations.proofs.AtTurn.{IsAtTurn, awaits}
use Rattle.sdd_obligations.proofs.HandedAnswersKeepTurns.{answers_asked, is_awaited}
use Rattle.sdd_obligations.proofs.Modules.{without_other}

-- what goes to all modules is one question

all_same : (m q : Msg) (dms : List ℕ) → m ≡ q → AllByRecursion (λ (p : ℕ × Msg). p.1 ≡ q) (to_all m dms)
all_same m q [] e = tt
all_same m q (d ∷ dms) e = (e, all_same m q dms e)

abbrev SendsPhase : ℕ → ℕ → Exchange → Type 0
SendsPhase ts c x = AllByRecursion (λ (p : ℕ × Msg). p.1 ≡ question_of ts c x) x.to_send

sends_reduces : (ts c : ℕ) (m : Move) (x : Exchange) → SendsPhase ts c (reduces ts c m x)
sends_reduces ts c m x = all_same _ _ (with_use x m.target.part) refl

sends_fetches : (ts c : ℕ) (m : Move) (x : Exchange) (dms : List ℕ) → SendsPhase ts c (fetches_from ts c m x dms)
sends_fetches ts c m x [] = sends_reduces ts c m (record x { union = [] })
sends_fetches ts c m x (d ∷ dms) = all_same _ _ (d ∷ dms) refl

sends_next : (ts c : ℕ) (x : Exchange) (qs : List Asking) (done : List Step) → SendsPhase ts c (goes_on ts c x qs done)
sends_next ts c x [] done = all_same _ _ (map (λ (m : ℕ × List ℕ). m.0) x.modules) refl
sends_next ts c x (q ∷ rest) done = grind (arith, SendsPhase, sends_fetches, (sends_next ts c x rest))

sends_end : (ts c : ℕ) (x : Exchange) (p : Phase) → x.phase ≡ p → SendsPhase ts c x → SendsPhase ts c (phase_ends ts c x p)
sends_end ts c x Shipping e h = subst (λ p. AllByRecursion (λ (s : ℕ × Msg). s.1 ≡ question ts c p x.union) x.to_send) e h
sends_end ts c x p e h = grind (arith, sends_reduces, sends_next)

-- an answer of module n

-- the turns then
abbrev pub after_answer : ℕ → Msg → (ℕ → Turn) → ℕ → Turn
after_answer n m v d = if d == n then turn_after_answer m (v d) else v d

-- what is asked still was asked before, of another module
still_asked : (n d : ℕ) (m q : Msg) (ns : List ℕ) (v : ℕ → Turn) → after_answer n m v d ≡ Asks ns q → (v d ≡ Asks ns q) × ((d == n) ≡ false)
still_asked n d m q ns v e = grind (arith)

module _ (ts c n : ℕ) (m : Msg) (v : ℕ → Turn) where
  abbrev w : ℕ → Turn
  w d = after_answer n m v d

  -- y is the exchange x with what the answer told it
  module _ (x y : Exchange) (at_turn : (d : ℕ) → IsAtTurn d x (v d)) (lacks_are : y.lacks ≡ x.lacks)
      (same : question_of ts c x ≡ question_of ts c y) (sends : SendsPhase ts c y)
      (h : AsksPhase ts c x v) where
    lack_asks : (dms : List ℕ) → without y.lacks n ≡ dms → AsksPhase ts c (on_answer ts c y dms) w
    lack_asks [] e = record {
      sends = sends_end ts c (record y { lacks = [] }) y.phase refl sends;
      asked = λ d ns q a r.
          (let k = still_asked n d m q ns v a in
          let l : contains x.lacks d ≡ true = (is_awaited d x (v d) ns q (at_turn d) k.0).lacks in
          never (contains x.lacks d) l (sym (without_other x.lacks n d k.1) ∙ ap (λ ls. contains ls d) (ap (λ ls. without ls n) (sym lacks_are) ∙ e)));
    }
    lack_asks (l ∷ dms) e = record { sends = sends; asked = λ d ns q a r. (let k = still_asked n d m q ns v a in h.asked d ns q k.0 r ∙ same) }

    pub answer_asks : AsksPhase ts c (answered ts c n y) w
    answer_asks = lack_asks (without y.lacks n) refl

  -- values come while they are fetched
  fetched : (x : Exchange) (ns : List ℕ) (q : Msg) (u : ℕ) (vs : List Value) (t : _) (k : _)
      → awaits x.phase q ≡ true → Replies ns q (Values t k u vs) → (z : List Value) → question ts c x.phase x.union ≡ question ts c x.phase z
  fetched x ns q u vs t k a r z = grind (arith, awaits)

  answered_if : (b : Bool) (x y : Exchange) → b ≡ true → AsksPhase ts c (answered ts c n y) w → AsksPhase ts c (if b then answered ts c n y else x) w
  answered_if b x y e h = grind arith

  -- an answer to the attempt, other than a rejection
  pub hand_asks : (x : Exchange) → is_answer ts c m ≡ true → is_a_refusal m ≡ false → ((d : ℕ) → IsAtTurn d x (v d)) → MayAnswer (v n) m → AsksPhase ts c x v
      → AsksPhase ts c (after_hand ts c n m x) w
  hand_asks x own kind at_turn may h = by m refl own
    where
      by : (z : Msg) → m ≡ z → is_answer ts c z ≡ true → AsksPhase ts c (after_hand ts c n z x) w
      by (Ready t k counts) e i = answered_if ((t.0 == ts) && (k.0 == c)) x (record x {
        counts = counted n counts x.counts;
      }) i (answer_asks x (record x { counts = counted n counts x.counts }) at_turn refl refl h.sends h)
      by (Values t k u vs) e i =
          let a = answers_asked (v n) m may in
          let q = is_awaited n x (v n) a.uses a.question (at_turn n) a.is in
          let same : question ts c x.phase x.union ≡ question ts c x.phase (with_values x.union vs) =
          fetched x a.uses a.question u vs t k q.phase (subst (Replies a.uses a.question) e a.replies) (with_values x.union vs) in
          answered_if ((t.0 == ts) && (k.0 == c)) x (record x { union = with_values x.union vs; values = x.values + length vs }) i
          (answer_asks x (record x { union = with_values x.union vs; values = x.values + length vs }) at_turn
          refl same (subst (λ z. AllByRecursion (λ (p : ℕ × Msg). p.1 ≡ z) x.to_send) same h.sends) h)
      by (Reduced t k u y) e i = answered_if ((t.0 == ts) && (k.0 == c)) x (record x {
        counts = counted n ((u, y) ∷ []) x.counts;
      }) i (answer_asks x (record x { counts = counted n ((u, y) ∷ []) x.counts }) at_turn refl refl h.sends h)
      by (Rows t k rows) e i = answered_if ((t.0 == ts) && (k.0 == c)) x (record x { found = x.found ++ rows; rows = x.rows + length rows }) i
          (answer_asks x (record x { found = x.found ++ rows; rows = x.rows + length rows }) at_turn refl refl
          h.sends h)
      by (Reject t k b write) e i = let r : true ≡ false = sym (ap is_a_refusal e) ∙ kind in absurd cc
      by z e i = cc
