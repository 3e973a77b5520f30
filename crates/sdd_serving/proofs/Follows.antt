-- The exchange of an attempt, entry by entry, follows a run.
use Rattle.sdd_serving.proofs.All.{Asking, AwaitsNoValues, Bool, Catalogue, Condition, Cutting, Delete, Exchange, Fetching, Follows, Has, Has-append, Has-filter_from, Has-filter_map, Has-map, IsMoveAlong, IsMoveOf, List, Move, Msg, None, Option, Over, Phase, Put, Query, Queued, Reading, Ready, Reduced, Resting, Rows, Runs, Shipping, Site, Some, Space, Stage, Step, Stmt, Suits, Telling, TellsAll, Update, Use, Value, Values, [], after_hand, after_send, answered, ap, arith, asked_at, asking_of, askings, asks as run_asks, begins as run_begins, better, cond, contains, counted, counts_for, false, fetches, fetches_from, fewest, filter, filter_map, first_phase, goes_on, if◌then◌else◌, inl, inr, is_candidate, length, map, module_read, move_at, moves, names_use, nat_lt, nat_tests, next_move, on_answer, phase_ends, read_to, reduced, reduces as run_reduces, refl, rests as run_rests, rows_at, sends as run_sends, stage_with, subst, sym, tells as run_tells, true, uses_at, uses_in, uses_of, with_use, with_values, without, ℕ, ◌&&◌, ◌++◌, ◌+◌, ◌==◌, ◌||◌, ◌∙◌, ◌∷◌, ◌≡◌, ◌≢◌}
use Rattle.sdd_rules.specs.All.{begins}
use Rattle.sdd_laws.specs.protocol.declared.entry.Entry as line

-- moves that are chosen

fewest_there : (counts : List ℕ) (ms : List Move) (m : Move) → fewest counts ms ≡ Some m → Has ms m
fewest_there counts [] m e = cc
fewest_there counts (a ∷ ms) m e = by (fewest counts ms) (λ n q. fewest_there counts ms n q) e
  where
    by : (o : Option Move) → ((n : Move) → o ≡ Some n → Has ms n) → better counts a o ≡ Some m → Has (a ∷ ms) m
    by None h e = let same : a ≡ m = cc in inl same
    by (Some n) h e =
        elim (nat_lt (rows_at counts n.source.part) (rows_at counts a.source.part)) as (λ b. cond b (Some n) (Some a) ≡ Some m → Has (a ∷ ms) m) [
          | true ↦ λ q. inr (h m q)
          | false ↦ λ q. let same : a ≡ m = cc in inl same
        ] e

pub next_move_there : (conds : List Condition) (counts : List ℕ) (done : List Step) (m : Move) → next_move conds counts done ≡ Some m → Has (moves conds) m
next_move_there conds counts done m e =
    (Has-filter_from (is_candidate counts done) (moves conds) m (fewest_there counts (filter (is_candidate counts done) (moves conds)) m e)).0

-- the move of a query is one of the statements'
asking_moves : (before : ℕ) (statements : List Stmt) (q : Asking) (m : Move) → Has (askings before statements) q
    → Has (moves q.conds) m → IsMoveAlong before statements (move_at q.before m)
asking_moves before [] q m h k = absurd h
asking_moves before (s ∷ rest) q m h k =
    elim (Has-append (asking_of before s) (askings (before + uses_in s) rest) q h) [
      | inl here ↦ inl (at_statement s here)
      | inr there ↦ inr (asking_moves (before + uses_in s) rest q m there k)
    ]
  where
    at_statement : (s : Stmt) → Has (asking_of before s) q → IsMoveOf before s (move_at q.before m)
    at_statement (Put rel row) h = absurd h
    at_statement (Query out rels conds) (inl same) =
        record
        { move = m; there = subst (λ (z : Asking). Has (moves z.conds) m) (sym same) k; is = ap (λ (z : Asking). move_at z.before m) (sym same) }
    at_statement (Query out rels conds) (inr nothing) = absurd nothing
    at_statement (Update rel sets conds) h = absurd h
    at_statement (Delete rel conds) h = absurd h

-- at its Start

names_contained : (us : List Use) (n : ℕ) → names_use us n ≡ contains (map (λ (u : Use). u.number) us) n
names_contained [] n = refl
names_contained (u ∷ us) n = ap (λ b. (u.number == n) || b) (names_contained us n)

begins_resting : (ms : List (ℕ × List ℕ)) (lacks : List ℕ) (union : List Value) → stage_with (first_phase ms) lacks union ≡ Resting
begins_resting ms lacks union = grind arith

-- the exchange that begins with these READs follows the run that begins with what their modules freeze
pub follows_start : (cat : Catalogue) (table : List line.Entry) (c : ℕ) (q : Queued) (own p2 : ℕ) (dms : List ℕ) (first : Space)
    → Follows dms (q.text).statements (asked_at cat c q.text) first first
    (begins q.text (map (read_to cat table c q (uses_of cat q.text) own p2) dms))
follows_start cat table c q own p2 dms first =
    record {
      runs =
          subst (Runs dms (q.text).statements (asked_at cat c q.text) first first)
          (sym (begins_resting (begins q.text sends).modules (begins q.text sends).lacks [])) run_begins;
      left = λ a h. h;
      modules = λ d u there asked.
          Has-filter_map (λ (m : ℕ × List ℕ). cond (contains m.1 u) (Some m.0) None) (filter_map module_read sends) (read_at d) d
          (Has-filter_map module_read sends (read_to cat table c q (uses_of cat q.text) own p2 d) (read_at d)
          (Has-map (read_to cat table c q (uses_of cat q.text) own p2) dms d there) refl)
          (ap (λ b. cond b (Some d) None) (sym (names_contained (uses_at cat c q.text d) u) ∙ asked));
    }
  where
    sends : List (Site × Msg)
    sends = map (read_to cat table c q (uses_of cat q.text) own p2) dms

    read_at : ℕ → ℕ × List ℕ
    read_at d = (d, map (λ (u : Use). u.number) (uses_at cat c q.text d))

module _ (dms : List ℕ) (statements : List Stmt) (asked : ℕ → ℕ → Bool) (first : Space) where
  abbrev Along : Space → Exchange → Type 0
  Along space x = Follows dms statements asked first space x

  abbrev At : Space → Stage → Type 0
  At space stage = Runs dms statements asked first space stage

  -- where what matters is the same

  moved : (space : Space) (x y : Exchange) → Along space x → y.phase ≡ x.phase → y.lacks ≡ x.lacks → y.union ≡ x.union
      → y.left ≡ x.left → y.modules ≡ x.modules → Along space y
  moved space x y f p l u q ms = grind (arith, At, filter_map)

  -- the next move

  module _ (ts c : ℕ) where
    asked_next : (space : Space) (x : Exchange) (m : Move) → At space Resting → IsMoveAlong 0 statements m
        → ((q : Asking) → Has x.left q → Has (askings 0 statements) q)
        → ((d u : ℕ) → Has dms d → asked d u ≡ true → Has (with_use x u) d) → Along space (fetches ts c m x)
    asked_next space x m r q left modules = by (with_use x m.source.part) (λ d h a. modules d m.source.part h a)
      where
        by : (lacks : List ℕ) → ((d : ℕ) → Has dms d → asked d m.source.part ≡ true → Has lacks d) → Along space (fetches_from ts c m x lacks)
        by [] all = record { runs = run_sends m [] [] (run_asks r m q [] all) refl; left = left; modules = modules }
        by (d ∷ lacks) all = record { runs = run_asks r m q (d ∷ lacks) all; left = left; modules = modules }

    went_on : (space : Space) (x : Exchange) (qs : List Asking) (done : List Step) → At space Resting → ((q : Asking) → Has qs q → Has (askings 0 statements) q)
        → ((d u : ℕ) → Has dms d → asked d u ≡ true → Has (with_use x u) d) → Along space (goes_on ts c x qs done)
    went_on space x [] done r left modules = record { runs = r; left = λ q h. absurd h; modules = modules }
    went_on space x (q ∷ qs) done r left modules =
        elim (next_move q.conds (counts_for x.counts q) done) as
        (λ o. next_move q.conds (counts_for x.counts q) done ≡ o → Along space (elim o as (λ _. Exchange) [
          | None ↦ goes_on ts c x qs []
          | Some m ↦ fetches ts c (move_at q.before m) (record x { left = q ∷ qs; done = done ++ m.step ∷ [] })
        ])) [
          | None ↦ λ h. went_on space x qs [] r (λ p k. left p (inr k)) modules
          | Some m ↦ λ h.
              asked_next space (record x { left = q ∷ qs; done = done ++ m.step ∷ [] }) (move_at q.before m) r
              (asking_moves 0 statements q m (left q (inl refl)) (next_move_there q.conds (counts_for x.counts q) done m h))
              left modules
        ] refl

    -- all answers of a phase came

    ended : (space : Space) (x : Exchange) (phase : Phase) → Along space x → x.phase ≡ phase → x.lacks ≡ [] → Along space (phase_ends ts c x phase)
    ended space x Reading f p l = went_on space x x.left x.done (subst (λ z. At space (stage_with z x.lacks x.union)) p f.runs) f.left f.modules
    ended space x (Fetching m) f p l = grind (arith, nat_tests, At, stage_with, run_sends)
    ended space x (Cutting m) f p l =
        went_on space x x.left x.done (run_rests m x.union (subst (λ z. At space (stage_with z x.lacks x.union)) p f.runs)) f.left f.modules
    ended space x Shipping f p l = record { runs = subst (λ z. At space (stage_with z x.lacks x.union)) p f.runs; left = f.left; modules = f.modules }
    ended space x Over f p l = f

    lacked : (space : Space) (x : Exchange) (lacks : List ℕ) → Along space (record x { lacks = lacks }) → Along space (on_answer ts c x lacks)
    lacked space x [] f = ended space (record x { lacks = [] }) x.phase f refl refl
    lacked space x (d ∷ lacks) f = f

    -- an answer came

    any_lack : (phase : Phase) → AwaitsNoValues phase → (old new : List ℕ) (union : List Value) → stage_with phase old union ≡ stage_with phase new union
    any_lack phase none old new union = grind arith

    other_answered : (space : Space) (x : Exchange) (d : ℕ) → AwaitsNoValues x.phase → Along space x → Along space (answered ts c d x)
    other_answered space x d none f =
        lacked space x (without x.lacks d)
        (grind (arith, nat_tests, At, any_lack, without))

    values_follow : (space : Space) (x : Exchange) (d : ℕ) (values : List Value) (sent : ℕ) (m : Move) → x.phase ≡ Fetching m
        → TellsAll (space d) m.source values → Along space x → Along space (answered ts c d (record x { union = with_values x.union values; values = sent }))
    values_follow space x d values sent m is tells f =
        let r : At space (Telling m x.lacks x.union) =
        subst (λ z. At space (stage_with z x.lacks x.union)) is f.runs in
        lacked space (record x { union = with_values x.union values; values = sent }) (without x.lacks d) (record {
          runs = subst (λ z. At space (stage_with z (without x.lacks d) (with_values x.union values))) (sym is) (run_tells m x.lacks x.union r d values tells);
          left = f.left;
          modules = f.modules;
        })

    -- where it is one to this attempt
    if_own : (space : Space) (x new : Exchange) (b : Bool) → Along space x → (b ≡ true → Along space new) → Along space (if b then new else x)
    if_own space x new b f h = grind arith

    pub follows_hand : (space : Space) (x : Exchange) (d : ℕ) (msg : Msg) → Follows dms statements asked first space x
        → Suits ts c space d x msg → Follows dms statements asked first space (after_hand ts c d msg x)
    follows_hand space x d (Ready t k counts) f suits =
        if_own space x _ ((t.0 == ts) && (k.0 == c)) f
        (λ own.
        other_answered space (record x { counts = counted d counts x.counts }) d (suits own)
        (moved space x (record x { counts = counted d counts x.counts }) f refl refl refl refl refl))
    follows_hand space x d (Values t k u values) f suits =
        if_own space x _ ((t.0 == ts) && (k.0 == c)) f (λ own. let s = suits own in values_follow space x d values (x.values + length values) s.0 s.1 s.2 f)
    follows_hand space x d (Reduced t k u n) f suits =
        if_own space x _ ((t.0 == ts) && (k.0 == c)) f
        (λ own.
        other_answered space (record x { counts = counted d ((u, n) ∷ []) x.counts }) d (suits own)
        (moved space x (record x { counts = counted d ((u, n) ∷ []) x.counts }) f refl refl refl refl refl))
    follows_hand space x d (Rows t k rows) f suits =
        if_own space x _ ((t.0 == ts) && (k.0 == c)) f
        (λ own.
        other_answered space (record x { found = x.found ++ rows; rows = x.rows + length rows }) d (suits own)
        (moved space x (record x { found = x.found ++ rows; rows = x.rows + length rows }) f refl refl refl refl refl))
    follows_hand space x d _ f suits = f

  pub follows_send : (space : Space) (x : Exchange) → Follows dms statements asked first space x → Follows dms statements asked first space (after_send x)
  follows_send space x f = moved space x (after_send x) f refl refl refl refl refl

  -- a REDUCE that is handed to a module has the values of the move
  pub follows_reduce : (space after : Space) (x : Exchange) (m : Move) (d : ℕ) → Follows dms statements asked first space x → x.phase ≡ Cutting m
      → after d ≡ reduced m.target.part m.target.column x.union (space d) → ((b : ℕ) → b ≢ d → after b ≡ space b) →
      Follows dms statements asked first after x
  follows_reduce space after x m d f p here elsewhere = grind (arith, At, stage_with, run_reduces)
