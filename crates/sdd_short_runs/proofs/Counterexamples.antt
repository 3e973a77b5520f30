-- A short run that all commit in, and that no order explains, is a counterexample.
use Rattle.sdd_short_runs.proofs.All.{AreCommitted, all_commit, lent_txns, flat_map, Change, Bool, Catalogue, Contains, Contains-cases, Contains-here, Contains-later, Contains-nil, Database, Effect, HasOrder, IsOf, IsReplay, IsShortCounterexample, List, Log, Txn, [], after_changes, after_effects, and_parts, ap, arith, begins, change_one_item, database, effect, effect_of, effects_in_turn, ends, false, fold-append, in_turn, inl, inr, length, list_all, not, not-true, range_with_len, refl, short_log, slice_index_or, subst, succeeds, suc, sym, true, txn_of, zero, ℕ, ◌&&◌, ◌++◌, ◌+◌, ◌<◌, ◌∙◌, ◌∷◌, ◌≡◌, ◌≤◌, ◌⊎◌}
use Rattle.sdd_short_runs.proofs.Searching.{made_all}
use Rattle.sdd_short_runs.proofs.Turns.{long_lent}
use Rattle.std.specs.Borrow.{Bor}
use Rattle.sdd_short_runs.proofs.ShortLogs.{AreNext, AreNumbered, IsBegun, all_more, are_ended, begins_alone, database_after, ended_are, is_run}

-- numbers of a list

from_zero : (n : ℕ) → 0 + n ≡ n
from_zero n = omega arith

numbered : {X : Type 0} (f : ℕ → X) (n : ℕ) (xs : List X) (d : X) → ((i : ℕ) → f (n + i) ≡ slice_index_or xs i d) → AreNumbered f n xs
numbered f n [] d are = tt
numbered f n (x ∷ xs) d are = (
  ap f (omega arith) ∙ are 0,
  numbered f (suc n) xs d (λ i. ap f (omega arith) ∙ are (suc i)),
)

beyond : {X : Type 0} (xs : List X) (d : X) → slice_index_or xs (length xs) d ≡ d
beyond [] d = refl
beyond (x ∷ xs) d = beyond xs d

pub behind : {X : Type 0} (xs : List X) (x : X) (n : ℕ) → slice_index_or (xs ++ x ∷ []) n x ≡ slice_index_or xs n x
behind [] x zero = refl
behind [] x (suc n) = refl
behind (y ∷ xs) x zero = refl
behind (y ∷ xs) x (suc n) = behind xs x n

long_effects : (cat : Catalogue) (db : Database) (txns : List Txn) → length (effects_in_turn cat db txns) ≡ length txns
long_effects cat db [] = refl
long_effects cat db (txn ∷ rest) = ap suc (long_effects cat (after_changes cat db (effect cat db txn).changes) rest)

of_work : (work : List Txn) (outer : Txn) (inner : List Txn) → Contains work outer → ((t : Txn) → Contains inner t → Contains work t)
    → (n : ℕ) → Contains work (txn_of outer inner n)
of_work work outer [] there all n = there
of_work work outer (t ∷ inner) there all zero = all t (Contains-here t inner)
of_work work outer (t ∷ inner) there all (suc n) = of_work work outer inner there (λ u h. all u (Contains-later t inner u h)) n

-- a range
in_range : (a n m : ℕ) → a ≤ m → m < a + n → Contains (range_with_len a n) m
in_range a zero m low high = absurd (omega arith)
in_range a (suc n) m low high =
    elim (at_or_above a m low) [
      | inl e ↦ subst (Contains (range_with_len a (suc n))) (sym e) (Contains-here a (range_with_len (a + 1) n))
      | inr above ↦ Contains-later a (range_with_len (a + 1) n) m (in_range (a + 1) n m above (omega arith))
    ]
  where
    at_or_above : (b k : ℕ) → b ≤ k → (k ≡ b) ⊎ (b + 1 ≤ k)
    at_or_above b k l = grind arith

below_end : (a n m : ℕ) → Contains (range_with_len a n) m → m < a + n
below_end a zero m h = absurd (Contains-nil m h)
below_end a (suc n) m h =
    elim (Contains-cases a (range_with_len (a + 1) n) m h) [
      | inl e ↦ omega arith
      | inr later ↦ (let l = below_end (a + 1) n m later in omega arith)
    ]

-- the numbers below another one
all_below : (n m : ℕ) → m < n → Contains (range_with_len 0 n) m
all_below n m l = in_range 0 n m (omega arith) (omega arith)

are_below : (n m : ℕ) → Contains (range_with_len 0 n) m → m < n
are_below n m h = let l = below_end 0 n m h in omega arith

module _ (cat : Catalogue) (first : Database) (outer : Txn) (inner : List Txn) where
  abbrev k : ℕ
  k = length inner

  abbrev txns : ℕ → Txn
  txns = txn_of outer inner

  abbrev own : Effect
  own = effect cat first outer

  abbrev effects : ℕ → Effect
  effects = effect_of cat first outer inner

  abbrev commits : Effect → Bool
  commits e = succeeds e.reply && not (change_one_item cat e own)

  outer_effect : effects k ≡ own
  outer_effect = ap (λ n. slice_index_or (effects_in_turn cat first inner) n own) (sym (long_effects cat first inner)) ∙ beyond (effects_in_turn cat first inner) own

  outer_txn : txns k ≡ outer
  outer_txn = beyond inner outer

  next_all : (n : ℕ) (rest : List Txn) (log : Log) (db : Database) → db ≡ database cat first effects log → AreNumbered txns n rest
      → AreNumbered effects n (effects_in_turn cat db rest) → list_all commits (effects_in_turn cat db rest) ≡ true
      → AreNext cat txns first effects k n rest log
  next_all n [] log db is texts made ok = tt
  next_all n (t ∷ rest) log db is texts made ok =
      let both = and_parts (commits (effect cat db t)) (list_all commits (effects_in_turn cat (after_changes cat db (effect cat db t).changes) rest)) ok in
      let own_ok = and_parts (succeeds (effect cat db t).reply) (not (change_one_item cat (effect cat db t) own)) both.0 in (
        record {
          saw = ap (λ d. effect cat d (txns n)) (sym is) ∙ ap (effect cat db) texts.0 ∙ sym made.0;
          success = ap (λ (e : Effect). succeeds e.reply) made.0 ∙ own_ok.0;
          apart = ap (λ e. change_one_item cat e (effects k)) made.0 ∙ ap (change_one_item cat (effect cat db t)) outer_effect
              ∙ not-true _ own_ok.1;
        },
        next_all (suc n) rest (ends n ∷ begins n ∷ log) (after_changes cat db (effect cat db t).changes)
            (ap (λ d. after_changes cat d (effect cat db t).changes) is ∙ ap (λ (e : Effect). after_changes cat (database cat first effects log) e.changes) (sym made.0))
            texts.1 made.1 both.1,
      )

  module _ (ok : (succeeds own.reply && list_all commits (effects_in_turn cat first inner)) ≡ true) where
    parts : (succeeds own.reply ≡ true) × (list_all commits (effects_in_turn cat first inner) ≡ true)
    parts = and_parts (succeeds own.reply) (list_all commits (effects_in_turn cat first inner)) ok

    abbrev log : Log
    log = in_turn 0 inner (begins k ∷ [])

    numbered_effects : AreNumbered effects 0 (effects_in_turn cat first inner)
    numbered_effects = numbered effects 0 (effects_in_turn cat first inner) own (λ i. ap effects (from_zero i))

    begun : IsBegun cat txns first effects k k log
    begun =
        all_more cat txns first effects k 0 inner (begins k ∷ []) (from_zero k)
        (begins_alone cat txns first effects k (ap (effect cat first) outer_txn ∙ sym outer_effect))
        (next_all 0 inner (begins k ∷ []) first refl (numbered txns 0 inner outer (λ i. ap txns (from_zero i))) numbered_effects parts.1)

    last_is : database cat first effects (short_log inner) ≡ after_effects cat first (effects_in_turn cat first inner ++ own ∷ [])
    last_is =
        ap (λ d. after_changes cat d (effects k).changes) (database_after cat txns first effects k 0 inner (begins k ∷ []) (effects_in_turn cat first inner) numbered_effects (long_effects cat first inner))
        ∙ ap (λ (e : Effect). after_changes cat (after_effects cat first (effects_in_turn cat first inner)) e.changes) outer_effect
        ∙ sym (fold-append _ first (effects_in_turn cat first inner) (own ∷ []))

    from_replay : (order : List ℕ) → IsReplay cat txns first effects (short_log inner) order
        → HasOrder cat txns effects (after_effects cat first (effects_in_turn cat first inner ++ own ∷ [])) first (range_with_len 0 (suc k))
    from_replay order r =
        record {
          order = order;
          of = record {
            same = λ n. (
              (λ h. (r.same n).0 (are_ended cat txns first effects k log begun n (are_below (suc k) n h))),
              (λ h. all_below (suc k) n (ended_are cat txns first effects k log begun n ((r.same n).1 h))),
            );
            once = r.once;
          };
          explains = record { replies = r.replies; rows = r.rows ∙ last_is };
        }

    pub is_counterexample : (work : List Txn) → IsOf work outer inner
        → (HasOrder cat txns effects (after_effects cat first (effects_in_turn cat first inner ++ own ∷ [])) first (range_with_len 0 (suc k)) → ⊥)
        → IsShortCounterexample cat work first outer inner
    is_counterexample work of none =
        record {
          of_work = of_work work outer inner of.outer_there of.inner_there;
          run = is_run cat txns first effects k log begun (ap (λ (e : Effect). succeeds e.reply) outer_effect ∙ parts.0);
          no_order = λ order r. none (from_replay order r);
        }

-- as the code holds them: the outer one behind the inner ones

long_push : {X : Type 0} (xs : List X) (x : X) → length (xs ++ x ∷ []) ≡ suc (length xs)
long_push [] x = refl
long_push (y ∷ xs) x = ap suc (long_push xs x)

pub refuted : (cat : Catalogue) (outer : Txn) (inner txns : List Txn) (effects : List Effect) (base : Database) (changes : List Change) (left : List ℕ)
    (e : Effect) (b : Bool) → txns ≡ inner ++ outer ∷ [] → changes ≡ flat_map (λ (f : Effect). f.changes) effects → left ≡ range_with_len 0 (length effects)
    → (HasOrder cat (λ n. slice_index_or txns n outer) (λ n. slice_index_or effects n e) (after_changes cat base changes) base left → b ≡ true)
    → not b ≡ true
    → HasOrder cat (txn_of outer inner) (λ n. slice_index_or effects n e) (after_effects cat base effects) base (range_with_len 0 (length effects)) → ⊥
refuted cat outer inner txns effects base changes left e b are made of has none order =
    differ b none (has whole)
  where
    texts : (λ n. slice_index_or txns n outer) ≡ txn_of outer inner
    texts = λ i n. (ap (λ z. slice_index_or z n outer) are ∙ behind inner outer n) i

    last : after_changes cat base changes ≡ after_effects cat base effects
    last = ap (after_changes cat base) made ∙ made_all cat base effects

    whole : HasOrder cat (λ n. slice_index_or txns n outer) (λ n. slice_index_or effects n e) (after_changes cat base changes) base left
    whole =
        subst (λ z. HasOrder cat z (λ n. slice_index_or effects n e) (after_changes cat base changes) base left) (sym texts)
        (subst (λ z. HasOrder cat (txn_of outer inner) (λ n. slice_index_or effects n e) z base left) (sym last)
        (subst (HasOrder cat (txn_of outer inner) (λ n. slice_index_or effects n e) (after_effects cat base effects) base) (sym of) order))

    differ : (c : Bool) → not c ≡ true → c ≡ true → ⊥
    differ true p q = cc
    differ false p q = cc

pub none_explains : (cat : Catalogue) (first : Database) (outer : Txn) (inner : List Txn) (effects : List Effect)
    → effects ≡ effects_in_turn cat first inner ++ effect cat first outer ∷ []
    → (succeeds (effect cat first outer).reply && list_all (λ e. succeeds e.reply && not (change_one_item cat e (effect cat first outer))) (effects_in_turn cat first inner)) ≡ true
    → (work : List Txn) → IsOf work outer inner
    → ((e : Effect) → HasOrder cat (txn_of outer inner) (λ n. slice_index_or effects n e) (after_effects cat first effects) first (range_with_len 0 (length effects)) → ⊥)
    → IsShortCounterexample cat work first outer inner
none_explains cat first outer inner effects are ok work of none =
    is_counterexample cat first outer inner ok work of
    (λ has. none own (subst (λ z. HasOrder cat (txn_of outer inner) (λ n. slice_index_or z n own) (after_effects cat first z) first (range_with_len 0 (length z))) (sym are) (held has)))
  where
    own : Effect
    own = effect cat first outer

    made : List Effect
    made = effects_in_turn cat first inner

    replies : effect_of cat first outer inner ≡ (λ n. slice_index_or (made ++ own ∷ []) n own)
    replies = λ i n. (sym (behind made own n)) i

    long : suc (length inner) ≡ length (made ++ own ∷ [])
    long = ap suc (sym (long_effects cat first inner)) ∙ sym (long_push made own)

    held : HasOrder cat (txn_of outer inner) (effect_of cat first outer inner) (after_effects cat first (made ++ own ∷ [])) first (range_with_len 0 (suc (length inner)))
        → HasOrder cat (txn_of outer inner) (λ n. slice_index_or (made ++ own ∷ []) n own) (after_effects cat first (made ++ own ∷ [])) first (range_with_len 0 (length (made ++ own ∷ [])))
    held has =
        subst (λ z. HasOrder cat (txn_of outer inner) z (after_effects cat first (made ++ own ∷ [])) first (range_with_len 0 (length (made ++ own ∷ [])))) replies
        (subst (λ z. HasOrder cat (txn_of outer inner) (effect_of cat first outer inner) (after_effects cat first (made ++ own ∷ [])) first (range_with_len 0 z)) long has)

-- there are as many effects as transactions, and as many numbers

pub long_run : (cat : Catalogue) (first : Database) (outer : Txn) (inner : List Txn)
    → suc (length inner) ≡ length (effects_in_turn cat first inner ++ effect cat first outer ∷ [])
long_run cat first outer inner = ap suc (sym (long_effects cat first inner)) ∙ sym (long_push (effects_in_turn cat first inner) (effect cat first outer))

pub as_many : (cat : Catalogue) (first : Database) (outer : Txn) (inner : List Txn) (txns : List (Bor Txn)) (effects : List Effect)
    → lent_txns txns ≡ inner ++ outer ∷ [] → effects ≡ effects_in_turn cat first inner ++ effect cat first outer ∷ [] → length txns ≡ length effects
as_many cat first outer inner txns effects texts made =
    sym (long_lent txns) ∙ ap length texts ∙ long_push inner outer ∙ ap suc (sym (long_effects cat first inner))
    ∙ sym (long_push (effects_in_turn cat first inner) (effect cat first outer)) ∙ sym (ap length made)

pub all_there : (numbers : List ℕ) (count many : ℕ) → numbers ≡ range_with_len 0 count → many ≡ count → (n : ℕ) → Contains numbers n → n < many
all_there numbers count many are same n h =
    let l = are_below count n (subst (λ z. Contains z n) are h) in omega arith

-- one number more
range_last : (a n : ℕ) → range_with_len a (suc n) ≡ range_with_len a n ++ (a + n) ∷ []
range_last a zero = ap (λ m. m ∷ []) (omega arith)
range_last a (suc n) = ap (λ rest. a ∷ rest) (range_last (a + 1) n ∙ ap (λ m. range_with_len (a + 1) n ++ m ∷ []) (omega arith))

pub one_number_more : (numbers : List ℕ) (n : ℕ) → numbers ≡ range_with_len 0 n → numbers ++ n ∷ [] ≡ range_with_len 0 (n + 1)
one_number_more numbers n are =
    let next : suc n ≡ n + 1 = omega arith in
    let last : 0 + n ≡ n = omega arith in
    ap (λ z. z ++ n ∷ []) are ∙ ap (λ m. range_with_len 0 n ++ m ∷ []) (sym last) ∙ sym (range_last 0 n) ∙ ap (range_with_len 0) next

-- effects in which all commit
pub are_committed : (cat : Catalogue) (first : Database) (outer : Txn) (inner : List Txn) (own : Effect) (made effects : List Effect)
    → own ≡ effect cat first outer → made ≡ effects_in_turn cat first inner → effects ≡ made ++ own ∷ []
    → (succeeds own.reply && list_all (λ e. succeeds e.reply && not (change_one_item cat e own)) made) ≡ true
    → AreCommitted cat first outer inner effects
are_committed cat first outer inner own made effects a b e ok =
    record {
      are = e ∙ ap (λ z. made ++ z ∷ []) a ∙ ap (λ z. z ++ effect cat first outer ∷ []) b;
      commit = subst (λ z. (succeeds z.reply && list_all (λ f. succeeds f.reply && not (change_one_item cat f z)) (effects_in_turn cat first inner)) ≡ true) a
          (subst (λ z. (succeeds own.reply && list_all (λ f. succeeds f.reply && not (change_one_item cat f own)) z) ≡ true) b ok);
    }

-- and those in which not all do
pub not_committed : (cat : Catalogue) (first : Database) (outer : Txn) (inner : List Txn) (own : Effect) (made : List Effect)
    → own ≡ effect cat first outer → made ≡ effects_in_turn cat first inner
    → (succeeds own.reply && list_all (λ e. succeeds e.reply && not (change_one_item cat e own)) made) ≡ false
    → all_commit cat first outer inner ≡ false
not_committed cat first outer inner own made a b fails =
    subst (λ z. (succeeds z.reply && list_all (λ f. succeeds f.reply && not (change_one_item cat f z)) (effects_in_turn cat first inner)) ≡ false) a
    (subst (λ z. (succeeds own.reply && list_all (λ f. succeeds f.reply && not (change_one_item cat f own)) z) ≡ false) b fails)
