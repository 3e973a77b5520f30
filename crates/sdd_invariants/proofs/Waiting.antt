-- While a READ waits, no WRITE that spoils one of its conditions is processed.
use Rattle.sdd_invariants.proofs.All.{AllUnspoilt, Apply, Bool, Change, ClassNo, ClassView, Cond, Did, Each, Entry, Handed, IsClassHere, IsDueEach, IsReadWith, IsUnspoilt, IsWaiting, List, Log, May, Msg, None, Option, Pipe, Read, Rec, Records, Setting, Site, Some, Ts, TxnNo, Write, [], ap, arith, at_class, class_view, cond, dec_le, false, filter, filter_map, fold, goes_through, head, head_of, holds_back, if◌then◌else◌, inl, inr, is_at_least, is_processing, length, length-map-range_with_len, list_any, nat_le, nat_tests, or_assoc, pipe, put, raised, refl, slice_get, slice_get-get_or, spoiler, spoiling, spoils, subst, suc, sym, true, view_of, waits, waits_own, write_time, zero, ℕ, ◌&&◌, ◌++◌, ◌<◌, ◌==◌, ◌||◌, ◌∙◌, ◌∷◌, ◌≡◌, ◌≢◌, ◌≤◌}
use Rattle.sdd_invariants.proofs.Processed.{not_own, own_record, passing, processed_handed, processed_more, read_step_way, and_false as never_and}
use Rattle.sdd_invariants.proofs.AreReadSteps.{class_in_view, class_not_in_view, d_step, no_class}
use Rattle.sdd_invariants.proofs.Bools.{neither_left, neither_right, same_number, same_or_not}
use Rattle.sdd_log.specs.dm.Due.{holds}

-- what the table tests, as a test of each processed message

or_nothing : (b : Bool) → b ≡ (b || false)
or_nothing b = grind arith

greatest_test : (t : ℕ) (o : Option ℕ) (xs : List ℕ) → is_at_least t (fold raised o xs) ≡ (is_at_least t o || list_any (nat_le t) xs)
greatest_test t o [] = or_nothing (is_at_least t o)
greatest_test t o (x ∷ xs) = grind (arith, nat_tests, or_assoc, greatest_test t (raised o x) xs)

any_of_times : (t : ℕ) (f : Msg → Option ℕ) (ms : List Msg) → list_any (nat_le t) (filter_map f ms) ≡ list_any (λ m. is_at_least t (f m)) ms
any_of_times t f [] = refl
any_of_times t f (m ∷ ms) = (grind arith) ∙ ap (λ b. is_at_least t (f m) || b) (any_of_times t f ms)

any_append : {A : Type 0} (f : A → Bool) (xs ys : List A) → list_any f (xs ++ ys) ≡ (list_any f xs || list_any f ys)
any_append f [] ys = refl
any_append f (x ∷ xs) ys = ap (λ b. f x || b) (any_append f xs ys) ∙ sym (or_assoc (f x) (list_any f xs) (list_any f ys))

pub any_false_at : {A : Type 0} (f : A → Bool) (xs : List A) (k : ℕ) (x : A) → list_any f xs ≡ false → slice_get xs k ≡ Some x → f x ≡ false
any_false_at f [] k x e g = cc
any_false_at {A = A} f (y ∷ xs) zero x e g = let p : ◌≡◌ {A = A} y x = cc in subst (λ z. f z ≡ false) p (neither_left (f y) (list_any f xs) e)
any_false_at f (y ∷ xs) (suc k) x e g = any_false_at f xs k x (neither_right (f y) (list_any f xs) e) g

-- what is processed of a class, as the table sees it
abbrev pub processed_in : Setting → Log → ℕ → List Msg
processed_in s log j = (at_class (view_of s log) j).pipe.processed

pub spoils_is : (s : Setting) (log : Log) (d : Cond) → spoils (view_of s log) d ≡ list_any (spoiling d) (processed_in s log d.class.0)
spoils_is s log d = (greatest_test d.time.0 None (filter_map (write_time d.frags) (processed_in s log d.class.0))
    ∙ any_of_times d.time.0 (write_time d.frags) (processed_in s log d.class.0))

pub processed_in_is : (s : Setting) (log : Log) (j : ℕ) → IsClassHere s j → processed_in s log j ≡ (pipe j log).processed
processed_in_is s log j l = ap (λ (k : ClassView). k.pipe.processed) (class_in_view s log j l)

processed_by : (s : Setting) (e : Entry) (log : Log) (j : ℕ) → (pipe j (e ∷ log)).processed ≡ (pipe j log).processed
    → processed_in s (e ∷ log) j ≡ processed_in s log j
processed_by s e log j h = elim (dec_le (suc j) (suc (length s.catalogue.classes))) [
  | yes l ↦ processed_in_is s (e ∷ log) j l ∙ h ∙ sym (processed_in_is s log j l)
  | no n ↦ (let l : suc (length s.catalogue.classes) ≤ j = omega (arith, n) in
      ap (λ (k : ClassView). k.pipe.processed) (class_not_in_view s (e ∷ log) j l ∙ sym (class_not_in_view s log j l)))
]

unspoilt_on : (s : Setting) (log more : Log) (ds : List Cond) → ((j : ℕ) → processed_in s more j ≡ processed_in s log j)
    → AllUnspoilt s log ds → AllUnspoilt s more ds
unspoilt_on s log more [] f h = tt
unspoilt_on s log more (d ∷ ds) f h = grind (arith, spoils_is, unspoilt_on s log more ds f h.1)

is_unspoilt_on : (s : Setting) (log more : Log) (o : Option Msg) → ((j : ℕ) → processed_in s more j ≡ processed_in s log j)
    → IsUnspoilt s log o → IsUnspoilt s more o
is_unspoilt_on s log more o f h = grind (arith, unspoilt_on)

-- an entry that processes nothing, and leaves heads that wait
waiting_on : (s : Setting) (c : ℕ) (e : Entry) (log : Log) → ((j : ℕ) → (pipe j (e ∷ log)).processed ≡ (pipe j log).processed)
    → waits c (e ∷ log) ≡ waits c log → (IsUnspoilt s log (head (pipe c log)) → head (pipe c (e ∷ log)) ≡ head (pipe c log))
    → IsWaiting s c log → IsWaiting s c (e ∷ log)
waiting_on s c e log f w r h = grind (arith, is_unspoilt_on, head, processed_by)

head_handed : (s : Setting) (log : Log) (b : Bool) (p : Pipe) (m : Msg) → IsUnspoilt s log (head p) → head (if b then put m p else p) ≡ head p
head_handed s log b p m h = grind (arith)

-- a Wait

pub no_spoiler : (s : Setting) (log : Log) (ds : List Cond) → spoiler (view_of s log) ds ≡ None → AllUnspoilt s log ds
no_spoiler s log [] e = tt
no_spoiler s log (d ∷ ds) e =
    elim (spoils (view_of s log) d) as
    (λ b. spoils (view_of s log) d ≡ b → head_of (cond b (d ∷ filter (spoils (view_of s log)) ds) (filter (spoils (view_of s log)) ds)) ≡ None → AllUnspoilt s log (d ∷ ds)) [
      | true ↦ λ p q. cc
      | false ↦ λ p q. (inr p, no_spoiler s log ds q)
    ] refl e

read_unspoilt : (s : Setting) (log : Log) (conds : List Cond) (o : Option Msg) → IsReadWith conds o → AllUnspoilt s log conds → IsUnspoilt s log o
read_unspoilt s log conds o r h = grind arith

wait_own : (s : Setting) (c : ℕ) (conds : List Cond) (r : Rec) (sends : List (Site × Msg)) (log : Log) → IsClassHere s c
    → is_processing r ≡ false → IsReadWith conds (head (pipe c log)) → spoiler (view_of s log) conds ≡ None → IsWaiting s c (Did (Records c r sends) ∷ log)
wait_own s c conds r sends log l p w e = λ q.
    let same : (j : ℕ) → pipe j (Did (Records c r sends) ∷ log) ≡ pipe j log = λ j. (not_own j c r sends log (inr p)).pipe_same in (
      l,
      subst (λ (x : Pipe). IsUnspoilt s (Did (Records c r sends) ∷ log) (head x)) (sym (same c))
          (is_unspoilt_on s log (Did (Records c r sends) ∷ log) (head (pipe c log))
          (λ j. processed_by s (Did (Records c r sends)) log j (ap (λ (x : Pipe). x.processed) (same j)))
          (read_unspoilt s log conds (head (pipe c log)) w (no_spoiler s log conds e))),
    )

-- a record that processes the head of class k

pub class_there : (s : Setting) (log : Log) (c : ℕ) → IsClassHere s c → slice_get (view_of s log).classes c ≡ Some (class_view s log c)
class_there s log c l =
    let in_it : c < length (view_of s log).classes = omega (arith, length-map-range_with_len (class_view s log) 0 (suc (length s.catalogue.classes))) in
    slice_get-get_or (view_of s log).classes c no_class in_it ∙ ap (λ x. Some x) (class_in_view s log c l)

-- what isn't held spoils no READ that waits

abbrev IsSafe : ℕ → Msg → List Cond → Type 0
IsSafe k m [] = Unit {0}
IsSafe k m (d ∷ ds) = (((d.class.0 == k) && spoiling d m) ≡ false) × IsSafe k m ds

safe_other : (k : ℕ) (m : Msg) (ds : List Cond) → ((d : Cond) → spoiling d m ≡ false) → IsSafe k m ds
safe_other k m [] f = tt
safe_other k m (d ∷ ds) f = (rw (f d) (never_and (d.class.0 == k)), safe_other k m ds f)

safe_write : (k : ℕ) (ts : Ts) (class : ClassNo) (txn : TxnNo) (changes : List Change) (ds : List Cond)
    → list_any (holds k ts.0 changes) ds ≡ false → IsSafe k (Write ts class txn changes) ds
safe_write k ts class txn changes [] e = tt
safe_write k ts class txn changes (d ∷ ds) e =
    ((grind arith), safe_write k ts class txn changes ds (neither_right _ _ e))

abbrev IsReadSafe : ℕ → Msg → Option Msg → Type 0
IsReadSafe k m (Some (Read ts c txn attempt conds uses)) = IsSafe k m conds
IsReadSafe k m _ = Unit {0}

read_safe : (k : ℕ) (ts : Ts) (class : ClassNo) (txn : TxnNo) (changes : List Change) (o : Option Msg)
    → holds_back k ts.0 changes o ≡ false → IsReadSafe k (Write ts class txn changes) o
read_safe k ts class txn changes o e = grind (arith, safe_write)

may_safe : (s : Setting) (log : Log) (k c : ℕ) (m : Msg) (r : Rec) → k ≢ 0 → IsClassHere s c → waits c log ≡ true
    → May (view_of s log) k (waits k log) m r → IsReadSafe k m (head (pipe c log))
may_safe s log k c (Write ts class txn changes) (Apply t j dm w) n l q h =
    let e : list_any (λ (v : ClassView). v.waits && holds_back k ts.0 changes (head v.pipe)) (view_of s log).classes
    ≡ false = (let z : (k == 0) ≡ false = elim (same_or_not k 0) [ inl p ↦ absurd (n p) | inr p ↦ p ] in rw z at h.3) in
    let f : (waits c log && holds_back k ts.0 changes (head (pipe c log))) ≡ false = any_false_at
    (λ (v : ClassView). v.waits && holds_back k ts.0 changes (head v.pipe)) (view_of s log).classes c (class_view s log c) e (class_there s log c l) in
    read_safe k ts class txn changes (head (pipe c log)) (rw q at f)
may_safe s log k c m r n l q h = grind (arith, safe_other, head, pipe)

processed_own : (s : Setting) (k : ℕ) (m : Msg) (r : Rec) (sends : List (Site × Msg)) (log : Log) → IsClassHere s k
    → is_processing r ≡ true → head (pipe k log) ≡ Some m → processed_in s (Did (Records k r sends) ∷ log) k ≡ processed_in s log k ++ m ∷ []
processed_own s k m r sends log l p e =
    processed_in_is s (Did (Records k r sends) ∷ log) k l ∙ ap (λ (x : Pipe). x.processed) (own_record k r sends log p).0 ∙ processed_more (pipe k log) m e
    ∙ ap (λ xs. xs ++ m ∷ []) (sym (processed_in_is s log k l))

still : (s : Setting) (k : ℕ) (m : Msg) (r : Rec) (sends : List (Site × Msg)) (log : Log) (ds : List Cond) → IsClassHere s k
    → is_processing r ≡ true → head (pipe k log) ≡ Some m → (k ≢ 0 → IsSafe k m ds) → AllUnspoilt s log ds → AllUnspoilt s (Did (Records k r sends) ∷ log) ds
still s k m r sends log [] l p e f h = tt
still s k m r sends log (d ∷ ds) l p e f h = (
  elim h.0 [
    | inl z ↦ inl z
    | inr u ↦ elim (same_or_not d.class.0 0) [
      | inl z ↦ inl z
      | inr z ↦ elim (same_or_not k d.class.0) [
        | inl q ↦ (let nonzero : k ≢ 0 = λ w. (let q : (d.class.0 == 0) ≡ true = ap (λ k. k == 0) (sym q ∙ w) in cc) in
            let fine : spoiling d m ≡ false = rw (subst (λ x. (d.class.0 == x) ≡ true) (sym q) (same_number d.class.0)) at (f nonzero).0 in
            inr (spoils_is s (Did (Records k r sends) ∷ log) d
            ∙ ap (list_any (spoiling d))
            (subst (λ j. processed_in s (Did (Records k r sends) ∷ log) j ≡ processed_in s log j ++ m ∷ []) q (processed_own s k m r sends log l p e))
            ∙ any_append (spoiling d) (processed_in s log d.class.0) (m ∷ []) ∙ (rw ((sym (spoils_is s log d) ∙ u), fine) refl)))
        | inr q ↦ inr (spoils_is s (Did (Records k r sends) ∷ log) d
            ∙ ap (list_any (spoiling d)) (processed_by s (Did (Records k r sends)) log d.class.0
            (ap (λ (x : Pipe). x.processed) (not_own d.class.0 k r sends log (inl q)).pipe_same)) ∙ sym (spoils_is s log d) ∙ u)
      ]
    ]
  ],
  still s k m r sends log ds l p e (λ n. (f n).1) h.1,
)

is_still : (s : Setting) (k : ℕ) (m : Msg) (r : Rec) (sends : List (Site × Msg)) (log : Log) (o : Option Msg) → IsClassHere s k
    → is_processing r ≡ true → head (pipe k log) ≡ Some m → (k ≢ 0 → IsReadSafe k m o) → IsUnspoilt s log o → IsUnspoilt s (Did (Records k r sends) ∷ log) o
is_still s k m r sends log None l p e f h = h
is_still s k m r sends log (Some (Read ts class txn attempt conds uses)) l p e f h = still s k m r sends log conds l p e f h
is_still s k m r sends log (Some _) l p e f h = absurd h

record_other : (s : Setting) (c k : ℕ) (m : Msg) (r : Rec) (sends : List (Site × Msg)) (log : Log) → (k == c) ≡ false
    → IsClassHere s k → is_processing r ≡ true → head (pipe k log) ≡ Some m → May (view_of s log) k (waits k log) m r
    → IsWaiting s c log → IsWaiting s c (Did (Records k r sends) ∷ log)
record_other s c k m r sends log o l p e j h = λ q.
    let was : waits c log ≡ true = sym (rw o refl) ∙ q in
    let i = h was in (grind (arith, head, not_own, is_still, pipe, may_safe))

pub waiting : (s : Setting) (log : Log) → Each (IsDueEach s) log → (c : ℕ) → IsWaiting s c log
waiting s [] h c = λ q. cc
waiting s (Handed from m ∷ log) h c = waiting_on s c (Handed from m) log
    (λ j. processed_handed j from m log) refl (head_handed s log (goes_through c m) (pipe c log) m) (waiting s log h.1 c)
waiting s (Did act ∷ log) h c =
    let i = waiting s log h.1 c in
    read_step_way s log act (λ x. IsWaiting s c (Did x ∷ log))
    (λ e. waiting_on s c (Did act) log (λ j. ap (λ (x : Pipe). x.processed) (passing j act log e).0.pipe_same) (passing c act log e).1
    (λ _. ap head (passing c act log e).0.pipe_same) i)
    (λ k conds r sends l p w a b. elim (same_or_not k c) [
      | inl q ↦ subst (λ x. IsWaiting s c (Did (Records x r sends) ∷ log)) (sym q) (wait_own s c conds r sends log (rw q at l) p (rw q at a) b)
      | inr q ↦ waiting_on s c (Did (Records k r sends)) log (λ j. ap (λ (x : Pipe). x.processed) (not_own j k r sends log (inr p)).pipe_same)
          (rw q refl) (λ _. ap head (not_own c k r sends log (inr p)).pipe_same) i
    ])
    (λ k m r sends l p e j. elim (same_or_not k c) [
      | inl q ↦ subst (λ x. IsWaiting s c (Did (Records x r sends) ∷ log)) (sym q) (λ q. let w : waits c (Did (Records c r sends) ∷ log) ≡ false = waits_own c r sends log p in cc)
      | inr q ↦ record_other s c k m r sends log q l p e j i
    ]) (d_step s log act h.0)
waiting s (x ∷ log) h c = waiting_on s c x log (λ j. refl) refl (λ i. refl) (waiting s log h.1 c)
