-- What a data module answers comes in turn, and while an attempt exchanges rows they are held for it.
use Rattle.sdd_obligations.proofs.All.{Act, Answer, Arrive, Asks, Bool, ClassNo, Cond, CopyRows, Did, Frozen, Handed, IsClassHere, List, MayAnswer, MayAsk, Msg, None, Open, Option, Pass, Read, Ready, Rec, Records, Reject, Rejected, Replies, Rows, Sends, Setting, Ship, Site, Some, Ts, Turn, TxnNo, Use, Value, Wait, [], all_held, and_left, and_no, and_right, answers, ap, arith, ask_for, asks_rows, both, column, contains, copies, dated, dated_in, done_for, eqb-true, false, filter, first_there, flat_map, frozen, frozen_at, frozen_handed, given_up, head, head_of, home_of, if_way, if◌then◌else◌, in_filtered, inl, inr, is_a_read, is_a_ship, is_among, is_answer, is_answer_record, is_asked_of, is_exchanging, is_question, is_read, length, list_any, map, never, not, opens, or_left, or_right, pipe, refl, rows_for, rows_held, same_number, same_or_not, same_site, sends_of_act, site_self, source_of, subst, sym, to_site, true, turn_after_answer, turn_after_answers, turn_with, uses_by, uses_held, view_of, ℕ, ◌&&◌, ◌++◌, ◌==◌, ◌||◌, ◌∙◌, ◌∷◌, ◌≡◌, ◌⊎◌}
use Rattle.sdd_obligations.proofs.HandedAnswersKeepTurns.{turn_after_one, turn_is_replied}
use Rattle.sdd_obligations.proofs.DataSteps.{IsDataStep, data_step_way, ready_counts, reply}
use Rattle.sdd_obligations.proofs.AnswersComeInTurn.{IsHomeOf, asks_no_answer, done_no_answer, head_through, read_next}
use Rattle.sdd_obligations.proofs.Replying.{HasTurnAt, IsOwn, asked_rows, asked_turn, asks_no_a_read, reply_answers, turn_after_hand, held_asked as held_now}
use Rattle.sdd_invariants.specs.site_module.SiteLog.{Log}

-- rows are held for the attempt, of these uses
abbrev pub AreHeldFor : ℕ → List ℕ → Option Frozen → Type 0
AreHeldFor ts ns None = ⊥
AreHeldFor ts ns (Some f) = (f.ts ≡ ts) × (map (λ e. e.0) f.uses ≡ ns)

-- messages are none, or one that may come next
abbrev pub IsReplyInTurn : Turn → List Msg → Type 0
IsReplyInTurn v ms = (ms ≡ []) ⊎ ((x : Msg) × (ms ≡ x ∷ []) × MayAnswer v x)

answers_one : (ts c : ℕ) (b : Bool) (m : Msg) → answers ts c (if b then m ∷ [] else []) ≡ (if b && is_answer ts c m then m ∷ [] else [])
answers_one ts c b m = grind arith

one_reply : (v : Turn) (ms : List Msg) (b x : Bool) (m : Msg) → ms ≡ (if b && x then m ∷ [] else [])
    → (x ≡ true → MayAnswer v m) → IsReplyInTurn v ms
one_reply v ms b x m e f = grind arith

-- rows of the uses that are held

row_named : (ns : List ℕ) (n : ℕ) (rows : List (List Value)) → contains ns n ≡ true
    → list_any (λ (r : ℕ × List Value). not (contains ns r.0)) (map (λ row. (n, row)) rows) ≡ false
row_named ns n [] e = refl
row_named ns n (row ∷ rows) e = grind (arith, list_any, (row_named ns n rows e))

none_of : (a b d : Bool) → (a || b) ≡ false → (b ≡ false → d ≡ false) → (a || d) ≡ false
none_of a b d e f = grind arith

any_append : {A : Type 0} (f : A → Bool) (xs ys : List A) → list_any f xs ≡ false → list_any f ys ≡ false → list_any f (xs ++ ys) ≡ false
any_append f [] ys e g = g
any_append f (x ∷ xs) ys e g = none_of (f x) (list_any f xs) (list_any f (xs ++ ys)) e (λ h. any_append f xs ys h g)

all_named_in : (ns : List ℕ) (us : List (ℕ × List (List Value))) → ((n : ℕ) → contains (map (λ e. e.0) us) n ≡ true → contains ns n ≡ true)
    → list_any (λ (r : ℕ × List Value). not (contains ns r.0)) (flat_map (λ (e : ℕ × List (List Value)). map (λ row. (e.0, row)) e.1) us) ≡ false
all_named_in ns [] f = refl
all_named_in ns (u ∷ us) f =
    any_append (λ (r : ℕ × List Value). not (contains ns r.0)) (map (λ row. (u.0, row)) u.1)
    (flat_map (λ (e : ℕ × List (List Value)). map (λ row. (e.0, row)) e.1) us)
    (row_named ns u.0 u.1 (f u.0 (or_left (u.0 == u.0) (contains (map (λ e. e.0) us) u.0) (same_number u.0))))
    (all_named_in ns us (λ n e. f n (or_right (u.0 == n) (contains (map (λ e. e.0) us) n) e)))

-- the counts that are answered are of the READ's uses, in order
counts_named : (c : CopyRows) (uses : List Use)
    → map (λ (n : ℕ × ℕ). n.0) (map (λ (e : ℕ × List (List Value)). (e.0, length e.1))
    (map (λ (u : Use). (u.number, rows_for c u)) uses)) ≡ map (λ (u : Use). u.number) uses
counts_named c [] = refl
counts_named c (u ∷ uses) = ap (λ l. u.number ∷ l) (counts_named c uses)

uses_named : (c : CopyRows) (uses : List Use)
    → map (λ (e : ℕ × List (List Value)). e.0) (map (λ (u : Use). (u.number, rows_for c u)) uses) ≡ map (λ (u : Use). u.number) uses
uses_named c [] = refl
uses_named c (u ∷ uses) = ap (λ l. u.number ∷ l) (uses_named c uses)

-- an answer to rows is of the question
may_reply : (ts : ℕ) (ns : List ℕ) (f : Option Frozen) (q m : Msg) → reply f q ≡ Some m
    → (is_a_ship q ≡ true → AreHeldFor ts ns f) → Replies ns q m
may_reply ts ns f q m e h = grind (arith, all_named_in)

pub tells_in_turn : (s : Setting) (ts c : ℕ) (at : Site) (log : Log) (act : Act) → IsHomeOf s c at → IsDataStep s log act → HasTurnAt ts c at log
    → ((ns : List ℕ) → is_exchanging (turn_with ts c at log) ≡ true → uses_held
    (turn_with ts c at log) ≡ Some ns → AreHeldFor ts ns (frozen s c log))
    → IsReplyInTurn (turn_with ts c at log) (answers ts c (to_site at (sends_of_act act)))
tells_in_turn s ts c at log act home i h held = data_step_way s log act
    (λ x. IsReplyInTurn (turn_with ts c at log) (answers ts c (to_site at (sends_of_act x))))
    (λ k txn attempt. inl refl)
    (λ k o m e r. one_reply (turn_with ts c at log) _ (same_site at o.from) (is_answer ts c m) m (answers_one ts c (same_site at o.from) m)
    (λ x.
    let q : asks_rows ts c o.msg ≡ true = sym (reply_answers ts c (frozen s k log) o.msg m r) ∙ x in
    let w = asked_rows ts c at log (turn_with ts c at log) k o h e q in
    let of : is_asked_of k o ≡ true = (in_filtered (is_asked_of k) (opens log) 0 o (first_there (filter (is_asked_of k) (opens log)) o e)).0 in
    let same : k ≡ c = ((grind (arith, eqb-true, and_right))) in
    let no_read : is_a_read o.msg ≡ false = asks_no_a_read ts c o.msg q in
    subst (λ v. MayAnswer v m) (sym w.is) (may_reply ts w.uses (frozen s k log) o.msg m r
    (grind (arith, AreHeldFor, frozen, is_exchanging, turn_with, held_now)))))
    (λ k t j txn attempt conds uses l e. one_reply (turn_with ts c at log) _
    (same_site at (source_of (home_of s) k)) (is_answer ts c (Ready t j (ready_counts s log t.0 uses))) (Ready t j (ready_counts s log t.0 uses))
    (answers_one ts c (same_site at (source_of (home_of s) k)) (Ready t j (ready_counts s log t.0 uses)))
    (λ x.
    let w = read_next ts c at log k (turn_with ts c at log) (Read t j txn attempt conds uses) h e (head_through k log _ e) x in
    subst (λ v. MayAnswer v (Ready t j (ready_counts s log t.0 uses))) (sym w.is)
    (counts_named (copies (dated_in (view_of s log))) uses ∙ ((subst (IsOwn ts c) w.is h.own).1))))
    (λ k t j txn attempt conds uses by write l e. one_reply (turn_with ts c at log) _
    (same_site at (source_of (home_of s) k)) (is_answer ts c (Reject t j by write)) (Reject t j by write)
    (answers_one ts c (same_site at (source_of (home_of s) k)) (Reject t j by write))
    (λ x.
    let w = read_next ts c at log k (turn_with ts c at log) (Read t j txn attempt conds uses) h e (head_through k log _ e) x in
    subst (λ v. MayAnswer v (Reject t j by write)) (sym w.is) tt)) (λ k txn attempt ds. inl (asks_no_answer ts c at (ask_for (home_of s)) ds (λ d. refl)))
    (λ k t j txn changes e. inl (done_no_answer ts c at k t)) (λ k j time e. inl refl) i

-- rows stay held

abbrev kept_rows : ℕ × List (List Value) → ℕ → List Value → ℕ × List (List Value)
kept_rows e col vs = (e.0, filter (λ row. is_among vs (column row col)) e.1)

reduced_uses : (n col : ℕ) (vs : List Value) (us : List (ℕ × List (List Value)))
    → map (λ (e : ℕ × List (List Value)). e.0) (map (λ (e : ℕ × List (List Value)). if e.0 ==
    n then (e.0, filter (λ row. is_among vs (column row col)) e.1) else e) us) ≡ map (λ (e : ℕ × List (List Value)). e.0) us
reduced_uses n col vs [] = refl
reduced_uses n col vs (u ∷ us) = grind (arith, kept_rows, (reduced_uses n col vs us))

handed_held : (ts c : ℕ) (ns : List ℕ) (m : Msg) (f : Option Frozen) → AreHeldFor ts ns f → AreHeldFor ts ns (frozen_handed c m f)
handed_held ts c ns m f h = grind (arith, if_way, AreHeldFor, reduced_uses)

abbrev pub IsHeldAt : Setting → ℕ → ℕ → Site → Log → Type 0
IsHeldAt s ts c at log = (ns : List ℕ) → uses_held (turn_with ts c at log) ≡ Some ns → AreHeldFor ts ns (frozen s c log)

pub held_hand : (s : Setting) (ts c : ℕ) (at : Site) (log : Log) (from : Site) (m : Msg)
    → (is_question ts c m ≡ true → MayAsk (turn_with ts c at log) m) → IsHeldAt s ts c at log → IsHeldAt s ts c at (Handed from m ∷ log)
held_hand s ts c at log from m timely h ns e =
    handed_held ts c ns m (frozen s c log) (grind (arith, same_site, is_question, turn_with, and_right, uses_held, asked_turn))

-- an act of the module

gives_up : ℕ → Msg → Bool
gives_up c (Rows t k rows) = k.0 == c
gives_up c _ = false

given_is : (c : ℕ) (m : Msg) (f : Option Frozen) → given_up c m f ≡ (if gives_up c m then None else f)
unfolding gives_up
given_is c m f = grind arith

-- ROWS answer the SHIP of an attempt
gave_up : (c : ℕ) (f : Option Frozen) (q m : Msg) → reply f q ≡ Some m → gives_up c m ≡ true
    → (t : ℕ) × (asks_rows t c q ≡ true) × (is_a_ship q ≡ true)
unfolding gives_up
gave_up c f (Ship t k) m e g =
    let p : Rows t k (all_held f) ≡ m = cc in
    let z : (k.0 == c) ≡ true = ap (gives_up c) p ∙ g in
    (t.0, both (t.0 == t.0) (k.0 == c) (same_number t.0) z, refl)
gave_up c f q m e g = grind (arith, gives_up, rows_held)

abbrev asks_a_read : Turn → Bool
asks_a_read (Asks ns m) = is_a_read m
asks_a_read _ = false

-- what is known of all attempts of the class at the module: but for this one none has a FETCH, REDUCE or SHIP without an
-- answer, and no READ of another is next while rows are held for it
pub record IsAlone (s : Setting) (ts c : ℕ) (at : Site) (log : Log) : Type 0 where
  pub has : (t : ℕ) → HasTurnAt t c at log
  pub only : (ns : List ℕ) → uses_held (turn_with ts c at log) ≡ Some ns → (t : ℕ) → is_exchanging (turn_with t c at log) ≡ true → t ≡ ts
  pub no_read : (ns : List ℕ) → uses_held (turn_with ts c at log) ≡ Some ns → (m : Msg)
      → head (pipe c log) ≡ Some m → is_a_read m ≡ true → is_read ts c m ≡ true

-- an act that leaves the turn and what is frozen
held_still : (s : Setting) (ts c : ℕ) (at : Site) (log : Log) (act : Act) → turn_with ts c at (Did act ∷ log) ≡ turn_with ts c at log
    → frozen s c (Did act ∷ log) ≡ frozen s c log → IsHeldAt s ts c at log → IsHeldAt s ts c at (Did act ∷ log)
held_still s ts c at log act e f h ns z = subst (AreHeldFor ts ns) (sym f) (h ns (ap uses_held (sym e) ∙ z))

held_replies : (s : Setting) (ts c : ℕ) (at : Site) (log : Log) (k : ℕ) (o : Open) (m : Msg) → IsAlone s ts c at log
    → head_of (filter (is_asked_of k) (opens log)) ≡ Some o → reply (frozen s k log) o.msg ≡ Some m → IsHeldAt s ts c at log
    → IsHeldAt s ts c at (Did (Sends o.from m (Some o.hand)) ∷ log)
held_replies s ts c at log k o m alone e r h ns z =
    let v : Turn = turn_with ts c at log in
    let now : uses_held (if same_site at o.from && is_answer ts c m then turn_after_answer m v else v) ≡ Some ns =
    ap uses_held (sym (turn_after_hand ts c at o.from m (Some o.hand) log)) ∙ z in
    let before : uses_held v ≡ Some ns =
    elim (same_site at o.from && is_answer ts c m) as (λ b. (same_site at o.from && is_answer ts c m) ≡ b
    → uses_held (if b then turn_after_answer m v else v) ≡ Some ns → uses_held v ≡ Some ns) [
      | true ↦ λ b x.
          (let q : asks_rows ts c o.msg ≡ true = sym (reply_answers ts c (frozen s k log) o.msg m r)
          ∙ and_right (same_site at o.from) (is_answer ts c m) b in
          let u = asked_rows ts c at log v k o (alone.has ts) e q in
          (grind (arith)))
      | false ↦ λ b x. x
    ] refl now in
    elim (gives_up c m) as (λ b. gives_up c m ≡ b → AreHeldFor ts ns (frozen s c (Did (Sends o.from m (Some o.hand)) ∷ log))) [
      | true ↦ λ g.
          (let y = gave_up c (frozen s k log) o.msg m r g in
          let w = asked_rows y.0 c at log (turn_with y.0 c at log) k o (alone.has y.0) e y.1 in
          let same : y.0 ≡ ts = alone.only ns before y.0 (ap is_exchanging w.is ∙ ap not (asks_no_a_read y.0 c o.msg y.1)) in
          let q : asks_rows ts c o.msg ≡ true = subst (λ t. asks_rows t c o.msg ≡ true) same y.1 in
          let u = asked_rows ts c at log v k o (alone.has ts) e q in
          let here : same_site at o.from ≡ true = subst (λ x. same_site at x ≡ true) (sym u.from_is) (site_self at) in
          let held_then : uses_held (turn_after_answer m v) ≡ Some ns =
          subst (λ (b : Bool). uses_held (if b then turn_after_answer m v else v) ≡ Some ns)
          (both (same_site at o.from) (is_answer ts c m) here (reply_answers ts c (frozen s k log) o.msg m r ∙ q)) now in
          absurd (grind (arith, turn_is_replied)))
      | false ↦ grind (arith, AreHeldFor, given_is, frozen)
    ] refl

-- a record that freezes nothing
same_frozen : (s : Setting) (c k : ℕ) (log : Log) (r : Rec) (sends : List (Site × Msg)) → is_answer_record r ≡ false
    → frozen s c (Did (Records k r sends) ∷ log) ≡ frozen s c log
same_frozen s c k log r sends e = grind (arith, and_no)

-- the READ of the attempt is answered, or one of another
held_answers : (s : Setting) (ts c : ℕ) (at : Site) (log : Log) (k : ℕ) (t : Ts) (j : ClassNo) (txn : TxnNo) (attempt : ℕ) (conds : List Cond) (uses : List Use)
    → IsHomeOf s c at → IsAlone s ts c at log → IsClassHere s k → head (pipe k log) ≡ Some
    (Read t j txn attempt conds uses) → IsHeldAt s ts c at log
    → IsHeldAt s ts c at (Did
    (Records k (Answer txn attempt (home_of s).dm)
    ((source_of (home_of s) k, Ready t j (ready_counts s log t.0 uses)) ∷ [])) ∷ log)
held_answers s ts c at log k t j txn attempt conds uses home alone l e h ns z =
    let v : Turn = turn_with ts c at log in
    let m : Msg = Read t j txn attempt conds uses in
    let x : Msg = Ready t j (ready_counts s log t.0 uses) in
    let src : Site = source_of (home_of s) k in
    let act : Act = Records k (Answer txn attempt (home_of s).dm) ((src, x) ∷ []) in
    let now : uses_held (if same_site at src && is_read ts c m then turn_after_answer x v else v) ≡ Some ns =
    ap uses_held (sym (turn_after_one ts c (same_site at src) x v)) ∙ z in
    elim (is_read ts c m) as (λ b. is_read ts c m ≡ b → AreHeldFor ts ns (frozen s c (Did act ∷ log))) [
      | true ↦ λ q.
          (let w = read_next ts c at log k v m (alone.has ts) e (head_through k log m e) q in
          let there : src ≡ at = subst (λ n. source_of (home_of s) n ≡ at) (sym w.class_is) (home (subst (IsClassHere s) w.class_is l)) in
          let here : same_site at src ≡ true = subst (λ y. same_site at y ≡ true) (sym there) (site_self at) in
          let held_then : uses_held (turn_after_answer x v) ≡ Some ns =
          subst (λ (b : Bool). uses_held (if b then turn_after_answer x v else v) ≡ Some ns) (both (same_site at src) (is_read ts c m) here q) now in
          let same : w.uses ≡ ns = (cc) in
          let own : uses_by m w.uses ≡ w.uses = ((subst (IsOwn ts c) w.is ((alone.has ts).own)).1) in
          let rows : frozen s c (Did act ∷ log) ≡ frozen_at (dated s log) (Some m) =
          subst (λ n. frozen s n (Did act ∷ log) ≡ frozen_at (dated s log) (Some m)) w.class_is
          (grind (arith, same_number)) in
          subst (AreHeldFor ts ns) (sym rows) (eqb-true t.0 ts (and_left (t.0 == ts) (j.0 == c) q), uses_named (copies (dated s log)) uses ∙ own ∙ same))
      | false ↦ λ q.
          (let before : uses_held v ≡ Some ns =
          subst (λ (b : Bool). uses_held (if b then turn_after_answer x v else v) ≡ Some ns)
          (ap (λ b. same_site at src && b) q ∙ and_no (same_site at src)) now in
          elim (same_or_not k c) [
            | inl p ↦ never (is_read ts c m) (alone.no_read ns before m (subst (λ n. head (pipe n log) ≡ Some m) p e) refl) q
            | inr p ↦ subst (AreHeldFor ts ns)
                (sym (ap (λ (b : Bool). if b && is_answer_record (Answer txn attempt (home_of s).dm) then frozen_at
                (dated s log) (head (pipe c log)) else frozen s c log) p)) (h ns before)
          ])
    ] refl

-- or rejected
held_refuses : (s : Setting) (ts c : ℕ) (at : Site) (log : Log) (k : ℕ) (t : Ts) (j : ClassNo) (txn : TxnNo)
    (attempt : ℕ) (conds : List Cond) (uses : List Use) (by : ClassNo) (write : Ts)
    → IsHomeOf s c at → IsAlone s ts c at log → IsClassHere s k → head (pipe k log) ≡ Some
    (Read t j txn attempt conds uses) → IsHeldAt s ts c at log
    → IsHeldAt s ts c at (Did (Records k (Rejected txn attempt (home_of s).dm by write) ((source_of (home_of s) k, Reject t j by write) ∷ [])) ∷ log)
held_refuses s ts c at log k t j txn attempt conds uses by write home alone l e h ns z =
    let v : Turn = turn_with ts c at log in
    let m : Msg = Read t j txn attempt conds uses in
    let x : Msg = Reject t j by write in
    let src : Site = source_of (home_of s) k in
    let act : Act = Records k (Rejected txn attempt (home_of s).dm by write) ((src, x) ∷ []) in
    let now : uses_held (if same_site at src && is_read ts c m then turn_after_answer x v else v) ≡ Some ns =
    ap uses_held (sym (turn_after_one ts c (same_site at src) x v)) ∙ z in
    elim (is_read ts c m) as (λ b. is_read ts c m ≡ b → AreHeldFor ts ns (frozen s c (Did act ∷ log))) [
      | true ↦ λ q.
          (let w = read_next ts c at log k v m (alone.has ts) e (head_through k log m e) q in
          let there : src ≡ at = subst (λ n. source_of (home_of s) n ≡ at) (sym w.class_is) (home (subst (IsClassHere s) w.class_is l)) in
          let here : same_site at src ≡ true = subst (λ y. same_site at y ≡ true) (sym there) (site_self at) in
          let held_then : uses_held (turn_after_answer x v) ≡ Some ns =
          subst (λ (b : Bool). uses_held (if b then turn_after_answer x v else v) ≡ Some ns) (both (same_site at src) (is_read ts c m) here q) now in
          let none : ◌≡◌ {A = Option (List ℕ)} None (Some ns) = sym (ap (λ y. uses_held (turn_after_answer x y)) w.is) ∙ held_then in cc)
      | false ↦ grind (arith, uses_held, turn_after_answer, same_site, and_no, AreHeldFor, same_frozen, home_of)
    ] refl

pub held_act : (s : Setting) (ts c : ℕ) (at : Site) (log : Log) (act : Act) → IsHomeOf s c at → IsDataStep s log act → IsAlone s ts c at log
    → IsHeldAt s ts c at log → IsHeldAt s ts c at (Did act ∷ log)
held_act s ts c at log act home i alone h = data_step_way s log act (λ x. IsHeldAt s ts c at (Did x ∷ log))
    (λ k txn attempt. held_still s ts c at log (Records k (Arrive txn attempt (home_of s).dm) []) refl
    (same_frozen s c k log (Arrive txn attempt (home_of s).dm) [] refl) h) (λ k o m e r. held_replies s ts c at log k o m alone e r h)
    (λ k t j txn attempt conds uses l e. held_answers s ts c at log k t j txn attempt conds uses home alone l e h)
    (λ k t j txn attempt conds uses by write l e. held_refuses s ts c at log k t j txn attempt conds uses by write home alone l e h)
    (λ k txn attempt ds. held_still s ts c at log (Records k (Wait txn attempt (home_of s).dm ds) (map (ask_for (home_of s)) ds))
    (ap (λ l. turn_after_answers l (turn_with ts c at log)) (asks_no_answer ts c at (ask_for (home_of s)) ds
    (λ d. refl))) (same_frozen s c k log (Wait txn attempt (home_of s).dm ds) (map (ask_for (home_of s)) ds) refl) h)
    (grind (arith, held_still, home_of, done_for, turn_after_answers, turn_with, done_no_answer, same_frozen))
    (λ k j time e. held_still s ts c at log (Records k (Pass j (home_of s).dm time) []) refl (same_frozen s c k log (Pass j (home_of s).dm time) [] refl) h) i
