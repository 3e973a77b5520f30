-- How an exchange stands with one of the data modules, by the turn, and that each of its steps keeps that.
use Rattle.sdd_obligations.proofs.All.{Asking, Asks, Bool, Exchange, Fetch, Fetching, IsOfUses, IsStrict, List, Move, Msg, None, Over, Phase, Reading, Ready, Reduce, Reduced, Reducing, Replied, Rows, Ship, Shipping, Silent, Some, Step, Turn, Values, [], after_hand, answered, ap, arith, class_no, contains, counted, counts_for, false, fetches, fetches_from, goes_on, if◌then◌else◌, inl, inr, is_a_read, is_a_refusal, is_a_ship, is_answer, length, move_at, never, next_move, on_answer, phase_ends, reduces, refl, same_number, ships, subst, sym, time_at, to_all, true, uses_at, with_use, with_values, without, ℕ, ◌&&◌, ◌++◌, ◌+◌, ◌==◌, ◌∙◌, ◌∷◌, ◌≡◌, ◌⊎◌}
use Rattle.sdd_obligations.proofs.Modules.{firsts, one_to_each, reading_ascends, reading_reads, to_module, without_other, without_own}

-- the phase awaits the answer to a question

abbrev pub is_fetch_of : ℕ → Msg → Bool
is_fetch_of n (Fetch t k u col) = n == u
is_fetch_of n _ = false

abbrev pub is_reduce_of : ℕ → Msg → Bool
is_reduce_of n (Reduce t k u col values) = n == u
is_reduce_of n _ = false

abbrev pub awaits : Phase → Msg → Bool
awaits Reading m = is_a_read m
awaits (Fetching v) m = is_fetch_of v.source.part m
awaits (Reducing v) m = is_reduce_of v.target.part m
awaits Shipping m = is_a_ship m
awaits Over m = false

abbrev pub is_last : Phase → Bool
is_last Shipping = true
is_last Over = true
is_last _ = false

-- A question to module d is still to be sent; it is awaited; the last one is answered; or nothing is read there.
pub data IsAt (d : ℕ) (ms : List (ℕ × List ℕ)) (p : Phase) (sends : List (ℕ × Msg)) (lacks : List ℕ) (v : Turn) : Type 0 where
  unsent : (m q : Msg) (ns : List ℕ) → to_module d sends ≡ m ∷ [] → contains lacks d ≡ true → v ≡ Replied ns q → is_a_ship q ≡ false
      → IsOfUses ns m → awaits p m ≡ true → uses_at ms d ≡ ns → contains (firsts ms) d ≡ true → IsAt d ms p sends lacks v
  awaited : (m : Msg) (ns : List ℕ) → to_module d sends ≡ [] → contains lacks d ≡ true → v ≡ Asks ns m → awaits p m ≡ true
      → uses_at ms d ≡ ns → contains (firsts ms) d ≡ true → IsAt d ms p sends lacks v
  answered_last : (q : Msg) (ns : List ℕ) → to_module d sends ≡ [] → contains lacks d ≡ false → v ≡ Replied ns q
      → (is_a_ship q ≡ false) ⊎ (is_last p ≡ true) → uses_at ms d ≡ ns → contains (firsts ms) d ≡ true → IsAt d ms p sends lacks v
  apart : to_module d sends ≡ [] → contains lacks d ≡ false → v ≡ Silent → contains (firsts ms) d ≡ false → IsAt d ms p sends lacks v

abbrev pub IsAtTurn : ℕ → Exchange → Turn → Type 0
IsAtTurn d x v = IsAt d x.modules x.phase x.to_send x.lacks v

-- nothing is under way with the module
pub data IsIdle (d : ℕ) (ms : List (ℕ × List ℕ)) (v : Turn) : Type 0 where
  heard : (q : Msg) (ns : List ℕ) → v ≡ Replied ns q → is_a_ship q ≡ false → uses_at ms d ≡ ns → contains (firsts ms) d ≡ true → IsIdle d ms v
  unread : v ≡ Silent → contains (firsts ms) d ≡ false → IsIdle d ms v

in_none : {A : Type 0} (lacks : List ℕ) (d : ℕ) → lacks ≡ [] → contains lacks d ≡ true → A
in_none lacks d e f = let g : contains [] d ≡ true = subst (λ l. contains l d ≡ true) e f in cc

idle_of : (d : ℕ) (ms : List (ℕ × List ℕ)) (p : Phase) (sends : List (ℕ × Msg)) (lacks : List ℕ) (v : Turn) → lacks ≡ []
    → is_last p ≡ false → IsAt d ms p sends lacks v → IsIdle d ms v
idle_of d ms p sends lacks v z l (unsent m q ns a b e s u w f g) = in_none lacks d z b
idle_of d ms p sends lacks v z l (awaited m ns a b e w f g) = in_none lacks d z b
idle_of d ms p sends lacks v z l (answered_last q ns a b e s f g) = heard q ns e (grind (arith, never)) f g
idle_of d ms p sends lacks v z l (apart a b e g) = unread e g

-- a question goes to some of the modules
ask_all : (d : ℕ) (ms : List (ℕ × List ℕ)) (p : Phase) (m : Msg) (dms : List ℕ) (v : Turn) → IsStrict dms → awaits p m ≡ true
    → (contains dms d ≡ true → (contains (firsts ms) d ≡ true) × IsOfUses (uses_at ms d) m) → IsIdle d ms v → IsAt d ms p (to_all m dms) dms v
ask_all d ms p m dms v h w f (heard q ns e s u g) =
    elim (contains dms d) as (λ b. contains dms d ≡ b → IsAt d ms p (to_all m dms) dms v) [
      | true ↦ λ b. unsent m q ns (one_to_each m dms d h ∙ ap (λ (c : Bool). if c then m ∷ [] else []) b) b e s (subst (λ l. IsOfUses l m) u (f b).1) w u g
      | false ↦ λ b. answered_last q ns (one_to_each m dms d h ∙ ap (λ (c : Bool). if c then m ∷ [] else []) b) b e (inl s) u g
    ] refl
ask_all d ms p m dms v h w f (unread e g) = grind (arith, IsAt, never, firsts, one_to_each)

-- the next phase

to_reduce : (ts c d : ℕ) (m : Move) (x : Exchange) (v : Turn) → IsStrict (firsts x.modules) → IsIdle d x.modules v → IsAtTurn d (reduces ts c m x) v
to_reduce ts c d m x v h i =
    ask_all d x.modules (Reducing m) (Reduce (time_at ts) (class_no c) m.target.part m.target.column x.union) (with_use x m.target.part) v
    (reading_ascends x.modules m.target.part h) (same_number m.target.part) (λ e. reading_reads x.modules m.target.part d e) i

to_fetch_from : (ts c d : ℕ) (m : Move) (x : Exchange) (dms : List ℕ) (v : Turn) → with_use x m.source.part ≡ dms
    → IsStrict (firsts x.modules) → IsIdle d x.modules v → IsAtTurn d (fetches_from ts c m x dms) v
to_fetch_from ts c d m x [] v e h i = to_reduce ts c d m (record x { union = [] }) v h i
to_fetch_from ts c d m x (y ∷ dms) v e h i =
    ask_all d x.modules (Fetching m) (Fetch (time_at ts) (class_no c) m.source.part m.source.column) (y ∷ dms) v
    (subst IsStrict e (reading_ascends x.modules m.source.part h)) (same_number m.source.part)
    (λ b. reading_reads x.modules m.source.part d (subst (λ l. contains l d ≡ true) (sym e) b)) i

to_ship : (ts c d : ℕ) (x : Exchange) (v : Turn) → IsStrict (firsts x.modules) → IsIdle d x.modules v → IsAtTurn d (ships ts c x) v
to_ship ts c d x v h i = ask_all d x.modules Shipping (Ship (time_at ts) (class_no c)) (firsts x.modules) v h refl (λ e. (e, tt)) i

to_next : (ts c d : ℕ) (x : Exchange) (qs : List Asking) (done : List Step) (v : Turn) → IsStrict (firsts x.modules)
    → IsIdle d x.modules v → IsAtTurn d (goes_on ts c x qs done) v
to_next ts c d x [] done v h i = to_ship ts c d x v h i
to_next ts c d x (q ∷ rest) done v h i =
    elim (next_move q.conds (counts_for x.counts q) done) as (λ o. IsAtTurn d
    (elim o as (λ _. Exchange) [
      | None ↦ goes_on ts c x rest []
      | Some m ↦ fetches ts c (move_at q.before m) (record x { left = q ∷ rest; done = done ++ m.step ∷ [] })
    ]) v) [
      | None ↦ to_next ts c d x rest [] v h i
      | Some m ↦ to_fetch_from ts c d (move_at q.before m) (record x {
        left = q ∷ rest;
        done = done ++ m.step ∷ [];
      }) (with_use x (move_at q.before m).source.part) v refl h i
    ]

over_at : (d : ℕ) (ms : List (ℕ × List ℕ)) (sends : List (ℕ × Msg)) (lacks : List ℕ) (v : Turn) → lacks ≡ []
    → IsAt d ms Shipping sends lacks v → IsAt d ms Over sends lacks v
over_at d ms sends lacks v z (unsent m q ns a b e s u w f g) = in_none lacks d z b
over_at d ms sends lacks v z (awaited m ns a b e w f g) = in_none lacks d z b
over_at d ms sends lacks v z (answered_last q ns a b e s f g) = answered_last q ns a b e (inr refl) f g
over_at d ms sends lacks v z (apart a b e g) = apart a b e g

ended_at : (ts c d : ℕ) (x : Exchange) (p : Phase) (v : Turn) → IsStrict (firsts x.modules) → x.lacks ≡ []
    → IsAt d x.modules p x.to_send x.lacks v → x.phase ≡ p → IsAtTurn d (phase_ends ts c x p) v
ended_at ts c d x (Fetching m) v h z i e = to_reduce ts c d m x v h (idle_of d x.modules (Fetching m) x.to_send x.lacks v z refl i)
ended_at ts c d x Shipping v h z i e = over_at d x.modules x.to_send x.lacks v z i
ended_at ts c d x Over v h z i e = subst (λ p. IsAt d x.modules p x.to_send x.lacks v) (sym e) i
ended_at ts c d x y v h z i e = to_next ts c d x x.left x.done v h (idle_of d x.modules y x.to_send x.lacks v z refl i)

-- an answer came

-- the turn of module d, v before and w after an answer of module n
abbrev pub IsNext : ℕ → ℕ → Turn → Turn → Type 0
IsNext n d v w = ((d ≡ n) × (ns : List ℕ) × (q : Msg) × (v ≡ Asks ns q) × (w ≡ Replied ns q)) ⊎ (((d == n) ≡ false) × (w ≡ v))

pub read_no_ship : (m : Msg) → is_a_read m ≡ true → is_a_ship m ≡ false
read_no_ship m e = grind arith

pub replied_not_asks : {A : Type 0} (v : Turn) (ns ms : List ℕ) (q m : Msg) → v ≡ Replied ns q → v ≡ Asks ms m → A
replied_not_asks v ns ms q m e f = let p : Replied ns q ≡ Asks ms m = sym e ∙ f in cc

pub silent_not_asks : {A : Type 0} (v : Turn) (ms : List ℕ) (m : Msg) → v ≡ Silent → v ≡ Asks ms m → A
silent_not_asks v ms m e f = let p : Silent ≡ Asks ms m = sym e ∙ f in cc

less_at : (n d : ℕ) (ms : List (ℕ × List ℕ)) (p : Phase) (sends : List (ℕ × Msg)) (lacks : List ℕ) (v w : Turn) → IsNext n d v w
    → IsAt d ms p sends lacks v → IsAt d ms p sends (without lacks n) w
less_at n d ms p sends lacks v w (inl r) (unsent m q ns a b e s u x f g) = replied_not_asks v ns r.1 q r.2 e r.3
less_at n d ms p sends lacks v w (inl r) (awaited m ns a b e x f g) =
    let both : Asks ns m ≡ Asks r.1 r.2 = sym e ∙ r.3 in
    let same_uses : ns ≡ r.1 = cc in
    let same_question : m ≡ r.2 = cc in
    answered_last r.2 r.1 a (grind (arith, contains, without, without_own)) r.4 (grind (arith, read_no_ship)) (f ∙ same_uses) g
less_at n d ms p sends lacks v w (inl r) (answered_last q ns a b e s f g) = replied_not_asks v ns r.1 q r.2 e r.3
less_at n d ms p sends lacks v w (inl r) (apart a b e g) = silent_not_asks v r.1 r.2 e r.3
less_at n d ms p sends lacks v w (inr r) (unsent m q ns a b e s u x f g) = unsent m q ns a (without_other lacks n d r.0 ∙ b) (r.1 ∙ e) s u x f g
less_at n d ms p sends lacks v w (inr r) (awaited m ns a b e x f g) = awaited m ns a (without_other lacks n d r.0 ∙ b) (r.1 ∙ e) x f g
less_at n d ms p sends lacks v w (inr r) (answered_last q ns a b e s f g) = answered_last q ns a (without_other lacks n d r.0 ∙ b) (r.1 ∙ e) s f g
less_at n d ms p sends lacks v w (inr r) (apart a b e g) = apart a (without_other lacks n d r.0 ∙ b) (r.1 ∙ e) g

on_answer_at : (ts c d : ℕ) (x : Exchange) (dms : List ℕ) (w : Turn) → IsStrict (firsts x.modules)
    → IsAt d x.modules x.phase x.to_send dms w → IsAtTurn d (on_answer ts c x dms) w
on_answer_at ts c d x [] w h i = ended_at ts c d (record x { lacks = [] }) x.phase w h refl i refl
on_answer_at ts c d x (y ∷ dms) w h i = i

answered_at : (ts c n d : ℕ) (x : Exchange) (v w : Turn) → IsStrict (firsts x.modules) → IsNext n d v w → IsAtTurn d x v → IsAtTurn d (answered ts c n x) w
answered_at ts c n d x v w h r i = on_answer_at ts c d x (without x.lacks n) w h (less_at n d x.modules x.phase x.to_send x.lacks v w r i)

answered_if : (ts c n d : ℕ) (b : Bool) (x y : Exchange) (v w : Turn) → b ≡ true → IsStrict (firsts y.modules) → IsNext n d v w
    → IsAtTurn d y v → IsAtTurn d (if b then answered ts c n y else x) w
answered_if ts c n d true x y v w e h r i = answered_at ts c n d y v w h r i
answered_if ts c n d false x y v w e h r i = cc

-- an answer of module n to the attempt, other than a rejection
pub hand_at : (ts c n d : ℕ) (x : Exchange) (v w : Turn) (m : Msg) → IsStrict (firsts x.modules) → is_answer ts c m ≡ true
    → is_a_refusal m ≡ false → IsNext n d v w → IsAtTurn d x v → IsAtTurn d (after_hand ts c n m x) w
hand_at ts c n d x v w (Ready t k counts) h e f r i =
    answered_if ts c n d ((t.0 == ts) && (k.0 == c)) x (record x { counts = counted n counts x.counts }) v w e h r i
hand_at ts c n d x v w (Values t k u vs) h e f r i =
    answered_if ts c n d ((t.0 == ts) && (k.0 == c)) x (record x { union = with_values x.union vs; values = x.values + length vs }) v w e h r i
hand_at ts c n d x v w (Reduced t k u y) h e f r i =
    answered_if ts c n d ((t.0 == ts) && (k.0 == c)) x (record x { counts = counted n ((u, y) ∷ []) x.counts }) v w e h r i
hand_at ts c n d x v w (Rows t k rows) h e f r i =
    answered_if ts c n d ((t.0 == ts) && (k.0 == c)) x (record x { found = x.found ++ rows; rows = x.rows + length rows }) v w e h r i
hand_at ts c n d x v w _ h e f r i = cc

-- what is no answer to the attempt leaves its exchange
pub hand_not : (ts c n : ℕ) (x : Exchange) (m : Msg) → is_answer ts c m ≡ false → after_hand ts c n m x ≡ x
hand_not ts c n x m e = grind (arith)
