-- The rows that came to an exchange are those that the modules hold.
use Rattle.sdd_obligations.proofs.All.{Asking, AwaitsNoValues, Bool, ClassNo, Exchange, Fetch, Fetching, Follows, Frozen, Has, Has-append, Has-left, Has-right, KeepsOnce, List, Move, Msg, None, Over, Phase, Read, Reading, Ready, Reduce, Reduced, Reducing, Replies, Row, Rows, Ship, Shipping, Some, Space, Step, Stmt, Tells, TellsAll, Ts, Value, Values, [], after_hand, after_send, all_rows, answered, ap, arith, contains, counted, counts_for, eqb-true, false, fetches, fetches_from, follows_hand, follows_send, goes_on, if◌then◌else◌, inl, inr, is_a_read, is_a_refusal, is_a_ship, is_answer, is_shipped, lack_modules, length, move_at, never, next_move, on_answer, phase_ends, question, question_of, refl, rows_of, subst, sym, tells_all, true, true_or_false, values_in, with_use, with_values, without, ℕ, ◌&&◌, ◌++◌, ◌+◌, ◌==◌, ◌∙◌, ◌∷◌, ◌≡◌}
use Rattle.sdd_obligations.proofs.AtTurn.{awaits}
use Rattle.sdd_obligations.proofs.Modules.{firsts, without_other}

-- which question a phase awaits

abbrev pub is_a_fetch : Msg → Bool
is_a_fetch (Fetch t k u col) = true
is_a_fetch _ = false

no_values : (p : Phase) (q : Msg) → awaits p q ≡ true → is_a_fetch q ≡ false → AwaitsNoValues p
no_values (Fetching v) (Fetch t k u col) a e = cc
no_values (Fetching v) q a e = cc
no_values _ q a e = tt

not_shipping : (p : Phase) (q : Msg) → awaits p q ≡ true → is_a_ship q ≡ false → is_shipped p ≡ false
not_shipping Shipping q a e = never (is_a_ship q) a e
not_shipping Over q a e = cc
not_shipping _ q a e = refl

pub shipping_is : (p : Phase) (q : Msg) → awaits p q ≡ true → is_a_ship q ≡ true → p ≡ Shipping
shipping_is Shipping q a e = refl
shipping_is p q a e = grind arith

fetching_is : (p : Phase) (q : Msg) → awaits p q ≡ true → is_a_fetch q ≡ true → (v : Move) × (p ≡ Fetching v)
fetching_is (Fetching v) q a e = (v, refl)
fetching_is p q a e = grind arith

-- the exchange that a phase's end makes: where rows are shipped now, those of all modules lack
abbrev ShipsAll : Exchange → Type 0
ShipsAll x = is_shipped x.phase ≡ true → x.lacks ≡ firsts x.modules

fetch_ships : (ts c : ℕ) (m : Move) (x : Exchange) (dms : List ℕ) → is_shipped (fetches_from ts c m x dms).phase ≡ false
fetch_ships ts c m x [] = refl
fetch_ships ts c m x (d ∷ dms) = refl

next_ships : (ts c : ℕ) (x : Exchange) (qs : List Asking) (done : List Step) → ShipsAll (goes_on ts c x qs done)
next_ships ts c x [] done = λ e. refl
next_ships ts c x (q ∷ rest) done =
    elim (next_move q.conds (counts_for x.counts q) done) as (λ o. ShipsAll
    (elim o as (λ _. Exchange) [
      | None ↦ goes_on ts c x rest []
      | Some m ↦ fetches ts c (move_at q.before m) (record x { left = q ∷ rest; done = done ++ m.step ∷ [] })
    ])) [
      | None ↦ next_ships ts c x rest []
      | Some m ↦ λ e. never _ e (fetch_ships ts c (move_at q.before m) (record x {
        left = q ∷ rest;
        done = done ++ m.step ∷ [];
      }) (with_use x (move_at q.before m).source.part))
    ]

end_ships : (ts c : ℕ) (x : Exchange) (p : Phase) → x.phase ≡ p → is_shipped p ≡ false → ShipsAll (phase_ends ts c x p)
end_ships ts c x (Fetching m) e f = λ s. cc
end_ships ts c x p e f = grind (arith, next_ships)

lack_ships : (ts c : ℕ) (x : Exchange) (dms : List ℕ) → is_shipped x.phase ≡ false → ShipsAll (on_answer ts c x dms)
lack_ships ts c x [] f = end_ships ts c (record x { lacks = [] }) x.phase refl f
lack_ships ts c x (d ∷ dms) f = λ s. never (is_shipped x.phase) s f

-- the rows that came stay
fetch_found : (ts c : ℕ) (m : Move) (x : Exchange) (dms : List ℕ) → (fetches_from ts c m x dms).found ≡ x.found
fetch_found ts c m x [] = refl
fetch_found ts c m x (d ∷ dms) = refl

next_found : (ts c : ℕ) (x : Exchange) (qs : List Asking) (done : List Step) → (goes_on ts c x qs done).found ≡ x.found
next_found ts c x [] done = refl
next_found ts c x (q ∷ rest) done =
    elim (next_move q.conds (counts_for x.counts q) done) as (λ o.
    (elim o as (λ _. Exchange) [
      | None ↦ goes_on ts c x rest []
      | Some m ↦ fetches ts c (move_at q.before m) (record x { left = q ∷ rest; done = done ++ m.step ∷ [] })
    ]).found ≡ x.found) [
      | None ↦ next_found ts c x rest []
      | Some m ↦ fetch_found ts c (move_at q.before m) (record x { left = q ∷ rest; done = done ++ m.step ∷ [] }) (with_use x (move_at q.before m).source.part)
    ]

end_found : (ts c : ℕ) (x : Exchange) (p : Phase) → (phase_ends ts c x p).found ≡ x.found
end_found ts c x Reading = next_found ts c x x.left x.done
end_found ts c x (Reducing m) = next_found ts c x x.left x.done
end_found ts c x _ = refl

lack_found : (ts c : ℕ) (x : Exchange) (dms : List ℕ) → (on_answer ts c x dms).found ≡ x.found
lack_found ts c x [] = end_found ts c (record x { lacks = [] }) x.phase
lack_found ts c x (d ∷ dms) = refl

module _ (dms : List ℕ) (statements : List Stmt) (asked : ℕ → ℕ → Bool) (first : Space) where
  -- the exchange follows a run, and the rows that came are those of the modules that shipped theirs
  pub record Serving (space : Space) (x : Exchange) : Type 0 where
    pub follows : Follows dms statements asked first space x
    pub none : is_shipped x.phase ≡ false → x.found ≡ []
    pub of : (s : ℕ × Row) → Has x.found s → (d : ℕ) × Has dms d × Has (all_rows (space d)) s
    pub all : is_shipped x.phase ≡ true → (d : ℕ) → Has dms d → contains x.lacks d ≡ false → (s : ℕ × Row) → Has (all_rows (space d)) s → Has x.found s

  module _ (ts c n : ℕ) (space : Space) (there : Has dms n) where
    -- an answer before rows are shipped
    early : (x y : Exchange) → Serving space x → Follows dms statements asked first space (answered ts c n y)
        → is_shipped x.phase ≡ false → y.phase ≡ x.phase → y.found ≡ x.found
        → ((d : ℕ) → Has dms d → contains (firsts y.modules) d ≡ true) → Serving space (answered ts c n y)
    early x y h f idle p q within =
        let empty : (answered ts c n y).found ≡ [] = lack_found ts c y (without y.lacks n) ∙ q ∙ h.none idle in
        record {
          follows = f;
          none = λ e. empty;
          of = λ s k. absurd (subst (λ xs. Has xs s) empty k);
          all = λ e d k l s i.
              (let ships : (answered ts c n y).lacks ≡ firsts (answered ts c n y).modules = lack_ships ts c y (without y.lacks n) (ap is_shipped p ∙ idle) e in
              let lacks : contains (answered ts c n y).lacks d ≡ true =
              ap (λ ls. contains ls d) (ships ∙ ap firsts (lack_modules ts c y (without y.lacks n))) ∙ within d k in
              never (contains (answered ts c n y).lacks d) lacks l);
        }

    -- ROWS
    more_found : (x : Exchange) (rows : List (ℕ × Row)) (count : ℕ) → x.phase ≡ Shipping → rows ≡ all_rows (space n) → Serving space x
        → Follows dms statements asked first space (answered ts c n (record x { found = x.found ++ rows; rows = count }))
        → Serving space (answered ts c n (record x { found = x.found ++ rows; rows = count }))
    more_found x rows count p is h f = by (without x.lacks n) refl f
      where
        y : Exchange
        y = record x { found = x.found ++ rows; rows = count }

        from : (s : ℕ × Row) → Has (x.found ++ rows) s → (d : ℕ) × Has dms d × Has (all_rows (space d)) s
        from s k = elim (Has-append x.found rows s k) [ inl a ↦ h.of s a | inr b ↦ (n, there, subst (λ rs. Has rs s) is b) ]

        come : (ls : List ℕ) → without x.lacks n ≡ ls → (d : ℕ) → Has dms d → contains ls d ≡ false
            → (s : ℕ × Row) → Has (all_rows (space d)) s → Has (x.found ++ rows) s
        come ls e d k l s i = elim (true_or_false (d == n)) [
          | inl own ↦ Has-right x.found rows s (subst (λ rs. Has rs s) (sym is) (subst (λ m. Has (all_rows (space m)) s) (eqb-true d n own) i))
          | inr other ↦ Has-left x.found rows s (h.all (ap is_shipped p) d k (sym (without_other x.lacks n d other) ∙ ap (λ z. contains z d) e ∙ l) s i)
        ]

        by : (ls : List ℕ) → without x.lacks n ≡ ls → Follows dms statements asked first space (on_answer ts c y ls) → Serving space (on_answer ts c y ls)
        by [] e g =
            let over : phase_ends ts c (record y { lacks = [] }) x.phase ≡ record y {
              lacks = [];
              phase = Over;
            } = ap (phase_ends ts c (record y { lacks = [] })) p in
            subst (Serving space) (sym over) (record {
              follows = subst (Follows dms statements asked first space) over g;
              none = λ z. cc;
              of = from;
              all = λ z d k l s i. come [] e d k refl s i;
            })
        by (l ∷ ls) e g = record {
          follows = g;
          none = λ z. never (is_shipped x.phase) (ap is_shipped p) z;
          of = from;
          all = λ z d k o s i. come (l ∷ ls) e d k o s i;
        }

-- which question an answer replies to

ready_kind : (ns : List ℕ) (q : Msg) (t : Ts) (k : ClassNo) (counts : List (ℕ × ℕ))
    → Replies ns q (Ready t k counts) → (is_a_fetch q ≡ false) × (is_a_ship q ≡ false)
ready_kind ns (Read a b txn attempt conds uses) t k counts h = (refl, refl)
ready_kind ns _ t k counts h = absurd h

reduced_kind : (ns : List ℕ) (q : Msg) (t : Ts) (k : ClassNo) (u y : ℕ) → Replies ns q (Reduced t k u y) → (is_a_fetch q ≡ false) × (is_a_ship q ≡ false)
reduced_kind ns (Reduce a b v col vs) t k u y h = (refl, refl)
reduced_kind ns _ t k u y h = absurd h

values_kind : (ns : List ℕ) (q : Msg) (t : Ts) (k : ClassNo) (u : ℕ) (vs : List Value)
    → Replies ns q (Values t k u vs) → (is_a_fetch q ≡ true) × (is_a_ship q ≡ false) × (is_a_read q ≡ false)
values_kind ns (Fetch a b v col) t k u vs h = (refl, refl, refl)
values_kind ns _ t k u vs h = absurd h

pub rows_kind : (ns : List ℕ) (q : Msg) (t : Ts) (k : ClassNo) (rows : List (ℕ × Row))
    → Replies ns q (Rows t k rows) → (is_a_ship q ≡ true) × (is_a_read q ≡ false)
rows_kind ns (Ship a b) t k rows h = (refl, refl)
rows_kind ns _ t k rows h = absurd h

abbrev values_of : Msg → List Value
values_of (Values t k u vs) = vs
values_of _ = []

abbrev rows_of_msg : Msg → List (ℕ × Row)
rows_of_msg (Rows t k rows) = rows
rows_of_msg _ = []

replied_values : (ts c : ℕ) (x : Exchange) (q : Msg) (v : Move) (t : Ts) (k : ClassNo) (u : ℕ)
    (vs : List Value) (f : Frozen) → x.phase ≡ Fetching v → q ≡ question_of ts c x
    → Tells q (Values t k u vs) f → vs ≡ values_in (rows_of v.source.part f) v.source.column
replied_values ts c x q v t k u vs f p e h =
    let now : Tells (question ts c (Fetching v) x.union) (Values t k u vs) f =
    subst (λ z. Tells z (Values t k u vs) f) (e ∙ ap (λ ph. question ts c ph x.union) p) h in
    ap values_of now

replied_rows : (ts c : ℕ) (x : Exchange) (q : Msg) (t : Ts) (k : ClassNo) (rows : List (ℕ × Row)) (f : Frozen)
    → x.phase ≡ Shipping → q ≡ question_of ts c x → Tells q (Rows t k rows) f → rows ≡ all_rows f
replied_rows ts c x q t k rows f p e h =
    let now : Tells (question ts c Shipping x.union) (Rows t k rows) f = subst (λ z. Tells z (Rows t k rows) f) (e ∙ ap (λ ph. question ts c ph x.union) p) h in
    ap rows_of_msg now

-- an answer of module n to what the phase asks, which tells of the rows that it holds
pub record IsReply (ts c n : ℕ) (space : Space) (x : Exchange) (m : Msg) : Type 0 where
  pub uses : List ℕ
  pub question : Msg
  pub phase : awaits x.phase question ≡ true
  pub replies : Replies uses question m
  pub content : is_a_read question ≡ false → question ≡ question_of ts c x
  pub tells : is_a_read question ≡ false → Tells question m (space n)

module _ (dms : List ℕ) (statements : List Stmt) (asked : ℕ → ℕ → Bool) (first : Space) where
  abbrev Serves : Space → Exchange → Type 0
  Serves space x = Serving dms statements asked first space x

  module _ (ts c n : ℕ) (space : Space) (there : Has dms n) where
    if_own : (b : Bool) (x y : Exchange) → b ≡ true → Follows dms statements asked first space
        (if b then answered ts c n y else x) → (Follows dms statements asked first space (answered ts c n y)
        → Serves space (answered ts c n y)) → Serves space (if b then answered ts c n y else x)
    if_own true x y e f h = h f
    if_own false x y e f h = cc

    pub hand_serves : (x : Exchange) (m : Msg) → is_answer ts c m ≡ true → is_a_refusal m ≡ false → IsReply ts c n space x m → KeepsOnce (space n)
        → ((d : ℕ) → Has dms d → contains (firsts x.modules) d ≡ true) → Serves space x → Serves space (after_hand ts c n m x)
    hand_serves x (Ready t k counts) own kind r once within h =
        let q = ready_kind r.uses r.question t k counts r.replies in
        let y : Exchange = record x { counts = counted n counts x.counts } in
        if_own ((t.0 == ts) && (k.0 == c)) x y own (follows_hand dms statements asked first ts c space x n
        (Ready t k counts) h.follows (λ e. no_values x.phase r.question r.phase q.0))
        (λ f. early dms statements asked first ts c n space there x y h f (not_shipping x.phase r.question r.phase q.1) refl refl within)
    hand_serves x (Values t k u vs) own kind r once within h =
        let q = values_kind r.uses r.question t k u vs r.replies in
        let v = fetching_is x.phase r.question r.phase q.0 in
        let y : Exchange = record x { union = with_values x.union vs; values = x.values + length vs } in
        let values_are : vs ≡ values_in (rows_of v.0.source.part (space n)) v.0.source.column =
        replied_values ts c x r.question v.0 t k u vs (space n) v.1 (r.content q.2) (r.tells q.2) in
        if_own ((t.0 == ts) && (k.0 == c)) x y own
        (follows_hand dms statements asked first ts c space x n (Values t k u vs) h.follows
        (λ e. (v.0, v.1, subst (TellsAll (space n) v.0.source) (sym values_are) (tells_all (space n) once v.0.source))))
        (λ f. early dms statements asked first ts c n space there x y h f (not_shipping x.phase r.question r.phase q.1) refl refl within)
    hand_serves x (Reduced t k u z) own kind r once within h =
        let q = reduced_kind r.uses r.question t k u z r.replies in
        let y : Exchange = record x { counts = counted n ((u, z) ∷ []) x.counts } in
        if_own ((t.0 == ts) && (k.0 == c)) x y own (follows_hand dms statements asked first ts c space x n
        (Reduced t k u z) h.follows (λ e. no_values x.phase r.question r.phase q.0))
        (λ f. early dms statements asked first ts c n space there x y h f (not_shipping x.phase r.question r.phase q.1) refl refl within)
    hand_serves x (Rows t k rows) own kind r once within h =
        let q = rows_kind r.uses r.question t k rows r.replies in
        let p : x.phase ≡ Shipping = shipping_is x.phase r.question r.phase q.0 in
        let y : Exchange = record x { found = x.found ++ rows; rows = x.rows + length rows } in
        if_own ((t.0 == ts) && (k.0 == c)) x y own (follows_hand dms statements asked first ts c space x n
        (Rows t k rows) h.follows (λ e. subst AwaitsNoValues (sym p) tt))
        (λ f. more_found dms statements asked first ts c n space there x rows (x.rows + length rows) p
        (replied_rows ts c x r.question t k rows (space n) p (r.content q.1) (r.tells q.1)) h f)
    hand_serves x _ own kind r once within h = cc

  -- a send leaves all that matters
  pub send_serves : (space : Space) (x : Exchange) → Serves space x → Serves space (after_send x)
  send_serves space x h = record { follows = follows_send dms statements asked first space x h.follows; none = h.none; of = h.of; all = h.all }
