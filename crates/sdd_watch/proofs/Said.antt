-- The DONEs that were handed over between two logs.
use Rattle.sdd_watch.proofs.All.{Ack, Arrived, Bool, D, Done, Input, IsBetween, IsGood, IsThere, List, Log, Message, Msg, Packet, Purpose, Site, Some, U, [], all_links, and_false, ap, arrived, arrived_on, cons_option, dm_no, eq-eqb, false, filter_map, handed_over, is_done_at, list_any, list_any-append, not_both, purposed, refl, says, says_one, slice_get, subst, suc, sym, true, zero, ℕ, ◌&&◌, ◌==◌, ◌||◌, ◌∙◌, ◌∷◌, ◌≡◌}
use Rattle.sdd_moments.proofs.Came.{arrived_if, handed_parts, here, messages, none_still, still, that_one}
use Rattle.sdd_moments.proofs.Flights.{and_true}
use Rattle.sdd_moments.specs.Moments.{handed_on}

-- messages of data module n

both_or : (x c r : Bool) → ((x && c) || (r && c)) ≡ ((x || r) && c)
both_or true false true = refl
both_or _ _ _ = refl

said_one : (t d n k : ℕ) (m : Msg) (rest : List (ℕ × Purpose)) (more : List (Packet Msg))
    → list_any (says_one t d n) rest ≡ (list_any (is_done_at t) more && (n == d))
    → list_any (says_one t d n) (cons_option (purposed (Message k m)) rest) ≡ (list_any (is_done_at t) (Message k m ∷ more) && (n == d))
said_one t d n k (Done ts) rest more e = ap (λ r. (ts.0 == t && n == d) || r) e ∙ both_or (ts.0 == t) (n == d) (list_any (is_done_at t) more)
said_one t d n k m rest more e = e

said : (t d n : ℕ) (ps : List (Packet Msg)) → list_any (says_one t d n) (filter_map purposed ps) ≡ (list_any (is_done_at t) ps && (n == d))
said t d n [] = refl
said t d n (Message k m ∷ ps) = said_one t d n k m (filter_map purposed ps) ps (said t d n ps)
said t d n (Ack upto ∷ ps) = said t d n ps

-- of one link

abbrev on : Log → Log → Site × Site → Arrived
on old new l = record { from = l.0; to = l.1; messages = messages old new l }

of_other : (old new : Log) (t d : ℕ) (a b : Site) → here (D (dm_no d)) U (a, b) ≡ false → says t d (on old new (a, b)) ≡ false
of_other old new t d (D n) U e =
    let z : (n.0 == d) ≡ false = sym (and_true (n.0 == d)) ∙ e in
    said t d n.0 (handed_over old new (D n, U)) ∙ ap (λ c. list_any (is_done_at t) (handed_over old new (D n, U)) && c) z
    ∙ and_false (list_any (is_done_at t) (handed_over old new (D n, U)))
of_other old new t d _ _ e = refl

of_this : (old new : Log) (t d : ℕ) → says t d (on old new (D (dm_no d), U)) ≡ list_any (is_done_at t) (handed_over old new (D (dm_no d), U))
of_this old new t d =
    said t d d (handed_over old new (D (dm_no d), U)) ∙ ap (λ c. list_any (is_done_at t) (handed_over old new (D (dm_no d), U)) && c) (eq-eqb d d refl)
    ∙ and_true (list_any (is_done_at t) (handed_over old new (D (dm_no d), U)))

-- of all links

none_says : (old new : Log) (t d : ℕ) (ls : List (Site × Site)) → list_any (is_done_at t) (handed_over old new (D (dm_no d), U)) ≡ false
    → list_any (says t d) (filter_map (arrived_on old new) ls) ≡ false
none_says old new t d [] e = refl
none_says old new t d (l ∷ ls) e =
    let rest : List Arrived = filter_map (arrived_on old new) ls in
    let i = none_says old new t d ls e in
    let one : says t d (on old new l) ≡ false =
    (elim (here (D (dm_no d)) U l) as (λ c. here (D (dm_no d)) U l ≡ c → says t d (on old new l) ≡ false) [
      | true ↦ λ h. ap (λ x. says t d (on old new x)) (that_one (D (dm_no d)) U l h) ∙ of_this old new t d ∙ e
      | false ↦ λ h. of_other old new t d l.0 l.1 h
    ] refl) in
    elim (still old new l) as (λ c. list_any (says t d) (cons_option (arrived_if old new l c) rest) ≡ false) [
      | true ↦ i
      | false ↦ rw one i
    ]

or_true : (x : Bool) → (x || true) ≡ true
or_true true = refl
or_true false = refl

some_says : (old new : Log) (t d : ℕ) (ls : List (Site × Site)) (k : ℕ) → slice_get ls k ≡ Some (D (dm_no d), U)
    → still old new (D (dm_no d), U) ≡ false → list_any (is_done_at t) (handed_over old new (D (dm_no d), U)) ≡ true
    → list_any (says t d) (filter_map (arrived_on old new) ls) ≡ true
some_says old new t d [] k i s e = cc
some_says old new t d (l ∷ ls) zero i s e =
    let p : l ≡ (D (dm_no d), U) = cc in
    let rest : List Arrived = filter_map (arrived_on old new) ls in
    let z : still old new l ≡ false = subst (λ x. still old new x ≡ false) (sym p) s in
    let one : says t d (on old new l) ≡ true = ap (λ x. says t d (on old new x)) p ∙ of_this old new t d ∙ e in
    ap (λ c. list_any (says t d) (cons_option (arrived_if old new l c) rest)) z ∙ ap (λ c. c || list_any (says t d) rest) one
some_says old new t d (l ∷ ls) (suc k) i s e =
    let rest : List Arrived = filter_map (arrived_on old new) ls in
    let more = some_says old new t d ls k i s e in
    elim (still old new l) as (λ c. list_any (says t d) (cons_option (arrived_if old new l c) rest) ≡ true) [
      | true ↦ more
      | false ↦ ap (λ c. says t d (on old new l) || c) more ∙ or_true (says t d (on old new l))
    ]

pub said_over : (g : Input) (old new : Log) (t d : ℕ) → IsGood g → IsBetween g old new → IsThere (all_links g) (D (dm_no d), U)
    → list_any (says t d) (arrived g old new) ≡ list_any (is_done_at t) (handed_over old new (D (dm_no d), U))
said_over g old new t d good i there =
    let l : Site × Site = (D (dm_no d), U) in
    elim (list_any (is_done_at t) (handed_over old new l)) as (λ c. list_any (is_done_at t) (handed_over old new l) ≡ c
    → list_any (says t d) (arrived g old new) ≡ c) [
      | false ↦ λ e. none_says old new t d (all_links g) e
      | true ↦ λ e. (elim (still old new l) as (λ c. still old new l ≡ c → list_any (says t d) (arrived g old new) ≡ true) [
        | false ↦ λ s. some_says old new t d (all_links g) there.0 there.1 s e
        | true ↦ λ s. absurd (not_both (list_any (is_done_at t) (handed_over old new l)) e
            (ap (list_any (is_done_at t)) (none_still g old new (D (dm_no d)) U good i s)))
      ] refl)
    ] refl

or_turn : (x y : Bool) → (x || y) ≡ (y || x)
or_turn true true = refl
or_turn true false = refl
or_turn false true = refl
or_turn false false = refl

-- so those that were handed over in all are those before the event, and these
pub said_in_all : (g : Input) (old new : Log) (t d : ℕ) → IsGood g → IsBetween g old new → IsThere (all_links g) (D (dm_no d), U)
    → (list_any (says t d) (arrived g old new) || list_any (is_done_at t) (handed_on (D (dm_no d)) U old))
    ≡ list_any (is_done_at t) (handed_on (D (dm_no d)) U new)
said_in_all g old new t d good i there =
    let before : Bool = list_any (is_done_at t) (handed_on (D (dm_no d)) U old) in
    ap (λ c. c || before) (said_over g old new t d good i there)
    ∙ or_turn (list_any (is_done_at t) (handed_over old new (D (dm_no d), U))) before
    ∙ sym (ap (list_any (is_done_at t)) (handed_parts g old new (D (dm_no d)) U good i)
    ∙ list_any-append (is_done_at t) (handed_on (D (dm_no d)) U old) (handed_over old new (D (dm_no d), U)))
