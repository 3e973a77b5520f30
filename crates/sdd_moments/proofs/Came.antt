-- What came to a pipe between two logs is what was handed over on its one link.
use Rattle.sdd_moments.proofs.All.{Ack, Arrived, Bool, D, Input, IsBetween, IsClassHere, IsGood, IsPermitted, IsThere, List, Log, Message, Msg, None, Null, Option, Packet, Purpose, Read, Site, Some, Write, [], all_links, all_of, ap, arith, arrived, arrived_on, came, class_in, cond, cons_option, dm_no, drop, drop-append_seam, drop_all, eqb-true, false, filter, filter_map, filter_map-append, find, goes_through, handed, handed_of_sent, handed_over, home, if◌then◌else◌, is_on, lawful_permitted, length, local_of, messages_in, number_for, number_through, numbered, numbers_for, pipe, pipe_is, purposed, puts_to, refl, same_site, sent, sent_is, setting_of, site_self, slice_get, source, source_is_home, subst, suc, sym, take, take-append-drop, take-append-le, take-take, true, zero, ℕ, ◌&&◌, ◌++◌, ◌+◌, ◌-◌, ◌==◌, ◌∙◌, ◌∷◌, ◌≡◌, ◌≤◌}
use Rattle.sdd_moments.proofs.Between.{handed_between, link_grows, same_link}
use Rattle.sdd_moments.proofs.Flights.{length_numbered, length_joined as length_of_both}
use Rattle.sdd_moments.proofs.Numbered.{joined}
use Rattle.sdd_moments.proofs.Numbered.{take_numbered}
use Rattle.sdd_moments.specs.Moments.{handed_on}

-- which link it is

abbrev pub here : Site → Site → Site × Site → Bool
here a b l = same_site l.0 a && same_site l.1 b

abbrev pub arrived_if : Log → Log → Site × Site → Bool → Option Arrived
arrived_if old new l still =
    if still then None else Some (record { from = l.0; to = l.1; messages = filter_map purposed (handed_over old new l) })

abbrev pub still : Log → Log → Site × Site → Bool
still old new l = handed l.0 l.1 old == handed l.0 l.1 new

abbrev pub messages : Log → Log → Site × Site → List (ℕ × Purpose)
messages old new l = filter_map purposed (handed_over old new l)

-- a link that isn't that one is passed over
passed_over : (old new : Log) (a b : Site) (l : Site × Site) (s : Bool) (rest : List Arrived) → here a b l ≡ false
    → find (is_on a b) (cons_option (arrived_if old new l s) rest) ≡ find (is_on a b) rest
passed_over old new a b l true rest e = refl
passed_over old new a b l false rest e = rw e refl

-- that one is found where messages were handed over on it
found_here : (old new : Log) (a b : Site) (l : Site × Site) (s : Bool) (rest : List Arrived) → s ≡ false → here a b l ≡ true
    → find (is_on a b) (cons_option (arrived_if old new l s) rest) ≡ Some (record { from = l.0; to = l.1; messages = messages old new l })
found_here old new a b l true rest z e = cc
found_here old new a b l false rest z e = rw e refl

pub that_one : (a b : Site) (l : Site × Site) → here a b l ≡ true → l ≡ (a, b)
that_one a b l e = let p = same_link l.0 l.1 a b e in λ i. (p.0 i, p.1 i)

none_found : (old new : Log) (a b : Site) (ls : List (Site × Site)) → still old new (a, b) ≡ true
    → messages_in (find (is_on a b) (filter_map (arrived_on old new) ls)) ≡ []
none_found old new a b [] e = refl
none_found old new a b (l ∷ ls) e =
    let rest : List Arrived = filter_map (arrived_on old new) ls in
    elim (here a b l) as (λ c. here a b l ≡ c → messages_in (find (is_on a b) (cons_option (arrived_if old new l (still old new l)) rest)) ≡ []) [
      | true ↦ λ h. (let s : still old new l ≡ true = subst (λ x. still old new x ≡ true) (sym (that_one a b l h)) e in
          ap (λ c. messages_in (find (is_on a b) (cons_option (arrived_if old new l c) rest))) s ∙ none_found old new a b ls e)
      | false ↦ λ h. ap messages_in (passed_over old new a b l (still old new l) rest h) ∙ none_found old new a b ls e
    ] refl

one_found : (old new : Log) (a b : Site) (ls : List (Site × Site)) (k : ℕ) → slice_get ls k ≡ Some (a, b) → still old new (a, b) ≡ false
    → messages_in (find (is_on a b) (filter_map (arrived_on old new) ls)) ≡ messages old new (a, b)
one_found old new a b [] k i e = cc
one_found old new a b (l ∷ ls) zero i e =
    let p : l ≡ (a, b) = cc in
    let self : here a b (a, b) ≡ true = rw (site_self a, site_self b) refl in
    let h : here a b l ≡ true = subst (λ x. here a b x ≡ true) (sym p) self in
    let s : still old new l ≡ false = subst (λ x. still old new x ≡ false) (sym p) e in
    ap messages_in (found_here old new a b l (still old new l) (filter_map (arrived_on old new) ls) s h) ∙ ap (messages old new) p
one_found old new a b (l ∷ ls) (suc k) i e =
    let rest : List Arrived = filter_map (arrived_on old new) ls in
    elim (here a b l) as (λ c. here a b l ≡ c
    → messages_in (find (is_on a b) (cons_option (arrived_if old new l (still old new l)) rest)) ≡ messages old new (a, b)) [
      | true ↦ λ h. (let p = that_one a b l h in
          let s : still old new l ≡ false = subst (λ x. still old new x ≡ false) (sym p) e in
          ap messages_in (found_here old new a b l (still old new l) rest s h) ∙ ap (messages old new) p)
      | false ↦ λ h. ap messages_in (passed_over old new a b l (still old new l) rest h) ∙ one_found old new a b ls k i e
    ] refl

length_take_le : {A : Type 0} (n : ℕ) (xs : List A) → length (take n xs) ≤ n
length_take_le (suc n) (x ∷ xs) = let i = length_take_le n xs in omega (arith, i)
length_take_le _ _ = omega arith

-- where nothing more was handed over, nothing was

pub none_still : (g : Input) (old new : Log) (a b : Site) → IsGood g → IsBetween g old new → still old new (a, b) ≡ true → handed_over old new (a, b) ≡ []
none_still g old new a b good i e =
    let same : handed a b old ≡ handed a b new = eqb-true (handed a b old) (handed a b new) e in
    ap (λ n. drop n (handed_on a b new)) same
    ∙ drop_all (handed a b new) (handed_on a b new) (length_take_le (handed a b new) (numbered 0 (sent a b new)))

pub messages_found : (g : Input) (old new : Log) (a b : Site) → IsGood g → IsBetween g old new → IsThere (all_links g) (a, b)
    → messages_in (find (is_on a b) (arrived g old new)) ≡ messages old new (a, b)
messages_found g old new a b good i there =
    elim (still old new (a, b)) as (λ c. still old new (a, b) ≡ c → messages_in (find (is_on a b) (arrived g old new)) ≡ messages old new (a, b)) [
      | true ↦ λ e. none_found old new a b (all_links g) e ∙ sym (ap (filter_map purposed) (none_still g old new a b good i e))
      | false ↦ λ e. one_found old new a b (all_links g) there.0 there.1 e
    ] refl

-- their numbers

number_is : (c n : ℕ) (m : Msg) (rest : List ℕ) (more : List (ℕ × Purpose))
    → filter_map (number_for c) more ≡ rest
    → filter_map (number_for c) (cons_option (purposed (Message n m)) more) ≡ cons_option (number_through c (Message n m)) rest
number_is c n (Read ts class txn attempt conds uses) rest more e = ap (cons_option (if class.0 == c then Some n else None)) e
number_is c n (Write ts class txn changes) rest more e = ap (cons_option (if class.0 == c then Some n else None)) e
number_is c n (Null class time) rest more e = ap (cons_option (if class.0 == c then Some n else None)) e
number_is c n _ rest more e = e

numbers_are : (c : ℕ) (ps : List (Packet Msg)) → filter_map (number_for c) (filter_map purposed ps) ≡ filter_map (number_through c) ps
numbers_are c [] = refl
numbers_are c (Message n m ∷ ps) = number_is c n m (filter_map (number_through c) ps) (filter_map purposed ps) (numbers_are c ps)
numbers_are c (Ack upto ∷ ps) = numbers_are c ps

-- what came before an event came, and then what was handed over

pub handed_parts : (g : Input) (old new : Log) (a b : Site) → IsGood g → IsBetween g old new
    → handed_on a b new ≡ handed_on a b old ++ handed_over old new (a, b)
handed_parts g old new a b good i =
    let h : ℕ = handed a b old in
    let k : ℕ = handed a b new in
    let grows = link_grows g old new (a, b) i in
    let all : numbered 0 (sent a b new) ≡ numbered 0 (sent a b old) ++ numbered (length (sent a b old)) grows.more =
    ap (numbered 0) grows.sent_is ∙ joined (sent a b old) grows.more in
    let few = handed_of_sent g old a b (lawful_permitted g old good.once i.before.lawful) in
    let count = length_numbered 0 (sent a b old) in
    let front : take h (handed_on a b new) ≡ handed_on a b old =
    take-take h k (numbered 0 (sent a b new)) (handed_between g old new a b good i) ∙ ap (take h) all
    ∙ take-append-le h (numbered 0 (sent a b old)) (numbered (length (sent a b old)) grows.more) (omega (arith, few, count)) in
    sym (take-append-drop h (handed_on a b new)) ∙ ap (λ ps. ps ++ handed_over old new (a, b)) front

pub came_is : (g : Input) (old new : Log) (d c : ℕ) → IsGood g → IsBetween g old new → IsThere (all_links g) (source g d c, D (dm_no d))
    → numbers_for (source g d c) (D (dm_no d)) c (arrived g old new) ≡ drop (length (came g d c old)) (came g d c new)
came_is g old new d c good i there =
    let a : Site = source g d c in
    let b : Site = D (dm_no d) in
    let over : List (Packet Msg) = handed_over old new (a, b) in
    let parts : came g d c new ≡ came g d c old ++ filter_map (number_through c) over =
    ap (filter_map (number_through c)) (handed_parts g old new a b good i) ∙ filter_map-append (number_through c) (handed_on a b old) over in
    ap (filter_map (number_for c)) (messages_found g old new a b good i there) ∙ numbers_are c over
    ∙ sym (ap (drop (length (came g d c old))) parts ∙ drop-append_seam (came g d c old) (filter_map (number_through c) over))

-- how many they are

as_many : (c k : ℕ) (ms : List Msg) → length (filter_map (number_through c) (numbered k ms)) ≡ length (filter (goes_through c) ms)
as_many c k [] = refl
as_many c k (m ∷ ms) =
    elim (goes_through c m) as (λ b. length (cons_option (if b then Some (k + 1) else None) (filter_map (number_through c) (numbered (k + 1) ms)))
    ≡ length (cond b (m ∷ filter (goes_through c) ms) (filter (goes_through c) ms))) [
      | true ↦ ap suc (as_many c (k + 1) ms)
      | false ↦ as_many c (k + 1) ms
    ]

pub all_came : (g : Input) (log : Log) (d c : ℕ) → IsPermitted g log → IsClassHere (setting_of g (D (dm_no d))) c
    → length (came g d c log)
    ≡ length (pipe c (local_of g (D (dm_no d)) log)).processed + length (pipe c (local_of g (D (dm_no d)) log)).unprocessed
all_came g log d c h k =
    let a : Site = source g d c in
    let b : Site = D (dm_no d) in
    let p = pipe c (local_of g b log) in
    let at : a ≡ home g.catalogue c = source_is_home (setting_of g b) c k in
    let there : all_of p ≡ class_in c (take (handed a b log) (sent a b log)) =
    pipe_is g c (dm_no d) log h ∙ ap (λ x. class_in c (take (handed x b log) (puts_to b (local_of g x log)))) (sym at)
    ∙ ap (λ ms. class_in c (take (handed a b log) ms)) (sym (sent_is g a b log)) in
    ap (λ ps. length (filter_map (number_through c) ps)) (take_numbered (handed a b log) 0 (sent a b log))
    ∙ as_many c 0 (take (handed a b log) (sent a b log)) ∙ ap length (sym there) ∙ length_of_both p.processed p.unprocessed

-- so how many were processed is what was there and came, less what is left
pub processed_is : (u v p q a b came : ℕ) → a ≡ p + u → b ≡ q + v → b ≡ a + came → (u + came) - v ≡ q - p
processed_is u v p q a b came e f h = omega (arith, e, f, h)

pub more_came : (g : Input) (old new : Log) (d c : ℕ) → IsGood g → IsBetween g old new
    → length (came g d c new) ≡ length (came g d c old) + length (drop (length (came g d c old)) (came g d c new))
more_came g old new d c good i =
    let a : Site = source g d c in
    let b : Site = D (dm_no d) in
    let over : List ℕ = filter_map (number_through c) (handed_over old new (a, b)) in
    let parts : came g d c new ≡ came g d c old ++ over =
    ap (filter_map (number_through c)) (handed_parts g old new a b good i)
    ∙ filter_map-append (number_through c) (handed_on a b old) (handed_over old new (a, b)) in
    let rest : drop (length (came g d c old)) (came g d c new) ≡ over = ap (drop (length (came g d c old))) parts ∙ drop-append_seam (came g d c old) over in
    ap length parts ∙ length_of_both (came g d c old) over ∙ ap (λ xs. length (came g d c old) + length xs) (sym rest)
