-- In a complete log each transaction that its events submit is submitted.
use Rattle.sdd_verified.proofs.All.{Bool, Does, Entry, Event, Hand, Input, IsLawful, IsSubmitted, List, Log, Mark, None, Notes, Option, Redeclares, Round, Settle, Site, Some, Submission, Submit, Submitted, TxnNo, [], ap, arith, eqb-true, false, from_event, hand_due, history, home_of, inl, inr, left, left_is, length, mark_due, mark_from, mark_of, marked, next, next_mark, next_mark_is, nth_era, one_if, or_else, recorded_there, redeclares, refl, site_due, submits_by, submits_in, subst, sym, true, txn_no, ℕ, ◌++◌, ◌+◌, ◌==◌, ◌∙◌, ◌∷◌, ◌≡◌, ◌≤◌, ◌⊎◌}
use Rattle.sdd_run.specs.progress.obligations.All.{txn_at}

-- of what a complete log leaves no event has a mark

no_other : (a b : Option Entry) → or_else a b ≡ None → (a ≡ None) × (b ≡ None)
no_other a b h = grind arith

pub record NoneIsDue (g : Input) (log : Log) : Type 0 where
  pub mark : mark_due g log ≡ None
  pub next : mark_of g log (left g.events log) ≡ None

pub none_due : (g : Input) (log : Log) → next g log ≡ None → NoneIsDue g log
none_due g log h =
    let a = no_other (mark_due g log) _ h in
    let b = no_other (site_due g log) _ a.1 in
    let c = no_other (hand_due g log) (next_mark g log) b.1 in
    record { mark = a.0; next = sym (next_mark_is g log) ∙ c.1 }

none_from : (g : Input) (log : Log) (q : Bool) (r ws : List Event) → mark_from g log q r ws ≡ None → from_event ws ≡ []
none_from g log q r [] h = refl
none_from g log true r (Settle ∷ ws) h = none_from g log true r ws h
none_from g log false r (Settle ∷ ws) h = cc
none_from g log _ r (_ ∷ ws) h = cc

settles_submit_none : (n : ℕ) (ws : List Event) → from_event ws ≡ [] → submits_in n ws ≡ 0
settles_submit_none n [] h = refl
settles_submit_none n (Settle ∷ ws) h = let i = settles_submit_none n ws h in omega (arith, i)
settles_submit_none n (_ ∷ ws) h = cc

none_left : (g : Input) (log : Log) (n : ℕ) (s : List Event × List Event) → mark_of g log s ≡ None → submits_in n s.0 ≡ 0
none_left g log n s h = grind (arith, settles_submit_none, none_from)

pub all_marked : (g : Input) (log : Log) (n : ℕ) → IsLawful g log → next g log ≡ None → marked n log ≡ submits_in n g.events
all_marked g log n lawful complete =
    let all = (left_is g n log lawful).all in
    let none = none_left g log n (left g.events log) (none_due g log complete).next in
    omega (arith, all, none)

-- an event is a submit, or submits nothing

sorted : (e : Event) → ((k : TxnNo) × (e ≡ Submit k)) ⊎ ((n : ℕ) → submits_by n e ≡ 0)
sorted (Submit n) = inl (n, refl)
sorted _ = inr (λ n. refl)

-- where no `submit` is the last entry, that entry marks none
not_last : (g : Input) (n : ℕ) (e : Entry) (log : Log) → mark_due g (e ∷ log) ≡ None → marked n (e ∷ log) ≡ marked n log
not_last g n e log h = grind arith

-- what is due by an event is no mark

no_mark_due : (g : Input) (x : Event) (log : Log) → mark_due g log ≡ Some (Mark x) → ⊥
no_mark_due g x log h = grind arith

first_none : (a b : Option Entry) (x : Entry) → (a ≡ Some x → ⊥) → or_else a b ≡ Some x → a ≡ None
first_none a b x h e = grind arith

before_mark : (g : Input) (log : Log) (e : Event) → next g log ≡ Some (Mark e) → mark_due g log ≡ None
before_mark g log e h = first_none (mark_due g log) _ (Mark e) (no_mark_due g e log) h

-- a transaction is given to its module after the mark of its `submit`

pub record IsGivenIn (log : Log) (n : ℕ) : Type 0 where
  pub later : Log
  pub at : Site
  pub rest : Log
  pub is : log ≡ later ++ Submitted at n ∷ rest

given_later : (e : Entry) (log : Log) (n : ℕ) → IsGivenIn log n → IsGivenIn (e ∷ log) n
given_later e log n x = record { later = e ∷ x.later; at = x.at; rest = x.rest; is = ap (λ l. e ∷ l) x.is }

given_submit : (g : Input) (n : ℕ) (e : Entry) (k : TxnNo) (log : Log) → next g (Mark (Submit k) ∷ log) ≡ Some e
    → 1 ≤ one_if (k.0 == n) + marked n log → (1 ≤ marked n log → IsGivenIn log n) → IsGivenIn (e ∷ Mark (Submit k) ∷ log) n
given_submit g n e k log h m again =
    let at : Site = home_of (nth_era g (redeclares log)).catalogue (txn_at g k.0) in
    let is : Submitted at k.0 ≡ e = cc in
    elim (k.0 == n) as (λ b. (k.0 == n) ≡ b → 1 ≤ one_if b + marked n log → IsGivenIn (e ∷ Mark (Submit k) ∷ log) n) [
      | true ↦ λ q w.
          record {
            later = [];
            at = at;
            rest = Mark (Submit k) ∷ log;
            is = ap (λ x. x ∷ Mark (Submit k) ∷ log) (sym is ∙ ap (λ i. Submitted at i) (eqb-true k.0 n q));
          }
      | false ↦ λ q w. given_later e (Mark (Submit k) ∷ log) n (given_later (Mark (Submit k)) log n (again (omega (arith, w))))
    ] refl m

given_by : (g : Input) (n : ℕ) (e : Entry) (x : Event) (log : Log) → next g (Mark x ∷ log) ≡ Some e
    → 1 ≤ submits_by n x + marked n log → (1 ≤ marked n log → IsGivenIn log n) → IsGivenIn (e ∷ Mark x ∷ log) n
given_by g n e x log h m again = elim (sorted x) [
  | inl s ↦
      subst (λ (y : Event). IsGivenIn (e ∷ Mark y ∷ log) n) (sym s.1)
      (given_submit g n e s.0 log (subst (λ (y : Event). next g (Mark y ∷ log) ≡ Some e) s.1 h)
      (subst (λ (y : Event). 1 ≤ submits_by n y + marked n log) s.1 m) again)
  | inr none ↦
      let z = none n in
      given_later e (Mark x ∷ log) n (given_later (Mark x) log n (again (omega (arith, m, z))))
]

each_given : (g : Input) (n : ℕ) (log : Log) → IsLawful g log → mark_due g log ≡ None → 1 ≤ marked n log → IsGivenIn log n
each_given g n [] l d m = absurd (omega (arith, m))
each_given g n (e ∷ []) l d m = let s : marked n (e ∷ []) ≡ 0 = not_last g n e [] d in absurd (omega (arith, m, s))
each_given g n (e ∷ Mark x ∷ log) l d m =
    let s : marked n (e ∷ Mark x ∷ log) ≡ submits_by n x + marked n log = not_last g n e (Mark x ∷ log) d in
    given_by g n e x log l.0 (omega (arith, m, s)) (each_given g n log l.1.1 (before_mark g log x l.1.0))
each_given g n (e ∷ Round es ∷ log) l d m =
    let s : marked n (e ∷ Round es ∷ log) ≡ marked n log = not_last g n e (Round es ∷ log) d in
    given_later e (Round es ∷ log) n (each_given g n (Round es ∷ log) l.1 refl (omega (arith, m, s)))
each_given g n (e ∷ Redeclares t ∷ log) l d m =
    let s : marked n (e ∷ Redeclares t ∷ log) ≡ marked n log = not_last g n e (Redeclares t ∷ log) d in
    given_later e (Redeclares t ∷ log) n (each_given g n (Redeclares t ∷ log) l.1 refl (omega (arith, m, s)))
each_given g n (e ∷ Hand a b k w ∷ log) l d m =
    let s : marked n (e ∷ Hand a b k w ∷ log) ≡ marked n log = not_last g n e (Hand a b k w ∷ log) d in
    given_later e (Hand a b k w ∷ log) n (each_given g n (Hand a b k w ∷ log) l.1 refl (omega (arith, m, s)))
each_given g n (e ∷ Submitted a k ∷ log) l d m =
    let s : marked n (e ∷ Submitted a k ∷ log) ≡ marked n log = not_last g n e (Submitted a k ∷ log) d in
    given_later e (Submitted a k ∷ log) n (each_given g n (Submitted a k ∷ log) l.1 refl (omega (arith, m, s)))
each_given g n (e ∷ Notes ∷ log) l d m =
    let s : marked n (e ∷ Notes ∷ log) ≡ marked n log = not_last g n e (Notes ∷ log) d in
    given_later e (Notes ∷ log) n (each_given g n (Notes ∷ log) l.1 refl (omega (arith, m, s)))
each_given g n (e ∷ Does a act ∷ log) l d m =
    let s : marked n (e ∷ Does a act ∷ log) ≡ marked n log = not_last g n e (Does a act ∷ log) d in
    given_later e (Does a act ∷ log) n (each_given g n (Does a act ∷ log) l.1 refl (omega (arith, m, s)))

pub record IsSubmittedIn (log : Log) (n : ℕ) : Type 0 where
  pub place : ℕ
  pub submitted : IsSubmitted (history log) n place

pub each_submitted : (g : Input) (log : Log) (n : ℕ) → IsLawful g log → next g log ≡ None → 1 ≤ submits_in n g.events → IsSubmittedIn log n
each_submitted g log n lawful complete some =
    let all = all_marked g log n lawful complete in
    let x = each_given g n log lawful (none_due g log complete).mark (omega (arith, some, all)) in
    record {
      place = length (history x.rest);
      submitted =
          subst (λ l. IsSubmitted (history l) n (length (history x.rest))) (sym x.is)
          (recorded_there x.later (Submitted x.at n) x.rest (Submission (txn_no n)) refl);
    }
