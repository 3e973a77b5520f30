-- In the history of a run transactions are submitted in the order of its schedule.
use Rattle.sdd_verified.proofs.All.{AreSubmittedOnce, Event, Input, IsLawful, IsPermitted, IsSubmitted, List, Log, Mark, Redeclares, Settle, Site, Submission, Submit, Submitted, TxnNo, [], after_mark, ap, append_assoc, arith, compare, eq-eqb, from_event, given_at, history, inl, inr, lawful_before, lawful_permitted, left, left_is, length, marked, ne_eqb, one_if, permitted_before, place_rises, refl, submit_in, submits_by, submits_in, subst, sym, tail_of, txn_no, ℕ, ◌++◌, ◌+◌, ◌<◌, ◌==◌, ◌∙◌, ◌∷◌, ◌≡◌, ◌≢◌, ◌≤◌, ◌⊎◌}
use Rattle.sdd_verified.proofs.Numbered.{Separates}

-- what is left of the events is their end

pub record EndOf (events rest : List Event) : Type 0 where
  pub front : List Event
  pub is : events ≡ front ++ rest

end_tail : (events rest : List Event) → EndOf events rest → EndOf events (tail_of rest)
end_tail events [] h = h
end_tail events (e ∷ rest) h = record { front = h.front ++ e ∷ []; is = h.is ∙ sym (append_assoc h.front (e ∷ []) rest) }

end_from : (events rest : List Event) → EndOf events rest → EndOf events (from_event rest)
end_from events (Settle ∷ rest) h = end_from events rest (end_tail events (Settle ∷ rest) h)
end_from events _ h = h

end_mark : (events : List Event) (s : List Event × List Event) → EndOf events s.0 → EndOf events (after_mark s).0
end_mark events s h = grind (arith, end_tail, end_from)

pub end_left : (events : List Event) (log : Log) → EndOf events (left events log).0
end_left events [] = record { front = []; is = refl }
end_left events (Mark e ∷ log) = end_mark events (left events log) (end_left events log)
end_left events (Redeclares t ∷ log) = end_mark events (left events log) (end_left events log)
end_left events (_ ∷ log) = end_left events log

-- counts of two parts, and of marks

pub submits_append : (n : ℕ) (xs ys : List Event) → submits_in n (xs ++ ys) ≡ submits_in n xs + submits_in n ys
submits_append n [] ys = omega arith
submits_append n (e ∷ xs) ys = let more = submits_append n xs ys in omega (arith, more)

marked_later : (n : ℕ) (later log : Log) → marked n log ≤ marked n (later ++ log)
marked_later n [] log = omega arith
marked_later n (Mark e ∷ later) log = let h = marked_later n later log in omega (arith, h)
marked_later n (_ ∷ later) log = marked_later n later log

-- of two ways to part a list the front of one is a front of the other
pub two_fronts : (xs ys fs ss : List Event) → xs ++ ys ≡ fs ++ ss → ((zs : List Event) × (fs ≡ xs ++ zs)) ⊎ ((zs : List Event) × (xs ≡ fs ++ zs))
two_fronts [] ys fs ss e = inl (fs, refl)
two_fronts (x ∷ xs) ys [] ss e = inr (x ∷ xs, refl)
two_fronts (x ∷ xs) ys (f ∷ fs) ss e =
    let same : x ≡ f = cc in
    let rest : xs ++ ys ≡ fs ++ ss = cc in
    elim (two_fronts xs ys fs ss rest) [
      | inl p ↦ inl (p.0, rw same (ap (λ (l : List Event). f ∷ l) p.1))
      | inr p ↦ inr (p.0, rw same (ap (λ (l : List Event). f ∷ l) p.1))
    ]

-- where the submission of m comes after that of n, its mark does too
again : (m n : ℕ) (a b : Site) (between rest_m rest_n : Log) (k l : TxnNo) (earlier_m earlier_n : Log)
    → between ++ Submitted b n ∷ rest_n ≡ Mark (Submit k) ∷ earlier_m → rest_n ≡ Mark (Submit l) ∷ earlier_n → 1 ≤ marked m earlier_n → 1 ≤ marked m earlier_m
again m n a b [] rest_m rest_n k l earlier_m earlier_n e f some = let q : Submitted b n ≡ Mark (Submit k) = cc in absurd cc
again m n a b (x ∷ between) rest_m rest_n k l earlier_m earlier_n e f some = grind (arith, marked_later)

pub own_mark : (n : ℕ) → one_if (n == n) ≡ 1
own_mark n = ap one_if (eq-eqb n n refl)

module _ (g : Input) (log : Log) (lawful : IsLawful g log) (once : AreSubmittedOnce g.events) where
  permitted : IsPermitted g log
  permitted = lawful_permitted g log once lawful

  -- a transaction that was submitted is one of the schedule
  pub is_in_schedule : (n k : ℕ) → IsSubmitted (history log) n k → 1 ≤ submits_in n g.events
  is_in_schedule n k s =
      let x = submit_in g log n k permitted s in
      let now : IsPermitted g (Submitted x.at n ∷ x.rest) = permitted_before g x.later (Submitted x.at n ∷ x.rest) (subst (IsPermitted g) x.is permitted) in
      let given = given_at g x.rest x.at n now in
      let before : IsLawful g (Mark (Submit given.number) ∷ given.earlier) =
      subst (IsLawful g) given.is (lawful_before g x.later (Submitted x.at n ∷ x.rest) (subst (IsLawful g) x.is lawful)).1 in
      let count = (left_is g n (Mark (Submit given.number) ∷ given.earlier) before).all in
      let own : submits_by n (Submit given.number) ≡ 1 = ap (λ (k : ℕ). one_if (k == n)) given.number_is ∙ own_mark n in
      omega (arith, count, own)

  -- at the mark of n that of m has been, where m stands before n in the schedule
  marked_first : (m n : ℕ) (earlier : Log) (k : ℕ) → IsLawful g (Mark (Submit (record { 0 = k })) ∷ earlier)
      → k ≡ n → m ≢ n → Separates g.events m n → 1 ≤ marked m earlier
  marked_first m n earlier k h same other s =
      let now : Log = Mark (Submit (record { 0 = k })) ∷ earlier in
      let rest : List Event = (left g.events now).0 in
      let end = end_left g.events now in
      let all_n = (left_is g n now h).all in
      let all_m = (left_is g m now h).all in
      let own : submits_by n (Submit (record { 0 = k })) ≡ 1 = ap (λ (x : ℕ). one_if (x == n)) same ∙ own_mark n in
      let none : submits_by m (Submit (record { 0 = k })) ≡ 0 = ap one_if (ne_eqb k m (λ e. other (sym e ∙ same))) in
      let few_n = once n in
      let few_m = once m in
      let parts_n : submits_in n g.events ≡ submits_in n end.front + submits_in n rest = ap (submits_in n) end.is ∙ submits_append n end.front rest in
      let parts_m : submits_in m g.events ≡ submits_in m end.front + submits_in m rest = ap (submits_in m) end.is ∙ submits_append m end.front rest in
      let first = s.first in
      let not_yet = s.not_yet in
      elim (two_fronts s.front s.rest end.front rest (sym s.is ∙ end.is)) [
        | inl p ↦
            let in_front : submits_in m end.front ≡ submits_in m s.front + submits_in m p.0 = ap (submits_in m) p.1 ∙ submits_append m s.front p.0 in
            omega (arith, all_m, none, few_m, parts_m, first, in_front)
        | inr p ↦
            let in_front : submits_in n s.front ≡ submits_in n end.front + submits_in n p.0 = ap (submits_in n) p.1 ∙ submits_append n end.front p.0 in
            absurd (omega (arith, all_n, own, few_n, parts_n, not_yet, in_front))
      ]

  -- so m is submitted first
  pub submitted_first : (m n j k : ℕ) → m ≢ n → Separates g.events m n → IsSubmitted (history log) m j → IsSubmitted (history log) n k → j < k
  submitted_first m n j k other s first second =
      let x = submit_in g log m j permitted first in
      let y = submit_in g log n k permitted second in
      let now_x : IsPermitted g (Submitted x.at m ∷ x.rest) = permitted_before g x.later (Submitted x.at m ∷ x.rest) (subst (IsPermitted g) x.is permitted) in
      let now_y : IsPermitted g (Submitted y.at n ∷ y.rest) = permitted_before g y.later (Submitted y.at n ∷ y.rest) (subst (IsPermitted g) y.is permitted) in
      let given_x = given_at g x.rest x.at m now_x in
      let given_y = given_at g y.rest y.at n now_y in
      let law_x : IsLawful g (Mark (Submit given_x.number) ∷ given_x.earlier) =
      subst (IsLawful g) given_x.is (lawful_before g x.later (Submitted x.at m ∷ x.rest) (subst (IsLawful g) x.is lawful)).1 in
      let law_y : IsLawful g (Mark (Submit given_y.number) ∷ given_y.earlier) =
      subst (IsLawful g) given_y.is (lawful_before g y.later (Submitted y.at n ∷ y.rest) (subst (IsLawful g) y.is lawful)).1 in
      let earlier = marked_first m n given_y.earlier given_y.number.0 law_y given_y.number_is other s in
      elim (compare x.later y.later (Submitted x.at m) (Submitted y.at n) x.rest y.rest (sym x.is ∙ y.is)) [
        | inl same ↦ absurd (other (let e : Submitted x.at m ≡ Submitted y.at n = same.1 in cc))
        | inr apart ↦ elim apart [
          | inl behind ↦
              let rises = place_rises behind.between (Submitted x.at m) x.rest (Submission (txn_no m)) refl in
              let place : length (history y.rest) ≡ length (history (behind.between ++ Submitted x.at m ∷ x.rest)) =
              ap (λ (l : Log). length (history l)) behind.is in
              let at_x = x.place_is in
              let at_y = y.place_is in
              omega (arith, rises, place, at_x, at_y)
          | inr before ↦ absurd (
              let enough : 1 ≤ marked m given_x.earlier =
              again m n x.at y.at before.between x.rest y.rest given_x.number given_y.number
              given_x.earlier given_y.earlier (sym before.is ∙ given_x.is) given_y.is earlier in
              let count = (left_is g m (Mark (Submit given_x.number) ∷ given_x.earlier) law_x).all in
              let own : submits_by m (Submit given_x.number) ≡ 1 = ap (λ (i : ℕ). one_if (i == m)) given_x.number_is ∙ own_mark m in
              let few = once m in
              omega (arith, enough, count, own, few))
        ]
      ]
