-- Which class list is in force where a transaction is submitted: that which the `redeclare`s before its event put in
-- force.
use Rattle.sdd_verified.proofs.All.{AllFewTicks, AreSubmittedOnce, Event, Input, IsLawful, IsPermitted, IsSubmitted, List, Log, Mark, Redeclares, Site, Submit, Submitted, [], ap, append_assoc, arith, count_join, done, given_at, history, inl, inr, lawful_before, lawful_permitted, left, left_is, length, one_if, permitted_before, redeclares, redeclares_in, submit_in, submits_by, submits_in, subst, sym, ℕ, ◌++◌, ◌+◌, ◌==◌, ◌∙◌, ◌∷◌, ◌≡◌, ◌≤◌}
use Rattle.sdd_verified.proofs.ClassPlaces.{before_any, behind_front, redeclared_at}
use Rattle.sdd_verified.proofs.Submitting.{own_mark, submits_append, two_fronts}

-- earlier there are no more
pub redeclares_before : (later before : Log) → redeclares before ≤ redeclares (later ++ before)
redeclares_before [] before = omega arith
redeclares_before (Redeclares t ∷ later) before = let h = redeclares_before later before in omega (arith, h)
redeclares_before (_ ∷ later) before = redeclares_before later before

-- the entry at which transaction n is submitted, with the list in force there
pub record IsSubmittedWith (g : Input) (log : Log) (n place : ℕ) : Type 0 where
  pub later : Log
  pub at : Site
  pub rest : Log
  pub is : log ≡ later ++ Submitted at n ∷ rest
  pub place_is : length (history rest) ≡ place
  pub lists_are : redeclares rest ≡ redeclared_at n 0 g.events
  pub few : redeclares rest ≤ redeclares log

-- of events parted twice, where the transaction is submitted between and no list put in force
parted : (n k : ℕ) (events front rest first others : List Event) → events ≡ front ++ rest → events ≡ first ++ others
    → submits_in n first ≡ 0 → 1 ≤ submits_in n front → k ≡ redeclares_in first → k ≡ redeclares_in front → k ≡ redeclared_at n 0 events
parted n k events front rest first others is also none some a b =
    elim (two_fronts first others front rest (sym also ∙ is)) [
      | inl p ↦
          let zs : List Event = p.0 in
          let count : submits_in n front ≡ submits_in n first + submits_in n zs = ap (submits_in n) p.1 ∙ submits_append n first zs in
          let lists : redeclares_in front ≡ redeclares_in first + redeclares_in zs = ap redeclares_in p.1 ∙ count_join first zs in
          let no_list : redeclares_in zs ≡ 0 = omega (arith, lists, a, b) in
          let here : 1 ≤ submits_in n zs = omega (arith, count, none, some) in
          let whole : events ≡ first ++ (zs ++ rest) =
          is ∙ ap (λ (l : List Event). l ++ rest) p.1 ∙ append_assoc first zs rest in
          let at : redeclared_at n 0 events ≡ redeclares_in first + 0 =
          ap (redeclared_at n 0) whole ∙ behind_front n 0 first (zs ++ rest) none ∙ before_any n (redeclares_in first + 0) zs rest no_list here in
          omega (arith, at, a)
      | inr p ↦
          let count : submits_in n first ≡ submits_in n front + submits_in n p.0 = ap (submits_in n) p.1 ∙ submits_append n front p.0 in
          absurd (omega (arith, count, none, some))
    ]

module _ (g : Input) (log : Log) (lawful : IsLawful g log) (once : AreSubmittedOnce g.events) (few : AllFewTicks g.events) where
  permitted : IsPermitted g log
  permitted = lawful_permitted g log once lawful

  at_mark : (n k : ℕ) (earlier : Log) → IsLawful g (Mark (Submit (record { 0 = k })) ∷ earlier) → k ≡ n → redeclares earlier ≡ redeclared_at n 0 g.events
  at_mark n k earlier h same =
      let now : Log = Mark (Submit (record { 0 = k })) ∷ earlier in
      let front = (done g now few h).1 in
      let first = (done g earlier few h.1).1 in
      let all_now = (left_is g n now h).all in
      let all_first = (left_is g n earlier h.1).all in
      let own : submits_by n (Submit (record { 0 = k })) ≡ 1 = ap (λ (x : ℕ). one_if (x == n)) same ∙ own_mark n in
      let most = once n in
      let parts_now : submits_in n g.events ≡ submits_in n front.front + submits_in n (left g.events now).0 =
      ap (submits_in n) front.is ∙ submits_append n front.front (left g.events now).0 in
      let parts_first : submits_in n g.events ≡ submits_in n first.front + submits_in n (left g.events earlier).0 =
      ap (submits_in n) first.is ∙ submits_append n first.front (left g.events earlier).0 in
      parted n (redeclares earlier) g.events front.front (left g.events now).0 first.front (left g.events earlier).0 front.is first.is
      (omega (arith, all_now, all_first, own, most, parts_first)) (omega (arith, all_now, own, parts_now)) first.lists_are front.lists_are

  pub list_at : (n place : ℕ) → IsSubmitted (history log) n place → IsSubmittedWith g log n place
  list_at n place s =
      let x = submit_in g log n place permitted s in
      let now : IsPermitted g (Submitted x.at n ∷ x.rest) = permitted_before g x.later (Submitted x.at n ∷ x.rest) (subst (IsPermitted g) x.is permitted) in
      let given = given_at g x.rest x.at n now in
      let law : IsLawful g (Mark (Submit given.number) ∷ given.earlier) =
      subst (IsLawful g) given.is (lawful_before g x.later (Submitted x.at n ∷ x.rest) (subst (IsLawful g) x.is lawful)).1 in
      let lists : redeclares x.rest ≡ redeclares given.earlier = ap redeclares given.is in
      let back = redeclares_before x.later (Submitted x.at n ∷ x.rest) in
      let all : redeclares log ≡ redeclares (x.later ++ Submitted x.at n ∷ x.rest) = ap redeclares x.is in
      record {
        later = x.later;
        at = x.at;
        rest = x.rest;
        is = x.is;
        place_is = x.place_is;
        lists_are = lists ∙ at_mark n given.number.0 given.earlier law given.number_is;
        few = omega (arith, back, all);
      }
