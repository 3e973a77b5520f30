-- A test that tells that undeclared transactions run alone.
use Rattle.sdd_history_examples.proofs.All.{Bool, Catalogue, Committed, Contains, History, IsCommitted, IsWhollyAfter, IsWhollyBefore, KeepsUndeclared, and_parts, ap, applied_before, committed, eq-eqb, inl, inr, is_applied, list_all, ltb-true, nat_lt, ne_eqb, not, numbers_to, or_cases, true, ℕ, ◌&&◌, ◌==◌, ◌||◌, ◌≡◌}
use Rattle.sdd_history_examples.proofs.Applies.{goes, goes_is, is_answer_of, own_answer}
use Rattle.sdd_history_examples.proofs.Each.{if_so, so, each, all_pairs, each_pair, each_to}
use Rattle.sdd_history_examples.proofs.Listed.{AnswerAt, answers, in_answers}

-- t is wholly before u, which is answered after t is applied

abbrev is_had : Catalogue → History → Committed → Committed → AnswerAt → Bool
is_had cat h t u z = if_so (is_answer_of u.start z) (if_so (goes cat t z.dm) (is_applied h z.dm z.place t.start.txn))

abbrev is_before : Catalogue → History → Committed → Committed → Bool
is_before cat h t u = nat_lt t.start.ts u.start.ts && (nat_lt t.place u.start.place && list_all (is_had cat h t u) (answers h))

-- or wholly after it
abbrev is_after : Catalogue → History → Committed → Committed → Bool
is_after cat h t u = nat_lt u.start.ts t.start.ts && list_all (λ d. is_applied h d t.start.place u.start.txn) (numbers_to cat.dms)

abbrev is_apart : Catalogue → History → Committed → Committed → Bool
is_apart cat h u t = if_so (u.start.class == 0) (if_so (not (u.start.txn == t.start.txn)) (is_before cat h t u || is_after cat h t u))

abbrev pub run_alone : Catalogue → History → Bool
run_alone cat h = all_pairs (is_apart cat h) (committed h) (committed h)

wholly_before : (cat : Catalogue) (h : History) (t u : Committed) → is_before cat h t u ≡ true → IsWhollyBefore cat h t u
wholly_before cat h t u e =
    let rest = list_all (is_had cat h t u) (answers h) in
    let one = and_parts (nat_lt t.start.ts u.start.ts) (nat_lt t.place u.start.place && rest) e in
    let two = and_parts (nat_lt t.place u.start.place) rest one.1 in
    record {
      time = ltb-true t.start.ts u.start.ts one.0;
      committed = ltb-true t.place u.start.place two.0;
      applied = λ d k g a.
          let z : AnswerAt = record { txn = u.start.txn; number = u.start.number; dm = d; place = k } in
          let v = each (is_had cat h t u) (answers h) z two.1 (in_answers h u.start.txn u.start.number d k a) in
          let last = is_applied h d k t.start.txn in
          let w = so (is_answer_of u.start z) (if_so (goes cat t d) last) v (own_answer u.start d k) in
          applied_before h t.start.txn d k (so (goes cat t d) last w (goes_is cat t d g));
    }

wholly_after : (cat : Catalogue) (h : History) (t u : Committed) → is_after cat h t u ≡ true → IsWhollyAfter cat h t u
wholly_after cat h t u e =
    let test : ℕ → Bool = λ d. is_applied h d t.start.place u.start.txn in
    let both = and_parts (nat_lt u.start.ts t.start.ts) (list_all test (numbers_to cat.dms)) e in
    record {
      time = ltb-true u.start.ts t.start.ts both.0;
      applied = λ d m. applied_before h u.start.txn d t.start.place (each_to test cat.dms d both.1 m.0 m.1);
    }

pub keeps_undeclared : (cat : Catalogue) (h : History) → ((t : Committed) → IsCommitted h t → Contains (committed h) t)
    → run_alone cat h ≡ true → KeepsUndeclared cat h
keeps_undeclared cat h there pass =
    record {
      alone = λ u t p q zero n.
          let either = is_before cat h t u || is_after cat h t u in
          let v = each_pair (is_apart cat h) (committed h) (committed h) u t pass (there u p) (there t q) in
          let w = so (u.start.class == 0) (if_so (not (u.start.txn == t.start.txn)) either) v (eq-eqb u.start.class 0 zero) in
          let x = so (not (u.start.txn == t.start.txn)) either w (ap not (ne_eqb u.start.txn t.start.txn n)) in
          elim (or_cases (is_before cat h t u) (is_after cat h t u) x) [
            | inl b ↦ inl (wholly_before cat h t u b)
            | inr a ↦ inr (wholly_after cat h t u a)
          ];
    }
