-- The first fault of ranges in order.
use Rattle.sdd_catalog.proofs.All.{CatFault, CatRule, KeyRange, List, None, Option, RangeGap, Some, ap, arith, drop, drop_all, drop_more, faults_after, faults_at, get_or, greatest_key, head_of, int_lt, length, next_rules, option_map, or_else, sym, when, ℕ, ◌+◌, ◌<◌, ◌∙◌, ◌≡◌, ◌≤◌}
use Rattle.sdd_catalog.proofs.Firsts.{head_of-append, head_of_map}
use Rattle.sdd_catalog.specs.declared.fault.Part.TheVariants.{Fragment}

pub after_split : (last : KeyRange) (items : List KeyRange) (i : ℕ) (x : KeyRange) → x ≡ get_or items i x → i < length items
    → head_of (faults_after last (drop i items)) ≡ or_else (head_of (faults_at Fragment x.number (next_rules last.to x.from))) (head_of (faults_after x (drop (i + 1) items)))
after_split last items i x is within = grind (arith, drop_more, head_of-append)

-- a range that breaks no rule is passed
pub after_next : (all : Option CatFault) (last : KeyRange) (items : List KeyRange) (i : ℕ) (x : KeyRange) → x ≡ get_or items i x → i < length items
    → None ≡ head_of (next_rules last.to x.from) → all ≡ head_of (faults_after last (drop i items))
    → all ≡ head_of (faults_after x (drop (i + 1) items))
after_next all last items i x is within e known =
    known ∙ after_split last items i x is within
    ∙ ap (λ o. or_else o (head_of (faults_after x (drop (i + 1) items)))) (head_of_map _ (next_rules last.to x.from) ∙ ap (option_map _) (sym e))

-- one that breaks a rule is the first fault
pub after_fault : (all : Option CatFault) (last : KeyRange) (items : List KeyRange) (i : ℕ) (x : KeyRange) (rule : CatRule) → x ≡ get_or items i x
    → i < length items → Some rule ≡ head_of (next_rules last.to x.from) → all ≡ head_of (faults_after last (drop i items))
    → Some (record { rule = rule; part = Fragment; number = x.number }) ≡ all
after_fault all last items i x rule is within e known =
    sym (known ∙ after_split last items i x is within
    ∙ ap (λ o. or_else o (head_of (faults_after x (drop (i + 1) items)))) (head_of_map _ (next_rules last.to x.from) ∙ ap (option_map _) (sym e)))

-- past the last range
pub after_last : (all : Option CatFault) (last : KeyRange) (items : List KeyRange) (i : ℕ) → length items ≤ i
    → all ≡ head_of (faults_after last (drop i items)) → head_of (faults_at Fragment last.number (when (int_lt last.to greatest_key) RangeGap)) ≡ all
after_last all last items i past known = sym (known ∙ ap (λ xs. head_of (faults_after last xs)) (drop_all i items past))
