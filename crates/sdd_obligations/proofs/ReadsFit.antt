-- What a READ says: its conditions are on classes of the catalogue and ascend by class, its uses ascend by number, and its
-- module has copies of their fragments.
use Rattle.sdd_obligations.proofs.All.{Act, All-from_recursion, AllByRecursion, AllGt, AllLe, Bool, Catalogue, Cond, Condition, D, Delete, Did, DmNo, Each, FragNo, Hand, Input, IsFair, IsHere, IsPermitted, IsReadable, IsStep, IsStrict, List, Msg, Option, Put, Query, Queued, Read, RelNo, Setting, Site, Some, Stmt, Update, Use, [], ap, arith, ascending, both, bound, commit_puts, cond, cond_of, condition_class, condition_on, conditions, conditions_at, cons_option, current_era, dm_no, each_at, eqb-true, false, filter, filter_map, frag_no, fragments_in, fragments_of, gt_down, hand_was_put, handed, has_copy, home, home_fair, if_way, in_if, in_none, in_one, is_a_read, is_asked, is_read_at, length, local_of, map, modules_asked, never, next_stamp, option_eq, part_uses, puts_to, range_with_len, reads_at, refl, same_number, sends_of_act, served_read, setting_of, slice_get, start_read, statement_uses, step_way, subst, suc, sym, the_one, to_site, true, undeclared_conditions, use_there, uses_from, uses_of, was_put, with_frags, zero, ℕ, ◌&&◌, ◌++◌, ◌+◌, ◌<◌, ◌==◌, ◌∙◌, ◌∷◌, ◌≡◌, ◌≤◌}
use Rattle.sdd_obligations.proofs.Ascending.{conditions_strict, strict_ascends}
use Rattle.sdd_obligations.proofs.QuestionsComeInTurn.{strict_asked}
use Rattle.sdd_obligations.proofs.FirstSends.{IsFirstEach, IsFirstSend}
use Rattle.sdd_obligations.proofs.Modules.{sent_to_each}
use Rattle.sdd_obligations.proofs.Sources.{home_first, question_home}
use Rattle.sdd_obligations.proofs.Replying.{asks_no_a_read as asks_no_read}
use Rattle.sdd_invariants.specs.site_module.SiteLog.{Log}
use Rattle.sdd_invariants.specs.catalog.Rules as catalogues
use Rattle.sdd_invariants.specs.protocol.declared.entry.Entry as line
use Rattle.sdd_invariants.specs.logs.Entries as all

-- conditions are on classes of the catalogue

abbrev IsOn : ℕ → Cond → Type 0
IsOn n q = q.class.0 ≤ n

conds_in_range : (f : ℕ → Option Cond) (a n bound : ℕ) → ((j : ℕ) (q : Cond) → f j ≡ Some q → q.class.0 ≡ j) → a + n ≤ suc bound
    → AllByRecursion (IsOn bound) (filter_map f (range_with_len a n))
conds_in_range f a zero bound g l = tt
conds_in_range f a (suc n) bound g l = grind (arith, (conds_in_range f (a + 1) n bound g (omega (arith, l))))

undeclared_in_range : (own : ℕ) (fs : List FragNo) (a n bound : ℕ) → a + n ≤ suc bound
    → AllByRecursion (IsOn bound) (map (λ c. cond_of c own fs) (range_with_len a n))
undeclared_in_range own fs a zero bound l = tt
undeclared_in_range own fs a (suc n) bound l = (omega (arith, l), undeclared_in_range own fs (a + 1) n bound (omega (arith, l)))

conditions_here : (cat : Catalogue) (table : List line.Entry) (c : ℕ) (frags : List ℕ) (own p2 d : ℕ)
    → AllByRecursion (IsOn (length cat.classes)) (conditions_at cat table c frags own p2 d)
conditions_here cat table c frags own p2 d =
    if_way (AllByRecursion (IsOn (length cat.classes))) (c == 0) (undeclared_conditions cat own) (conditions cat table c d (map frag_no frags) own p2)
    (undeclared_in_range own (map frag_no (fragments_of cat)) 1 (length cat.classes) (length cat.classes) (omega arith))
    (conds_in_range (condition_on (is_asked cat c d (map frag_no frags)) table c own p2) 1
    (length cat.classes) (length cat.classes) (condition_class (is_asked cat c d (map frag_no frags)) table c own p2) (omega arith))

-- uses are numbered upwards

abbrev numbers : List Use → List ℕ
numbers us = map (λ (u : Use). u.number) us

part_above : (cat : Catalogue) (before k : ℕ) (conds : List Condition) (part : ℕ) (rels : List RelNo) → k < before + part
    → AllGt k (numbers (part_uses cat before conds part rels))
part_above cat before k conds part [] l = tt
part_above cat before k conds part (r ∷ rels) l = (l, part_above cat before k conds (part + 1) rels (omega (arith, l)))

part_strict : (cat : Catalogue) (before : ℕ) (conds : List Condition) (part : ℕ) (rels : List RelNo) → IsStrict (numbers (part_uses cat before conds part rels))
part_strict cat before conds part [] = tt
part_strict cat before conds part (r ∷ rels) =
    (part_above cat before (before + part) conds (part + 1) rels (omega arith), part_strict cat before conds (part + 1) rels)

part_within : (cat : Catalogue) (before : ℕ) (conds : List Condition) (part : ℕ) (rels : List RelNo) (n : ℕ)
    → before + part + length (part_uses cat before conds part rels) ≤ suc n → AllLe n (numbers (part_uses cat before conds part rels))
part_within cat before conds part [] n l = tt
part_within cat before conds part (r ∷ rels) n l = (omega (arith, l), part_within cat before conds (part + 1) rels n (omega (arith, l)))

record AreNumbered (before : ℕ) (us : List Use) : Type 0 where
  above : AllGt before (numbers us)
  strict : IsStrict (numbers us)
  within : AllLe (before + length us) (numbers us)

parts_numbered : (cat : Catalogue) (before : ℕ) (conds : List Condition) (rels : List RelNo) → AreNumbered before (part_uses cat before conds 1 rels)
parts_numbered cat before conds rels = record {
  above = part_above cat before before conds 1 rels (omega arith);
  strict = part_strict cat before conds 1 rels;
  within = part_within cat before conds 1 rels (before + length (part_uses cat before conds 1 rels)) (omega arith);
}

statement_numbered : (cat : Catalogue) (before : ℕ) (s : Stmt) → AreNumbered before (statement_uses cat before s)
statement_numbered cat before s = grind (arith, parts_numbered)

gt_join : (k : ℕ) (xs ys : List ℕ) → AllGt k xs → AllGt k ys → AllGt k (xs ++ ys)
gt_join k [] ys h i = i
gt_join k (x ∷ xs) ys h i = (h.0, gt_join k xs ys h.1 i)

strict_join : (k : ℕ) (xs ys : List ℕ) → IsStrict xs → AllLe k xs → IsStrict ys → AllGt k ys → IsStrict (xs ++ ys)
strict_join k [] ys h l i g = i
strict_join k (x ∷ xs) ys h l i g = (gt_join x xs ys h.0 (gt_down x k ys l.0 g), strict_join k xs ys h.1 l.1 i g)

numbers_append : (us vs : List Use) → numbers (us ++ vs) ≡ numbers us ++ numbers vs
numbers_append [] vs = refl
numbers_append (u ∷ us) vs = ap (λ l. u.number ∷ l) (numbers_append us vs)

all_numbered : (cat : Catalogue) (before : ℕ) (ss : List Stmt) → AllGt before (numbers (uses_from cat before ss)) × IsStrict (numbers (uses_from cat before ss))
all_numbered cat before [] = (tt, tt)
all_numbered cat before (s ∷ rest) =
    let found : List Use = statement_uses cat before s in
    let h = statement_numbered cat before s in
    let i = all_numbered cat (before + length found) rest in
    let more : List Use = uses_from cat (before + length found) rest in (grind (arith, numbers_append, gt_join, numbers, gt_down, strict_join))

-- and stay so at a module

there_above : (cat : Catalogue) (c d k : ℕ) (us : List Use) → AllGt k (numbers us) → AllGt k (numbers (filter_map (use_there cat c d) us))
there_above cat c d k [] h = tt
there_above cat c d k (u ∷ us) h = grind (arith, is_read_at, use_there, there_above cat c d k us h.1)

there_strict : (cat : Catalogue) (c d : ℕ) (us : List Use) → IsStrict (numbers us) → IsStrict (numbers (filter_map (use_there cat c d) us))
there_strict cat c d [] h = tt
there_strict cat c d (u ∷ us) h =
    elim (filter (λ (f : FragNo). is_read_at cat c d f.0) u.frags) as (λ l. IsStrict
    (numbers (cons_option (with_frags u l) (filter_map (use_there cat c d) us)))) [
      | [] ↦ there_strict cat c d us h.1
      | f ∷ fs ↦ (there_above cat c d u.number us h.0, there_strict cat c d us h.1)
    ]

-- fragments of uses are of the catalogue, and the module has copies of those that are read there

abbrev IsFragment : Catalogue → FragNo → Type 0
IsFragment cat f = (1 ≤ f.0) × (f.0 ≤ length cat.fragments)

abbrev AreFragments : Catalogue → Use → Type 0
AreFragments cat u = AllByRecursion (IsFragment cat) u.frags

frags_in_range : (cat : Catalogue) (p : ℕ → Bool) (a n : ℕ) → 1 ≤ a → a + n ≤ suc (length cat.fragments)
    → AllByRecursion (IsFragment cat) (map frag_no (filter p (range_with_len a n)))
frags_in_range cat p a zero h l = tt
frags_in_range cat p a (suc n) h l = grind (arith, (frags_in_range cat p (a + 1) n (omega arith) (omega (arith, l))))

parts_placed : (cat : Catalogue) (before : ℕ) (conds : List Condition) (part : ℕ) (rels : List RelNo)
    → AllByRecursion (AreFragments cat) (part_uses cat before conds part rels)
parts_placed cat before conds part [] = tt
parts_placed cat before conds part (r ∷ rels) = grind (arith, frags_in_range, (parts_placed cat before conds (part + 1) rels))

statement_placed : (cat : Catalogue) (before : ℕ) (s : Stmt) → AllByRecursion (AreFragments cat) (statement_uses cat before s)
statement_placed cat before (Put rel row) = tt
statement_placed cat before (Query out rels conds) = parts_placed cat before conds 1 rels
statement_placed cat before (Update rel sets conds) = parts_placed cat before conds 1 (rel ∷ [])
statement_placed cat before (Delete rel conds) = parts_placed cat before conds 1 (rel ∷ [])

join_placed : (cat : Catalogue) (us vs : List Use) → AllByRecursion (AreFragments cat) us → AllByRecursion (AreFragments cat) vs
    → AllByRecursion (AreFragments cat) (us ++ vs)
join_placed cat [] vs h i = i
join_placed cat (u ∷ us) vs h i = (h.0, join_placed cat us vs h.1 i)

all_placed : (cat : Catalogue) (before : ℕ) (ss : List Stmt) → AllByRecursion (AreFragments cat) (uses_from cat before ss)
all_placed cat before [] = tt
all_placed cat before (s ∷ rest) = grind (arith, join_placed, statement_placed, (all_placed cat (before + length (statement_uses cat before s)) rest))

pub same_option : (o : Option ℕ) (d : ℕ) → option_eq ◌==◌ o (Some d) ≡ true → o ≡ Some d
same_option o d e = grind (arith, eqb-true)

copies_there : (cat : Catalogue) (c d : ℕ) (fs : List FragNo) → catalogues.IsSoundCatalogue cat → c ≤ length cat.classes → AllByRecursion (IsFragment cat) fs
    → AllByRecursion (λ (f : FragNo). has_copy cat d f.0 ≡ true) (filter (λ (f : FragNo). is_read_at cat c d f.0) fs)
copies_there cat c d [] sound l h = tt
copies_there cat c d (f ∷ fs) sound l h =
    let i = copies_there cat c d fs sound l h.1 in
    elim (is_read_at cat c d f.0) as (λ b. is_read_at cat c d f.0 ≡ b
    → AllByRecursion (λ (f : FragNo). has_copy cat d f.0 ≡ true)
    (cond b (f ∷ filter (λ (f : FragNo). is_read_at cat c d f.0) fs)
    (filter (λ (f : FragNo). is_read_at cat c d f.0) fs))) [
      | true ↦ λ e. ((served_read cat c f.0 d sound l h.0.0 h.0.1 (same_option (reads_at cat c f.0) d e)).copy, i)
      | false ↦ λ e. i
    ] refl

uses_here : (s : Setting) (cat : Catalogue) (c d : ℕ) (us : List Use)
    → ((u : Use) → AllByRecursion (λ (f : FragNo). has_copy cat d f.0 ≡ true) u.frags → IsHere s u)
    → catalogues.IsSoundCatalogue cat → c ≤ length cat.classes → AllByRecursion (AreFragments cat) us → AllByRecursion (IsHere s) (filter_map (use_there cat c d) us)
uses_here s cat c d [] g sound l h = tt
uses_here s cat c d (u ∷ us) g sound l h =
    let i = uses_here s cat c d us g sound l h.1 in
    elim (filter (λ (f : FragNo). is_read_at cat c d f.0) u.frags) as (λ fs. AllByRecursion
    (λ (f : FragNo). has_copy cat d f.0 ≡ true) fs → AllByRecursion (IsHere s)
    (cons_option (with_frags u fs) (filter_map (use_there cat c d) us))) [
      | [] ↦ λ j. i
      | f ∷ fs ↦ λ j. (g (record u { frags = f ∷ fs }) j, i)
    ] (copies_there cat c d u.frags sound l h.0)

-- the READ of a Start

record IsReadOf (s : Setting) (log : Log) (d : ℕ) (m : Msg) : Type 0 where
  class : ℕ
  queued : Queued
  here : class ≤ length s.catalogue.classes
  is : start_read s class log queued d ≡ m

act_read : (s : Setting) (log : Log) (act : Act) (d place : ℕ) (m : Msg) → IsStep s log act → IsFirstSend s log act
    → slice_get (to_site (D (dm_no d)) (sends_of_act act)) place ≡ Some m → is_a_read m ≡ true → IsReadOf s log d m
act_read s log act d place m i first =
    step_way s log act (λ x. IsFirstSend s log x
    → slice_get (to_site (D (dm_no d)) (sends_of_act x)) place ≡ Some m → is_a_read m ≡ true
    → IsReadOf s log d m)
    (λ k q at f e. λ first there r. record {
      class = k;
      queued = q;
      here = first;
      is = (in_if _ (start_read s k log q d) place m (subst (λ l. slice_get l place ≡ Some m)
          (sent_to_each (start_read s k log q) (modules_asked s k q.text) d (strict_asked s k q)) there)).1;
    })
    (grind (arith, commit_puts, dm_no, in_none, never, is_a_read, in_one))
    (λ to x hand f. λ first there r. never (is_a_read m) r (sym (ap is_a_read (the_one (D (dm_no d)) to x place m there).1) ∙ (grind (arith, asks_no_read)))) i first

-- of setting and catalogue of what is given
start_fits : (g : Input) (at : Site) (d : DmNo) (log : Log) (class : ℕ) (q : Queued) → catalogues.IsSoundCatalogue g.catalogue
    → class ≤ length g.catalogue.classes → IsReadable (setting_of g (D d)) (start_read (setting_of g at) class log q d.0)
start_fits g at d log class q sound l = record {
  is_class = l;
  conditions = All-from_recursion (IsOn (length g.catalogue.classes)) _
      (conditions_here g.catalogue (current_era (setting_of g at) log).table class
      (ascending (fragments_in (uses_of g.catalogue q.text))) (next_stamp (setting_of g at) log) (bound (setting_of g at) log) d.0);
  classes_ascend = grind (arith, strict_ascends, conditions_strict, current_era, setting_of, ascending, fragments_in, uses_of, next_stamp, bound);
  uses_ascend = strict_ascends (numbers (filter_map (use_there g.catalogue class d.0)
      (uses_of g.catalogue q.text))) (there_strict g.catalogue class d.0 (uses_of g.catalogue q.text) (all_numbered g.catalogue 0 q.text.statements).1);
  here = All-from_recursion (IsHere (setting_of g (D d))) _
      (uses_here (setting_of g (D d)) g.catalogue class d.0 (uses_of g.catalogue q.text)
      (λ u h. All-from_recursion (λ (f : FragNo). has_copy g.catalogue d.0 f.0 ≡ true) u.frags h) sound l (all_placed g.catalogue 0 q.text.statements));
}

read_at : (g : Input) (at : Site) (d : DmNo) (log : Log) (m : Msg) → catalogues.IsSoundCatalogue g.catalogue → IsReadOf (setting_of g at) log d.0 m
    → IsReadable (setting_of g (D d)) m
read_at g at d log m sound r = subst (IsReadable (setting_of g (D d))) r.is (start_fits g at d log r.class r.queued sound r.here)

-- a READ that is next to be handed over
pub reads_are_readable : (g : Input) (log : all.Log) (a : Site) (d : DmNo) (n : ℕ) (m : Msg) → IsPermitted g (Hand a (D d) n m ∷ log)
    → catalogues.IsSoundCatalogue g.catalogue → IsReadable (setting_of g (D d)) m
reads_are_readable g log a d n (Read t k txn attempt conds uses) h sound =
    let m : Msg = Read t k txn attempt conds uses in
    let own : ((t.0 == t.0) && (k.0 == k.0)) ≡ true = both (t.0 == t.0) (k.0 == k.0) (same_number t.0) (same_number k.0) in
    let put = (hand_was_put g log a (D d) n m h.0).1 in
    let from : home g.catalogue k.0 ≡ a = question_home g a (D d) log (handed a (D d) log) m t.0 k.0 h.1 put own in
    let at : Site = home g.catalogue k.0 in
    let s : Setting = setting_of g at in
    let l : Log = local_of g at log in
    let p = was_put (D d) l (handed a (D d) log) m (subst (λ x. slice_get (puts_to (D d) (local_of g x log)) (handed a (D d) log) ≡ Some m) (sym from) put) in
    let q = each_at (IsFair s) p.later (Did p.act) p.before (subst (Each (IsFair s)) p.is (home_fair g k.0 log h.1)) in
    let r = each_at (IsFirstEach s) p.later (Did p.act) p.before (subst (Each (IsFirstEach s)) p.is (home_first g k.0 log h.1)) in
    read_at g at d p.before m sound (act_read s p.before p.act d.0 p.place m q.0 r.0 p.there refl)
reads_are_readable g log a d n m h sound = tt
