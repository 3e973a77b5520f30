-- What transactions use is there: relations, fragments, the modules that are asked, and what conditions name.
use Rattle.sdd_lawful.proofs.All.{All-from_recursion, AllByRecursion, Bool, Catalogue, Cond, CondExists, Condition, Delete, FitsStatement, FragNo, IsClass, IsFragment, IsModule, IsRelation, IsSoundCatalogue, IsThere, List, P2, P3, Protocol, Put, Query, RelNo, Restriction, Some, Stmt, Update, Use, UseExists, [], all_join, all_numbers, and_left, and_right, ap, arith, ascending, asked_by, asked_in, classes_of, cond_of, condition_is, condition_on, conditions_at, contains, contains_at, false, filter_map, frag_no, fragments_for, fragments_in, fragments_of, fragments_there, from_ascending, in_mapped, in_range, inl, inr, is_asked, is_read_at, length, list_any, map, member_at, modules_of, number_member, numbers_to, only_right, part_uses, reads_at, recursion_from_All, refl, restrictions_of, same_or_not, same_protocol, served_read, slice_get, statement_uses, subst, suc, sym, true, true_or_false, use_of, uses_from, ℕ, ◌+◌, ◌==◌, ◌||◌, ◌∷◌, ◌≡◌, ◌≤◌}
use Rattle.sdd_lawful.proofs.Asks.{contains_either}
use Rattle.sdd_lawful.proofs.Conditions.{in_filter_mapped}
use Rattle.sdd_invariants.specs.protocol.declared.entry.Entry as line

-- uses

use_exists : (cat : Catalogue) (n : ℕ) (rel : RelNo) (restrictions : List Restriction) → IsRelation cat rel.0 → UseExists cat (use_of cat n rel restrictions)
use_exists cat n rel restrictions h = (
  h,
  All-from_recursion (λ (f : FragNo). IsFragment cat f.0) (fragments_for cat rel.0 restrictions)
      (all_numbers (IsThere cat) (fragments_for cat rel.0 restrictions) (fragments_there cat rel.0 restrictions)),
)

parts_exist : (cat : Catalogue) (before : ℕ) (conds : List Condition) (part : ℕ) (rels : List RelNo)
    → AllByRecursion (λ (rel : RelNo). IsRelation cat rel.0) rels → AllByRecursion (UseExists cat) (part_uses cat before conds part rels)
parts_exist cat before conds part [] h = tt
parts_exist cat before conds part (rel ∷ rels) h =
    (use_exists cat (before + part) rel (restrictions_of part conds) h.0, parts_exist cat before conds (part + 1) rels h.1)

statement_exists : (cat : Catalogue) (before : ℕ) (s : Stmt) → FitsStatement cat s → AllByRecursion (UseExists cat) (statement_uses cat before s)
statement_exists cat before (Put rel row) h = tt
statement_exists cat before (Query out rels conds) h = parts_exist cat before conds 1 rels (recursion_from_All (λ (rel : RelNo). IsRelation cat rel.0) rels h.1)
statement_exists cat before (Update rel sets conds) h = parts_exist cat before conds 1 (rel ∷ []) (h.0, tt)
statement_exists cat before (Delete rel conds) h = parts_exist cat before conds 1 (rel ∷ []) (h.0, tt)

pub uses_exist : (cat : Catalogue) (before : ℕ) (statements : List Stmt) → AllByRecursion (FitsStatement cat) statements
    → AllByRecursion (UseExists cat) (uses_from cat before statements)
uses_exist cat before [] h = tt
uses_exist cat before (s ∷ rest) h = grind (arith, all_join, statement_exists, (uses_exist cat (before + length (statement_uses cat before s)) rest h.1))

-- the fragments of uses

each_frag : (cat : Catalogue) (fs : List FragNo) (f : ℕ) → AllByRecursion (λ (g : FragNo). IsFragment cat g.0) fs
    → contains (map (λ (g : FragNo). g.0) fs) f ≡ true → IsFragment cat f
each_frag cat [] f h e = cc
each_frag cat (g ∷ fs) f h e = elim (same_or_not g.0 f) [
  | inl p ↦ subst (IsFragment cat) p h.0
  | inr p ↦ each_frag cat fs f h.1 (only_right (g.0 == f) (contains (map (λ (g : FragNo). g.0) fs) f) p e)
]

pub fragment_exists : (cat : Catalogue) (us : List Use) (f : ℕ) → AllByRecursion (UseExists cat) us → contains (fragments_in us) f ≡ true → IsFragment cat f
fragment_exists cat [] f h e = cc
fragment_exists cat (u ∷ us) f h e = elim (contains_either (map (λ (g : FragNo). g.0) u.frags) (fragments_in us) f e) [
  | inl p ↦ each_frag cat u.frags f (recursion_from_All (λ (g : FragNo). IsFragment cat g.0) u.frags h.0.1) p
  | inr p ↦ fragment_exists cat us f h.1 p
]

-- the modules that are asked

numbers_within : (n d : ℕ) → contains (numbers_to n) d ≡ true → (1 ≤ d) × (d ≤ n)
numbers_within n d e =
    let m = member_at (numbers_to n) d (number_member (numbers_to n) d e) in
    let r = in_range 1 n m.0 d m.1 in let hi = r.1 in (r.0, omega arith)

pub module_exists : (cat : Catalogue) → IsSoundCatalogue cat → (c : ℕ) (us : List Use) (d : ℕ) → c ≤ length cat.classes → AllByRecursion (UseExists cat) us
    → contains (modules_of cat c (ascending (fragments_in us))) d ≡ true → IsModule cat d
module_exists cat sound c us d within exist e = elim (same_or_not c 0) [
  | inl p ↦ (let q : (c == 0) ≡ true = ap (λ y. y == 0) p in numbers_within cat.dms d (rw q at e))
  | inr p ↦ (let fs : List ℕ = ascending (fragments_in us) in
      let there = from_ascending (filter_map (reads_at cat c) fs) d (number_member (ascending (filter_map (reads_at cat c) fs)) d (rw p at e)) in
      let m = member_at (filter_map (reads_at cat c) fs) d (number_member (filter_map (reads_at cat c) fs) d there) in
      let x = in_filter_mapped (reads_at cat c) fs m.0 d m.1 in
      let f = fragment_exists cat us x.1 exist (from_ascending (fragments_in us) x.1 (number_member fs x.1 (contains_at fs x.0 x.1 x.2))) in
      let s = served_read cat c x.1 d sound within f.0 f.1 x.3 in
      (s.module_from, s.module_to))
]

-- what conditions name

named : (frags : List ℕ) (f : ℕ) → list_any (λ (g : FragNo). g.0 == f) (map frag_no frags) ≡ true → contains frags f ≡ true
named [] f e = e
named (g ∷ frags) f e =
    elim (g == f) as (λ b. (b || list_any (λ (g : FragNo). g.0 == f)
    (map frag_no frags)) ≡ true → (b || contains frags f) ≡ true) [ true ↦ λ h. refl | false ↦ λ h. named frags f h ] e

by_place : (cat : Catalogue) (fs : List FragNo) → ((k : ℕ) (f : FragNo) → slice_get fs k ≡ Some f → IsFragment cat f.0)
    → AllByRecursion (λ (f : FragNo). IsFragment cat f.0) fs
by_place cat [] h = tt
by_place cat (f ∷ fs) h = (h 0 f refl, by_place cat fs (λ k g e. h (suc k) g e))

asked_entry : (protocol : Protocol) (p : ℕ → Bool) (i j : ℕ) (e : line.Entry) (f : FragNo) → asked_in protocol p i j e ≡ Some f → p f.0 ≡ true
asked_entry protocol p i j e f h = grind (arith, true_or_false, same_protocol, and_right)

pub asked_exist : (cat : Catalogue) (c d : ℕ) (frags : List ℕ) (protocol : Protocol) (table : List line.Entry) (i j : ℕ)
    → ((f : ℕ) → contains frags f ≡ true → IsFragment cat f)
    → AllByRecursion (λ (f : FragNo). IsFragment cat f.0) (asked_by protocol (is_asked cat c d (map frag_no frags)) table i j)
asked_exist cat c d frags protocol table i j h =
    by_place cat (asked_by protocol (is_asked cat c d (map frag_no frags)) table i j) (λ k f e.
    let x = in_filter_mapped (asked_in protocol (is_asked cat c d (map frag_no frags)) i j) table k f e in
    let t = asked_entry protocol (is_asked cat c d (map frag_no frags)) i j x.1 f x.3 in
    h f.0 (named frags f.0 (and_left (list_any (λ (g : FragNo). g.0 == f.0) (map frag_no frags)) (is_read_at cat c d f.0) t)))

all_numbered : (cat : Catalogue) (ns : List ℕ) → ((k n : ℕ) → slice_get ns k ≡ Some n → IsFragment cat n)
    → AllByRecursion (λ (f : FragNo). IsFragment cat f.0) (map frag_no ns)
all_numbered cat [] h = tt
all_numbered cat (n ∷ ns) h = (h 0 n refl, all_numbered cat ns (λ k m e. h (suc k) m e))

pub cond_exists : (cat : Catalogue) (table : List line.Entry) (class : ℕ) (frags : List ℕ) (own p2 d k : ℕ) (q : Cond)
    → ((f : ℕ) → contains frags f ≡ true → IsFragment cat f) → slice_get (conditions_at cat table class frags own p2 d) k ≡ Some q → CondExists cat q
cond_exists cat table class frags own p2 d k q h e = elim (same_or_not class 0) [
  | inl p ↦ (let i = in_mapped (λ j. cond_of j own (map frag_no (fragments_of cat))) (classes_of cat) k q (rw (ap (λ y. y == 0) p) at e) in
      let high = (in_range 1 (length cat.classes) k i.0 i.1).1 in
      let all = all_numbered cat (fragments_of cat) (λ n m f. let z = in_range 1 (length cat.fragments) n m f in let hi = z.1 in (z.0, omega arith)) in
      subst (CondExists cat) i.2 (omega arith, All-from_recursion (λ (f : FragNo). IsFragment cat f.0) (map frag_no (fragments_of cat)) all))
  | inr p ↦ (let test = is_asked cat class d (map frag_no frags) in
      let i = in_filter_mapped (condition_on test table class own p2) (classes_of cat) k q (rw p at e) in
      let high = (in_range 1 (length cat.classes) i.0 i.1 i.2).1 in
      let is_class : IsClass cat i.1 = omega arith in
      let exist = λ (protocol : Protocol). All-from_recursion (λ (f : FragNo). IsFragment cat f.0) (asked_by protocol test table class i.1)
      (asked_exist cat class d frags protocol table class i.1 h) in
      elim (condition_is test table class own p2 i.1 q i.3) [
        | inl a ↦ subst (CondExists cat) (sym a.is) (is_class, exist P3)
        | inr a ↦ subst (CondExists cat) (sym a.is) (is_class, exist P2)
      ])
]
