-- At a data module to which nothing is handed all pipes stay as they are.
use Rattle.sdd_moments.proofs.All.{Act, ArePipesSeen, Bool, Both, Catalogue, D, Deliver, DmNo, Down, Entry, Event, Input, IsBetween, IsGood, IsLawful, IsMark, IsSiteOf, IsThere, List, Log, Lose, Mark, None, Option, PipeMoment, Redeclares, Repeat, Resend, Site, Some, Submit, Submitted, T, Tick, Txn, U, Up, WatchedPipe, [], all_links, and_parts, ap, append-nil, arith, base_of, came, class_for, class_no, cond, dm_no, drop, drop_all, eq-eqb, false, filter, filter_map, handed, if◌then◌else◌, is_changed_pipe, is_empty, is_reached, leb-true, length, list_any, local_of, map, mark_due, nat_le, next_at, next_in, none_at_data, not, nth_era, number_through, pipe, pipe_after, pipe_before, pipes_at_module, redeclares, refl, same_site, setting_of, site_due, site_of, site_self, slice_get, source, suc, sym, takes_at, true, txn_at, watched_pipe, watched_pipes, zero, ℕ, ◌&&◌, ◌++◌, ◌-◌, ◌==◌, ◌∙◌, ◌∷◌, ◌≡◌}
use Rattle.sdd_moments.proofs.Came.{handed_parts, none_still}
use Rattle.sdd_moments.proofs.LeftAlone.{left_alone}
use Rattle.sdd_moments.proofs.LinksLooked.{as_many}
use Rattle.sdd_moments.proofs.Reached.{neither, no_note}
use Rattle.sdd_moments.proofs.Sourced.{source_there}
use Rattle.sdd_moments.specs.Moments.{handed_on}
use Rattle.sdd_progress.specs.obligations.dm.Copies.{classes_of}

-- where nothing is handed to a site, as much is handed over on each link to it

none_at_place : {A : Type 0} (p : A → Bool) (xs : List A) (k : ℕ) (x : A) → list_any p xs ≡ false → slice_get xs k ≡ Some x → p x ≡ false
none_at_place p [] k x e f = absurd (let no : None ≡ Some x = f in cc)
none_at_place p (y ∷ ys) zero x e f = let is : y ≡ x = cc in ap p (sym is) ∙ (neither (p y) (list_any p ys) e).0
none_at_place p (y ∷ ys) (suc k) x e f = none_at_place p ys k x (neither (p y) (list_any p ys) e).1 f

and_true : (b c : Bool) → c ≡ true → (b && c) ≡ false → b ≡ false
and_true true c e f = let no : true ≡ false = sym e ∙ f in cc
and_true false c e f = refl

pub as_handed : (g : Input) (old new : Log) (a x : Site) → is_reached g old new x ≡ false → IsThere (all_links g) (a, x) → handed a x new ≡ handed a x old
as_handed g old new a x e there =
    let p = none_at_place (λ (l : Site × Site). not (handed l.0 l.1 old == handed l.0 l.1 new) && same_site l.1 x) (all_links g) there.0 (a, x) e there.1 in
    sym (as_many (handed a x old) (handed a x new) (and_true (not (handed a x old == handed a x new)) (same_site x x) (site_self x) p))

-- to a data module no transaction is given

no_home : (cat : Catalogue) (o : Option Txn) (n k : ℕ) (d : DmNo) → Some (Submitted (site_of cat o) n) ≡ Some (Submitted (D d) k) → ⊥
no_home cat None n k d e = let no : Some (Submitted U n) ≡ Some (Submitted (D d) k) = e in cc
no_home cat (Some txn) n k d e =
    elim (class_for cat txn == 0) as (λ b. Some (Submitted (if b then U else T txn.tm) n) ≡ Some (Submitted (D d) k) → ⊥) [
      | true ↦ λ f. (let no : Some (Submitted U n) ≡ Some (Submitted (D d) k) = f in cc)
      | false ↦ λ f. (let no : Some (Submitted (T txn.tm) n) ≡ Some (Submitted (D d) k) = f in cc)
    ] e

given_none : (g : Input) (e : Event) (old : Log) (d : DmNo) (n : ℕ) → mark_due g (Mark e ∷ old) ≡ Some (Submitted (D d) n) → ⊥
given_none g (Submit k) old d n e = no_home (nth_era g (redeclares old)).catalogue (txn_at g k.0) k.0 n d e
given_none g (Deliver a b k) old d n e = no_note _ (D d) n e
given_none g (Lose a b k) old d n e = no_note _ (D d) n e
given_none g (Repeat a b k) old d n e = no_note _ (D d) n e
given_none g (Resend a b) old d n e = no_note _ (D d) n e
given_none g (Down at) old d n e = no_note _ (D d) n e
given_none g (Up at) old d n e = no_note _ (D d) n e
given_none g _ old d n e = let no : None ≡ Some (Submitted (D d) n) = e in cc

none_by_mark_at : (g : Input) (mark : Entry) (old : Log) (d : DmNo) (n : ℕ) → IsMark mark → mark_due g (mark ∷ old) ≡ Some (Submitted (D d) n) → ⊥
none_by_mark_at g (Mark e) old d n h s = given_none g e old d n s
none_by_mark_at g (Redeclares t) old d n h s = let no : None ≡ Some (Submitted (D d) n) = s in cc
none_by_mark_at g _ old d n h s = absurd h

mark_at : (g : Input) (mark : Entry) (old : Log) (d : DmNo) → IsMark mark → local_of g (D d) (mark ∷ old) ≡ local_of g (D d) old
mark_at g (Mark (Tick t n)) old d h = refl
mark_at g (Mark e) old d h = refl
mark_at g (Redeclares t) old d h = refl
mark_at g _ old d h = absurd h

-- nothing is due there after a mark, also where it brings the module up

if_none : (b : Bool) (o : Option Act) → o ≡ None → (if b then o else None) ≡ None
if_none true o none = none
if_none false o none = refl

data_after_mark : (g : Input) (old : Log) (mark : Entry) (d : DmNo) → IsMark mark → IsSiteOf g (D d) → IsLawful g old → site_due g old ≡ None
    → next_at g (mark ∷ old) (D d) ≡ None
data_after_mark g old mark d h here lawful none =
    let there = and_parts (nat_le 1 d.0) (nat_le d.0 g.catalogue.dms) here in
    let before : next_in g (D d) (base_of g old) (local_of g (D d) old) ≡ None =
    none_at_data g old d (leb-true 1 d.0 there.0) (leb-true d.0 g.catalogue.dms there.1) lawful none in
    if_none (takes_at (D d) (mark ∷ old)) (next_in g (D d) (base_of g (mark ∷ old)) (local_of g (D d) (mark ∷ old)))
    (ap (next_in g (D d) (base_of g (mark ∷ old))) (mark_at g mark old d h) ∙ before)

-- a data module to which nothing is handed

module _ (g : Input) (old new : Log) (good : IsGood g) (b : IsBetween g old new) (d : ℕ) (here : IsSiteOf g (D (dm_no d)))
    (unreached : is_reached g old new (D (dm_no d)) ≡ false) where
  log_kept : local_of g (D (dm_no d)) new ≡ local_of g (D (dm_no d)) old
  log_kept =
      left_alone g old new (D (dm_no d)) good b
      (data_after_mark g old b.mark (dm_no d) b.is_mark here b.before.lawful b.before.no_site)
      (λ n s. none_by_mark_at g b.mark old (dm_no d) n b.is_mark s)
      (λ a there. as_handed g old new a (D (dm_no d)) unreached there)
      ∙ mark_at g b.mark old (dm_no d) b.is_mark

  pipe_kept : (c : ℕ) → watched_pipe g new (d, c) ≡ watched_pipe g old (d, c)
  pipe_kept c = λ i. record {
    dm = dm_no d;
    class = class_no c;
    source = source g d c;
    unprocessed = length (pipe c (log_kept i)).unprocessed;
  }

  none_more : (c : ℕ) → came g d c new ≡ came g d c old
  none_more c =
      let a : Site = source g d c in
      let x : Site = D (dm_no d) in
      let same : (handed a x old == handed a x new) ≡ true =
      eq-eqb (handed a x old) (handed a x new) (sym (as_handed g old new a x unreached (source_there g d c good here))) in
      ap (filter_map (number_through c))
      (handed_parts g old new a x good b ∙ ap (λ ps. handed_on a x old ++ ps) (none_still g old new a x good b same) ∙ append-nil (handed_on a x old))

  pipe_unchanged : (c : ℕ) → is_changed_pipe g old new (d, c) ≡ false
  pipe_unchanged c =
      let none : drop (length (came g d c old)) (came g d c new) ≡ [] =
      ap (drop (length (came g d c old))) (none_more c) ∙ drop_all (length (came g d c old)) (came g d c old) (omega arith) in
      let was : ℕ = length (pipe c (local_of g (D (dm_no d)) old)).processed in
      let zero_more : length (pipe c (local_of g (D (dm_no d)) new)).processed - was ≡ 0 =
      ap (λ l. length (pipe c l).processed - was) log_kept ∙ omega arith in
      (λ i. not (is_empty (none i) && zero_more i == 0))

  classes_kept : (cs : List ℕ) → map (watched_pipe g new) (map (λ c. (d, c)) cs) ≡ map (watched_pipe g old) (map (λ c. (d, c)) cs)
  classes_kept [] = refl
  classes_kept (c ∷ cs) = (λ i. pipe_kept c i ∷ classes_kept cs i)

  none_changed : (cs : List ℕ) → filter (is_changed_pipe g old new) (map (λ c. (d, c)) cs) ≡ []
  none_changed [] = refl
  none_changed (c ∷ cs) =
      ap (λ b. cond b ((d, c) ∷ filter (is_changed_pipe g old new) (map (λ c. (d, c)) cs)) (filter (is_changed_pipe g old new) (map (λ c. (d, c)) cs)))
      (pipe_unchanged c)
      ∙ none_changed cs

  pub module_stays : watched_pipes g new d ≡ watched_pipes g old d
  module_stays = ap (λ ws. (D (dm_no d), ws)) (classes_kept (classes_of (setting_of g (D (dm_no d)))))

  pub module_unchanged : filter (is_changed_pipe g old new) (pipes_at_module g d) ≡ []
  module_unchanged = none_changed (classes_of (setting_of g (D (dm_no d))))

  pub module_kept : (pipes : Site × List WatchedPipe) → pipes ≡ watched_pipes g old d → pipes ≡ watched_pipes g new d
  module_kept pipes stood = stood ∙ ap (λ ws. (D (dm_no d), ws)) (sym (classes_kept (classes_of (setting_of g (D (dm_no d))))))

  pub none_seen : (first : Both PipeMoment) → ArePipesSeen g old new (pipes_at_module g d) first first
  none_seen first =
      let none : filter (is_changed_pipe g old new) (pipes_at_module g d) ≡ [] = none_changed (classes_of (setting_of g (D (dm_no d)))) in
      record {
        before_are = sym (append-nil first.before.items) ∙ ap (λ ps. first.before.items ++ map (pipe_before g old new) ps) (sym none);
        after_are = sym (append-nil first.after.items) ∙ ap (λ ps. first.after.items ++ map (pipe_after g old new) ps) (sym none);
      }
