-- A look at each pipe, one after the other: the pipes before the place at hand are looked at.
use Rattle.sdd_moments.proofs.All.{ArePipesSeen, Both, D, Input, IsSiteOf, List, Log, PipeMoment, Some, WatchedPipe, [], ap, append-nil, arith, classes_of, cond, dm_no, drop, drop-drop, drop-set-lt, get_or, get_or_default, in_mapped, in_range, is_changed_pipe, length, length-map, map, pipe_after, pipe_before, pipes_at_module, refl, setting_of, slice_get, slice_set, subst, suc, sym, take, take_all, watched_pipe, zero, ℕ, ◌++◌, ◌+◌, ◌<◌, ◌∙◌, ◌∷◌, ◌≡◌, ◌≤◌}
use Rattle.sdd_moments.proofs.Visited.{PlaceAt, all_changed, changed_to, filtered_join, filtered_one, place_at}

-- the pipes of a run: of each data module and each class

pub record IsPipeOf (g : Input) (p : ℕ × ℕ) : Type 0 where
  pub site : IsSiteOf g (D (dm_no p.0))
  pub class : p.1 ≤ length g.catalogue.classes

pub pipe_there : (g : Input) (d i : ℕ) (p : ℕ × ℕ) → IsSiteOf g (D (dm_no d)) → slice_get (pipes_at_module g d) i ≡ Some p → IsPipeOf g p
pipe_there g d i p here e =
    let c = in_mapped (λ (n : ℕ). (d, n)) (classes_of (setting_of g (D (dm_no d)))) i p e in
    let n = in_range 0 (suc (length g.catalogue.classes)) i c.0 c.1 in
    subst (IsPipeOf g) c.2 (record { site = here; class = omega (arith, n.1) })

-- of a list of images the one at a place is that of what stands there
pub of_place : {A B : Type 0} (f : A → B) (xs : List A) (i : ℕ) (y : B) → i < length xs → y ≡ get_or (map f xs) i y
    → (x : A) × (slice_get xs i ≡ Some x) × (y ≡ f x)
of_place f [] i y few e = absurd (omega (arith, few))
of_place f (x ∷ xs) zero y few e = (x, refl, e)
of_place f (x ∷ xs) (suc i) y few e = of_place f xs i y (omega (arith, few)) e

pub first_of_drop : {A : Type 0} (xs ys : List A) (i : ℕ) (d : A) → i < length xs → i < length ys → drop i xs ≡ drop i ys → get_or xs i d ≡ get_or ys i d
first_of_drop [] ys i d few some e = absurd (omega (arith, few))
first_of_drop (x ∷ xs) [] i d few some e = absurd (omega (arith, some))
first_of_drop (x ∷ xs) (y ∷ ys) zero d few some e = cc
first_of_drop (x ∷ xs) (y ∷ ys) (suc i) d few some e = first_of_drop xs ys i d (omega (arith, few)) (omega (arith, some)) e

-- nothing is seen of none, and what is seen of some pipes and then of others is seen of all

pub pipes_none : (g : Input) (old new : Log) (first : Both PipeMoment) → ArePipesSeen g old new [] first first
pipes_none g old new first = record { before_are = sym (append-nil first.before.items); after_are = sym (append-nil first.after.items) }

pub pipes_join : (g : Input) (old new : Log) (xs ys : List (ℕ × ℕ)) (first mid last : Both PipeMoment) → ArePipesSeen g old new xs first mid
    → ArePipesSeen g old new ys mid last → ArePipesSeen g old new (xs ++ ys) first last
pipes_join g old new xs ys first mid last e h = record {
  before_are = filtered_join (is_changed_pipe g old new) (pipe_before g old new) xs ys first.before.items mid.before.items last.before.items
      e.before_are h.before_are;
  after_are = filtered_join (is_changed_pipe g old new) (pipe_after g old new) xs ys first.after.items mid.after.items last.after.items
      e.after_are h.after_are;
}

-- of the first so many pipes of a data module what is kept and was seen
pub record PipesSoFar (g : Input) (old new : Log) (d i : ℕ) (pipes : List WatchedPipe) (first now : Both PipeMoment) : Type 0 where
  pub pipes_are : pipes ≡ changed_to (watched_pipe g old) (watched_pipe g new) i (pipes_at_module g d)
  pub seen : ArePipesSeen g old new (take i (pipes_at_module g d)) first now

pub no_pipes_yet : (g : Input) (old new : Log) (d : ℕ) (pipes : List WatchedPipe) (first : Both PipeMoment)
    → pipes ≡ map (watched_pipe g old) (pipes_at_module g d) → PipesSoFar g old new d 0 pipes first first
no_pipes_yet g old new d pipes first e = record { pipes_are = e; seen = pipes_none g old new first }

few_pipes : (g : Input) (old : Log) (d : ℕ) (begun : List WatchedPipe) (i : ℕ) → begun ≡ map (watched_pipe g old) (pipes_at_module g d) → i < length begun
    → i < length (pipes_at_module g d)
few_pipes g old d begun i e few = let n = ap length e ∙ length-map (pipes_at_module g d) (watched_pipe g old) in omega (arith, few, n)

pipe_at_hand : (g : Input) (old new : Log) (d : ℕ) (begun pipes : List WatchedPipe) (i : ℕ) (x : WatchedPipe) (first now : Both PipeMoment)
    → begun ≡ map (watched_pipe g old) (pipes_at_module g d) → i < length begun → PipesSoFar g old new d i pipes first now → x ≡ get_or pipes i x
    → PlaceAt (watched_pipe g old) (watched_pipe g new) (pipes_at_module g d) pipes i (i + 1) x
pipe_at_hand g old new d begun pipes i x first now e few s is =
    place_at (watched_pipe g old) (watched_pipe g new) (pipes_at_module g d) pipes i (i + 1) x (omega arith) (few_pipes g old d begun i e few) s.pipes_are is

-- the pipe at hand, which stands as it stood, is of a data module of the network

abbrev pub AsTheyStood : {A : Type 0} → ℕ → List A → List A → Type 0
AsTheyStood i begun now = drop i now ≡ drop i begun

pub at_module : (g : Input) (old : Log) (d : ℕ) (begun pipes : List WatchedPipe) (i : ℕ) (x : WatchedPipe) → IsSiteOf g (D (dm_no d))
    → begun ≡ map (watched_pipe g old) (pipes_at_module g d)
    → i < length begun → i < length pipes → AsTheyStood i begun pipes → x ≡ get_or pipes i x → IsSiteOf g (D x.dm)
at_module g old d begun pipes i x at e few here same is =
    let stood : x ≡ get_or begun i x = is ∙ first_of_drop pipes begun i x here few same in
    let n = ap length e ∙ length-map (pipes_at_module g d) (watched_pipe g old) in
    let p = of_place (watched_pipe g old) (pipes_at_module g d) i x (omega (arith, few, n)) (stood ∙ ap (λ ws. get_or ws i x) e) in
    subst (λ (w : WatchedPipe). IsSiteOf g (D w.dm)) (sym p.2) (pipe_there g d i p.0 at p.1).site

pub rest_is_kept : {A : Type 0} (begun now : List A) (i : ℕ) (next : A) → AsTheyStood i begun now → AsTheyStood (i + 1) begun (slice_set now i next)
rest_is_kept begun now i next e =
    drop-set-lt (i + 1) now i next (omega arith) ∙ sym (drop-drop 1 i now) ∙ ap (drop 1) e ∙ drop-drop 1 i begun

-- what stands at a place, whatever is taken where nothing does
pub at_hand : {A : Type 0} (begun items : List A) (i : ℕ) (d : A) → i < length begun → length items ≡ length begun
    → get_or items i d ≡ get_or items i (get_or items i d)
at_hand begun items i d few same = get_or_default items i d (get_or items i d) (omega (arith, few, same))

-- one more is looked at
pub pipes_more : (g : Input) (old new : Log) (d : ℕ) (begun pipes : List WatchedPipe) (i : ℕ) (x next : WatchedPipe) (first now then : Both PipeMoment)
    → IsSiteOf g (D (dm_no d)) → begun ≡ map (watched_pipe g old) (pipes_at_module g d) → i < length begun → PipesSoFar g old new d i pipes first now
    → x ≡ get_or pipes i x
    → ((d c : ℕ) → IsSiteOf g (D (dm_no d)) → c ≤ length g.catalogue.classes → x ≡ watched_pipe g old (d, c) → next ≡ watched_pipe g new (d, c))
    → ((d c : ℕ) → IsSiteOf g (D (dm_no d)) → c ≤ length g.catalogue.classes → x ≡ watched_pipe g old (d, c)
    → then.before.items ≡ now.before.items ++ cond (is_changed_pipe g old new (d, c)) (pipe_before g old new (d, c) ∷ []) [])
    → ((d c : ℕ) → IsSiteOf g (D (dm_no d)) → c ≤ length g.catalogue.classes → x ≡ watched_pipe g old (d, c)
    → then.after.items ≡ now.after.items ++ cond (is_changed_pipe g old new (d, c)) (pipe_after g old new (d, c) ∷ []) [])
    → PipesSoFar g old new d (i + 1) (slice_set pipes i next) first then
pipes_more g old new d begun pipes i x next first now then here e few s is keeps b a =
    let ps : List (ℕ × ℕ) = pipes_at_module g d in
    let p = pipe_at_hand g old new d begun pipes i x first now e few s is in
    let t = pipe_there g d i p.place here p.is_there in
    record {
      pipes_are = p.changed next (keeps p.place.0 p.place.1 t.site t.class p.stood);
      seen = subst (λ xs. ArePipesSeen g old new xs first then) (sym p.further)
          (pipes_join g old new (take i ps) (p.place ∷ []) first now then s.seen
          (record {
            before_are = b p.place.0 p.place.1 t.site t.class p.stood
                ∙ ap (λ ms. now.before.items ++ ms) (sym (filtered_one (is_changed_pipe g old new) (pipe_before g old new) p.place));
            after_are = a p.place.0 p.place.1 t.site t.class p.stood
                ∙ ap (λ ms. now.after.items ++ ms) (sym (filtered_one (is_changed_pipe g old new) (pipe_after g old new) p.place));
          }));
    }

-- all are looked at
pub pipes_over : (g : Input) (old new : Log) (d : ℕ) (begun pipes : List WatchedPipe) (i : ℕ) (first now : Both PipeMoment)
    → begun ≡ map (watched_pipe g old) (pipes_at_module g d) → length begun ≤ i → PipesSoFar g old new d i pipes first now
    → (pipes ≡ map (watched_pipe g new) (pipes_at_module g d)) × ArePipesSeen g old new (pipes_at_module g d) first now
pipes_over g old new d begun pipes i first now e past s =
    let ps : List (ℕ × ℕ) = pipes_at_module g d in
    let n = ap length e ∙ length-map ps (watched_pipe g old) in
    let all : take i ps ≡ ps = take_all i ps (omega (arith, past, n)) in (
      s.pipes_are ∙ all_changed (watched_pipe g old) (watched_pipe g new) i ps (omega (arith, past, n)),
      subst (λ xs. ArePipesSeen g old new xs first now) all s.seen,
    )
