-- What a reader has of a pipe after an event is what there is: which messages wait in it, and which time its class has passed.
use Rattle.std.proofs.Common.{ap, append-nil, arith, eq-eqb, eqb-true, subst, sym, ◌∙◌}
use Rattle.std.proofs.lemmas.Bool.{and_parts}
use Rattle.std.proofs.lemmas.List.{length-append}
use Rattle.std.proofs.lemmas.List.Elements.{filter_map-append}
use Rattle.std.proofs.Math.Seq.{drop-append_seam}
use Rattle.std.specs.Prelude.{ℕ, ◌-◌, ◌==◌, ◌&&◌, ◌≡◌, ◌≤◌, Bool, true, false, if◌then◌else◌, List, [], ◌∷◌, ◌++◌, drop, filter_map, find, length, slice_get, None, Some, refl}
use Rattle.sdd_app_inside.proofs.watch.obligations.invariants.InPipe.{in_pipe, in_pipe_later}
use Rattle.sdd_app_inside.proofs.watch.obligations.invariants.Made.{local_grows}
use Rattle.sdd_app_inside.proofs.watch.obligations.invariants.Once.{processed_grows}
use Rattle.sdd_app_inside.proofs.watch.obligations.logs.NewMarks.{lawful_permitted}
use Rattle.sdd_app_inside.specs.watch.obligations.All.{D, Input, IsClassHere, IsGood, IsPermitted, Log, Msg, Pipe, class_no, class_puts, dm_no, is_empty, local_of, pipe, setting_of, time_at}
use Rattle.sdd_app_inside.specs.watch.obligations.base.Words.{head_of}
use Rattle.sdd_app_inside.specs.watch.obligations.invariants.All.{all_of}
use Rattle.sdd_inside.specs.Differences.{pipe_between}
use Rattle.sdd_inside.specs.declared.delta.PipeDelta.{PipeDelta}
use Rattle.sdd_inside_laws.proofs.FoundIn.{found_in}
use Rattle.sdd_inside_laws.proofs.PacketsRead.{each_change}
use Rattle.sdd_inside_laws.proofs.Parts.{moved_on, same_fronts, same_rests}
use Rattle.sdd_inside_laws.specs.Reader.{KnownPipe, is_pipe_of, known_pipe, pipe_moved, read_pipe}
use Rattle.sdd_app_inside.proofs.watch.moments.Between.{joined_more}
use Rattle.sdd_app_inside.proofs.watch.moments.Came.{all_came, handed_parts}
use Rattle.sdd_inside_laws.proofs.PipesThere.{pipe_there}
use Rattle.sdd_app_inside.specs.watch.Happens.{happened_at}
use Rattle.sdd_app_inside.specs.watch.moments.Moments.{all_pipes, came, handed_on, number_through, passed_to, pipe_moment, source, time_passed}
use Rattle.sdd_app_inside.specs.watch.Text.{change}
use Rattle.sdd_app_inside.specs.watch.moments.Changes.{IsBetween, handed_over}

nothing_in : {A : Type 0} (xs : List A) → is_empty xs ≡ true → xs ≡ []
nothing_in [] h = refl
nothing_in (x ∷ xs) h = absurd cc

abbrev came_between : Input → Log → Log → ℕ → ℕ → List ℕ
came_between g old new d c = filter_map (number_through c) (handed_over old new (source g d c, D (dm_no d)))

abbrev pipe_in : Input → ℕ → ℕ → Log → Pipe
pipe_in g d c log = pipe c (local_of g (D (dm_no d)) log)

module _ (g : Input) (old new : Log) (d c : ℕ) (good : IsGood g) (i : IsBetween g old new) (k : IsClassHere (setting_of g (D (dm_no d))) c) where
  before_permitted : IsPermitted g old
  before_permitted = lawful_permitted g old good.once i.before.lawful

  after_permitted : IsPermitted g new
  after_permitted = lawful_permitted g new good.once i.after.lawful

  whole : new ≡ (i.more ++ i.mark ∷ []) ++ old
  whole = i.parts ∙ joined_more i.more i.mark old

  -- what came

  came_parts : came g d c new ≡ came g d c old ++ (came_between g old new d c)
  came_parts =
      ap (filter_map (number_through c)) (handed_parts g old new (source g d c) (D (dm_no d)) good i)
      ∙ filter_map-append (number_through c) (handed_on (source g d c) (D (dm_no d)) old) (handed_over old new (source g d c, D (dm_no d)))

  told : drop (length (came g d c old)) (came g d c new) ≡ (came_between g old new d c)
  told = ap (drop (length (came g d c old))) came_parts ∙ drop-append_seam (came g d c old) (came_between g old new d c)

  -- what was processed

  few : length (pipe_in g d c old).processed ≤ length (came g d c old)
  few = omega (arith, all_came g old d c before_permitted k)

  rises : length (pipe_in g d c old).processed ≤ length (pipe_in g d c new).processed
  rises =
      let x = local_grows g (D (dm_no d)) (i.more ++ i.mark ∷ []) old in
      let here = ap (local_of g (D (dm_no d))) whole ∙ x.1 in
      subst (λ l. length (pipe_in g d c old).processed ≤ length (pipe c l).processed) (sym here) (processed_grows c x.0 (local_of g (D (dm_no d)) old))

  waits : drop (length (pipe_in g d c new).processed - length (pipe_in g d c old).processed)
      (drop (length (pipe_in g d c old).processed) (came g d c old) ++ drop (length (came g d c old)) (came g d c new))
      ≡ drop (length (pipe_in g d c new).processed) (came g d c new)
  waits =
      let a : ℕ = length (pipe_in g d c old).processed in
      let b : ℕ = length (pipe_in g d c new).processed in
      ap (λ xs. drop (b - a) (drop a (came g d c old) ++ xs)) told ∙ moved_on a b (came g d c old) (came_between g old new d c) (came g d c new) came_parts few rises

  -- where nothing came and nothing was processed, the pipe is as it was

  same_all : (came_between g old new d c) ≡ [] → all_of (pipe_in g d c old) ≡ all_of (pipe_in g d c new)
  same_all none =
      let a = all_came g old d c before_permitted k in
      let b = all_came g new d c after_permitted k in
      let same : length (came g d c new) ≡ length (came g d c old) = ap length (came_parts ∙ ap (λ xs. came g d c old ++ xs) none ∙ append-nil (came g d c old)) in
      let p : List Msg = (pipe_in g d c old).processed in
      let q : List Msg = (pipe_in g d c new).processed in
      let before = in_pipe_later g c (dm_no d) (i.more ++ i.mark ∷ []) old before_permitted in
      let after = in_pipe g c (dm_no d) new after_permitted in
      same_fronts (all_of (pipe_in g d c old)) (all_of (pipe_in g d c new)) before.0 after.0
      (sym before.1 ∙ ap (class_puts g c (dm_no d)) (sym whole) ∙ after.1)
      (length-append p (pipe_in g d c old).unprocessed ∙ sym a ∙ sym same ∙ b ∙ sym (length-append q (pipe_in g d c new).unprocessed))

  same_passed : (came_between g old new d c) ≡ [] → length (pipe_in g d c new).processed - length (pipe_in g d c old).processed ≡ 0
      → passed_to (pipe_in g d c old) ≡ passed_to (pipe_in g d c new)
  same_passed none still =
      let all = same_all none in
      let count : length (pipe_in g d c old).processed ≡ length (pipe_in g d c new).processed = omega (arith, still, rises) in
      let processed = same_fronts (pipe_in g d c old).processed (pipe_in g d c new).processed (pipe_in g d c old).unprocessed (pipe_in g d c new).unprocessed all count in
      let rest = same_rests (pipe_in g d c old).processed (pipe_in g d c new).processed (pipe_in g d c old).unprocessed (pipe_in g d c new).unprocessed all processed in
      λ j. time_passed (head_of (rest j)) (processed j)

-- what is told of the pipe

abbrev here : ℕ → ℕ → ℕ × ℕ → Bool
here d c p = p.0 == d && p.1 == c

abbrev tells : Input → Log → Log → ℕ × ℕ → List PipeDelta
tells g old new p = pipe_between (happened_at g old new) (pipe_moment g old p) (pipe_moment g new p)

that_pipe : (d c : ℕ) (p : ℕ × ℕ) → here d c p ≡ true → p ≡ (d, c)
that_pipe d c p e =
    let h = and_parts (p.0 == d) (p.1 == c) e in
    let first = eqb-true p.0 d h.0 in
    let second = eqb-true p.1 c h.1 in λ i. (first i, second i)

-- of another pipe nothing is found
not_found : (d c : ℕ) (x : PipeDelta) (b : Bool) → is_pipe_of (dm_no d) (class_no c) x ≡ false
    → find (is_pipe_of (dm_no d) (class_no c)) (if b then [] else x ∷ []) ≡ None
not_found d c x true e = refl
not_found d c x false e = rw e refl

self_is : (d c : ℕ) → (d == d && c == c) ≡ true
self_is d c = rw (eq-eqb d d refl, eq-eqb c c refl) refl

of_pipe : (g : Input) (old new : Log) (d c j : ℕ) → slice_get (all_pipes g) j ≡ Some (d, c)
    → find (is_pipe_of (dm_no d) (class_no c)) (change g old new).pipes ≡ find (is_pipe_of (dm_no d) (class_no c)) (tells g old new (d, c))
of_pipe g old new d c j there =
    ap (find (is_pipe_of (dm_no d) (class_no c))) (each_change (pipe_between (happened_at g old new)) (pipe_moment g old) (pipe_moment g new) (all_pipes g))
    ∙ found_in (is_pipe_of (dm_no d) (class_no c)) (here d c) (tells g old new) (d, c) (that_pipe d c) (λ p e. not_found d c _ _ e) (self_is d c) (all_pipes g) j there

abbrev known_as : ℕ → ℕ → List ℕ → ℕ → KnownPipe
known_as d c waiting passed = record { dm = dm_no d; class = class_no c; waiting = waiting; passed = time_at passed }

pub pipe_read : (g : Input) (old new : Log) (d c j : ℕ) → IsGood g → IsBetween g old new
    → slice_get (all_pipes g) j ≡ Some (d, c) → read_pipe (change g old new) (known_pipe g old (d, c)) ≡ known_pipe g new (d, c)
pipe_read g old new d c j good i there =
    let k : IsClassHere (setting_of g (D (dm_no d))) c = (let p = pipe_there g j (d, c) there in omega (arith, p.class)) in
    let more : List ℕ = drop (length (came g d c old)) (came g d c new) in
    let count : ℕ = length (pipe_in g d c new).processed - length (pipe_in g d c old).processed in
    let left : List ℕ = drop (length (pipe_in g d c old).processed) (came g d c old) in
    let moves = waits g old new d c good i k in
    let delta : PipeDelta = record { dm = dm_no d; class = class_no c; came = more; processed = count; passed = time_at (passed_to (pipe_in g d c new)) } in
    ap (λ o. pipe_moved o (known_pipe g old (d, c))) (of_pipe g old new d c j there)
    ∙ elim (is_empty more && count == 0) as (λ b. (is_empty more && count == 0) ≡ b
    → pipe_moved (find (is_pipe_of (dm_no d) (class_no c)) (if b then [] else delta ∷ [])) (known_pipe g old (d, c)) ≡ known_pipe g new (d, c)) [
      | true ↦ λ e. (let h = and_parts (is_empty more) (count == 0) e in
          let none : more ≡ [] = nothing_in more h.0 in
          let still : count ≡ 0 = eqb-true count 0 h.1 in
          let same : left ≡ drop (length (pipe_in g d c new).processed) (came g d c new) =
          sym (append-nil left) ∙ (λ n. drop (sym still n) (left ++ sym none n)) ∙ moves in
          let passed = same_passed g old new d c good i k (sym (told g old new d c good i k) ∙ none) still in
          λ n. known_as d c (same n) (passed n))
      | false ↦ λ e. rw (self_is d c) (λ n. known_as d c (moves n) (passed_to (pipe_in g d c new)))
    ] refl
