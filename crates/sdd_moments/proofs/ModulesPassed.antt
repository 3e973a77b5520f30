-- The pipes of all data modules but the one that acts are passed over.
use Rattle.sdd_moments.proofs.All.{Across, Along, ArePipesSeen, Around, Bool, Both, D, From, Input, IsBetween, IsGood, IsSiteOf, List, Log, None, Nowhere, PipeMoment, Reach, Site, Some, WatchedPipe, [], actor, all_links, all_pipes, ap, arith, dm_no, eq-eqb, false, filter, filter-append, get_or, handed, is_changed_pipe, is_reached, is_to, length, list_any, map, may_act, not, numbers_to, pipe_after, pipe_before, pipes_at_module, range_with_len, reach_between, refl, same_site, site_is, slice_get, slice_set, suc, sym, true, watched_pipes, zero, ℕ, ◌&&◌, ◌++◌, ◌+◌, ◌<◌, ◌==◌, ◌||◌, ◌∙◌, ◌∷◌, ◌≡◌, ◌≤◌}
use Rattle.sdd_moments.proofs.ModulesVisited.{ModulesSoFar, module_of, modules_more, modules_over, no_modules_yet}
use Rattle.sdd_moments.proofs.PipesKept.{module_stays, module_unchanged}
use Rattle.sdd_moments.proofs.Reached.{aside_handed}
use Rattle.sdd_moments.proofs.Visited.{groups_passed, passed_to}

number_at : (a n k d : ℕ) → slice_get (range_with_len a n) k ≡ Some d → d ≡ a + k
number_at a zero k d e = absurd (let no : None ≡ Some d = e in cc)
number_at a (suc n) zero d e = let is : a ≡ d = cc in omega (arith, is)
number_at a (suc n) (suc k) d e = let h = number_at (a + 1) n k d e in omega (arith, h)

-- to a site that doesn't act nothing is handed

never : (b : Bool) → (b && false) ≡ false
never true = refl
never false = refl

acts_is : (r : Reach) (x : Site) → may_act r x ≡ is_to (actor r) x
acts_is Nowhere x = refl
acts_is (Along a b) x = refl
acts_is (Across a b) x = refl
acts_is (From a) x = refl
acts_is (Around a) x = refl

module _ (g : Input) (old new : Log) (good : IsGood g) (b : IsBetween g old new) (x : Site) (aside : may_act (reach_between g old new) x ≡ false) where
  abbrev is_given : Site × Site → Bool
  is_given l = not (handed l.0 l.1 old == handed l.0 l.1 new) && same_site l.1 x

  not_given : (l : Site × Site) → is_given l ≡ false
  not_given l =
      elim (same_site l.1 x) as (λ c. same_site l.1 x ≡ c → (not (handed l.0 l.1 old == handed l.0 l.1 new) && c) ≡ false) [
        | true ↦ λ e. (
            let is : l.1 ≡ x = site_is l.1 x e in
            let same : handed l.0 l.1 new ≡ handed l.0 l.1 old =
            ap (λ y. handed l.0 y new) is ∙ aside_handed g old new good b l.0 x aside ∙ ap (λ y. handed l.0 y old) (sym is) in
            ap (λ c. not c && true) (eq-eqb (handed l.0 l.1 old) (handed l.0 l.1 new) (sym same)))
        | false ↦ λ e. never (not (handed l.0 l.1 old == handed l.0 l.1 new))
      ] refl

  none_given : (ls : List (Site × Site)) → list_any is_given ls ≡ false
  none_given [] = refl
  none_given (l ∷ ls) = ap (λ c. c || list_any is_given ls) (not_given l) ∙ none_given ls

  pub aside_unreached : is_reached g old new x ≡ false
  aside_unreached = none_given (all_links g)

-- so its pipes stay as they are

abbrev AllAside : Input → Reach → ℕ → ℕ → Type 0
AllAside g r i j = (d : ℕ) → i < d → d ≤ j → is_to (actor r) (D (dm_no d)) ≡ false

pub modules_passed : (g : Input) (old new : Log) (reach : Reach) (i j : ℕ) (pipes : List (Site × List WatchedPipe)) (first now : Both PipeMoment)
    → IsGood g → IsBetween g old new → reach ≡ reach_between g old new → i ≤ j → AllAside g reach i j
    → ModulesSoFar g old new i pipes first now → ModulesSoFar g old new j pipes first now
modules_passed g old new reach i j pipes first now good b is more aside s =
    let all : List ℕ = numbers_to g.catalogue.dms in
    let unreached : (k d : ℕ) → i ≤ k → k < j → slice_get all k ≡ Some d → is_reached g old new (D (dm_no d)) ≡ false =
    λ k d low high e. (
    let n : d ≡ 1 + k = number_at 1 g.catalogue.dms k d e in
    let idle : may_act reach (D (dm_no d)) ≡ false =
    acts_is reach (D (dm_no d)) ∙ aside d (omega (arith, n, low)) (omega (arith, n, high)) in
    aside_unreached g old new good b (D (dm_no d)) (ap (λ r. may_act r (D (dm_no d))) (sym is) ∙ idle)) in
    let changed = groups_passed (filter (is_changed_pipe g old new)) refl (filter-append (is_changed_pipe g old new)) (pipes_at_module g) all i j more
    (λ k d low high e. module_unchanged g old new good b d (module_of g k d e) (unreached k d low high e)) in
    record {
      pipes_are = s.pipes_are ∙ passed_to (watched_pipes g old) (watched_pipes g new) all i j more
          (λ k d low high e. module_stays g old new good b d (module_of g k d e) (unreached k d low high e));
      seen = record {
        before_are = s.seen.before_are ∙ ap (λ ps. first.before.items ++ map (pipe_before g old new) ps) changed;
        after_are = s.seen.after_are ∙ ap (λ ps. first.after.items ++ map (pipe_after g old new) ps) changed;
      };
    }

-- one of them is looked at, at its place, or none

abbrev AreAll : Input → Log → Log → List (Site × List WatchedPipe) → Both PipeMoment → Both PipeMoment → Type 0
AreAll g old new pipes first now =
    (pipes ≡ map (watched_pipes g new) (numbers_to g.catalogue.dms)) × ArePipesSeen g old new (all_pipes g) first now

abbrev pub OthersAside : Reach → ℕ → Type 0
OthersAside r place = (d : ℕ) → 1 ≤ d → (d ≡ place + 1 → ⊥) → is_to (actor r) (D (dm_no d)) ≡ false

pub modules_none : (g : Input) (old new : Log) (reach : Reach) (place : ℕ) (begun : List (Site × List WatchedPipe)) (first : Both PipeMoment)
    → IsGood g → IsBetween g old new → reach ≡ reach_between g old new → OthersAside reach place → length begun ≤ place
    → begun ≡ map (watched_pipes g old) (numbers_to g.catalogue.dms) → AreAll g old new begun first first
modules_none g old new reach place begun first good b is aside past e =
    modules_over g old new begun begun (length begun) first first e (omega arith)
    (modules_passed g old new reach 0 (length begun) begun first first good b is (omega arith)
    (λ d low high. aside d (omega (arith, low)) (λ same. omega (arith, same, high, past))) (no_modules_yet g old new begun first e))

pub modules_one : (g : Input) (old new : Log) (reach : Reach) (place : ℕ) (begun : List (Site × List WatchedPipe)) (x next : Site × List WatchedPipe)
    (first then : Both PipeMoment) → IsGood g → IsBetween g old new → reach ≡ reach_between g old new → OthersAside reach place → place < length begun
    → begun ≡ map (watched_pipes g old) (numbers_to g.catalogue.dms) → x ≡ get_or begun place x
    → ((d : ℕ) → IsSiteOf g (D (dm_no d)) → x ≡ watched_pipes g old d → next ≡ watched_pipes g new d)
    → ((d : ℕ) → IsSiteOf g (D (dm_no d)) → x ≡ watched_pipes g old d → ArePipesSeen g old new (pipes_at_module g d) first then)
    → AreAll g old new (slice_set begun place next) first then
modules_one g old new reach place begun x next first then good b is aside few e at keeps sees =
    let before = modules_passed g old new reach 0 place begun first first good b is (omega arith)
    (λ d low high. aside d (omega (arith, low)) (λ same. omega (arith, same, high))) (no_modules_yet g old new begun first e) in
    let here = modules_more g old new begun begun place x next first first then e few before at keeps sees in
    modules_over g old new begun (slice_set begun place next) (length begun) first then e (omega arith)
    (modules_passed g old new reach (place + 1) (length begun) (slice_set begun place next) first then good b is (omega (arith, few))
    (λ d low high. aside d (omega (arith, low)) (λ same. omega (arith, same, low))) here)
