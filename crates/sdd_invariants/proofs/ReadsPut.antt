-- The READs of a class on a link have different, rising times.
use Rattle.sdd_invariants.proofs.All.{Act, AllLt, Catalogue, Did, Each, Entry, IsFair, IsPutBy, IsStep, IsStrict, List, Log, Msg, None, Queued, Sends, Setting, Site, Some, Submits, [], ap, append-nil, arith, ascending, asks_rows, bound, commit_act, cond, filter_map, filter_map-append, fragments_in, inl, inr, modules_asked, modules_of, number_of, puts_to, read_at, reads_in, refl, same_site, sends_of_act, slice_get, start_at, start_read, subst, suc, to_site, true, uses_of, ℕ, ◌<◌, ◌∷◌, ◌≡◌, ◌≤◌, ◌⊎◌}
use Rattle.sdd_invariants.proofs.Clocks.{bound_rises, clock_number}
use Rattle.sdd_invariants.proofs.WritesPut.{commit_puts}
use Rattle.sdd_invariants.proofs.Active.{step_way}
use Rattle.sdd_invariants.proofs.Bools.{if_way}
use Rattle.sdd_invariants.proofs.Lists.{ascending_ascends, in_if, in_none, in_one, lt_push, lt_up, range_ascends, strict_push}
use Rattle.sdd_invariants.proofs.Sites.{one_of_each}

pub strict_modules : (cat : Catalogue) (c : ℕ) (fs : List ℕ) → IsStrict (modules_of cat c fs)
strict_modules cat c fs = grind (arith, if_way, filter_map, range_ascends, ascending_ascends)

-- one act puts at most one READ of the class on the link, with a time above the bound
pub record OpensRead (s : Setting) (c : ℕ) (b : Site) (log : Log) (act : Act) : Type 0 where
  pub rises : bound s log ≤ bound s (Did act ∷ log)
  pub puts : (reads_in c (to_site b (sends_of_act act)) ≡ []) ⊎ ((t : ℕ) × (bound s log < t) × (t ≤ bound s (Did act ∷ log)) × (reads_in c (to_site b (sends_of_act act)) ≡ t ∷ []))

-- what a Start puts on a link
pub start_puts : (s : Setting) (c : ℕ) (b : Site) (log : Log) (q : Queued)
    → (to_site b (sends_of_act (start_at s c log q)) ≡ []) ⊎ ((d : ℕ) × (to_site b (sends_of_act (start_at s c log q)) ≡ start_read s c log q d ∷ []))
start_puts s c b log q =
    one_of_each (start_read s c log q) b (modules_asked s c q.text) (strict_modules s.catalogue c (ascending (fragments_in (uses_of s.catalogue q.text))))

asks_not_read : (ts k c : ℕ) (m : Msg) → asks_rows ts k m ≡ true → read_at c m ≡ None
asks_not_read ts k c m e = grind arith

pub opens_read : (s : Setting) (c : ℕ) (b : Site) (log : Log) (act : Act) → number_of s.site ≤ 63 → IsStep s log act → OpensRead s c b log act
opens_read s c b log act w i = step_way s log act (OpensRead s c b log) (λ k q at f e. (grind (arith, clock_number, start_puts, read_at, cond)))
    (λ k bases a at f. record { rises = omega arith; puts = inl (elim (commit_puts s k bases b a) [ inl e ↦ ap (reads_in c) e | inr p ↦ ap (reads_in c) p.1 ]) })
    (λ to m hand f. record { rises = omega arith; puts = inl (grind arith) }) i

pub record IsReadOnce (s : Setting) (c : ℕ) (b : Site) (log : Log) : Type 0 where
  pub strict : IsStrict (reads_in c (puts_to b log))
  pub closed : AllLt (suc (bound s log)) (reads_in c (puts_to b log))

read_on : (s : Setting) (c : ℕ) (b : Site) (log : Log) (e : Entry) → bound s log ≤ bound s (e ∷ log)
    → puts_to b (e ∷ log) ≡ puts_to b log → IsReadOnce s c b log → IsReadOnce s c b (e ∷ log)
read_on s c b log e l p h = grind (arith, lt_up)

pub read_once : (s : Setting) (c : ℕ) (b : Site) (log : Log) → number_of s.site ≤ 63 → Each (IsFair s) log → IsReadOnce s c b log
read_once s c b [] w h = record { strict = tt; closed = tt }
read_once s c b (Submits n txn ∷ log) w h = read_on s c b log (Submits n txn) (omega arith) refl (read_once s c b log w h.1)
read_once s c b (Did act ∷ log) w h =
    let i = read_once s c b log w h.1 in
    let o = opens_read s c b log act w h.0 in
    let e = filter_map-append (read_at c) (puts_to b log) (to_site b (sends_of_act act)) in
    elim o.puts [
      | inl p ↦ (grind (arith, reads_in, puts_to, append-nil, lt_up, bound))
      | inr p ↦ (grind (arith, reads_in, puts_to, strict_push, lt_up, bound, lt_push))
    ]
read_once s c b (x ∷ log) w h = read_on s c b log x (bound_rises s x log) refl (read_once s c b log w h.1)

pub put_by : (s : Setting) (b : Site) (log : Log) (act : Act) (k : ℕ) (m : Msg) → IsStep s log act
    → slice_get (to_site b (sends_of_act act)) k ≡ Some m → IsPutBy s log act m
put_by s b log act k m i = step_way s log act (λ x. slice_get (to_site b (sends_of_act x)) k ≡ Some m → IsPutBy s log x m)
    (λ c q at f e. λ there. elim (start_puts s c b log q) [
      | inl p ↦ in_none _ k m p there
      | inr p ↦ subst (IsPutBy s log (start_at s c log q)) (in_one _ _ k m p.1 there) (record { at_home = at; idle = f; queued = q; head = e; act_is = refl; time_is = refl; number_is = refl; try_is = refl })
    ])
    (λ c bases a at f. λ there. elim (commit_puts s c bases b a) [
      | inl p ↦ in_none _ k m p there
      | inr p ↦ subst (IsPutBy s log (commit_act s.catalogue bases c a)) (in_one _ _ k m p.1 there) (record { at_home = at; attempt = a; active_is = f; bases = bases; act_is = refl; time_is = refl; number_is = refl })
    ]) (λ to x hand f. λ there. subst (IsPutBy s log (Sends to x hand)) (in_if (same_site b to) x k m there).1 (grind (arith))) i
