-- Short runs of a workload's transactions, and their effects.
use Rattle.std.specs.Prelude.{◌≡◌, ◌&&◌, ◌++◌, ◌<◌, ◌∷◌, [], Bool, true, not, suc, List, Contains, length, slice_index_or}
use Rattle.std.specs.List.{list_all, range_with_len}
use Rattle.sdd_lang.specs.All.{Catalogue, Database, effect}
use Rattle.sdd_lang.specs.declared.effect.Effect.{Effect}
use Rattle.sdd_lang.specs.declared.transaction.Txn.{Txn}
use Rattle.sdd_robust_laws.specs.Runs.{change_one_item, succeeds}
use Rattle.sdd_robust.specs.declared.member.Member.{Member}
use Rattle.sdd_short_runs.specs.Orders.{HasReplyOrder}
use Rattle.sdd_short_runs.specs.ShortRuns.{effect_of, effects_in_turn, txn_of}

pub record IsOf (work : List Txn) (outer : Txn) (inner : List Txn) : Type 0 where
  pub outer_there : Contains work outer
  pub inner_there : (txn : Txn) → Contains inner txn → Contains work txn

-- whether all commit in a short run: none fails, and no inner one changes an item that the outer one changes
abbrev pub all_commit : Catalogue → Database → Txn → List Txn → Bool
all_commit cat first outer inner =
    succeeds (effect cat first outer).reply
    && list_all (λ e. succeeds e.reply && not (change_one_item cat e (effect cat first outer))) (effects_in_turn cat first inner)

-- these are the effects of a short run, by the numbers of its runs, and all of them commit
pub record AreCommitted (cat : Catalogue) (first : Database) (outer : Txn) (inner : List Txn) (effects : List Effect) : Type 0 where
  pub are : effects ≡ effects_in_turn cat first inner ++ effect cat first outer ∷ []
  pub commit : all_commit cat first outer inner ≡ true

-- the short run isn't one in which all commit, or some order of its transactions gives their replies
abbrev pub IsExplained : Catalogue → Database → Txn → List Txn → Type 0
IsExplained cat first outer inner =
    all_commit cat first outer inner ≡ true
    → HasReplyOrder cat (txn_of outer inner) (effect_of cat first outer inner) first (range_with_len 0 (suc (length inner)))

-- so is that of a pair, by the places of the two in the workload, the outer one first
abbrev pub IsExplainedPair : Catalogue → Database → List Txn → Member × Member → Type 0
IsExplainedPair cat first work pair =
    (txn : Txn) → pair.0.place < length work → pair.1.place < length work
    → IsExplained cat first (slice_index_or work pair.0.place txn) (slice_index_or work pair.1.place txn ∷ [])
