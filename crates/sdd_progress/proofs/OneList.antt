-- A log that puts no further class list in force: the one list is sound, and there is no place where one was put in force.
use Rattle.sdd_progress.proofs.All.{HasOneTable, HasSoundLists, Input, IsUpAtRedeclares, Log, arith, of_one_era, redeclares, ◌≡◌}
use Rattle.sdd_progress.proofs.SinceRedeclare.{redeclares_back}

pub one_list : (g : Input) (log : Log) → HasOneTable g → redeclares log ≡ 0 → HasSoundLists g log
one_list g log one none k l = grind (arith, of_one_era)

pub up_in_one : (g : Input) (log : Log) → redeclares log ≡ 0 → IsUpAtRedeclares g log
up_in_one g log none later before t is d there = absurd (grind (arith, redeclares_back))
