-- To which classes an attempt of a class, or its passing, leads: those whose own modules it needs.
use Rattle.std.specs.Prelude.{◌==◌, ◌&&◌, ◌||◌}
use Rattle.std.specs.List.{list_any, range_with_len}
use Rattle.sdd_ask.specs.Flags.{Relation}
use Rattle.sdd_ask.specs.declared.flags.TheConstants.{WIDTH}

-- some reader waits for both
abbrev pub is_held : Relation → Relation
is_held waits j m = list_any (λ r. waits r j && waits r m) (range_with_len 0 WIDTH)

-- from the passing of a class to that of the next: to itself, by a wait, or by a reader that waits for both
abbrev pub moves : Relation → Relation
moves waits j m = (j == m) || (waits j m || is_held waits j m)

-- by an await to what the passing of the other leads to
abbrev pub goes_on : Relation → Relation → Relation
goes_on awaits passing c k = list_any (λ j. awaits c j && passing j k) (range_with_len 0 WIDTH)

-- from an attempt of a class: to itself, or on
abbrev pub begins : Relation → Relation → Relation
begins awaits passing c k = (c == k) || goes_on awaits passing c k
