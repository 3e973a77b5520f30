-- Changes that are put one by one: how the item of a new one stands to that of the last.
use Rattle.std.specs.Prelude.{◌-◌, List, [], length, map, fold, slice_get}
use Rattle.std.specs.declared.cmp.Ordering.{Ordering}
use Rattle.std.specs.declared.cmp.Ordering.TheVariants.{Greater}
use Rattle.std.specs.BTreeMap.{insert_entry}
use Rattle.std.specs.Option.{option_map_or}
use Rattle.sdd_base.specs.declared.change.Change.{Change}
use Rattle.sdd_lang.specs.Database.{Item, item_cmp}
use Rattle.sdd_lang.specs.Effect.{Changed}

-- the fragment and the key that a change is of
abbrev pub changed_item : Change → Item
changed_item c = (c.frag.0, c.key)

-- changes as what each makes of its item
abbrev pub by_item : List Change → Changed
by_item changes = map (λ c. (changed_item c, c.row)) changes

-- changes put one by one, ascending by their items; of two of one item the later stands
abbrev pub put_each : Changed → Changed
put_each changes = fold (λ kept c. insert_entry item_cmp kept c.0 c.1) [] changes

-- how an item stands to that of the last change; above it where there is none
abbrev pub to_last_item : List Change → Item → Ordering
to_last_item changes item =
    option_map_or (λ last. item_cmp item (changed_item last)) (slice_get changes (length changes - 1)) Greater
