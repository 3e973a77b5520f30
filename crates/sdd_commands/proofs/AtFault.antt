-- What a status that blames a script of transaction control says of the file that was read.
use Rattle.sdd_commands.proofs.All.{AtFault, BadCatalogue, BadWorkload, BlamesScript, ControlScript, Explains, Option, Result, Status, WorkFault}

pub script_at : (B : Type 0) (reading : Option (Result ControlScript WorkFault)) (s : Status) → B → Explains s (BlamesScript reading) → AtFault ⊥ B s
script_at B reading (BadCatalogue x) b e = e
script_at B reading (BadWorkload x) b e = b
script_at B reading _ b e = tt
