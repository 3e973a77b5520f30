use Rattle.sdd_shell.proofs.All.{ComesOfFiles, Err, Fault, IsErrOf, IsSome, KeepsOpen, List, ReadError, ReadFault, ReadsOne, Rose, ShelfFile, ShelfState, Some, err_from_is_err_and, find_file, refl, status_of_reading, ℕ, ◌+◌, ◌≡◌, ◌≤◌}
use Rattle.sdd_lang.specs.base.declared.reading.ReadError.TheVariants.{NoMemory}
use Rattle.sdd_shell.proofs.catalogue_file.read_named.Goals as goal

-- a read fault tells of a failed call
other_fault : {T : Type 0} (e : ReadError) → (IsErrOf {T = T} (Err e) Fault → ⊥) → status_of_reading e ≡ ReadFault → ⊥
other_fault Fault other is = other refl
other_fault NoMemory other is = absurd cc

read_failed : {A B : Type 0} (name : List ℕ) (before after : ShelfState) (e : ReadError)
    → KeepsOpen (λ _. Unit {0}) before.is_open after.is_open before.opened after.opened → after.files ≡ before.files → before.faults ≤ after.faults
    → (IsErrOf {T = A} (Err e) Fault → Rose before.faults after.faults)
    → ((free : ℕ) (fs : List ShelfFile) → before.sure (free + 1) → before.files ≡ Some fs → IsSome (find_file fs name)
    → (IsErrOf {T = A} (Err e) Fault → ⊥) × after.sure free × (after.faults ≡ before.faults))
    → ReadsOne {T = B} name before after (Err (status_of_reading e))
read_failed {A} name before after e others files later fault surely = record {
  others = others;
  files = files;
  later = later;
  fault = rose e fault;
  errors = from_files e;
  surely = λ free fs sure known some. let k = surely free fs sure known some in (other_fault {T = A} e k.0, k.1, k.2);
}
  where
    rose : (e : ReadError) → (IsErrOf {T = A} (Err e) Fault → Rose before.faults after.faults) → status_of_reading e ≡ ReadFault → Rose before.faults after.faults
    rose Fault f is = f refl
    rose NoMemory f is = absurd cc

    from_files : (e : ReadError) → ComesOfFiles (status_of_reading e)
    from_files Fault = tt
    from_files NoMemory = tt

pub returns-in_err-read_file-clause-leaves : goal.returns-in_err-read_file-clause-leaves
returns-in_err-read_file-clause-leaves g c =
    let p = err_from_is_err_and c.from_residual.result c.from_residual.ensures.1 in
    let e = c.in_err-read_file.ensures in
    rw (p.1, p.2) (read_failed c.args.name.now _ _ c.in_err-read_file.field-0.0 e.others e.files e.later e.fault e.surely)

pub returns-clause-leaves : goal.returns-clause-leaves
returns-clause-leaves g c =
    let e = c.in_ok-read_file.ensures in
    record {
      others = e.others;
      files = e.files;
      later = e.later;
      fault = tt;
      errors = tt;
      surely = λ free fs sure known some. let k = e.surely free fs sure known some in (tt, k.1, k.2);
    }
