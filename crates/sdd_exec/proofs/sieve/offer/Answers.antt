use Rattle.sdd_exec.proofs.All.{refl}
use Rattle.sdd_exec.proofs.Sieves.{offered_full_one, offered_kept, offered_again}
use Rattle.sdd_exec.proofs.sieve.offer.Goals as goal

pub returns-then-is_full : goal.returns-then-is_full
returns-then-is_full c =
    offered_full_one c.args.parts.now c.args.mesh.now c.args.sieve.now c.args.choice c.requires
    (rw (c.in_ok-links.ensures, c.as_slice.ensures.value, c.as_slice-2.ensures) at (c.is_full.ensures c.if-is_full.true))

pub returns-in_ok-push : goal.returns-in_ok-push
returns-in_ok-push c =
    offered_kept c.args.parts.now c.args.mesh.now c.args.sieve.now (record { kept = c.push.new.self; found = c.add_found.new.found }) c.args.choice c.requires
    (rw (c.in_ok-links.ensures, c.in_ok-outs.ensures, c.as_slice.ensures.value, c.as_slice-2.ensures, c.as_slice-3.ensures.value, c.as_slice-4.ensures) at c.in_ok-add_found.ensures.rows)
    c.in_ok-push.ensures.items

pub returns-else-branch : goal.returns-else-branch
returns-else-branch c =
    offered_again c.args.parts.now c.args.mesh.now c.args.sieve.now
    (record { kept = c.args.sieve.now.kept; found = c.add_found.new.found }) c.args.choice c.requires
    (rw (c.in_ok-links.ensures, c.in_ok-outs.ensures, c.as_slice.ensures.value, c.as_slice-2.ensures, c.as_slice-3.ensures.value, c.as_slice-4.ensures) at c.in_ok-add_found.ensures.rows)
    (rw (c.in_ok-links.ensures, c.in_ok-outs.ensures, c.as_slice.ensures.value, c.as_slice-2.ensures, c.as_slice-3.ensures.value, c.as_slice-4.ensures) at (c.in_ok-add_found.ensures.there c.if-branch.false))
    refl
