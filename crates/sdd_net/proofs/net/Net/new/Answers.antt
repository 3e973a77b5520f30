use Rattle.sdd_net.proofs.All.{[], ap, map, placed, replicate, unused_channel, ◌∙◌}
use Rattle.sdd_net.proofs.Calls.{unused_represent}
use Rattle.sdd_net.proofs.net.Net.new.Goals as goal

pub invariant_of-result : goal.invariant_of-result
invariant_of-result g c = record {
  few_tms = c.requires.tms;
  few_dms = c.requires.dms;
  all_links = c.in_ok-links.ensures ∙ ap (map (placed c.args.tms c.args.dms)) (c.deref.ensures.value ∙ c.in_ok-pairs.ensures);
  represents = λ _. (
    [],
    unused_represent _ c.args.tms c.args.dms c.in_ok-channels.channels.items
        (c.in_ok-channels.ensures ∙ ap (λ n. replicate n unused_channel) c.pair_count.ensures),
  );
}

pub returns-clause-unused : goal.returns-clause-unused
returns-clause-unused g c =
    unused_represent _ c.args.tms c.args.dms c.in_ok-channels.channels.items
    (c.in_ok-channels.ensures ∙ ap (λ n. replicate n unused_channel) c.pair_count.ensures)
