use Rattle.sdd_wire.proofs.All.{arith}
use Rattle.sdd_wire.proofs.Decoded.{decoded_so, decoded_again}
use Rattle.sdd_wire.proofs.decoding.decode.Goals as goal

pub returns-clause-spelled : goal.returns-clause-spelled
returns-clause-spelled c =
    decoded_so c.args.bytes.now c.whole_message.result (λ i. omega (arith, c.type_inv.bytes i))
    c.whole_message.ensures

pub returns-clause-read : goal.returns-clause-read
returns-clause-read c msg fits is =
    decoded_again c.args.bytes.now c.whole_message.result msg c.whole_message.ensures fits is
