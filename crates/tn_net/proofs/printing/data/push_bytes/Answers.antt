use Rattle.std.proofs.Common.{arith}
use Rattle.tn_net.specs.printing.Texts.{byte_text}
use Rattle.tn_net.proofs.lemmas.printing.Appending.{one_more}
use Rattle.tn_net.proofs.printing.data.push_bytes.Goals as goal

pub loop-byte-preserved : goal.loop-byte-preserved
loop-byte-preserved c =
    one_more byte_text c.args.out.now.items c.loop-byte.out.items _ c.args.bytes.now c.loop-byte.byte-index 0 (omega arith) c.loop-byte.invariant
    c.in_ok-push_byte.ensures
