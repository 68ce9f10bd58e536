use Rattle.std.proofs.Common.{◌++◌, arith}
use Rattle.std.specs.Prelude.{codes}
use Rattle.tn_net.specs.printing.Texts.{triple_text}
use Rattle.tn_net.proofs.lemmas.printing.Appending.{behind, one_more}
use Rattle.tn_net.proofs.printing.payloads.push_others.Goals as goal

pub loop-triple-preserved : goal.loop-triple-preserved
loop-triple-preserved c =
    one_more (λ other. codes ", " ++ triple_text other) c.args.out.now.items c.loop-triple.out.items _ c.args.triples.now c.loop-triple.triple-index _
    (omega arith) c.loop-triple.invariant (behind _ _ _ _ _ c.in_ok-extend_from_slice.ensures.items c.in_ok-push_triple.ensures)
