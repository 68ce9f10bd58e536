use Rattle.std.proofs.Common.{◌≡◌, ◌++◌, take, flat_map}
use Rattle.std.specs.Prelude.{codes}
use Rattle.tn_net.specs.printing.Texts.{triple_text}
use Rattle.tn_net.proofs.printing.payloads.push_others.Given as goal

abbrev pub invariant-loop-triple : goal.invariant-loop-triple
invariant-loop-triple l = l.out.items ≡ l.initial.out.items ++ flat_map (λ other. codes ", " ++ triple_text other) (take l.triple-index l.triples)
