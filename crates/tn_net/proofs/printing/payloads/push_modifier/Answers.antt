use Rattle.std.proofs.{Common.{◌++◌, List, ℕ, ap, ◌∙◌}, lemmas.Result.on_ok_weaker}
use Rattle.tn_net.proofs.lemmas.printing.Appending.{behind}
use Rattle.tn_net.proofs.printing.payloads.push_modifier.Goals as goal

pub returns : goal.returns
returns c =
    let level = c.in_ok-extend_from_slice.ensures.items ∙ ap (λ (xs : List ℕ). c.args.out.now.items ++ xs) c.name_of_level.ensures in
    let ack = behind _ _ _ _ _ level c.in_ok-push_bit.ensures in
    let flush_in = behind _ _ _ _ _ ack c.in_ok-push_bit-2.ensures in
    on_ok_weaker c.push_bit-3.result (behind _ _ _ _ _ flush_in) c.push_bit-3.ensures
