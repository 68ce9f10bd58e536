use Rattle.std.proofs.{Common.{◌++◌, List, ℕ, sym, ap, ◌∙◌, append-nil}, lemmas.{Bool.{eqb-true, eqb-false}, Result.on_ok_weaker}}
use Rattle.tn_net.proofs.lemmas.printing.Taking.{decoded_empty, held_line}
use Rattle.tn_net.specs.printing.Printing.{prefix_text}
use Rattle.tn_net.proofs.printing.printer.push_held.Goals as goal

pub returns-then-is_empty : goal.returns-then-is_empty
returns-then-is_empty c =
    let none = decoded_empty (prefix_text c.args.prefix) c.args.held.now (eqb-true _ _ (sym c.if-is_empty.ensures)) in
    sym (ap (λ (xs : List ℕ). c.args.line.now.items ++ xs) none ∙ append-nil c.args.line.now.items)

pub returns : goal.returns
returns c =
    let line = held_line (prefix_text c.args.prefix) c.args.held.now (eqb-false _ _ (sym c.if-is_empty.ensures)) c.requires in
    on_ok_weaker c.push_data_line.result (λ e. e ∙ ap (λ (xs : List ℕ). c.args.line.now.items ++ xs) line) c.push_data_line.ensures
