use Rattle.std.proofs.{Common.{◌≡◌, true, sym, ◌∙◌, arith}, lemmas.Grind.common_steps}
use Rattle.tn_client.specs.Steps.{sends_where}
use Rattle.tn_client.proofs.{Undoing.undone, end.ClientEnd.type_edited.Goals.{in-Gives+in-Text-2, in-Gives+in-Eof-2, in-Nothing-2}}
use Rattle.tn_client.proofs.end.ClientEnd.type_edited.Goals as goal

pub returns-in-Err-clause-err : goal.returns-in-Err-clause-err
returns-in-Err-clause-err c =
    let sends : sends_where c.self.inside.forward c.args.role c.in_ok-effect.effect ≡ true =
    sym c.is_sent_ahead.ensures ∙ c.if-not-is_sent_ahead.false in
    elim c.match-effect.branch [
      | in-Gives+in-Text-2 w ↦ undone _ _ _ _ _ _ _ c.in_ok-effect.ensures.line
          (c.self-2.view_is ∙ c.in-Err.ensures.err) c.erase-erased.ensures.line w.self-is c.in_ok-effect.ensures.effect sends ∙ c.self.view_is
      | in-Gives+in-Eof-2 w ↦ undone _ _ _ _ _ _ _ c.in_ok-effect.ensures.line
          (c.self-2.view_is ∙ c.in-Err.ensures.err) c.erase-erased.ensures.line w.self-is c.in_ok-effect.ensures.effect sends ∙ c.self.view_is
      | in-Nothing-2 w ↦ undone _ _ _ _ _ _ _ c.in_ok-effect.ensures.line
          (c.self-2.view_is ∙ c.in-Err.ensures.err) c.erase-erased.ensures.line w.self-is c.in_ok-effect.ensures.effect sends ∙ c.self.view_is
    ]

pub returns-in_err-effect-clause-err_out : goal.returns-in_err-effect-clause-err_out
returns-in_err-effect-clause-err_out c = grind (arith, common_steps)

pub returns-in-Err-clause-err_out : goal.returns-in-Err-clause-err_out
returns-in-Err-clause-err_out c = grind (arith, common_steps)
