use Rattle.std.proofs.Common.{rules, sym, ◌∙◌, append-nil}
use Rattle.tn_server.proofs.lemmas.Ends.{waits_are}
use Rattle.tn_server.specs.Events.{took, wrote, pulled}
use Rattle.tn_example_echo.proofs.{Saying.{says_event, says_then}, Echoing.{echoes_line, first_text}}
use Rattle.tn_example_echo.proofs.answer_next.Goals as goal

pub returns-in_ok-pull-in-Some-Text-clause-says : goal.returns-in_ok-pull-in-Some-Text-clause-says
returns-in_ok-pull-in-Some-Text-clause-says c =
    says_then _ _ _ _ _ _ (says_event _ _ took _ _ c.in_ok-line.ensures.step c.in_ok-line.ensures.out)
    (says_then _ _ _ _ _ _ (says_event _ _ (wrote _) _ _ c.write.ensures.step (sym (append-nil c.take.new.out.items)))
    (says_event _ _ (pulled _) _ _ c.in_ok-pull-in-Some-Text.ensures.step c.in_ok-pull-in-Some-Text.ensures.out))

pub returns-in_ok-pull-in-Some-Text-clause-echoes :
    goal.returns-in_ok-pull-in-Some-Text-clause-echoes
returns-in_ok-pull-in-Some-Text-clause-echoes c h line others leads waits =
    let same = first_text _ _ _ _ (sym waits ∙ waits_are h c.args.end.now leads
    ∙ rw c.in-Some-Text.field-0-is at (rw c.in-Some-Text.is at c.in_ok-line.ensures.entry)) in
    echoes_line _ _ _ _ h line _ leads c.in_ok-line.ensures.step
    (rw (sym (same ∙ sym c.as_slice.ensures)) at c.write.ensures.step)
    c.in_ok-pull-in-Some-Text.ensures.step c.in_ok-pull-in-Some-Text.ensures.count

pub returns-in-Some : goal.returns-in-Some
returns-in-Some c = record {
  says = says_event _ _ took _ _ c.in_ok-line.ensures.step c.in_ok-line.ensures.out;
  echoes = λ h line others leads waits.
      let first = sym waits ∙ waits_are h c.args.end.now leads in
      let entry = first ∙ rw c.in-Some.is at c.in_ok-line.ensures.entry in
      search rules;
}

pub returns-in-None-clause-says : goal.returns-in-None-clause-says
returns-in-None-clause-says c = says_event _ _ took _ _ c.in_ok-line.ensures.step c.in_ok-line.ensures.out
