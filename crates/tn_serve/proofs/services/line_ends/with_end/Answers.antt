use Rattle.std.proofs.{Common.{◌≡◌, ◌∙◌, ℕ, List, ◌++◌, ◌∷◌, [], sym, ap, arith}, lemmas.Bool.ne_eqb}
use Rattle.tn_lines.specs.LineEnds.{line_said}
use Rattle.tn_serve.proofs.of_services.Ends.{empty, fed, not_fed}
use Rattle.tn_serve.proofs.services.line_ends.with_end.Goals as goal

pub returns-in-None : goal.returns-in-None
returns-in-None c =
    empty c.args.line_end c.args.bytes.items c.pop.new.self.items c.in-None.ensures.items
    (λ some. omega (arith, c.in-None.ensures.cases.0, c.args.bytes.ok.0, some))

pub returns-in_ok-extend_from_slice-in-Some-eq10 : goal.returns-in_ok-extend_from_slice-in-Some-eq10
returns-in_ok-extend_from_slice-in-Some-eq10 c =
    let body = c.pop.new.self.items in
    let was : c.args.bytes.items ≡ body ++ 10 ∷ [] = c.in-Some-eq10.ensures.items ∙ ap (λ (b : ℕ). body ++ b ∷ []) c.in-Some-eq10.field-0-test in
    c.in_ok-extend_from_slice-in-Some-eq10.ensures.items ∙ ap (λ (l : List ℕ). body ++ l) c.bytes.ensures ∙ sym (fed c.args.line_end body)
    ∙ ap (line_said c.args.line_end) (sym was)

pub returns-in_ok-push-in-Some : goal.returns-in_ok-push-in-Some
returns-in_ok-push-in-Some c =
    let body = c.pop.new.self.items in
    c.in_ok-push-in-Some.ensures.items ∙ sym (not_fed c.args.line_end body c.in-Some.last (ne_eqb c.in-Some.last 10 c.in-Some.last-test.1))
    ∙ ap (line_said c.args.line_end) (sym c.in-Some.ensures.items)
