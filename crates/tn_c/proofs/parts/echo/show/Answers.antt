use Rattle.std.proofs.Common.{◌≡◌, ℕ, List, [], ◌∷◌, ◌++◌, Some, Result, Ok, Err, OnOk, if◌then◌else◌, sym, ap, ◌∙◌}
use Rattle.std.specs.Result.{is_ok}
use Rattle.tn_discipline.specs.declared.echo.Symbol.TheVariants.{Newline}
use Rattle.tn_c.specs.parts.Echoes.{symbol_bytes}
use Rattle.tn_c.proofs.parts.echo.show.Goals as goal

appends : {E : Type 0} (r : Result (Unit {0}) E) (new old bytes shown : List ℕ) → new ≡ (if is_ok r then old ++ bytes else old) → shown ≡ bytes
    → OnOk r (new ≡ old ++ shown)
appends (Ok x) new old bytes shown told e = told ∙ ap (λ (b : List ℕ). old ++ b) (sym e)
appends (Err f) new old bytes shown told e = tt

pub returns-in-Some-Newline : goal.returns-in-Some-Newline
returns-in-Some-Newline c =
    let some : c.args.symbol ≡ Some c.in-Some-Newline.field-0 = c.in-Some-Newline.is in
    let newline : c.in-Some-Newline.field-0 ≡ Newline = rw some at c.in-Some-Newline.field-0-is in
    appends c.extend_from_slice-in-Some-Newline.result _ c.args.out.now.items (13 ∷ 10 ∷ []) _ c.extend_from_slice-in-Some-Newline.ensures.items
    (ap symbol_bytes (some ∙ ap Some newline))
