use Rattle.std.proofs.Common.{◌≡◌, arith, ◌∙◌, length}
use Rattle.tn_editor.proofs.Holding.{limit_is, resumed_line}
use Rattle.tn_editor.proofs.editor.Editor.resume.Goals as goal

pub returns : goal.returns
returns c =
    λ t e half s is fits.
    let limit = limit_is t e c.args.self.now s in
    let same : length half ≡ c.min.result = omega (arith, is, fits, limit, c.min.ensures, c.bytes-most.ensures.value, c.limit.ensures) in
    record {
      settings = s.settings;
      keys = s.keys;
      line = c.resume.ensures ∙ resumed_line t e c.args.self.now s half c.min.result same;
      refused = c.none-self.ensures;
    }
