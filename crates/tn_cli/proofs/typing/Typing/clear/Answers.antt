use Rattle.std.proofs.Common.{◌++◌, ap, ◌∙◌, append-nil}
use Rattle.tn_cli.proofs.typing.Typing.clear.Goals as goal

pub returns-clause-typed : goal.returns-clause-typed
returns-clause-typed c keys given had =
    let before = given ++ c.args.self.now.printed.items in
    record {
      settings = had.settings;
      limit = had.limit;
      line = had.line;
      ahead = had.ahead;
      printed = ap (λ xs. before ++ xs) c.clear.ensures.items ∙ append-nil before ∙ had.printed;
    }
