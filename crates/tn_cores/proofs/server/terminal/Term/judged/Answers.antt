use Rattle.std.proofs.Common.{refl, []}
use Rattle.tn_cores.proofs.of_terminal.{Handling.{does_judged, breaks_judged}, Refusing.wait_moved}
use Rattle.tn_cores.proofs.server.terminal.Term.judged.Goals as goal

pub returns-in-Ok-clause-ok : goal.returns-in-Ok-clause-ok
returns-in-Ok-clause-ok c =
    let s = c.in-Ok.ensures.ok in
    record {
      parts = s.0;
      cuts = s.1;
      does = does_judged c.args.id.0 s.0 c.args.verdict c.args.state c.ends_all-is_over.result c.args.self.now c.moves.new.self c.show_all-shown.new.self
          c.halt_if-put.new.self _ _ c.halt_if-put.result c.requires.on c.requires.held c.ends_all-is_over.ensures
          (c.moves.ensures.does _) s.2 c.halt_if-put.ensures;
    }

pub returns-in-Err-clause-err : goal.returns-in-Err-clause-err
returns-in-Err-clause-err c =
    let s = c.in-Err.ensures.err in (
      refl,
      record {
        parts = s.0;
        cuts = s.1;
        breaks = breaks_judged c.args.id.0 s.0 c.args.verdict c.args.state c.ends_all-is_over.result c.args.self.now c.moves.new.self c.show_all-shown.new.self
            c.halt_if-put.new.self _ _ c.halt_if-put.result c.requires.on c.requires.held c.ends_all-is_over.ensures
            (c.moves.ensures.does _) s.2 c.halt_if-put.ensures;
      },
    )

pub returns-in-Err-clause-grows : goal.returns-in-Err-clause-grows
returns-in-Err-clause-grows c = wait_moved c.args.id.0 c.args.verdict.next c.args.verdict.write c.args.text.now c.args.self.now c.moves.new.self _ _
    (c.moves.ensures.does []) c.in-Err.ensures.grows
