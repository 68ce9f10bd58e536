use Rattle.std.proofs.Common.{◌≡◌, false, IfErr, subst}
use Rattle.tn_linemode.specs.Modes.{edits}
use Rattle.tn_server.specs.{Calls.End, Steps.{IsKeyCause, role_of_typed}}
use Rattle.tn_server.proofs.Running.{refused_key}
use Rattle.tn_server.proofs.end.ServerEnd.byte.Goals as goal

pub returns-clause-cause : goal.returns-clause-cause
returns-clause-cause c =
    let p = c.self.inside in
    let r = c.raw_key.result in
    let old : End = record {
      decoder = p.decoder;
      terms = record { options = p.terms.options; wish = p.terms.wish; opening = p.terms.opening };
      modes = p.terms.modes;
      table = p.table;
      terminal = p.pair;
      pulled = p.pulled;
      breaks = p.breaks;
      failed = p.failed;
    } in
    let edit : edits p.terms.modes.current ≡ false = cc in
    subst (λ (e : End). IfErr r (λ fault. IsKeyCause e.terminal (role_of_typed e c.args.byte) fault)) c.self.view_is
    (refused_key old c.raw_key.new.self c.args.byte r edit c.raw_key.ensures.refused)
