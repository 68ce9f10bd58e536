use Rattle.std.proofs.Common.{◌≡◌, true, false, Bool, OnOk, IfErr, map, refl, sym, ap, ◌∙◌, subst}
use Rattle.tn_linemode.specs.Modes.{edits}
use Rattle.tn_nvt.specs.declared.items.Item.TheVariants.{Byte}
use Rattle.tn_pty.specs.declared.pty.Input.TheVariants.{Keys, Edited}
use Rattle.tn_server.specs.{Calls.End, Lending.RefusesByte, Steps.end_after_items, Terms.echoes, declared.faults.ServerFault.TheVariants.Pty}
use Rattle.tn_server.proofs.Running.{input_of, input_at, run_done, run_stops}
use Rattle.tn_server.proofs.end.ServerEnd.bytes.Goals as goal

pub returns-then-edit : goal.returns-then-edit
returns-then-edit c =
    let p = c.self.inside in
    let bytes = c.args.bytes.now in
    let r = c.edited_run.result in
    let old : End = record {
      decoder = p.decoder;
      terms = record { options = p.terms.options; wish = p.terms.wish; opening = p.terms.opening };
      modes = p.terms.modes;
      table = p.table;
      terminal = p.pair;
      pulled = p.pulled;
      breaks = p.breaks;
      failed = p.failed;
    } in
    let new : End = record old { terminal = c.edited_run.new.self } in
    let edit : edits p.terms.modes.current ≡ true = ap edits (sym c.current-mode.ensures) ∙ sym c.edit.ensures ∙ c.if-edit.true in
    let input : Edited ≡ input_at old = ap (λ (e : Bool). input_of e (echoes p.terms.options)) (sym edit) in
    record {
      ok =
          subst (λ (e : End). OnOk r (new ≡ end_after_items e (map Byte bytes))) c.self.view_is
          (run_done old new bytes Edited input refl r c.edited_run.ensures.pair);
      err =
          subst (λ (e : End). IfErr r (λ fault. RefusesByte e bytes (Pty fault) new)) c.self.view_is
          (run_stops old new bytes Edited input refl r c.edited_run.ensures.refused);
    }

pub returns : goal.returns
returns c =
    let p = c.self.inside in
    let bytes = c.args.bytes.now in
    let r = c.type_run.result in
    let old : End = record {
      decoder = p.decoder;
      terms = record { options = p.terms.options; wish = p.terms.wish; opening = p.terms.opening };
      modes = p.terms.modes;
      table = p.table;
      terminal = p.pair;
      pulled = p.pulled;
      breaks = p.breaks;
      failed = p.failed;
    } in
    let new : End = record old { terminal = c.type_run.new.self } in
    let edit : edits p.terms.modes.current ≡ false = ap edits (sym c.current-mode.ensures) ∙ sym c.edit.ensures ∙ c.if-edit.false in
    let input : Keys c.echoes-echo.result ≡ input_at old = ap Keys c.echoes-echo.ensures ∙ ap (λ (e : Bool). input_of e (echoes p.terms.options)) (sym edit) in
    record {
      ok =
          subst (λ (e : End). OnOk r (new ≡ end_after_items e (map Byte bytes))) c.self.view_is
          (run_done old new bytes (Keys c.echoes-echo.result) input refl r c.type_run.ensures.pair);
      err =
          subst (λ (e : End). IfErr r (λ fault. RefusesByte e bytes (Pty fault) new)) c.self.view_is
          (run_stops old new bytes (Keys c.echoes-echo.result) input refl r c.type_run.ensures.refused);
    }
