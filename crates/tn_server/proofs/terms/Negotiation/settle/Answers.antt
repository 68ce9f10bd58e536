use Rattle.std.proofs.{Common.{◌≡◌, ◌++◌, refl, arith}, lemmas.{Grind.common_steps, Result.err_from_is_err_and}}
use Rattle.tn_server.specs.{Terms.{linemode, wants_echo}, Replies.{new_table_items, echo_items}, Steps.{told_now, masks_by, is_due}}
use Rattle.tn_linemode.specs.Words.{mode_items}
use Rattle.tn_linemode.proofs.lemmas.Cutting.{cut_after_two, spelled_on}
use Rattle.tn_server.proofs.terms.Negotiation.settle.Goals as goal

pub returns-in_err-ask_echo-clause-err : goal.returns-in_err-ask_echo-clause-err
returns-in_err-ask_echo-clause-err c =
    let p = err_from_is_err_and c.from_residual-in_err-ask_echo.result c.from_residual-in_err-ask_echo.ensures.1 in
    let was = c.args.was_on in
    let n = c.args.self.now in
    rw p.1 (cut_after_two _ (new_table_items was (linemode n.options) c.args.table.now) (mode_items (told_now was n))
    (echo_items (is_due was c.args.is_set n) (wants_echo n.opening n.options (masks_by was n).asked c.args.flags.now) n.options) c.args.out.now.items c.put_table.new.out.items
    c.put_mode.new.out.items c.ask_echo.new.out.items refl
    (rw c.has_linemode-is_on.ensures at c.in_ok-put_table.ensures.ok)
    (rw c.ask_mode-told.ensures.told at c.in_ok-put_mode.ensures.ok) c.in_err-ask_echo.ensures.err)

pub returns-clause-out : goal.returns-clause-out
returns-clause-out c =
    let was = c.args.was_on in
    let n = c.args.self.now in
    let told = mode_items (told_now was n) in
    let due : c.if-is_on-was_on.is_due ≡ is_due was c.args.is_set n = grind (arith, common_steps) in
    let echo = echo_items (is_due was c.args.is_set n) (wants_echo n.opening n.options (masks_by was n).asked c.args.flags.now) n.options in
    spelled_on (new_table_items was (linemode n.options) c.args.table.now) (told ++ echo) c.args.out.now.items c.put_table.new.out.items
    c.ask_echo.new.out.items (rw c.has_linemode-is_on.ensures at c.in_ok-put_table.ensures.ok)
    (spelled_on told echo c.put_table.new.out.items c.put_mode.new.out.items c.ask_echo.new.out.items
    (rw c.ask_mode-told.ensures.told at c.in_ok-put_mode.ensures.ok)
    (rw (due, c.ask_mode-told.ensures.masks) at c.in_ok-ask_echo.ensures.out))
