use Rattle.std.proofs.Common.{[], ◌∷◌, sym, append-nil}
use Rattle.tn_example_line.proofs.Keys.{standard_is, typed_more, none_gained}
use Rattle.tn_example_line.proofs.type_key.Goals as goal

pub returns-in-Gives : goal.returns-in-Gives
returns-in-Gives c =
    let standard = standard_is c.standard.result c.standard.ensures.flags c.standard.ensures.chars in
    typed_more c.args.line.now _ c.args.key (c.in-Gives.entry ∷ []) _ _
    (rw standard at (rw c.in-Gives.is at c.in_ok-entry.ensures.advances)) c.in_ok-push.ensures.items

pub returns : goal.returns
returns c =
    let standard = standard_is c.standard.result c.standard.ensures.flags c.standard.ensures.chars in
    let gains_none = none_gained c.in_ok-entry.field-0 c.in_default.not-Gives in
    typed_more c.args.line.now _ c.args.key [] _ _ (rw standard at (rw gains_none at c.in_ok-entry.ensures.advances))
    (sym (append-nil c.args.entries.now.items))
