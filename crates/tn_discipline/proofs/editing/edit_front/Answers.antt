use Rattle.std.proofs.{Common.{sym, ap, ◌∙◌, ◌+◌, get_or, take}, lemmas.List.{take_more, Elements.All-push}}
use Rattle.tn_discipline.specs.{Keys.gives_entry, Editing.{IsQuiet, line_at}}
use Rattle.tn_discipline.proofs.lemmas.Editing.{edited_more}
use Rattle.tn_discipline.proofs.editing.edit_front.Goals as goal

pub loop-key-preserved : goal.loop-key-preserved
loop-key-preserved c =
    let keys = c.args.keys.now in
    let settings = c.args.roles.now in
    let i = c.loop-key.key-index in
    let before = c.loop-key.invariant in
    let start = c.args.parts in
    let mid = c.loop-key.parts in
    let new = c.edit.new.parts in
    let after = c.edit.ensures in
    let here : IsQuiet settings (get_or keys i 0) = ap gives_entry (sym c.role-role.ensures) ∙ sym c.gives_entry.ensures ∙ c.if-gives_entry.false in
    record {
      count = ap (λ n. n + 1) before.count;
      limit = after.limit ∙ before.limit;
      room = after.room;
      fits = after.fits;
      quiet = rw (take_more keys i 0 c.loop-key-test.true) (All-push (IsQuiet settings) (take i keys) (get_or keys i 0) before.quiet here);
      line =
          edited_more settings (line_at start.held.items start.ahead start.limit) (line_at mid.held.items mid.ahead mid.limit)
          (line_at new.held.items new.ahead new.limit)
          keys i c.role-role.result c.loop-key-test.true c.role-role.ensures before.line after.line;
    }
