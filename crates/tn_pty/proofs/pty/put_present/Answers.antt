use Rattle.std.proofs.Common.{◌<◌, ◌++◌, ◌∷◌, [], length, take, sym, ap, ◌∙◌, arith, append_assoc, length-append}
use Rattle.tn_pty.specs.Typing.{symbols_in}
use Rattle.tn_pty.proofs.{Queues.one_fits, Shown.{present_some, present_none, present_room}, pty.put_present.Goals.{in-Some, in_default}}
use Rattle.tn_pty.proofs.pty.put_present.Goals as goal

pub loop-symbol-preserved : goal.loop-symbol-preserved
loop-symbol-preserved c =
    let before = c.args.queue.now in
    let symbols = c.args.symbols.now in
    let i = c.loop-symbol.symbol-index in
    let shown = symbols_in (take i symbols) in
    elim c.match-symbol.branch [
      | in-Some w ↦
          let symbol = w.in-Some.symbol in
          let more = present_room symbols i symbol c.loop-symbol-test.true w.in-Some.is in
          let room : length c.loop-symbol.queue < 4096 = rw c.loop-symbol.invariant (omega (arith, more, length-append before shown, c.requires)) in
          w.queue-is
          ∙ w.push.ensures
          ∙ one_fits c.loop-symbol.queue symbol room
          ∙ ap (λ queue. queue ++ symbol ∷ []) c.loop-symbol.invariant
          ∙ append_assoc before shown (symbol ∷ [])
          ∙ ap (λ xs. before ++ xs) (sym (present_some symbols i symbol c.loop-symbol-test.true w.in-Some.is))
      | in_default w ↦
          w.queue-is
          ∙ c.loop-symbol.invariant
          ∙ ap (λ xs. before ++ xs) (sym (present_none symbols i c.loop-symbol-test.true w.in_default.is))
    ]
