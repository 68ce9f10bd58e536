use Rattle.std.proofs.Common.{◌++◌, Bool, List, length, replicate, sym, ap, ◌∙◌, arith, append-nil}
use Rattle.circular_buffer.specs.Buffer.{buffer}
use Rattle.tn_pty.proofs.Marked.{feeds_nowhere}
use Rattle.tn_pty.proofs.symbols.push_mark.Goals as goal

pub returns-in-Some-clause-marks : goal.returns-in-Some-clause-marks
returns-in-Some-clause-marks c =
    let marks = c.args.marks.now in
    let found = c.in-Some.ensures.0 in
    let none = feeds_nowhere c.args.bytes.now c.in-Some.count (omega (arith, found.high)) found.before in
    sym
    (ap (λ n. buffer (marks.items ++ replicate n c.args.newlines) marks.capacity) none
    ∙ ap (λ (xs : List Bool). buffer xs marks.capacity) (append-nil marks.items))

pub returns-in-None-clause-marks : goal.returns-in-None-clause-marks
returns-in-None-clause-marks c =
    let marks = c.args.marks.now in
    let bytes = c.args.bytes.now in
    let none = feeds_nowhere bytes (length bytes) (omega arith) c.in-None.ensures in
    sym
    (ap (λ n. buffer (marks.items ++ replicate n c.args.newlines) marks.capacity) none
    ∙ ap (λ (xs : List Bool). buffer xs marks.capacity) (append-nil marks.items))
