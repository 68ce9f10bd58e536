use Rattle.std.proofs.Common.{◌≡◌, ◌+◌, ◌-◌, ◌++◌, Bool, List, length, take, drop, replicate, sym, ap, ◌∙◌, arith, append_assoc, length-append}
use Rattle.std.proofs.lemmas.List.{length-replicate, length-take, length-drop, replicate-append-replicate}
use Rattle.circular_buffer.specs.Buffer.{Buffer, buffer}
use Rattle.tn_pty.specs.Runs.{feeds}
use Rattle.tn_pty.proofs.{lemmas.Typed.left_of, Marked.{feeds_parts, feeds_rest}}
use Rattle.tn_pty.proofs.symbols.push_marks.Goals as goal

pub push_mark-at-requires-clause-room : goal.push_mark-at-requires-clause-room
push_mark-at-requires-clause-room c =
    let bytes = c.args.bytes.now in
    let marks = c.args.marks.now in
    let i = c.loop-at.at in
    let done = replicate (feeds (take i bytes)) c.args.newlines in
    let count : length c.loop-at.marks.items ≡ length marks.items + feeds (take i bytes) =
    ap (λ (m : Buffer Bool). length m.items) c.loop-at.invariant.marks
    ∙ length-append marks.items done
    ∙ ap (λ n. length marks.items + n) (length-replicate (feeds (take i bytes)) c.args.newlines) in
    let room : c.loop-at.marks.capacity ≡ marks.capacity = ap (λ (m : Buffer Bool). m.capacity) c.loop-at.invariant.marks in
    omega (arith, c.requires, count, room, feeds_rest i bytes, ap feeds (left_of i bytes))

pub loop-at-preserved : goal.loop-at-preserved
loop-at-preserved c =
    let bytes = c.args.bytes.now in
    let marks = c.args.marks.now in
    let i = c.loop-at.at in
    let n = c.push_mark-at.result in
    let k = c.args.newlines in
    let some = feeds (take i bytes) in
    let more = feeds (take n (drop i bytes)) in
    record {
      within = omega (arith, c.push_mark-at.ensures.within, length-take (length bytes - i) (drop i bytes), length-drop i bytes, c.loop-at.invariant.within);
      marks =
          c.push_mark-at.ensures.marks
          ∙ ap (λ xs. buffer (c.loop-at.marks.items ++ replicate (feeds (take n xs)) k) c.loop-at.marks.capacity) (left_of i bytes)
          ∙ ap (λ (m : Buffer Bool). buffer (m.items ++ replicate more k) m.capacity) c.loop-at.invariant.marks
          ∙ ap (λ (xs : List Bool). buffer xs marks.capacity)
          (append_assoc marks.items (replicate some k) (replicate more k)
          ∙ ap (λ (xs : List Bool). marks.items ++ xs)
          (replicate-append-replicate some more k ∙ ap (λ j. replicate j k) (sym (feeds_parts i n bytes))));
    }
