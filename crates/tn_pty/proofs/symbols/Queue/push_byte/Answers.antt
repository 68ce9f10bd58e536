use Rattle.std.proofs.Common.{◌≡◌, ◌<◌, ℕ, Bool, List, [], ◌∷◌, ◌++◌, length, sym, ap, ◌∙◌, arith}
use Rattle.circular_buffer.specs.Buffer.{Buffer, buffer}
use Rattle.tn_discipline.specs.declared.echo.Symbol.{Symbol}
use Rattle.tn_pty.specs.Runs.{shown_byte, feeds, marked_symbols}
use Rattle.tn_pty.proofs.{Marked.{length-marked, feeds-le, marked_other, feed_count, feed_marked, other_count, pushed}, Queues.{one_fits, none_fits}}
use Rattle.tn_pty.proofs.symbols.Queue.push_byte.Goals as goal

pub returns-then-len-ge-QUEUE_SYMBOLS : goal.returns-then-len-ge-QUEUE_SYMBOLS
returns-then-len-ge-QUEUE_SYMBOLS c =
    let p = c.self.inside in
    let size : length c.args.self.now ≡ length p.bytes.items = ap length (sym c.self.view_is) ∙ length-marked p.bytes.items p.marks.items in
    sym (none_fits c.args.self.now (shown_byte c.args.newline c.args.byte) (omega arith))

pub invariant_of-self : goal.invariant_of-self
invariant_of-self c =
    let p = c.self.inside in
    let put = c.try_push_back-room in
    let mark = c.try_push_back-room-then-byte-eq10 in
    let room : length p.bytes.items < p.bytes.capacity = omega arith in
    let marks : length p.marks.items < p.marks.capacity = omega (arith, c.self.invariant.0, c.self.invariant.1, c.self.invariant.2, feeds-le p.bytes.items) in
    let first : put.new.self ≡ buffer (p.bytes.items ++ c.args.byte ∷ []) p.bytes.capacity = pushed put.result put.ensures.variant put.ensures.ok room in
    let second : mark.new.self ≡ buffer (p.marks.items ++ c.args.newline ∷ []) p.marks.capacity =
    pushed mark.result mark.ensures.variant mark.ensures.ok marks in (
      ap (λ (b : Buffer ℕ). b.capacity) first ∙ c.self.invariant.0,
      ap (λ (m : Buffer Bool). m.capacity) second ∙ c.self.invariant.1,
      ap (λ (m : Buffer Bool). length m.items) second
          ∙ feed_count p.bytes.items p.marks.items c.args.newline c.args.byte c.if-byte-eq10.true c.self.invariant.2
          ∙ sym (ap (λ (b : Buffer ℕ). feeds b.items) first),
    )

pub invariant_of-self-else-byte-eq10 : goal.invariant_of-self-else-byte-eq10
invariant_of-self-else-byte-eq10 c =
    let p = c.self.inside in
    let put = c.try_push_back-room in
    let room : length p.bytes.items < p.bytes.capacity = omega arith in
    let first : put.new.self ≡ buffer (p.bytes.items ++ c.args.byte ∷ []) p.bytes.capacity = pushed put.result put.ensures.variant put.ensures.ok room in (
      ap (λ (b : Buffer ℕ). b.capacity) first ∙ c.self.invariant.0,
      c.self.invariant.1,
      other_count p.bytes.items p.marks.items c.args.byte c.if-byte-eq10.false c.self.invariant.2
          ∙ sym (ap (λ (b : Buffer ℕ). feeds b.items) first),
    )

pub returns-then-byte-eq10 : goal.returns-then-byte-eq10
returns-then-byte-eq10 c =
    let p = c.self.inside in
    let put = c.try_push_back-room in
    let mark = c.try_push_back-room-then-byte-eq10 in
    let symbol = shown_byte c.args.newline c.args.byte in
    let room : length p.bytes.items < p.bytes.capacity = omega arith in
    let marks : length p.marks.items < p.marks.capacity = omega (arith, c.self.invariant.0, c.self.invariant.1, c.self.invariant.2, feeds-le p.bytes.items) in
    let first : put.new.self ≡ buffer (p.bytes.items ++ c.args.byte ∷ []) p.bytes.capacity = pushed put.result put.ensures.variant put.ensures.ok room in
    let second : mark.new.self ≡ buffer (p.marks.items ++ c.args.newline ∷ []) p.marks.capacity =
    pushed mark.result mark.ensures.variant mark.ensures.ok marks in
    let size : length c.args.self.now ≡ length p.bytes.items = ap length (sym c.self.view_is) ∙ length-marked p.bytes.items p.marks.items in
    ap (λ (b : Buffer ℕ). marked_symbols b.items mark.new.self.items) first
    ∙ ap (λ (m : Buffer Bool). marked_symbols (p.bytes.items ++ c.args.byte ∷ []) m.items) second
    ∙ feed_marked p.bytes.items p.marks.items c.args.newline c.args.byte c.if-byte-eq10.true c.self.invariant.2
    ∙ ap (λ (q : List Symbol). q ++ symbol ∷ []) c.self.view_is
    ∙ sym (one_fits c.args.self.now symbol (omega arith))

pub returns-else-byte-eq10 : goal.returns-else-byte-eq10
returns-else-byte-eq10 c =
    let p = c.self.inside in
    let put = c.try_push_back-room in
    let symbol = shown_byte c.args.newline c.args.byte in
    let room : length p.bytes.items < p.bytes.capacity = omega arith in
    let first : put.new.self ≡ buffer (p.bytes.items ++ c.args.byte ∷ []) p.bytes.capacity = pushed put.result put.ensures.variant put.ensures.ok room in
    let size : length c.args.self.now ≡ length p.bytes.items = ap length (sym c.self.view_is) ∙ length-marked p.bytes.items p.marks.items in
    ap (λ (b : Buffer ℕ). marked_symbols b.items p.marks.items) first
    ∙ marked_other p.bytes.items p.marks.items c.args.newline c.args.byte c.if-byte-eq10.false c.self.invariant.2
    ∙ ap (λ (q : List Symbol). q ++ symbol ∷ []) c.self.view_is
    ∙ sym (one_fits c.args.self.now symbol (omega arith))
