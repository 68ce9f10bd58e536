use Rattle.std.proofs.Common.{◌∷◌, [], ◌++◌, take, ap, sym, ◌∙◌, arith, append_assoc}
use Rattle.circular_buffer.specs.Buffer.{buffer}
use Rattle.tn_pty.specs.Runs.{marked_symbols}
use Rattle.tn_pty.proofs.Marked.{symbols_more, marks_more}
use Rattle.tn_pty.proofs.symbols.push_symbols.Goals as goal

pub loop-byte-preserved : goal.loop-byte-preserved
loop-byte-preserved c =
    let bytes = c.args.bytes.now in
    let before = c.args.out.now.items in
    let marks = c.args.marks.now.items in
    let i = c.loop-byte.byte-index in
    let symbol = rw c.loop-byte.invariant.marks at c.take_symbol.ensures.symbol in
    let left = rw c.loop-byte.invariant.marks at c.take_symbol.ensures.marks in
    record {
      items =
          c.push_reserved.ensures.items
          ∙ ap (λ xs. xs ++ c.take_symbol.result ∷ []) c.loop-byte.invariant.items
          ∙ append_assoc before (marked_symbols (take i bytes) marks) (c.take_symbol.result ∷ [])
          ∙ ap (λ s. before ++ (marked_symbols (take i bytes) marks ++ s ∷ [])) symbol
          ∙ ap (λ xs. before ++ xs) (sym (symbols_more bytes i marks c.loop-byte-test.true));
      marks = left ∙ ap (λ ms. buffer ms c.args.marks.now.capacity) (marks_more bytes i marks c.loop-byte-test.true);
      len = omega (arith, c.push_reserved.ensures.len, c.loop-byte.invariant.len);
      capacity = c.push_reserved.ensures.capacity ∙ c.loop-byte.invariant.capacity;
    }
