use Rattle.std.proofs.{Common.{ℕ, Bool, List, ◌++◌, take, get_or, sym, ap, ◌∙◌}, lemmas.List.take_all}
use Rattle.tn_lines.specs.Said.{byte_said, said_from, ends_in_return}
use Rattle.tn_lines.proofs.Reading.{said_more, ends_more, reads_all}
use Rattle.tn_lines.proofs.lines.Lines.take.Goals as goal

pub loop-byte-preserved : goal.loop-byte-preserved
loop-byte-preserved c =
    let old = c.args.self.now in
    let bytes = c.args.bytes.now in
    let i = c.loop-byte.byte-index in
    let before = c.loop-byte.invariant in
    let got = c.in_ok-byte.ensures in
    let front = said_from old.line_end old.after_return (take i bytes) in
    let byte = get_or bytes i 0 in
    record {
      line_end = got.line_end ∙ before.line_end;
      after = got.after ∙ sym (ends_more old.after_return bytes i c.loop-byte-test.true);
      says =
          got.says
          ∙ ap (λ (l : List ℕ). l ++ byte_said c.loop-byte.self.line_end c.loop-byte.self.after_return byte) before.says
          ∙ ap (λ e. front ++ byte_said e c.loop-byte.self.after_return byte) before.line_end
          ∙ ap (λ (b : Bool). front ++ byte_said old.line_end b byte) before.after
          ∙ sym (said_more old.line_end old.after_return bytes i c.loop-byte-test.true);
    }

pub returns : goal.returns
returns c =
    let old = c.args.self.now in
    let bytes = c.args.bytes.now in
    let whole = take_all c.loop-byte.byte-index bytes c.loop-byte-test.false in
    let end = c.loop-byte.invariant in
    reads_all old c.loop-byte.self bytes c.loop-byte.said.items end.line_end
    (end.after ∙ ap (ends_in_return old.after_return) whole) (end.says ∙ ap (said_from old.line_end old.after_return) whole)
