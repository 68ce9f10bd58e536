use Rattle.std.proofs.{Common.{ℕ, Bool, List, ◌++◌, take, get_or, sym, ap, ◌∙◌}, lemmas.List.take_all}
use Rattle.tn_lines.specs.{Edges.{byte_shown, shown_from}, Said.ends_in_return}
use Rattle.tn_lines.proofs.{Reading.ends_more, Showing.{shown_more, shows_all}}
use Rattle.tn_lines.proofs.left_edge.LeftEdge.take.Goals as goal

pub loop-byte-preserved : goal.loop-byte-preserved
loop-byte-preserved c =
    let old = c.args.self.now in
    let bytes = c.args.bytes.now in
    let i = c.loop-byte.byte-index in
    let before = c.loop-byte.invariant in
    let got = c.in_ok-byte.ensures in
    let front = shown_from old.at_terminal old.after_return (take i bytes) in
    let byte = get_or bytes i 0 in
    record {
      at_terminal = got.at_terminal ∙ before.at_terminal;
      after = got.after ∙ sym (ends_more old.after_return bytes i c.loop-byte-test.true);
      shows =
          got.shows
          ∙ ap (λ (l : List ℕ). l ++ byte_shown c.loop-byte.self.at_terminal c.loop-byte.self.after_return byte) before.shows
          ∙ ap (λ (t : Bool). front ++ byte_shown t c.loop-byte.self.after_return byte) before.at_terminal
          ∙ ap (λ (b : Bool). front ++ byte_shown old.at_terminal b byte) before.after
          ∙ sym (shown_more old.at_terminal old.after_return bytes i c.loop-byte-test.true);
    }

pub returns : goal.returns
returns c =
    let old = c.args.self.now in
    let bytes = c.args.bytes.now in
    let whole = take_all c.loop-byte.byte-index bytes c.loop-byte-test.false in
    let end = c.loop-byte.invariant in
    shows_all old c.loop-byte.self bytes c.loop-byte.shown.items end.at_terminal
    (end.after ∙ ap (ends_in_return old.after_return) whole) (end.shows ∙ ap (shown_from old.at_terminal old.after_return) whole)
