use Rattle.std.proofs.Common.{◌≡◌, ℕ, Bool, List, ◌++◌, length, map, take, replicate, sym, ap, ◌∙◌, arith, length-append}
use Rattle.std.proofs.lemmas.List.{take_all, length-replicate}
use Rattle.circular_buffer.specs.Buffer.{Buffer, buffer}
use Rattle.tn_discipline.specs.declared.echo.Symbol.{Symbol}
use Rattle.tn_pty.specs.Runs.{shown_byte, feeds, marked_symbols}
use Rattle.tn_pty.proofs.Marked.{length-marked, feeds-append, feeds-le, marked-append, marked-replicate}
use Rattle.tn_pty.proofs.symbols.Queue.push_run.Goals as goal

pub push_marks-requires : goal.push_marks-requires
push_marks-requires c =
    let p = c.self.inside in
    let size : length c.args.self.now ≡ length p.bytes.items = ap length (sym c.self.view_is) ∙ length-marked p.bytes.items p.marks.items in
    omega (arith, c.requires, size, c.self.invariant.0, c.self.invariant.1, c.self.invariant.2, feeds-le p.bytes.items, feeds-le c.args.bytes.now)

pub invariant_of-self : goal.invariant_of-self
invariant_of-self c =
    let p = c.self.inside in
    let bytes = c.args.bytes.now in
    let put = c.fill_from_slice-count in
    let more = replicate (feeds bytes) c.args.newlines in
    let size : length c.args.self.now ≡ length p.bytes.items = ap length (sym c.self.view_is) ∙ length-marked p.bytes.items p.marks.items in
    let all : take put.result bytes ≡ bytes = take_all put.result bytes (omega (arith, c.requires, size, c.self.invariant.0, put.ensures.count)) in
    let first : put.new.self ≡ buffer (p.bytes.items ++ bytes) p.bytes.capacity =
    put.ensures.items ∙ ap (λ xs. buffer (p.bytes.items ++ xs) p.bytes.capacity) all in
    let count : length (p.marks.items ++ more) ≡ feeds (p.bytes.items ++ bytes) =
    omega (arith, c.self.invariant.2, feeds-append p.bytes.items bytes, length-append p.marks.items more, length-replicate (feeds bytes) c.args.newlines) in (
      ap (λ (b : Buffer ℕ). b.capacity) first ∙ c.self.invariant.0,
      ap (λ (m : Buffer Bool). m.capacity) c.push_marks.ensures ∙ c.self.invariant.1,
      ap (λ (m : Buffer Bool). length m.items) c.push_marks.ensures ∙ count ∙ sym (ap (λ (b : Buffer ℕ). feeds b.items) first),
    )

pub returns : goal.returns
returns c =
    let p = c.self.inside in
    let bytes = c.args.bytes.now in
    let put = c.fill_from_slice-count in
    let more = replicate (feeds bytes) c.args.newlines in
    let size : length c.args.self.now ≡ length p.bytes.items = ap length (sym c.self.view_is) ∙ length-marked p.bytes.items p.marks.items in
    let all : take put.result bytes ≡ bytes = take_all put.result bytes (omega (arith, c.requires, size, c.self.invariant.0, put.ensures.count)) in
    let first : put.new.self ≡ buffer (p.bytes.items ++ bytes) p.bytes.capacity =
    put.ensures.items ∙ ap (λ xs. buffer (p.bytes.items ++ xs) p.bytes.capacity) all in
    ap (λ (b : Buffer ℕ). marked_symbols b.items c.push_marks.new.marks.items) first
    ∙ ap (λ (m : Buffer Bool). marked_symbols (p.bytes.items ++ bytes) m.items) c.push_marks.ensures
    ∙ marked-append bytes more p.bytes.items p.marks.items c.self.invariant.2
    ∙ ap (λ (xs : List Symbol). marked_symbols p.bytes.items p.marks.items ++ xs) (marked-replicate c.args.newlines bytes)
    ∙ ap (λ (q : List Symbol). q ++ map (shown_byte c.args.newlines) bytes) c.self.view_is
