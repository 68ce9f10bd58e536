use Rattle.std.proofs.{Common.{◌≡◌, ◌+◌, ◌++◌, [], ◌∷◌, ℕ, List, refl, sym, ap, ◌∙◌, append_assoc, append-nil, take, get_or, arith}, lemmas.List.take_more}
use Rattle.tn_serve.specs.services.NewLines.{ends_by_return, settled, waiting}
use Rattle.tn_serve.proofs.of_services.NewLines.{at_most_one, byte_ends, byte_settles, ends_waiting, settled_waiting}
use Rattle.tn_serve.proofs.services.showing.settle.Goals as goal

pub loop-byte-init : goal.loop-byte-init
loop-byte-init c =
    let text = c.args.text.items in
    let held = waiting c.args.waited in
    record {
      items = sym (append-nil text) ∙ ap (λ (l : List ℕ). text ++ l) (sym (ap settled (append-nil held) ∙ settled_waiting c.args.waited));
      waits = sym (ap ends_by_return (append-nil held) ∙ ends_waiting c.args.waited);
      room = omega arith;
      capacity = refl;
    }

pub settle_byte-waits-requires : goal.settle_byte-waits-requires
settle_byte-waits-requires c =
    let before = c.loop-byte.invariant in omega (arith, before.room, before.capacity, c.requires, c.loop-byte-test.true, at_most_one c.args.waited)

pub loop-byte-preserved : goal.loop-byte-preserved
loop-byte-preserved c =
    let before = c.loop-byte.invariant in
    let one = c.settle_byte-waits.ensures in
    let held = waiting c.args.waited in
    let bytes = c.args.bytes.now in
    let i = c.loop-byte.byte-index in
    let byte = get_or bytes i 0 in
    let more : held ++ take (i + 1) bytes ≡ (held ++ take i bytes) ++ byte ∷ [] =
    ap (λ (l : List ℕ). held ++ l) (take_more bytes i 0 c.loop-byte-test.true) ∙ sym (append_assoc held (take i bytes) (byte ∷ [])) in
    record {
      items = byte_settles c.args.text.items c.loop-byte.text.items c.settle_byte-waits.new.text.items (held ++ take i bytes)
          (held ++ take (i + 1) bytes) byte c.loop-byte.waits more before.items before.waits one.items;
      waits = byte_ends (held ++ take i bytes) (held ++ take (i + 1) bytes) byte c.settle_byte-waits.result more one.waits;
      room = omega (arith, one.len, before.room);
      capacity = one.capacity ∙ before.capacity;
    }
