use Rattle.std.proofs.{Common.{◌≡◌, ◌-◌, length, take, ◌++◌, refl, arith, length-append}, lemmas.List.{take_all, length-take-le}}
use Rattle.tn_net.proofs.lemmas.printing.Taking.{takes_short, takes_full, ok_gives}
use Rattle.tn_net.proofs.printing.printer.Lines.take_data.Goals as goal

pub returns-then-bytes-room-clause-takes : goal.returns-then-bytes-room-clause-takes
returns-then-bytes-room-clause-takes c =
    let bytes = c.args.bytes.now in
    let whole : take (length bytes) bytes ≡ bytes = take_all (length bytes) bytes (omega arith) in
    let kept = c.try_extend_from_slice-kept.ensures in
    let fits = kept.variant.1 (omega (arith, c.if-bytes-room.true, c.len-room.ensures.value)) in
    rw (whole, ← c.self.view_is) (takes_short _ _ bytes refl refl (ok_gives _ fits kept.ok)
    (omega (arith, ok_gives _ fits kept.len, c.if-bytes-room.true, c.len-room.ensures.value)))

pub returns-clause-takes : goal.returns-clause-takes
returns-clause-takes c =
    let held = c.self.inside.held.items in
    let front = take (64 - c.len-room.result) c.args.bytes.now in
    let full : length (held ++ front) ≡ 64 = omega (
      arith,
      length-append held front,
      length-take-le (64 - c.len-room.result) c.args.bytes.now c.if-bytes-room.false,
      c.len-room.ensures.value,
      c.self.invariant,
    ) in
    rw (← c.self.view_is) (takes_full _ _ front refl full (rw c.as_slice.ensures.value at c.in_ok-append_data.ensures.ok) c.clear.ensures)

pub invariant_of-self : goal.invariant_of-self
invariant_of-self c =
    let kept = c.try_extend_from_slice-kept.ensures in
    let fits = kept.variant.1 (omega (arith, c.if-bytes-room.true, c.len-room.ensures.value)) in
    omega (arith, ok_gives _ fits kept.len, c.if-bytes-room.true, c.len-room.ensures.value)
