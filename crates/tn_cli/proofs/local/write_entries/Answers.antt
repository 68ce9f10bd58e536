use Rattle.std.proofs.{Common.{◌≡◌, ◌+◌, ◌-◌, length, drop, subst, arith}, lemmas.{Result.err_from_is_err_and, List.{length-drop, length-take}}}
use Rattle.std.specs.Io.KnownBytes.{Appends}
use Rattle.tn_cli.specs.Streams.{AppendsPrefix, max_writes}
use Rattle.tn_cli.proofs.Entries.{given_none, given_more, given_all, given_front, made_both, failed_after}
use Rattle.tn_cores.proofs.lemmas.streams.Telling.{made_none}
use Rattle.tn_cli.proofs.local.write_entries.Goals as goal

pub loop-typed-init : goal.loop-typed-init
loop-typed-init g c = record {
  within = omega arith;
  left = omega arith;
  empty = c.requires.empty;
  len = c.requires.len;
  room = c.requires.room;
  given = given_none c.args.typing (g.W.Drain.contents c.args.writer.now) c.requires.new;
  made = made_none (g.W.Drain.told c.args.writer.now);
}

pub loop-typed-preserved : goal.loop-typed-preserved
loop-typed-preserved g c =
    let contents = g.W.Drain.contents in
    let told = g.W.Drain.told in
    let keys = c.args.keys.now in
    let i = c.loop-typed.typed in
    let had = c.loop-typed.invariant in
    let wrote = c.in_ok-left.ensures in
    let now = c.in_ok-left.left in
    let sum : (max_writes - c.loop-typed.left) + (c.loop-typed.left - now) ≡ max_writes - now = omega (arith, had.left, wrote.left) in
    record {
      within = omega (arith, c.fill-typed.ensures.within, length-take (length keys - i) (drop i keys), length-drop i keys, had.within);
      left = omega (arith, wrote.left, had.left);
      empty = c.clear.ensures.printed;
      len = c.clear.ensures.len;
      room = omega (arith, c.clear.ensures.capacity, c.fill-typed.ensures.capacity, had.room);
      given = given_more keys i c.fill-typed.result c.loop-typed.typing c.fill-typed.new.self c.clear.new.self
          (contents c.args.writer.now) (contents c.loop-typed.writer) (contents c.write_within.new.writer) had.given c.fill-typed.ensures.types
          (subst (λ xs. Appends (contents c.loop-typed.writer) (contents c.write_within.new.writer) xs) c.printed.ensures wrote.ok)
          c.clear.ensures.typed;
      made = rw (← sum) (made_both (max_writes - c.loop-typed.left) (c.loop-typed.left - now) (told c.args.writer.now)
          (told c.loop-typed.writer) (told c.write_within.new.writer) had.made wrote.made);
    }

pub returns-in_err-left-clause-err : goal.returns-in_err-left-clause-err
returns-in_err-left-clause-err g c =
    let contents = g.W.Drain.contents in
    let fault = err_from_is_err_and c.from_residual.result c.from_residual.ensures.1 in
    rw fault.1 (given_front c.args.keys.now c.loop-typed.typed c.fill-typed.result c.loop-typed.typing c.fill-typed.new.self
    (contents c.args.writer.now) (contents c.loop-typed.writer) (contents c.write_within.new.writer) c.loop-typed.invariant.given
    c.fill-typed.ensures.types
    (subst (λ xs. AppendsPrefix (contents c.loop-typed.writer) (contents c.write_within.new.writer) xs) c.printed.ensures c.in_err-left.ensures.err))

pub returns-in_err-left-clause-failed : goal.returns-in_err-left-clause-failed
returns-in_err-left-clause-failed g c =
    let told = g.W.Drain.told in
    let had = c.loop-typed.invariant in
    let fault = err_from_is_err_and c.from_residual.result c.from_residual.ensures.1 in
    rw fault.1 (failed_after (max_writes - c.loop-typed.left) c.loop-typed.left max_writes _ (told c.args.writer.now)
    (told c.loop-typed.writer) (told c.write_within.new.writer) (omega (arith, had.left)) had.made c.in_err-left.ensures.failed
    c.in_err-left.ensures.accounts)

pub returns-clause-ok : goal.returns-clause-ok
returns-clause-ok g c =
    let contents = g.W.Drain.contents in
    given_all c.args.keys.now c.loop-typed.typed c.loop-typed.typing (contents c.args.writer.now) (contents c.loop-typed.writer)
    c.loop-typed-test.false c.loop-typed.invariant.given c.loop-typed.invariant.empty
