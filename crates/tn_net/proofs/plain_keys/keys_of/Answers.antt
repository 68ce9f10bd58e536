use Rattle.std.proofs.{Common.{arith, refl, sym, ap, ◌≡◌, ◌∙◌, ◌<◌, [], ◌++◌, List, ℕ, append-nil, false, length, take}, lemmas.List.{drop_all, length-set}}
use Rattle.tn_net.proofs.{Plain.{no_more, one_more, written}, plain_keys.keys_of.Goals.{in-Key, in-Command, in-Control, in-Nothing}}
use Rattle.tn_net.specs.PlainKeys.{key_in, keys_left}
use Rattle.tn_net.specs.declared.escaping.Typed.TheVariants as typed
use Rattle.tn_net.proofs.plain_keys.keys_of.Goals as goal

pub loop-place-init : goal.loop-place-init
loop-place-init g c = (omega arith, refl, λ rest. refl)

pub returns-then-asks_to_leave-clause-keys : goal.returns-then-asks_to_leave-clause-keys
returns-then-asks_to_leave-clause-keys g c = λ rest.
    let l = c.loop-place in
    no_more c.args.bytes.now l.place 0 c.loop-place-test.true l.escaping (take l.count l.buf) rest _ (l.invariant.2 rest) c.take-typed.result
    c.take-typed.ensures.typed (sym c.asks_to_leave.ensures ∙ c.if-asks_to_leave.true)

pub loop-place-preserved : goal.loop-place-preserved
loop-place-preserved g c =
    let l = c.loop-place in
    let inv = l.invariant in
    let given = c.args.bytes.now in
    let few = c.loop-place-test.true in
    let taken = c.take-typed.ensures in
    let stays = sym c.asks_to_leave.ensures ∙ c.if-asks_to_leave.false in
    let done = take l.count l.buf in
    let more = λ (rest : List ℕ). one_more given l.place 0 few l.escaping done rest _ (inv.2 rest) c.take-typed.new.self c.take-typed.result in
    elim c.match-typed.branch [
      | in-Key w ↦
          let small : l.count < length l.buf = omega (arith, inv.0, inv.1, few, c.requires.fits) in
          rw w.buf-is (rw w.count-is (
            omega (arith, inv.0),
            length-set l.buf l.count w.in-Key.key ∙ inv.1,
            λ rest. more rest _ taken.typed taken.keyboard taken.prompt stays
                (written l.buf l.count w.in-Key.key small ∙ ap (λ t. done ++ key_in t) (sym w.in-Key.is)),
          ))
      | in-Command w ↦
          rw w.buf-is (rw w.count-is (
            omega (arith, inv.0),
            inv.1,
            λ rest. more rest _ taken.typed taken.keyboard taken.prompt stays (sym (append-nil done) ∙ ap (λ t. done ++ key_in t) (sym w.in-Command.is)),
          ))
      | in-Control w ↦
          rw w.buf-is (rw w.count-is (
            omega (arith, inv.0),
            inv.1,
            λ rest. more rest _ taken.typed taken.keyboard taken.prompt stays (sym (append-nil done) ∙ ap (λ t. done ++ key_in t) (sym w.in-Control.is)),
          ))
      | in-Nothing w ↦
          rw w.buf-is (rw w.count-is (
            omega (arith, inv.0),
            inv.1,
            λ rest. more rest _ taken.typed taken.keyboard taken.prompt stays (sym (append-nil done) ∙ ap (λ t. done ++ key_in t) (sym w.in-Nothing.is)),
          ))
    ]

pub returns-clause-keys : goal.returns-clause-keys
returns-clause-keys g c = λ rest.
    let l = c.loop-place in
    ap (λ (xs : List ℕ). take l.count l.buf ++ keys_left false l.escaping (xs ++ rest)) (sym (drop_all l.place c.args.bytes.now c.loop-place-test.false))
    ∙ l.invariant.2 rest
