use Rattle.std.proofs.Common.{◌≡◌, true, [], ◌∷◌, is_ok, refl, ap, inr, sym, ◌∙◌, append-nil, arith, take}
use Rattle.std.specs.VecDeque.{deque_len}
use Rattle.tn_net.proofs.Sorting.{none_yet, obeys_more, one_more, commands_with, pushed, pushed_len}
use Rattle.tn_net.proofs.escaping.Escaping.sort.Goals.{in-Key, in-Control, in-Command, in-Nothing}
use Rattle.tn_net.specs.{declared.escaping.EscapeCommand.TheVariants.Close, Typing.commands}
use Rattle.tn_net.specs.declared.escaping.SessionInput.TheVariants as input
use Rattle.tn_net.specs.declared.escaping.Typed.TheVariants as typed
use Rattle.tn_net.proofs.escaping.Escaping.sort.Goals as goal

pub loop-place-init : goal.loop-place-init
loop-place-init g c = (
  none_yet c.args.self.now.keyboard c.args.self.now.prompt c.args.bytes.now c.args.kept.now.items
      (g.O.Obey.obeyed c.args.obeying.now) c.args.self.now refl refl,
  omega arith,
  omega arith,
)

pub loop-place-preserved : goal.loop-place-preserved
loop-place-preserved g c =
    let l = c.loop-place in
    let given = c.args.bytes.now in
    let inv = l.invariant in
    let few = c.loop-place-test.true in
    let before = g.O.Obey.obeyed c.args.obeying.now in
    let now = g.O.Obey.obeyed l.obeying in
    let echo = c.echo-in-loop-place.ensures in
    let shown = g.O.Obey.obeyed c.echo-in-loop-place.new.self in
    let more = one_more c.args.self.now.keyboard c.args.self.now.prompt given c.args.kept.now.items l.place 0 l.kept.items in
    let taken = c.take.ensures in
    elim c.match-take.branch [
      | in-Key w ↦
          let push = w.push_back-pushed in
          let ok : is_ok push.result ≡ true = push.ensures.succeeds (omega (arith, few, inv.1, inv.2, c.requires.room)) in
          let len = pushed_len (is_ok push.result) (deque_len l.kept) (deque_len push.new.self) ok push.ensures.len in
          let next = more push.new.self.items before now shown l.self c.take.new.self (typed.Key w.in-Key.key) inv.0 few
          (sym w.in-Key.is ∙ taken.typed) taken.keyboard taken.prompt
          (pushed (is_ok push.result) l.kept.items push.new.self.items (input.Key w.in-Key.key) ok push.ensures.items) echo in
          rw w.kept-is (rw w.obeying-is (next, omega (arith, len, inv.1), omega (arith, push.ensures.capacity, inv.2)))
      | in-Control w ↦
          let push = w.push_back-pushed-in-Control in
          let ok : is_ok push.result ≡ true = push.ensures.succeeds (omega (arith, few, inv.1, inv.2, c.requires.room)) in
          let len = pushed_len (is_ok push.result) (deque_len l.kept) (deque_len push.new.self) ok push.ensures.len in
          let next = more push.new.self.items before now shown l.self c.take.new.self (typed.Control w.in-Control.control) inv.0 few
          (sym w.in-Control.is ∙ taken.typed) taken.keyboard taken.prompt
          (pushed (is_ok push.result) l.kept.items push.new.self.items (input.Control w.in-Control.control) ok push.ensures.items) echo in
          rw w.kept-is (rw w.obeying-is (next, omega (arith, len, inv.1), omega (arith, push.ensures.capacity, inv.2)))
      | in-Command w ↦
          let next = more l.kept.items before now (g.O.Obey.obeyed w.obey-in-Command.new.self) l.self c.take.new.self
          (typed.Command w.in-Command.command) inv.0 few (sym w.in-Command.is ∙ taken.typed) taken.keyboard taken.prompt
          (sym (append-nil l.kept.items))
          (obeys_more now shown (g.O.Obey.obeyed w.obey-in-Command.new.self) [] (w.in-Command.command ∷ []) echo w.obey-in-Command.ensures) in
          rw w.kept-is (rw w.obeying-is (next, omega (arith, inv.1), inv.2))
      | in-Nothing w ↦
          let next = more l.kept.items before now shown l.self c.take.new.self typed.Nothing inv.0 few
          (sym w.in-Nothing.is ∙ taken.typed) taken.keyboard taken.prompt (sym (append-nil l.kept.items)) echo in
          rw w.kept-is (rw w.obeying-is (next, omega (arith, inv.1), inv.2))
    ]

pub returns-in-Command-Close-clause-inputs : goal.returns-in-Command-Close-clause-inputs
returns-in-Command-Close-clause-inputs g c =
    let l = c.loop-place in
    let taken = c.take.ensures in
    (one_more c.args.self.now.keyboard c.args.self.now.prompt c.args.bytes.now c.args.kept.now.items l.place 0 l.kept.items l.kept.items
    (g.O.Obey.obeyed c.args.obeying.now) (g.O.Obey.obeyed l.obeying) (g.O.Obey.obeyed c.obey.new.self) l.self c.take.new.self
    (typed.Command (Close c.in-Command-Close.next)) l.invariant.0 c.loop-place-test.true
    (sym (c.in-Command-Close.is ∙ ap typed.Command c.in-Command-Close.field-0-is) ∙ taken.typed) taken.keyboard taken.prompt
    (sym (append-nil l.kept.items))
    (obeys_more (g.O.Obey.obeyed l.obeying) (g.O.Obey.obeyed c.echo-in-loop-place.new.self) (g.O.Obey.obeyed c.obey.new.self) [] (Close c.in-Command-Close.next ∷ [])
    c.echo-in-loop-place.ensures c.obey.ensures)).kept_are

pub returns-in-Command-Close-clause-commands : goal.returns-in-Command-Close-clause-commands
returns-in-Command-Close-clause-commands g c =
    let l = c.loop-place in
    let taken = c.take.ensures in
    (one_more c.args.self.now.keyboard c.args.self.now.prompt c.args.bytes.now c.args.kept.now.items l.place 0 l.kept.items l.kept.items
    (g.O.Obey.obeyed c.args.obeying.now) (g.O.Obey.obeyed l.obeying) (g.O.Obey.obeyed c.obey.new.self) l.self c.take.new.self
    (typed.Command (Close c.in-Command-Close.next)) l.invariant.0 c.loop-place-test.true
    (sym (c.in-Command-Close.is ∙ ap typed.Command c.in-Command-Close.field-0-is) ∙ taken.typed) taken.keyboard taken.prompt
    (sym (append-nil l.kept.items))
    (obeys_more (g.O.Obey.obeyed l.obeying) (g.O.Obey.obeyed c.echo-in-loop-place.new.self) (g.O.Obey.obeyed c.obey.new.self) [] (Close c.in-Command-Close.next ∷ [])
    c.echo-in-loop-place.ensures c.obey.ensures)).obeyed

pub returns-in-Command-Close-clause-prompt : goal.returns-in-Command-Close-clause-prompt
returns-in-Command-Close-clause-prompt g c =
    let l = c.loop-place in
    let taken = c.take.ensures in
    (one_more c.args.self.now.keyboard c.args.self.now.prompt c.args.bytes.now c.args.kept.now.items l.place 0 l.kept.items l.kept.items
    (g.O.Obey.obeyed c.args.obeying.now) (g.O.Obey.obeyed l.obeying) (g.O.Obey.obeyed c.obey.new.self) l.self c.take.new.self
    (typed.Command (Close c.in-Command-Close.next)) l.invariant.0 c.loop-place-test.true
    (sym (c.in-Command-Close.is ∙ ap typed.Command c.in-Command-Close.field-0-is) ∙ taken.typed) taken.keyboard taken.prompt
    (sym (append-nil l.kept.items))
    (obeys_more (g.O.Obey.obeyed l.obeying) (g.O.Obey.obeyed c.echo-in-loop-place.new.self) (g.O.Obey.obeyed c.obey.new.self) [] (Close c.in-Command-Close.next ∷ [])
    c.echo-in-loop-place.ensures c.obey.ensures)).prompt_is

pub returns-in-Command-Close-clause-taken : goal.returns-in-Command-Close-clause-taken
returns-in-Command-Close-clause-taken g c =
    let l = c.loop-place in
    let keyboard = c.args.self.now.keyboard in
    let prompt = c.args.self.now.prompt in
    let given = c.args.bytes.now in
    let is = sym (c.in-Command-Close.is ∙ ap typed.Command c.in-Command-Close.field-0-is) ∙ c.take.ensures.typed in (
      omega (arith, c.loop-place-test.true),
      inr (
        commands keyboard prompt (take l.place given),
        c.in-Command-Close.next,
        commands_with keyboard prompt given l.place 0 l.self (typed.Command (Close c.in-Command-Close.next)) c.loop-place-test.true l.invariant.0.keyboard_is l.invariant.0.prompt_is is,
      ),
    )
