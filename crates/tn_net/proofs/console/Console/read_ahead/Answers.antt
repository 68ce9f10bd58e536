use Rattle.std.proofs.Common.{[], ◌++◌, ap, List}
use Rattle.tn_net.proofs.{Giving.{kept_as, kept_only}, Passing.keeps_same, console.Console.read_ahead.Goals.{then-makes_room+in_ok-more, else-makes_room}}
use Rattle.tn_net.specs.{Passing.handed_on, declared.escaping.SessionInput.SessionInput}
use Rattle.tn_net.proofs.console.Console.read_ahead.Goals as goal

pub returns-clause-inputs : goal.returns-clause-inputs
returns-clause-inputs g c =
    let old = c.args.self.now in
    let room = c.makes_room in
    let bytes = g.K.Read.remaining old.typing.keys in
    elim c.if-makes_room.branch [
      | then-makes_room+in_ok-more w ↦
          let new = w.read_in.new.self in
          rw w.self-is (kept_as bytes (g.K.Read.remaining new.typing.keys) old.escaping new.escaping old.asked new.asked old.kept.items room.new.kept.items
          new.kept.items [] room.ensures.kept w.read_in.ensures.inputs)
      | else-makes_room w ↦
          rw w.self-is (kept_only bytes bytes old.escaping old.asked old.asked old.kept.items room.new.kept.items [] (keeps_same bytes)
          (ap (λ (l : List SessionInput). handed_on [] old.asked ++ l) room.ensures.kept))
    ]
