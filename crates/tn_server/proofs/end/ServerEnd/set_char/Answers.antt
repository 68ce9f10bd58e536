use Rattle.std.proofs.{Common.{◌≡◌, Bool, ◌&&◌, not, ◌++◌, Option, option_map, ap, ◌∙◌, arith}, lemmas.Grind.common_steps}
use Rattle.tn_discipline.specs.{Characters.slot, declared.characters.CharFault.CharFault}
use Rattle.tn_linemode.specs.Exchange.{is_same_value}
use Rattle.tn_nvt.specs.Spelling.{spells}
use Rattle.tn_server.specs.{Replies.triple_items, Terms.linemode, declared.faults.ServerFault.TheVariants.Char}
use Rattle.tn_server.proofs.end.ServerEnd.set_char.Goals as goal
use Rattle.tn_server.proofs.end.ServerEnd.set_char.Goals.{then-has_linemode, else-has_linemode}

pub returns-clause-accepted : goal.returns-clause-accepted
returns-clause-accepted c =
    rw (← c.self.view_is, c.if-self.false) (ap (λ (f : Option CharFault). option_map Char f) c.in-Ok.ensures.accepted)

pub returns-clause-out : goal.returns-clause-out
returns-clause-out c =
    let end = c.self.inside in
    let told : c.if-has_linemode.is_told ≡ (linemode end.terms.options && not (is_same_value (slot end.table c.args.func) c.args.value)) =
    elim c.if-has_linemode.branch [ then-has_linemode w ↦ grind (arith, common_steps) | else-has_linemode w ↦ grind (arith, common_steps) ] in
    rw (← c.self.view_is) (c.in_ok-put_char.ensures.ok ∙ ap (λ (b : Bool). c.args.out.now.items ++ spells (triple_items b c.args.func c.args.value)) told)
