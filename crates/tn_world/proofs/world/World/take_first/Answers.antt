use Rattle.std.proofs.{Common.{[], ◌∷◌, ◌++◌, List, Option, ap, ◌∙◌, sym, append-nil}, lemmas.Result.err_from_is_err_and}
use Rattle.std.specs.Prelude.{option_to_list}
use Rattle.tn_discipline.specs.declared.reads.Entry.{Entry}
use Rattle.tn_world.proofs.{Bodies.takes_sound, Taking.{take_refused, take_wants, takes_entry}}
use Rattle.tn_world.proofs.world.World.take_first.Goals as goal

pub invariant_of-self-in-Some : goal.invariant_of-self-in-Some
invariant_of-self-in-Some c = takes_sound _ _ _ _ c.in_ok-entry.ensures.step c.in_ok-entry.ensures.out c.self.invariant

pub invariant_of-self-in_default : goal.invariant_of-self-in_default
invariant_of-self-in_default c = takes_sound _ _ _ _ c.in_ok-entry.ensures.step c.in_ok-entry.ensures.out c.self.invariant

pub returns-in_err-reserve-clause-err : goal.returns-in_err-reserve-clause-err
returns-in_err-reserve-clause-err c =
    let p = err_from_is_err_and c.from_residual.result c.from_residual.ensures.1 in
    rw (p.1, p.2) (take_wants _ _ c.reserve.ensures.items _ c.self.view_is c.requires)

pub returns-in_err-entry-clause-err : goal.returns-in_err-entry-clause-err
returns-in_err-entry-clause-err c =
    let p = err_from_is_err_and c.from_residual-in_err-entry.result c.from_residual-in_err-entry.ensures.1 in
    rw (p.1, p.2) (take_refused _ _ _ _ _ c.in_err-entry.ensures.fault c.in_err-entry.ensures.grows c.in_err-entry.ensures.err
    c.in_err-entry.ensures.err_appends c.reserve.ensures.items _ c.self.view_is)

pub returns-in-Some-clause-ok : goal.returns-in-Some-clause-ok
returns-in-Some-clause-ok c =
    takes_entry _ _ _ _ _ _ c.in_ok-entry.ensures.entry c.in_ok-entry.ensures.step c.in_ok-entry.ensures.out
    (c.push_reserved.ensures.items ∙ ap (λ (l : List Entry). l ++ c.in-Some.entry ∷ []) c.reserve.ensures.items
    ∙ sym (ap (λ (o : Option Entry). c.self.inside.taken.items ++ option_to_list o) c.in-Some.is)) _ c.self.view_is

pub returns-in_default-clause-ok : goal.returns-in_default-clause-ok
returns-in_default-clause-ok c =
    let taken = c.self.inside.taken.items in
    takes_entry _ _ _ _ _ _ c.in_ok-entry.ensures.entry c.in_ok-entry.ensures.step c.in_ok-entry.ensures.out
    (c.reserve.ensures.items ∙ sym (append-nil taken) ∙ sym (ap (λ (o : Option Entry). taken ++ option_to_list o) c.in_default.is)) _ c.self.view_is
