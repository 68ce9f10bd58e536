use Rattle.std.proofs.{Common.{[], ◌∷◌}, lemmas.Result.on_err_weaker}
use Rattle.tn_nvt.specs.declared.items.Item.TheVariants.{Byte}
use Rattle.tn_nvt.proofs.Taking.{refuses_first, refuses_second, on_err}
use Rattle.tn_nvt.proofs.places.Given.hand_to.Goals as goal

pub returns-in-Byte-clause-err : goal.returns-in-Byte-clause-err
returns-in-Byte-clause-err g c = rw c.in-Byte.is (on_err_weaker _ (refuses_first g.S.Sink.takes g.S.Sink.gives_up _ [] _ _) c.item.ensures.err)

pub returns-in_err-item-in-CrByte-clause-err : goal.returns-in_err-item-in-CrByte-clause-err
returns-in_err-item-in-CrByte-clause-err g c = rw c.in-CrByte.is
    (on_err _ _ (refuses_first g.S.Sink.takes g.S.Sink.gives_up _ ((Byte c.in-CrByte.byte ∷ []) ∷ []) _ _ c.in_err-item-in-CrByte.ensures.err))

pub returns-in_ok-item-in-CrByte-clause-err : goal.returns-in_ok-item-in-CrByte-clause-err
returns-in_ok-item-in-CrByte-clause-err g c =
    rw c.in-CrByte.is (on_err_weaker _ (refuses_second g.S.Sink.takes g.S.Sink.gives_up _ _ _ _ _ c.in_ok-item-in-CrByte.ensures.ok)
    c.item-in-CrByte-2.ensures.err)

pub returns-in-Newline-clause-err : goal.returns-in-Newline-clause-err
returns-in-Newline-clause-err g c = rw c.in-Newline.is (on_err_weaker _ (refuses_first g.S.Sink.takes g.S.Sink.gives_up _ [] _ _) c.item-in-Newline.ensures.err)

pub returns-in-Cmd-clause-err : goal.returns-in-Cmd-clause-err
returns-in-Cmd-clause-err g c = rw c.in-Cmd.is (on_err_weaker _ (refuses_first g.S.Sink.takes g.S.Sink.gives_up _ [] _ _) c.item-in-Cmd.ensures.err)

pub returns-in-Neg-clause-err : goal.returns-in-Neg-clause-err
returns-in-Neg-clause-err g c = rw c.in-Neg.is (on_err_weaker _ (refuses_first g.S.Sink.takes g.S.Sink.gives_up _ [] _ _) c.item-in-Neg.ensures.err)

pub returns-in-Kept-clause-err : goal.returns-in-Kept-clause-err
returns-in-Kept-clause-err g c = rw (c.in-Sub.is, c.in-Kept.is) (on_err_weaker _ (refuses_first g.S.Sink.takes g.S.Sink.gives_up _ [] _ _) c.sub.ensures.err)
