use Rattle.std.proofs.{Common.{inl, inr, arith}, lemmas.Result.err_from_is_err_and}
use Rattle.tn_client.proofs.end.ClientEnd.edit.Goals as goal

pub returns-in_err-reserve-clause-full : goal.returns-in_err-reserve-clause-full
returns-in_err-reserve-clause-full c =
    let p = err_from_is_err_and c.from_residual.result c.from_residual.ensures.1 in
    let long = rw (c.role_of-role.ensures, c.settings-settings.ensures) at c.echo_len-echo.ensures.value in
    rw p.1 (inr (inl (omega (arith, c.in_err-reserve.ensures.full, long))))
