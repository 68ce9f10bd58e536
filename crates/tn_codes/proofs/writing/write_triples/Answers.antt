use Rattle.std.proofs.{Common.arith, lemmas.Result.err_from_is_err_and}
use Rattle.tn_codes.proofs.Grammar.{length-octets}
use Rattle.tn_codes.proofs.writing.write_triples.Goals as goal

pub returns-in_err-reserve-clause-full : goal.returns-in_err-reserve-clause-full
returns-in_err-reserve-clause-full c =
    let p = err_from_is_err_and c.from_residual.result c.from_residual.ensures.1 in
    rw p.1 (omega (arith, c.in_err-reserve.ensures.full, length-octets c.args.triples.now))

pub returns-clause-short : goal.returns-clause-short
returns-clause-short c = omega (arith, length-octets c.args.triples.now)
