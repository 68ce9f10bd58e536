use Rattle.tn_cli.proofs.Pairs.{table_high, table_low}
use Rattle.tn_cli.proofs.printed.pair.Goals as goal

pub returns-clause-high : goal.returns-clause-high
returns-clause-high c = table_high c.args.byte c.ranges.byte.fits

pub returns-clause-low : goal.returns-clause-low
returns-clause-low c = table_low c.args.byte c.ranges.byte.fits
