use Rattle.std.proofs.Common.{inl, refl}
use Rattle.tn_nvt.specs.declared.items.Item.TheVariants.{Sub}
use Rattle.tn_server.proofs.Loans.{took_item, refused_item}
use Rattle.tn_server.proofs.taking.LentSink.sub.Goals as goal

pub returns-in-Ok-clause-ok : goal.returns-in-Ok-clause-ok
returns-in-Ok-clause-ok c =
    took_item c.args.self.now _ (Sub c.args.option c.args.params.now) (record { end = refl; out = refl }) c.in-Ok.ensures.ok c.in-Ok.ensures.out refl

pub returns-in-Err-clause-err : goal.returns-in-Err-clause-err
returns-in-Err-clause-err c =
    refused_item c.args.self.now _ (Sub c.args.option c.args.params.now) (record { end = refl; out = refl }) c.in-Err.ensures.cut c.in-Err.ensures.some
    (inl c.in-Err.ensures.err)
