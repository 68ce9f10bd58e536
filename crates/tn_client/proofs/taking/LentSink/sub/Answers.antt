use Rattle.std.proofs.Common.{refl, sym, append-nil}
use Rattle.tn_nvt.specs.declared.items.Item.TheVariants.{Sub}
use Rattle.tn_client.proofs.Loans.{took_item, refused_item, grows_sub}
use Rattle.tn_client.proofs.taking.LentSink.sub.Goals as goal

pub returns-in-Ok-clause-ok : goal.returns-in-Ok-clause-ok
returns-in-Ok-clause-ok c =
    took_item c.args.self.now _ (Sub c.args.option c.args.params.now) (record { end = refl; out = refl; screen = refl }) c.in-Ok.ensures.ok c.in-Ok.ensures.out
    (sym (append-nil c.args.self.now.screen.now.items))

pub returns-in-Err-clause-err : goal.returns-in-Err-clause-err
returns-in-Err-clause-err c =
    refused_item c.args.self.now _ (Sub c.args.option c.args.params.now) (record { end = refl; out = refl; screen = refl }) c.in-Err.ensures.cut refl
    (grows_sub c.args.self.now.end.now c.args.option c.args.params.now c.in-Err.ensures.grows)
