use Rattle.std.proofs.Common.{sym}
use Rattle.tn_linemode.proofs.Taking.{accepts_offer}
use Rattle.tn_linemode.proofs.client_table.ClientTable.told.Goals as goal

pub put-requires : goal.put-requires
put-requires c = rw c.free.ensures (accepts_offer c.args.self.now c.args.func c.args.value c.requires (sym c.if-is_line_end.ensures))
