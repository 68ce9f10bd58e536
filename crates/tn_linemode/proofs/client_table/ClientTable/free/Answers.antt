use Rattle.std.proofs.Common.{◌∙◌}
use Rattle.tn_linemode.proofs.Taking.{can_disable, without-holder, without-none}
use Rattle.tn_linemode.proofs.client_table.ClientTable.free.Goals as goal

pub put-requires : goal.put-requires
put-requires c =
    let held = (c.holder.ensures.found c.in-Some-holder.func).0 c.in-Some-holder.is in
    can_disable c.self.inside.chars c.in-Some-holder.func c.in-Some.byte held

pub returns-in-Some-holder : goal.returns-in-Some-holder
returns-in-Some-holder c =
    let held = (c.holder.ensures.found c.in-Some-holder.func).0 c.in-Some-holder.is in
    c.put.ensures ∙ rw (c.in-Some.is, ← c.self.view_is) (without-holder c.self.inside.chars c.in-Some-holder.func c.in-Some.byte c.holder.ensures.allowed held)

pub returns-in_default-holder : goal.returns-in_default-holder
returns-in_default-holder c =
    rw (c.in-Some.is, ← c.self.view_is) (without-none c.self.inside.chars c.in-Some.byte
    (λ f held. c.in_default-holder.not-Some f ((c.holder.ensures.found f).1 held)))
