use Rattle.std.proofs.Common.{ap, ◌∙◌, ◌++◌}
use Rattle.tn_nvt.specs.Spelling.{spells}
use Rattle.tn_server.specs.Replies.{opening}
use Rattle.tn_world.proofs.{Bodies.{open_sound, opened_world}, Promise.just_opened, Showing.opened_output}
use Rattle.tn_world.proofs.world.World.open_with.Goals as goal

pub invariant_of-result : goal.invariant_of-result
invariant_of-result c =
    open_sound c.args.opening (record { settings = c.args.settings; limit = c.args.limit }) c.args.width c.args.height _ c.in-Ok.ensures.leads c.in-Ok.ensures.reads
    c.in-Ok-start.ensures.leads c.in-Ok-start.ensures.reads c.new.ensures.items
    (c.in-Ok.ensures.out ∙ ap (λ xs. xs ++ spells (opening c.args.opening)) c.new-to_client.ensures.items) c.in-Ok.ensures.opens

pub returns-clause-opened : goal.returns-clause-opened
returns-clause-opened c =
    opened_world c.args.opening (record { settings = c.args.settings; limit = c.args.limit }) c.args.width c.args.height _ _ _ _ _ _ _ _ c.in-Ok.ensures.leads
    c.in-Ok.ensures.reads c.in-Ok.ensures.runs c.in-Ok.ensures.opens c.in-Ok-start.ensures.leads c.in-Ok-start.ensures.reads c.in-Ok-start.ensures.runs
    c.new.ensures.items (c.in-Ok.ensures.out ∙ ap (λ xs. xs ++ spells (opening c.args.opening)) c.new-to_client.ensures.items) c.new-2.ensures.items c.new-3.ensures.items
    c.new-4.ensures.items c.new-5.ensures.items

pub returns-clause-follows : goal.returns-clause-follows
returns-clause-follows c = λ standard. just_opened c.args.opening (record { settings = c.args.settings; limit = c.args.limit }) c.args.width c.args.height _
    (returns-clause-opened c) standard

pub returns-clause-output : goal.returns-clause-output
returns-clause-output c =
    opened_output c.args.opening _ c.in-Ok-start.ensures.reads (c.in-Ok.ensures.out ∙ ap (λ xs. xs ++ spells (opening c.args.opening)) c.new-to_client.ensures.items) c.new-4.ensures.items
    c.in-Ok.ensures.leads.queue
