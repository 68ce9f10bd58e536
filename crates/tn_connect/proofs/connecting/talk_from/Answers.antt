use Rattle.std.proofs.Common.{Bool, IfOk, false, ap, subst, ◌∙◌}
use Rattle.crossbeam_channel.specs.Claims.{view}
use Rattle.tn_connect.specs.{Clients.{RunsWriting, foreseen, text_by, window_of}, Texts.with_text, declared.settings.KeySource.TheVariants.Reader}
use Rattle.tn_net.specs.Queue.{put_bytes}
use Rattle.tn_connect.proofs.connecting.talk_from.Goals as goal

pub returns-in-Reader : goal.returns-in-Reader
returns-in-Reader g c =
    let is = c.is_text.ensures ∙ ap (λ o. text_by o c.args.connecting.text) c.in-Reader.is in
    rw c.in-Reader.is (record {
      ran =
          subst (λ (b : Bool). IfOk c.talk_by.result (λ r. RunsWriting (window_of c.args.connecting)
          (foreseen Reader false (with_text b false (g.K.Read.remaining c.args.typing.keys)))
          (g.S.Write.contents c.args.screen.now) (g.S.Write.contents c.talk_by.new.screen) (put_bytes (view c.talk_by.new.outgoing.pass)) r.0 r.1)) is
          (subst (λ k. IfOk c.talk_by.result (λ r. RunsWriting (window_of c.args.connecting)
          (foreseen Reader false (with_text k.is_text k.after_return (g.K.Read.remaining k.keys)))
          (g.S.Write.contents c.args.screen.now) (g.S.Write.contents c.talk_by.new.screen) (put_bytes (view c.talk_by.new.outgoing.pass)) r.0 r.1))
          c.as_text-typing.ensures
          (subst (λ t. IfOk c.talk_by.result (λ r. RunsWriting (window_of c.args.connecting)
          (foreseen Reader false (with_text t.keys.is_text t.keys.after_return (g.K.Read.remaining t.keys.keys)))
          (g.S.Write.contents c.args.screen.now) (g.S.Write.contents c.talk_by.new.screen) (put_bytes (view c.talk_by.new.outgoing.pass)) r.0 r.1))
          c.new-keys.ensures c.talk_by.ensures.ran));
    })
