use Rattle.crossbeam_channel.specs.Claims.{view}
use Rattle.tn_connect.proofs.Put.{runs}
use Rattle.tn_connect.specs.Clients.{window_of}
use Rattle.tn_net.specs.Queue.{put_bytes}
use Rattle.tn_cores.specs.streams.Known.{known_typing}
use Rattle.tn_connect.proofs.connecting.talk_by.Goals as goal

pub returns : goal.returns
returns g c =
    let source = g.T.Source in
    let seen = g.S.Write.contents in
    let given = known_typing source.remaining source.foretold source.sizes source.words source.controls c.args.keys in
    record {
      ran =
          runs (window_of c.args.connecting.now) given (seen c.args.screen.now) (seen c.client_session.new.screen) (view c.args.outgoing.now.pass)
          (put_bytes (view c.client_session.new.net_writer.pass)) c.requires.nothing_yet c.client_session.result c.client_session.ensures.ran;
    }
