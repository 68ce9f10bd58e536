use Rattle.tn_c.proofs.Calling.{decoder_called}
use Rattle.tn_c.proofs.decoder.tn_decoder_feed.Goals as goal

pub returns-in-Decoder : goal.returns-in-Decoder
returns-in-Decoder c =
    decoder_called c.feed-code.result c.in-Decoder.decoder c.feed-code.new.self c.in-Some.ensures.value c.deref_mut.ensures.value c.in-Decoder.is
    c.answer.ensures.held c.answer.ensures.number c.feed-code.ensures
