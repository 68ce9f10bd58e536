use Rattle.std.proofs.Common.{refl}
use Rattle.tn_c.specs.declared.parts.codes.Code.TheVariants.{Done}
use Rattle.tn_c.proofs.Calling.{decoder_called}
use Rattle.tn_c.proofs.decoder.tn_decoder_take_run.Goals as goal

pub returns-in-Decoder : goal.returns-in-Decoder
returns-in-Decoder c =
    decoder_called Done c.in-Decoder.decoder c.take_run.new.self c.in-Some.ensures.value c.deref_mut.ensures.value c.in-Decoder.is
    c.answer.ensures.held c.answer.ensures.number (record { done = refl; did = c.take_run.ensures })
