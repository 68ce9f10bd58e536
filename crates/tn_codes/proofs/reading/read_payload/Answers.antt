use Rattle.tn_codes.specs.Payloads.{Tells}
use Rattle.tn_codes.proofs.Telling.{said_by, unknown_sub_by, bad_length_by, payload_by}
use Rattle.tn_codes.proofs.reading.read_payload.Goals as goal

pub returns-in-34-clause-said : goal.returns-in-34-clause-said
returns-in-34-clause-said c =
    let told : Tells c.args.option c.args.bytes.now c.read_linemode.result = rw c.in-34.is c.read_linemode.ensures in
    said_by c.args.option c.args.bytes.now c.read_linemode.result told

pub returns-in-34-clause-unknown_sub : goal.returns-in-34-clause-unknown_sub
returns-in-34-clause-unknown_sub c =
    let told : Tells c.args.option c.args.bytes.now c.read_linemode.result = rw c.in-34.is c.read_linemode.ensures in
    unknown_sub_by c.args.option c.args.bytes.now c.read_linemode.result told

pub returns-in-34-clause-bad_length : goal.returns-in-34-clause-bad_length
returns-in-34-clause-bad_length c =
    let told : Tells c.args.option c.args.bytes.now c.read_linemode.result = rw c.in-34.is c.read_linemode.ensures in
    bad_length_by c.args.option c.args.bytes.now c.read_linemode.result told

pub returns-in-34-clause-payload : goal.returns-in-34-clause-payload
returns-in-34-clause-payload c =
    let told : Tells c.args.option c.args.bytes.now c.read_linemode.result = rw c.in-34.is c.read_linemode.ensures in
    payload_by c.args.option c.args.bytes.now c.read_linemode.result told
