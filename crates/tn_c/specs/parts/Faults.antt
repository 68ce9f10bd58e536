-- The codes of refusals.
use Rattle.std.specs.Prelude.{Option, Some, None, Result, Ok, Err}
use Rattle.tn_discipline.specs.declared.characters.CharFault.{CharFault}
use Rattle.tn_discipline.specs.declared.characters.CharFault.TheVariants as char
use Rattle.tn_nvt.specs.declared.decoding.NvtFault.{NvtFault}
use Rattle.tn_nvt.specs.declared.decoding.NvtFault.TheVariants as nvt
use Rattle.tn_pty.specs.declared.pty.PtyFault.{PtyFault}
use Rattle.tn_pty.specs.declared.pty.PtyFault.TheVariants as pty
use Rattle.tn_server.specs.declared.faults.ServerFault.{ServerFault}
use Rattle.tn_server.specs.declared.faults.ServerFault.TheVariants as server
use Rattle.tn_client.specs.declared.faults.ClientFault.{ClientFault}
use Rattle.tn_client.specs.declared.faults.ClientFault.TheVariants as client
use Rattle.tn_c.specs.declared.parts.codes.Code.{Code}
use Rattle.tn_c.specs.declared.parts.codes.Code.TheVariants as code

-- the code of a fault of a special character
abbrev pub char_code : CharFault → Code
char_code char.NotSettable = code.NotSettable
char_code char.Reserved = code.Reserved
char_code char.Taken = code.Taken

-- the code of the change of a character
abbrev pub char_answer : Option CharFault → Code
char_answer None = code.Done
char_answer (Some fault) = char_code fault

-- the code of a fault of the terminal
abbrev pub pty_code : PtyFault → Code
pty_code pty.TooFarAhead = code.TooFarAhead
pty_code pty.Memory = code.Memory
pty_code pty.Closed = code.Closed

-- the code of a fault of a server end
abbrev pub server_code : ServerFault → Code
server_code (server.Pty fault) = pty_code fault
server_code server.Memory = code.Memory
server_code server.Failed = code.Failed
server_code (server.Char fault) = char_code fault
server_code server.NotOn = code.NotOn

-- the code of a fault of a client end
abbrev pub client_code : ClientFault → Code
client_code client.Memory = code.Memory
client_code client.Failed = code.Failed
client_code client.NotOn = code.NotOn
client_code (client.Char fault) = char_code fault

-- the code of a call of a client end
abbrev pub client_answer : {T : Type 0} → Result T ClientFault → Code
client_answer (Ok x) = code.Done
client_answer (Err fault) = client_code fault

-- the code of a feed of a decoder
abbrev pub nvt_answer : {T : Type 0} → Result T NvtFault → Code
nvt_answer (Ok x) = code.Done
nvt_answer (Err nvt.Failed) = code.Failed
nvt_answer (Err nvt.Memory) = code.Memory
nvt_answer (Err nvt.Refused) = code.Memory

-- a call that is not refused for such a cause is refused only when out of memory
abbrev pub server_refusal : Option ServerFault → Code
server_refusal (Some cause) = server_code cause
server_refusal None = code.Memory

-- the code of a refusal with this cause, or of lack of memory
abbrev pub client_refusal : Option ClientFault → Code
client_refusal (Some cause) = client_code cause
client_refusal None = code.Memory
