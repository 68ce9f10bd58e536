-- The names of codes: of verbs and commands as in RFC 854, 885 and 1184, of options as they are assigned,
-- of functions and levels as in RFC 1184, section 2.4.
use Rattle.std.specs.Prelude.{ℕ, ◌==◌, List, [], codes, if◌then◌else◌}
use Rattle.tn_codes.specs.declared.codes.{Command.Command, Verb.Verb}
use Rattle.tn_codes.specs.declared.codes.Command.TheVariants as command
use Rattle.tn_codes.specs.declared.codes.Verb.TheVariants as verb

-- the name of a verb
abbrev pub verb_name : Verb → List ℕ
verb_name verb.Will = codes "WILL"
verb_name verb.Wont = codes "WONT"
verb_name verb.DoIt = codes "DO"
verb_name verb.DontIt = codes "DONT"

-- the name of a command
abbrev pub command_name : Command → List ℕ
command_name command.Eof = codes "EOF"
command_name command.Susp = codes "SUSP"
command_name command.Abort = codes "ABORT"
command_name command.Eor = codes "EOR"
command_name command.Nop = codes "NOP"
command_name command.Dm = codes "DM"
command_name command.Brk = codes "BRK"
command_name command.Ip = codes "IP"
command_name command.Ao = codes "AO"
command_name command.Ayt = codes "AYT"
command_name command.Ec = codes "EC"
command_name command.El = codes "EL"
command_name command.Ga = codes "GA"

-- the name of an option, empty if it has none in this file
unfoldable pub option_name : ℕ → List ℕ
option_name option =
    if option == 0 then codes "BINARY"
    else if option == 1 then codes "ECHO"
    else if option == 2 then codes "RECONNECTION"
    else if option == 3 then codes "SUPPRESS-GO-AHEAD"
    else if option == 4 then codes "APPROX-MESSAGE-SIZE"
    else if option == 5 then codes "STATUS"
    else if option == 6 then codes "TIMING-MARK"
    else if option == 7 then codes "RCTE"
    else if option == 8 then codes "OUTPUT-LINE-WIDTH"
    else if option == 9 then codes "OUTPUT-PAGE-SIZE"
    else if option == 10 then codes "OUTPUT-CR-DISPOSITION"
    else if option == 11 then codes "OUTPUT-HT-STOPS"
    else if option == 12 then codes "OUTPUT-HT-DISPOSITION"
    else if option == 13 then codes "OUTPUT-FF-DISPOSITION"
    else if option == 14 then codes "OUTPUT-VT-STOPS"
    else if option == 15 then codes "OUTPUT-VT-DISPOSITION"
    else if option == 16 then codes "OUTPUT-LF-DISPOSITION"
    else if option == 17 then codes "EXTENDED-ASCII"
    else if option == 18 then codes "LOGOUT"
    else if option == 19 then codes "BYTE-MACRO"
    else if option == 20 then codes "DATA-ENTRY-TERMINAL"
    else if option == 21 then codes "SUPDUP"
    else if option == 22 then codes "SUPDUP-OUTPUT"
    else if option == 23 then codes "SEND-LOCATION"
    else if option == 24 then codes "TERMINAL-TYPE"
    else if option == 25 then codes "END-OF-RECORD"
    else if option == 26 then codes "TACACS-USER-IDENTIFICATION"
    else if option == 27 then codes "OUTPUT-MARKING"
    else if option == 28 then codes "TERMINAL-LOCATION-NUMBER"
    else if option == 29 then codes "3270-REGIME"
    else if option == 30 then codes "X.3-PAD"
    else if option == 31 then codes "NAWS"
    else if option == 32 then codes "TERMINAL-SPEED"
    else if option == 33 then codes "TOGGLE-FLOW-CONTROL"
    else if option == 34 then codes "LINEMODE"
    else if option == 35 then codes "X-DISPLAY-LOCATION"
    else if option == 36 then codes "ENVIRON"
    else if option == 37 then codes "AUTHENTICATION"
    else if option == 38 then codes "ENCRYPT"
    else if option == 39 then codes "NEW-ENVIRON"
    else if option == 40 then codes "TN3270E"
    else if option == 41 then codes "XAUTH"
    else if option == 42 then codes "CHARSET"
    else if option == 43 then codes "REMOTE-SERIAL-PORT"
    else if option == 44 then codes "COM-PORT-CONTROL"
    else if option == 45 then codes "SUPPRESS-LOCAL-ECHO"
    else if option == 46 then codes "START-TLS"
    else if option == 47 then codes "KERMIT"
    else if option == 48 then codes "SEND-URL"
    else if option == 49 then codes "FORWARD-X"
    else []

-- nothing for a function that has no name there
unfoldable pub func_name : ℕ → List ℕ
func_name func =
    if func == 1 then codes "SYNCH"
    else if func == 2 then codes "BRK"
    else if func == 3 then codes "IP"
    else if func == 4 then codes "AO"
    else if func == 5 then codes "AYT"
    else if func == 6 then codes "EOR"
    else if func == 7 then codes "ABORT"
    else if func == 8 then codes "EOF"
    else if func == 9 then codes "SUSP"
    else if func == 10 then codes "EC"
    else if func == 11 then codes "EL"
    else if func == 12 then codes "EW"
    else if func == 13 then codes "RP"
    else if func == 14 then codes "LNEXT"
    else if func == 15 then codes "XON"
    else if func == 16 then codes "XOFF"
    else if func == 17 then codes "FORW1"
    else if func == 18 then codes "FORW2"
    else if func == 19 then codes "MCL"
    else if func == 20 then codes "MCR"
    else if func == 21 then codes "MCWL"
    else if func == 22 then codes "MCWR"
    else if func == 23 then codes "MCBOL"
    else if func == 24 then codes "MCEOL"
    else if func == 25 then codes "INSRT"
    else if func == 26 then codes "OVER"
    else if func == 27 then codes "ECR"
    else if func == 28 then codes "EWR"
    else if func == 29 then codes "EBOL"
    else if func == 30 then codes "EEOL"
    else []

-- the name of the level in the two low bits of a modifier, which are 3 for the last
abbrev pub level_name : ℕ → List ℕ
level_name level =
    if level == 0 then codes "NOSUPPORT"
    else if level == 1 then codes "CANTCHANGE"
    else if level == 2 then codes "VALUE"
    else codes "DEFAULT"
