-- The codes of RFC 854, RFC 885 (EOR) and RFC 1184.
use Rattle.std.specs.Prelude.{ℕ}
use Rattle.tn_codes.specs.declared.codes.{Command.Command, Verb.Verb, Func.Func, Level.Level}
use Rattle.tn_codes.specs.declared.codes.Command.TheVariants as command
use Rattle.tn_codes.specs.declared.codes.Verb.TheVariants as verb
use Rattle.tn_codes.specs.declared.codes.Func.TheVariants as func
use Rattle.tn_codes.specs.declared.codes.Level.TheVariants as level

-- RFC 854: the verbs of option negotiation
abbrev pub verb_code : Verb → ℕ
verb_code verb.Will = 251
verb_code verb.Wont = 252
verb_code verb.DoIt = 253
verb_code verb.DontIt = 254

-- RFC 854, RFC 885 and RFC 1184, section 2: the commands of one byte
abbrev pub command_code : Command → ℕ
command_code command.Eof = 236
command_code command.Susp = 237
command_code command.Abort = 238
command_code command.Eor = 239
command_code command.Nop = 241
command_code command.Dm = 242
command_code command.Brk = 243
command_code command.Ip = 244
command_code command.Ao = 245
command_code command.Ayt = 246
command_code command.Ec = 247
command_code command.El = 248
command_code command.Ga = 249

-- RFC 1184, section 2.4: the functions of the set of local characters
abbrev pub func_code : Func → ℕ
func_code func.Synch = 1
func_code func.Brk = 2
func_code func.Ip = 3
func_code func.Ao = 4
func_code func.Ayt = 5
func_code func.Eor = 6
func_code func.Abort = 7
func_code func.Eof = 8
func_code func.Susp = 9
func_code func.Ec = 10
func_code func.El = 11
func_code func.Ew = 12
func_code func.Rp = 13
func_code func.Lnext = 14
func_code func.Xon = 15
func_code func.Xoff = 16
func_code func.Forw1 = 17
func_code func.Forw2 = 18

-- RFC 1184, section 2.4: the levels of support
abbrev pub level_code : Level → ℕ
level_code level.NoSupport = 0
level_code level.CantChange = 1
level_code level.Value = 2
level_code level.ByDefault = 3
