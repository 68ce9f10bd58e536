-- The codes of ECHO, SUPPRESS-GO-AHEAD, NAWS and LINEMODE, as the section "Command Name and Code" of each
-- standard gives them.
use Rattle.std.specs.Prelude.{ℕ}

-- RFC 857
abbrev pub echo : ℕ
echo = 1

-- RFC 858
abbrev pub suppress_go_ahead : ℕ
suppress_go_ahead = 3

-- RFC 1073
abbrev pub naws : ℕ
naws = 31

-- RFC 1184
abbrev pub linemode : ℕ
linemode = 34
