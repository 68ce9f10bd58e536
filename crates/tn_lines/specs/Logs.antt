-- The bytes in a log.
use Rattle.std.specs.Prelude.{ℕ, List, [], ◌∷◌, ◌++◌}
use Rattle.tn_lines.specs.declared.read_log.ReadLog.{ReadLog, Empty, More'}

-- all bytes that were added
abbrev pub bytes_in : ReadLog → List ℕ
bytes_in Empty = []
bytes_in (More' marker before byte) = bytes_in before ++ (byte ∷ [])
