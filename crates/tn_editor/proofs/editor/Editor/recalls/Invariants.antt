use Rattle.std.proofs.Common.{All, take}
use Rattle.tn_editor.specs.{EditKeys.Terminal, Edited.Editing, Following.Holds, Recalling.IsItself}
use Rattle.tn_editor.proofs.editor.Editor.recalls.Given as goal

-- the bytes so far join a line as they are
abbrev pub invariant-loop-byte : goal.invariant-loop-byte
invariant-loop-byte l = (t : Terminal) (e : Editing) → Holds t e l.self → All (IsItself t) (take l.byte-index l.line)
