-- The known facts of a reader and of a writer.
use Rattle.std.specs.Prelude.{ℕ, Option, List}
use Rattle.tn_cores.specs.streams.{Foretelling.Failures, Telling.Calls}
use Rattle.tn_cores.specs.declared.streams.{control.Control.Control, window.WindowSize.WindowSize}

-- a reader: the bytes that it gives, what it foretells of its calls, the sizes of its window, and what its
-- last words may be
pub record KnownReader : Type 0 where
  pub bytes : Option (List ℕ)
  pub failures : Option Failures
  pub sizes : Option (List WindowSize)
  pub words : List (List ℕ)

-- a reader of keys, and the control functions that its user asks for between them
pub record KnownTyping : Type 0 where
  pub reader : KnownReader
  pub controls : Option (List Control)

-- a writer: the bytes that it holds, and what is known of its calls
pub record KnownWriter : Type 0 where
  pub bytes : Option (List ℕ)
  pub calls : Option Calls

-- a writer before and after
pub record KnownWriting : Type 0 where
  pub before : KnownWriter
  pub after : KnownWriter

-- a value as it is known by these functions of its type, those of `Source` or of `Drain`
abbrev pub known_reader : {R : Type 0} → (R → Option (List ℕ)) → (R → Option Failures)
    → (R → Option (List WindowSize)) → (R → List (List ℕ)) → R → KnownReader
known_reader bytes failures sizes words reader =
    record { bytes = bytes reader; failures = failures reader; sizes = sizes reader; words = words reader }

-- the known facts of a reader of keys, by these functions of it
abbrev pub known_typing : {R : Type 0} → (R → Option (List ℕ)) → (R → Option Failures)
    → (R → Option (List WindowSize)) → (R → List (List ℕ)) → (R → Option (List Control)) → R → KnownTyping
known_typing bytes failures sizes words controls reader =
    record { reader = known_reader bytes failures sizes words reader; controls = controls reader }

-- the known facts of a writer, by these functions of it
abbrev pub known_writer : {W : Type 0} → (W → Option (List ℕ)) → (W → Option Calls) → W → KnownWriter
known_writer bytes calls writer = record { bytes = bytes writer; calls = calls writer }

-- the known facts of a writer before and after
abbrev pub known_writing : {W : Type 0} → (W → Option (List ℕ)) → (W → Option Calls) → W → W → KnownWriting
known_writing bytes calls old new =
    record { before = known_writer bytes calls old; after = known_writer bytes calls new }
