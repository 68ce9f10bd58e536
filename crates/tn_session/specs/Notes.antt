-- The actions of a session's core, in their order: which message it took, and which bytes it wrote to the
-- network before it took the next.
use Rattle.std.specs.Prelude.{◌≡◌, ℕ, Bool, IsTrue, Option, Some, None, List, [], ◌∷◌, ◌++◌, map}
use Rattle.std.specs.Io.KnownBytes.{Appends}
use Rattle.tn_session.specs.declared.workers.mail.Mail.{Mail}
use Rattle.tn_session.specs.declared.transcript.Transcript.{Transcript, Begun, Took', Wrote'}

-- the message that was taken, none before the first, and the bytes that were written after it
pub record Note : Type 0 where
  pub took : Option Mail
  pub wrote : List ℕ

-- the notes that are done, and the one that goes on
pub record Noted : Type 0 where
  pub done : List Note
  pub last : Note

-- the notes of a core that has done nothing
abbrev pub no_notes : Noted
no_notes = record { done = []; last = record { took = None; wrote = [] } }

-- all notes, the last one included
abbrev pub notes : Noted → List Note
notes n = n.done ++ n.last ∷ []

-- a message was taken
abbrev pub takes : Noted → Mail → Noted
takes n mail = record { done = notes n; last = record { took = Some mail; wrote = [] } }

-- these bytes were written
abbrev pub writes : Noted → List ℕ → Noted
writes n bytes = record { done = n.done; last = record { took = n.last.took; wrote = n.last.wrote ++ bytes } }

-- the front of these bytes was written and noted, all of them if the write went well
pub record NotesWrite (well : Bool) (old new : Option (List ℕ)) (bytes : List ℕ)
    (before after : Noted) : Type 0 where
  pub front : List ℕ
  pub back : List ℕ
  pub whole : bytes ≡ front ++ back
  pub all : IsTrue well → back ≡ []
  pub wrote : Appends old new front
  pub noted : after ≡ writes before front

-- the core took each of these messages, in order, and wrote these bytes after it
pub record NotesAll (handled : List Mail) (written : List (List ℕ)) (before after : Noted) : Type 0 where
  pub more : List Note
  pub noted : notes after ≡ notes before ++ more
  pub took : map (λ n. n.took) more ≡ map (λ x. Some x) handled
  pub wrote : map (λ n. n.wrote) more ≡ written

-- the notes of a transcript
abbrev pub noted_of : Transcript → Noted
noted_of (Begun seal) = no_notes
noted_of (Took' seal marker before mail) = takes (noted_of before) mail.value
noted_of (Wrote' seal marker before byte) = writes (noted_of before) (byte ∷ [])
