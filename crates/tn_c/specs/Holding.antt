-- The content of a handle, the effect of a call on it if it is of the call's kind, and why the call is
-- refused if it is not.
use Rattle.std.specs.Prelude.{◌≡◌, ◌≢◌, ◌⊎◌, ℕ, Bool, IsTrue, Option, Some, None, IfSome, if◌then◌else◌}
use Rattle.tn_c.specs.{parts.{Codes.{code_number, Answers}, Items.ReadStream}, declared.parts.codes.Code.Code}
use Rattle.tn_c.specs.declared.parts.codes.Code.TheVariants.{Done, Memory, NotStarted, Started, OtherKind}
use Rattle.tn_c.specs.declared.parts.{codes.Code.TheVariants.NoLimit, client.HeldClient.HeldClient}
use Rattle.tn_c.specs.declared.{parts.{line.HeldLine.HeldLine, server.HeldServer.HeldServer}, held.Held.Held}
use Rattle.tn_c.specs.declared.held.Held.TheVariants as held

-- a line is held, of which this is so
abbrev pub HoldsLine : Option Held → (HeldLine → Type 0) → Type 0
HoldsLine (Some (held.Line line)) F = F line
HoldsLine _ F = ⊥

-- if a line was held, one is held, and this relates the two
abbrev pub OnLine : Option Held → Option Held → (HeldLine → HeldLine → Type 0) → Type 0
OnLine (Some (held.Line before)) (Some (held.Line after)) F = F before after
OnLine (Some (held.Line before)) _ F = ⊥
OnLine _ _ F = Unit {0}

-- why the handle holds no line, if it holds none
abbrev pub line_absence : Option Held → Option Code
line_absence None = Some NotStarted
line_absence (Some (held.Line line)) = None
line_absence (Some _) = Some OtherKind

-- a decoder is held, of which this is so
abbrev pub HoldsDecoder : Option Held → (ReadStream → Type 0) → Type 0
HoldsDecoder (Some (held.Decoder decoder)) F = F decoder
HoldsDecoder _ F = ⊥

-- if a decoder was held, one is held, and this relates the two
abbrev pub OnDecoder : Option Held → Option Held → (ReadStream → ReadStream → Type 0) → Type 0
OnDecoder (Some (held.Decoder before)) (Some (held.Decoder after)) F = F before after
OnDecoder (Some (held.Decoder before)) _ F = ⊥
OnDecoder _ _ F = Unit {0}

-- why the handle holds no decoder, if it holds none
abbrev pub decoder_absence : Option Held → Option Code
decoder_absence None = Some NotStarted
decoder_absence (Some (held.Decoder decoder)) = None
decoder_absence (Some _) = Some OtherKind

-- a server is held, of which this is so
abbrev pub HoldsServer : Option Held → (HeldServer → Type 0) → Type 0
HoldsServer (Some (held.Server server)) F = F server
HoldsServer _ F = ⊥

-- if a server was held, one is held, and this relates the two
abbrev pub OnServer : Option Held → Option Held → (HeldServer → HeldServer → Type 0) → Type 0
OnServer (Some (held.Server before)) (Some (held.Server after)) F = F before after
OnServer (Some (held.Server before)) _ F = ⊥
OnServer _ _ F = Unit {0}

-- why the handle holds no server end, if it holds none
abbrev pub server_absence : Option Held → Option Code
server_absence None = Some NotStarted
server_absence (Some (held.Server server)) = None
server_absence (Some _) = Some OtherKind

-- a client is held, of which this is so
abbrev pub HoldsClient : Option Held → (HeldClient → Type 0) → Type 0
HoldsClient (Some (held.Client client)) F = F client
HoldsClient _ F = ⊥

-- if a client was held, one is held, and this relates the two
abbrev pub OnClient : Option Held → Option Held → (HeldClient → HeldClient → Type 0) → Type 0
OnClient (Some (held.Client before)) (Some (held.Client after)) F = F before after
OnClient (Some (held.Client before)) _ F = ⊥
OnClient _ _ F = Unit {0}

-- why the handle holds no client end, if it holds none
abbrev pub client_absence : Option Held → Option Code
client_absence None = Some NotStarted
client_absence (Some (held.Client client)) = None
client_absence (Some _) = Some OtherKind

-- nothing is written through a pointer
abbrev pub NoPointer : Type 0
NoPointer = Unit {0}

-- Why a call was refused for what is held: its answer is this code, what is held stays, and nothing was
-- written.
pub record IsAbsent (old new : Option Held) (number : ℕ) (unwritten : Type 0) (code : Code) : Type 0 where
  pub numbers : number ≡ code_number code
  pub same : new ≡ old
  pub left : unwritten

-- A call of a line: R of its code and of what was held before and after, or it was refused.
pub record CallsLine (old new : Option Held) (number : ℕ) (unwritten : Type 0)
    (R : Code → HeldLine → HeldLine → Type 0) : Type 0 where
  pub absent : IfSome (line_absence old) (λ code. IsAbsent old new number unwritten code)
  pub does : OnLine old new (λ before after. Answers number (λ answer. R answer before after))

-- A call of a decoder: R of its code and of what was held before and after, or it was refused.
pub record CallsDecoder (old new : Option Held) (number : ℕ) (unwritten : Type 0)
    (R : Code → ReadStream → ReadStream → Type 0) : Type 0 where
  pub absent : IfSome (decoder_absence old) (λ code. IsAbsent old new number unwritten code)
  pub does : OnDecoder old new (λ before after. Answers number (λ answer. R answer before after))

-- A call of a server: R of its code and of what was held before and after, or it was refused.
pub record CallsServer (old new : Option Held) (number : ℕ) (unwritten : Type 0)
    (R : Code → HeldServer → HeldServer → Type 0) : Type 0 where
  pub absent : IfSome (server_absence old) (λ code. IsAbsent old new number unwritten code)
  pub does : OnServer old new (λ before after. Answers number (λ answer. R answer before after))

-- A call of a client: R of its code and of what was held before and after, or it was refused.
pub record CallsClient (old new : Option Held) (number : ℕ) (unwritten : Type 0)
    (R : Code → HeldClient → HeldClient → Type 0) : Type 0 where
  pub absent : IfSome (client_absence old) (λ code. IsAbsent old new number unwritten code)
  pub does : OnClient old new (λ before after. Answers number (λ answer. R answer before after))

-- A start, with a limit that fits or not: it was done, and this is held, or it was refused, and what was held
-- stays.
pub record Starts (old new : Option Held) (number : ℕ) (fits : Bool) (Holds : Option Held → Type 0)
    : Type 0 where
  pub started : old ≢ None → number ≡ code_number Started
  pub codes : old ≡ None
      → (number ≡ code_number Done) ⊎ (number ≡ code_number (if fits then Memory else NoLimit))
  pub accepted : number ≡ code_number Done → IsTrue fits
  pub holds : number ≡ code_number Done → Holds new
  pub err : number ≢ code_number Done → new ≡ old
