-- A call of what is held, which was of the call's kind.
use Rattle.std.proofs.Common.{◌≡◌, ℕ, Option, Some, sym, ap, ◌∙◌, subst}
use Rattle.tn_c.specs.{parts.{Codes.code_number, Items.ReadStream}, declared.parts.{client.HeldClient.HeldClient, codes.Code.Code, line.HeldLine.HeldLine}}
use Rattle.tn_c.specs.{declared.{parts.server.HeldServer.HeldServer, held.Held.Held}, Holding.{CallsLine, CallsDecoder, CallsServer, CallsClient}}
use Rattle.tn_c.specs.declared.held.Held.TheVariants as held

pub line_called : {unwritten : Type 0} {R : Code → HeldLine → HeldLine → Type 0} {old new : Option Held} {number : ℕ} {boxed lent : Held} (answer : Code)
    (before after : HeldLine) → old ≡ Some boxed → lent ≡ boxed → lent ≡ held.Line before → new ≡ Some (held.Line after) → number ≡ code_number answer
    → R answer before after → CallsLine old new number unwritten R
line_called {unwritten} {R} {old} {new} {number} answer before after was lends is left numbers so =
    subst (λ (o : Option Held). CallsLine o new number unwritten R) (sym (was ∙ ap Some (sym lends ∙ is)))
    (subst (λ (n : Option Held). CallsLine (Some (held.Line before)) n number unwritten R) (sym left)
    (record { absent = tt; does = record { answer = answer; numbers = numbers; so = so } }))

pub decoder_called : {unwritten : Type 0} {R : Code → ReadStream → ReadStream → Type 0} {old new : Option Held} {number : ℕ} {boxed lent : Held} (answer : Code)
    (before after : ReadStream) → old ≡ Some boxed → lent ≡ boxed → lent ≡ held.Decoder before → new ≡ Some (held.Decoder after) → number ≡ code_number answer
    → R answer before after → CallsDecoder old new number unwritten R
decoder_called {unwritten} {R} {old} {new} {number} answer before after was lends is left numbers so =
    subst (λ (o : Option Held). CallsDecoder o new number unwritten R) (sym (was ∙ ap Some (sym lends ∙ is)))
    (subst (λ (n : Option Held). CallsDecoder (Some (held.Decoder before)) n number unwritten R) (sym left)
    (record { absent = tt; does = record { answer = answer; numbers = numbers; so = so } }))

pub server_called : {unwritten : Type 0} {R : Code → HeldServer → HeldServer → Type 0} {old new : Option Held} {number : ℕ} {boxed lent : Held} (answer : Code)
    (before after : HeldServer) → old ≡ Some boxed → lent ≡ boxed → lent ≡ held.Server before → new ≡ Some (held.Server after) → number ≡ code_number answer
    → R answer before after → CallsServer old new number unwritten R
server_called {unwritten} {R} {old} {new} {number} answer before after was lends is left numbers so =
    subst (λ (o : Option Held). CallsServer o new number unwritten R) (sym (was ∙ ap Some (sym lends ∙ is)))
    (subst (λ (n : Option Held). CallsServer (Some (held.Server before)) n number unwritten R) (sym left)
    (record { absent = tt; does = record { answer = answer; numbers = numbers; so = so } }))

pub client_called : {unwritten : Type 0} {R : Code → HeldClient → HeldClient → Type 0} {old new : Option Held} {number : ℕ} {boxed lent : Held} (answer : Code)
    (before after : HeldClient) → old ≡ Some boxed → lent ≡ boxed → lent ≡ held.Client before → new ≡ Some (held.Client after) → number ≡ code_number answer
    → R answer before after → CallsClient old new number unwritten R
client_called {unwritten} {R} {old} {new} {number} answer before after was lends is left numbers so =
    subst (λ (o : Option Held). CallsClient o new number unwritten R) (sym (was ∙ ap Some (sym lends ∙ is)))
    (subst (λ (n : Option Held). CallsClient (Some (held.Client before)) n number unwritten R) (sym left)
    (record { absent = tt; does = record { answer = answer; numbers = numbers; so = so } }))
