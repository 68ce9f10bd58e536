-- The exchange of local characters (RFC 1184, section 2.4): how each end takes the other's triples, and how
-- it answers them. If the RFC leaves a choice, the choice is this project's own.
use Rattle.std.specs.Prelude.{◌≡◌, ◌≢◌, ℕ, ◌==◌, Bool, true, false, not, ◌&&◌, ◌||◌, Option, Some, None}
use Rattle.std.specs.Prelude.{is_none, option_to_list, List, [], ◌∷◌, ◌++◌, map, fold, if◌then◌else◌}
use Rattle.std.specs.List.{list_any}
use Rattle.tn_codes.specs.declared.triples.Triple.{Triple}
use Rattle.tn_discipline.specs.Characters.{Characters, slot, with_slot, with_each, special_functions}
use Rattle.tn_discipline.specs.Characters.{is_set_to, char_fault, standard_characters}
use Rattle.tn_linemode.specs.declared.triples.Saying.{Saying, TheVariants.Nothing}
use Rattle.tn_linemode.specs.declared.triples.Saying.TheVariants.{Standard, Table, Character, Unsupported}
use Rattle.tn_linemode.specs.Triples.{has_ack, saying_of, triple_of, acknowledged_triple, unsupported_triple}

-- both are one character, or none
abbrev pub is_same_value : Option ℕ → Option ℕ → Bool
is_same_value None None = true
is_same_value None (Some b) = false
is_same_value (Some a) None = false
is_same_value (Some a) (Some b) = a == b

-- the whole table: the functions that have a character, in rising number
unfoldable pub announcement : Characters → List Triple
announcement c = map (λ f. triple_of f (slot c f)) special_functions

-- THE SERVER takes a character that its terminal can have
abbrev pub server_takes : Characters → Saying → Characters
server_takes c Standard = standard_characters
server_takes c Table = c
server_takes c (Character f value) = if is_none (char_fault c f value) then with_slot c f value else c
server_takes c (Unsupported code) = c
server_takes c Nothing = c

-- the server acknowledges a character that it takes, and else answers with its own; it passes over one that
-- it has already
abbrev pub server_replies : Characters → Saying → Option Triple
server_replies c Standard = None
server_replies c Table = None
server_replies c (Character f value) =
    if is_same_value (slot c f) value then None else
    (if is_none (char_fault c f value) then Some (acknowledged_triple (triple_of f value)) else
    Some (triple_of f (slot c f)))
server_replies c (Unsupported code) = Some (unsupported_triple code)
server_replies c Nothing = None

-- the meaning requests the whole table
abbrev pub wants_table : Saying → Bool
wants_table Standard = true
wants_table Table = true
wants_table (Character f value) = false
wants_table (Unsupported code) = false
wants_table Nothing = false

-- the server's table after one triple, what it answers, and whether it is to send the whole table. An
-- acknowledgement changes nothing and is not answered
abbrev pub server_next : Characters → Triple → Characters
server_next c t = if has_ack t then c else server_takes c (saying_of t)

-- the server's answer to a triple: none to an acknowledgement
abbrev pub server_answer : Characters → Triple → Option Triple
server_answer c t = if has_ack t then None else server_replies c (saying_of t)

-- the triple requests the whole table, and is no acknowledgement
abbrev pub asks_for_table : Triple → Bool
asks_for_table t = not (has_ack t) && wants_table (saying_of t)

-- THE CLIENT never takes a line feed or a carriage return
abbrev pub is_line_end : Option ℕ → Bool
is_line_end None = false
is_line_end (Some value) = value == 10 || value == 13

-- a character, which is disabled if it is this byte
abbrev pub cleared_character : Option ℕ → ℕ → Option ℕ
cleared_character character byte = if is_set_to character byte then None else character

-- the characters once none of them is this byte
abbrev pub without_character : Characters → Option ℕ → Characters
without_character c None = c
without_character c (Some byte) = with_each (λ character. cleared_character character byte) c

-- the client takes every other character, and another function that had it loses it
abbrev pub client_takes : Characters → Saying → Characters
client_takes c Standard = c
client_takes c Table = c
client_takes c (Character f value) =
    if is_line_end value then c else with_slot (without_character c value) f value
client_takes c (Unsupported code) = c
client_takes c Nothing = c

-- the client acknowledges a triple that changed its table
abbrev pub client_replies : Characters → Saying → Option Triple
client_replies c Standard = None
client_replies c Table = None
client_replies c (Character f value) =
    if is_line_end value || is_same_value (slot c f) value then None else
    Some (acknowledged_triple (triple_of f value))
client_replies c (Unsupported code) = Some (unsupported_triple code)
client_replies c Nothing = None

-- the client's table after one triple, be it an acknowledgement or not, and its answer to one that is none
abbrev pub client_next : Characters → Triple → Characters
client_next c t = client_takes c (saying_of t)

-- the client's answer to a triple: none to an acknowledgement
abbrev pub client_answer : Characters → Triple → Option Triple
client_answer c t = if has_ack t then None else client_replies c (saying_of t)

-- a table after a list of triples
abbrev pub table_after : {T : Type 0} → (T → Triple → T) → T → List Triple → T
table_after next c ts = fold next c ts

-- the answers to a list of triples, each by the table that it meets
unfoldable pub answers_along : {T : Type 0} → (T → Triple → T) → (T → Triple → Option Triple)
    → T → List Triple → List Triple
answers_along next answer c [] = []
answers_along next answer c (t ∷ ts) = option_to_list (answer c t) ++ answers_along next answer (next c t) ts

-- the server's table after a list of triples
unfoldable pub server_after : Characters → List Triple → Characters
server_after c ts = table_after server_next c ts

-- the server's answers to a list of triples
unfoldable pub server_answers : Characters → List Triple → List Triple
server_answers c ts = answers_along server_next server_answer c ts

-- a list of triples requests the whole table
unfoldable pub server_is_asked : List Triple → Bool
server_is_asked ts = list_any asks_for_table ts

-- the client's table after a list of triples
unfoldable pub client_after : Characters → List Triple → Characters
client_after c ts = table_after client_next c ts

-- the client's answers to a list of triples
unfoldable pub client_answers : Characters → List Triple → List Triple
client_answers c ts = answers_along client_next client_answer c ts

-- an answer speaks of the function that the triple named, and neither its modifier nor its character is 255
pub record Answers (t a : Triple) : Type 0 where
  pub function : a.func ≡ t.func
  pub modifier : a.flags ≢ 255
  pub character : a.value ≢ 255
