-- The bytes that went to the service, one entry after another.
use Rattle.std.proofs.Common.{◌≡◌, ◌≢◌, ℕ, Bool, true, false, List, [], ◌∷◌, ◌++◌, Option, refl, sym, ◌∙◌, subst, map}
use Rattle.std.specs.Io.KnownBytes.{Appends}
use Rattle.tn_discipline.specs.declared.reads.{Entry.{Entry, TheVariants.{Text, Eof, Signal}}, Sig.TheVariants.{Int, Quit, Tstp}}
use Rattle.tn_cores.proofs.lemmas.streams.{Writing.{kept_appends, keeps_on, keeps_same, writes_more, stops_more, tells_more}, Telling.accounts_none}
use Rattle.tn_serve.specs.services.{Joining.Reacts, Cutting.is_ending, Sending.{Goes, GoesKey, GoesLine, WritesNothing, way_after}}
use Rattle.tn_serve.specs.{declared.services.joining.Gateway.Gateway, services.Talks.{SendsAll, SendsTalk, due, due_from, due_key, goes_well}}
use Rattle.tn_serve.specs.declared.services.{cutting.LineFormat.LineFormat, sending.{Way.{Way, TheVariants.{Open, Ended, Broken}}, SendingLines.SendingLines}}
use Rattle.tn_serve.specs.declared.services.joining.Gateway.TheVariants as side
use Rattle.tn_jobs.specs.declared.reactions.Reaction.{Reaction}
use Rattle.tn_lines.specs.LineEnds.{line_said}
use Rattle.tn_session.specs.workers.Talk.{Answers}
use Rattle.tn_cores.specs.streams.{Writing.{Writes, Tells, max_writes}, Known.{KnownWriter, KnownWriting, known_writer, known_writing}, Telling.Calls}

abbrev pub between : KnownWriter → KnownWriter → KnownWriting
between before after = record { before = before; after = after }

-- one entry after another, with what is known of the writer between them
abbrev pub GoThrough : LineFormat → Way → KnownWriter → List Entry → Way → KnownWriter → Type 0
GoThrough lines old before [] new after = (new ≡ old) × (after ≡ before)
GoThrough lines old before (entry ∷ entries) new after =
    (way : Way) × (writer : KnownWriter) × Goes lines old entry (between before writer) way
    × GoThrough lines way writer entries new after

-- NOTHING GOES ANY MORE

pub kept : (a b : KnownWriter) → WritesNothing (between a b) → Writes true a.bytes b.bytes [] × Tells true a.calls b.calls
kept a b nothing = (
  kept_appends a.bytes b.bytes nothing.bytes,
  let P : Option Calls → Type 0 = λ c. Tells true a.calls c in subst P (sym nothing.calls) (accounts_none max_writes a.calls),
)

pub nothing_more : (a b c : KnownWriter) → WritesNothing (between a b) → WritesNothing (between b c) → WritesNothing (between a c)
nothing_more a b c one two = record {
  bytes = keeps_on a.bytes b.bytes c.bytes one.bytes two.bytes;
  calls = two.calls ∙ one.calls;
}

-- if the way is not open
goes_nowhere : (lines : LineFormat) (old : Way) (entry : Entry) (a b : KnownWriter) (way : Way) → old ≢ Open → Goes lines old entry (between a b) way
    → WritesNothing (between a b) × (way ≡ old)
goes_nowhere lines Open entry a b way shut goes = absurd (shut refl)
goes_nowhere lines Ended (Text line) a b way shut goes = goes
goes_nowhere lines Ended Eof a b way shut goes = goes
goes_nowhere lines Ended (Signal Int) a b way shut goes = goes
goes_nowhere lines Ended (Signal Quit) a b way shut goes = goes
goes_nowhere lines Ended (Signal Tstp) a b way shut goes = goes
goes_nowhere lines Broken (Text line) a b way shut goes = goes
goes_nowhere lines Broken Eof a b way shut goes = goes
goes_nowhere lines Broken (Signal Int) a b way shut goes = goes
goes_nowhere lines Broken (Signal Quit) a b way shut goes = goes
goes_nowhere lines Broken (Signal Tstp) a b way shut goes = goes

stays_shut : (lines : LineFormat) (old : Way) (before : KnownWriter) (entries : List Entry) (new : Way) (after : KnownWriter) → old ≢ Open
    → GoThrough lines old before entries new after → WritesNothing (between before after) × (new ≡ old)
stays_shut lines old before [] new after shut (way_is, writer_is) =
    let P : KnownWriter → Type 0 = λ w. WritesNothing (between before w) in
    (subst P (sym writer_is) (record { bytes = keeps_same before.bytes; calls = refl }), way_is)
stays_shut lines old before (entry ∷ entries) new after shut (way, writer, goes, rest) =
    let here = goes_nowhere lines old entry before writer way shut goes in
    let Q : Way → Type 0 = λ w. GoThrough lines w writer entries new after in
    let later = stays_shut lines old writer entries new after shut (subst Q here.1 rest) in
    (nothing_more before writer after here.0 later.0, later.1)

ended_shut : Ended ≢ Open
ended_shut is = let bad = is in cc

broken_shut : Broken ≢ Open
broken_shut is = let bad = is in cc

-- ALL THAT IS DUE GOES

abbrev pub Sent : List ℕ → KnownWriter → KnownWriter → Way → Type 0
Sent bytes before after way = SendsAll bytes (between before after) way

sent_as : (bytes : List ℕ) (before after : KnownWriter) (way new : Way) → new ≡ way → Writes (goes_well way) before.bytes after.bytes bytes
    → Tells (goes_well way) before.calls after.calls → Sent bytes before after new
sent_as bytes before after way new is wrote tells =
    let P : Way → Type 0 = λ w. Sent bytes before after w in
    subst P (sym is) (record { wrote = wrote; tells = tells })

-- the end of file, an interrupt or a quit
ends : (lines : LineFormat) (before writer : KnownWriter) (entries : List Entry) (way new : Way) (after : KnownWriter) → WritesNothing (between before writer)
    → way ≡ Ended → GoThrough lines way writer entries new after → Sent [] before after new
ends lines before writer entries way new after nothing is rest =
    let Q : Way → Type 0 = λ w. GoThrough lines w writer entries new after in
    let later = stays_shut lines Ended writer entries new after ended_shut (subst Q is rest) in
    let both = kept before after (nothing_more before writer after nothing later.0) in
    sent_as [] before after Ended new later.1 both.0 both.1

-- a line, of which the first bytes went
breaks : (lines : LineFormat) (line more : List ℕ) (before writer : KnownWriter) (entries : List Entry) (way new : Way) (after : KnownWriter)
    → Writes false before.bytes writer.bytes line → Tells false before.calls writer.calls → way ≡ Broken → GoThrough lines way writer entries new after
    → Sent (line ++ more) before after new
breaks lines line more before writer entries way new after wrote tells is rest =
    let Q : Way → Type 0 = λ w. GoThrough lines w writer entries new after in
    let later = stays_shut lines Broken writer entries new after broken_shut (subst Q is rest) in
    let P : Option Calls → Type 0 = λ c. Tells false before.calls c in
    sent_as (line ++ more) before after Broken new later.1
    (stops_more before.bytes writer.bytes after.bytes line more wrote later.0.bytes)
    (subst P (sym later.0.calls) tells)

-- a line that went, and then the rest
goes_on : (line more : List ℕ) (before writer after : KnownWriter) (new : Way) → Appends before.bytes writer.bytes line → Tells true before.calls writer.calls
    → Sent more writer after new → Sent (line ++ more) before after new
goes_on line more before writer after new wrote tells rest = record {
  wrote = writes_more (goes_well new) before.bytes writer.bytes after.bytes line more wrote rest.wrote;
  tells = tells_more (goes_well new) before.calls writer.calls after.calls tells rest.tells;
}

-- a line, and then what is due of the other entries
line_due : (lines : LineFormat) (line more : List ℕ) (before writer : KnownWriter) (entries : List Entry) (way new : Way) (after : KnownWriter) (whole : Bool)
    → Writes whole before.bytes writer.bytes line → Tells whole before.calls writer.calls → way ≡ way_after whole → GoThrough lines way writer entries new after
    → (GoThrough lines Open writer entries new after → Sent more writer after new) → Sent (line ++ more) before after new
line_due lines line more before writer entries way new after true wrote tells is rest others =
    let Q : Way → Type 0 = λ w. GoThrough lines w writer entries new after in
    goes_on line more before writer after new wrote tells (others (subst Q is rest))
line_due lines line more before writer entries way new after false wrote tells is rest others =
    breaks lines line more before writer entries way new after wrote tells is rest

-- a line that ends the session, or goes
open_line : (lines : LineFormat) (ending : Bool) (line more : List ℕ) (before writer : KnownWriter) (entries : List Entry) (way new : Way) (after : KnownWriter)
    → GoesLine ending line (between before writer) way → GoThrough lines way writer entries new after
    → (GoThrough lines Open writer entries new after → Sent more writer after new) → Sent (due_from ending line more) before after new
open_line lines true line more before writer entries way new after (nothing, is) rest others =
    ends lines before writer entries way new after nothing is rest
open_line lines false line more before writer entries way new after goes rest others =
    line_due lines line more before writer entries way new after goes.whole goes.wrote goes.tells goes.leaves rest others

-- a key that is sent, or ends what goes to the service
open_key : (lines : LineFormat) (sent : Bool) (byte : ℕ) (more : List ℕ) (before writer : KnownWriter) (entries : List Entry) (way new : Way) (after : KnownWriter)
    → GoesKey sent byte Ended (between before writer) way → GoThrough lines way writer entries new after
    → (GoThrough lines Open writer entries new after → Sent more writer after new) → Sent (due_key sent byte [] more) before after new
open_key lines true byte more before writer entries way new after goes rest others =
    line_due lines (byte ∷ []) more before writer entries way new after goes.whole goes.wrote goes.tells goes.leaves rest others
open_key lines false byte more before writer entries way new after (nothing, is) rest others =
    ends lines before writer entries way new after nothing is rest

-- a stop that is sent, or does nothing
open_stop : (lines : LineFormat) (sent : Bool) (byte : ℕ) (more : List ℕ) (before writer : KnownWriter) (entries : List Entry) (way new : Way) (after : KnownWriter)
    → GoesKey sent byte Open (between before writer) way → GoThrough lines way writer entries new after
    → (GoThrough lines Open writer entries new after → Sent more writer after new) → Sent (due_key sent byte more more) before after new
open_stop lines true byte more before writer entries way new after goes rest others =
    line_due lines (byte ∷ []) more before writer entries way new after goes.whole goes.wrote goes.tells goes.leaves rest others
open_stop lines false byte more before writer entries way new after (nothing, is) rest others =
    let Q : Way → Type 0 = λ w. GoThrough lines w writer entries new after in
    let both = kept before writer nothing in
    goes_on [] more before writer after new both.0 both.1 (others (subst Q is rest))

pub all_due : (lines : LineFormat) (before : KnownWriter) (entries : List Entry) (new : Way) (after : KnownWriter) →
    GoThrough lines Open before entries new after
    → Sent (due lines entries) before after new
all_due lines before [] new after (way_is, writer_is) =
    let P : KnownWriter → Type 0 = λ w. WritesNothing (between before w) in
    let both = kept before after (subst P (sym writer_is) (record { bytes = keeps_same before.bytes; calls = refl })) in
    sent_as [] before after Open new way_is both.0 both.1
all_due lines before (Text line ∷ entries) new after (way, writer, goes, rest) =
    open_line lines (is_ending lines line) (line_said lines.line_end line) (due lines entries) before writer entries way new after goes rest
    (all_due lines writer entries new after)
all_due lines before (Eof ∷ entries) new after (way, writer, goes, rest) =
    open_key lines lines.sends_signals 4 (due lines entries) before writer entries way new after goes rest (all_due lines writer entries new after)
all_due lines before (Signal Int ∷ entries) new after (way, writer, goes, rest) =
    open_key lines lines.sends_signals 3 (due lines entries) before writer entries way new after goes rest (all_due lines writer entries new after)
all_due lines before (Signal Quit ∷ entries) new after (way, writer, goes, rest) =
    open_key lines lines.sends_signals 28 (due lines entries) before writer entries way new after goes rest (all_due lines writer entries new after)
all_due lines before (Signal Tstp ∷ entries) new after (way, writer, goes, rest) =
    open_stop lines lines.sends_signals 26 (due lines entries) before writer entries way new after goes rest (all_due lines writer entries new after)

-- THE TALK OF THE JOB

module _ {R W : Type 0} (contents : W → Option (List ℕ)) (told : W → Option Calls) where
  abbrev pub Through : SendingLines W → List Entry → Gateway R W → Type 0
  Through first entries (side.Sends last) =
      GoThrough first.lines first.way (known_writer contents told first.writer) entries last.way (known_writer contents told last.writer)
  Through first entries (side.Shows last) = ⊥

  one_more : (first mid : SendingLines W) (entry : Entry) (entries : List Entry) (last : Gateway R W)
      → Goes first.lines first.way entry (known_writing contents told first.writer mid.writer) mid.way → mid.lines ≡ first.lines → Through mid entries last
      → Through first (entry ∷ entries) last
  one_more first mid entry entries (side.Sends last) goes same rest =
      let P : LineFormat → Type 0 = λ e. GoThrough e mid.way (known_writer contents told mid.writer) entries last.way
      (known_writer contents told last.writer) in
      (mid.way, known_writer contents told mid.writer, goes, subst P same rest)
  one_more first mid entry entries (side.Shows last) goes same rest = absurd rest

  through : (first : SendingLines W) (turns : List (Entry × Reaction)) (last : Gateway R W) →
      Answers (Reacts {R = R} contents told) (side.Sends first) turns last
      → Through first (map (λ turn. turn.0) turns) last
  through first [] last is =
      let P : Gateway R W → Type 0 = λ g. Through first [] g in subst P is (refl, refl)
  through first (turn ∷ turns) last (side.Sends mid, one, rest) =
      one_more first mid turn.0 (map (λ turn. turn.0) turns) last one.goes one.lines (through mid turns last rest)
  through first (turn ∷ turns) last (side.Shows mid, one, rest) = absurd one

  talk : (first : SendingLines W) (entries : List Entry) (last : Gateway R W) → first.way ≡ Open → Through first entries last
      → SendsTalk {R = R} contents told first entries last
  talk first entries (side.Sends last) way_is all =
      let P : Way → Type 0 = λ w. GoThrough first.lines w (known_writer contents told first.writer) entries last.way (known_writer contents told last.writer) in
      all_due first.lines (known_writer contents told first.writer) entries last.way (known_writer contents told last.writer) (subst P way_is all)
  talk first entries (side.Shows last) way_is all = absurd all

  pub in_order : (first : SendingLines W) (turns : List (Entry × Reaction)) (last : Gateway R W) → first.way ≡ Open
      → Answers (Reacts {R = R} contents told) (side.Sends first) turns last → SendsTalk {R = R} contents told first (map (λ turn. turn.0) turns) last
  in_order first turns last way_is answers =
      talk first (map (λ turn. turn.0) turns) last way_is (through first turns last answers)
