-- The lines that are printed of a stream that is passed on piece by piece to a printer of lines.
use Rattle.std.proofs.Common.{◌≡◌, ℕ, List, [], ◌++◌, map, length, take, drop, Option, Some, None, Result, Ok, Err, OnErr, refl, sym, ap, ◌∙◌, subst}
use Rattle.std.proofs.{Common.{append-nil, append_assoc, arith}, lemmas.List.{take_all, take_at, take-append-drop}}
use Rattle.std.specs.Io.KnownBytes.{Appends, Consumes, IsAtEnd}
use Rattle.tn_nvt.specs.{declared.items.Item.{Item, TheVariants.Byte}, Feeding.DecoderState, Sinks.{FeedsTo, all_of, calls_of}}
use Rattle.tn_nvt.specs.Feeding as nvt
use Rattle.tn_net.proofs.lemmas.printing.Taking.{takes_nothing, takes_both, taken_by_all, taken_whole}
use Rattle.tn_net.specs.{printing.{Lines.decoded, Printing.{Printing, Takes, EndsData, prefix_text}}, declared.printing.printer.Prefix.Prefix}
use Rattle.tn_net.specs.declared.printing.printer.Prefix.TheVariants.{Empty}
use Rattle.tn_cli.proofs.{Inputs.{consumes_both, consumes_none}, Outputs.whole_input}
use Rattle.tn_cli.specs.Decode.{IsDecodeOf, Decodes, DecodesRead, DecodesSome, HasPrinted, Decoded, PrintsPiece, PrintsLast, StopsPiece, WritesLast}
use Rattle.tn_cli.specs.{Decode.{WritesPiece, nothing_printed}, Ends.EndsDecode, Streams.{AppendsPrefix, IsPrintFault}, declared.decode.Decoding.Decoding}
use Rattle.tn_cli.specs.{Unprinted.{LeavesUnprinted, Watches, WatchesOn}, declared.{unprinted.Unprinted.Unprinted, fault.CliFault.CliFault}}
use Rattle.tn_cli.specs.declared.fault.CliFault.TheVariants as fault

-- WRITERS

pub appends_none : (here : Option (List ℕ)) → Appends here here []
appends_none None = tt
appends_none (Some xs) = sym (append-nil xs)

pub appends_both : (old mid new : Option (List ℕ)) (xs ys : List ℕ) → Appends old mid xs → Appends mid new ys → Appends old new (xs ++ ys)
appends_both None mid new xs ys a b = tt
appends_both (Some o) None new xs ys a b = absurd a
appends_both (Some o) (Some m) None xs ys a b = absurd b
appends_both (Some o) (Some m) (Some n) xs ys a b = b ∙ ap (λ (zs : List ℕ). zs ++ ys) a ∙ append_assoc o xs ys

-- LINES

abbrev with_text : Printing → List ℕ → Printing
with_text p text = record p { text = text }

-- a printer that has no lines takes items as one takes them after others
takes_behind : (old new : Printing) (items : List Item) (written : List ℕ) → old.text ≡ [] → Takes old items new
    → Takes (with_text old written) items (with_text new (written ++ new.text))
takes_behind old new items written none t = record {
  prefix = t.prefix;
  front = t.front;
  whole = t.whole;
  ends = t.ends;
  printed = ap (λ (xs : List ℕ). written ++ xs) (t.printed ∙ ap (λ (xs : List ℕ). xs ++ decoded (prefix_text old.prefix) t.front) none);
  short = t.short;
}

abbrev printing : Prefix → List ℕ → List ℕ → Printing
printing prefix text held = record { prefix = prefix; text = text; held = held }

pub printing_is : (p : Printing) → p.prefix ≡ Empty → p.text ≡ [] → p.held ≡ [] → p ≡ nothing_printed
printing_is p prefix text held =
    ap (λ x. printing x p.text p.held) prefix ∙ ap (λ (xs : List ℕ). printing Empty xs p.held) text ∙ ap (printing Empty []) held

-- a new decoder has printed nothing
pub printed_none : (decoding : Decoding) → nvt.LeadsTo [] [] decoding.decoder → decoding.lines ≡ nothing_printed → Watches [] decoding.watch
    → HasPrinted [] [] decoding
printed_none decoding begins none watched = record {
  items = [];
  read = begins;
  takes = subst (λ (p : Printing). Takes nothing_printed [] (with_text p [])) (sym none) (takes_nothing nothing_printed);
  none = ap (λ (p : Printing). p.text) none;
  watched = watched;
}

-- a piece more: what it completes is taken from the printer
pub printed_piece : (old new : Decoding) (piece text : List ℕ) (taken : Printing) → FeedsTo Takes old.decoder piece old.lines taken new.decoder
    → text ≡ taken.text → new.lines ≡ with_text taken [] → WatchesOn old.watch piece new.watch → PrintsPiece old piece text new
printed_piece old new piece text taken hands is left watched stream written had =
    let more = all_of (calls_of hands.parts) in
    let takes : Takes old.lines more taken = taken_by_all old.lines taken (calls_of hands.parts) hands.taken in
    let behind = takes_behind old.lines taken more written had.none takes in
    let both : Takes nothing_printed (had.items ++ more) (with_text taken (written ++ taken.text)) =
    takes_both nothing_printed (with_text old.lines written) (with_text taken (written ++ taken.text)) had.items more had.takes behind in
    record {
      items = had.items ++ more;
      read = hands.adds stream had.items had.read;
      takes = subst (λ (p : Printing). Takes nothing_printed (had.items ++ more) (with_text p (written ++ text))) (sym left)
          (subst (λ (xs : List ℕ). Takes nothing_printed (had.items ++ more) (with_text taken (written ++ xs))) (sym is) both);
      none = ap (λ (p : Printing). p.text) left;
      watched = watched stream had.watched;
    }

-- the data that are held are all that is left to print
pub printed_whole : (stream written : List ℕ) (decoding : Decoding) → HasPrinted stream written decoding
    → IsDecodeOf stream (written ++ decoded [] (map Byte decoding.lines.held))
printed_whole stream written decoding had = record {
  items = had.items;
  rest = had.read.rest;
  reading = had.read.reading;
  printed = taken_whole nothing_printed (with_text decoding.lines written) had.items refl refl had.takes;
}

pub printed_last : (decoding : Decoding) (text : List ℕ) (ended : Printing) → EndsData decoding.lines ended → text ≡ ended.text → PrintsLast decoding text
printed_last decoding text ended ends is stream written had =
    let prefix : decoding.lines.prefix ≡ Empty = had.takes.prefix in
    let held : text ≡ decoded [] (map Byte decoding.lines.held) =
    is ∙ ends.printed ∙ ap (λ (xs : List ℕ). xs ++ decoded (prefix_text decoding.lines.prefix) (map Byte decoding.lines.held)) had.none
    ∙ ap (λ p. decoded (prefix_text p) (map Byte decoding.lines.held)) prefix
    in
    subst (λ (xs : List ℕ). IsDecodeOf stream (written ++ xs)) (sym held) (printed_whole stream written decoding had)

-- THE PLACE AT WHICH IT STOPS

-- nothing of the piece was written
pub stops_before : (decoding : Decoding) (piece : List ℕ) (here : Option (List ℕ)) → StopsPiece decoding piece here here
stops_before decoding piece here stream written had = record {
  front = stream;
  back = piece;
  whole = refl;
  gained = [];
  left = decoded [] (map Byte decoding.lines.held);
  decodes = subst (λ (xs : List ℕ). IsDecodeOf stream (xs ++ decoded [] (map Byte decoding.lines.held))) (sym (append-nil written))
      (printed_whole stream written decoding had);
  appended = appends_none here;
}

-- if a text goes on to all that is printed, its front was written
front_of : (written text others : List ℕ) (count : ℕ) → written ++ (text ++ others) ≡ (written ++ take count text) ++ (drop count text ++ others)
front_of written text others count =
    ap (λ (xs : List ℕ). written ++ (xs ++ others)) (sym (take-append-drop count text))
    ∙ ap (λ (xs : List ℕ). written ++ xs) (append_assoc (take count text) (drop count text) others)
    ∙ sym (append_assoc written (take count text) (drop count text ++ others))

pub stops_within : (old new : Decoding) (piece text : List ℕ) (before after : Option (List ℕ)) → PrintsPiece old piece text new
    → AppendsPrefix before after text → StopsPiece old piece before after
stops_within old new piece text before after prints (count, appended) stream written had =
    let whole = printed_whole (stream ++ piece) (written ++ text) new (prints stream written had) in
    let others = decoded [] (map Byte new.lines.held) in
    record {
      front = stream ++ piece;
      back = [];
      whole = sym (append-nil (stream ++ piece));
      gained = take count text;
      left = drop count text ++ others;
      decodes = subst (IsDecodeOf (stream ++ piece)) (append_assoc written text others ∙ front_of written text others count) whole;
      appended = appended;
    }

pub stops_last : (decoding : Decoding) (text : List ℕ) (before after : Option (List ℕ)) → PrintsLast decoding text → AppendsPrefix before after text
    → StopsPiece decoding [] before after
stops_last decoding text before after prints (count, appended) stream written had = record {
  front = stream;
  back = [];
  whole = refl;
  gained = take count text;
  left = drop count text ++ [];
  decodes = subst (IsDecodeOf stream) (ap (λ (xs : List ℕ). written ++ xs) (sym (append-nil text)) ∙ front_of written text [] count)
      (prints stream written had);
  appended = appended;
}

-- a beginning of all that was read was written
pub decodes_some : (input mid rest old here new : Option (List ℕ)) (piece : List ℕ) (decoding : Decoding) → Decoded input mid old here decoding
    → Consumes mid rest piece → StopsPiece decoding piece here new → DecodesSome input rest old new
decodes_some input mid rest old here new piece decoding had read stops =
    let s = stops had.stream had.written had.printed in
    let all = had.written ++ s.gained in
    record {
      stream = s.front;
      more = s.back;
      read = subst (Consumes input rest) s.whole (consumes_both input mid rest had.stream piece had.read read);
      decodes = (
        all ++ s.left,
        s.decodes,
        (
          length all,
          subst (Appends old new) (sym (take_at all s.left (length all) refl))
              (appends_both old here new had.written s.gained had.appended s.appended),
        ),
      );
    }

-- WHAT WAS READ AND WRITTEN SO FAR

pub decoded_none : (input old : Option (List ℕ)) (decoding : Decoding) → HasPrinted [] [] decoding → Decoded input input old old decoding
decoded_none input old decoding printed = record { stream = []; written = []; read = consumes_none input; appended = appends_none old; printed = printed }

pub decoded_more : (input mid rest old here new : Option (List ℕ)) (piece : List ℕ) (before after : Decoding) → Decoded input mid old here before
    → Consumes mid rest piece → WritesPiece before piece after here new
    → Decoded input rest old new after
decoded_more input mid rest old here new piece before after had read (text, prints, appended) = record {
  stream = had.stream ++ piece;
  written = had.written ++ text;
  read = consumes_both input mid rest had.stream piece had.read read;
  appended = appends_both old here new had.written text had.appended appended;
  printed = prints had.stream had.written had.printed;
}

pub on_err : {T E P : Type 0} (r : Result T E) → P → OnErr r P
on_err (Ok x) p = tt
on_err (Err e) p = p

-- HOW IT ENDS

-- all that was read is printed
pub decodes_read : (input rest old here new : Option (List ℕ)) (decoding : Decoding) → Decoded input rest old here decoding → WritesLast decoding here new
    → DecodesRead input rest old new
decodes_read input rest old here new decoding had (text, prints, appended) = record {
  stream = had.stream;
  read = had.read;
  decodes = (had.written ++ text, prints had.stream had.written had.printed, appends_both old here new had.written text had.appended appended);
}

all_is_some : (input rest old new : Option (List ℕ)) → DecodesRead input rest old new → DecodesSome input rest old new
all_is_some input rest old new all =
    let output = all.decodes.0 in
    record {
      stream = all.stream;
      more = [];
      read = subst (Consumes input rest) (sym (append-nil all.stream)) all.read;
      decodes = (output, all.decodes.1, (length output, subst (Appends old new) (sym (take_all (length output) output (omega arith))) all.decodes.2));
    }

pub ends_whole : (unprinted : Unprinted) (input rest old here new : Option (List ℕ)) (decoding : Decoding) → Decoded input rest old here decoding
    → WritesLast decoding here new → IsAtEnd rest
    → ((stream : List ℕ) → Watches stream decoding.watch → LeavesUnprinted stream unprinted) → EndsDecode (Ok unprinted) input rest old new
ends_whole unprinted input rest old here new decoding had writes end leaves =
    let all = decodes_read input rest old here new decoding had writes in
    record {
      ok = whole_input (λ stream. Decodes stream old new) input rest all.stream all.read end all.decodes;
      left = whole_input (λ stream. LeavesUnprinted stream unprinted) input rest had.stream had.read end (leaves had.stream had.printed.watched);
      read = λ e. absurd (cc);
      some = tt;
      fault = tt;
    }

pub ends_by_read : (input rest old new : Option (List ℕ)) → DecodesRead input rest old new → EndsDecode (Err fault.Read) input rest old new
ends_by_read input rest old new all = record { ok = tt; left = tt; read = λ e. all; some = all_is_some input rest old new all; fault = tt }

ends_with : (f : CliFault) (input rest old new : Option (List ℕ)) → IsPrintFault f → DecodesSome input rest old new → EndsDecode (Err f) input rest old new
ends_with fault.Write input rest old new is some = record { ok = tt; left = tt; read = λ e. absurd (cc); some = some; fault = tt }
ends_with fault.Memory input rest old new is some = record { ok = tt; left = tt; read = λ e. absurd (cc); some = some; fault = tt }
ends_with fault.Read input rest old new is some = absurd is
ends_with fault.TooLong input rest old new is some = absurd is
ends_with (fault.Script line) input rest old new is some = absurd is
ends_with (fault.World line) input rest old new is some = absurd is

pub ends_early : (ended : Result Unprinted CliFault) (f : CliFault) (input rest old new : Option (List ℕ)) → ended ≡ Err f → IsPrintFault f
    → DecodesSome input rest old new → EndsDecode ended input rest old new
ends_early ended f input rest old new e is some = subst (λ r. EndsDecode r input rest old new) (sym e) (ends_with f input rest old new is some)
