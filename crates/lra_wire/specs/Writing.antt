-- The text of a message that is written (RFC 9112, sections 2 to 5). A message has exactly one text.
use Rattle.std.specs.Prelude.{◌≡◌, ℕ, ◌<◌, List, ◌++◌, length, codes, Option, Result, Ok, Err}
use Rattle.std.specs.Fmt.{decimal}
use Rattle.std.specs.List.{flat_map}
use Rattle.std.specs.Io.KnownBytes.{Appends}
use Rattle.httparse.specs.Ascii.{crlf_bytes}
use Rattle.lra_wire.specs.declared.fault.WireFault.{WireFault}
use Rattle.lra_wire.specs.declared.write.RequestWrite.{RequestWrite}
use Rattle.lra_wire.specs.declared.write.ReplyWrite.{ReplyWrite}
use Rattle.lra_wire.specs.Inbox.{IsOutside}
use denote.Ref.{Bor}

-- a field line
abbrev pub field_line : Bor (List ℕ) × Bor (List ℕ) → List ℕ
field_line field = field.0.now ++ codes ": " ++ field.1.now ++ crlf_bytes

-- a start line, the fields in order, an empty line and the body
abbrev pub message_text : List ℕ → List (Bor (List ℕ) × Bor (List ℕ)) → List ℕ → List ℕ
message_text line fields body = line ++ crlf_bytes ++ flat_map field_line fields ++ crlf_bytes ++ body

-- a request's text: METHOD TARGET HTTP/1.1, and the rest
abbrev pub request_text : RequestWrite → List ℕ
request_text request = message_text (request.method.now ++ (codes " " ++ (request.target.now ++ codes " HTTP/1.1")))
    request.fields.now request.body.now

-- a response's text: HTTP/1.1 CODE PHRASE, and the rest
abbrev pub reply_text : ReplyWrite → List ℕ
reply_text reply = message_text (codes "HTTP/1.1 " ++ (decimal reply.code ++ (codes " " ++ reply.phrase.now)))
    reply.fields.now reply.body.now

-- a proper prefix of the text was written
abbrev pub AppendsFront : Option (List ℕ) → Option (List ℕ) → List ℕ → Type 0
AppendsFront old new text = (front : List ℕ) × (rest : List ℕ) × (text ≡ front ++ rest) × (0 < length rest)
    × Appends old new front

-- All of the text was written, or a proper prefix of it, since the writer failed or accepted nothing, or since memory
-- was refused.
abbrev pub Sends : Option (List ℕ) → Option (List ℕ) → List ℕ → Result (Unit {0}) WireFault → Type 0
Sends old new text (Ok u) = Appends old new text
Sends old new text (Err fault) = IsOutside fault × AppendsFront old new text
