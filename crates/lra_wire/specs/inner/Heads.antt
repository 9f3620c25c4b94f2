-- What a search for a request's head finds in the bytes that came so far.
use Rattle.std.specs.Prelude.{◌≡◌, ℕ, ◌<◌, Bool, ◌==◌, List, length, Option, Some, None, Result, Ok, Err, [], ◌||◌}
use Rattle.std.specs.Prelude.{take, map, codes}
use Rattle.httparse.specs.Grammar.{RequestHead, HasNoRequest, MayBecomeRequest}
use Rattle.httparse.specs.Spans.{span_bytes, header_bytes, IsRequestWithin, IsRequestAt}
use Rattle.lra_wire.specs.declared.fault.WireFault.{WireFault}
use Rattle.lra_wire.specs.declared.fault.WireFault.TheVariants.{BadHead}
use Rattle.httparse.specs.declared.spans.HeaderSpan.{HeaderSpan}
use Rattle.httparse.specs.declared.spans.RequestSpans.{RequestSpans}
use Rattle.lra_wire.specs.Fields.{lists_close, values_of}
use Rattle.lra_wire.specs.Request.{Request, told_by, IsLawful, NeverLawful}

-- HTTP/1.0 asks for no Host, HTTP/1.1 for exactly one
abbrev pub has_host : ℕ → List (List ℕ × List ℕ) → Bool
has_host minor fields = (minor == 0) || (length (values_of (codes "host") fields) == 1)

-- a valid head, and the spans of its parts
pub record IsHeadAt (bytes : List ℕ) (headers : List HeaderSpan) (spans : RequestSpans) : Type 0 where
  pub within : IsRequestWithin bytes headers spans
  pub head : RequestHead
  pub places : IsRequestAt bytes headers spans head
  pub lawful : IsLawful head

-- a whole head, or one that more bytes may complete, or none whatever follows
abbrev pub FindsHead : List ℕ → List HeaderSpan → Result (Option RequestSpans) WireFault → Type 0
FindsHead bytes headers (Ok (Some spans)) = IsHeadAt bytes headers spans
FindsHead bytes headers (Ok None) = HasNoRequest bytes × MayBecomeRequest bytes × (length bytes < 8192)
FindsHead bytes headers (Err fault) = (fault ≡ BadHead) × NeverLawful bytes

-- the parts that the spans give, and no body yet
abbrev pub request_at : List ℕ → List HeaderSpan → RequestSpans → Request
request_at bytes headers spans = record {
  method = span_bytes bytes spans.method;
  target = span_bytes bytes spans.path;
  minor = spans.version;
  close = (spans.version == 0) || lists_close (map (header_bytes bytes) (take spans.headers headers));
  body = [];
  fields = told_by (map (header_bytes bytes) (take spans.headers headers));
}
