-- The pieces of texts, and how each is written (this project's own).
use Rattle.std.specs.Prelude.{ℕ, ◌^◌, ◌/◌, nat_lt, Bool, ◌&&◌, cond, if◌then◌else◌, List, [], ◌∷◌, ◌++◌, codes}
use Rattle.std.specs.Fmt.{decimal}
use Rattle.lra_model.specs.Names.{action_status_name, member_status_name, ask_kind_name}
use Rattle.lra_ids.specs.Identifiers.{id_text}
use Rattle.json.specs.Print.{quoted}
use Rattle.lra_escape.specs.Escapes.{escaped}
use Rattle.lra_overview.specs.declared.pieces.Piece.{Piece}
use Rattle.lra_overview.specs.declared.pieces.Piece.TheVariants as piece

-- texts one after another
abbrev pub joined : List (List ℕ) → List ℕ
joined [] = []
joined (text ∷ texts) = text ++ joined texts

-- whether a number can have an identifier (RFC 9562, section 5.8: the limit of 62 bits is this project's own)
abbrev pub has_id : ℕ → Bool
has_id n = nat_lt 0 n && nat_lt n (2 ^ 62)

-- the identifier of a number, or nothing if the number can't have one
abbrev pub id_of : ℕ → ℕ → List ℕ
id_of i n = cond (has_id n) (id_text i n) []

-- the number of seconds, minutes, hours or days that so many milliseconds are written as: in the largest unit of which
-- there are two at least, or else in seconds
abbrev pub span_count : ℕ → ℕ
span_count ms =
    if nat_lt ms 120000 then ms / 1000
    else if nat_lt ms 7200000 then ms / 60000
    else if nat_lt ms 172800000 then ms / 3600000
    else ms / 86400000

-- that unit
abbrev pub span_unit : ℕ → List ℕ
span_unit ms =
    if nat_lt ms 120000 then codes " s"
    else if nat_lt ms 7200000 then codes " min"
    else if nat_lt ms 172800000 then codes " h"
    else codes " d"

-- so many milliseconds in words
unfoldable pub span : ℕ → List ℕ
span ms = joined (decimal (span_count ms) ∷ span_unit ms ∷ [])

-- a piece of a text: a text of this program stands as it is, a text from elsewhere is escaped, for HTML or as a JSON
-- string, and all others are digits, identifiers and words
abbrev pub spelled : ℕ → Piece → List ℕ
spelled i (piece.Own text) = text.now
spelled i (piece.Told text) = escaped text.now
spelled i (piece.Quoted text) = quoted text.now
spelled i (piece.Number n) = decimal n
spelled i (piece.Span ms) = span ms
spelled i (piece.Id n) = id_of i n
spelled i (piece.Action status) = action_status_name status
spelled i (piece.Member status) = member_status_name status
spelled i (piece.Kind kind) = ask_kind_name kind
