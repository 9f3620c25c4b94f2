-- The words of a query, and what the fields of a request say.
use Rattle.std.specs.Prelude.{ℕ, ◌^◌, Bool, if◌then◌else◌, List, length, take, [], ◌∷◌, codes, bytes_eq}
use Rattle.std.specs.Prelude.{is_none, Option, Some, None, option_map, option_and_then, false}
use Rattle.std.specs.List.{find, list_all}
use Rattle.std.specs.Option.{option_map_or}
use Rattle.std.specs.Str.Lossy.{utf8_lossy}
use Rattle.form_urlencoded.specs.Form.{raw_pairs, decode}
use Rattle.lra_entries.specs.Numbers.{number_of}
use Rattle.lra_wire.specs.Request.{Fields}
use Rattle.lra_front.specs.declared.dialect_answer.DialectVersion.{DialectVersion}
use Rattle.lra_front.specs.declared.dialect_answer.DialectVersion.TheVariants as version
use Rattle.lra_narayana.specs.declared.operation.DialectOperation.{DialectOperation}
use Rattle.lra_narayana.specs.Operations.{takes}

-- an operation takes all words of a query
unfoldable pub takes_all : DialectOperation → List ℕ → Bool
takes_all o query = list_all (λ p. takes o p.0) (raw_pairs query)

-- the value of the first word of a query that has a name, as it stands in the query
abbrev pub raw_value : List ℕ → List ℕ → Option (List ℕ)
raw_value name query = option_map (λ p. p.1) (find (λ p. bytes_eq p.0 name) (raw_pairs query))

-- the limit that a query gives in milliseconds: 0, which is none, where it gives none, and nothing where the value is
-- no number below 2^64
unfoldable pub limit_in : List ℕ → Option ℕ
limit_in query = option_map_or (number_of (2 ^ 64)) (raw_value (codes "TimeLimit") query) (Some 0)

-- bytes of a query or of a path, decoded (URL Standard, section 5.1)
abbrev pub decoded : List ℕ → List ℕ
decoded value = utf8_lossy (decode value)

-- a text, unless it is empty
abbrev pub unless_empty : List ℕ → Option (List ℕ)
unless_empty [] = None
unless_empty (b ∷ rest) = Some (b ∷ rest)

-- the value of a word of a query, unless it is empty
abbrev pub named : List ℕ → List ℕ → Option (List ℕ)
named name query = option_and_then unless_empty (raw_value name query)

-- the parent that a query names, if it names one
unfoldable pub parent_in : List ℕ → Option (List ℕ)
parent_in query = option_map decoded (named (codes "ParentLRA") query)

-- the version of a name
unfoldable pub version_named : List ℕ → Option DialectVersion
version_named name =
    if bytes_eq name (codes "1.0") then Some version.First
    else (if bytes_eq name (codes "1.1") then Some version.Second
    else (if bytes_eq name (codes "1.2") then Some version.Third else None))

-- the version that a request names, if it is one that is spoken
unfoldable pub version_in : Fields → Option DialectVersion
version_in fields = option_and_then version_named fields.api_version

-- a request names a version that isn't spoken
unfoldable pub has_other_version : Fields → Bool
has_other_version fields = option_map_or (λ name. is_none (version_named name)) fields.api_version false

-- a text begins with another
abbrev pub begins : List ℕ → List ℕ → Bool
begins front text = bytes_eq front (take (length front) text)

-- a client accepts JSON before all else
unfoldable pub is_json : Fields → Bool
is_json fields = option_map_or (λ accept. begins (codes "application/json") accept) fields.accept false
