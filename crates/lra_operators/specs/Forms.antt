-- The fields of forms and of queries.
use Rattle.std.specs.Prelude.{ℕ, List, bytes_eq, Option, option_map}
use Rattle.std.specs.List.{find}
use Rattle.std.specs.Str.Lossy.{utf8_lossy}
use Rattle.form_urlencoded.specs.Form.{raw_pairs, decode}

-- the value of the first field of a form that has a name, as it stands in the form
abbrev pub raw_value : List ℕ → List ℕ → Option (List ℕ)
raw_value name form = option_map (λ p. p.1) (find (λ p. bytes_eq p.0 name) (raw_pairs form))

-- that value, decoded (URL Standard, section 5.1)
abbrev pub form_value : List ℕ → List ℕ → Option (List ℕ)
form_value name form = option_map (λ value. utf8_lossy (decode value)) (raw_value name form)
