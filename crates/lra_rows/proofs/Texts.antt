-- Owned texts.
use Rattle.std.proofs.Common.{Option, Some, None}
use Rattle.std.specs.Prelude.{String}
use Rattle.std.specs.Global.{Global}
use Rattle.std.proofs.lemmas.Str.{IsUtf8-string_bytes}
use Rattle.lra_model.specs.Addresses.{text_of}
use Rattle.lra_rows.specs.inner.Pieces.{IsText}

-- an owned text is a text
pub text_is : (text : Option (String Global)) → IsText (text_of text)
text_is None = tt
text_is (Some text) = IsUtf8-string_bytes text
