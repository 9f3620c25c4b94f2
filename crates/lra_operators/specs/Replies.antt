-- Replies of the operators' port: their fields, and their bytes (RFC 9112; which fields is this project's choice).
use Rattle.std.specs.Prelude.{ℕ, List, [], ◌∷◌, ◌++◌, length, codes, decimal, Option, Some, None}
use Rattle.std.specs.List.{flat_map}
use Rattle.lra_front.specs.Replies.{Field, line_of, line_end, phrase_of}
use Rattle.lra_operators.specs.declared.reply.Kind.{Kind}
use Rattle.lra_operators.specs.declared.reply.Kind.TheVariants as kind
use Rattle.lra_operators.specs.declared.reply.Reply.{Reply}
use Rattle.lra_operators.specs.declared.reply.TheConstants.{POLICY}
use denote.Ref.{Bor}

-- the type of a reply's text
abbrev pub content_type : Kind → List ℕ
content_type kind.Json = codes "application/json"
content_type kind.Metrics = codes "text/plain; version=0.0.4; charset=utf-8"
content_type kind.Page = codes "text/html; charset=utf-8"

-- the fields of a page alone: what a browser may load for it, and that it tells no other site where it is
abbrev pub page_fields : Kind → List Field
page_fields kind.Json = []
page_fields kind.Metrics = []
page_fields kind.Page =
    (codes "Content-Security-Policy", POLICY.now) ∷ (codes "Referrer-Policy", codes "no-referrer") ∷ []

-- the field that a reply has beside these, if it has one
abbrev pub own_fields : Option (Bor (List ℕ) × Bor (List ℕ)) → List Field
own_fields None = []
own_fields (Some field) = (field.0.now, field.1.now) ∷ []

-- the fields that each reply begins with: no cache keeps it, and no browser takes it for a text of another type
abbrev pub first_fields : Kind → List ℕ → List Field
first_fields k text =
    (codes "Content-Type", content_type k) ∷ (codes "Content-Length", decimal (length text))
    ∷ (codes "Cache-Control", codes "no-store") ∷ (codes "X-Content-Type-Options", codes "nosniff") ∷ []

-- all fields of a reply with that text, in their order
abbrev pub fields_of : Kind → Option (Bor (List ℕ) × Bor (List ℕ)) → List ℕ → List Field
fields_of k own text =
    first_fields k text ++ (page_fields k ++ (own_fields own ++ (codes "Connection", codes "close") ∷ []))

-- the bytes of a reply: its line, its fields, an empty line, and the text
unfoldable pub reply_bytes : Reply → List ℕ
reply_bytes r =
    (codes "HTTP/1.1 " ++ (decimal r.status ++ (codes " " ++ phrase_of r.status)))
    ++ line_end ++ flat_map line_of (fields_of r.kind r.field r.text.items) ++ line_end ++ r.text.items
