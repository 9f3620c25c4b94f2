-- The lines of a script (this project's own format).
use Rattle.std.specs.Prelude.{◌≡◌, ℕ, ◌<◌, ◌^◌, ◌==◌, Bool, true, ◌&&◌, not, IsTrue, List, [], ◌∷◌, Option, IfSome}
use Rattle.std.specs.Prelude.{codes, option_map}
use Rattle.std.specs.Fmt.{decimal}
use Rattle.std.specs.List.{join_with_byte, list_all}
use Rattle.std.specs.Str.{bytes_eq, is_utf8}
use Rattle.lra_model.specs.Addresses.{Addresses}
use Rattle.lra_model.specs.Names.{outcome_name, ending_name}
use Rattle.lra_lines.specs.Line.{or_star, line_of}
use Rattle.lra_runs.specs.declared.requests.Request.{Request}
use Rattle.lra_runs.specs.declared.requests.Request.TheVariants as request
use Rattle.lra_runs.specs.declared.requests.RequestLine.{RequestLine}

-- the word of a request and its fields, in order; numbers, names and absent fields are spelled as in the journal
abbrev pub request_words : Request → List (List ℕ)
request_words request.Enrol = codes "enrol" ∷ []
request_words (request.Start parent limit) = codes "start" ∷ or_star (option_map decimal parent) ∷ decimal limit ∷ []
request_words (request.Join action uris) = codes "join" ∷ decimal action
    ∷ or_star uris.compensate ∷ or_star uris.complete ∷ or_star uris.status ∷ or_star uris.forget ∷ or_star uris.after
    ∷ []
request_words (request.Leave action member) = codes "leave" ∷ decimal action ∷ decimal member ∷ []
request_words (request.Close action) = codes "close" ∷ decimal action ∷ []
request_words (request.Cancel action) = codes "cancel" ∷ decimal action ∷ []
request_words request.Tick = codes "tick" ∷ []
request_words request.Ask = codes "ask" ∷ []
request_words (request.Reply ask outcome) = codes "reply" ∷ decimal ask ∷ outcome_name outcome ∷ []
request_words (request.Report member ending) = codes "report" ∷ decimal member ∷ ending_name ending ∷ []
request_words request.Restart = codes "restart" ∷ []
request_words (request.Renew action limit) = codes "renew" ∷ decimal action ∷ decimal limit ∷ []
request_words (request.Status action) = codes "status" ∷ decimal action ∷ []
request_words (request.Member member) = codes "member" ∷ decimal member ∷ []

-- the clerk's number, the moment, and the request
abbrev pub words_of_request_line : RequestLine → List (List ℕ)
words_of_request_line l = decimal l.by ∷ decimal l.moment ∷ request_words l.request

-- those words with one space between each two, and a line feed at the end
abbrev pub request_line : RequestLine → List ℕ
request_line l = line_of (words_of_request_line l)

-- a word that can be an address: it has no space and no line feed, and isn't the `*` of an absent one; the coordinator
-- decides whether it is an address
abbrev pub is_script_address : List ℕ → Bool
is_script_address word = list_all (λ b. not (b == 32) && not (b == 10)) word && not (bytes_eq word (codes "*"))

-- an address that is absent or can be such a word
abbrev pub HasScriptWord : Option (List ℕ) → Type 0
HasScriptWord address = IfSome address (λ word. IsTrue (is_script_address word))

-- five such addresses
pub record HaveScriptWords (uris : Addresses) : Type 0 where
  pub compensate : HasScriptWord uris.compensate
  pub complete : HasScriptWord uris.complete
  pub status : HasScriptWord uris.status
  pub forget : HasScriptWord uris.forget
  pub after : HasScriptWord uris.after

-- a line can have the fields of a request that a clerk makes; a clerk that enrols has no number yet, which is written 0
abbrev pub HasFields : ℕ → Request → Type 0
HasFields by request.Enrol = by ≡ 0
HasFields by (request.Start parent limit) = IfSome parent (λ p. p < 2 ^ 64) × (limit < 2 ^ 64)
HasFields by (request.Join action uris) = (action < 2 ^ 64) × HaveScriptWords uris
HasFields by (request.Leave action member) = (action < 2 ^ 64) × (member < 2 ^ 64)
HasFields by (request.Close action) = action < 2 ^ 64
HasFields by (request.Cancel action) = action < 2 ^ 64
HasFields by request.Tick = Unit {0}
HasFields by request.Ask = Unit {0}
HasFields by (request.Reply ask outcome) = ask < 2 ^ 64
HasFields by (request.Report member ending) = member < 2 ^ 64
HasFields by request.Restart = Unit {0}
HasFields by (request.Renew action limit) = (action < 2 ^ 64) × (limit < 2 ^ 64)
HasFields by (request.Status action) = action < 2 ^ 64
HasFields by (request.Member member) = member < 2 ^ 64

-- a line that a script may have: its numbers are in the ranges of the journal's, and it is UTF-8
pub record IsRequestLine (l : RequestLine) : Type 0 where
  pub by : l.by < 2 ^ 32
  pub moment : l.moment < 2 ^ 64
  pub request : HasFields l.by l.request
  pub text : is_utf8 (join_with_byte 32 (words_of_request_line l)) ≡ true
