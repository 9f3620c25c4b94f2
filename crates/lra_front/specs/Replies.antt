-- Replies: the code, the fields and the body for each answer, and the text of a reply.
use Rattle.std.specs.Prelude.{ℕ, ◌≤◌, ◌<◌, ◌^◌, ⊤, Bool, true, false, ◌||◌, if◌then◌else◌, List, [], ◌∷◌, ◌++◌, length}
use Rattle.std.specs.Prelude.{codes, decimal, unwrap_or, Option, Some, None}
use Rattle.std.specs.List.{flat_map}
use Rattle.http.specs.StatusCode.{reason_phrase}
use Rattle.serde_json.specs.Data.{Data, string, object, member, no_members}
use Rattle.serde_json.specs.Written.{compact_text}
use Rattle.lra_model.specs.declared.status.ActionStatus.{ActionStatus}
use Rattle.lra_model.specs.Words.{is_closing, is_cancelling}
use Rattle.lra_model.specs.Names.{action_status_name, member_status_name}
use Rattle.lra_ids.specs.Identifiers.{action_uri, recovery_uri}
use Rattle.lra_commands.specs.declared.refusal.Refusal.{Refusal}
use Rattle.lra_commands.specs.declared.refusal.Refusal.TheVariants as refusal
use Rattle.lra_commands.specs.Names.{refusal_name, resource_name}
use Rattle.lra_front.specs.declared.api_error.ApiError.{ApiError}
use Rattle.lra_front.specs.declared.api_error.ApiError.TheVariants as api_error
use Rattle.lra_front.specs.declared.dialect_answer.DialectVersion.{DialectVersion}
use Rattle.lra_front.specs.declared.dialect_answer.DialectVersion.TheVariants as version
use Rattle.lra_front.specs.declared.dialect_answer.DialectMethods.{DialectMethods}
use Rattle.lra_front.specs.declared.dialect_answer.DialectMethods.TheVariants as methods
use Rattle.lra_front.specs.declared.dialect_answer.DialectRefusal.{DialectRefusal}
use Rattle.lra_front.specs.declared.dialect_answer.DialectRefusal.TheVariants as dialect_refusal
use Rattle.lra_front.specs.declared.dialect_answer.DialectTold.{DialectTold}
use Rattle.lra_front.specs.declared.dialect_answer.DialectTold.TheVariants as told
use Rattle.lra_front.specs.declared.dialect_answer.DialectAnswer.{DialectAnswer}
use Rattle.lra_front.specs.declared.answer.Answer.{Answer}
use Rattle.lra_front.specs.declared.answer.Answer.TheVariants as answer
use Rattle.lra_front.specs.Operations.{allowed}

-- ---- codes and phrases

-- the code for what the coordinator refuses (this project's choice)
abbrev pub refusal_code : Refusal → ℕ
refusal_code refusal.NoSuchClerk = 500
refusal_code refusal.OldJournal = 409
refusal_code refusal.NoSuchAction = 404
refusal_code refusal.NoSuchMember = 404
refusal_code refusal.WrongAction = 409
refusal_code refusal.HasLeft = 410
refusal_code (refusal.NotActive status) = 412
refusal_code refusal.BadAddresses = 400
refusal_code refusal.LimitTooFar = 400
refusal_code refusal.TooDeep = 409
refusal_code (refusal.Full exhausted) = 503
refusal_code refusal.NotAsked = 412
refusal_code refusal.Stopped = 503
refusal_code refusal.Memory = 503

-- the code of an API error (this project's choice)
abbrev pub api_error_code : ApiError → ℕ
api_error_code api_error.WrongKey = 401
api_error_code api_error.WrongHost = 403
api_error_code api_error.WrongOrigin = 403
api_error_code api_error.BadHead = 400
api_error_code api_error.Chunked = 501
api_error_code api_error.BadLength = 400
api_error_code api_error.TooLarge = 413
api_error_code api_error.NoSuchPath = 404
api_error_code (api_error.BadMethod resource) = 405
api_error_code api_error.BadBody = 400
api_error_code (api_error.Refused r) = refusal_code r
api_error_code api_error.Worn = 503

-- the code of an action's end that was asked for: 202 while the action hasn't reached it (MicroProfile LRA 2.0, close
-- and cancel)
abbrev pub turned_code : ActionStatus → ℕ
turned_code status = if is_closing status || is_cancelling status then 202 else 200

-- the code for what the dialect of clients in Java refuses by itself (Narayana's interface; 501 where the coordinator
-- has no such thing)
abbrev pub dialect_refusal_code : DialectRefusal → ℕ
dialect_refusal_code dialect_refusal.NoSuchPath = 404
dialect_refusal_code (dialect_refusal.BadMethod accepted) = 405
dialect_refusal_code dialect_refusal.BadVersion = 417
dialect_refusal_code dialect_refusal.BadQuery = 400
dialect_refusal_code dialect_refusal.BadLinks = 400
dialect_refusal_code dialect_refusal.MemberData = 400
dialect_refusal_code dialect_refusal.MemberLimit = 400
dialect_refusal_code dialect_refusal.LeaveByLinks = 501
dialect_refusal_code dialect_refusal.Lists = 501
dialect_refusal_code dialect_refusal.MemberLinks = 501
dialect_refusal_code dialect_refusal.Moves = 501
dialect_refusal_code dialect_refusal.Nested = 501

-- the code of what is told in the dialect
abbrev pub dialect_code : DialectTold → ℕ
dialect_code (told.Started action) = 201
dialect_code (told.Joined m) = 200
dialect_code (told.Status status) = 200
dialect_code (told.Turned status) = turned_code status
dialect_code told.Done = 200
dialect_code (told.Denied d) = api_error_code d
dialect_code (told.Refused r) = dialect_refusal_code r

-- the code of an answer
abbrev pub code_of : Answer → ℕ
code_of (answer.Started action) = 201
code_of (answer.Found action status) = 200
code_of (answer.Joined m) = 200
code_of (answer.Turned status) = turned_code status
code_of answer.Left = 200
code_of answer.Renewed = 200
code_of (answer.Member status) = 200
code_of (answer.Denied d) = api_error_code d
code_of (answer.Retry r seconds) = refusal_code r
code_of (answer.Dialect d) = dialect_code d.told

-- the phrase of a code (RFC 9110, section 15, as `http` has it)
abbrev pub phrase_of : ℕ → List ℕ
phrase_of code = unwrap_or (reason_phrase code) []

-- ---- bodies (this project's own): objects, their keys in the order of their bytes

-- the name of an API error
abbrev pub api_error_name : ApiError → List ℕ
api_error_name api_error.WrongKey = codes "WrongKey"
api_error_name api_error.WrongHost = codes "WrongHost"
api_error_name api_error.WrongOrigin = codes "WrongOrigin"
api_error_name api_error.BadHead = codes "BadHead"
api_error_name api_error.Chunked = codes "Chunked"
api_error_name api_error.BadLength = codes "BadLength"
api_error_name api_error.TooLarge = codes "TooLarge"
api_error_name api_error.NoSuchPath = codes "NoSuchPath"
api_error_name (api_error.BadMethod resource) = codes "BadMethod"
api_error_name api_error.BadBody = codes "BadBody"
api_error_name (api_error.Refused r) = refusal_name r
api_error_name api_error.Worn = codes "Worn"

-- an object of one text, under its key
abbrev pub one_text : List ℕ → List ℕ → Data
one_text key text = object (member key (string text) no_members)

-- an object of two texts, each under its key
abbrev pub two_texts : List ℕ → List ℕ → List ℕ → List ℕ → Data
two_texts key text other more = object (member key (string text) (member other (string more) no_members))

-- the body of a refusal: its name, with the action's status, or with the name of what is full
abbrev pub refusal_body : Refusal → Data
refusal_body (refusal.NotActive status) = two_texts (codes "error") (codes "NotActive") (codes "status")
    (action_status_name status)
refusal_body (refusal.Full exhausted) = two_texts (codes "error") (codes "Full") (codes "which")
    (resource_name exhausted)
refusal_body r = one_text (codes "error") (refusal_name r)

-- the body of an API error
abbrev pub api_error_body : ApiError → Data
api_error_body (api_error.Refused r) = refusal_body r
api_error_body d = one_text (codes "error") (api_error_name d)

-- the URI that is told in the dialect, or nothing
abbrev pub dialect_uri : ℕ → List ℕ → DialectTold → List ℕ
dialect_uri i base (told.Started action) = action_uri i base action
dialect_uri i base (told.Joined m) = recovery_uri i base m
dialect_uri i base _ = []

-- the URI that an answer of a coordinator with that instance and base names, or nothing
abbrev pub uri_of : ℕ → List ℕ → Answer → List ℕ
uri_of i base (answer.Started action) = action_uri i base action
uri_of i base (answer.Found action status) = action_uri i base action
uri_of i base (answer.Joined m) = recovery_uri i base m
uri_of i base (answer.Dialect d) = dialect_uri i base d.told
uri_of i base _ = []

-- the sentence that says why the dialect refuses a request
abbrev pub dialect_sentence : DialectRefusal → List ℕ
dialect_sentence dialect_refusal.NoSuchPath = codes "Nothing is served at this path"
dialect_sentence (dialect_refusal.BadMethod accepted) = codes "The path does not take this method"
dialect_sentence dialect_refusal.BadVersion = codes "The version of the API is none of 1.0, 1.1 and 1.2"
dialect_sentence dialect_refusal.BadQuery = codes "The query has a word or a number that is not taken here"
dialect_sentence dialect_refusal.BadLinks = codes "The links of the participant can not be read"
dialect_sentence dialect_refusal.MemberData = codes "The journal has no place for data of a participant"
dialect_sentence dialect_refusal.MemberLimit = codes "The journal has no place for a limit of a participant"
dialect_sentence dialect_refusal.LeaveByLinks = codes "A participant leaves by its recovery URI"
dialect_sentence dialect_refusal.Lists = codes "Operators ask for lists and details at their own port"
dialect_sentence dialect_refusal.MemberLinks = codes "The links of a participant are not told"
dialect_sentence dialect_refusal.Moves = codes "The journal has no entry for a participant that moves"
dialect_sentence dialect_refusal.Nested = codes "A nested action is ended by its parent in this coordinator"

-- the words that are told in the dialect, where this URI is
abbrev pub dialect_words : List ℕ → DialectTold → List ℕ
dialect_words uri (told.Started action) = uri
dialect_words uri (told.Joined m) = uri
dialect_words uri (told.Status status) = action_status_name status
dialect_words uri (told.Turned status) = action_status_name status
dialect_words uri told.Done = []
dialect_words uri (told.Denied d) = api_error_name d
dialect_words uri (told.Refused r) = dialect_sentence r

-- a JSON string (RFC 8259, section 7)
abbrev pub json_text : List ℕ → List ℕ
json_text words = compact_text (string words)

-- the text of an answer in the dialect: the words, or the JSON string of them
abbrev pub dialect_text : List ℕ → DialectAnswer → List ℕ
dialect_text uri d = if d.is_json then json_text (dialect_words uri d.told) else dialect_words uri d.told

-- the body of an answer that names a URI
abbrev pub body_of : List ℕ → Answer → Data
body_of uri (answer.Started action) = one_text (codes "lra") uri
body_of uri (answer.Found action status) = two_texts (codes "lra") uri (codes "status") (action_status_name status)
body_of uri (answer.Joined m) = one_text (codes "recovery") uri
body_of uri (answer.Turned status) = one_text (codes "status") (action_status_name status)
body_of uri answer.Left = one_text (codes "status") (codes "Left")
body_of uri answer.Renewed = one_text (codes "status") (codes "Active")
body_of uri (answer.Member status) = one_text (codes "status") (member_status_name status)
body_of uri (answer.Denied d) = api_error_body d
body_of uri (answer.Retry r seconds) = refusal_body r
body_of uri (answer.Dialect d) = string (dialect_words uri d.told)

-- the text of an answer's body: an object, but in the dialect
abbrev pub text_of : List ℕ → Answer → List ℕ
text_of uri (answer.Dialect d) = dialect_text uri d
text_of uri a = compact_text (body_of uri a)

-- the type of that text
abbrev pub content_type_of : Answer → List ℕ
content_type_of (answer.Dialect d) = if d.is_json then codes "application/json" else codes "text/plain"
content_type_of a = codes "application/json"

-- ---- fields

-- a field's name and its value
abbrev pub Field : Type 0
Field = List ℕ × List ℕ

-- the fields of an API error: how a key is given, where it was missing or wrong (RFC 6750, section 3), and the methods
-- that a resource accepts, where another came (RFC 9110, section 15.5.6)
abbrev pub api_error_fields : ApiError → List Field
api_error_fields api_error.WrongKey = (codes "WWW-Authenticate", codes "Bearer realm=\"lra\"") ∷ []
api_error_fields (api_error.BadMethod resource) = (codes "Allow", allowed resource) ∷ []
api_error_fields _ = []

-- the methods that a path of the dialect accepts, as `Allow` lists them (RFC 9110, section 10.2.1)
abbrev pub dialect_allowed : DialectMethods → List ℕ
dialect_allowed methods.Get = codes "GET"
dialect_allowed methods.Post = codes "POST"
dialect_allowed methods.Put = codes "PUT"
dialect_allowed methods.GetPut = codes "GET, PUT"

-- the fields of what is told in the dialect, where this URI is
abbrev pub dialect_told_fields : List ℕ → DialectTold → List Field
dialect_told_fields uri (told.Started action) =
    (codes "Location", uri) ∷ (codes "Long-Running-Action", uri) ∷ []
dialect_told_fields uri (told.Joined m) =
    (codes "Location", uri) ∷ (codes "Long-Running-Action-Recovery", uri) ∷ []
dialect_told_fields uri (told.Refused (dialect_refusal.BadMethod accepted)) =
    (codes "Allow", dialect_allowed accepted) ∷ []
dialect_told_fields uri _ = []

-- the name of a version of the dialect
abbrev pub version_name : DialectVersion → List ℕ
version_name version.First = codes "1.0"
version_name version.Second = codes "1.1"
version_name version.Third = codes "1.2"

-- the field that names the version of the request, if it named one
abbrev pub version_fields : Option DialectVersion → List Field
version_fields None = []
version_fields (Some v) = (codes "Narayana-LRA-API-version", version_name v) ∷ []

-- the fields of an answer in the dialect alone
abbrev pub dialect_fields : List ℕ → DialectAnswer → List Field
dialect_fields uri d = dialect_told_fields uri d.told ++ version_fields d.version

-- the fields of one answer alone (MicroProfile LRA 2.0, the headers of an LRA; RFC 9110, sections 10.2.2 and 10.2.3)
abbrev pub own_fields : List ℕ → Answer → List Field
own_fields uri (answer.Started action) = (codes "Location", uri) ∷ (codes "Long-Running-Action", uri) ∷ []
own_fields uri (answer.Joined m) = (codes "Long-Running-Action-Recovery", uri) ∷ []
own_fields uri (answer.Denied d) = api_error_fields d
own_fields uri (answer.Retry r seconds) = (codes "Retry-After", decimal seconds) ∷ []
own_fields uri (answer.Dialect d) = dialect_fields uri d
own_fields uri _ = []

-- the field that says that the stream is closed after the reply (RFC 9112, section 9.6)
abbrev pub closing_fields : Bool → List Field
closing_fields true = (codes "Connection", codes "close") ∷ []
closing_fields false = []

-- all fields of a reply with a body of that text, in their order
abbrev pub fields_of : List ℕ → Answer → List ℕ → Bool → List Field
fields_of uri a text close =
    (codes "Content-Type", content_type_of a) ∷ (codes "Content-Length", decimal (length text))
    ∷ (own_fields uri a ++ closing_fields close)

-- ---- texts

-- the end of a line (RFC 9112, section 2.2)
abbrev pub line_end : List ℕ
line_end = 13 ∷ 10 ∷ []

-- a field's line (RFC 9112, section 5)
abbrev pub line_of : Field → List ℕ
line_of field = field.0 ++ codes ": " ++ field.1 ++ line_end

-- the text of a reply: its line, its fields, an empty line, and the body (RFC 9112, section 2.1). Where only the head
-- was asked for, the body is left out, and its length stays (RFC 9110, section 9.3.2).
abbrev pub reply_text : List ℕ → Answer → List ℕ → Bool → Bool → List ℕ
reply_text uri a text head close =
    (codes "HTTP/1.1 " ++ (decimal (code_of a) ++ (codes " " ++ phrase_of (code_of a))))
    ++ line_end ++ flat_map line_of (fields_of uri a text close) ++ line_end ++ (if head then [] else text)

-- the bytes of the reply of a coordinator with that instance and base
unfoldable pub reply_bytes : ℕ → List ℕ → Answer → Bool → Bool → List ℕ
reply_bytes i base a head close = reply_text (uri_of i base a) a (text_of (uri_of i base a) a) head close

-- a number that is told in the dialect is one that an identifier can have
abbrev pub HasNumber : DialectTold → Type 0
HasNumber (told.Started action) = (1 ≤ action) × (action < 2 ^ 62)
HasNumber (told.Joined m) = (1 ≤ m) × (m < 2 ^ 62)
HasNumber _ = ⊤

-- an answer's numbers are those that an identifier can have
abbrev pub HasIdentifiers : Answer → Type 0
HasIdentifiers (answer.Started action) = (1 ≤ action) × (action < 2 ^ 62)
HasIdentifiers (answer.Found action status) = (1 ≤ action) × (action < 2 ^ 62)
HasIdentifiers (answer.Joined m) = (1 ≤ m) × (m < 2 ^ 62)
HasIdentifiers (answer.Dialect d) = HasNumber d.told
HasIdentifiers _ = ⊤
