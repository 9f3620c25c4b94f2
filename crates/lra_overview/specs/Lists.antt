-- Lists and actions in JSON (this project's own).
use Rattle.std.specs.Prelude.{ℕ, Bool, true, false, cond, List, [], ◌∷◌, ◌++◌, codes, string_bytes, Option, Some, None}
use Rattle.std.specs.Fmt.{decimal}
use Rattle.json.specs.Print.{quoted}
use Rattle.lra_model.specs.Names.{action_status_name, member_status_name, ask_kind_name}
use Rattle.lra_commands.specs.declared.query.Blocker.{Blocker}
use Rattle.lra_commands.specs.declared.query.Blocker.TheVariants as wanted
use Rattle.lra_commands.specs.declared.query.Want.{Want}
use Rattle.lra_overview.specs.declared.gather.ActionRow.{ActionRow}
use Rattle.lra_overview.specs.declared.gather.MemberRow.{MemberRow}
use Rattle.lra_overview.specs.declared.attempts.Tried.{Tried}
use Rattle.lra_overview.specs.declared.attempts.Line.{Line}
use Rattle.lra_overview.specs.declared.gather.Waiting.{Waiting}
use Rattle.lra_overview.specs.Laying.{joined, id_of}

-- an identifier in quotes, or null
abbrev pub maybe : ℕ → Option ℕ → List ℕ
maybe i None = codes "null"
maybe i (Some n) = joined (codes "\"" ∷ id_of i n ∷ codes "\"" ∷ [])

-- a number, or null
abbrev pub number : Option ℕ → List ℕ
number None = codes "null"
number (Some n) = decimal n

-- what an action's object begins with: its identifier, its status and the key of the action that it is nested in
abbrev pub action_fields : ℕ → ActionRow → List ℕ
action_fields i r =
    joined (codes "{\"action\":\"" ∷ id_of i r.action ∷ codes "\",\"status\":\"" ∷ action_status_name r.status
    ∷ codes "\",\"parent\":" ∷ [])

-- an action of a list
abbrev pub row : ℕ → ActionRow → List ℕ
row i r = joined (action_fields i r ∷ maybe i r.parent ∷ codes "}" ∷ [])

-- the separator before a row
abbrev pub before : Bool → List ℕ
before is_first = cond is_first (codes "\n ") (codes ",\n ")

-- the actions of a list, from its first one on or from a further one
abbrev pub rows : ℕ → Bool → List ActionRow → List ℕ
rows i is_first [] = []
rows i is_first (r ∷ rs) = before is_first ++ (row i r ++ rows i false rs)

-- what a member is to be asked next, or null
abbrev pub want : Option Want → List ℕ
want None = codes "null"
want (Some w) =
    joined
    (codes "{\"kind\":\"" ∷ ask_kind_name w.kind ∷ codes "\",\"repeats\":" ∷ decimal w.repeats ∷ codes ",\"due\":"
    ∷ decimal w.due ∷ codes "}" ∷ [])

-- what a member's object begins with: its identifier, its status and the key of its outstanding ask
abbrev pub member_fields : ℕ → MemberRow → List ℕ
member_fields i m =
    joined (codes "{\"member\":\"" ∷ id_of i m.member ∷ codes "\",\"status\":\"" ∷ member_status_name m.status
    ∷ codes "\",\"ask\":" ∷ [])

-- the last callback of a member that didn't bring it further, or null
abbrev pub last : Option Tried → List ℕ
last None = codes "null"
last (Some t) =
    joined
    (codes "{\"address\":"
    ∷ quoted (string_bytes t.address)
    ∷ codes ",\"reply\":"
    ∷ quoted (string_bytes t.words)
    ∷ codes ",\"moment\":"
    ∷ decimal t.moment
    ∷ codes "}"
    ∷ []
    )

-- a member
unfoldable pub member : ℕ → Line → List ℕ
member i l =
    joined
    (member_fields i l.row
    ∷ number l.row.ask
    ∷ codes ",\"next\":"
    ∷ want l.row.want
    ∷ codes ",\"last\":"
    ∷ last l.tried
    ∷ codes "}"
    ∷ []
    )

-- the members of an action, from its first one on or from a further one
abbrev pub members : ℕ → Bool → List Line → List ℕ
members i is_first [] = []
members i is_first (m ∷ ms) = before is_first ++ (member i m ++ members i false ms)

-- what an action waits for, or null
abbrev pub awaited : ℕ → Option Blocker → List ℕ
awaited i None = codes "null"
awaited i (Some (wanted.Member p ask)) = joined (codes "{\"member\":\"" ∷ id_of i p ∷ codes "\"}" ∷ [])
awaited i (Some (wanted.Action a)) = joined (codes "{\"action\":\"" ∷ id_of i a ∷ codes "\"}" ∷ [])

-- a page of a list of actions, with the action to go on from, if there may be more
unfoldable pub actions : ℕ → List ActionRow → Option ℕ → List ℕ
actions i rs next = joined (codes "{\"actions\":[" ∷ rows i true rs ∷ codes "],\"next\":" ∷ maybe i next
    ∷ codes "}\n" ∷ [])

-- the fields of an action that stand before its members
abbrev pub head : ℕ → Waiting → List ℕ
head i w = joined (action_fields i w.row ∷ maybe i w.row.parent ∷ codes ",\"awaits\":" ∷ awaited i w.awaited ∷ [])

-- whether there may be more than is shown, and the object's end
abbrev pub cut : Bool → List ℕ
cut is_cut = cond is_cut (codes "],\"cut\":true}\n") (codes "],\"cut\":false}\n")

-- an action, with its members, its nested actions and what it waits for
unfoldable pub action : ℕ → Waiting → List Line → List ActionRow → Bool → List ℕ
action i w ms nested is_cut =
    joined
    (head i w ∷ codes ",\"members\":[" ∷ members i true ms ∷ codes "],\"nested\":[" ∷ rows i true nested
    ∷ cut is_cut ∷ [])

-- an object of one text under a key
abbrev pub text_object : List ℕ → List ℕ → List ℕ
text_object key text = joined (codes "{\"" ∷ key ∷ codes "\":" ∷ quoted text ∷ codes "}\n" ∷ [])
