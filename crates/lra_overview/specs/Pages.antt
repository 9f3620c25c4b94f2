-- The pages for a browser (this project's own).
use Rattle.std.specs.Prelude.{ℕ, ◌==◌, Bool, true, false, cond, List, [], ◌∷◌, length, codes, string_bytes, Option}
use Rattle.std.specs.Prelude.{Some, None}
use Rattle.std.specs.List.{flat_map}
use Rattle.std.specs.Fmt.{decimal}
use Rattle.std.specs.Option.{option_map_or}
use Rattle.lra_model.specs.declared.status.ActionStatus.{ActionStatus}
use Rattle.lra_model.specs.declared.status.ActionStatus.TheVariants as action_status
use Rattle.lra_model.specs.declared.status.MemberStatus.{MemberStatus}
use Rattle.lra_model.specs.declared.status.MemberStatus.TheVariants as member_status
use Rattle.lra_model.specs.Names.{action_status_name, member_status_name, ask_kind_name}
use Rattle.lra_commands.specs.declared.query.Blocker.{Blocker}
use Rattle.lra_commands.specs.declared.query.Blocker.TheVariants as wanted
use Rattle.lra_commands.specs.declared.query.Want.{Want}
use Rattle.lra_escape.specs.Escapes.{escaped}
use Rattle.lra_outcomes.specs.Telling.{is_telling}
use Rattle.lra_overview.specs.declared.shares.Share.{Share}
use Rattle.lra_overview.specs.declared.gather.ActionRow.{ActionRow}
use Rattle.lra_overview.specs.declared.gather.MemberRow.{MemberRow}
use Rattle.lra_overview.specs.declared.gather.Waiting.{Waiting}
use Rattle.lra_overview.specs.declared.tree.Node.{Node}
use Rattle.lra_overview.specs.declared.attempts.Tried.{Tried}
use Rattle.lra_overview.specs.declared.attempts.Line.{Line}
use Rattle.lra_overview.specs.declared.overdue.Overdue.{Overdue}
use Rattle.lra_overview.specs.declared.home_page.Home.{Home}
use Rattle.lra_overview.specs.declared.page_parts.TheConstants.{HEAD, LOOKS, TABLES, NIGHT, KEY}
use Rattle.lra_overview.specs.Laying.{joined, id_of, span}
use Rattle.lra_overview.specs.Pictures.{picture}

-- what each page begins with: its styles, and the base of the coordinator, which is escaped
abbrev pub begin : List ℕ → List ℕ
begin base = joined (HEAD.now ∷ LOOKS.now ∷ TABLES.now ∷ NIGHT.now ∷ codes "<p>The coordinator at <code>" ∷ escaped base
    ∷ codes "</code></p></header><main>\n" ∷ [])

-- ---- forms

-- the fields of a form that the port requires: the token, which is escaped, and one for the key if it is needed
abbrev pub fields : List ℕ → Bool → List ℕ
fields token needs_key =
    cond needs_key
    (joined (codes "<input type=\"hidden\" name=\"token\" value=\"" ∷ escaped token ∷ codes "\">" ∷ KEY.now ∷ []))
    (joined (codes "<input type=\"hidden\" name=\"token\" value=\"" ∷ escaped token ∷ codes "\">" ∷ []))

-- a form that cancels an action
abbrev pub cancel_form : ℕ → List ℕ → Bool → ℕ → List ℕ
cancel_form i token have_key a =
    joined
    (joined (codes "<details><summary>Cancel</summary><form method=\"post\" action=\"/actions/" ∷ id_of i a
    ∷ codes "/cancel\">Cancel it, and all that is nested in it?" ∷ [])
    ∷ fields token have_key
    ∷ codes "<button>Yes, cancel</button></form></details>"
    ∷ []
    )

-- the form that cancels an action, if the action is active
abbrev pub cancel_at : ℕ → List ℕ → Bool → ℕ → ActionStatus → List ℕ
cancel_at i token have_key a action_status.Active = cancel_form i token have_key a
cancel_at i token have_key a _ = []

-- the form that cancels an action, if the action can be cancelled
abbrev pub cancel : ℕ → List ℕ → Bool → ActionRow → List ℕ
cancel i token have_key row = cancel_at i token have_key row.action row.status

-- a form that gives a member up, with a question and the word for how the member ends
abbrev pub give_up_form : ℕ → List ℕ → ℕ → List ℕ → List ℕ → List ℕ
give_up_form i token p question ending =
    joined
    (joined (codes "<details><summary>Give up</summary><form method=\"post\" action=\"/members/" ∷ id_of i p
    ∷ codes "/give-up\">" ∷ question ∷ [])
    ∷ fields token true
    ∷ joined (codes "<input type=\"hidden\" name=\"status\" value=\"" ∷ ending
    ∷ codes "\"><button>Yes, give up</button></form></details>" ∷ [])
    ∷ []
    )

-- the form of a member that is to complete or to compensate: the member is given up by its failure
abbrev pub give_up_at : ℕ → List ℕ → ℕ → MemberStatus → List ℕ
give_up_at i token p member_status.Completing = give_up_form i token p (codes "Have it count as failed for good?")
    (codes "FailedToComplete")
give_up_at i token p member_status.Compensating = give_up_form i token p (codes "Have it count as failed for good?")
    (codes "FailedToCompensate")
give_up_at i token p _ = []

-- whether a member is only to be told how its action ended
abbrev pub wants_telling : Option Want → Bool
wants_telling want = option_map_or (λ w. is_telling w.kind) want false

-- the form of a member that is only to be told how its action ended: the member is given up by ending that
unfoldable pub told_form : ℕ → List ℕ → ℕ → List ℕ
told_form i token p = give_up_form i token p (codes "Tell it no more how its action ended?") (codes "Ended")

-- the form of a member's row, if there is something to give up
abbrev pub give_up_where_asked : ℕ → List ℕ → MemberRow → List ℕ
give_up_where_asked i token row = cond (wants_telling row.want) (told_form i token row.member)
    (give_up_at i token row.member row.status)

-- the form that gives a member up, if there is a key
abbrev pub give_up : ℕ → List ℕ → Bool → MemberRow → List ℕ
give_up i token have_key row = cond have_key (give_up_where_asked i token row) []

-- ---- the first page

-- how many actions have a status
abbrev pub share : Share → List ℕ
share s =
    joined
    (codes "<li><b>"
    ∷ decimal s.count
    ∷ codes "</b><a class=\""
    ∷ action_status_name s.status
    ∷ codes "\" href=\"/?state="
    ∷ action_status_name s.status
    ∷ codes "\">"
    ∷ action_status_name s.status
    ∷ codes "</a></li>\n"
    ∷ []
    )

-- the member that an action waits for, and whether it is being asked
abbrev pub awaited_member : ℕ → ℕ → Option ℕ → List ℕ
awaited_member i p None = joined (codes "member <code>" ∷ id_of i p ∷ codes "</code>" ∷ [])
awaited_member i p (Some n) = joined (codes "member <code>" ∷ id_of i p ∷ codes "</code>, asked" ∷ [])

-- what an action waits for
abbrev pub awaited : ℕ → Option Blocker → List ℕ
awaited i None = codes "its end"
awaited i (Some (wanted.Action a)) = joined
    (codes "action <a href=\"/page/actions/" ∷ id_of i a ∷ codes "\"><code>" ∷ id_of i a ∷ codes "</code></a>" ∷ [])
awaited i (Some (wanted.Member p ask)) = awaited_member i p ask

-- what an action's line begins with: its identifier, as a link to its page, and its status
abbrev pub action_cells : ℕ → ActionRow → List ℕ
action_cells i row =
    joined
    (codes "<tr><td><a href=\"/page/actions/"
    ∷ id_of i row.action
    ∷ codes "\"><code>"
    ∷ id_of i row.action
    ∷ codes "</code></a></td><td><span class=\""
    ∷ action_status_name row.status
    ∷ codes "\">"
    ∷ action_status_name row.status
    ∷ codes "</span></td><td data-is=\"there\">"
    ∷ []
    )

-- for how long an action has been there at least, if that is known
abbrev pub age : Option ℕ → List ℕ
age None = []
age (Some ms) = joined (codes "over " ∷ span ms ∷ [])

-- what a member is to be asked next, at once
abbrev pub want_now : Want → List ℕ
want_now w = joined (ask_kind_name w.kind ∷ codes " now, in vain " ∷ decimal w.repeats ∷ codes " times" ∷ [])

-- what a member is to be asked next, and in how many milliseconds
abbrev pub want_in : Want → ℕ → List ℕ
want_in w left = joined (ask_kind_name w.kind ∷ codes " in " ∷ span left ∷ codes ", in vain " ∷ decimal w.repeats
    ∷ codes " times" ∷ [])

-- what a member is to be asked next, and when
abbrev pub want : Want → ℕ → List ℕ
want w left = cond (left == 0) (want_now w) (want_in w left)

-- what a member is being asked, or is to be asked next
abbrev pub next_ask : Option ℕ → Option Want → ℕ → List ℕ
next_ask (Some n) w left = codes "is being asked"
next_ask None (Some w) left = want w left
next_ask None None left = []

-- the outstanding ask to the member that an action waits for, if there is one
abbrev pub ask_in : Option Blocker → Option ℕ
ask_in (Some (wanted.Member p ask)) = ask
ask_in (Some (wanted.Action a)) = None
ask_in None = None

-- what an action of a status waits for, if it hasn't ended
abbrev pub waits_at : ℕ → ActionStatus → Option Blocker → List ℕ
waits_at i action_status.Active w = awaited i w
waits_at i action_status.Closing w = awaited i w
waits_at i action_status.Cancelling w = awaited i w
waits_at i _ w = []

-- what an action waits for, if it hasn't ended
abbrev pub waits : ℕ → Waiting → List ℕ
waits i w = waits_at i w.row.status w.awaited

-- what an action waits for, and when that is asked next, by the outstanding ask to it, if there is one
abbrev pub asked_cells : ℕ → Waiting → Option ℕ → List ℕ
asked_cells i w ask = joined (waits i w ∷ codes "</td><td data-is=\"next\">" ∷ next_ask ask w.want w.left ∷ [])

-- what an action waits for, and when that is asked next
abbrev pub wait_cells : ℕ → Waiting → List ℕ
wait_cells i w = asked_cells i w (ask_in w.awaited)

-- an action's line
unfoldable pub waiting : ℕ → List ℕ → Bool → Waiting → List ℕ
waiting i token have_key w =
    joined
    (action_cells i w.row
    ∷ age w.age
    ∷ codes "</td><td data-is=\"waits for\">"
    ∷ wait_cells i w
    ∷ codes "</td><td>"
    ∷ cancel i token have_key w.row
    ∷ codes "</td></tr>\n"
    ∷ []
    )

-- a table of actions, for a list that isn't empty
abbrev pub full_table : ℕ → List ℕ → Bool → List Waiting → List ℕ
full_table i token have_key rows =
    joined
    (joined (codes "<table><thead><tr><th>Action</th><th>Status</th><th>There</th>"
    ∷ codes "<th>Waits for</th><th>Next ask</th><th></th></tr></thead><tbody>\n" ∷ [])
    ∷ flat_map (waiting i token have_key) rows
    ∷ codes "</tbody></table>\n"
    ∷ []
    )

-- the sentence that no action is listed
abbrev pub no_rows : Option ActionStatus → List ℕ
no_rows None = codes "<p>All actions have ended.</p>\n"
no_rows (Some s) = codes "<p>None.</p>\n"

-- a table of the listed actions, or the sentence that there are none
abbrev pub table : ℕ → List ℕ → Bool → Option ActionStatus → List Waiting → List ℕ
table i token have_key state rows = cond (length rows == 0) (no_rows state) (full_table i token have_key rows)

-- a link to the actions that follow, if there may be more
abbrev pub next : ℕ → Option ActionStatus → Option ℕ → List ℕ
next i state None = []
next i None (Some a) = joined (codes "<p><a href=\"/?from=" ∷ id_of i a ∷ codes "\">Those after these</a></p>\n" ∷ [])
next i (Some s) (Some a) =
    joined (codes "<p><a href=\"/?state=" ∷ action_status_name s ∷ codes "&amp;from=" ∷ id_of i a
    ∷ codes "\">Those after these</a></p>\n" ∷ [])

-- how many members hold up ends
abbrev pub overdue : Overdue → List ℕ
overdue o =
    joined
    (codes "</ul>\n<p>Members that hold up ends: "
    ∷ decimal o.silent
    ∷ codes " silent, "
    ∷ decimal o.waiting
    ∷ codes " to be asked by now, "
    ∷ decimal o.at_it
    ∷ codes " at it</p>\n"
    ∷ []
    )

-- the heading that says which actions are listed: those that haven't ended, or those of a status
abbrev pub title : Option ActionStatus → List ℕ
title None = codes "<h2>Not ended, the oldest first</h2>\n"
title (Some s) =
    joined (codes "<h2>" ∷ action_status_name s
    ∷ codes ", the oldest first</h2>\n<p><a href=\"/\">Those that have not ended</a></p>\n" ∷ [])

-- the counts of the first page, and the heading of its list
abbrev pub counts : Home → List ℕ
counts h = joined (codes "<ul class=\"counts\">\n" ∷ flat_map share h.shares.now ∷ overdue h.overdue
    ∷ title h.state ∷ [])

-- the first page: counts by status, and the actions that haven't ended, or those of a status
unfoldable pub home : ℕ → List ℕ → List ℕ → Bool → Home → List ℕ
home i base token have_key h =
    joined
    (begin base
    ∷ counts h
    ∷ table i token have_key h.state h.rows.now
    ∷ next i h.state h.next
    ∷ codes "</main></body></html>\n"
    ∷ []
    )

-- ---- an action's page

-- the report of a member's last callback: its outcome, how long ago that was, and its address; both texts are escaped
abbrev pub reply : List ℕ → ℕ → List ℕ → List ℕ
reply words ms address = joined (escaped words ∷ codes ", " ∷ span ms ∷ codes " ago<br><code>" ∷ escaped address
    ∷ codes "</code>" ∷ [])

-- the report of a member's last callback, if it is remembered
abbrev pub tried : Option Tried → List ℕ
tried None = []
tried (Some t) = reply (string_bytes t.words) t.age (string_bytes t.address)

-- what a member's line begins with: its identifier and its status
abbrev pub member_cells : ℕ → MemberRow → List ℕ
member_cells i row =
    joined
    (codes "<tr><td><code>"
    ∷ id_of i row.member
    ∷ codes "</code></td><td><span class=\""
    ∷ member_status_name row.status
    ∷ codes "\">"
    ∷ member_status_name row.status
    ∷ codes "</span></td><td data-is=\"next\">"
    ∷ []
    )

-- a member's line
unfoldable pub line : ℕ → List ℕ → Bool → Line → List ℕ
line i token have_key l =
    joined
    (member_cells i l.row
    ∷ next_ask l.row.ask l.row.want l.left
    ∷ codes "</td><td data-is=\"last\">"
    ∷ tried l.tried
    ∷ codes "</td><td>"
    ∷ give_up i token have_key l.row
    ∷ codes "</td></tr>\n"
    ∷ []
    )

-- the members of a tree, and the page's end
abbrev pub members : ℕ → List ℕ → Bool → List Line → List ℕ
members i token have_key lines =
    joined
    (joined (codes "</div>\n<h2>Members</h2>\n<table><thead><tr><th>Member</th><th>Status</th>"
    ∷ codes "<th>Next ask</th><th>Last reply</th><th></th></tr></thead><tbody>\n" ∷ [])
    ∷ flat_map (line i token have_key) lines
    ∷ codes "</tbody></table>\n</main></body></html>\n"
    ∷ []
    )

-- what an action waits for, after its status
abbrev pub open_end : ℕ → Option Blocker → List ℕ
open_end i w = joined (codes ", waits for " ∷ awaited i w ∷ [])

-- what an action of a status waits for, after the status, if it hasn't ended
abbrev pub wait_at : ℕ → ActionStatus → Option Blocker → List ℕ
wait_at i action_status.Active w = open_end i w
wait_at i action_status.Closing w = open_end i w
wait_at i action_status.Cancelling w = open_end i w
wait_at i _ w = []

-- what an action waits for, after its status, if it hasn't ended
abbrev pub wait : ℕ → Waiting → List ℕ
wait i w = wait_at i w.row.status w.awaited

-- the heading of an action: its identifier, its status and what it waits for
abbrev pub heading : ℕ → Waiting → List ℕ
heading i w =
    joined
    (joined
    (codes "<h2>Action <code>"
    ∷ id_of i w.row.action
    ∷ codes "</code></h2>\n<p><span class=\""
    ∷ action_status_name w.row.status
    ∷ codes "\">"
    ∷ action_status_name w.row.status
    ∷ codes "</span>"
    ∷ []
    )
    ∷ wait i w
    ∷ codes "</p>\n"
    ∷ []
    )

-- the action that an action is nested in, if there is one
abbrev pub parent : ℕ → Option ℕ → List ℕ
parent i None = []
parent i (Some a) = joined (codes "<p>Nested in <a href=\"/page/actions/" ∷ id_of i a ∷ codes "\"><code>" ∷ id_of i a
    ∷ codes "</code></a></p>\n" ∷ [])

-- an action's page: its status, its tree as a picture, and the members of all actions that are shown
unfoldable pub action : ℕ → List ℕ → List ℕ → Bool → Waiting → List Node → List Line → List ℕ
action i base token have_key w nodes lines =
    joined
    (begin base
    ∷ heading i w
    ∷ parent i w.row.parent
    ∷ cancel i token have_key w.row
    ∷ codes "<h2>Tree</h2>\n<div class=\"tree\">"
    ∷ picture i nodes
    ∷ members i token have_key lines
    ∷ []
    )

-- ---- a page of one sentence

-- a page of a sentence of this program, and of a text from elsewhere, which is escaped
unfoldable pub plain : List ℕ → List ℕ → List ℕ → List ℕ
plain base sentence text =
    joined
    (begin base
    ∷ joined (codes "<h2>" ∷ sentence ∷ codes "</h2>\n<p><code>" ∷ escaped text
    ∷ codes "</code></p>\n</main></body></html>\n" ∷ [])
    ∷ []
    )
