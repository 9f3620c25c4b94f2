-- Each `&` of each page begins a reference.
use Rattle.std.proofs.Common.{◌≡◌, ℕ, ◌==◌, Bool, true, false, List, [], ◌∷◌, ◌++◌, Option, Some, None, refl}
use Rattle.std.proofs.Common.{append_assoc}
use Rattle.std.specs.Prelude.{cond, length, codes}
use Rattle.std.specs.List.{flat_map}
use Rattle.lra_model.specs.declared.status.ActionStatus.{ActionStatus}
use Rattle.lra_model.specs.declared.status.ActionStatus.TheVariants as action_status
use Rattle.lra_model.specs.declared.status.MemberStatus.{MemberStatus}
use Rattle.lra_model.specs.declared.status.MemberStatus.TheVariants as member_status
use Rattle.lra_commands.specs.declared.query.Blocker.{Blocker}
use Rattle.lra_commands.specs.declared.query.Blocker.TheVariants as wanted
use Rattle.lra_commands.specs.declared.query.Want.{Want}
use Rattle.lra_overview.specs.declared.gather.ActionRow.{ActionRow}
use Rattle.lra_overview.specs.declared.gather.MemberRow.{MemberRow}
use Rattle.lra_overview.specs.declared.gather.Waiting.{Waiting}
use Rattle.lra_overview.specs.declared.shares.Share.{Share}
use Rattle.lra_overview.specs.declared.attempts.Tried.{Tried}
use Rattle.lra_overview.specs.declared.attempts.Line.{Line}
use Rattle.lra_overview.specs.declared.overdue.Overdue.{Overdue}
use Rattle.lra_overview.specs.declared.home_page.Home.{Home}
use Rattle.lra_overview.specs.declared.tree.Node.{Node}
use Rattle.lra_overview.specs.declared.tree.NodeOf.{NodeOf}
use Rattle.lra_overview.specs.declared.tree.NodeOf.TheVariants as node_of
use Rattle.lra_escape.specs.Escapes.{escaped}
use Rattle.lra_overview.specs.declared.page_parts.TheConstants.{HEAD, LOOKS, TABLES, NIGHT}
use Rattle.lra_overview.specs.Laying.{joined, id_of}
use Rattle.lra_overview.specs.Pages.{begin, fields, cancel_form, cancel_at, cancel, give_up_at, told_form}
use Rattle.lra_overview.specs.Pages.{wants_telling, give_up, share, awaited, awaited_member, age, want_now, want_in}
use Rattle.lra_overview.specs.Pages.{next_ask, ask_in, waits_at, waiting, full_table, no_rows, table, next, overdue}
use Rattle.lra_overview.specs.Pages.{title, counts, home, tried, line, members, open_end, wait_at, heading, parent}
use Rattle.lra_overview.specs.Pages.{action, plain}
use Rattle.lra_overview.specs.Pictures as pictures
use Rattle.lra_overview.specs.Pictures.{picture}
use Rattle.lra_overview.specs.Marks.{refers, HomeRefers, ActionRefers, PlainRefers}
use Rattle.lra_overview.proofs.Refers.{skip_escaped, skip_id, skip_decimal, skip_span, skip_action, skip_member}
use Rattle.lra_overview.proofs.Refers.{skip_kind, skip_key, refers_flat, skip_by, refers_head, refers_looks}
use Rattle.lra_overview.proofs.Refers.{refers_tables, refers_night, refers_escaped, refers_joined}

r_fields : (token : List ℕ) (k : Bool) → refers (fields token k) ≡ true
r_fields token true = simp (append_assoc, skip_escaped, skip_key)
r_fields token false = simp (append_assoc, skip_escaped)

s_fields : (token : List ℕ) (k : Bool) (y : List ℕ) → refers ((fields token k) ++ y) ≡ refers y
s_fields token k y = skip_by (fields token k) y (r_fields token k)

r_cancel_form : (i : ℕ) (token : List ℕ) (k : Bool) (a : ℕ) → refers (cancel_form i token k a) ≡ true
r_cancel_form i token k a = simp (append_assoc, skip_id, s_fields token k)

s_cancel_form : (i : ℕ) (token : List ℕ) (k : Bool) (a : ℕ) (y : List ℕ) → refers ((cancel_form i token k a) ++ y)
    ≡ refers y
s_cancel_form i token k a y = skip_by (cancel_form i token k a) y (r_cancel_form i token k a)

r_cancel : (i : ℕ) (token : List ℕ) (k : Bool) (a : ℕ) (s : ActionStatus) → refers (cancel_at i token k a s) ≡ true
r_cancel i token k a action_status.Active = r_cancel_form i token k a
r_cancel i token k a _ = refl

s_cancel : (i : ℕ) (token : List ℕ) (k : Bool) (a : ℕ) (s : ActionStatus) (y : List ℕ)
    → refers ((cancel_at i token k a s) ++ y) ≡ refers y
s_cancel i token k a s y = skip_by (cancel_at i token k a s) y (r_cancel i token k a s)

-- the form that gives a member up, with the field for the key or without it
abbrev form_of : ℕ → List ℕ → Bool → ℕ → List ℕ → List ℕ → List ℕ
form_of i token k p question ending =
    joined
    (joined (codes "<details><summary>Give up</summary><form method=\"post\" action=\"/members/" ∷ id_of i p
    ∷ codes "/give-up\">" ∷ question ∷ [])
    ∷ fields token k
    ∷ joined (codes "<input type=\"hidden\" name=\"status\" value=\"" ∷ ending
    ∷ codes "\"><button>Yes, give up</button></form></details>" ∷ [])
    ∷ []
    )

r_form_of : (i : ℕ) (token : List ℕ) (k : Bool) (p : ℕ) (question ending : List ℕ) → refers question ≡ true
    → refers ending ≡ true
    → refers (form_of i token k p question ending) ≡ true
r_form_of i token k p question ending q h =
    let asks : (y : List ℕ) → refers (question ++ y) ≡ refers y = λ y. skip_by question y q in
    let after : (y : List ℕ) → refers (ending ++ y) ≡ refers y = λ y. skip_by ending y h in
    simp (append_assoc, skip_id, s_fields token k, asks, after)

r_give_up_at : (i : ℕ) (token : List ℕ) (p : ℕ) (s : MemberStatus) → refers (give_up_at i token p s) ≡ true
r_give_up_at i token p member_status.Completing = r_form_of i token true p (codes "Have it count as failed for good?")
    (codes "FailedToComplete") refl refl
r_give_up_at i token p member_status.Compensating = r_form_of i token true p (codes "Have it count as failed for good?")
    (codes "FailedToCompensate") refl refl
r_give_up_at i token p _ = refl

s_give_up_at : (i : ℕ) (token : List ℕ) (p : ℕ) (s : MemberStatus) (y : List ℕ) → refers ((give_up_at i token p s) ++ y)
    ≡ refers y
s_give_up_at i token p s y = skip_by (give_up_at i token p s) y (r_give_up_at i token p s)

r_told_form : (i : ℕ) (token : List ℕ) (p : ℕ) → refers (told_form i token p) ≡ true
unfolding told_form
r_told_form i token p = r_form_of i token true p (codes "Tell it no more how its action ended?") (codes "Ended") refl
    refl

r_give_up_where : (b : Bool) (i : ℕ) (token : List ℕ) (p : ℕ) (s : MemberStatus)
    → refers (cond b (told_form i token p) (give_up_at i token p s)) ≡ true
r_give_up_where true i token p s = r_told_form i token p
r_give_up_where false i token p s = r_give_up_at i token p s

r_give_up : (i : ℕ) (token : List ℕ) (k : Bool) (row : MemberRow) → refers (give_up i token k row) ≡ true
r_give_up i token true row = r_give_up_where (wants_telling row.want) i token row.member row.status
r_give_up i token false row = refl

s_give_up : (i : ℕ) (token : List ℕ) (k : Bool) (row : MemberRow) (y : List ℕ) → refers ((give_up i token k row) ++ y)
    ≡ refers y
s_give_up i token k row y = skip_by (give_up i token k row) y (r_give_up i token k row)

r_share : (s : Share) → refers (share s) ≡ true
r_share s = simp (append_assoc, skip_decimal, skip_action)

s_share : (s : Share) (y : List ℕ) → refers ((share s) ++ y) ≡ refers y
s_share s y = skip_by (share s) y (r_share s)

r_awaited_member : (i : ℕ) (p : ℕ) (ask : Option ℕ) → refers (awaited_member i p ask) ≡ true
r_awaited_member i p None = simp (append_assoc, skip_id)
r_awaited_member i p (Some n) = simp (append_assoc, skip_id)

s_awaited_member : (i : ℕ) (p : ℕ) (ask : Option ℕ) (y : List ℕ) → refers ((awaited_member i p ask) ++ y) ≡ refers y
s_awaited_member i p ask y = skip_by (awaited_member i p ask) y (r_awaited_member i p ask)

r_awaited : (i : ℕ) (w : Option Blocker) → refers (awaited i w) ≡ true
r_awaited i None = refl
r_awaited i (Some (wanted.Action a)) = simp (append_assoc, skip_id)
r_awaited i (Some (wanted.Member p ask)) = r_awaited_member i p ask

s_awaited : (i : ℕ) (w : Option Blocker) (y : List ℕ) → refers ((awaited i w) ++ y) ≡ refers y
s_awaited i w y = skip_by (awaited i w) y (r_awaited i w)

r_age : (a : Option ℕ) → refers (age a) ≡ true
r_age None = refl
r_age (Some ms) = simp (append_assoc, skip_span)

s_age : (a : Option ℕ) (y : List ℕ) → refers ((age a) ++ y) ≡ refers y
s_age a y = skip_by (age a) y (r_age a)

r_want_now : (w : Want) → refers (want_now w) ≡ true
r_want_now w = simp (append_assoc, skip_kind, skip_decimal)

r_want_in : (w : Want) (left : ℕ) → refers (want_in w left) ≡ true
r_want_in w left = simp (append_assoc, skip_kind, skip_span, skip_decimal)

r_want_where : (b : Bool) (w : Want) (left : ℕ) → refers (cond b (want_now w) (want_in w left)) ≡ true
r_want_where true w left = r_want_now w
r_want_where false w left = r_want_in w left

r_next_ask : (ask : Option ℕ) (w : Option Want) (left : ℕ) → refers (next_ask ask w left) ≡ true
r_next_ask (Some n) w left = refl
r_next_ask None (Some w) left = r_want_where (left == 0) w left
r_next_ask None None left = refl

s_next_ask : (ask : Option ℕ) (w : Option Want) (left : ℕ) (y : List ℕ) → refers ((next_ask ask w left) ++ y) ≡ refers y
s_next_ask ask w left y = skip_by (next_ask ask w left) y (r_next_ask ask w left)

r_waits : (i : ℕ) (s : ActionStatus) (w : Option Blocker) → refers (waits_at i s w) ≡ true
r_waits i action_status.Active w = r_awaited i w
r_waits i action_status.Closing w = r_awaited i w
r_waits i action_status.Cancelling w = r_awaited i w
r_waits i _ w = refl

s_waits : (i : ℕ) (s : ActionStatus) (w : Option Blocker) (y : List ℕ) → refers ((waits_at i s w) ++ y) ≡ refers y
s_waits i s w y = skip_by (waits_at i s w) y (r_waits i s w)

r_waiting : (i : ℕ) (token : List ℕ) (k : Bool) (w : Waiting) → refers (waiting i token k w) ≡ true
unfolding waiting
r_waiting i token k w =
    simp (
      append_assoc,
      skip_id,
      skip_action,
      s_age w.age,
      s_waits i w.row.status w.awaited,
      s_next_ask (ask_in w.awaited) w.want w.left,
      s_cancel i token k w.row.action w.row.status,
    )

s_waiting : (i : ℕ) (token : List ℕ) (k : Bool) (w : Waiting) (y : List ℕ) → refers ((waiting i token k w) ++ y)
    ≡ refers y
s_waiting i token k w y = skip_by (waiting i token k w) y (r_waiting i token k w)

r_rows : (i : ℕ) (token : List ℕ) (k : Bool) (rows : List Waiting) → refers (flat_map (waiting i token k) rows) ≡ true
r_rows i token k rows = refers_flat (waiting i token k) (r_waiting i token k) rows

s_rows : (i : ℕ) (token : List ℕ) (k : Bool) (rows : List Waiting) (y : List ℕ)
    → refers ((flat_map (waiting i token k) rows) ++ y) ≡ refers y
s_rows i token k rows y = skip_by (flat_map (waiting i token k) rows) y (r_rows i token k rows)

r_full_table : (i : ℕ) (token : List ℕ) (k : Bool) (rows : List Waiting) → refers (full_table i token k rows) ≡ true
r_full_table i token k rows = simp (append_assoc, s_rows i token k rows)

s_full_table : (i : ℕ) (token : List ℕ) (k : Bool) (rows : List Waiting) (y : List ℕ)
    → refers ((full_table i token k rows) ++ y) ≡ refers y
s_full_table i token k rows y = skip_by (full_table i token k rows) y (r_full_table i token k rows)

r_no_rows : (state : Option ActionStatus) → refers (no_rows state) ≡ true
r_no_rows None = refl
r_no_rows (Some s) = refl

r_table_where : (b : Bool) (i : ℕ) (token : List ℕ) (k : Bool) (state : Option ActionStatus) (rows : List Waiting)
    → refers (cond b (no_rows state) (full_table i token k rows)) ≡ true
r_table_where true i token k state rows = r_no_rows state
r_table_where false i token k state rows = r_full_table i token k rows

r_next : (i : ℕ) (state : Option ActionStatus) (from : Option ℕ) → refers (next i state from) ≡ true
r_next i None None = refl
r_next i (Some s) None = refl
r_next i None (Some a) = simp (append_assoc, skip_id)
r_next i (Some s) (Some a) = simp (append_assoc, skip_action, skip_id)

r_overdue : (o : Overdue) → refers (overdue o) ≡ true
r_overdue o = simp (append_assoc, skip_decimal)

r_title : (state : Option ActionStatus) → refers (title state) ≡ true
r_title None = refl
r_title (Some s) = simp (append_assoc, skip_action)

r_shares : (shares : List Share) → refers (flat_map share shares) ≡ true
r_shares shares = refers_flat share r_share shares

s_shares : (shares : List Share) (y : List ℕ) → refers ((flat_map share shares) ++ y) ≡ refers y
s_shares shares y = skip_by (flat_map share shares) y (r_shares shares)

r_begin : (base : List ℕ) → refers (begin base) ≡ true
r_begin base =
    refers_joined
    (HEAD.now ∷ LOOKS.now ∷ TABLES.now ∷ NIGHT.now ∷ codes "<p>The coordinator at <code>" ∷ escaped base
    ∷ codes "</code></p></header><main>\n" ∷ [])
    (refers_head, (refers_looks, (refers_tables, (refers_night, (refl, (refers_escaped base, (refl, tt)))))))

r_counts : (h : Home) → refers (counts h) ≡ true
r_counts h =
    refers_joined
    (codes "<ul class=\"counts\">\n" ∷ flat_map share h.shares.now ∷ overdue h.overdue ∷ title h.state ∷ [])
    (refl, (r_shares h.shares.now, (r_overdue h.overdue, (r_title h.state, tt))))

pub home_refers : HomeRefers
unfolding home
home_refers i base token k h =
    refers_joined
    (begin base
    ∷ counts h
    ∷ table i token k h.state h.rows.now
    ∷ next i h.state h.next
    ∷ codes "</main></body></html>\n"
    ∷ []
    ) (
      r_begin base,
      (
        r_counts h,
        (
          r_table_where (length h.rows.now == 0) i token k h.state h.rows.now,
          (r_next i h.state h.next, (refl, tt)),
        ),
      ),
    )

r_tried : (t : Option Tried) → refers (tried t) ≡ true
r_tried None = refl
r_tried (Some t) = simp (append_assoc, skip_escaped, skip_span)

s_tried : (t : Option Tried) (y : List ℕ) → refers ((tried t) ++ y) ≡ refers y
s_tried t y = skip_by (tried t) y (r_tried t)

r_line : (i : ℕ) (token : List ℕ) (k : Bool) (l : Line) → refers (line i token k l) ≡ true
unfolding line
r_line i token k l =
    simp (
      append_assoc,
      skip_id,
      skip_member,
      s_next_ask l.row.ask l.row.want l.left,
      s_tried l.tried,
      s_give_up i token k l.row,
    )

r_lines : (i : ℕ) (token : List ℕ) (k : Bool) (lines : List Line) → refers (flat_map (line i token k) lines) ≡ true
r_lines i token k lines = refers_flat (line i token k) (r_line i token k) lines

s_lines : (i : ℕ) (token : List ℕ) (k : Bool) (lines : List Line) (y : List ℕ)
    → refers ((flat_map (line i token k) lines) ++ y) ≡ refers y
s_lines i token k lines y = skip_by (flat_map (line i token k) lines) y (r_lines i token k lines)

r_members : (i : ℕ) (token : List ℕ) (k : Bool) (lines : List Line) → refers (members i token k lines) ≡ true
r_members i token k lines = simp (append_assoc, s_lines i token k lines)

r_open_end : (i : ℕ) (w : Option Blocker) → refers (open_end i w) ≡ true
r_open_end i w = simp (append_assoc, s_awaited i w)

s_open_end : (i : ℕ) (w : Option Blocker) (y : List ℕ) → refers ((open_end i w) ++ y) ≡ refers y
s_open_end i w y = skip_by (open_end i w) y (r_open_end i w)

r_wait : (i : ℕ) (s : ActionStatus) (w : Option Blocker) → refers (wait_at i s w) ≡ true
r_wait i action_status.Active w = r_open_end i w
r_wait i action_status.Closing w = r_open_end i w
r_wait i action_status.Cancelling w = r_open_end i w
r_wait i _ w = refl

s_wait : (i : ℕ) (s : ActionStatus) (w : Option Blocker) (y : List ℕ) → refers ((wait_at i s w) ++ y) ≡ refers y
s_wait i s w y = skip_by (wait_at i s w) y (r_wait i s w)

r_heading : (i : ℕ) (w : Waiting) → refers (heading i w) ≡ true
r_heading i w = simp (append_assoc, skip_id, skip_action, s_wait i w.row.status w.awaited)

s_heading : (i : ℕ) (w : Waiting) (y : List ℕ) → refers ((heading i w) ++ y) ≡ refers y
s_heading i w y = skip_by (heading i w) y (r_heading i w)

r_parent : (i : ℕ) (p : Option ℕ) → refers (parent i p) ≡ true
r_parent i None = refl
r_parent i (Some a) = simp (append_assoc, skip_id)

s_parent : (i : ℕ) (p : Option ℕ) (y : List ℕ) → refers ((parent i p) ++ y) ≡ refers y
s_parent i p y = skip_by (parent i p) y (r_parent i p)

r_branch : (depth : ℕ) (line : ℕ) (above : Option ℕ) → refers (pictures.branch depth line above) ≡ true
r_branch depth line None = refl
r_branch depth line (Some a) = simp (append_assoc, skip_decimal)

s_branch : (depth : ℕ) (line : ℕ) (above : Option ℕ) (y : List ℕ) → refers ((pictures.branch depth line above) ++ y)
    ≡ refers y
s_branch depth line above y = skip_by (pictures.branch depth line above) y (r_branch depth line above)

r_disk : (i : ℕ) (depth : ℕ) (line : ℕ) (row : ActionRow) → refers (pictures.action i depth line row) ≡ true
r_disk i depth line row = simp (append_assoc, skip_action, skip_decimal, skip_id)

s_disk : (i : ℕ) (depth : ℕ) (line : ℕ) (row : ActionRow) (y : List ℕ)
    → refers ((pictures.action i depth line row) ++ y) ≡ refers y
s_disk i depth line row y = skip_by (pictures.action i depth line row) y (r_disk i depth line row)

r_square : (i : ℕ) (depth : ℕ) (line : ℕ) (row : MemberRow) → refers (pictures.member i depth line row) ≡ true
r_square i depth line row = simp (append_assoc, skip_member, skip_decimal, skip_id)

s_square : (i : ℕ) (depth : ℕ) (line : ℕ) (row : MemberRow) (y : List ℕ)
    → refers ((pictures.member i depth line row) ++ y) ≡ refers y
s_square i depth line row y = skip_by (pictures.member i depth line row) y (r_square i depth line row)

r_mark : (i : ℕ) (depth : ℕ) (line : ℕ) (n : NodeOf) → refers (pictures.mark i depth line n) ≡ true
r_mark i depth line (node_of.Action row) = r_disk i depth line row
r_mark i depth line (node_of.Member row) = r_square i depth line row

s_mark : (i : ℕ) (depth : ℕ) (line : ℕ) (n : NodeOf) (y : List ℕ) → refers ((pictures.mark i depth line n) ++ y)
    ≡ refers y
s_mark i depth line n y = skip_by (pictures.mark i depth line n) y (r_mark i depth line n)

r_node : (i : ℕ) (n : Node) → refers (pictures.node i n) ≡ true
r_node i n = simp (append_assoc, s_branch n.depth n.line n.above, s_mark i n.depth n.line n.of)

s_node : (i : ℕ) (n : Node) (y : List ℕ) → refers ((pictures.node i n) ++ y) ≡ refers y
s_node i n y = skip_by (pictures.node i n) y (r_node i n)

r_nodes : (i : ℕ) (nodes : List Node) → refers (flat_map (pictures.node i) nodes) ≡ true
r_nodes i nodes = refers_flat (pictures.node i) (r_node i) nodes

s_nodes : (i : ℕ) (nodes : List Node) (y : List ℕ) → refers ((flat_map (pictures.node i) nodes) ++ y) ≡ refers y
s_nodes i nodes y = skip_by (flat_map (pictures.node i) nodes) y (r_nodes i nodes)

r_picture : (i : ℕ) (nodes : List Node) → refers (picture i nodes) ≡ true
unfolding picture
r_picture i nodes = simp (append_assoc, skip_decimal, s_nodes i nodes)

s_picture : (i : ℕ) (nodes : List Node) (y : List ℕ) → refers ((picture i nodes) ++ y) ≡ refers y
s_picture i nodes y = skip_by (picture i nodes) y (r_picture i nodes)

pub action_refers : ActionRefers
unfolding action
action_refers i base token k w nodes lines =
    refers_joined
    (begin base
    ∷ heading i w
    ∷ parent i w.row.parent
    ∷ cancel i token k w.row
    ∷ codes "<h2>Tree</h2>\n<div class=\"tree\">"
    ∷ picture i nodes
    ∷ members i token k lines
    ∷ []
    ) (
      r_begin base,
      (
        r_heading i w,
        (
          r_parent i w.row.parent,
          (r_cancel i token k w.row.action w.row.status, (refl, (r_picture i nodes, (r_members i token k lines, tt)))),
        ),
      ),
    )

r_sentence : (sentence text : List ℕ) → refers sentence ≡ true
    → refers (joined (codes "<h2>" ∷ sentence ∷ codes "</h2>\n<p><code>" ∷ escaped text
    ∷ codes "</code></p>\n</main></body></html>\n" ∷ [])) ≡ true
r_sentence sentence text h =
    refers_joined
    (codes "<h2>" ∷ sentence ∷ codes "</h2>\n<p><code>" ∷ escaped text ∷ codes "</code></p>\n</main></body></html>\n"
    ∷ [])
    (refl, (h, (refl, (refers_escaped text, (refl, tt)))))

pub plain_refers : PlainRefers
unfolding plain
plain_refers base sentence text h =
    refers_joined
    (begin base
    ∷ joined (codes "<h2>" ∷ sentence ∷ codes "</h2>\n<p><code>" ∷ escaped text
    ∷ codes "</code></p>\n</main></body></html>\n" ∷ [])
    ∷ []
    )
    (r_begin base, (r_sentence sentence text h, tt))
