-- Queries: the commands that only ask, what a query is refused by, and what holds the end of an action.
use Rattle.std.proofs.Common.{◌≡◌, ℕ, Bool, true, false, List, [], ◌∷◌, Some, Ok, Err, refl, sym, ap, ◌∙◌, subst, cond}
use Rattle.std.proofs.Common.{inl, inr}
use Rattle.std.specs.Prelude.{◌&&◌, ◌||◌, not, filter, map}
use Rattle.std.specs.Option.{option_map_or}
use Rattle.std.specs.List.{list_all, list_any}
use Rattle.std.proofs.lemmas.List.Folds.{list_any-append}
use Rattle.lra_model.specs.declared.status.ActionStatus.{ActionStatus}
use Rattle.lra_model.specs.declared.status.ActionStatus.TheVariants as action
use Rattle.lra_model.specs.Words.{has_ended, has_finished_cancelling, is_done_completing, is_done_compensating}
use Rattle.lra_model.specs.History.{History, clerks, actions, members, is_among}
use Rattle.lra_model.specs.Actions.{children, members_of}
use Rattle.lra_model.specs.Members.{stays, member_status, outstanding_ask}
use Rattle.lra_model.specs.Ends.{staying, action_is, settles}
use Rattle.lra_commands.specs.declared.command.Command.TheVariants as command
use Rattle.lra_commands.specs.declared.command.Told.TheVariants as told
use Rattle.lra_commands.specs.declared.query.Query.{Query}
use Rattle.lra_commands.specs.declared.query.Query.TheVariants as query
use Rattle.lra_commands.specs.declared.query.Blocker.{Blocker}
use Rattle.lra_commands.specs.declared.query.Blocker.TheVariants as awaited
use Rattle.lra_commands.specs.declared.query.QueryResult.{QueryResult}
use Rattle.lra_commands.specs.declared.query.QueryResult.TheVariants as known
use Rattle.lra_commands.specs.declared.refusal.Refusal.{Refusal}
use Rattle.lra_commands.specs.declared.refusal.Refusal.TheVariants as refusal
use Rattle.lra_commands.specs.declared.limits.Terms.{Terms}
use Rattle.lra_commands.specs.Calls.{Command, Call}
use Rattle.lra_commands.specs.Blocks.{block}
use Rattle.lra_commands.specs.Refusals.{status_at, full_grounds, first_ground, refused}
use Rattle.lra_commands.specs.Answers.{answer}
use Rattle.lra_commands.specs.Queries.{rows_of, holds_end, known_where, is_listed, tell, asks, answer_as, CommandsAsk}
use Rattle.lra_commands.specs.Queries.{QueriesMiss, RowsHoldEnds}

-- ---- the commands that only ask

-- a call is answered what a query is told, and appends nothing
abbrev IsAsked : Terms → History → Call → Query → Type 0
IsAsked s J c q = (answer s J c ≡ cond (is_among (clerks J) c.by) (answer_as (tell s.limits J q))
    (Err refusal.NoSuchClerk)) × (block s J c ≡ [])

abbrev call : ℕ → ℕ → Command → Call
call by m o = record { by = by; moment = m; command = o }

status_asked : (s : Terms) (J : History) (by m a : ℕ) → IsAsked s J (call by m (command.Status a))
    (query.ActionStatus a)
unfolding answer refused block tell
status_asked s J by m a = (cases (is_among (clerks J) by) (is_among (actions J) a), refl)
  where
    cases : (b c : Bool)
        → option_map_or Err (first_ground ((refusal.NoSuchClerk, not b)
        ∷ ((refusal.NoSuchAction, not c) ∷ full_grounds s J (call by m (command.Status a)))))
        (Ok (told.ActionIs (status_at J a)))
        ≡ cond b (answer_as (known_where c (known.ActionIs (status_at J a)) refusal.NoSuchAction))
        (Err refusal.NoSuchClerk)
    cases true true = refl
    cases true false = refl
    cases false c = refl

member_asked : (s : Terms) (J : History) (by m p : ℕ) → IsAsked s J (call by m (command.MemberStatus p))
    (query.MemberStatus p)
unfolding answer refused block tell
member_asked s J by m p = (cases (is_among (clerks J) by) (is_among (members J) p), refl)
  where
    cases : (b c : Bool)
        → option_map_or Err (first_ground ((refusal.NoSuchClerk, not b)
        ∷ ((refusal.NoSuchMember, not c) ∷ full_grounds s J (call by m (command.MemberStatus p)))))
        (Ok (told.MemberIs (member_status J p)))
        ≡ cond b (answer_as (known_where c (known.MemberIs (member_status J p)) refusal.NoSuchMember))
        (Err refusal.NoSuchClerk)
    cases true true = refl
    cases true false = refl
    cases false c = refl

asked : (s : Terms) (J : History) (by m : ℕ) (o : Command) (q : Query) → asks o ≡ Some q → IsAsked s J (call by m o) q
asked s J by m (command.Status a) q h = let e : query.ActionStatus a ≡ q = cc in
    subst (IsAsked s J (call by m (command.Status a))) e (status_asked s J by m a)
asked s J by m (command.MemberStatus p) q h = let e : query.MemberStatus p ≡ q = cc in
    subst (IsAsked s J (call by m (command.MemberStatus p))) e (member_asked s J by m p)
asked s J by m _ q h = absurd cc

pub commands_ask : CommandsAsk
commands_ask s J c q h = asked s J c.by c.moment c.command q h

-- ---- what a query is refused by

missed : (there : Bool) (k : QueryResult) (q r : Refusal) → known_where there k q ≡ Err r → r ≡ q
missed true k q r h = absurd cc
missed false k q r h = cc

pub queries_miss : QueriesMiss
unfolding tell
queries_miss l J (query.ActionStatus a) r h = inl (missed (is_among (actions J) a) _ _ r h)
queries_miss l J (query.MemberStatus p) r h = inr (missed (is_among (members J) p) _ _ r h)
queries_miss l J (query.Awaited a place) r h = inl (missed (is_among (actions J) a) _ _ r h)
queries_miss l J (query.Row x place) r h = inl (missed (is_listed J x) _ _ r h)
queries_miss l J (query.Count x place) r h = inl (missed (is_listed J x) _ _ r h)

-- ---- what holds the end of an action

-- where no row of those that are passed on by a test fails another
none_kept : (test done : ℕ → Bool) (f : ℕ → Blocker) (h : Blocker → Bool)
    → ((p : ℕ) → h (f p) ≡ (test p && not (done p))) → (ps : List ℕ) → list_all done (filter test ps)
    ≡ not (list_any h (map f ps))
none_kept test done f h e [] = refl
none_kept test done f h e (p ∷ ps) =
    first (test p) ∙ ap (λ b. (not (test p) || done p) && b) (none_kept test done f h e ps)
    ∙ turned (test p) (done p) (list_any h (map f ps)) ∙ ap (λ b. not (b || list_any h (map f ps))) (sym (e p))
  where
    first : (b : Bool) → list_all done (cond b (p ∷ filter test ps) (filter test ps))
        ≡ ((not b || done p) && list_all done (filter test ps))
    first true = refl
    first false = refl

    turned : (b d r : Bool) → ((not b || d) && not r) ≡ not ((b && not d) || r)
    turned true true r = refl
    turned true false r = refl
    turned false d r = refl

-- where none fails a test
none_left : (done : ℕ → Bool) (f : ℕ → Blocker) (h : Blocker → Bool) → ((b : ℕ) → h (f b) ≡ not (done b))
    → (bs : List ℕ) → list_all done bs ≡ not (list_any h (map f bs))
none_left done f h e [] = refl
none_left done f h e (b ∷ bs) = ap (λ x. done b && x) (none_left done f h e bs)
    ∙ turned (done b) (list_any h (map f bs)) ∙ ap (λ x. not (x || list_any h (map f bs))) (sym (e b))
  where
    turned : (d r : Bool) → (d && not r) ≡ not (not d || r)
    turned true r = refl
    turned false r = refl

neither : (x y : Bool) → (not x && not y) ≡ not (x || y)
neither true y = refl
neither false y = refl

-- both of them, over the rows of an action
rows_settle : (J : History) (a : ℕ) (h : Blocker → Bool) (done well : ℕ → Bool)
    → ((p : ℕ) → h (awaited.Member p (outstanding_ask J p)) ≡ (stays J p && not (done p)))
    → ((b : ℕ) → h (awaited.Action b) ≡ not (well b))
    → (list_all done (staying J a) && list_all well (children J a)) ≡ not (list_any h (rows_of J a))
unfolding rows_of staying
rows_settle J a h done well e k =
    let f : ℕ → Blocker = λ p. awaited.Member p (outstanding_ask J p) in
    ap (λ x. x && list_all well (children J a)) (none_kept (stays J) done f h e (members_of J a))
    ∙ ap (λ x. not (list_any h (map f (members_of J a))) && x) (none_left well awaited.Action h k (children J a))
    ∙ neither (list_any h (map f (members_of J a))) (list_any h (map awaited.Action (children J a)))
    ∙ ap not (sym (list_any-append h (map f (members_of J a)) (map awaited.Action (children J a))))

pub rows_hold_ends : RowsHoldEnds
rows_hold_ends J a status (inl e) =
    subst (λ (x : ActionStatus). settles (Some x) J a ≡ not (list_any (holds_end x J) (rows_of J a))) (sym e)
    (rows_settle J a (holds_end action.Closing J) (λ p. is_done_completing (member_status J p)) (action_is has_ended J)
    (λ p. refl) (λ b. refl))
rows_hold_ends J a status (inr e) =
    subst (λ (x : ActionStatus). settles (Some x) J a ≡ not (list_any (holds_end x J) (rows_of J a))) (sym e)
    (rows_settle J a (holds_end action.Cancelling J) (λ p. is_done_compensating (member_status J p))
    (action_is has_finished_cancelling J) (λ p. refl) (λ b. refl))
