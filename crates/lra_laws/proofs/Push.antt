-- What each word of a history is after one more entry.
use Rattle.std.proofs.Common.{◌≡◌, ℕ, Bool, true, false, List, [], ◌∷◌, ◌++◌, Option, Some, None, refl, sym, ap, ◌∙◌}
use Rattle.std.proofs.Common.{append_assoc, cond, map}
use Rattle.std.specs.Prelude.{◌==◌, ◌&&◌, ◌||◌, unwrap_or, option_map, option_to_list}
use Rattle.std.specs.Option.{option_or, option_map_or}
use Rattle.std.specs.List.{filter_map, cons_option, last_or, find, list_any}
use Rattle.std.proofs.Math.Bool.{or-false}
use Rattle.std.proofs.lemmas.List.{append-nil, map-append}
use Rattle.std.proofs.lemmas.List.Elements.{filter_map-append}
use Rattle.std.proofs.lemmas.List.Folds.{find-append, list_any-append}
use Rattle.lra_model.specs.declared.asks.AskKind.{AskKind}
use Rattle.lra_model.specs.declared.asks.Direction.{Direction}
use Rattle.lra_model.specs.declared.asks.Outcome.{Outcome}
use Rattle.lra_model.specs.declared.entry.Entry.{Entry}
use Rattle.lra_model.specs.Addresses.{Addresses}
use Rattle.lra_model.specs.Words.{when, same_kind, same_direction, is_done}
use Rattle.lra_model.specs.History.{History, Step, steps_after, steps, first, last, read_deeds, enrolled_by, started_by}
use Rattle.lra_model.specs.History.{joined_by, asked_by, clerks, actions, members, asks, last_moment}
use Rattle.lra_model.specs.Actions.{parent_given, parent, status_given, action_status, Limit, limit_given}
use Rattle.lra_model.specs.Actions.{limit_in_force, child_given, children, member_given, members_of, is_cancel_of}
use Rattle.lra_model.specs.Actions.{was_cancelled}
use Rattle.lra_model.specs.Members.{action_given, action_of, no_addresses, addresses_given, addresses_of, is_leave_of}
use Rattle.lra_model.specs.Members.{has_left, is_ask_for, was_asked, Asked, asked_at, ask_of, Replied, replied_at}
use Rattle.lra_model.specs.Members.{replies, Heard, heard_at, decides, decided, last_reply, was_answered}
use Rattle.lra_model.specs.Members.{standing_given, is_outstanding, ask_given}

-- ---- lists with one more at the end

-- nothing to fall back on
pub or_none : {X : Type 0} (o : Option X) → option_or o None ≡ o
or_none None = refl
or_none (Some x) = refl

-- one of two, or else a third
pub unwrap_either : {X : Type 0} (o p : Option X) (x : X) → unwrap_or (option_or o p) x ≡ unwrap_or o (unwrap_or p x)
unwrap_either None p x = refl
unwrap_either (Some y) p x = refl

pub last_or_push : {X : Type 0} (o : Option X) (xs : List X) (y : X) → last_or o (xs ++ y ∷ []) ≡ Some y
last_or_push o [] y = refl
last_or_push o (x ∷ xs) y = last_or_push (Some x) xs y

-- what is read of one more
pub read_push : {X Y : Type 0} (h : X → Option Y) (xs : List X) (x : X) → filter_map h (xs ++ x ∷ []) ≡ filter_map h xs
    ++ option_to_list (h x)
read_push {Y = Y} h xs x = filter_map-append h xs (x ∷ []) ∙ ap (λ (ys : List Y). filter_map h xs ++ ys) (one (h x))
  where
    one : (o : Option Y) → cons_option o [] ≡ option_to_list o
    one None = refl
    one (Some y) = refl

-- the last that is read is the new one's, if it gives any
pub last_read_push : {X Y : Type 0} (h : X → Option Y) (xs : List X) (x : X) → last (filter_map h (xs ++ x ∷ []))
    ≡ option_or (h x) (last (filter_map h xs))
last_read_push {Y = Y} h xs x = ap last (read_push h xs x) ∙ at_end (filter_map h xs) (h x)
  where
    at_end : (ys : List Y) (o : Option Y) → last (ys ++ option_to_list o) ≡ option_or o (last ys)
    at_end ys None = ap last (append-nil ys)
    at_end ys (Some y) = last_or_push None ys y

-- the first that is read stays, if there was any
pub first_read_push : {X Y : Type 0} (h : X → Option Y) (xs : List X) (x : X) → first (filter_map h (xs ++ x ∷ []))
    ≡ option_or (first (filter_map h xs)) (h x)
first_read_push {Y = Y} h xs x = ap first (read_push h xs x) ∙ at_end (filter_map h xs) (h x)
  where
    at_end : (ys : List Y) (o : Option Y) → first (ys ++ option_to_list o) ≡ option_or (first ys) o
    at_end [] None = refl
    at_end [] (Some y) = refl
    at_end (z ∷ ys) o = refl

pub any_push : {X : Type 0} (p : X → Bool) (xs : List X) (x : X) → list_any p (xs ++ x ∷ []) ≡ (list_any p xs || p x)
any_push p xs x = list_any-append p xs (x ∷ []) ∙ ap (λ (b : Bool). list_any p xs || b) (or-false (p x))

pub find_push : {X : Type 0} (p : X → Bool) (xs : List X) (x : X) → find p (xs ++ x ∷ [])
    ≡ option_or (find p xs) (when (p x) x)
find_push {X = X} p xs x = find-append p xs (x ∷ []) ∙ ap (λ (o : Option X). option_or (find p xs) o) (one (p x))
  where
    one : (b : Bool) → cond b (Some x) None ≡ when b x
    one true = refl
    one false = refl

-- ---- histories

-- one more step: the new entry, with all that was before it
abbrev pub step : History → Entry → Step
step J e = record { past = J; entry = e }

steps_after_push : (past es : History) (e : Entry) → steps_after past (es ++ e ∷ []) ≡ steps_after past es
    ++ step (past ++ es) e ∷ []
steps_after_push past [] e = ap (λ (J : History). step J e ∷ []) (sym (append-nil past))
steps_after_push past (x ∷ es) e =
    ap (λ (ss : List Step). step past x ∷ ss) (steps_after_push (past ++ x ∷ []) es e
    ∙ ap (λ (J : History). steps_after (past ++ x ∷ []) es ++ step J e ∷ []) (append_assoc past (x ∷ []) es))

pub steps_push : (J : History) (e : Entry) → steps (J ++ e ∷ []) ≡ steps J ++ step J e ∷ []
unfolding steps
steps_push J e = steps_after_push [] J e

pub clerks_push : (J : History) (e : Entry) → clerks (J ++ e ∷ []) ≡ clerks J ++ option_to_list (enrolled_by e)
unfolding clerks
clerks_push J e = read_push enrolled_by J e

pub actions_push : (J : History) (e : Entry) → actions (J ++ e ∷ []) ≡ actions J ++ option_to_list (started_by e.deed)
unfolding actions
actions_push J e = read_push (λ (x : Entry). started_by x.deed) J e

pub members_push : (J : History) (e : Entry) → members (J ++ e ∷ []) ≡ members J ++ option_to_list (joined_by e.deed)
unfolding members
members_push J e = read_push (λ (x : Entry). joined_by x.deed) J e

pub asks_push : (J : History) (e : Entry) → asks (J ++ e ∷ []) ≡ asks J ++ option_to_list (asked_by e.deed)
unfolding asks
asks_push J e = read_push (λ (x : Entry). asked_by x.deed) J e

pub last_moment_push : (J : History) (e : Entry) → last_moment (J ++ e ∷ []) ≡ e.moment
unfolding last_moment
last_moment_push J e = ap (λ (ms : List ℕ). unwrap_or (last ms) 0) (map-append (λ (x : Entry). x.moment) J (e ∷ []))
    ∙ ap (λ (o : Option ℕ). unwrap_or o 0) (last_or_push None (map (λ (x : Entry). x.moment) J) e.moment)

-- ---- actions

pub action_status_push : (J : History) (e : Entry) (a : ℕ) → action_status (J ++ e ∷ []) a
    ≡ option_or (status_given a e.deed) (action_status J a)
unfolding action_status
action_status_push J e a = last_read_push (λ (x : Entry). status_given a x.deed) J e

pub parent_push : (J : History) (e : Entry) (a : ℕ) → parent (J ++ e ∷ []) a
    ≡ unwrap_or (option_or (first (read_deeds (parent_given a) J)) (parent_given a e.deed)) None
unfolding parent
parent_push J e a = ap (λ (o : Option (Option ℕ)). unwrap_or o None) (first_read_push
    (λ (x : Entry). parent_given a x.deed) J e)

pub limit_push : (J : History) (e : Entry) (a : ℕ) → limit_in_force (J ++ e ∷ []) a
    ≡ unwrap_or (limit_given a e) (limit_in_force J a)
unfolding limit_in_force
limit_push J e a = ap (λ (o : Option Limit). unwrap_or o (record { length_of = 0; since = 0 }))
    (last_read_push (limit_given a) J e) ∙ unwrap_either (limit_given a e) (last (filter_map (limit_given a) J))
    (record { length_of = 0; since = 0 })

pub children_push : (J : History) (e : Entry) (a : ℕ) → children (J ++ e ∷ []) a ≡ children J a
    ++ option_to_list (child_given a e.deed)
unfolding children
children_push J e a = read_push (λ (x : Entry). child_given a x.deed) J e

pub members_of_push : (J : History) (e : Entry) (a : ℕ) → members_of (J ++ e ∷ []) a ≡ members_of J a
    ++ option_to_list (member_given a e.deed)
unfolding members_of
members_of_push J e a = read_push (λ (x : Entry). member_given a x.deed) J e

pub was_cancelled_push : (J : History) (e : Entry) (a : ℕ) → was_cancelled (J ++ e ∷ []) a
    ≡ (was_cancelled J a || is_cancel_of a e.deed)
unfolding was_cancelled
was_cancelled_push J e a = any_push (λ (x : Entry). is_cancel_of a x.deed) J e

-- ---- members

pub action_of_push : (J : History) (e : Entry) (p : ℕ) → action_of (J ++ e ∷ []) p
    ≡ unwrap_or (option_or (first (read_deeds (action_given p) J)) (action_given p e.deed)) 0
unfolding action_of
action_of_push J e p = ap (λ (o : Option ℕ). unwrap_or o 0) (first_read_push (λ (x : Entry). action_given p x.deed) J e)

pub addresses_of_push : (J : History) (e : Entry) (p : ℕ) → addresses_of (J ++ e ∷ []) p
    ≡ unwrap_or (option_or (first (read_deeds (addresses_given p) J)) (addresses_given p e.deed)) no_addresses
unfolding addresses_of
addresses_of_push J e p = ap (λ (o : Option Addresses). unwrap_or o no_addresses)
    (first_read_push (λ (x : Entry). addresses_given p x.deed) J e)

pub has_left_push : (J : History) (e : Entry) (p : ℕ) → has_left (J ++ e ∷ []) p
    ≡ (has_left J p || is_leave_of p e.deed)
unfolding has_left
has_left_push J e p = any_push (λ (x : Entry). is_leave_of p x.deed) J e

pub was_asked_push : (J : History) (e : Entry) (p : ℕ) (kind : AskKind) → was_asked (J ++ e ∷ []) p kind
    ≡ (was_asked J p kind || is_ask_for p kind e.deed)
unfolding was_asked
was_asked_push J e p kind = any_push (λ (x : Entry). is_ask_for p kind x.deed) J e

pub ask_of_push : (J : History) (e : Entry) (n : ℕ) → ask_of (J ++ e ∷ []) n
    ≡ option_or (ask_of J n) (option_map_or (λ (a : Asked). when (a.number == n) a) (asked_at (step J e)) None)
unfolding ask_of
ask_of_push J e n =
    ap (λ (ss : List Step). find (λ (a : Asked). a.number == n) (filter_map asked_at ss)) (steps_push J e)
    ∙ ap (find (λ (a : Asked). a.number == n)) (read_push asked_at (steps J) (step J e))
    ∙ at_end (filter_map asked_at (steps J)) (asked_at (step J e))
  where
    at_end : (xs : List Asked) (o : Option Asked) → find (λ (a : Asked). a.number == n) (xs ++ option_to_list o)
        ≡ option_or (find (λ (a : Asked). a.number == n) xs) (option_map_or (λ (a : Asked). when (a.number == n) a) o
        None)
    at_end xs None = ap (find (λ (a : Asked). a.number == n)) (append-nil xs)
        ∙ sym (or_none (find (λ (a : Asked). a.number == n) xs))
    at_end xs (Some x) = find_push (λ (a : Asked). a.number == n) xs x

pub replies_push : (J : History) (e : Entry) → replies (J ++ e ∷ []) ≡ replies J
    ++ option_to_list (replied_at (step J e))
unfolding replies
replies_push J e = ap (filter_map replied_at) (steps_push J e) ∙ read_push replied_at (steps J) (step J e)

-- the first decisive word stays
pub decided_push : (J : History) (e : Entry) (p : ℕ) (d : Direction) → decided (J ++ e ∷ []) p d
    ≡ option_or (decided J p d) (option_map_or (λ (h : Heard). when (decides p d h) h.outcome) (heard_at (step J e))
    None)
unfolding decided
decided_push J e p d =
    ap (λ (ss : List Step). option_map (λ (h : Heard). h.outcome) (find (decides p d) (filter_map heard_at ss)))
    (steps_push J e)
    ∙ ap (λ (hs : List Heard). option_map (λ (h : Heard). h.outcome) (find (decides p d) hs))
    (read_push heard_at (steps J) (step J e))
    ∙ at_end (filter_map heard_at (steps J)) (heard_at (step J e))
  where
    mapped : (o : Option Heard) (b : Bool) (x : Heard) → option_map (λ (h : Heard). h.outcome) (option_or o (when b x))
        ≡ option_or (option_map (λ (h : Heard). h.outcome) o) (when b x.outcome)
    mapped (Some y) b x = refl
    mapped None true x = refl
    mapped None false x = refl

    at_end : (hs : List Heard) (o : Option Heard) → option_map (λ (h : Heard). h.outcome)
        (find (decides p d) (hs ++ option_to_list o)) ≡ option_or (option_map (λ (h : Heard). h.outcome)
        (find (decides p d) hs)) (option_map_or (λ (h : Heard). when (decides p d h) h.outcome) o None)
    at_end hs None = ap (λ (ys : List Heard). option_map (λ (h : Heard). h.outcome) (find (decides p d) ys))
        (append-nil hs) ∙ sym (or_none (option_map (λ (h : Heard). h.outcome) (find (decides p d) hs)))
    at_end hs (Some x) = ap (option_map (λ (h : Heard). h.outcome)) (find_push (decides p d) hs x)
        ∙ mapped (find (decides p d) hs) (decides p d x) x

-- the last reply of a direction is the new one, if it is of it
pub last_reply_push : (J : History) (e : Entry) (p : ℕ) (d : Direction)
    → last_reply (J ++ e ∷ []) p d
    ≡ option_or (option_map_or (λ (r : Replied). when ((r.to.member == p) && same_direction r.to.direction d)
    r.outcome) (replied_at (step J e)) None) (last_reply J p d)
unfolding last_reply
last_reply_push J e p d = ap (λ (rs : List Replied). last (filter_map reads rs)) (replies_push J e)
    ∙ at_end (replies J) (replied_at (step J e))
  where
    reads : Replied → Option Outcome
    reads r = when ((r.to.member == p) && same_direction r.to.direction d) r.outcome

    at_end : (rs : List Replied) (o : Option Replied) → last (filter_map reads (rs ++ option_to_list o))
        ≡ option_or (option_map_or reads o None) (last (filter_map reads rs))
    at_end rs None = ap (λ (xs : List Replied). last (filter_map reads xs)) (append-nil rs)
    at_end rs (Some r) = last_read_push reads rs r

pub was_answered_push : (J : History) (e : Entry) (p : ℕ) (kind : AskKind)
    → was_answered (J ++ e ∷ []) p kind ≡ (was_answered J p kind || option_map_or
    (λ (r : Replied). (r.to.member == p) && same_kind r.to.kind kind && is_done r.outcome) (replied_at (step J e))
    false)
unfolding was_answered
was_answered_push J e p kind = ap (list_any test) (replies_push J e) ∙ at_end (replies J) (replied_at (step J e))
  where
    test : Replied → Bool
    test r = (r.to.member == p) && same_kind r.to.kind kind && is_done r.outcome

    at_end : (rs : List Replied) (o : Option Replied) → list_any test (rs ++ option_to_list o)
        ≡ (list_any test rs || option_map_or test o false)
    at_end rs None = ap (list_any test) (append-nil rs) ∙ sym (or-false (list_any test rs))
    at_end rs (Some r) = any_push test rs r

pub is_outstanding_push : (J : History) (e : Entry) (n : ℕ) → is_outstanding (J ++ e ∷ []) n
    ≡ unwrap_or (standing_given n e.deed) (is_outstanding J n)
unfolding is_outstanding
is_outstanding_push J e n = ap (λ (o : Option Bool). unwrap_or o false)
    (last_read_push (λ (x : Entry). standing_given n x.deed) J e) ∙ unwrap_either (standing_given n e.deed)
    (last (read_deeds (standing_given n) J)) false

-- the asks of a member
pub asks_to_push : (J : History) (e : Entry) (p : ℕ) → read_deeds (ask_given p) (J ++ e ∷ [])
    ≡ read_deeds (ask_given p) J ++ option_to_list (ask_given p e.deed)
asks_to_push J e p = read_push (λ (x : Entry). ask_given p x.deed) J e
