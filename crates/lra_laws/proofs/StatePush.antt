-- The forward state after one more entry.
use Rattle.std.proofs.Common.{◌≡◌, ℕ, ◌+◌, Bool, true, false, List, [], ◌∷◌, ◌++◌, length, map, Option, Some, None}
use Rattle.std.proofs.Common.{refl, sym, ap, ◌∙◌, append-nil, length-append}
use Rattle.std.specs.Prelude.{◌==◌, unwrap_or, option_to_list}
use Rattle.std.specs.Option.{option_map_or}
use Rattle.lra_model.specs.declared.status.ActionStatus.{ActionStatus}
use Rattle.lra_model.specs.declared.status.ActionStatus.TheVariants as action
use Rattle.lra_model.specs.declared.status.MemberStatus.TheVariants as member
use Rattle.lra_model.specs.declared.asks.Outcome.{Outcome}
use Rattle.lra_model.specs.declared.entry.Deed.{Deed}
use Rattle.lra_model.specs.declared.entry.Deed.TheVariants.{Enrol, Start, Join, Leave, Close, Cancel, Skip, Ask, Reply}
use Rattle.lra_model.specs.declared.entry.Deed.TheVariants.{Report, End, Restart, Renew}
use Rattle.lra_model.specs.declared.version.Version.{Version}
use Rattle.lra_model.specs.History.{History, enrolled_by, clerks, asks, asked_by, actions, started_by, members}
use Rattle.lra_model.specs.History.{joined_by, is_among, last_moment}
use Rattle.lra_model.specs.Actions.{parent, status_given, action_status, limit_given}
use Rattle.lra_model.specs.Members.{Asked, action_of}
use Rattle.lra_model.specs.Rules.{is_legal}
use Rattle.lra_laws.proofs.Push.{step, last_moment_push, clerks_push, asks_push}
use Rattle.lra_laws.proofs.Legal.{Allowed, actions_numbered, members_numbered}
use Rattle.lra_laws.specs.Rows.{Standing, MemberRow, ActionRow, State, standing, with_reply_to, void_at, void_asks}
use Rattle.lra_laws.specs.Rows.{member_row, action_row, state_of, with_member, with_child, change_row, row_at}
use Rattle.lra_laws.specs.Rows.{change_member, change_status, with_ask, with_reply, with_report, with_skip, after_deed}
use Rattle.lra_laws.proofs.RowLists.{eqb_self, row_there}
use Rattle.lra_laws.proofs.Told.{entry, more, ReplyTold, Told, told}
use Rattle.lra_laws.proofs.MemberWords.{concerns, void_push}
use Rattle.lra_laws.proofs.MemberDeeds.{leave_row, skip_row, ask_row, reply_row, report_row}
use Rattle.lra_laws.proofs.AskWords.{AsksListed, AsksStand, asks_listed, asks_stand, void_kept, asks_kept, stands_for}
use Rattle.lra_laws.proofs.MemberRows.{rows_still, rows_of_one, rows_joined, replied_stands, stands_alone, place_is}
use Rattle.lra_laws.proofs.ActionRows.{actions_still, actions_renewed, actions_of_one, actions_joined, Turns}
use Rattle.lra_laws.proofs.ActionRows.{actions_turned}
use Rattle.lra_laws.proofs.StartRows.{actions_started}

-- the state at a moment
abbrev at_moment : ℕ → State → State
at_moment m s = record s { moment = m }

-- a state, by its parts
status_is : (J : History) (by m : ℕ) (d : Deed) (s : State) → m ≡ s.moment → length (clerks (more J by m d)) ≡ s.clerks
    → length (asks (more J by m d)) ≡ s.asks → void_asks (more J by m d) ≡ s.void
    → map (action_row (more J by m d)) (actions (more J by m d)) ≡ s.actions
    → map (member_row (more J by m d)) (members (more J by m d)) ≡ s.members → state_of (more J by m d) ≡ s
status_is J by m d s t c a o x y = λ i. record {
  moment = moment i;
  clerks = c i;
  asks = a i;
  void = o i;
  actions = x i;
  members = y i;
}
  where
    moment : last_moment (more J by m d) ≡ s.moment
    moment = last_moment_push J (entry by m d) ∙ t

clerks_kept : (J : History) (by m : ℕ) (d : Deed) → enrolled_by (entry by m d) ≡ None → length (clerks (more J by m d))
    ≡ length (clerks J)
clerks_kept J by m d h = ap length (clerks_push J (entry by m d) ∙ ap (λ (o : Option ℕ). clerks J ++ option_to_list o) h
    ∙ append-nil (clerks J))

-- ---- one member

-- the state where a member's row changes
one_changes : (J : History) (p : ℕ) (f : MemberRow → MemberRow) (s : State) → row_at s.members p ≡ Some (member_row J p)
    → change_member f p s ≡ record s {
      members = change_row f p s.members;
      actions =
          change_row (with_member (member_row J p) (f (member_row J p))) (action_of J p) s.actions;
    }
one_changes J p f s h =
    ap (λ (o : Option MemberRow). option_map_or (λ (r : MemberRow). record s
    { members = change_row f p s.members; actions = change_row (with_member r (f r)) r.action s.actions }) o s) h

-- an entry that concerns one member, and makes a number of asks
one_member : (v : Version) (t : List ℕ → Bool) (J : History) (by m : ℕ) (d : Deed) (p : ℕ) (f : MemberRow → MemberRow)
    (n : ℕ) → is_legal v t J ≡ true → Allowed v t J (entry by m d) → joined_by d ≡ None → started_by d ≡ None
    → is_among (members J) p ≡ true → ((q : ℕ) → (p == q) ≡ false → concerns J d q ≡ false)
    → ((a : ℕ) → status_given a d ≡ None) → ((a : ℕ) → limit_given a (entry by m d) ≡ None)
    → enrolled_by (entry by m d) ≡ None → void_at (step J (entry by m d)) ≡ None
    → length (asks (more J by m d)) ≡ n → member_row (more J by m d) p ≡ f (member_row J p)
    → (f (member_row J p)).action ≡ (member_row J p).action
    → state_of (more J by m d) ≡ change_member f p (record (at_moment m (state_of J)) { asks = n })
one_member v t J by m d p f n l k no_join no_start there quiet no_turn no_limit no_clerk no_void asked here same =
    status_is J by m d (record (at_moment m (state_of J)) {
      asks = n;
      members =
          change_row f p (map (member_row J) (members J));
      actions = change_row
          (with_member (member_row J p) (f (member_row J p))) (action_of J p) (map (action_row J) (actions J));
    })
    refl (clerks_kept J by m d no_clerk) asked (void_kept J by m d no_void)
    (actions_of_one v t J by m d p f l k no_join no_start there quiet no_turn no_limit here same)
    (rows_of_one J by m d p f (members_numbered v t J l) no_join there quiet here)
    ∙ sym (one_changes J p f (record (at_moment m (state_of J)) { asks = n })
    (row_there (member_row J) (members J) p (members_numbered v t J l) there))

-- ---- one action

turned : (v : Version) (t : List ℕ → Bool) (J : History) (by m : ℕ) (d : Deed) (c : ℕ) (now : ActionStatus)
    → is_legal v t J ≡ true → Allowed v t J (entry by m d) → Turns J by m d c now
    → enrolled_by (entry by m d) ≡ None → asked_by d ≡ None → void_at (step J (entry by m d)) ≡ None
    → state_of (more J by m d) ≡ change_status now c (at_moment m (state_of J))
turned v t J by m d c now l k x no_clerk no_ask no_void =
    status_is J by m d (record (at_moment m (state_of J)) {
      actions = option_map_or
          (λ b. change_row (with_child (unwrap_or (action_status J c) action.Active) now) b turned_rows) (parent J c)
          turned_rows;
    })
    refl (clerks_kept J by m d no_clerk) (asks_kept J by m d no_ask) (void_kept J by m d no_void)
    (actions_turned v t J by m d c now l k x)
    (rows_still J by m d x.no_join x.quiet)
    ∙ sym (ap (λ (o : Option ActionRow). option_map_or (λ (r : ActionRow). record (at_moment m (state_of J))
    { actions = option_map_or (λ b. change_row (with_child r.status now) b turned_rows) r.parent turned_rows }) o
    (at_moment m (state_of J)))
    (row_there (action_row J) (actions J) c (actions_numbered v t J l) x.there))
  where
    turned_rows : List ActionRow
    turned_rows = change_row (λ (r : ActionRow). record r { status = now }) c (map (action_row J) (actions J))

-- ---- each deed

-- a reply changes the row of the one that was asked
pub reply_at : (v : Version) (t : List ℕ → Bool) (J : History) (by m n : ℕ) (o : Outcome) (x : Asked) → is_legal v t J
    ≡ true → Allowed v t J (entry by m (Reply n o)) → ReplyTold J n x → AsksListed J → AsksStand J
    → state_of (more J by m (Reply n o)) ≡ change_member (with_reply o) x.member (at_moment m (state_of J))
reply_at v t J by m n o x l k told list stand =
    one_member v t J by m (Reply n o) x.member (with_reply o) (length (asks J)) l k refl refl
    (list.there n x told.asked)
    (λ q h. ap (λ (a : Option Asked). option_map_or (λ (y : Asked). y.member == q) a false) told.asked ∙ h)
    (λ a. refl) (λ a. refl) refl refl (asks_kept J by m (Reply n o) refl)
    (reply_row J by m n o x told.asked (list.went n x told.asked) (replied_stands J n x told stand)) same
  where
    of_row : (s : Option Standing) (r : MemberRow) → (option_map_or (λ (y : Standing). with_reply_to y o r) s r).action
        ≡ r.action
    of_row None r = refl
    of_row (Some y) r = refl

    same : (with_reply o (member_row J x.member)).action ≡ (member_row J x.member).action
    same = of_row (standing J x.member) (member_row J x.member)

replied : (v : Version) (t : List ℕ → Bool) (J : History) (by m n : ℕ) (o : Outcome) (x : Asked) → is_legal v t J ≡ true
    → Allowed v t J (entry by m (Reply n o)) → ReplyTold J n x → AsksListed J → AsksStand J
    → state_of (more J by m (Reply n o)) ≡ after_deed m (Reply n o) (at_moment m (state_of J))
replied v t J by m n o x l k told list stand =
    reply_at v t J by m n o x l k told list stand
    ∙ ap (λ (p : ℕ). change_member (with_reply o) p (at_moment m (state_of J)))
    (sym (place_is n (member_row J) (members J) x.member (members_numbered v t J l) (list.there n x told.asked)
    (ap (λ (s : Option Standing). stands_for s n) (replied_stands J n x told stand) ∙ eqb_self n)
    (stands_alone J n x told stand)))

pub push_by_deed : (v : Version) (t : List ℕ → Bool) (J : History) (by m : ℕ) (d : Deed) → is_legal v t J ≡ true
    → Allowed v t J (entry by m d) → Told J by d → state_of (more J by m d) ≡ after_deed m d (at_moment m (state_of J))
push_by_deed v t J by m Enrol l k x =
    status_is J by m Enrol (record (at_moment m (state_of J)) { clerks = length (clerks J) + 1 })
    refl (ap length (clerks_push J (entry by m Enrol)) ∙ length-append (clerks J) (by ∷ []))
    (asks_kept J by m Enrol refl) (void_kept J by m Enrol refl)
    (actions_still v t J by m Enrol l k refl refl (λ p. refl) (λ a. refl) (λ a. refl))
    (rows_still J by m Enrol refl (λ p. refl))
push_by_deed v t J by m (Start c above limit) l k x =
    status_is J by m (Start c above limit) (after_deed m (Start c above limit) (at_moment m (state_of J)))
    refl (clerks_kept J by m (Start c above limit) refl) (asks_kept J by m (Start c above limit) refl)
    (void_kept J by m (Start c above limit) refl)
    (actions_started v t J by m c above limit l k x) (rows_still J by m (Start c above limit) refl (λ p. refl))
push_by_deed v t J by m (Join p a u) l k x =
    status_is J by m (Join p a u) (after_deed m (Join p a u) (at_moment m (state_of J)))
    refl (clerks_kept J by m (Join p a u) refl) (asks_kept J by m (Join p a u) refl)
    (void_kept J by m (Join p a u) refl)
    (actions_joined v t J by m p a u l k x.number x.there) (rows_joined v t J by m p a u l x.number)
push_by_deed v t J by m (Leave p) l k x =
    one_member v t J by m (Leave p) p (λ (r : MemberRow). record r { status = member.Left }) (length (asks J)) l k refl
    refl x (λ q h. h) (λ a. refl) (λ a. refl) refl refl (asks_kept J by m (Leave p) refl) (leave_row J by m p) refl
push_by_deed v t J by m (Close c cause) l k x =
    turned v t J by m (Close c cause) c action.Closing l k
    (record {
      no_join = refl;
      no_start = refl;
      quiet = λ p. refl;
      turn = λ a. refl;
      no_limit = λ a. refl;
      there =
          x;
    }) refl refl refl
push_by_deed v t J by m (Cancel c cause) l k x =
    turned v t J by m (Cancel c cause) c action.Cancelling l k (record
    { no_join = refl; no_start = refl; quiet = λ p. refl; turn = λ a. refl; no_limit = λ a. refl; there = x }) refl
    refl refl
push_by_deed v t J by m (Skip p) l k x =
    one_member v t J by m (Skip p) p with_skip (length (asks J)) l k refl refl x.there (λ q h. h) (λ a. refl)
    (λ a. refl) refl refl (asks_kept J by m (Skip p) refl) (skip_row J by m p x.untouched) refl
push_by_deed v t J by m (Ask n p kind) l k x =
    one_member v t J by m (Ask n p kind) p (with_ask n kind) (length (asks J) + 1) l k refl refl x.there (λ q h. h)
    (λ a. refl) (λ a. refl) refl refl
    (ap length (asks_push J (entry by m (Ask n p kind))) ∙ length-append (asks J) (n ∷ []))
    (ask_row J by m n p kind x.fits) refl
push_by_deed v t J by m (Reply n o) l k x = replied v t J by m n o x.0 l k x.1 (asks_listed v t J l)
    (asks_stand v t J l)
push_by_deed v t J by m (Report p o) l k x =
    one_member v t J by m (Report p o) p (with_report o) (length (asks J)) l k refl refl x.there (λ q h. h) (λ a. refl)
    (λ a. refl) refl refl (asks_kept J by m (Report p o) refl) (report_row J by m p o x.goes_on) refl
push_by_deed v t J by m (End c s) l k x =
    turned v t J by m (End c s) c s l k
    (record {
      no_join = refl;
      no_start = refl;
      quiet = λ p. refl;
      turn = λ a. refl;
      no_limit = λ a. refl;
      there =
          x;
    }) refl refl refl
push_by_deed v t J by m Restart l k x =
    status_is J by m Restart (after_deed m Restart (at_moment m (state_of J)))
    refl (clerks_kept J by m Restart refl) (asks_kept J by m Restart refl) (void_push J (entry by m Restart))
    (actions_still v t J by m Restart l k refl refl (λ p. refl) (λ a. refl) (λ a. refl))
    (rows_still J by m Restart refl (λ p. refl))
push_by_deed v t J by m (Renew a limit) l k x =
    status_is J by m (Renew a limit) (after_deed m (Renew a limit) (at_moment m (state_of J)))
    refl (clerks_kept J by m (Renew a limit) refl) (asks_kept J by m (Renew a limit) refl)
    (void_kept J by m (Renew a limit) refl)
    (actions_renewed v t J by m a limit l k x) (rows_still J by m (Renew a limit) refl (λ p. refl))
