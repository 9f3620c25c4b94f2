-- What a command writes of its own, where it isn't refused, is allowed.
use Rattle.std.proofs.Common.{◌≡◌, ℕ, ◌<◌, ◌+◌, ◌-◌, ◌^◌, Bool, true, false, length, Option, Some, None, refl, ap, ◌∙◌}
use Rattle.std.proofs.Common.{cond, arith, eqb-true, eq-eqb}
use Rattle.std.proofs.lemmas.Bool.{not-false, leb-true, lt-ltb, or_left, or_right}
use Rattle.std.specs.Prelude.{◌==◌, ◌&&◌, ◌||◌, not, nat_le, option_map}
use Rattle.std.specs.Option.{option_map_or}
use Rattle.lra_model.specs.declared.version.Version.{Version}
use Rattle.lra_model.specs.declared.version.Version.TheVariants as version
use Rattle.lra_model.specs.declared.status.Ending.{Ending}
use Rattle.lra_model.specs.declared.status.Ending.TheVariants as ending
use Rattle.lra_model.specs.declared.asks.AskKind.{AskKind}
use Rattle.lra_model.specs.declared.asks.AskKind.TheVariants as ask
use Rattle.lra_model.specs.declared.asks.Outcome.{Outcome}
use Rattle.lra_model.specs.declared.asks.Cause.TheVariants as cause
use Rattle.lra_model.specs.declared.entry.Deed.{Deed}
use Rattle.lra_model.specs.declared.entry.Deed.TheVariants as deed
use Rattle.lra_model.specs.Addresses.{Addresses}
use Rattle.lra_model.specs.Words.{is_active, same_kind, is_completing, is_compensating, is_decisive, has_gone}
use Rattle.lra_model.specs.Words.{same_direction, outcome_suits}
use Rattle.lra_model.specs.History.{History, actions, members, asks, is_among}
use Rattle.lra_model.specs.Members.{Asked, action_of, has_left, member_status, is_outstanding, ask_of}
use Rattle.lra_model.specs.Facts.{ActionFacts, MemberFacts, action_facts, facts_of}
use Rattle.lra_model.specs.Tests.{status_is, each_parent, is_moment, may_cancel_as_client, may_cancel_by_limit}
use Rattle.lra_model.specs.Tests.{addresses_fit, may_report, limit_has_passed}
use Rattle.lra_model.specs.Rules.{is_action, is_member, is_here, is_number, has_deed}
use Rattle.lra_model.specs.Wants.{wants}
use Rattle.lra_laws.proofs.Tested.{both, and_intro}
use Rattle.lra_laws.proofs.Legal.{Allowed, action_fact, at_action_from, at_member_from}
use Rattle.lra_laws.proofs.Named.{state_is_lem}
use Rattle.lra_laws.proofs.LegalAsks.{outstanding_there}
use Rattle.lra_laws.proofs.Ranges.{action_in_range, member_in_range, ask_in_range}
use Rattle.lra_laws.proofs.Writes.{MayWrite, known_deed, may_write}
use Rattle.lra_laws.proofs.Wanted.{not_gone, wants_may}
use Rattle.std.specs.Result.{is_ok}
use Rattle.lra_ids.specs.Addresses.{address_of, is_address}
use Rattle.lra_commands.specs.declared.command.Command.TheVariants as command
use Rattle.lra_commands.specs.declared.limits.Terms.{Terms}
use Rattle.lra_commands.specs.Errands.{Asking}
use Rattle.lra_commands.specs.Calls.{Command, are_texts}
use Rattle.lra_commands.specs.Due.{late}
use Rattle.lra_commands.specs.Deeds.{stored_addresses, is_decided, outcome_told, is_open, may_be_cancelled}
use Rattle.lra_commands.specs.Refusals.{is_old, is_of, is_asked, is_asked_for, command_grounds}
use Rattle.lra_commands.proofs.KeepsGrounds.{NoneHolds}
use Rattle.lra_commands.proofs.KeepsAddresses.{stored_fit}
use Rattle.lra_commands.proofs.KeepsLate.{IsLate, late_is}

-- the clerk that writes may write: legal, enrolled, and not before the last moment
abbrev pub Writes : Terms → History → ℕ → ℕ → Type 0
Writes s J by m = MayWrite s.version is_address J by m

-- the entry is allowed
abbrev pub IsAllowed : Terms → History → ℕ → ℕ → Deed → Type 0
IsAllowed s J by m d = Allowed s.version is_address J (record { by = by; moment = m; deed = d })

-- no ground of the command holds
abbrev pub Unheld : Terms → History → ℕ → Command → Type 0
Unheld s J m c = NoneHolds (command_grounds s J m c)

-- ---- tests of the history, as tests of its facts

action_there : (J : History) (a : ℕ) → is_among (actions J) a ≡ true → is_action (facts_of J) a ≡ true
action_there J a h = at_action_from (λ (x : ActionFacts). true) J a h refl

member_there : (J : History) (p : ℕ) → is_among (members J) p ≡ true → is_member (facts_of J) p ≡ true
member_there J p h = at_member_from (λ (x : MemberFacts). true) J p h refl

member_here : (J : History) (p : ℕ) → is_among (members J) p ≡ true → has_left J p ≡ false → is_here (facts_of J) p
    ≡ true
member_here J p h g = at_member_from (λ (x : MemberFacts). not (has_gone x.status)) J p h (ap not (not_gone J p g))

open_active : (s : Terms) (J : History) (by m a : ℕ) → Writes s J by m → is_open J a ≡ true
    → status_is is_active (facts_of J) a ≡ true
open_active s J by m a w h = state_is_lem s.version is_address J w.legal is_active a ∙ h

number_fits : (n : ℕ) → n < 2 ^ 64 → is_number n ≡ true
number_fits n h = lt-ltb n (2 ^ 64) h

-- a limit whose end is a moment is a number
limit_fits : (m limit : ℕ) → is_moment (m + limit) ≡ true → is_number limit ≡ true
limit_fits m limit h = let k = leb-true (m + limit) (2 ^ 64 - 1) h in number_fits limit (omega arith)

-- ---- commands on actions

pub start_allowed : (s : Terms) (J : History) (by m : ℕ) (parent : Option ℕ) (limit : ℕ) → Writes s J by m
    → Unheld s J m (command.Start parent limit) → length (actions J) + 1 < 2 ^ 64
    → IsAllowed s J by m (deed.Start (length (actions J) + 1) parent limit)
unfolding facts_of
start_allowed s J by m parent limit w u room =
    may_write s.version is_address J by m d w refl (and_intro (is_number a && option_map_or is_number parent true)
    (is_number limit) (and_intro (is_number a) (option_map_or is_number parent true) (number_fits a room)
    (number parent there)) (limit_fits m limit near))
    (known_deed s.version d refl) (eq-eqb a a refl, (is_there parent there, (active parent opened, (near, tt))))
  where
    a : ℕ
    a = length (actions J) + 1

    d : Deed
    d = deed.Start a parent limit

    there : each_parent (λ b. is_among (actions J) b) parent ≡ true
    there = not-false _ u.0

    opened : each_parent (is_open J) parent ≡ true
    opened = not-false _ u.1.0

    near : is_moment (m + limit) ≡ true
    near = not-false _ u.1.1.0

    number : (o : Option ℕ) → each_parent (λ b. is_among (actions J) b) o ≡ true → option_map_or is_number o true ≡ true
    number None h = refl
    number (Some b) h = action_in_range s.version is_address J w.legal b h

    is_there : (o : Option ℕ) → each_parent (λ b. is_among (actions J) b) o ≡ true
        → each_parent (is_action (facts_of J)) o ≡ true
    is_there None h = refl
    is_there (Some b) h = action_there J b h

    active : (o : Option ℕ) → each_parent (is_open J) o ≡ true → each_parent (status_is is_active (facts_of J)) o ≡ true
    active None h = refl
    active (Some b) h = open_active s J by m b w h

pub close_allowed : (s : Terms) (J : History) (by m a : ℕ) → Writes s J by m → Unheld s J m (command.Close a)
    → is_open J a ≡ true → IsAllowed s J by m (deed.Close a cause.Client)
close_allowed s J by m a w u h =
    let there : is_among (actions J) a ≡ true = not-false _ u.0 in
    let d : Deed = deed.Close a cause.Client in
    may_write s.version is_address J by m d w refl (action_in_range s.version is_address J w.legal a there)
    (known_deed s.version d refl) (action_there J a there, (open_active s J by m a w h, tt))

pub cancel_allowed : (s : Terms) (J : History) (by m a : ℕ) → Writes s J by m → may_be_cancelled s J a ≡ true
    → IsAllowed s J by m (deed.Cancel a cause.Client)
cancel_allowed s J by m a w h =
    let there = (action_fact (may_cancel_as_client s.version (facts_of J)) J a h).0 in
    let d : Deed = deed.Cancel a cause.Client in
    may_write s.version is_address J by m d w refl (action_in_range s.version is_address J w.legal a there)
    (known_deed s.version d refl) (action_there J a there, (h, tt))

pub tick_allowed : (s : Terms) (J : History) (by m a : ℕ) → Writes s J by m → late J m ≡ Some a
    → IsAllowed s J by m (deed.Cancel a cause.Limit)
tick_allowed s J by m a w h =
    may_write s.version is_address J by m d w refl (action_in_range s.version is_address J w.legal a active.0)
    (known_deed s.version d refl) (
      action_there J a active.0,
      (
        at_action_from (may_cancel_by_limit m) J a active.0
            (and_intro (is_active (action_facts J a).status) (limit_has_passed m (action_facts J a)) active.1
            (and_intro (not ((action_facts J a).limit.length_of == 0))
            (nat_le ((action_facts J a).limit.since + (action_facts J a).limit.length_of) m) l.limited l.passed)),
        tt,
      ),
    )
  where
    d : Deed
    d = deed.Cancel a cause.Limit

    l : IsLate J m a
    l = late_is J m a h

    active : (is_among (actions J) a ≡ true) × (is_active (action_facts J a).status ≡ true)
    active = action_fact (λ (x : ActionFacts). is_active x.status) J a (open_active s J by m a w l.active)

pub renew_allowed : (s : Terms) (J : History) (by m a limit : ℕ) → Writes s J by m
    → Unheld s J m (command.Renew a limit) → IsAllowed s J by m (deed.Renew a limit)
renew_allowed s J by m a limit w u =
    let there : is_among (actions J) a ≡ true = not-false _ u.1.0 in
    let near : is_moment (m + limit) ≡ true = not-false _ u.1.1.1.0 in
    may_write s.version is_address J by m (deed.Renew a limit) w refl (and_intro (is_number a) (is_number limit)
    (action_in_range s.version is_address J w.legal a there) (limit_fits m limit near)) (new s.version u.0)
    (action_there J a there, (open_active s J by m a w (not-false _ u.1.1.0), (near, tt)))
  where
    new : (v : Version) → is_old v ≡ false → has_deed v (deed.Renew a limit) ≡ true
    new version.One h = absurd cc
    new version.Two h = refl

-- ---- commands on members

pub join_allowed : (s : Terms) (J : History) (by m a : ℕ) (u : Addresses) → Writes s J by m → is_among (actions J) a
    ≡ true → is_open J a ≡ true → addresses_fit (λ text. is_ok (address_of text)) u ≡ true → are_texts u ≡ true
    → length (members J) + 1 < 2 ^ 64
    → IsAllowed s J by m (deed.Join (length (members J) + 1) a (stored_addresses u))
unfolding facts_of
join_allowed s J by m a u w there opened fit texts room =
    let p : ℕ = length (members J) + 1 in
    let d : Deed = deed.Join p a (stored_addresses u) in
    may_write s.version is_address J by m d w refl (and_intro (is_number p) (is_number a) (number_fits p room)
    (action_in_range s.version is_address J w.legal a there)) (known_deed s.version d refl)
    (eq-eqb p p refl, (action_there J a there, (open_active s J by m a w opened, (stored_fit u texts fit, tt))))

pub leave_allowed : (s : Terms) (J : History) (by m a p : ℕ) → Writes s J by m → Unheld s J m (command.Leave a p)
    → IsAllowed s J by m (deed.Leave p)
leave_allowed s J by m a p w u =
    let there : is_among (members J) p ≡ true = not-false _ u.1.0 in
    let same : action_of J p ≡ a = eqb-true (action_of J p) a (not-false _ u.1.1.0) in
    let opened : is_open J a ≡ true = not-false _ u.1.1.1.1.0 in
    let d : Deed = deed.Leave p in
    may_write s.version is_address J by m d w refl (member_in_range s.version is_address J w.legal p there)
    (known_deed s.version d refl) (
      member_there J p there,
      (
        member_here J p there u.1.1.1.0,
        (
          at_member_from (λ (x : MemberFacts). status_is is_active (facts_of J) x.action) J p there
              (open_active s J by m (action_of J p) w (ap (is_open J) same ∙ opened)),
          tt,
        ),
      ),
    )

pub report_allowed : (s : Terms) (J : History) (by m p : ℕ) (e : Ending) → Writes s J by m
    → Unheld s J m (command.Report p e) → is_decided J p e ≡ false → IsAllowed s J by m (deed.Report p (outcome_told e))
report_allowed s J by m p e w u fresh =
    let there : is_among (members J) p ≡ true = not-false _ u.0 in
    let d : Deed = deed.Report p (outcome_told e) in
    may_write s.version is_address J by m d w refl (member_in_range s.version is_address J w.legal p there)
    (known_deed s.version d refl) (
      member_there J p there,
      (
        member_here J p there u.1.0,
        (
          at_member_from (may_report (outcome_told e)) J p there (and_intro
              (is_completing (member_status J p) || is_compensating (member_status J p)) (is_decisive (outcome_told e))
              (going e (asked (is_decided J p e) (is_asked_for J p e) fresh u.1.1.0)) (decisive e)),
          tt,
        ),
      ),
    )
  where
    asked : (b c : Bool) → b ≡ false → (not b && not c) ≡ false → c ≡ true
    asked false c h g = not-false c g
    asked true c h g = absurd cc

    going : (e : Ending) → is_asked_for J p e ≡ true → (is_completing (member_status J p)
        || is_compensating (member_status J p)) ≡ true
    going ending.Completed h = or_left (is_completing (member_status J p)) (is_compensating (member_status J p)) h
    going ending.FailedToComplete h = or_left (is_completing (member_status J p)) (is_compensating (member_status J p))
        h
    going ending.Compensated h = or_right (is_completing (member_status J p)) (is_compensating (member_status J p)) h
    going ending.FailedToCompensate h = or_right (is_completing (member_status J p))
        (is_compensating (member_status J p)) h

    decisive : (e : Ending) → is_decisive (outcome_told e) ≡ true
    decisive ending.Completed = refl
    decisive ending.FailedToComplete = refl
    decisive ending.Compensated = refl
    decisive ending.FailedToCompensate = refl

-- ---- commands on asks

pub ask_allowed : (s : Terms) (J : History) (by m p : ℕ) (kind : AskKind) → Writes s J by m → wants J p ≡ Some kind
    → length (asks J) + 1 < 2 ^ 64 → IsAllowed s J by m (deed.Ask (length (asks J) + 1) p kind)
unfolding facts_of
ask_allowed s J by m p kind w h room =
    let n : ℕ = length (asks J) + 1 in
    let d : Deed = deed.Ask n p kind in
    let k = wants_may s.version is_address J w.legal p kind h in
    may_write s.version is_address J by m d w refl (and_intro (is_number n) (is_number p) (number_fits n room)
    (member_in_range s.version is_address J w.legal p k.there)) (known_deed s.version d refl)
    (eq-eqb n n refl, (k.is_member, (k.is_here, (k.may, tt))))

-- an outcome that suits an errand's kind suits that of its ask
suits_alike : (x y : AskKind) (o : Outcome) → same_kind x y ≡ true → outcome_suits y o ≡ true → outcome_suits x o ≡ true
suits_alike ask.Complete y o h g = refl
suits_alike ask.Compensate y o h g = refl
suits_alike ask.Status y o h g = refl
suits_alike ask.Forget ask.Forget o h g = g
suits_alike ask.Forget _ o h g = absurd cc
suits_alike ask.After ask.After o h g = g
suits_alike ask.After _ o h g = absurd cc

pub reply_allowed : (s : Terms) (J : History) (by m : ℕ) (e : Asking) (o : Outcome) → Writes s J by m → is_asked J e
    ≡ true → outcome_suits e.kind o ≡ true → IsAllowed s J by m (deed.Reply e.ask o)
unfolding facts_of
reply_allowed s J by m e o w h suits =
    may_write s.version is_address J by m d w refl (ask_in_range s.version is_address J w.legal e.ask
    (outstanding_there J e.ask k.0)) (known_deed s.version d refl)
    (one (is_outstanding J e.ask) k.0 (ask_of J e.ask) k.1, tt)
  where
    d : Deed
    d = deed.Reply e.ask o

    k : (is_outstanding J e.ask ≡ true) × (option_map_or (is_of e) (ask_of J e.ask) false ≡ true)
    k = both (is_outstanding J e.ask) (option_map_or (is_of e) (ask_of J e.ask) false) h

    one : (b : Bool) → b ≡ true → (x : Option Asked) → option_map_or (is_of e) x false ≡ true
        → option_map_or (λ (kind : AskKind). outcome_suits kind o) (cond b (option_map (λ (a : Asked). a.kind) x) None)
        false ≡ true
    one true g None i = absurd cc
    one true g (Some a) i =
        let l = both ((a.member == e.member) && same_kind a.kind e.kind) (same_direction a.direction e.direction) i in
        suits_alike a.kind e.kind o (both (a.member == e.member) (same_kind a.kind e.kind) l.0).1 suits
    one false g x i = absurd cc

pub restart_allowed : (s : Terms) (J : History) (by m : ℕ) → Writes s J by m → IsAllowed s J by m deed.Restart
restart_allowed s J by m w = may_write s.version is_address J by m deed.Restart w refl refl
    (known_deed s.version deed.Restart refl) tt
