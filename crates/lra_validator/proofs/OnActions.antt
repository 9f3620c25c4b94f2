-- What is decided on commands on actions.
use Rattle.std.proofs.Common.{◌≡◌, ℕ, ◌+◌, ◌<◌, ◌^◌, Bool, true, false, ◌++◌, Option, Some, None, Ok, Err, refl, sym}
use Rattle.std.proofs.Common.{ap, ◌∙◌, max, cond}
use Rattle.std.proofs.Math.Bool.{and-false}
use Rattle.std.specs.Prelude.{◌&&◌, ◌||◌, not, option_map}
use Rattle.std.specs.Option.{option_map_or}
use Rattle.lra_model.specs.declared.version.Version.{Version}
use Rattle.lra_model.specs.declared.version.Version.TheVariants as version
use Rattle.lra_model.specs.declared.status.ActionStatus.{ActionStatus}
use Rattle.lra_model.specs.declared.status.ActionStatus.TheVariants as action
use Rattle.lra_model.specs.declared.asks.Cause.TheVariants as cause
use Rattle.lra_model.specs.declared.entry.Deed.{Deed}
use Rattle.lra_model.specs.declared.entry.Deed.TheVariants as deed
use Rattle.lra_model.specs.Words.{when, is_active, is_closed}
use Rattle.lra_model.specs.History.{History, clerks, actions, is_among, last_moment}
use Rattle.lra_model.specs.Actions.{parent}
use Rattle.lra_model.specs.Facts.{ActionFacts, action_facts, facts_of}
use Rattle.lra_model.specs.Tests.{at_action, is_moment, status_is, may_cancel_as_client}
use Rattle.lra_rows.specs.declared.found.ActionRow.{ActionRow}
use Rattle.lra_commands.specs.declared.command.Command.TheVariants as command
use Rattle.lra_commands.specs.declared.command.Told.TheVariants as told
use Rattle.lra_commands.specs.declared.limits.Terms.{Terms}
use Rattle.lra_commands.specs.declared.refusal.Refusal.TheVariants as refusal
use Rattle.lra_commands.specs.Calls.{Call}
use Rattle.lra_commands.specs.Due.{late}
use Rattle.lra_commands.specs.Deeds.{is_open, may_be_cancelled}
use Rattle.lra_commands.specs.Blocks.{block}
use Rattle.lra_commands.specs.Refusals.{status_at, is_old, is_past_closing, is_past_cancelling, is_stranger}
use Rattle.lra_commands.specs.Runs.{IsLawful}
use Rattle.lra_commands.proofs.KeepsOwn.{Unheld, close_allowed, cancel_allowed, tick_allowed, renew_allowed}
use Rattle.lra_validator.specs.declared.decision.Decision.TheVariants as decision
use Rattle.lra_validator.specs.Decisions.{IsDecided}
use Rattle.lra_validator.specs.inner.Judged as judged
use Rattle.lra_validator.specs.inner.Judged.{◌>>=◌}
use Rattle.lra_validator.proofs.Counts.{adds_none}
use Rattle.lra_validator.proofs.Grounds.{first_decides, only_told, written_own, few_of_same}
use Rattle.lra_validator.proofs.Passing.{call, row_of, past_clerk, past_action, past_open, past_required, free_from}
use Rattle.lra_validator.proofs.Passing.{may}
use Rattle.lra_validator.proofs.Passing.{opened}

-- ---- Close

pub close_decides : (s : Terms) (J : History) (by h a : ℕ) → IsLawful s J → h < 2 ^ 64
    → IsDecided s J (call by h (command.Close a)) (judged.close J by (max h (last_moment J)) a)
close_decides s J by h a k f =
    past_clerk s J c _ refl (λ here known.
    past_action s J c a (λ r. judged.close_at by m a r.status) (λ gone. first_decides s J c 0 refusal.NoSuchAction known
    (ap not gone, refl)) (λ there. at_status here known there (status_at J a) refl))
  where
    c : Call
    c = call by h (command.Close a)

    m : ℕ
    m = max h (last_moment J)

    d : Deed
    d = deed.Close a cause.Client

    shut : is_stranger J by c.command ≡ false → is_among (actions J) a ≡ true → (x : ActionStatus) → status_at J a ≡ x
        → is_past_closing x ≡ true → IsDecided s J c (Err (refusal.NotActive x))
    shut known there x g past = first_decides s J c 1 (refusal.NotActive x) known
        (ap not there, (ap is_past_closing g ∙ past, ap refusal.NotActive g))

    again : is_stranger J by c.command ≡ false → is_among (actions J) a ≡ true → (x : ActionStatus) → status_at J a ≡ x
        → is_past_closing x ≡ false → is_active x ≡ false → IsDecided s J c (judged.told_so (told.Already x))
    again known there x g past inactive =
        let closed : is_open J a ≡ false = opened s J a k there ∙ ap is_active g ∙ inactive in
        only_told s J c (told.Already x) (free_from s J c known (ap not there, (ap is_past_closing g ∙ past, tt)))
        (ap (λ (b : Bool). when b d) closed)
        (ap (λ (b : Bool). cond b (told.Now (status_at (J ++ block s J c) a)) (told.Already (status_at J a))) closed
        ∙ ap told.Already g)

    at_status : is_among (clerks J) by ≡ true → is_stranger J by c.command ≡ false → is_among (actions J) a ≡ true
        → (x : ActionStatus) → status_at J a ≡ x → IsDecided s J c (judged.close_at by m a x)
    at_status here known there action.Active g =
        let active : is_open J a ≡ true = opened s J a k there ∙ ap is_active g in
        let u : Unheld s J m c.command = (ap not there, (ap is_past_closing g, tt)) in
        written_own s J c d (record { free = free_from s J c known u; own = ap (λ (b : Bool). when b d) active })
        (close_allowed s J by m a (may s J by h k f here) u active)
        (few_of_same s.limits J _ k.within (adds_none _ refl refl refl))
    at_status here known there action.Closing g = again known there action.Closing g refl refl
    at_status here known there action.Closed g = again known there action.Closed g refl refl
    at_status here known there action.FailedToClose g = again known there action.FailedToClose g refl refl
    at_status here known there action.Cancelling g = shut known there action.Cancelling g refl
    at_status here known there action.Cancelled g = shut known there action.Cancelled g refl
    at_status here known there action.FailedToCancel g = shut known there action.FailedToCancel g refl

-- ---- Cancel

-- whether the action above is Active, by the facts
above_open : (J : History) (o : Option ℕ) → option_map_or (status_is is_active (facts_of J)) o false
    ≡ judged.is_open_above J o
unfolding facts_of
above_open J None = refl
above_open J (Some b) = one (is_among (actions J) b)
  where
    one : (x : Bool) → option_map_or (λ (y : ActionFacts). is_active y.status) (cond x (Some (action_facts J b)) None)
        false ≡ option_map_or (λ (r : ActionRow). is_active r.status) (cond x (Some (row_of J b)) None) false
    one true = refl
    one false = refl

-- whether a client may cancel an action that is there
cancellable : (v : Version) (J : History) (a : ℕ) → is_among (actions J) a ≡ true
    → at_action (may_cancel_as_client v (facts_of J)) (facts_of J) a ≡ (is_active (status_at J a)
    || (is_closed (status_at J a) && (judged.takes_back v && judged.is_open_above J (parent J a))))
unfolding facts_of
cancellable v J a there =
    ap (λ (b : Bool). option_map_or (may_cancel_as_client v (facts_of J)) (cond b (Some (action_facts J a)) None) false)
    there ∙ one v
  where
    one : (w : Version) → may_cancel_as_client w (facts_of J) (action_facts J a)
        ≡ (is_active (status_at J a)
        || (is_closed (status_at J a) && (judged.takes_back w && judged.is_open_above J (parent J a))))
    one version.One = ap (λ (b : Bool). is_active (status_at J a) || b) (sym (and-false (is_closed (status_at J a))))
    one version.Two = ap (λ (b : Bool). is_active (status_at J a) || (is_closed (status_at J a) && b))
        (above_open J (parent J a))

pub cancel_decides : (s : Terms) (J : History) (by h a : ℕ) → IsLawful s J → h < 2 ^ 64
    → IsDecided s J (call by h (command.Cancel a)) (judged.cancel s.version J by (max h (last_moment J)) a)
cancel_decides s J by h a k f =
    past_clerk s J c _ refl (λ here known.
    past_action s J c a (λ r. judged.cancel_at by m a r.status (judged.takes_back s.version
    && judged.is_open_above J r.parent)) (λ gone. first_decides s J c 0 refusal.NoSuchAction known
    (ap not gone, refl))
    (λ there. at_status here known there (judged.takes_back s.version && judged.is_open_above J (parent J a))
    (cancellable s.version J a there) (status_at J a) refl))
  where
    c : Call
    c = call by h (command.Cancel a)

    m : ℕ
    m = max h (last_moment J)

    d : Deed
    d = deed.Cancel a cause.Client

    -- whether the client may, by the status
    by_status : Bool → ActionStatus → Bool
    by_status back x = is_active x || (is_closed x && back)

    shut : is_stranger J by c.command ≡ false → is_among (actions J) a ≡ true → (x : ActionStatus) → status_at J a ≡ x
        → is_past_cancelling x ≡ true → may_be_cancelled s J a ≡ false → IsDecided s J c (Err (refusal.NotActive x))
    shut known there x g past not_so =
        first_decides s J c 1 (refusal.NotActive x) known (
          ap not there,
          (
            ap (λ (b : Bool). is_past_cancelling (status_at J a) && not b) not_so
                ∙ ap (λ (y : ActionStatus). is_past_cancelling y && true) g
                ∙ ap (λ (b : Bool). b && true) past,
            ap refusal.NotActive g,
          ),
        )

    again : is_stranger J by c.command ≡ false → is_among (actions J) a ≡ true → (x : ActionStatus) → status_at J a ≡ x
        → is_past_cancelling x ≡ false → may_be_cancelled s J a ≡ false
        → IsDecided s J c (judged.told_so (told.Already x))
    again known there x g past not_so =
        only_told s J c (told.Already x)
        (free_from s J c known (
          ap not there,
          (
            ap (λ (y : ActionStatus). is_past_cancelling y && not (may_be_cancelled s J a)) g
                ∙ ap (λ (b : Bool). b && not (may_be_cancelled s J a)) past,
            tt,
          ),
        ))
        (ap (λ (b : Bool). when b d) not_so)
        (ap (λ (b : Bool). cond b (told.Now (status_at (J ++ block s J c) a)) (told.Already (status_at J a))) not_so
        ∙ ap told.Already g)

    taken : is_among (clerks J) by ≡ true → is_stranger J by c.command ≡ false → is_among (actions J) a ≡ true
        → may_be_cancelled s J a ≡ true → IsDecided s J c (Ok (judged.written by m d))
    taken here known there so =
        let past : (is_past_cancelling (status_at J a) && not (may_be_cancelled s J a))
        ≡ false = ap (λ (b : Bool). is_past_cancelling (status_at J a) && not b) so
        ∙ and-false (is_past_cancelling (status_at J a)) in
        written_own s J c d (record {
          free = free_from s J c known (ap not there, (past, tt));
          own =
              ap (λ (b : Bool). when b d) so;
        }) (cancel_allowed s J by m a (may s J by h k f here) so)
        (few_of_same s.limits J _ k.within (adds_none _ refl refl refl))

    at_status : is_among (clerks J) by ≡ true → is_stranger J by c.command ≡ false → is_among (actions J) a ≡ true
        → (back : Bool) → may_be_cancelled s J a ≡ by_status back (status_at J a) → (x : ActionStatus) → status_at J a
        ≡ x
        → IsDecided s J c (judged.cancel_at by m a x back)
    at_status here known there back so action.Active g = taken here known there (so ∙ ap (by_status back) g)
    at_status here known there true so action.Closed g = taken here known there (so ∙ ap (by_status true) g)
    at_status here known there false so action.Closed g = shut known there action.Closed g refl
        (so ∙ ap (by_status false) g)
    at_status here known there back so action.Closing g = shut known there action.Closing g refl
        (so ∙ ap (by_status back) g)
    at_status here known there back so action.FailedToClose g = shut known there action.FailedToClose g refl
        (so ∙ ap (by_status back) g)
    at_status here known there back so action.Cancelling g = again known there action.Cancelling g refl
        (so ∙ ap (by_status back) g)
    at_status here known there back so action.Cancelled g = again known there action.Cancelled g refl
        (so ∙ ap (by_status back) g)
    at_status here known there back so action.FailedToCancel g = again known there action.FailedToCancel g refl
        (so ∙ ap (by_status back) g)

-- ---- Tick

pub tick_decides : (s : Terms) (J : History) (by h : ℕ) (o : Option ℕ) → IsLawful s J → h < 2 ^ 64 → o
    ≡ late J (max h (last_moment J)) → IsDecided s J (call by h command.Tick)
    (judged.tick J by (max h (last_moment J)) o)
tick_decides s J by h o k f is = past_clerk s J c _ refl (λ here known. one here known o is)
  where
    c : Call
    c = call by h command.Tick

    m : ℕ
    m = max h (last_moment J)

    one : is_among (clerks J) by ≡ true → is_stranger J by c.command ≡ false → (x : Option ℕ) → x ≡ late J m
        → IsDecided s J c (Ok (option_map_or (λ a. judged.written by m (deed.Cancel a cause.Limit)) x
        (decision.Told told.Idle)))
    one here known None g =
        only_told s J c told.Idle (free_from s J c known tt)
        (ap (λ (y : Option ℕ). option_map (λ a. deed.Cancel a cause.Limit) y) (sym g))
        (ap (λ (y : Option ℕ). option_map_or told.Fired y told.Idle) (sym g))
    one here known (Some a) g =
        written_own s J c (deed.Cancel a cause.Limit)
        (record {
          free = free_from s J c known tt;
          own = ap (λ (y : Option ℕ). option_map
              (λ b. deed.Cancel b cause.Limit) y) (sym g);
        })
        (tick_allowed s J by m a (may s J by h k f here) (sym g)) (few_of_same s.limits J _ k.within
        (adds_none _ refl refl refl))

-- ---- Renew

pub renew_decides : (s : Terms) (J : History) (by h a limit : ℕ) → IsLawful s J → h < 2 ^ 64
    → IsDecided s J (call by h (command.Renew a limit)) (judged.renew s.version J by (max h (last_moment J)) a limit)
renew_decides s J by h a limit k f = past_clerk s J c _ refl (λ here known. by_version here known s.version refl)
  where
    c : Call
    c = call by h (command.Renew a limit)

    m : ℕ
    m = max h (last_moment J)

    d : Deed
    d = deed.Renew a limit

    shut : is_active (status_at J a) ≡ false → is_among (actions J) a ≡ true → not (is_open J a) ≡ true
    shut g there = ap not (opened s J a k there ∙ g)

    active : is_active (status_at J a) ≡ true → is_among (actions J) a ≡ true → not (is_open J a) ≡ false
    active g there = ap not (opened s J a k there ∙ g)

    by_version : is_among (clerks J) by ≡ true → is_stranger J by c.command ≡ false → (v : Version) → s.version ≡ v
        → IsDecided s J c (judged.newer v >>= λ _. judged.open_action J a >>= λ r. judged.near m limit >>= λ _. Ok
        (judged.written by m d))
    by_version here known version.One g = first_decides s J c 0 refusal.OldJournal known (ap is_old g, refl)
    by_version here known version.Two g =
        let new : is_old s.version ≡ false = ap is_old g in
        past_open s J c a (λ r. judged.near m limit >>= λ _. Ok (judged.written by m d))
        (λ gone. first_decides s J c 1 refusal.NoSuchAction known (new, (ap not gone, refl)))
        (λ there inactive. first_decides s J c 2 (refusal.NotActive (status_at J a)) known
        (new, (ap not there, (shut inactive there, refl))))
        (λ there open_now.
        past_required s J c (is_moment (m + limit)) refusal.LimitTooFar (Ok (judged.written by m d))
        (λ far. first_decides s J c 3 refusal.LimitTooFar known (
          new,
          (ap not there, (active open_now there, (ap not far, refl))),
        ))
        (λ near.
        let u : Unheld s J m c.command = (new, (ap not there, (active open_now there, (ap not near, tt)))) in
        written_own s J c d (record { free = free_from s J c known u; own = refl })
        (renew_allowed s J by m a limit (may s J by h k f here) u)
        (few_of_same s.limits J _ k.within (adds_none _ refl refl refl))))
