-- How a coordinator and its blocks are made.
use Rattle.std.proofs.Common.{◌≡◌, ℕ, ◌+◌, Bool, true, false, [], length, Option, Some, None, refl, sym, ap, ◌∙◌, cond}
use Rattle.std.specs.Prelude.{is_some, not, option_map}
use Rattle.std.specs.Option.{option_and_then}
use Rattle.lra_model.specs.declared.asks.AskKind.{AskKind}
use Rattle.lra_model.specs.declared.asks.Cause.TheVariants as cause
use Rattle.lra_model.specs.declared.entry.Deed.{Deed}
use Rattle.lra_model.specs.declared.entry.Deed.TheVariants as deed
use Rattle.lra_model.specs.declared.entry.Entry.{Entry}
use Rattle.lra_model.specs.declared.version.Version.{Version}
use Rattle.lra_model.specs.Words.{when}
use Rattle.lra_model.specs.History.{History, actions, members, asks}
use Rattle.lra_model.specs.Joins.{already_member}
use Rattle.lra_model.specs.Settling.{IsQuiet, next_settling}
use Rattle.lra_model.specs.Wants.{wants}
use Rattle.lra_laws.specs.Snapshots.{snapshot_of}
use Rattle.lra_laws.proofs.Quiet.{no_next_is_quiet}
use Rattle.lra_ids.specs.Addresses.{is_address}
use Rattle.lra_tables.specs.Plans.{Tabled}
use Rattle.lra_commands.specs.declared.command.Command.TheVariants as command
use Rattle.lra_commands.specs.declared.limits.Terms.{Terms}
use Rattle.lra_commands.specs.Terms.{AreKeepable}
use Rattle.lra_commands.specs.Calls.{Command, Call, moment_of}
use Rattle.lra_commands.specs.Counters.{Setting}
use Rattle.lra_commands.specs.Deeds.{stored_addresses, outcome_told, is_decided, is_open, may_be_cancelled, own_deed}
use Rattle.lra_commands.specs.Deeds.{entry_of, own_entry}
use Rattle.lra_commands.specs.Due.{due, late}
use Rattle.lra_commands.specs.Given.{errand_for}
use Rattle.lra_commands.proofs.Keeps.{lawful_from_nothing}
use Rattle.lra_core.specs.declared.making.Ask.{Ask}
use Rattle.lra_timers.specs.Planned.{Planned}
use Rattle.lra_schedule.specs.Schedules.{IsScheduleOf}
use Rattle.lra_core.specs.inner.Kept.{IsKept}
use Rattle.lra_core.specs.inner.Made.{ask_in, asking_at}

pub kept_empty : (s : Terms) (t : Tabled) (p : Planned) → AreKeepable s.limits → t.snapshot ≡ snapshot_of []
    → IsScheduleOf s.limits p [] → IsKept s t p []
kept_empty s t p k h i = record { keepable = k; lawful = lawful_from_nothing s; tables = h; schedule = i }

-- nothing is left to settle where there are no entries
pub quiet_empty : (v : Version) → IsQuiet v is_address []
unfolding next_settling members actions
quiet_empty v = no_next_is_quiet v is_address [] refl

-- an ask is written where it is wanted
ask_wanted : (s : Terms) (J : History) (m : ℕ) (o : Command) (n p : ℕ) (kind : AskKind) → own_deed s J m o
    ≡ Some (deed.Ask n p kind) → wants J p ≡ Some kind
ask_wanted s J m command.Enrol n p kind h = absurd cc
ask_wanted s J m (command.Start parent limit) n p kind h = absurd cc
ask_wanted s J m (command.Join a uris) n p kind h = joins (is_some (already_member J a (stored_addresses uris.now))) h
  where
    joins : (b : Bool) → cond b None (Some (deed.Join (length (members J) + 1) a (stored_addresses uris.now)))
        ≡ Some (deed.Ask n p kind) → wants J p ≡ Some kind
    joins true g = absurd cc
    joins false g = absurd cc
ask_wanted s J m (command.Leave a q) n p kind h = absurd cc
ask_wanted s J m (command.Close a) n p kind h = closes (is_open J a) h
  where
    closes : (b : Bool) → when b (deed.Close a cause.Client) ≡ Some (deed.Ask n p kind) → wants J p ≡ Some kind
    closes true g = absurd cc
    closes false g = absurd cc
ask_wanted s J m (command.Cancel a) n p kind h = cancels (may_be_cancelled s J a) h
  where
    cancels : (b : Bool) → when b (deed.Cancel a cause.Client) ≡ Some (deed.Ask n p kind) → wants J p ≡ Some kind
    cancels true g = absurd cc
    cancels false g = absurd cc
ask_wanted s J m command.Tick n p kind h = ticks (late J m) h
  where
    ticks : (o : Option ℕ) → option_map (λ a. deed.Cancel a cause.Limit) o ≡ Some (deed.Ask n p kind) → wants J p
        ≡ Some kind
    ticks None g = absurd cc
    ticks (Some a) g = absurd cc
ask_wanted s J m command.NextAsk n p kind h = asks_for (due s.limits J m) h
  where
    of : (q : ℕ) (w : Option AskKind) → wants J q ≡ w → option_map (deed.Ask (length (asks J) + 1) q) w
        ≡ Some (deed.Ask n p kind) → wants J p ≡ Some kind
    of q None e g = absurd cc
    of q (Some k) e g =
        let same : deed.Ask (length (asks J) + 1) q k ≡ deed.Ask n p kind = cc in
        let member : q ≡ p = ap (λ (d : Deed). member_asked d) same in
        let what : k ≡ kind = ap (λ (d : Deed). kind_asked d) same in
        ap (wants J) (sym member) ∙ e ∙ ap Some what
      where
        member_asked : Deed → ℕ
        member_asked (deed.Ask a b c) = b
        member_asked _ = 0

        kind_asked : Deed → AskKind
        kind_asked (deed.Ask a b c) = c
        kind_asked _ = k

    asks_for : (o : Option ℕ) → option_and_then (λ q. option_map (deed.Ask (length (asks J) + 1) q) (wants J q)) o
        ≡ Some (deed.Ask n p kind) → wants J p ≡ Some kind
    asks_for None g = absurd cc
    asks_for (Some q) g = of q (wants J q) refl g
ask_wanted s J m (command.Record errand o) n p kind h = absurd cc
ask_wanted s J m (command.Report q e) n p kind h = reports (not (is_decided J q e)) h
  where
    reports : (b : Bool) → when b (deed.Report q (outcome_told e)) ≡ Some (deed.Ask n p kind) → wants J p ≡ Some kind
    reports true g = absurd cc
    reports false g = absurd cc
ask_wanted s J m command.Restart n p kind h = absurd cc
ask_wanted s J m (command.Renew a limit) n p kind h = absurd cc
ask_wanted s J m (command.Status a) n p kind h = absurd cc
ask_wanted s J m (command.MemberStatus q) n p kind h = absurd cc

-- the entry that a call writes, by its deed
deed_of_own : (J : History) (c : Call) (o : Option Deed) (e : Entry) → option_map (entry_of J c) o ≡ Some e → o
    ≡ Some e.deed
deed_of_own J c None e h = absurd cc
deed_of_own J c (Some d) e h = let same : entry_of J c d ≡ e = cc in ap (λ (x : Entry). Some x.deed) same

-- the ask of the entry that a call writes is wanted
pub own_ask_wanted : (s : Terms) (J : History) (c : Call) (e : Entry) (a : Ask) → own_entry s J c ≡ Some e → ask_in e
    ≡ Some a → wants J a.member ≡ Some a.kind
own_ask_wanted s J c e a h g = by_deed e.deed (deed_of_own J c (own_deed s J (moment_of J c) c.command) e h) g
  where
    by_deed : (d : Deed) → own_deed s J (moment_of J c) c.command ≡ Some d
        → ask_in (record { by = e.by; moment = e.moment; deed = d }) ≡ Some a → wants J a.member ≡ Some a.kind
    by_deed (deed.Ask n p kind) i j =
        let same : (let x : Ask = record { number = n; member = p; kind = kind } in x) ≡ a = cc in
        ap (λ (x : Ask). wants J x.member) (sym same) ∙ ask_wanted s J (moment_of J c) c.command n p kind i
        ∙ ap (λ (x : Ask). Some x.kind) same
    by_deed _ i j = absurd cc

-- the errand of an entry is that of its ask
pub errand_by_ask : (g : Setting) (J : History) (e : Entry) → errand_for g J e ≡ option_map (asking_at g J) (ask_in e)
errand_by_ask g J e = by_deed e.deed
  where
    by_deed : (d : Deed) → errand_for g J (record { by = e.by; moment = e.moment; deed = d })
        ≡ option_map (asking_at g J) (ask_in (record { by = e.by; moment = e.moment; deed = d }))
    by_deed (deed.Ask n p kind) = refl
    by_deed _ = refl
