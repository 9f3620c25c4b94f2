-- What is looked at first by most commands: the clerk, the action, the member.
use Rattle.std.proofs.Common.{◌≡◌, ℕ, ◌<◌, ◌≤◌, ◌^◌, Bool, true, false, List, [], ◌∷◌, Option, Some, None, Ok, Err}
use Rattle.std.proofs.Common.{refl, ap, ◌∙◌, arith, max}
use Rattle.std.proofs.lemmas.Bool.{lt-ltb, ltb-true}
use Rattle.std.specs.Prelude.{not, is_some, unwrap_or, cond}
use Rattle.std.specs.Option.{option_map_or, option_and_then}
use Rattle.lra_model.specs.declared.status.ActionStatus.{ActionStatus}
use Rattle.lra_model.specs.declared.status.ActionStatus.TheVariants as action
use Rattle.lra_model.specs.declared.asks.AskKind.{AskKind}
use Rattle.lra_model.specs.declared.asks.Direction.TheVariants as direction
use Rattle.lra_model.specs.Words.{is_active}
use Rattle.lra_model.specs.History.{History, clerks, actions, members, is_among, last_moment}
use Rattle.lra_model.specs.Actions.{parent, action_status, limit_in_force, depth}
use Rattle.lra_model.specs.Members.{action_of, decided, member_status, last_reply, ask_direction, outstanding_ask}
use Rattle.lra_model.specs.Rules.{is_number}
use Rattle.lra_model.specs.Wants.{wants, stage_of, repeat_count, last_repeat}
use Rattle.lra_laws.proofs.Named.{status_is_there}
use Rattle.lra_laws.proofs.Ranges.{last_moment_in_range}
use Rattle.lra_rows.specs.declared.found.ActionRow.{ActionRow}
use Rattle.lra_rows.specs.declared.found.MemberRow.{MemberRow}
use Rattle.lra_ids.specs.Addresses.{is_address}
use Rattle.lra_commands.specs.declared.limits.Terms.{Terms}
use Rattle.lra_commands.specs.declared.refusal.Refusal.{Refusal}
use Rattle.lra_commands.specs.declared.refusal.Refusal.TheVariants as refusal
use Rattle.lra_commands.specs.Calls.{Command, Call, moment_of}
use Rattle.lra_commands.specs.Deeds.{is_open}
use Rattle.lra_commands.specs.Refusals.{Ground, status_at, command_grounds, is_stranger, first_ground}
use Rattle.lra_commands.specs.Runs.{IsLawful}
use Rattle.lra_commands.proofs.KeepsGrounds.{NoneHolds}
use Rattle.lra_commands.proofs.KeepsOwn.{Writes}
use Rattle.lra_validator.specs.Decisions.{IsDecided}
use Rattle.lra_validator.specs.inner.Judged.{Judged, ◌>>=◌, required, known_clerk, known_action, known_member}
use Rattle.lra_validator.specs.inner.Judged.{open_action}
use Rattle.lra_validator.proofs.Grounds.{stranger, IsFree}

-- a call
abbrev pub call : ℕ → ℕ → Command → Call
call by h o = record { by = by; moment = h; command = o }

-- the rows that are found of an action and of a member that are there
abbrev pub row_of : History → ℕ → ActionRow
row_of J a = record {
  parent = parent J a;
  limit = (limit_in_force J a).length_of;
  since = (limit_in_force J a).since;
  depth = depth J a;
  status = unwrap_or (action_status J a) action.Active;
}

abbrev pub member_of : History → ℕ → MemberRow
member_of J p = record {
  action = action_of J p;
  status = member_status J p;
  completion = decided J p direction.Completion;
  compensation = decided J p direction.Compensation;
  outstanding = outstanding_ask J p;
  want = wants J p;
  k = option_map_or (λ (kind : AskKind). repeat_count J p (stage_of kind (ask_direction J p kind))) (wants J p) 0;
  last = option_and_then (λ (kind : AskKind). last_repeat J p (stage_of kind (ask_direction J p kind))) (wants J p);
}

-- ---- what is looked at

pub past_required : (s : Terms) (J : History) (c : Call) (b : Bool) (r : Refusal) (rest : Judged)
    → (b ≡ false → IsDecided s J c (Err r)) → (b ≡ true → IsDecided s J c rest)
    → IsDecided s J c (required b r >>= λ _. rest)
past_required s J c true r rest gone go = go refl
past_required s J c false r rest gone go = gone refl

-- a clerk that has to be enrolled
pub past_clerk : (s : Terms) (J : History) (c : Call) (rest : Judged) → is_stranger J c.by c.command
    ≡ not (is_among (clerks J) c.by)
    → (is_among (clerks J) c.by ≡ true → is_stranger J c.by c.command ≡ false → IsDecided s J c rest)
    → IsDecided s J c (known_clerk J c.by >>= λ _. rest)
past_clerk s J c rest same go = past_required s J c (is_among (clerks J) c.by) refusal.NoSuchClerk rest
    (λ h. stranger s J c (same ∙ ap not h)) (λ h. go h (same ∙ ap not h))

pub past_action : (s : Terms) (J : History) (c : Call) (a : ℕ) (next : ActionRow → Judged)
    → (is_among (actions J) a ≡ false → IsDecided s J c (Err refusal.NoSuchAction))
    → (is_among (actions J) a ≡ true → IsDecided s J c (next (row_of J a)))
    → IsDecided s J c (known_action J a >>= next)
past_action s J c a next gone go = one (is_among (actions J) a) refl
  where
    one : (b : Bool) → is_among (actions J) a ≡ b → IsDecided s J c (option_map_or Ok (cond b (Some (row_of J a)) None)
        (Err refusal.NoSuchAction) >>= next)
    one true h = go h
    one false h = gone h

pub past_member : (s : Terms) (J : History) (c : Call) (p : ℕ) (next : MemberRow → Judged)
    → (is_among (members J) p ≡ false → IsDecided s J c (Err refusal.NoSuchMember))
    → (is_among (members J) p ≡ true → IsDecided s J c (next (member_of J p)))
    → IsDecided s J c (known_member J p >>= next)
past_member s J c p next gone go = one (is_among (members J) p) refl
  where
    one : (b : Bool) → is_among (members J) p ≡ b → IsDecided s J c (option_map_or Ok
        (cond b (Some (member_of J p)) None) (Err refusal.NoSuchMember) >>= next)
    one true h = go h
    one false h = gone h

pub past_open : (s : Terms) (J : History) (c : Call) (a : ℕ) (next : ActionRow → Judged)
    → (is_among (actions J) a ≡ false → IsDecided s J c (Err refusal.NoSuchAction))
    → (is_among (actions J) a ≡ true → is_active (status_at J a) ≡ false
    → IsDecided s J c (Err (refusal.NotActive (status_at J a))))
    → (is_among (actions J) a ≡ true → is_active (status_at J a) ≡ true → IsDecided s J c (next (row_of J a)))
    → IsDecided s J c (open_action J a >>= next)
past_open s J c a next gone shut go = one (is_among (actions J) a) refl
  where
    two : (b : Bool) → is_active (status_at J a) ≡ b → is_among (actions J) a ≡ true
        → IsDecided s J c ((required b (refusal.NotActive (status_at J a)) >>= λ _. Ok (row_of J a)) >>= next)
    two true h g = go g h
    two false h g = shut g h

    one : (b : Bool) → is_among (actions J) a ≡ b
        → IsDecided s J c ((option_map_or Ok (cond b (Some (row_of J a)) None) (Err refusal.NoSuchAction) >>= λ r.
        required (is_active r.status) (refusal.NotActive r.status) >>= λ _. Ok r) >>= next)
    one true h = two (is_active (status_at J a)) refl h
    one false h = gone h

-- ---- what is known once it was looked at

none_first : (gs : List Ground) → NoneHolds gs → first_ground gs ≡ None
none_first [] h = refl
none_first ((r, true) ∷ gs) h = absurd cc
none_first ((r, false) ∷ gs) h = none_first gs h.1

pub free_from : (s : Terms) (J : History) (c : Call) → is_stranger J c.by c.command ≡ false
    → NoneHolds (command_grounds s J (moment_of J c) c.command) → IsFree s J c
free_from s J c here h = record { here = here; free = none_first (command_grounds s J (moment_of J c) c.command) h }

-- the moment of what is written isn't before the last one, and is a number
pub later : (J : History) (h : ℕ) → last_moment J ≤ max h (last_moment J)
later J h = omega arith

pub fits : (s : Terms) (J : History) (h : ℕ) → IsLawful s J → h < 2 ^ 64 → is_number (max h (last_moment J)) ≡ true
fits s J h k f = let low = ltb-true (last_moment J) (2 ^ 64) (last_moment_in_range s.version is_address J k.legal) in
    lt-ltb (max h (last_moment J)) (2 ^ 64) (omega arith)

-- an enrolled clerk may write
pub may : (s : Terms) (J : History) (by h : ℕ) → IsLawful s J → h < 2 ^ 64 → is_among (clerks J) by ≡ true
    → Writes s J by (max h (last_moment J))
may s J by h k f here = record { legal = k.legal; clerk = here; moment = later J h; fits = fits s J h k f }

-- whether an action that is there is Active
pub opened : (s : Terms) (J : History) (a : ℕ) → IsLawful s J → is_among (actions J) a ≡ true → is_open J a
    ≡ is_active (status_at J a)
opened s J a k there = one (action_status J a) (status_is_there s.version is_address J k.legal a ∙ there)
  where
    one : (o : Option ActionStatus) → is_some o ≡ true → option_map_or is_active o false
        ≡ is_active (unwrap_or o action.Active)
    one (Some x) h = refl
    one None h = absurd cc
