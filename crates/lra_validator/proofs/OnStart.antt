-- What is decided on commands that add a clerk or an action.
use Rattle.std.proofs.Common.{◌≡◌, ℕ, ◌+◌, ◌<◌, ◌^◌, Bool, true, false, List, [], ◌∷◌, ◌++◌, length, Option, Some, None}
use Rattle.std.proofs.Common.{Ok, Err, Result, refl, sym, ap, ◌∙◌, subst, append-nil, arith, max, cond, length-append}
use Rattle.std.proofs.lemmas.Bool.{lt-ltb, le-ltb, leb-true, leb-false}
use Rattle.std.specs.Prelude.{not, nat_le, nat_lt}
use Rattle.std.specs.Option.{option_map_or}
use Rattle.lra_model.specs.declared.entry.Deed.{Deed}
use Rattle.lra_model.specs.declared.entry.Deed.TheVariants as deed
use Rattle.lra_model.specs.declared.entry.Entry.{Entry}
use Rattle.lra_model.specs.History.{History, clerks, actions, members, is_among, last_moment}
use Rattle.lra_model.specs.Actions.{depth}
use Rattle.lra_model.specs.Tests.{is_moment, each_parent}
use Rattle.lra_laws.proofs.Push.{clerks_push, actions_push, members_push}
use Rattle.lra_laws.proofs.Writes.{may_enrol}
use Rattle.lra_ids.specs.Addresses.{is_address}
use Rattle.lra_commands.specs.declared.command.Command.TheVariants as command
use Rattle.lra_commands.specs.declared.limits.Terms.{Terms}
use Rattle.lra_commands.specs.declared.refusal.Refusal.{Refusal}
use Rattle.lra_commands.specs.declared.refusal.Refusal.TheVariants as refusal
use Rattle.lra_commands.specs.declared.refusal.Resource.TheVariants as resource
use Rattle.lra_commands.specs.Terms.{AreKeepable}
use Rattle.lra_commands.specs.Calls.{Call}
use Rattle.lra_commands.specs.Deeds.{is_open, entry_of}
use Rattle.lra_commands.specs.Refusals.{status_at, is_stranger}
use Rattle.lra_commands.specs.Runs.{IsLawful}
use Rattle.lra_commands.proofs.KeepsOwn.{Unheld, start_allowed}
use Rattle.lra_validator.specs.Decisions.{IsDecided}
use Rattle.lra_validator.specs.inner.Judged as judged
use Rattle.lra_validator.specs.inner.Judged.{Judged, ◌>>=◌}
use Rattle.lra_validator.proofs.Grounds.{first_decides, IsOwn, written_own, full_clerks, full_actions}
use Rattle.lra_validator.proofs.Passing.{call, past_clerk, past_open, past_required, free_from, may, later, fits}
use Rattle.lra_validator.proofs.Passing.{opened}

one_longer : (ns : List ℕ) (n : ℕ) → length (ns ++ n ∷ []) ≡ length ns + 1
one_longer ns n = length-append ns (n ∷ [])

-- ---- Enrol

pub enrol_decides : (s : Terms) (J : History) (by h : ℕ) → AreKeepable s.limits → IsLawful s J → h < 2 ^ 64
    → IsDecided s J (call by h command.Enrol) (judged.enrol s.limits J (max h (last_moment J)))
enrol_decides s J by h l k f = one (nat_le s.limits.clerks (length (clerks J))) refl
  where
    c : Call
    c = call by h command.Enrol

    m : ℕ
    m = max h (last_moment J)

    n : ℕ
    n = length (clerks J) + 1

    e : Entry
    e = entry_of J c deed.Enrol

    own : IsOwn s J c deed.Enrol
    own = record { free = free_from s J c refl tt; own = refl }

    clerks_now : length (clerks (J ++ e ∷ [])) ≡ n
    clerks_now = ap (λ (ns : List ℕ). length ns) (clerks_push J e) ∙ one_longer (clerks J) n

    actions_now : length (actions (J ++ e ∷ [])) ≡ length (actions J)
    actions_now = ap (λ (ns : List ℕ). length ns) (actions_push J e ∙ append-nil (actions J))

    members_now : length (members (J ++ e ∷ [])) ≡ length (members J)
    members_now = ap (λ (ns : List ℕ). length ns) (members_push J e ∙ append-nil (members J))

    one : (b : Bool) → nat_le s.limits.clerks (length (clerks J)) ≡ b → IsDecided s J c
        (cond b (Err (refusal.Full resource.Clerks)) (Ok n) >>= λ x. Ok (judged.written x m deed.Enrol))
    one true g = let many = leb-true s.limits.clerks (length (clerks J)) g in
        full_clerks s J c deed.Enrol own (rw clerks_now (omega arith))
    one false g =
        let few = leb-false s.limits.clerks (length (clerks J)) g in
        let low = l.clerks in
        written_own s J c deed.Enrol own (may_enrol s.version is_address J m (lt-ltb n (2 ^ 32) (omega arith))
        (later J h) (fits s J h k f))
        (record {
          clerks = rw clerks_now (omega arith);
          actions = rw actions_now k.within.actions;
          members =
              rw members_now k.within.members;
        })

-- ---- Start

-- what comes next, in one chain or in two
chained : {X Y : Type 0} (x : Result X Refusal) (g : X → Result Y Refusal) (next : Y → Judged) → ((x >>= g) >>= next)
    ≡ (x >>= λ y. g y >>= next)
chained (Ok y) g next = refl
chained (Err r) g next = refl

-- what is looked at once the action above is known, that is nested so deep
rest_of : Terms → History → ℕ → ℕ → Option ℕ → ℕ → ℕ → Judged
rest_of s J by m parent limit above = judged.near m limit >>= λ _. judged.shallow s.limits above >>= λ _.
    judged.new_action s.limits J >>= λ a. Ok (judged.written by m (deed.Start a parent limit))

-- what is known of the action above
record IsAbove (J : History) (parent : Option ℕ) (above : ℕ) : Type 0 where
  there : not (each_parent (λ b. is_among (actions J) b) parent) ≡ false
  active : not (each_parent (is_open J) parent) ≡ false
  depth : option_map_or (λ b. depth J b + 1) parent 1 ≡ above + 1

start_below : (s : Terms) (J : History) (by h : ℕ) (parent : Option ℕ) (limit above : ℕ) → AreKeepable s.limits
    → IsLawful s J → h < 2 ^ 64 → is_among (clerks J) by ≡ true → IsAbove J parent above
    → IsDecided s J (call by h (command.Start parent limit)) (rest_of s J by (max h (last_moment J)) parent limit above)
unfolding rest_of
start_below s J by h parent limit above l k f here up =
    past_required s J c (is_moment (m + limit)) refusal.LimitTooFar _ (λ far. first_decides s J c 2 refusal.LimitTooFar
    known (up.there, (up.active, (ap not far, refl)))) (λ near. at_depth near (nat_le s.limits.depth above) refl)
  where
    c : Call
    c = call by h (command.Start parent limit)

    m : ℕ
    m = max h (last_moment J)

    n : ℕ
    n = length (actions J) + 1

    d : Deed
    d = deed.Start n parent limit

    e : Entry
    e = entry_of J c d

    known : is_stranger J by c.command ≡ false
    known = ap not here

    clerks_now : length (clerks (J ++ e ∷ [])) ≡ length (clerks J)
    clerks_now = ap (λ (ns : List ℕ). length ns) (clerks_push J e ∙ append-nil (clerks J))

    actions_now : length (actions (J ++ e ∷ [])) ≡ n
    actions_now = ap (λ (ns : List ℕ). length ns) (actions_push J e) ∙ one_longer (actions J) n

    members_now : length (members (J ++ e ∷ [])) ≡ length (members J)
    members_now = ap (λ (ns : List ℕ). length ns) (members_push J e ∙ append-nil (members J))

    at_room : is_moment (m + limit) ≡ true → nat_lt s.limits.depth (option_map_or (λ b. depth J b + 1) parent 1) ≡ false
        → (b : Bool) → nat_le s.limits.actions (length (actions J)) ≡ b
        → IsDecided s J c (cond b (Err (refusal.Full resource.Actions)) (Ok n) >>= λ a. Ok
        (judged.written by m (deed.Start a parent limit)))
    at_room near high true g =
        let many = leb-true s.limits.actions (length (actions J)) g in
        let u : Unheld s J m c.command = (up.there, (up.active, (ap not near, (high, tt)))) in
        full_actions s J c d (record { free = free_from s J c known u; own = refl }) (rw clerks_now k.within.clerks)
        (rw actions_now (omega arith))
    at_room near high false g =
        let few = leb-false s.limits.actions (length (actions J)) g in
        let low = l.actions in
        let u : Unheld s J m c.command = (up.there, (up.active, (ap not near, (high, tt)))) in
        written_own s J c d (record { free = free_from s J c known u; own = refl })
        (start_allowed s J by m parent limit (may s J by h k f here) u (omega arith))
        (record {
          clerks = rw clerks_now k.within.clerks;
          actions = rw actions_now (omega arith);
          members =
              rw members_now k.within.members;
        })

    at_depth : is_moment (m + limit) ≡ true → (b : Bool) → nat_le s.limits.depth above ≡ b
        → IsDecided s J c ((let r : Result (Unit {0}) Refusal = cond b (Err refusal.TooDeep) (Ok tt) in r) >>= λ _.
        judged.new_action s.limits J >>= λ a. Ok (judged.written by m (deed.Start a parent limit)))
    at_depth near true g =
        let low = leb-true s.limits.depth above g in
        let deep : nat_lt s.limits.depth (option_map_or (λ b. depth J b + 1) parent 1)
        ≡ true = ap (λ (x : ℕ). nat_lt s.limits.depth x) up.depth
        ∙ lt-ltb s.limits.depth (above + 1) (omega arith) in
        first_decides s J c 3 refusal.TooDeep known (up.there, (up.active, (ap not near, (deep, refl))))
    at_depth near false g =
        let high = leb-false s.limits.depth above g in
        at_room near (ap (λ (x : ℕ). nat_lt s.limits.depth x) up.depth
        ∙ le-ltb s.limits.depth (above + 1) (omega arith)) (nat_le s.limits.actions (length (actions J))) refl

pub start_decides : (s : Terms) (J : History) (by h : ℕ) (parent : Option ℕ) (limit : ℕ) → AreKeepable s.limits
    → IsLawful s J → h < 2 ^ 64
    → IsDecided s J (call by h (command.Start parent limit)) (judged.start s.limits J by (max h (last_moment J)) parent
    limit)
unfolding rest_of
start_decides s J by h None limit l k f = past_clerk s J (call by h (command.Start None limit)) _ refl
    (λ here known. start_below s J by h None limit 0 l k f here (record { there = refl; active = refl; depth = refl }))
start_decides s J by h (Some b) limit l k f =
    past_clerk s J c _ refl (λ here known.
    let whole = past_open s J c b (λ r. rest_of s J by (max h (last_moment J)) (Some b) limit r.depth)
    (λ gone. first_decides s J c 0 refusal.NoSuchAction known (ap not gone, refl))
    (λ there inactive. first_decides s J c 1 (refusal.NotActive (status_at J b)) known
    (ap not there, (ap not (opened s J b k there ∙ inactive), refl)))
    (λ there active. start_below s J by h (Some b) limit (depth J b) l k f here
    (record { there = ap not there; active = ap not (opened s J b k there ∙ active); depth = refl })) in
    subst (λ (j : Judged). IsDecided s J c j)
    (sym (chained (judged.open_action J b) (λ r. Ok r.depth) (rest_of s J by (max h (last_moment J)) (Some b)
    limit))) whole)
  where
    c : Call
    c = call by h (command.Start (Some b) limit)
