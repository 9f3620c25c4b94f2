-- What is decided on commands on asks.
use Rattle.std.proofs.Common.{◌≡◌, ℕ, suc, ◌+◌, ◌≤◌, ◌<◌, ◌^◌, Bool, true, false, List, [], ◌∷◌, ◌++◌, length, Option}
use Rattle.std.proofs.Common.{Some, None, Ok, Bor, refl, sym, ap, ◌∙◌, subst, arith, max, cond}
use Rattle.std.proofs.Math.Bool.{and-false}
use Rattle.std.specs.Prelude.{◌&&◌, not, nat_le, is_some, option_map}
use Rattle.std.specs.Option.{option_map_or, option_and_then}
use Rattle.std.specs.List.{filter_map, cons_option}
use Rattle.lra_model.specs.declared.asks.AskKind.{AskKind}
use Rattle.lra_model.specs.declared.asks.Outcome.{Outcome}
use Rattle.lra_model.specs.declared.entry.Deed.{Deed}
use Rattle.lra_model.specs.declared.entry.Deed.TheVariants as deed
use Rattle.lra_model.specs.declared.entry.Entry.{Entry}
use Rattle.lra_model.specs.Words.{when, outcome_suits}
use Rattle.lra_model.specs.History.{History, enrolled_by, asked_by, clerks, members, asks, is_among, last_moment}
use Rattle.lra_model.specs.Members.{Asked, is_outstanding, ask_of}
use Rattle.lra_model.specs.Facts.{member_facts, facts_of}
use Rattle.lra_model.specs.Wants.{wanted, wants, repeat_count, last_repeat}
use Rattle.lra_rows.specs.declared.found.MemberRow.{MemberRow}
use Rattle.lra_rows.specs.declared.found.AskRow.{AskRow}
use Rattle.lra_rows.specs.Found.{found_ask}
use Rattle.lra_commands.specs.declared.command.Command.TheVariants as command
use Rattle.lra_commands.specs.declared.command.Told.TheVariants as told
use Rattle.lra_commands.specs.declared.limits.Limits.{Limits}
use Rattle.lra_commands.specs.declared.limits.Terms.{Terms}
use Rattle.lra_commands.specs.declared.refusal.Refusal.TheVariants as refusal
use Rattle.lra_commands.specs.Errands.{Asking}
use Rattle.lra_commands.specs.Terms.{AreKeepable}
use Rattle.lra_commands.specs.Calls.{Call}
use Rattle.lra_commands.specs.Due.{Timed, earlier, earliest, due_after, stage_wanted, want_of, due}
use Rattle.lra_commands.specs.Blocks.{block}
use Rattle.lra_commands.specs.Refusals.{is_of, is_asked, is_stranger}
use Rattle.lra_commands.specs.Runs.{IsLawful}
use Rattle.lra_commands.proofs.KeepsOwn.{ask_allowed, reply_allowed, restart_allowed}
use Rattle.lra_validator.specs.declared.decision.Decision.TheVariants as decision
use Rattle.lra_validator.specs.CommandValues.{carried_of}
use Rattle.lra_validator.specs.Decisions.{IsDecided}
use Rattle.lra_validator.specs.inner.Judged as judged
use Rattle.lra_validator.specs.inner.Judged.{Judged, ◌>>=◌}
use Rattle.lra_validator.proofs.Counts.{adds_none}
use Rattle.lra_validator.proofs.Grounds.{first_decides, only_told, written_own, few_of_same}
use Rattle.lra_validator.proofs.Passing.{call, member_of, past_clerk, past_required, free_from, may}

-- ---- Restart

pub restart_decides : (s : Terms) (J : History) (by h : ℕ) → IsLawful s J → h < 2 ^ 64
    → IsDecided s J (call by h command.Restart) (judged.restart J by (max h (last_moment J)))
restart_decides s J by h k f =
    past_clerk s J c _ refl (λ here known.
    written_own s J c deed.Restart (record { free = free_from s J c known tt; own = refl })
    (restart_allowed s J by (max h (last_moment J)) (may s J by h k f here))
    (few_of_same s.limits J _ k.within (adds_none _ refl refl refl)))
  where
    c : Call
    c = call by h command.Restart

-- ---- Record

-- an errand's ask is outstanding, by what is found of it
is_awaited : (J : History) (e : Asking) → option_map_or (judged.is_carried (carried_of e)) (found_ask J e.ask) false
    ≡ is_asked J e
is_awaited J e = one (ask_of J e.ask)
  where
    one : (o : Option Asked)
        → option_map_or (judged.is_carried (carried_of e))
        (option_map (λ (x : Asked).
        (let r : AskRow = record {
          member = x.member;
          kind = x.kind;
          direction = x.direction;
          outstanding = is_outstanding J e.ask;
        } in r)) o) false
        ≡ (is_outstanding J e.ask && option_map_or (is_of e) o false)
    one None = sym (and-false (is_outstanding J e.ask))
    one (Some x) = refl

pub record_decides : (s : Terms) (J : History) (by h : ℕ) (errand : Bor Asking) (o : Outcome) → IsLawful s J → h
    < 2 ^ 64 → outcome_suits errand.now.kind o ≡ true
    → IsDecided s J (call by h (command.Record errand o)) (judged.reply J by (max h (last_moment J))
    (carried_of errand.now) o)
record_decides s J by h errand o k f suits =
    past_clerk s J c _ refl (λ here known.
    past_required s J c (option_map_or (judged.is_carried (carried_of errand.now)) (found_ask J errand.now.ask) false)
    refusal.NotAsked _
    (λ void. first_decides s J c 0 refusal.NotAsked known (ap not (sym (is_awaited J errand.now) ∙ void), refl))
    (λ stands.
    let asked : is_asked J errand.now ≡ true = sym (is_awaited J errand.now) ∙ stands in
    written_own s J c (deed.Reply errand.now.ask o)
    (record { free = free_from s J c known (ap not asked, tt); own = refl })
    (reply_allowed s J by (max h (last_moment J)) errand.now o (may s J by h k f here) asked suits)
    (few_of_same s.limits J _ k.within (adds_none _ refl refl refl))))
  where
    c : Call
    c = call by h (command.Record errand o)

-- ---- NextAsk

-- what a member wants, by what is found of it
wants_found : (J : History) (p : ℕ) → judged.wanted_by J p ≡ wants J p
unfolding wants facts_of
wants_found J p = one (is_among (members J) p) refl
  where
    one : (b : Bool) → is_among (members J) p ≡ b
        → option_and_then (λ (r : MemberRow). r.want) (cond b (Some (member_of J p)) None)
        ≡ option_map_or (wanted (facts_of J)) (cond b (Some (member_facts J p)) None) None
    one true h = ap (λ (x : Bool). option_map_or (wanted (facts_of J)) (cond x (Some (member_facts J p)) None) None) h
    one false h = refl

-- what holds of the number of each of these
abbrev Each : (ℕ → Type 0) → List Timed → Type 0
Each P [] = Unit {0}
Each P (x ∷ xs) = P x.number × Each P xs

each_read : {X : Type 0} (P : ℕ → Type 0) (r : X → Option Timed) → ((x : X) (y : Timed) → r x ≡ Some y → P y.number)
    → (xs : List X) → Each P (filter_map r xs)
each_read P r from [] = tt
each_read {X = X} P r from (x ∷ xs) = one (r x) refl (each_read P r from xs)
  where
    one : (o : Option Timed) → r x ≡ o → Each P (filter_map r xs) → Each P (cons_option o (filter_map r xs))
    one None g rest = rest
    one (Some y) g rest = (from x y g, rest)

each_chosen : (P : ℕ → Type 0) (now : ℕ) (xs : List Timed) → Each P xs
    → Each P (filter_map (λ (x : Timed). when (nat_le x.moment now) x) xs)
each_chosen P now [] h = tt
each_chosen P now (x ∷ xs) h = one (nat_le x.moment now) (each_chosen P now xs h.1)
  where
    one : (b : Bool) → Each P (filter_map (λ (y : Timed). when (nat_le y.moment now) y) xs)
        → Each P (cons_option (when b x) (filter_map (λ (y : Timed). when (nat_le y.moment now) y) xs))
    one true rest = (h.0, rest)
    one false rest = rest

-- the earliest is one of them
each_earliest : (P : ℕ → Type 0) (xs : List Timed) → Each P xs → (n : ℕ)
    → option_map (λ (x : Timed). x.number) (earliest xs) ≡ Some n → P n
each_earliest P [] h n g = absurd cc
each_earliest P (y ∷ ys) h n g = one (earliest ys) (each_earliest P ys h.1) g
  where
    moved : (z : Timed) → P z.number → ◌≡◌ {A = Option ℕ} (Some z.number) (Some n) → P n
    moved z p e = let same : z.number ≡ n = cc in subst P same p

    two : (b : Bool) (z : Timed) → P z.number → ◌≡◌ {A = Option ℕ} (Some (cond b y z).number) (Some n) → P n
    two true z p e = moved y h.0 e
    two false z p e = moved z p e

    one : (o : Option Timed) → ((k : ℕ) → option_map (λ (x : Timed). x.number) o ≡ Some k → P k)
        → ◌≡◌ {A = Option ℕ} (Some (earlier y o).number) (Some n) → P n
    one None rest e = moved y h.0 e
    one (Some z) rest e = two (nat_le y.moment z.moment) z (rest z.number refl) e

-- a member whose want is due wants something
due_wants : (l : Limits) (J : History) (m p : ℕ) → due l J m ≡ Some p → is_some (wants J p) ≡ true
unfolding due
due_wants l J m p h =
    each_earliest Wants (filter_map (λ (x : Timed). when (nat_le x.moment m) x) (filter_map (want_of l J) (members J)))
    (each_chosen Wants m (filter_map (want_of l J) (members J)) (each_read Wants (want_of l J) from (members J))) p
    h
  where
    Wants : ℕ → Type 0
    Wants q = is_some (wants J q) ≡ true

    from : (q : ℕ) (x : Timed) → want_of l J q ≡ Some x → is_some (wants J x.number) ≡ true
    from q x g = one (wants J q) refl g
      where
        one : (o : Option AskKind) → wants J q ≡ o
            → option_map (λ (kind : AskKind).
            (let t : Timed = record {
              number = q;
              moment = due_after l (repeat_count J q (stage_wanted J q kind))
                  (last_repeat J q (stage_wanted J q kind));
            } in t)) o ≡ Some x → is_some (wants J x.number) ≡ true
        one None e i = absurd cc
        one (Some kind) e i = let same : q ≡ x.number = cc in
            ap (λ (n : ℕ). is_some (wants J n)) (sym same) ∙ ap (λ (o : Option AskKind). is_some o) e

-- the asks are fewer than the entries, where a clerk has enrolled
clerks_and_asks : (J : History) → length (filter_map enrolled_by J) + length
    (filter_map (λ (e : Entry). asked_by e.deed) J) ≤ length J
clerks_and_asks [] = omega arith
clerks_and_asks (e ∷ es) = one e.deed (clerks_and_asks es)
  where
    one : (d : Deed) → length (filter_map enrolled_by es) + length (filter_map (λ (x : Entry). asked_by x.deed) es)
        ≤ length es
        → length (cons_option (enrolled_by (record { by = e.by; moment = e.moment; deed = d }))
        (filter_map enrolled_by es)) + length (cons_option (asked_by d)
        (filter_map (λ (x : Entry). asked_by x.deed) es)) ≤ suc (length es)
    one deed.Enrol h = omega arith
    one (deed.Ask n p kind) h = omega arith
    one (deed.Start a parent limit) h = omega arith
    one (deed.Join p a uris) h = omega arith
    one (deed.Leave p) h = omega arith
    one (deed.Close a cause) h = omega arith
    one (deed.Cancel a cause) h = omega arith
    one (deed.Skip p) h = omega arith
    one (deed.Reply n o) h = omega arith
    one (deed.Report p o) h = omega arith
    one (deed.End a x) h = omega arith
    one deed.Restart h = omega arith
    one (deed.Renew a limit) h = omega arith

not_empty : (ns : List ℕ) (n : ℕ) → is_among ns n ≡ true → 1 ≤ length ns
not_empty [] n h = absurd cc
not_empty (x ∷ ns) n h = omega arith

asks_fit : (s : Terms) (J : History) (by : ℕ) → AreKeepable s.limits → IsLawful s J → is_among (clerks J) by ≡ true
    → length (asks J) + 1 < 2 ^ 64
unfolding clerks asks
asks_fit s J by l k here =
    let some = not_empty (clerks J) by here in
    let all = clerks_and_asks J in
    let within = k.within.entries in
    let low = l.entries in
    omega arith

pub next_ask_decides : (s : Terms) (J : History) (by h : ℕ) (o : Option ℕ) → AreKeepable s.limits → IsLawful s J → h
    < 2 ^ 64 → o ≡ due s.limits J (max h (last_moment J))
    → IsDecided s J (call by h command.NextAsk) (judged.next_ask J by (max h (last_moment J)) o)
next_ask_decides s J by h o l k f is = past_clerk s J c _ refl (λ here known. one here known o is)
  where
    c : Call
    c = call by h command.NextAsk

    m : ℕ
    m = max h (last_moment J)

    n : ℕ
    n = length (asks J) + 1

    own_by : Option ℕ → Option Deed
    own_by x = option_and_then (λ p. option_map (deed.Ask n p) (wants J p)) x

    two : is_among (clerks J) by ≡ true → is_stranger J by c.command ≡ false → (p : ℕ) → due s.limits J m ≡ Some p
        → (w : Option AskKind) → wants J p ≡ w → is_some w ≡ true → IsDecided s J c (Ok (judged.ask_for J by m p w))
    two here known p g None e i = absurd cc
    two here known p g (Some kind) e i =
        let room = asks_fit s J by l k here in
        let number : judged.new_ask J ≡ n = omega arith in
        let d : Deed = deed.Ask n p kind in
        subst (λ (x : ℕ). IsDecided s J c (Ok (judged.written by m (deed.Ask x p kind)))) (sym number)
        (written_own s J c d (record {
          free = free_from s J c known tt;
          own = ap own_by g
              ∙ ap (λ (x : Option AskKind). option_map (deed.Ask n p) x) e;
        })
        (ask_allowed s J by m p kind (may s J by h k f here) e room)
        (few_of_same s.limits J _ k.within (adds_none _ refl refl refl)))

    one : is_among (clerks J) by ≡ true → is_stranger J by c.command ≡ false → (x : Option ℕ) → x ≡ due s.limits J m
        → IsDecided s J c (Ok (option_map_or (λ p. judged.ask_for J by m p (judged.wanted_by J p)) x
        (decision.Told told.Idle)))
    one here known None g =
        only_told s J c told.Idle (free_from s J c known tt) (ap own_by (sym g))
        (ap (λ (x : Option ℕ). cond (is_some x) (told.Asked (length (asks (J ++ block s J c)))) told.Idle) (sym g))
    one here known (Some p) g = two here known p (sym g) (judged.wanted_by J p) (sym (wants_found J p))
        (ap (λ (x : Option AskKind). is_some x) (wants_found J p) ∙ due_wants s.limits J m p (sym g))
