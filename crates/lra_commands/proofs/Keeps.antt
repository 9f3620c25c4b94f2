-- Whatever calls are made, the history stays legal and within the limits.
use Rattle.std.proofs.Common.{◌≡◌, ℕ, zero, suc, ◌≤◌, ◌<◌, ◌+◌, ◌^◌, Bool, true, false, List, [], ◌∷◌, ◌++◌, length}
use Rattle.std.proofs.Common.{Option, Some, None, refl, sym, ap, ◌∙◌, subst, append_assoc, append-nil, cond, arith}
use Rattle.std.proofs.Common.{length-append}
use Rattle.std.proofs.lemmas.Bool.{not-false, not-true, lt-ltb, ltb-true}
use Rattle.std.proofs.lemmas.List.Elements.{All-head, All-tail, filter_map-append}
use Rattle.std.specs.Prelude.{not, max, is_some, option_map}
use Rattle.std.specs.Option.{option_map_or, option_and_then}
use Rattle.std.specs.List.{filter_map, cons_option}
use Rattle.lra_model.specs.declared.version.Version.{Version}
use Rattle.lra_model.specs.declared.asks.AskKind.{AskKind}
use Rattle.lra_model.specs.declared.asks.Cause.TheVariants as cause
use Rattle.lra_model.specs.declared.entry.Deed.{Deed}
use Rattle.lra_model.specs.declared.entry.Deed.TheVariants as deed
use Rattle.lra_model.specs.declared.entry.Entry.{Entry}
use Rattle.lra_model.specs.Words.{when}
use Rattle.lra_model.specs.History.{History, enrolled_by, started_by, joined_by, asked_by, clerks, actions, members}
use Rattle.lra_model.specs.History.{asks, is_among, last_moment}
use Rattle.lra_model.specs.Rules.{is_number, is_legal}
use Rattle.lra_model.specs.Settling.{next_settling}
use Rattle.lra_model.specs.Wants.{wants}
use Rattle.lra_laws.proofs.Legal.{Allowed, legal_empty}
use Rattle.lra_laws.proofs.Ranges.{last_moment_in_range}
use Rattle.lra_laws.proofs.Writes.{MayWrite, may_enrol, may_go_on}
use Rattle.lra_laws.proofs.Settled.{settling_allowed}
use Rattle.lra_ids.specs.Addresses.{is_address}
use Rattle.lra_commands.specs.declared.limits.Limits.{Limits}
use Rattle.lra_commands.specs.declared.command.Command.TheVariants as command
use Rattle.lra_commands.specs.declared.refusal.Refusal.{Refusal}
use Rattle.lra_commands.specs.declared.limits.Terms.{Terms}
use Rattle.lra_commands.specs.Terms.{AreKeepable}
use Rattle.lra_commands.specs.Calls.{Command, Call, moment_of, IsCall}
use Rattle.lra_commands.specs.Due.{due, late}
use Rattle.lra_commands.specs.Deeds.{stored_addresses, is_open, outcome_told, is_decided, may_be_cancelled, own_deed}
use Rattle.lra_commands.specs.Deeds.{entry_of}
use Rattle.lra_model.specs.Joins.{already_member}
use Rattle.lra_commands.specs.Blocks.{block}
use Rattle.lra_model.specs.Settling.{settling_within, most_settling, settling, with_settling}
use Rattle.lra_commands.specs.Refusals.{refused}
use Rattle.lra_commands.specs.Answers.{growth, after_call}
use Rattle.lra_commands.specs.Runs.{IsWithin, IsShallow, IsLawful, CallsKeepHistories, CallsMakeHistories}
use Rattle.lra_commands.proofs.KeepsGrounds.{IsUnrefused, unrefused, within_after}
use Rattle.lra_commands.proofs.KeepsDepth.{settling_shallow, own_shallow}
use Rattle.lra_commands.proofs.KeepsOwn.{Writes, IsAllowed, start_allowed, close_allowed, cancel_allowed, tick_allowed}
use Rattle.lra_commands.proofs.KeepsOwn.{renew_allowed, join_allowed, leave_allowed, report_allowed, ask_allowed}
use Rattle.lra_commands.proofs.KeepsOwn.{reply_allowed, restart_allowed}

-- ---- counts only grow

read_grows : {X Y : Type 0} (h : X → Option Y) (xs ys : List X) → length (filter_map h xs)
    ≤ length (filter_map h (xs ++ ys))
read_grows {Y = Y} h xs ys =
    let e : length (filter_map h (xs ++ ys)) ≡ length (filter_map h xs ++ filter_map h ys) =
    ap (λ (zs : List Y). length zs) (filter_map-append h xs ys) in
    omega (arith, length-append (filter_map h xs) (filter_map h ys))

-- a history after one entry is within the limits where it is after more
within_first : (l : Limits) (J : History) (e : Entry) (es : List Entry) → IsWithin l (J ++ (e ∷ es))
    → IsWithin l (J ++ e ∷ [])
unfolding clerks actions members
within_first l J e es w =
    let clerks = read_grows enrolled_by (J ++ e ∷ []) es in
    let actions = read_grows (λ (x : Entry). started_by x.deed) (J ++ e ∷ []) es in
    let members = read_grows (λ (x : Entry). joined_by x.deed) (J ++ e ∷ []) es in
    let k = subst (IsWithin l) (sym (append_assoc J (e ∷ []) es)) w in
    let c = k.clerks in
    let a = k.actions in
    let m = k.members in
    let n = k.entries in
    record {
      clerks = omega arith;
      actions = omega arith;
      members = omega arith;
      entries =
          omega (arith, length-append (J ++ e ∷ []) es);
    }

-- one number read of the new entry
one_more : {X : Type 0} (h : X → Option ℕ) (xs : List X) (x : X) (n : ℕ) → h x ≡ Some n
    → length (filter_map h (xs ++ x ∷ [])) ≡ length (filter_map h xs) + 1
one_more h xs x n g =
    ap (λ (zs : List ℕ). length zs) (filter_map-append h xs (x ∷ []) ∙ ap
    (λ (o : Option ℕ). filter_map h xs ++ cons_option o []) g) ∙ length-append (filter_map h xs) (n ∷ [])

read_most : {X : Type 0} (h : X → Option ℕ) (xs : List X) → length (filter_map h xs) ≤ length xs
read_most h [] = let z : 0 ≤ 0 = omega arith in z
read_most {X = X} h (x ∷ xs) = one (h x) (read_most h xs)
  where
    one : (o : Option ℕ) → length (filter_map h xs) ≤ length xs → length (cons_option o (filter_map h xs))
        ≤ suc (length xs)
    one None g = omega arith
    one (Some n) g = omega arith

-- ---- the entries that settle

-- an entry, and those that follow it
after_entry : (J : History) (e : Entry) (es : List Entry) → J ++ (e ∷ es) ≡ (J ++ e ∷ []) ++ es
after_entry J e es = sym (append_assoc J (e ∷ []) es)

settling_legal : (v : Version) (t : List ℕ → Bool) (n by m : ℕ) (J : History) → MayWrite v t J by m
    → is_legal v t (J ++ settling_within n by m J) ≡ true
settling_legal v t zero by m J w = ap (is_legal v t) (append-nil J) ∙ w.legal
settling_legal v t (suc n) by m J w = next (next_settling J) refl (λ K. settling_legal v t n by m K)
  where
    next : (o : Option Deed) → next_settling J ≡ o → ((K : History) → MayWrite v t K by m
        → is_legal v t (K ++ settling_within n by m K) ≡ true)
        → is_legal v t (J ++ option_map_or
        (λ (d : Deed). (let e : Entry = record { by = by; moment = m; deed = d } in e) ∷ settling_within n by m
        (J ++ (let e : Entry = record { by = by; moment = m; deed = d } in e) ∷ [])) o []) ≡ true
    next None g rest = ap (is_legal v t) (append-nil J) ∙ w.legal
    next (Some d) g rest =
        let e : Entry = record { by = by; moment = m; deed = d } in
        let k = may_go_on v t J by m d w.legal (settling_allowed v t J by m d w g) in
        ap (is_legal v t) (after_entry J e (settling_within n by m (J ++ e ∷ []))) ∙ rest (J ++ e ∷ []) k

-- ---- the own entry

-- a moment isn't before the last one, and is a number
moment_later : (J : History) (m : ℕ) → last_moment J ≤ max m (last_moment J)
moment_later J m = omega arith

moment_fits : (s : Terms) (J : History) (m : ℕ) → is_legal s.version is_address J ≡ true → m < 2 ^ 64
    → is_number (max m (last_moment J)) ≡ true
moment_fits s J m l h =
    let k = ltb-true (last_moment J) (2 ^ 64) (last_moment_in_range s.version is_address J l) in
    lt-ltb (max m (last_moment J)) (2 ^ 64) (omega arith)

enrolled_writes : (s : Terms) (J : History) (by m : ℕ) → IsLawful s J → m < 2 ^ 64 → not (is_among (clerks J) by)
    ≡ false → Writes s J by (max m (last_moment J))
enrolled_writes s J by m k h g = record {
  legal = k.legal;
  clerk = not-false _ g;
  moment = moment_later J m;
  fits =
      moment_fits s J m k.legal h;
}

-- the deed of a test that holds
when_holds : (b : Bool) (x d : Deed) → when b x ≡ Some d → (b ≡ true) × (x ≡ d)
when_holds true x d h = (refl, cc)
when_holds false x d h = absurd cc

-- what a call writes of its own is allowed
own_allowed : (s : Terms) (J : History) (by m : ℕ) (c : Command) → AreKeepable s.limits → IsLawful s J
    → IsCall (record { by = by; moment = m; command = c }) → IsUnrefused s J
    (record { by = by; moment = m; command = c })
    → (d : Deed) → own_deed s J (max m (last_moment J)) c ≡ Some d → IsWithin s.limits
    (J ++ entry_of J (record { by = by; moment = m; command = c }) d ∷ [])
    → Allowed s.version is_address J (entry_of J (record { by = by; moment = m; command = c }) d)
unfolding clerks actions members asks
own_allowed s J by m command.Enrol l k call u d h w =
    let e : deed.Enrol ≡ d = cc in
    let x : Entry = record { by = length (clerks J) + 1; moment = max m (last_moment J); deed = deed.Enrol } in
    let count : length (clerks (J ++ x ∷ [])) ≡ length (clerks J) + 1 =
    one_more enrolled_by J x (length (clerks J) + 1) refl in
    let v : IsWithin s.limits (J ++ x ∷ []) = subst (λ (y : Deed). IsWithin s.limits
    (J ++ entry_of J (record { by = by; moment = m; command = command.Enrol }) y ∷ [])) (sym e) w in
    let most = v.clerks in
    let low = l.clerks in
    subst (λ (y : Deed). Allowed s.version is_address J (record {
      by = length (clerks J)
          + 1;
      moment = max m (last_moment J);
      deed = y;
    })) e
    (may_enrol s.version is_address J (max m (last_moment J)) (lt-ltb (length (clerks J) + 1) (2 ^ 32) (omega arith))
    (moment_later J m) (moment_fits s J m k.legal call.moment))
own_allowed s J by m (command.Start parent limit) l k call u d h w =
    let n : ℕ = length (actions J) + 1 in
    let e : deed.Start n parent limit ≡ d = cc in
    let x : Entry = record { by = by; moment = max m (last_moment J); deed = deed.Start n parent limit } in
    let count : length (actions (J ++ x ∷ [])) ≡ length (actions J) + 1 =
    one_more (λ (y : Entry). started_by y.deed) J x n refl in
    let v : IsWithin s.limits (J ++ x ∷ []) = subst
    (λ (y : Deed). IsWithin s.limits
    (J ++ (let z : Entry = record { by = by; moment = max m (last_moment J); deed = y } in z) ∷ [])) (sym e) w in
    let most = v.actions in
    let low = l.actions in
    subst (IsAllowed s J by (max m (last_moment J))) e (start_allowed s J by (max m (last_moment J)) parent limit
    (enrolled_writes s J by m k call.moment u.known) u.fits (omega arith))
own_allowed s J by m (command.Join a uris) l k call u d h w = fresh (is_some
    (already_member J a (stored_addresses uris.now))) h
  where
    n : ℕ
    n = length (members J) + 1

    fresh : (b : Bool) → cond b None (Some (deed.Join n a (stored_addresses uris.now))) ≡ Some d
        → IsAllowed s J by (max m (last_moment J)) d
    fresh true g = absurd cc
    fresh false g =
        let e : deed.Join n a (stored_addresses uris.now) ≡ d = cc in
        let x : Entry = record {
          by = by;
          moment = max m (last_moment J);
          deed =
              deed.Join n a (stored_addresses uris.now);
        } in
        let count : length (members (J ++ x ∷ [])) ≡ length (members J)
        + 1 = one_more (λ (y : Entry). joined_by y.deed) J x n refl in
        let v : IsWithin s.limits (J ++ x ∷ []) = subst
        (λ (y : Deed). IsWithin s.limits
        (J ++ (let z : Entry = record { by = by; moment = max m (last_moment J); deed = y } in z) ∷ []))
        (sym e) w in
        let most = v.members in
        let low = l.members in
        subst (IsAllowed s J by (max m (last_moment J))) e
        (join_allowed s J by (max m (last_moment J)) a uris.now (enrolled_writes s J by m k call.moment u.known)
        (not-false _ u.fits.0) (not-false _ u.fits.1.0) (not-false _ u.fits.1.1.0) call.fits (omega arith))
own_allowed s J by m (command.Leave a p) l k call u d h w =
    let e : deed.Leave p ≡ d = cc in
    subst (IsAllowed s J by (max m (last_moment J))) e (leave_allowed s J by (max m (last_moment J)) a p
    (enrolled_writes s J by m k call.moment u.known) u.fits)
own_allowed s J by m (command.Close a) l k call u d h w =
    let g = when_holds (is_open J a) (deed.Close a cause.Client) d h in
    subst (IsAllowed s J by (max m (last_moment J))) g.1 (close_allowed s J by (max m (last_moment J)) a
    (enrolled_writes s J by m k call.moment u.known) u.fits g.0)
own_allowed s J by m (command.Cancel a) l k call u d h w =
    let g = when_holds (may_be_cancelled s J a) (deed.Cancel a cause.Client) d h in
    subst (IsAllowed s J by (max m (last_moment J))) g.1 (cancel_allowed s J by (max m (last_moment J)) a
    (enrolled_writes s J by m k call.moment u.known) g.0)
own_allowed s J by m command.Tick l k call u d h w = one (late J (max m (last_moment J))) refl h
  where
    one : (o : Option ℕ) → late J (max m (last_moment J)) ≡ o → option_map (λ (a : ℕ). deed.Cancel a cause.Limit) o
        ≡ Some d → IsAllowed s J by (max m (last_moment J)) d
    one None g i = absurd cc
    one (Some a) g i =
        let e : deed.Cancel a cause.Limit ≡ d = cc in
        subst (IsAllowed s J by (max m (last_moment J))) e (tick_allowed s J by (max m (last_moment J)) a
        (enrolled_writes s J by m k call.moment u.known) g)
own_allowed s J by m command.NextAsk l k call u d h w = one (due s.limits J (max m (last_moment J))) h
  where
    n : ℕ
    n = length (asks J) + 1

    two : (p : ℕ) (o : Option AskKind) → wants J p ≡ o → option_map (deed.Ask n p) o ≡ Some d
        → IsAllowed s J by (max m (last_moment J)) d
    two p None g i = absurd cc
    two p (Some kind) g i =
        let e : deed.Ask n p kind ≡ d = cc in
        let most = read_most (λ (y : Entry). asked_by y.deed) J in
        let count = length-append J (entry_of J (record { by = by; moment = m; command = command.NextAsk }) d ∷ []) in
        let all = w.entries in
        let low = l.entries in
        subst (IsAllowed s J by (max m (last_moment J))) e (ask_allowed s J by (max m (last_moment J)) p kind
        (enrolled_writes s J by m k call.moment u.known) g (omega arith))

    one : (o : Option ℕ) → option_and_then (λ p. option_map (deed.Ask n p) (wants J p)) o ≡ Some d
        → IsAllowed s J by (max m (last_moment J)) d
    one None i = absurd cc
    one (Some p) i = two p (wants J p) refl i
own_allowed s J by m (command.Record errand o) l k call u d h w =
    let e : deed.Reply errand.now.ask o ≡ d = cc in
    subst (IsAllowed s J by (max m (last_moment J))) e (reply_allowed s J by (max m (last_moment J)) errand.now o
    (enrolled_writes s J by m k call.moment u.known) (not-false _ u.fits.0) call.fits)
own_allowed s J by m (command.Report p x) l k call u d h w =
    let g = when_holds (not (is_decided J p x)) (deed.Report p (outcome_told x)) d h in
    subst (IsAllowed s J by (max m (last_moment J))) g.1 (report_allowed s J by (max m (last_moment J)) p x
    (enrolled_writes s J by m k call.moment u.known) u.fits (not-true _ g.0))
own_allowed s J by m command.Restart l k call u d h w =
    let e : deed.Restart ≡ d = cc in
    subst (IsAllowed s J by (max m (last_moment J))) e (restart_allowed s J by (max m (last_moment J))
    (enrolled_writes s J by m k call.moment u.known))
own_allowed s J by m (command.Renew a limit) l k call u d h w =
    let e : deed.Renew a limit ≡ d = cc in
    subst (IsAllowed s J by (max m (last_moment J))) e (renew_allowed s J by (max m (last_moment J)) a limit
    (enrolled_writes s J by m k call.moment u.known) u.fits)
own_allowed s J by m (command.Status a) l k call u d h w = absurd cc
own_allowed s J by m (command.MemberStatus p) l k call u d h w = absurd cc

-- ---- calls

-- a call that isn't refused keeps a history
block_keeps : (s : Terms) (J : History) (c : Call) → AreKeepable s.limits → IsLawful s J → IsCall c → IsUnrefused s J c
    → IsLawful s (J ++ block s J c)
unfolding block
block_keeps s J c l k call u = by_deed (own_deed s J (moment_of J c) c.command) refl
  where
    by_deed : (o : Option Deed) → own_deed s J (moment_of J c) c.command ≡ o
        → IsLawful s (J ++ option_map_or (with_settling J) (option_map (entry_of J c) o) [])
    by_deed None g = subst (IsLawful s) (sym (append-nil J)) k
    by_deed (Some d) g =
        let e : Entry = entry_of J c d in
        let es : List Entry = settling e.by e.moment (J ++ e ∷ []) in
        let same : block s J c ≡ e ∷ es = ap (λ (o : Option Deed). option_map_or (with_settling J)
        (option_map (entry_of J c) o) []) g in
        let within = within_after s J c e es u same in
        let allow = own_allowed s J c.by c.moment c.command l k call u d g (within_first s.limits J e es within) in
        record {
          legal = ap (is_legal s.version is_address) (after_entry J e es)
              ∙ settling_legal s.version is_address (most_settling (J ++ e ∷ [])) e.by e.moment (J ++ e ∷ [])
              (may_go_on s.version is_address J e.by e.moment d k.legal allow);
          within = within;
          shallow = subst (IsShallow s.limits) (sym (after_entry J e es))
              (settling_shallow s.version is_address s.limits (most_settling (J ++ e ∷ [])) e.by e.moment (J ++ e ∷ [])
              (may_go_on s.version is_address J e.by e.moment d k.legal allow)
              (own_shallow s J e.by (moment_of J c) e.moment c.command k.legal u.fits d g k.shallow));
        }

-- a call keeps a history
pub call_keeps : (s : Terms) (J : History) (c : Call) → AreKeepable s.limits → IsLawful s J → IsCall c
    → IsLawful s (after_call s J c)
unfolding growth
call_keeps s J c l k call = by_refusal (refused s J c) refl
  where
    by_refusal : (o : Option Refusal) → refused s J c ≡ o → IsLawful s (J ++ cond (is_some o) [] (block s J c))
    by_refusal (Some r) g = subst (IsLawful s) (sym (append-nil J)) k
    by_refusal None g = block_keeps s J c l k call (unrefused s J c g)

-- so do calls, one after another
pub calls_keep : CallsKeepHistories
calls_keep s J [] l k calls = k
calls_keep s J (c ∷ cs) l k calls = calls_keep s (after_call s J c) cs l
    (call_keeps s J c l k (All-head IsCall c cs calls)) (All-tail IsCall c cs calls)

-- no entries are legal, and within any limits
pub lawful_from_nothing : (s : Terms) → IsLawful s []
unfolding clerks actions members
lawful_from_nothing s = record {
  legal = legal_empty s.version is_address;
  within =
      record { clerks = omega arith; actions = omega arith; members = omega arith; entries = omega arith };
  shallow =
      λ a h. absurd cc;
}

pub calls_make : CallsMakeHistories
calls_make s cs l calls = calls_keep s [] cs l (lawful_from_nothing s) calls
