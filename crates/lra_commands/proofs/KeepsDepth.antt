-- Whatever calls are made, no action is nested deeper than the limit.
use Rattle.std.proofs.Common.{◌≡◌, ℕ, zero, suc, ◌+◌, ◌≤◌, Bool, true, false, List, [], ◌∷◌, ◌++◌, length, Option, Some}
use Rattle.std.proofs.Common.{None, refl, sym, ap, ◌∙◌, subst, append_assoc, append-nil, cond, arith, eq-eqb, eqb-true}
use Rattle.std.specs.Prelude.{◌==◌, ◌||◌, not, is_some, option_map, unwrap_or, IfSome}
use Rattle.std.specs.Option.{option_map_or, option_or, option_and_then}
use Rattle.std.specs.List.{filter_map, cons_option, find}
use Rattle.std.proofs.lemmas.Bool.{not-false, ltb-false}
use Rattle.lra_model.specs.declared.version.Version.{Version}
use Rattle.lra_model.specs.declared.asks.AskKind.{AskKind}
use Rattle.lra_model.specs.declared.asks.Cause.TheVariants as cause
use Rattle.lra_model.specs.declared.entry.Deed.{Deed}
use Rattle.lra_model.specs.declared.entry.Deed.TheVariants as deed
use Rattle.lra_model.specs.declared.entry.Entry.{Entry}
use Rattle.lra_model.specs.Words.{when}
use Rattle.lra_model.specs.History.{History, first, last, started_by, actions, members, asks, is_among}
use Rattle.lra_model.specs.Actions.{parent, lineage_within, depth}
use Rattle.lra_model.specs.Ends.{is_settled, right_end}
use Rattle.lra_model.specs.Facts.{facts_of}
use Rattle.lra_model.specs.Tests.{each_parent, at_action, may_close_with_parent, may_cancel_with_parent}
use Rattle.lra_model.specs.Rules.{is_legal}
use Rattle.lra_model.specs.Settling.{may_be_skipped, by_parent, next_settling}
use Rattle.lra_model.specs.Wants.{wants}
use Rattle.lra_laws.proofs.Push.{actions_push}
use Rattle.lra_laws.proofs.Legal.{among_push, numbered_among, numbered_fresh, actions_numbered}
use Rattle.lra_laws.proofs.Named.{parent_stays}
use Rattle.lra_laws.proofs.Named.{parent_of_new, parent_there}
use Rattle.lra_laws.proofs.Writes.{MayWrite, may_go_on}
use Rattle.lra_laws.proofs.Settled.{settling_allowed}
use Rattle.lra_ids.specs.Addresses.{is_address}
use Rattle.lra_commands.specs.declared.limits.Limits.{Limits}
use Rattle.lra_commands.specs.declared.limits.Terms.{Terms}
use Rattle.lra_commands.specs.declared.command.Command.TheVariants as command
use Rattle.lra_commands.specs.Calls.{Command}
use Rattle.lra_commands.specs.Due.{due, late}
use Rattle.lra_commands.specs.Deeds.{stored_addresses, is_open, outcome_told, is_decided, may_be_cancelled, own_deed}
use Rattle.lra_model.specs.Joins.{already_member}
use Rattle.lra_model.specs.Settling.{settling_within}
use Rattle.lra_commands.specs.Refusals.{command_grounds}
use Rattle.lra_commands.specs.Runs.{IsShallow}
use Rattle.lra_commands.proofs.KeepsGrounds.{NoneHolds}

-- ---- a lineage

-- an action's lineage stays as it is
lineage_stays : (v : Version) (t : List ℕ → Bool) (J : History) → is_legal v t J ≡ true → (e : Entry) (n a : ℕ)
    → is_among (actions J) a ≡ true → lineage_within n (J ++ e ∷ []) a ≡ lineage_within n J a
lineage_stays v t J l e zero a h = refl
lineage_stays v t J l e (suc n) a h =
    ap (λ (o : Option ℕ). a ∷ option_map_or (lineage_within n (J ++ e ∷ [])) o []) (parent_stays J e a h)
    ∙ above (parent J a) refl (lineage_stays v t J l e n)
  where
    above : (o : Option ℕ) → parent J a ≡ o → ((b : ℕ) → is_among (actions J) b ≡ true
        → lineage_within n (J ++ e ∷ []) b ≡ lineage_within n J b)
        → ◌≡◌ {A = List ℕ} (a ∷ option_map_or (lineage_within n (J ++ e ∷ [])) o [])
        (a ∷ option_map_or (lineage_within n J) o [])
    above None g up = refl
    above (Some b) g up = ap (λ (bs : List ℕ). a ∷ bs) (up b (parent_there v t J l a b g).parent)

-- as many steps as its number are enough
steps_enough : (v : Version) (t : List ℕ → Bool) (J : History) → is_legal v t J ≡ true → (n m a : ℕ) → a ≤ n → a ≤ m
    → lineage_within n J a ≡ lineage_within m J a
steps_enough v t J l zero zero a h k = refl
steps_enough v t J l zero (suc m) a h k = above (parent J a) refl
  where
    above : (o : Option ℕ) → parent J a ≡ o → ◌≡◌ {A = List ℕ} (a ∷ []) (a ∷ option_map_or (lineage_within m J) o [])
    above None g = refl
    above (Some b) g = let less = (parent_there v t J l a b g).less in absurd (omega arith)
steps_enough v t J l (suc n) zero a h k = above (parent J a) refl
  where
    above : (o : Option ℕ) → parent J a ≡ o → ◌≡◌ {A = List ℕ} (a ∷ option_map_or (lineage_within n J) o []) (a ∷ [])
    above None g = refl
    above (Some b) g = let less = (parent_there v t J l a b g).less in absurd (omega arith)
steps_enough v t J l (suc n) (suc m) a h k = above (parent J a) refl (steps_enough v t J l n m)
  where
    above : (o : Option ℕ) → parent J a ≡ o → ((b : ℕ) → b ≤ n → b ≤ m → lineage_within n J b ≡ lineage_within m J b)
        → ◌≡◌ {A = List ℕ} (a ∷ option_map_or (lineage_within n J) o []) (a ∷ option_map_or (lineage_within m J) o [])
    above None g up = refl
    above (Some b) g up = let less = (parent_there v t J l a b g).less in
        ap (λ (bs : List ℕ). a ∷ bs) (up b (omega arith) (omega arith))

depth_stays : (v : Version) (t : List ℕ → Bool) (J : History) → is_legal v t J ≡ true → (e : Entry) (a : ℕ)
    → is_among (actions J) a ≡ true → depth (J ++ e ∷ []) a ≡ depth J a
unfolding depth
depth_stays v t J l e a h = ap (λ (bs : List ℕ). length bs) (lineage_stays v t J l e a a h)

-- a new action stands one deeper than its parent
depth_of_new : (v : Version) (t : List ℕ → Bool) (J : History) → is_legal v t J ≡ true
    → (by m : ℕ) (parent_option : Option ℕ) (limit : ℕ) → each_parent (λ b. is_among (actions J) b) parent_option ≡ true
    → depth (J ++ record { by = by; moment = m; deed = deed.Start (length (actions J) + 1) parent_option limit } ∷ [])
    (length (actions J) + 1) ≡ option_map_or (λ b. depth J b + 1) parent_option 1
unfolding depth
depth_of_new v t J l by m o limit there =
    ap (λ (n : ℕ). length (lineage_within n K a)) next ∙ ap (λ (p : Option ℕ). length
    (a ∷ option_map_or (lineage_within k K) p [])) nested ∙ either o there
  where
    k : ℕ
    k = length (actions J)

    a : ℕ
    a = k + 1

    e : Entry
    e = record { by = by; moment = m; deed = deed.Start a o limit }

    K : History
    K = J ++ e ∷ []

    next : a ≡ suc k
    next = omega arith

    nested : parent K a ≡ o
    nested = parent_of_new J e a (numbered_fresh (actions J) (actions_numbered v t J l) a refl)
        ∙ ap (λ (b : Bool). unwrap_or (when b o) None) (eq-eqb a a refl)

    one_deeper : (n : ℕ) → suc n ≡ n + 1
    one_deeper n = omega arith

    either : (p : Option ℕ) → each_parent (λ b. is_among (actions J) b) p ≡ true
        → length (a ∷ option_map_or (lineage_within k K) p []) ≡ option_map_or (λ b. depth J b + 1) p 1
    either None h = refl
    either (Some b) h =
        let bound = numbered_among (actions J) (actions_numbered v t J l) b h in
        ap (λ (bs : List ℕ). length (a ∷ bs)) (lineage_stays v t J l e k b h
        ∙ steps_enough v t J l k b b bound.1 (omega arith)) ∙ one_deeper (length (lineage_within b J b))

-- ---- entries

-- a deed that starts no action
abbrev pub StartsNone : Deed → Type 0
StartsNone d = started_by d ≡ None

shallow_push : (v : Version) (t : List ℕ → Bool) (J : History) → is_legal v t J ≡ true → (l : Limits) (e : Entry)
    → IsShallow l J → ((a : ℕ) → started_by e.deed ≡ Some a → depth (J ++ e ∷ []) a ≤ l.depth)
    → IsShallow l (J ++ e ∷ [])
shallow_push v t J legal l e h new a there =
    either (is_among (actions J) a) refl (started_by e.deed) refl
    (sym (ap (λ (ns : List ℕ). is_among ns a) (actions_push J e) ∙ among_push (actions J) (started_by e.deed) a)
    ∙ there)
  where
    either : (x : Bool) → is_among (actions J) a ≡ x → (o : Option ℕ) → started_by e.deed ≡ o
        → (x || option_map_or (λ m. m == a) o false) ≡ true → depth (J ++ e ∷ []) a ≤ l.depth
    either true g o i k = rw (depth_stays v t J legal e a g) (h a g)
    either false g None i k = absurd cc
    either false g (Some n) i k = new a (i ∙ ap (λ (m : ℕ). Some m) (eqb-true n a k))

never : (o : Option Deed) → IfSome o StartsNone → (d : Deed) → o ≡ Some d → (a : ℕ) → started_by d ≡ Some a → ⊥
never None n d h a i = absurd cc
never (Some e) n d h a i = let same : e ≡ d = cc in let two = sym n ∙ (ap started_by same ∙ i) in absurd cc

-- ---- what settles

either_or : (o p : Option Deed) → IfSome o StartsNone → IfSome p StartsNone → IfSome (option_or o p) StartsNone
either_or None p h k = k
either_or (Some x) p h k = h

mapped : (f : ℕ → Deed) (o : Option ℕ) → ((a : ℕ) → StartsNone (f a)) → IfSome (option_map f o) StartsNone
mapped f None h = tt
mapped f (Some a) h = h a

given_when : (b : Bool) (d : Deed) → StartsNone d → IfSome (when b d) StartsNone
given_when true d h = h
given_when false d h = tt

chosen : (b : Bool) (o p : Option Deed) → IfSome o StartsNone → IfSome p StartsNone → IfSome (cond b o p) StartsNone
chosen true o p h k = h
chosen false o p h k = k

first_of : (f : ℕ → Option Deed) (ns : List ℕ) → ((a : ℕ) → IfSome (f a) StartsNone)
    → IfSome (first (filter_map f ns)) StartsNone
first_of f [] h = tt
first_of f (n ∷ ns) h = one (f n) (h n) (first_of f ns h)
  where
    one : (o : Option Deed) → IfSome o StartsNone → IfSome (first (filter_map f ns)) StartsNone
        → IfSome (first (cons_option o (filter_map f ns))) StartsNone
    one None h k = k
    one (Some d) h k = h

-- what settles a history starts no action
settling_starts_none : (J : History) → IfSome (next_settling J) StartsNone
unfolding next_settling
settling_starts_none J =
    either_or _ _ (mapped (λ p. deed.Skip p) (find (may_be_skipped J) (members J)) (λ p. refl))
    (either_or _ _ (first_of (by_parent J) (actions J) (λ a.
    chosen (at_action (may_close_with_parent (facts_of J)) (facts_of J) a) (Some (deed.Close a cause.Parent))
    (cond (at_action (may_cancel_with_parent (facts_of J)) (facts_of J) a) (Some (deed.Cancel a cause.Parent)) None)
    refl
    (chosen (at_action (may_cancel_with_parent (facts_of J)) (facts_of J) a) (Some (deed.Cancel a cause.Parent)) None
    refl tt)))
    (mapped (λ a. deed.End a (right_end J a)) (last (filter_map (λ a. cond (is_settled J a) (Some a) None) (actions J)))
    (λ a. refl)))

pub settling_shallow : (v : Version) (t : List ℕ → Bool) (l : Limits) (n by m : ℕ) (J : History) → MayWrite v t J by m
    → IsShallow l J → IsShallow l (J ++ settling_within n by m J)
settling_shallow v t l zero by m J w h = subst (IsShallow l) (sym (append-nil J)) h
settling_shallow v t l (suc n) by m J w h = next (next_settling J) refl (settling_starts_none J)
    (λ K. settling_shallow v t l n by m K)
  where
    next : (o : Option Deed) → next_settling J ≡ o → IfSome o StartsNone
        → ((K : History) → MayWrite v t K by m → IsShallow l K → IsShallow l (K ++ settling_within n by m K))
        → IsShallow l (J ++ option_map_or
        (λ (d : Deed). (let e : Entry = record { by = by; moment = m; deed = d } in e) ∷ settling_within n by m
        (J ++ (let e : Entry = record { by = by; moment = m; deed = d } in e) ∷ [])) o [])
    next None g none rest = subst (IsShallow l) (sym (append-nil J)) h
    next (Some d) g none rest =
        let e : Entry = record { by = by; moment = m; deed = d } in
        let k = may_go_on v t J by m d w.legal (settling_allowed v t J by m d w g) in
        let after = shallow_push v t J w.legal l e h (λ a i. absurd (never (Some d) none d refl a i)) in
        subst (IsShallow l) (append_assoc J (e ∷ []) (settling_within n by m (J ++ e ∷ [])))
        (rest (J ++ e ∷ []) k after)

-- ---- the own entry

-- no command but Start starts an action
others_start_none : (s : Terms) (J : History) (m : ℕ) (c : Command) → ((parent_option : Option ℕ) (limit : ℕ) → c
    ≡ command.Start parent_option limit → ⊥) → IfSome (own_deed s J m c) StartsNone
others_start_none s J m command.Enrol h = refl
others_start_none s J m (command.Start o limit) h = absurd (h o limit refl)
others_start_none s J m (command.Join a uris) h = chosen (is_some (already_member J a (stored_addresses uris.now))) None
    (Some (deed.Join (length (members J) + 1) a (stored_addresses uris.now))) tt refl
others_start_none s J m (command.Leave a p) h = refl
others_start_none s J m (command.Close a) h = given_when (is_open J a) (deed.Close a cause.Client) refl
others_start_none s J m (command.Cancel a) h = given_when (may_be_cancelled s J a) (deed.Cancel a cause.Client) refl
others_start_none s J m command.Tick h = mapped (λ a. deed.Cancel a cause.Limit) (late J m) (λ a. refl)
others_start_none s J m command.NextAsk h = asked (due s.limits J m)
  where
    of_kind : (p : ℕ) (o : Option AskKind) → IfSome (option_map (deed.Ask (length (asks J) + 1) p) o) StartsNone
    of_kind p None = tt
    of_kind p (Some kind) = refl

    asked : (o : Option ℕ) → IfSome (option_and_then (λ p. option_map (deed.Ask (length (asks J) + 1) p) (wants J p)) o)
        StartsNone
    asked None = tt
    asked (Some p) = of_kind p (wants J p)
others_start_none s J m (command.Record errand o) h = refl
others_start_none s J m (command.Report p e) h = given_when (not (is_decided J p e)) (deed.Report p (outcome_told e))
    refl
others_start_none s J m command.Restart h = refl
others_start_none s J m (command.Renew a limit) h = refl
others_start_none s J m (command.Status a) h = tt
others_start_none s J m (command.MemberStatus p) h = tt

-- the action that a call starts is not too deep
own_depth : (s : Terms) (J : History) (by m w : ℕ) (c : Command) → is_legal s.version is_address J ≡ true
    → NoneHolds (command_grounds s J m c) → (d : Deed) → own_deed s J m c ≡ Some d
    → (a : ℕ) → started_by d ≡ Some a → depth (J ++ record { by = by; moment = w; deed = d } ∷ []) a ≤ s.limits.depth
own_depth s J by m w (command.Start o limit) l u d h a i =
    subst (λ (x : Deed). (b : ℕ) → started_by x ≡ Some b
    → depth (J ++ (let e : Entry = record { by = by; moment = w; deed = x } in e) ∷ []) b ≤ s.limits.depth) same
    of_start a i
  where
    n : ℕ
    n = length (actions J) + 1

    same : deed.Start n o limit ≡ d
    same = cc

    deep : depth (J ++ (let e : Entry = record { by = by; moment = w; deed = deed.Start n o limit } in e) ∷ [])
        n ≤ s.limits.depth
    deep = rw (depth_of_new s.version is_address J l by w o limit (not-false _ u.0))
        (ltb-false s.limits.depth (option_map_or (λ b. depth J b + 1) o 1) u.1.1.1.0)

    of_start : (b : ℕ) → started_by (deed.Start n o limit) ≡ Some b
        → depth (J ++ (let e : Entry = record { by = by; moment = w; deed = deed.Start n o limit } in e) ∷ [])
        b ≤ s.limits.depth
    of_start b j = let is : n ≡ b = cc in
        subst (λ (x : ℕ). depth (J ++ (let e : Entry = record { by = by; moment = w; deed = deed.Start n o limit } in
        e) ∷ []) x ≤ s.limits.depth) is deep
own_depth s J by m w c l u d h a i =
    absurd (never (own_deed s J m c) (others_start_none s J m c (λ o limit k. absurd cc)) d h a i)

pub own_shallow : (s : Terms) (J : History) (by m w : ℕ) (c : Command) → is_legal s.version is_address J ≡ true
    → NoneHolds (command_grounds s J m c) → (d : Deed) → own_deed s J m c ≡ Some d → IsShallow s.limits J
    → IsShallow s.limits (J ++ record { by = by; moment = w; deed = d } ∷ [])
own_shallow s J by m w c l u d h shallow = shallow_push s.version is_address J l s.limits
    (let e : Entry = record { by = by; moment = w; deed = d } in e) shallow (own_depth s J by m w c l u d h)
