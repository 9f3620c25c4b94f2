-- The snapshot of no entries; and no count of a snapshot is more than its entries, so that there is room for one more.
use Rattle.std.proofs.Common.{◌≡◌, ℕ, zero, suc, ◌+◌, ◌<◌, ◌≤◌, ◌^◌, ◌==◌, Bool, true, false, List, [], ◌∷◌, ◌++◌}
use Rattle.std.proofs.Common.{length, map, Option, Some, None, refl, sym, ap, arith, subst, IfSome, count_by}
use Rattle.std.specs.Prelude.{◌&&◌}
use Rattle.std.specs.Option.{option_map_or}
use Rattle.std.specs.List.{filter_map, cons_option}
use Rattle.lra_model.specs.declared.entry.Entry.{Entry}
use Rattle.lra_model.specs.declared.version.Version.{Version}
use Rattle.lra_model.specs.declared.status.ActionStatus.{ActionStatus}
use Rattle.lra_model.specs.declared.status.MemberStatus.{MemberStatus}
use Rattle.lra_model.specs.declared.asks.AskKind.{AskKind}
use Rattle.lra_model.specs.declared.asks.AskKind.TheVariants as ask
use Rattle.lra_model.specs.declared.entry.Deed.{Deed}
use Rattle.lra_model.specs.declared.entry.Deed.TheVariants.{Enrol, Ask}
use Rattle.lra_model.specs.Words.{when, has_failed, same_kind, is_undecided}
use Rattle.lra_model.specs.History.{History, steps_after, steps, clerks, actions, started_by, members, joined_by, asks}
use Rattle.lra_model.specs.History.{is_among, last_moment}
use Rattle.lra_model.specs.Members.{Replied, replied_at, replies}
use Rattle.lra_model.specs.Wants.{stage_of, repeats, repeat_count}
use Rattle.lra_model.specs.Actions.{parent, lineage_within, depth}
use Rattle.lra_model.specs.Ends.{action_is}
use Rattle.lra_model.specs.Rules.{is_legal}
use Rattle.lra_laws.specs.Snapshots.{StateSnapshot, nesting_of, endpoint_of, asks_made, snapshot_of, StandsFor, Follows}
use Rattle.lra_laws.specs.Rows.{state_of, void_asks, one, row_at, action_row, member_row, count_staying, count_children}
use Rattle.lra_laws.specs.Rows.{is_left_to_complete, is_left_to_compensate, is_uncompleted, is_uncompensated}
use Rattle.lra_laws.specs.Rows.{is_unended, is_uncancelled}
use Rattle.lra_states.specs.Counts.{CountsTo}
use Rattle.lra_states.specs.inner.Changes.{TakesNextNumber}
use Rattle.lra_states.proofs.Counting.{CountsTo-more}
use Rattle.lra_rows.specs.inner.Counts.{RepeatsTo, DeepTo, CanCount}
use Rattle.lra_laws.proofs.Legal.{IsNumbered, numbered_among, actions_numbered, members_numbered, allowed}
use Rattle.lra_laws.proofs.Told.{Told, told}
use Rattle.lra_laws.proofs.AskList.{asks_count}
use Rattle.lra_laws.proofs.RowLists.{count_cons, row_there, row_absent}
use Rattle.lra_laws.proofs.ActionWords.{counts_in, staying_count, is_parent, children_count}

count-le : {X : Type 0} (f : X → Bool) (xs : List X) → count_by f xs ≤ length xs
count-le f [] = omega arith
count-le f (x ∷ xs) = let h = count-le f xs in let k = count_cons f x xs in let o = one-le (f x) in omega arith
  where
    one-le : (b : Bool) → one b ≤ 1
    one-le true = omega arith
    one-le false = omega arith

read-le : {X Y : Type 0} (f : X → Option Y) (xs : List X) → length (filter_map f xs) ≤ length xs
read-le f [] = omega arith
read-le {Y = Y} f (x ∷ xs) = either (f x) (read-le f xs)
  where
    either : (o : Option Y) → length (filter_map f xs) ≤ length xs → length (cons_option o (filter_map f xs))
        ≤ length (x ∷ xs)
    either None h = omega arith
    either (Some y) h = omega arith

members-le : (J : History) → length (members J) ≤ length J
unfolding members
members-le J = read-le (λ (e : Entry). joined_by e.deed) J

actions-le : (J : History) → length (actions J) ≤ length J
unfolding actions
actions-le J = read-le (λ (e : Entry). started_by e.deed) J

row_counts : (v : Version) (t : List ℕ → Bool) (J : History) → is_legal v t J ≡ true → (a : ℕ)
    → CountsTo (length J) (action_row J a)
row_counts v t J l a = record {
  completing = staying is_left_to_complete;
  compensating = staying is_left_to_compensate;
  uncompleted = staying is_uncompleted;
  uncompensated = staying is_uncompensated;
  unended = nested is_unended;
  uncancelled = nested is_uncancelled;
  failed = nested has_failed;
}
  where
    staying : (test : MemberStatus → Bool) → count_staying test J a ≤ length J
    staying test =
        let e = staying_count v t J l test a in
        let h = count-le (λ p. counts_in test a (member_row J p)) (members J) in
        let k = members-le J in omega arith

    nested : (test : ActionStatus → Bool) → count_children test J a ≤ length J
    nested test =
        let e = children_count v t J l test a in
        let h = count-le (λ c. is_parent a (parent J c) && action_is test J c) (actions J) in
        let k = actions-le J in omega arith

-- nothing has happened
pub snapshot_empty : snapshot_of []
    ≡ record {
      entries = 0;
      state = record { moment = 0; clerks = 0; asks = 0; void = 0; actions = []; members = [] };
      nestings = [];
      endpoints = [];
      asks = [];
    }
unfolding steps clerks actions members asks last_moment void_asks asks_made
snapshot_empty = refl

steps-length : (past es : History) → length (steps_after past es) ≡ length es
steps-length past [] = refl
steps-length past (e ∷ es) = ap (λ (n : ℕ). suc n) (steps-length (past ++ e ∷ []) es)

repeats-le : (J : History) (p : ℕ) (stage : AskKind) → repeat_count J p stage ≤ length J
unfolding repeats replies steps
repeats-le J p stage =
    let a = read-le (λ (r : Replied). when ((r.to.member == p) && same_kind (stage_of r.to.kind r.to.direction) stage
    && is_undecided r.outcome) r.moment) (filter_map replied_at (steps_after [] J)) in
    let b = read-le replied_at (steps_after [] J) in
    let c = steps-length [] J in omega arith

lineage_within-le : (n : ℕ) (J : History) (a : ℕ) → length (lineage_within n J a) ≤ suc n
lineage_within-le zero J a = omega arith
lineage_within-le (suc n) J a = above (parent J a) (λ b. lineage_within-le n J b)
  where
    above : (o : Option ℕ) → ((b : ℕ) → length (lineage_within n J b) ≤ suc n)
        → length (a ∷ option_map_or (lineage_within n J) o []) ≤ suc (suc n)
    above None h = omega arith
    above (Some b) h = let k = h b in omega arith

depth-le : (v : Version) (t : List ℕ → Bool) (J : History) → is_legal v t J ≡ true → (a : ℕ) → is_among (actions J) a
    ≡ true → depth J a ≤ length J + 1
unfolding depth
depth-le v t J l a h = let k = lineage_within-le a J a in
    let g = numbered_among (actions J) (actions_numbered v t J l) a h in let m = actions-le J in omega (arith, g.1)

-- a bound of each row that is there
rows_bounded : {R : Type 0} (P : R → Type 0) (g : ℕ → R) (ns : List ℕ) → IsNumbered ns
    → ((n : ℕ) → is_among ns n ≡ true → P (g n)) → (n : ℕ) → IfSome (row_at (map g ns) n) P
rows_bounded {R = R} P g ns numbered each n = decide (is_among ns n) refl
  where
    decide : (b : Bool) → is_among ns n ≡ b → IfSome (row_at (map g ns) n) P
    decide true h = subst (λ (o : Option R). IfSome o P) (sym (row_there g ns n numbered h)) (each n h)
    decide false h = subst (λ (o : Option R). IfSome o P) (sym (row_absent g ns n numbered h)) tt

-- there is room for one more entry in each count of a snapshot that stands for a history
pub CanCount-from_StandsFor : (s : StateSnapshot) (J : History) → StandsFor s J → s.entries < 2 ^ 63 → CanCount s
CanCount-from_StandsFor s J h few = subst CanCount (sym h.snapshot)
    (of_history (let e = ap (λ (x : StateSnapshot). x.entries) h.snapshot in omega arith))
  where
    v : Version
    v = h.version

    t : List ℕ → Bool
    t = h.is_address

    of_history : length J < 2 ^ 63 → CanCount (snapshot_of J)
    of_history k = record {
      entries = k;
      actions = rows_bounded (CountsTo 18446744073709551614) (action_row J) (actions J) (actions_numbered v t J h.legal)
          (λ a g. CountsTo-more (length J) 18446744073709551614 (action_row J a) (omega arith)
          (row_counts v t J h.legal a));
      nestings = rows_bounded (DeepTo (2 ^ 63)) (nesting_of J) (actions J) (actions_numbered v t J h.legal)
          (λ a g. let d = depth-le v t J h.legal a g in omega arith);
      endpoints = rows_bounded (RepeatsTo (2 ^ 63)) (endpoint_of J) (members J) (members_numbered v t J h.legal)
          (λ p g. record {
            completing = few_repeats p ask.Complete;
            compensating = few_repeats p ask.Compensate;
            forgetting = few_repeats p ask.Forget;
            telling = few_repeats p ask.After;
          });
      asks = asks_count J;
    }
      where
        few_repeats : (p : ℕ) (stage : AskKind) → repeat_count J p stage ≤ 2 ^ 63
        few_repeats p stage = let r = repeats-le J p stage in omega arith

-- an entry that enrols a clerk or makes an ask has the next number
pub TakesNextNumber-from_Follows : (s : StateSnapshot) (e : Entry) → Follows s e → TakesNextNumber s.state e.deed e.by
TakesNextNumber-from_Follows s e h = subst (λ (x : StateSnapshot). TakesNextNumber x.state e.deed e.by)
    (sym h.stands.snapshot)
    (of_deed e.deed (told h.stands.version h.stands.is_address h.history e.by e.moment e.deed
    (allowed h.stands.version h.stands.is_address h.history e h.allowed)))
  where
    of_deed : (d : Deed) → Told h.history e.by d → TakesNextNumber (state_of h.history) d e.by
    of_deed Enrol x = x
    of_deed (Ask n p kind) x = x.number
    of_deed _ x = tt
