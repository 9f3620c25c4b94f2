-- What undoes an entry.
use Rattle.std.proofs.Common.{◌≡◌, ℕ, Bool, true, false, List, [], ◌∷◌, ◌++◌, take, Option, Some, None, length, suc}
use Rattle.std.proofs.Common.{refl, ap, ◌∙◌, arith, subst, length-append}
use Rattle.std.proofs.Math.Seq.{take-append_seam}
use Rattle.std.specs.Prelude.{cond, slice_get}
use Rattle.std.specs.Option.{option_map_or}
use Rattle.lra_model.specs.declared.asks.AskKind.{AskKind}
use Rattle.lra_model.specs.declared.asks.AskKind.TheVariants as ask
use Rattle.lra_model.specs.declared.asks.Outcome.{Outcome}
use Rattle.lra_model.specs.Words.{is_undecided}
use Rattle.lra_model.specs.Members.{Asked}
use Rattle.lra_model.specs.Wants.{stage_of}
use Rattle.lra_laws.specs.Rows.{MemberRow, ActionRow, row_at, change_row}
use Rattle.lra_laws.specs.Snapshots.{Nesting, Endpoint, with_child_number, with_member_number, with_number_under}
use Rattle.lra_laws.specs.Snapshots.{with_repeat}
use Rattle.lra_laws.specs.Snapshots.{with_answer}
use Rattle.lra_rows.specs.declared.step.Added.{Added}
use Rattle.lra_rows.specs.declared.step.Added.TheVariants as added
use Rattle.lra_rows.specs.Rowed.{NestCapacity, Rowed}
use Rattle.lra_rows.specs.Steps.{Repeated, Writes, with_counts, without_last, without_child, without_member}
use Rattle.lra_rows.specs.Steps.{without_under, without_added, with_repeats, repeats_back, put_back, rewritten}
use Rattle.lra_rows.specs.inner.Changes.{counts_of, Undoes, IsOfMember}
use Rattle.lra_rows.specs.inner.Held.{repeats_at}
use Rattle.lra_rows.proofs.Numbered.{changed_back}

-- a member that answered, with the repeats that it had
repeat_back : (m : ℕ) (stage : AskKind) (c : Endpoint) → with_repeats stage (repeats_at stage c) (with_repeat m stage c)
    ≡ c
repeat_back m ask.Complete c = refl
repeat_back m ask.Compensate c = refl
repeat_back m ask.Forget c = refl
repeat_back m ask.After c = refl
repeat_back m ask.Status c = refl

same_back : (stage : AskKind) (c : Endpoint) → with_repeats stage (repeats_at stage c) c ≡ c
same_back ask.Complete c = refl
same_back ask.Compensate c = refl
same_back ask.Forget c = refl
same_back ask.After c = refl
same_back ask.Status c = refl

pub answer_back : (m : ℕ) (o : Outcome) (x : Asked) (c : Endpoint) → with_repeats (stage_of x.kind x.direction)
    (repeats_at (stage_of x.kind x.direction) c) (with_answer m o x c) ≡ c
answer_back m o x c = either (is_undecided o)
  where
    either : (b : Bool) → with_repeats (stage_of x.kind x.direction) (repeats_at (stage_of x.kind x.direction) c)
        (cond b (with_repeat m (stage_of x.kind x.direction) c) c) ≡ c
    either true = repeat_back m (stage_of x.kind x.direction) c
    either false = same_back (stage_of x.kind x.direction) c

-- a list with one more: the last, and the list without it
pub last_there : {X : Type 0} (xs : List X) (x : X) → row_at (xs ++ x ∷ []) (length (xs ++ x ∷ [])) ≡ Some x
last_there {X = X} xs x = ap (row_at (xs ++ x ∷ []))
    (let e : length (xs ++ x ∷ []) ≡ suc (length xs) = omega (arith, length-append xs (x ∷ [])) in e) ∙ at_end xs
  where
    at_end : (ys : List X) → slice_get (ys ++ x ∷ []) (length ys) ≡ Some x
    at_end [] = refl
    at_end (y ∷ ys) = at_end ys

pub without_more : {X : Type 0} (xs : List X) (x : X) → without_last (xs ++ x ∷ []) ≡ xs
without_more xs x = ap (λ n. take n (xs ++ x ∷ [])) (let e = length-append xs (x ∷ []) in omega arith)
    ∙ take-append_seam xs (x ∷ [])

-- a number that went to a list, and back
child_back : (c : ℕ) (n : Nesting) → without_child (with_child_number c n) ≡ n
child_back c n = λ i. record n { children = without_more n.children c i }

member_back : (p : ℕ) (n : Nesting) → without_member (with_member_number p n) ≡ n
member_back p n = λ i. record n { members = without_more n.members p i }

under_back : (p : ℕ) (n : Nesting) → without_under (with_number_under p n) ≡ n
under_back p n = λ i. record n { under = without_more n.under p i }

-- an action that started, and the member that joined
pub started_back : (c : ℕ) (parent : Option ℕ) (nestings : List Nesting) → option_map_or
    (λ b. change_row without_child b (option_map_or (λ b. change_row (with_child_number c) b nestings) parent nestings))
    parent (option_map_or (λ b. change_row (with_child_number c) b nestings) parent nestings) ≡ nestings
started_back c None nestings = refl
started_back c (Some b) nestings = changed_back (with_child_number c) without_child (child_back c) b nestings

pub joined_back : (p a t : ℕ) (nestings : List Nesting) → change_row without_member a
    (change_row without_under t (change_row (with_number_under p) t (change_row (with_member_number p) a nestings)))
    ≡ nestings
joined_back p a t nestings =
    ap (change_row without_member a) (changed_back (with_number_under p) without_under (under_back p) t
    (change_row (with_member_number p) a nestings))
    ∙ changed_back (with_member_number p) without_member (member_back p) a nestings

-- what undoes a member's change undoes the ask that came before it
pub asked_back : (w : Writes) (old mid new : Rowed) (m n : ℕ) (x : Asked) → IsOfMember w → Undoes w new mid → mid
    ≡ record old {
      snapshot = record old.snapshot {
        state = record old.snapshot.state { moment = m; asks = n };
        asks =
            old.snapshot.asks ++ x ∷ [];
      };
    }
    → Undoes (record w { added = added.Ask }) new old
asked_back w old mid new m n x alone back e =
    ap less (subst (λ (a : Added). with_counts (counts_of mid.snapshot) (rewritten w (without_added a new)) ≡ mid)
    alone.1.1 back) ∙ ap less e
    ∙ (λ i. record old { snapshot = record old.snapshot { asks = without_more old.snapshot.asks x i } })
  where
    less : Rowed → Rowed
    less r = with_counts (counts_of old.snapshot)
        (record r { snapshot = record r.snapshot { asks = without_last r.snapshot.asks } })

-- and the repeats
pub answered_back : (w : Writes) (old mid new : Rowed) (m : ℕ) (o : Option Repeated) (endpoints : List Endpoint)
    → IsOfMember w → Undoes w new mid → mid ≡ record old {
      snapshot = record old.snapshot
          { state = record old.snapshot.state { moment = m }; endpoints = endpoints };
    }
    → repeats_back o old.capacity.ready endpoints ≡ old.snapshot.endpoints → Undoes (record w { repeats = o }) new old
answered_back w old mid new m o endpoints alone back e h =
    ap fewer (subst (λ (a : Option Repeated). with_counts (counts_of mid.snapshot)
    (rewritten (record w { repeats = a }) (without_added w.added new)) ≡ mid) alone.1.0 back) ∙ ap fewer e
    ∙ (λ i. record old { snapshot = record old.snapshot { endpoints = h i } })
  where
    fewer : Rowed → Rowed
    fewer r = with_counts (counts_of old.snapshot)
        (record r { snapshot = record r.snapshot { endpoints = repeats_back o r.capacity.ready r.snapshot.endpoints } })

-- a member that joined
pub joined_undone : (w : Option (ℕ × ActionRow)) (p a t m : ℕ) (row : MemberRow) (endpoint : Endpoint)
    (actions : List ActionRow) (old : Rowed) → put_back w actions ≡ old.snapshot.state.actions
    → Undoes (record { member = None; action = w; parent = None; repeats = None; added = added.Member a t })
    (record old {
      snapshot = record old.snapshot {
        state = record old.snapshot.state {
          moment = m;
          actions = actions;
          members = old.snapshot.state.members
              ++ row ∷ [];
        };
        nestings = change_row (with_number_under p) t (change_row (with_member_number p) a old.snapshot.nestings);
        endpoints = old.snapshot.endpoints ++ endpoint ∷ [];
      };
      capacity = record old.capacity { ready = old.capacity.ready ++ false ∷ [] };
    }) old
joined_undone w p a t m row endpoint actions old h = λ i. record old {
  snapshot = record old.snapshot {
    state = record old.snapshot.state { actions = h i; members = without_more old.snapshot.state.members row i };
    nestings = joined_back p a t old.snapshot.nestings i;
    endpoints = without_more old.snapshot.endpoints endpoint i;
  };
  capacity = record old.capacity { ready = without_more old.capacity.ready false i };
}

-- an action that started
pub started_undone : (w : Option (ℕ × ActionRow)) (c : ℕ) (parent : Option ℕ) (m : ℕ) (row : ActionRow)
    (nesting : Nesting)
    (capacity : NestCapacity) (actions : List ActionRow) (old : Rowed) → put_back w actions ≡ old.snapshot.state.actions
    → Undoes (record { member = None; action = w; parent = None; repeats = None; added = added.Action parent })
    (record old {
      snapshot = record old.snapshot {
        state = record old.snapshot.state { moment = m; actions = actions ++ row ∷ [] };
        nestings = option_map_or (λ b. change_row (with_child_number c) b old.snapshot.nestings) parent
            old.snapshot.nestings ++ nesting
            ∷ [];
      };
      capacity = record old.capacity { lists = old.capacity.lists ++ capacity ∷ [] };
    }) old
started_undone w c parent m row nesting capacity actions old h = λ i. record {
  snapshot = record old.snapshot {
    state = record old.snapshot.state { actions = (ap (put_back w) (without_more actions row) ∙ h) i };
    nestings = (ap (λ (ns : List Nesting). option_map_or (λ b. change_row without_child b ns) parent ns)
        (without_more (option_map_or (λ b. change_row (with_child_number c) b old.snapshot.nestings) parent
        old.snapshot.nestings)
        nesting) ∙ started_back c parent old.snapshot.nestings) i;
  };
  capacity = record old.capacity { lists = without_more old.capacity.lists capacity i };
}
