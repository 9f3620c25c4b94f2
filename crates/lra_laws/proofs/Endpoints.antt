-- How members are reached, and their repeats, after one more entry.
use Rattle.std.proofs.Common.{◌≡◌, ℕ, ◌+◌, Bool, true, false, List, [], ◌∷◌, ◌++◌, length, map, Option, Some, None}
use Rattle.std.proofs.Common.{refl, sym, ap, ◌∙◌, cond, append-nil, length-append}
use Rattle.std.specs.Prelude.{◌==◌, ◌&&◌, option_to_list, option_map, unwrap_or}
use Rattle.std.specs.Option.{option_map_or}
use Rattle.std.specs.List.{filter_map}
use Rattle.lra_model.specs.declared.asks.AskKind.{AskKind}
use Rattle.lra_model.specs.declared.asks.AskKind.TheVariants as ask
use Rattle.lra_model.specs.declared.asks.Outcome.{Outcome}
use Rattle.lra_model.specs.declared.entry.Deed.{Deed}
use Rattle.lra_model.specs.declared.entry.Deed.TheVariants.{Join, Reply}
use Rattle.lra_model.specs.declared.entry.Entry.{Entry}
use Rattle.lra_model.specs.declared.version.Version.{Version}
use Rattle.lra_model.specs.Addresses.{Addresses}
use Rattle.lra_model.specs.Words.{when, same_kind, is_undecided}
use Rattle.lra_model.specs.History.{History, steps, last, members, joined_by, is_among}
use Rattle.lra_model.specs.Members.{no_addresses, Asked, ask_of, Replied, replied_at, replies}
use Rattle.lra_model.specs.Wants.{stage_of, repeats}
use Rattle.lra_model.specs.Rules.{is_legal}
use Rattle.lra_laws.specs.Rows.{change_row}
use Rattle.lra_laws.specs.Snapshots.{Repeats, Endpoint, repeats_in, endpoint_of, no_repeats, new_endpoint, again}
use Rattle.lra_laws.specs.Snapshots.{with_repeat}
use Rattle.lra_laws.specs.Snapshots.{with_answer}
use Rattle.lra_laws.proofs.Push.{step, read_push, last_or_push, replies_push, members_push}
use Rattle.lra_laws.proofs.Legal.{legal_induction, Allowed, numbered_fresh, members_numbered}
use Rattle.lra_laws.proofs.Named.{addresses_stay}
use Rattle.lra_laws.proofs.Named.{addresses_of_new}
use Rattle.lra_laws.proofs.RowLists.{eqb_self, eqb_flip, among_apart, map_within, rows_changed, rows_more}
use Rattle.lra_laws.proofs.Told.{entry, more, Told, told}
use Rattle.lra_laws.proofs.MemberRows.{absent_before, members_stay}
use Rattle.lra_laws.proofs.AskWords.{asks_listed}

-- what a reply counts for
abbrev pub repeat_of : ℕ → AskKind → Replied → Option ℕ
repeat_of p stage r = when ((r.to.member == p) && same_kind (stage_of r.to.kind r.to.direction) stage
    && is_undecided r.outcome) r.moment

-- the repeats after one more entry
pub repeats_push : (J : History) (e : Entry) (p : ℕ) (stage : AskKind) → repeats (J ++ e ∷ []) p stage
    ≡ repeats J p stage ++ option_to_list (option_map_or (repeat_of p stage) (replied_at (step J e)) None)
unfolding repeats
repeats_push J e p stage = ap (filter_map (repeat_of p stage)) (replies_push J e)
    ∙ at_end (replies J) (replied_at (step J e))
  where
    at_end : (rs : List Replied) (o : Option Replied) → filter_map (repeat_of p stage) (rs ++ option_to_list o)
        ≡ filter_map (repeat_of p stage) rs ++ option_to_list (option_map_or (repeat_of p stage) o None)
    at_end rs None = ap (filter_map (repeat_of p stage)) (append-nil rs)
        ∙ sym (append-nil (filter_map (repeat_of p stage) rs))
    at_end rs (Some r) = read_push (repeat_of p stage) rs r

-- the repeats that a list of moments says
abbrev counted : List ℕ → Repeats
counted ms = record { count = length ms; last = unwrap_or (last ms) 0 }

counted_more : (ms : List ℕ) (m : ℕ) → counted (ms ++ m ∷ []) ≡ again m (counted ms)
counted_more ms m = λ i. record { count = length-append ms (m ∷ []) i; last = unwrap_or (last_or_push None ms m i) 0 }

-- an entry that isn't a reply of the member
repeats_still : (J : History) (by m : ℕ) (d : Deed) (p : ℕ) (stage : AskKind)
    → option_map_or (repeat_of p stage) (replied_at (step J (entry by m d))) None ≡ None
    → repeats_in (more J by m d) p stage ≡ repeats_in J p stage
repeats_still J by m d p stage h = ap counted (repeats_push J (entry by m d) p stage
    ∙ ap (λ (o : Option ℕ). repeats J p stage ++ option_to_list o) h ∙ append-nil (repeats J p stage))

-- a reply of another member
other_reply : (J : History) (by m n : ℕ) (o : Outcome) (x : Asked) (p : ℕ) (stage : AskKind) → ask_of J n ≡ Some x
    → (x.member == p) ≡ false → option_map_or (repeat_of p stage) (replied_at (step J (entry by m (Reply n o)))) None
    ≡ None
other_reply J by m n o x p stage asked e =
    ap (λ (y : Option Asked). option_map_or (repeat_of p stage) (option_map
    (λ (a : Asked). record { to = a; outcome = o; moment = m }) y) None) asked
    ∙ ap (λ (b : Bool). when (b && same_kind (stage_of x.kind x.direction) stage && is_undecided o) m) e

-- one that isn't there has none
repeats_absent : (v : Version) (t : List ℕ → Bool) (J : History) → is_legal v t J ≡ true → (p : ℕ)
    → is_among (members J) p ≡ false → (stage : AskKind) → repeats_in J p stage ≡ no_repeats
unfolding steps replies repeats
repeats_absent v t = legal_induction v t (λ J. (p : ℕ) → is_among (members J) p ≡ false → (stage : AskKind)
    → repeats_in J p stage ≡ no_repeats) (λ p h stage. refl) push
  where
    push : (J : History) (e : Entry) → is_legal v t J ≡ true → Allowed v t J e
        → ((p : ℕ) → is_among (members J) p ≡ false → (stage : AskKind) → repeats_in J p stage ≡ no_repeats)
        → (p : ℕ) → is_among (members (J ++ e ∷ [])) p ≡ false → (stage : AskKind) → repeats_in (J ++ e ∷ []) p stage
        ≡ no_repeats
    push J e l k ih p h stage = repeats_still J e.by e.moment e.deed p stage
        (none e.deed (told v t J e.by e.moment e.deed k)) ∙ ih p before stage
      where
        before : is_among (members J) p ≡ false
        before = absent_before J e p h

        none : (d : Deed) → Told J e.by d → option_map_or (repeat_of p stage)
            (replied_at (step J (entry e.by e.moment d))) None ≡ None
        none (Reply n o) x = other_reply J e.by e.moment n o x.0 p stage x.1.asked
            (eqb_flip p x.0.member (among_apart (members J) x.0.member p ((asks_listed v t J l).there n x.0 x.1.asked)
            before))
        none _ x = refl

-- a member whose repeats stay
contact_still : (J : History) (by m : ℕ) (d : Deed) (p : ℕ) → is_among (members J) p ≡ true
    → ((stage : AskKind) → option_map_or (repeat_of p stage) (replied_at (step J (entry by m d))) None ≡ None)
    → endpoint_of (more J by m d) p ≡ endpoint_of J p
contact_still J by m d p h still = λ i. record {
  addresses = addresses_stay J (entry by m d) p h i;
  completing = repeats_still J by m d p ask.Complete (still ask.Complete) i;
  compensating = repeats_still J by m d p ask.Compensate (still ask.Compensate) i;
  forgetting = repeats_still J by m d p ask.Forget (still ask.Forget) i;
  telling = repeats_still J by m d p ask.After (still ask.After) i;
}

-- no one joins or answers
pub contacts_still : (J : History) (by m : ℕ) (d : Deed) → joined_by d ≡ None → replied_at (step J (entry by m d))
    ≡ None → map (endpoint_of (more J by m d)) (members (more J by m d)) ≡ map (endpoint_of J) (members J)
contacts_still J by m d no_join no_reply =
    ap (map (endpoint_of (more J by m d))) (members_stay J by m d no_join)
    ∙ map_within (endpoint_of (more J by m d)) (endpoint_of J) (members J)
    (λ p h. contact_still J by m d p h
    (λ stage. ap (λ (o : Option Replied). option_map_or (repeat_of p stage) o None) no_reply))

pub contacts_joined : (v : Version) (t : List ℕ → Bool) (J : History) (by m p a : ℕ) (u : Addresses) → is_legal v t J
    ≡ true → p ≡ length (members J) + 1
    → map (endpoint_of (more J by m (Join p a u))) (members (more J by m (Join p a u)))
    ≡ map (endpoint_of J) (members J)
    ++ new_endpoint u ∷ []
contacts_joined v t J by m p a u l e =
    let K = more J by m (Join p a u) in
    let fresh = numbered_fresh (members J) (members_numbered v t J l) p e in
    let none : (stage : AskKind) → repeats_in K p stage ≡ no_repeats =
    λ stage. repeats_still J by m (Join p a u) p stage refl ∙ repeats_absent v t J l p fresh stage in
    let new : endpoint_of K p ≡ new_endpoint u = λ i. record {
      addresses = (addresses_of_new J (entry by m (Join p a u)) p fresh
          ∙ ap (λ (b : Bool). unwrap_or (when b u) no_addresses) (eqb_self p)) i;
      completing = none ask.Complete i;
      compensating = none ask.Compensate i;
      forgetting = none ask.Forget i;
      telling = none ask.After i;
    } in
    ap (map (endpoint_of K)) (members_push J (entry by m (Join p a u)))
    ∙ rows_more (endpoint_of K) (members J) p
    ∙ (λ i. map_within (endpoint_of K) (endpoint_of J) (members J) (λ q h. contact_still J by m (Join p a u) q h
    (λ stage. refl)) i ++ new i ∷ [])

-- the repeats of a member in each stage, where it answers
repeats_answered : (J : History) (by m n : ℕ) (o : Outcome) (x : Asked) (stage : AskKind) (b : Bool) → ask_of J n
    ≡ Some x → (same_kind (stage_of x.kind x.direction) stage && is_undecided o) ≡ b
    → repeats_in (more J by m (Reply n o)) x.member stage ≡ cond b (again m (repeats_in J x.member stage))
    (repeats_in J x.member stage)
repeats_answered J by m n o x stage b asked e =
    ap counted (repeats_push J (entry by m (Reply n o)) x.member stage
    ∙ ap (λ (y : Option Asked). repeats J x.member stage ++ option_to_list
    (option_map_or (repeat_of x.member stage)
    (option_map (λ (a : Asked). record { to = a; outcome = o; moment = m }) y) None)) asked
    ∙ ap (λ (c : Bool). repeats J x.member stage ++ option_to_list (when
    (c && same_kind (stage_of x.kind x.direction) stage && is_undecided o) m)) (eqb_self x.member)
    ∙ ap (λ (c : Bool). repeats J x.member stage ++ option_to_list (when c m)) e)
    ∙ either b
  where
    either : (b : Bool) → counted (repeats J x.member stage ++ option_to_list (when b m))
        ≡ cond b (again m (repeats_in J x.member stage)) (repeats_in J x.member stage)
    either true = counted_more (repeats J x.member stage) m
    either false = ap counted (append-nil (repeats J x.member stage))

-- a member's endpoint, where each stage may get one more repeat
abbrev stages_after : (ℕ) → (AskKind → Bool) → Endpoint → Endpoint
stages_after m more c = record {
  addresses = c.addresses;
  completing = cond (more ask.Complete) (again m c.completing) c.completing;
  compensating = cond (more ask.Compensate) (again m c.compensating) c.compensating;
  forgetting = cond (more ask.Forget) (again m c.forgetting) c.forgetting;
  telling = cond (more ask.After) (again m c.telling) c.telling;
}

answer_is : (m : ℕ) (o : Outcome) (x : Asked) (c : Endpoint) → stages_after m
    (λ stage. same_kind (stage_of x.kind x.direction) stage && is_undecided o) c ≡ with_answer m o x c
answer_is m o x c = of_stage (stage_of x.kind x.direction) (is_undecided o)
  where
    of_stage : (stage : AskKind) (b : Bool) → stages_after m (λ s. same_kind stage s && b) c
        ≡ cond b (with_repeat m stage c) c
    of_stage ask.Complete true = refl
    of_stage ask.Complete false = refl
    of_stage ask.Compensate true = refl
    of_stage ask.Compensate false = refl
    of_stage ask.Status true = refl
    of_stage ask.Status false = refl
    of_stage ask.Forget true = refl
    of_stage ask.Forget false = refl
    of_stage ask.After true = refl
    of_stage ask.After false = refl

pub contacts_answered : (v : Version) (t : List ℕ → Bool) (J : History) (by m n : ℕ) (o : Outcome) (x : Asked)
    → is_legal v t J ≡ true → ask_of J n ≡ Some x
    → map (endpoint_of (more J by m (Reply n o))) (members (more J by m (Reply n o)))
    ≡ change_row (with_answer m o x) x.member (map (endpoint_of J) (members J))
contacts_answered v t J by m n o x l asked =
    ap (map (endpoint_of K)) (members_stay J by m (Reply n o) refl)
    ∙ rows_changed (with_answer m o x) (endpoint_of J) (endpoint_of K) (members J) x.member (members_numbered v t J l)
    there
    (λ q h e. contact_still J by m (Reply n o) q h (λ stage. other_reply J by m n o x q stage asked e))
    ((λ i. record {
      addresses = addresses_stay J (entry by m (Reply n o)) x.member there i;
      completing = here ask.Complete i;
      compensating = here ask.Compensate i;
      forgetting = here ask.Forget i;
      telling = here ask.After i;
    }) ∙ answer_is m o x (endpoint_of J x.member))
  where
    K : History
    K = more J by m (Reply n o)

    there : is_among (members J) x.member ≡ true
    there = (asks_listed v t J l).there n x asked

    here : (stage : AskKind) → repeats_in K x.member stage ≡ cond (same_kind (stage_of x.kind x.direction) stage
        && is_undecided o) (again m (repeats_in J x.member stage)) (repeats_in J x.member stage)
    here stage = repeats_answered J by m n o x stage (same_kind (stage_of x.kind x.direction) stage && is_undecided o)
        asked refl
