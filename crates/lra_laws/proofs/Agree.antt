-- What the rules read in the forward state is what the definitions say.
use Rattle.std.proofs.Common.{◌≡◌, ℕ, Bool, true, false, List, [], ◌∷◌, length, map, Option, Some, None, refl, sym, ap}
use Rattle.std.proofs.Common.{◌∙◌, cond, eqb-true}
use Rattle.std.proofs.lemmas.Bool.{ltb-true, leb-true, lt-ltb, le-leb}
use Rattle.std.proofs.lemmas.List.{length-map}
use Rattle.std.proofs.lemmas.Option.{same_Some}
use Rattle.std.specs.Prelude.{◌==◌, nat_lt, nat_le, ◌&&◌, ◌||◌, not, is_some, unwrap_or, option_map}
use Rattle.std.specs.Option.{option_map_or, option_and_then}
use Rattle.std.specs.List.{list_all, find}
use Rattle.lra_model.specs.declared.status.ActionStatus.{ActionStatus}
use Rattle.lra_model.specs.declared.status.ActionStatus.TheVariants as action
use Rattle.lra_model.specs.declared.status.MemberStatus.{MemberStatus}
use Rattle.lra_model.specs.declared.asks.AskKind.{AskKind}
use Rattle.lra_model.specs.declared.version.Version.{Version}
use Rattle.lra_model.specs.Words.{has_ended, has_failed, has_finished_cancelling, is_completed, is_compensated}
use Rattle.lra_model.specs.Words.{is_done_completing, is_done_compensating}
use Rattle.lra_model.specs.History.{History, clerks, actions, members, is_among}
use Rattle.lra_model.specs.Actions.{parent, top, action_status, children}
use Rattle.lra_model.specs.Members.{Asked, ask_of, member_status, is_outstanding, outstanding_ask}
use Rattle.lra_model.specs.Ends.{staying, action_is, settles, is_settled, children_are_well, ends_as, right_end}
use Rattle.lra_model.specs.Ends.{top_has_ended}
use Rattle.lra_model.specs.Facts.{action_facts, member_facts, facts_of}
use Rattle.lra_model.specs.Rules.{is_legal}
use Rattle.lra_laws.proofs.Legal.{IsNumbered, numbered_among, numbered_there, actions_numbered, members_numbered}
use Rattle.lra_laws.proofs.Legal.{clerks_numbered}
use Rattle.lra_laws.proofs.Named.{status_is_there, parent_there, children_lem}
use Rattle.lra_laws.specs.Rows.{Standing, MemberRow, ActionRow, standing, void_asks, count_staying, count_children}
use Rattle.lra_laws.specs.Rows.{is_uncompensated, action_row, member_row, state_of, row_at, stands_as}
use Rattle.lra_laws.specs.Ends.{settled_by, right_end_by}
use Rattle.lra_laws.specs.inner.RowFacts.{action_by, member_by, is_standing, member_asked, facts_by}
use Rattle.lra_laws.proofs.RowLists.{eqb_self, eqb_flip, all_by_count, all_by_count_within, none_by_count, row_there}
use Rattle.lra_laws.proofs.RowLists.{row_absent}
use Rattle.lra_laws.proofs.AskWords.{AsksListed, AsksStand, asks_listed, asks_stand, stands_for, stands_yet, asked_of}
use Rattle.lra_laws.proofs.AskWords.{is_asked_by}
use Rattle.lra_laws.proofs.Tops.{top_is_there}

-- ---- an action

-- a nested action has a status
nested_there : (v : Version) (t : List ℕ → Bool) (J : History) → is_legal v t J ≡ true → (a c : ℕ)
    → is_among (children J a) c ≡ true → is_some (action_status J c) ≡ true
nested_there v t J l a c h = status_is_there v t J l c ∙ known (parent J c) refl (sym (children_lem v t J l a c) ∙ h)
  where
    known : (o : Option ℕ) → parent J c ≡ o → option_map_or (λ b. b == a) o false ≡ true → is_among (actions J) c ≡ true
    known None e k = absurd cc
    known (Some b) e k = (parent_there v t J l c b e).child

-- each staying member passes where none counts that doesn't
all_staying : (J : History) (a : ℕ) (test : MemberStatus → Bool) → list_all (λ p. test (member_status J p))
    (staying J a) ≡ (count_staying (λ s. not (test s)) J a == 0)
unfolding count_staying
all_staying J a test = all_by_count (λ p. test (member_status J p)) (λ p. not (test (member_status J p))) (staying J a)
    (λ p. refl)

-- and so each nested action
all_nested : (v : Version) (t : List ℕ → Bool) (J : History) → is_legal v t J ≡ true
    → (a : ℕ) (test : ActionStatus → Bool) → list_all (action_is test J) (children J a)
    ≡ (count_children (λ s. not (test s)) J a == 0)
unfolding count_children
all_nested v t J l a test = all_by_count_within (action_is test J) (action_is (λ s. not (test s)) J) (children J a)
    (λ c h. turn (action_status J c) (nested_there v t J l a c h))
  where
    turn : (o : Option ActionStatus) → is_some o ≡ true → option_map_or (λ s. not (test s)) o false
        ≡ not (option_map_or test o false)
    turn (Some s) g = refl
    turn None g = absurd cc

well_nested : (J : History) (a : ℕ) → children_are_well J a ≡ (count_children has_failed J a == 0)
unfolding count_children
well_nested J a = none_by_count (action_is has_failed J) (children J a)

settled_agrees : (v : Version) (t : List ℕ → Bool) (J : History) → is_legal v t J ≡ true → (a : ℕ)
    → settled_by (action_row J a) ≡ is_settled J a
unfolding is_settled
settled_agrees v t J l a = of_status (action_status J a)
  where
    of_status : (o : Option ActionStatus) → settled_by (record (action_row J a) { status = unwrap_or o action.Active })
        ≡ settles o J a
    of_status (Some action.Closing) = sym (λ i. all_staying J a is_done_completing i
        && all_nested v t J l a has_ended i)
    of_status (Some action.Cancelling) = sym (λ i. all_staying J a is_done_compensating i
        && all_nested v t J l a has_finished_cancelling i)
    of_status (Some s) = refl
    of_status None = refl

right_end_agrees : (J : History) (a : ℕ) → right_end_by (action_row J a) ≡ right_end J a
unfolding right_end
right_end_agrees J a = of_status (action_status J a)
  where
    cancelled : cond ((count_staying is_uncompensated J a == 0) && (count_children has_failed J a == 0))
        action.Cancelled action.FailedToCancel
        ≡ cond (list_all (λ p. is_compensated (member_status J p)) (staying J a) && children_are_well J a)
        action.Cancelled action.FailedToCancel
    cancelled = sym (λ i. cond (all_staying J a is_compensated i && well_nested J a i) action.Cancelled
        action.FailedToCancel)

    of_status : (o : Option ActionStatus) → right_end_by (record (action_row J a)
        { status = unwrap_or o action.Active }) ≡ ends_as o J a
    of_status (Some action.Closing) = sym (λ i. cond (all_staying J a is_completed i && well_nested J a i) action.Closed
        action.FailedToClose)
    of_status (Some s) = cancelled
    of_status None = cancelled

top_agrees : (v : Version) (t : List ℕ → Bool) (J : History) → is_legal v t J ≡ true → (a : ℕ) → is_among (actions J) a
    ≡ true
    → option_map_or (λ (r : ActionRow). has_ended r.status) (row_at (map (action_row J) (actions J)) (top J a)) false
    ≡ top_has_ended J a
unfolding top_has_ended
top_agrees v t J l a h =
    ap (λ (o : Option ActionRow). option_map_or (λ (r : ActionRow). has_ended r.status) o false)
    (row_there (action_row J) (actions J) (top J a) (actions_numbered v t J l) (top_is_there v t J l a h))
    ∙ of_status (action_status J (top J a))
  where
    of_status : (o : Option ActionStatus) → has_ended (unwrap_or o action.Active) ≡ option_map_or has_ended o false
    of_status None = refl
    of_status (Some s) = refl

action_agrees : (v : Version) (t : List ℕ → Bool) (J : History) → is_legal v t J ≡ true → (a : ℕ)
    → is_among (actions J) a ≡ true → action_by (state_of J) (action_row J a) ≡ action_facts J a
action_agrees v t J l a h = λ i. record (action_facts J a) {
  settled = settled_agrees v t J l a i;
  right_end = right_end_agrees J a i;
  top_has_ended = top_agrees v t J l a h i;
}

-- ---- a member

member_agrees : (v : Version) (t : List ℕ → Bool) (J : History) → is_legal v t J ≡ true → (p : ℕ)
    → member_by (state_of J) (member_row J p) ≡ member_facts J p
member_agrees v t J l p = λ i. record (member_facts J p) { is_asked = asked i }
  where
    asked : is_standing (void_asks J) (member_row J p) ≡ is_some (outstanding_ask J p)
    asked = sym (is_asked_by J p (asks_listed v t J l) (asks_stand v t J l))

-- ---- what is there

there_agrees : {R F : Type 0} (g : ℕ → R) (read : R → F) (facts : ℕ → F) (ns : List ℕ) → IsNumbered ns
    → ((n : ℕ) → is_among ns n ≡ true → read (g n) ≡ facts n)
    → (n : ℕ) → option_map read (row_at (map g ns) n) ≡ cond (is_among ns n) (Some (facts n)) None
there_agrees {R = R} {F = F} g read facts ns h each n = decide (is_among ns n) refl
  where
    decide : (b : Bool) → is_among ns n ≡ b → option_map read (row_at (map g ns) n) ≡ cond b (Some (facts n)) None
    decide true e = ap (option_map read) (row_there g ns n h e) ∙ (λ i. Some (each n e i))
    decide false e = ap (option_map read) (row_absent g ns n h e)

pub clerk_agrees : (ns : List ℕ) → IsNumbered ns → (n : ℕ) → (nat_lt 0 n && nat_le n (length ns)) ≡ is_among ns n
clerk_agrees ns h n = decide (is_among ns n) refl
  where
    decide : (b : Bool) → is_among ns n ≡ b → (nat_lt 0 n && nat_le n (length ns)) ≡ b
    decide true e = let k = numbered_among ns h n e in (λ i. lt-ltb 0 n k.0 i && le-leb n (length ns) k.1 i)
    decide false e = within (nat_lt 0 n) refl (nat_le n (length ns)) refl
      where
        within : (x : Bool) → nat_lt 0 n ≡ x → (y : Bool) → nat_le n (length ns) ≡ y → (x && y) ≡ false
        within true f true g = let k : is_among ns n ≡ true = numbered_there ns h n (ltb-true 0 n f)
            (leb-true n (length ns) g) in absurd cc
        within true f false g = refl
        within false f y g = refl

-- ---- an ask

find_row : {R : Type 0} (test : R → Bool) (g : ℕ → R) (ns : List ℕ) (p : ℕ) → is_among ns p ≡ true → test (g p) ≡ true
    → ((q : ℕ) → (p == q) ≡ false → test (g q) ≡ false) → find test (map g ns) ≡ Some (g p)
find_row test g [] p there here others = absurd cc
find_row {R = R} test g (n ∷ ns) p there here others = decide (p == n) refl (λ h. find_row test g ns p h here others)
  where
    decide : (b : Bool) → (p == n) ≡ b → (is_among ns p ≡ true → find test (map g ns) ≡ Some (g p))
        → cond (test (g n)) (Some (g n)) (find test (map g ns)) ≡ Some (g p)
    decide true e rest =
        let same : p ≡ n = eqb-true p n e in
        ap (λ (q : ℕ). cond (test (g q)) (some (g q)) (find test (map g ns))) (sym same)
        ∙ ap (λ (b : Bool). cond b (some (g p)) (find test (map g ns))) here
      where
        some : R → Option R
        some r = Some r
    decide false e rest =
        ap (λ (b : Bool). cond b (some (g n)) (find test (map g ns))) (others n e)
        ∙ rest (sym (ap (λ (b : Bool). b || is_among ns p) (eqb_flip p n e)) ∙ there)
      where
        some : R → Option R
        some r = Some r

find_no_row : {R : Type 0} (test : R → Bool) (g : ℕ → R) (ns : List ℕ) → ((q : ℕ) → test (g q) ≡ false)
    → find test (map g ns) ≡ None
find_no_row test g [] none = refl
find_no_row {R = R} test g (n ∷ ns) none = ap (λ (b : Bool). cond b (some (g n)) (find test (map g ns))) (none n)
    ∙ find_no_row test g ns none
  where
    some : R → Option R
    some r = Some r

-- the kind of the ask that stands in the first row that has it
abbrev kind_found : History → ℕ → Option MemberRow → Option AskKind
kind_found J n o = option_and_then (λ (r : MemberRow). option_map (λ (x : Standing). x.kind) r.asked) o

outstanding_agrees : (v : Version) (t : List ℕ → Bool) (J : History) → is_legal v t J ≡ true → (n : ℕ)
    → kind_found J n (member_asked (state_of J) n) ≡ cond (is_outstanding J n)
    (option_map (λ (a : Asked). a.kind) (ask_of J n)) None
outstanding_agrees v t J l n = decide (nat_lt (void_asks J) n) refl (ask_of J n) refl
  where
    list : AsksListed J
    list = asks_listed v t J l

    stand : AsksStand J
    stand = asks_stand v t J l

    -- what stands as n is the ask of n
    only : (q : ℕ) (s : Standing) → standing J q ≡ Some s → (s.number == n) ≡ true → ask_of J n ≡ Some (asked_of q s)
    only q s e h = ap (ask_of J) (sym (eqb-true s.number n h)) ∙ (asks_stand v t J l).stands q s e

    none_stands : ((q : ℕ) → stands_for (standing J q) n ≡ false) → find (stands_as n) (map (member_row J) (members J))
        ≡ None
    none_stands h = find_no_row (stands_as n) (member_row J) (members J) h

    outstanding_is : (o : Option Asked) → ask_of J n ≡ o → is_outstanding J n ≡ stands_yet J n o
    outstanding_is o e = (asks_stand v t J l).outstanding n ∙ ap (stands_yet J n) e

    -- a member with which n doesn't stand
    silent : (q : ℕ) → ((s : Standing) → standing J q ≡ Some s → (s.number == n) ≡ true → ⊥)
        → stands_for (standing J q) n ≡ false
    silent q h = known (standing J q) refl
      where
        known : (o : Option Standing) → standing J q ≡ o → stands_for o n ≡ false
        known None e = refl
        known (Some s) e = either (s.number == n) refl
          where
            either : (b : Bool) → (s.number == n) ≡ b → b ≡ false
            either false g = refl
            either true g = absurd (h s e g)

    nothing : (b : Bool) → ((q : ℕ) → stands_for (standing J q) n ≡ false)
        → kind_found J n (cond b (find (stands_as n) (map (member_row J) (members J))) None) ≡ None
    nothing true h = ap (kind_found J n) (none_stands h)
    nothing false h = refl

    kind_if : Asked → Bool → Option AskKind
    kind_if x b = cond b (Some x.kind) None

    decide : (b : Bool) → nat_lt (void_asks J) n ≡ b → (o : Option Asked) → ask_of J n ≡ o
        → kind_found J n (cond b (find (stands_as n) (map (member_row J) (members J))) None)
        ≡ cond (is_outstanding J n) (option_map (λ (a : Asked). a.kind) o) None
    decide b g None e =
        nothing b (λ q. silent q (λ s f h. let x : None ≡ Some (asked_of q s) = sym e ∙ only q s f h in absurd cc))
        ∙ sym (ap (λ (c : Bool). cond c (option_map (λ (a : Asked). a.kind) None) None) (outstanding_is None e))
    decide false g (Some x) e =
        sym (ap (kind_if x) (outstanding_is (Some x) e ∙ ap (λ (c : Bool). c && stands_for (standing J x.member) n) g))
    decide true g (Some x) e = here (standing J x.member) refl
      where
        same : (q : ℕ) (s : Standing) → standing J q ≡ Some s → (s.number == n) ≡ true → asked_of q s ≡ x
        same q s f h = same_Some (asked_of q s) x (sym (only q s f h) ∙ e)

        now : is_outstanding J n ≡ stands_for (standing J x.member) n
        now = outstanding_is (Some x) e ∙ ap (λ (c : Bool). c && stands_for (standing J x.member) n) g

        here : (o : Option Standing) → standing J x.member ≡ o → kind_found J n
            (find (stands_as n) (map (member_row J) (members J))) ≡ cond (is_outstanding J n) (Some x.kind) None
        here None f =
            nothing true (λ q. silent q
            (λ s k h. let y : None ≡ Some s = sym f ∙ ap (λ (a : Asked). standing J a.member) (sym (same q s k h))
            ∙ k in absurd cc))
            ∙ sym (ap (kind_if x) (now ∙ ap (λ (o : Option Standing). stands_for o n) f))
        here (Some s) f = either (s.number == n) refl
          where
            either : (b : Bool) → (s.number == n) ≡ b → kind_found J n
                (find (stands_as n) (map (member_row J) (members J))) ≡ cond (is_outstanding J n) (Some x.kind) None
            either true h =
                ap (kind_found J n) (find_row (stands_as n) (member_row J) (members J) x.member
                ((asks_listed v t J l).there n x e) (ap (λ (o : Option Standing). stands_for o n) f ∙ h)
                (λ q k. silent q (λ z m w. let c : (x.member == q) ≡ true = ap (λ (a : Asked). a.member == q)
                (sym (same q z m w)) ∙ eqb_self q in let d : true ≡ false = sym c ∙ k in absurd cc)))
                ∙ ap (option_map (λ (y : Standing). y.kind)) f
                ∙ ap (λ (a : Asked). some a.kind) (same x.member s f h)
                ∙ sym (ap (kind_if x) (now ∙ ap (λ (o : Option Standing). stands_for o n) f ∙ h))
              where
                some : AskKind → Option AskKind
                some k = Some k
            either false h =
                nothing true (λ q. silent q (λ z m w.
                let a : asked_of q z ≡ x = same q z m w in
                let y : Some z ≡ Some s = sym m ∙ ap (λ (b : Asked). standing J b.member) a ∙ f in
                let i : z ≡ s = same_Some z s y in
                let c : true ≡ false = sym w ∙ ap (λ (b : Standing). b.number == n) i ∙ h in absurd cc))
                ∙ sym (ap (kind_if x) (now ∙ ap (λ (o : Option Standing). stands_for o n) f ∙ h))

pub agree : (v : Version) (t : List ℕ → Bool) (J : History) → is_legal v t J ≡ true → facts_by (state_of J) ≡ facts_of J
unfolding facts_of
agree v t J l = λ i. record (facts_of J) {
  actions = length-map (actions J) (action_row J) i;
  members = length-map (members J) (member_row J) i;
  is_clerk = λ n. clerk_agrees (clerks J) (clerks_numbered v t J l) n i;
  action = λ a. there_agrees (action_row J) (action_by (state_of J)) (action_facts J) (actions J)
      (actions_numbered v t J l) (action_agrees v t J l) a i;
  member = λ p. there_agrees (member_row J) (member_by (state_of J)) (member_facts J) (members J)
      (members_numbered v t J l) (λ q h. member_agrees v t J l q) p i;
  outstanding = λ n. outstanding_agrees v t J l n i;
}
