-- The rows of the actions after one more starts.
use Rattle.std.proofs.Common.{◌≡◌, ℕ, ◌+◌, Bool, true, false, List, [], ◌∷◌, ◌++◌, length, map, Option, Some, None}
use Rattle.std.proofs.Common.{refl, sym, ap, ◌∙◌, cond, arith}
use Rattle.std.specs.Prelude.{◌==◌, ◌&&◌, unwrap_or, count_by}
use Rattle.std.specs.Option.{option_map_or, option_or}
use Rattle.lra_model.specs.declared.status.ActionStatus.{ActionStatus}
use Rattle.lra_model.specs.declared.status.ActionStatus.TheVariants as action
use Rattle.lra_model.specs.declared.status.MemberStatus.{MemberStatus}
use Rattle.lra_model.specs.declared.entry.Deed.TheVariants.{Start}
use Rattle.lra_model.specs.declared.version.Version.{Version}
use Rattle.lra_model.specs.Words.{when, has_failed}
use Rattle.lra_model.specs.History.{History, actions, members, is_among}
use Rattle.lra_model.specs.Actions as words
use Rattle.lra_model.specs.Actions.{parent, top, action_status, limit_in_force}
use Rattle.lra_model.specs.Members.{action_of}
use Rattle.lra_model.specs.Ends.{action_is}
use Rattle.lra_model.specs.Rules.{is_legal}
use Rattle.lra_laws.proofs.GoodWalks.{top_lem}
use Rattle.lra_laws.proofs.Push.{actions_push, action_status_push, limit_push}
use Rattle.lra_laws.proofs.Legal.{Allowed, legal_more, numbered_fresh, actions_numbered}
use Rattle.lra_laws.proofs.Named.{parent_stays, parent_of_new}
use Rattle.lra_laws.proofs.Named.{parent_there, action_of_there}
use Rattle.lra_laws.specs.Rows.{ActionRow, member_row, action_row, state_of, count_staying, count_children, counts_as}
use Rattle.lra_laws.specs.Rows.{is_left_to_complete, is_left_to_compensate, is_uncompleted, is_uncompensated}
use Rattle.lra_laws.specs.Rows.{is_unended, is_uncancelled, one, with_new_child, change_row, new_action, new_top}
use Rattle.lra_laws.proofs.RowLists.{eqb_self, eqb_flip, among_apart, map_within, count_within, count_none, count_push}
use Rattle.lra_laws.proofs.RowLists.{rows_changed, rows_more, row_there}
use Rattle.lra_laws.proofs.Told.{entry, more, StartTold}
use Rattle.lra_laws.proofs.Tops.{top_stays}
use Rattle.lra_laws.proofs.ActionWords.{counts_in, staying_count, is_parent, children_count, status_kept, limit_kept}
use Rattle.lra_laws.proofs.ActionRows.{row_is, staying_still}

-- an action has the next number: it is new
new_number : (v : Version) (t : List ℕ → Bool) (J : History) (c : ℕ) → is_legal v t J ≡ true → c ≡ length (actions J)
    + 1 → is_among (actions J) c ≡ false
new_number v t J c l e = numbered_fresh (actions J) (actions_numbered v t J l) c e

-- a nested action counts for its parent
started_nested : (v : Version) (t : List ℕ → Bool) (J : History) (by m c : ℕ) (above : Option ℕ) (limit : ℕ)
    → is_legal v t J ≡ true → Allowed v t J (entry by m (Start c above limit)) → StartTold J c above
    → (test : ActionStatus → Bool) (a : ℕ) → count_children test (more J by m (Start c above limit)) a
    ≡ count_children test J a + one (is_parent a above && test action.Active)
started_nested v t J by m c above limit l k told test a =
    children_count v t (more J by m (Start c above limit)) (legal_more v t J (entry by m (Start c above limit)) l k)
    test a
    ∙ ap (count_by (λ q. is_parent a (parent (more J by m (Start c above limit)) q)
    && action_is test (more J by m (Start c above limit)) q)) (actions_push J (entry by m (Start c above limit)))
    ∙ count_push (λ q. is_parent a (parent (more J by m (Start c above limit)) q)
    && action_is test (more J by m (Start c above limit)) q) (actions J) c
    ∙ (λ i. count_by (λ q. is_parent a (parent (more J by m (Start c above limit)) q)
    && action_is test (more J by m (Start c above limit)) q) (actions J)
    + one (is_parent a (up i) && option_map_or test (active i) false))
    ∙ ap (λ (n : ℕ). n + one (is_parent a above && test action.Active))
    (count_within (λ q. is_parent a (parent (more J by m (Start c above limit)) q)
    && action_is test (more J by m (Start c above limit)) q) (λ q. is_parent a (parent J q) && action_is test J q)
    (actions J)
    (λ q h i. is_parent a (parent_stays J (entry by m (Start c above limit)) q h i)
    && option_map_or test (kept q h i) false)
    ∙ sym (children_count v t J l test a))
  where
    fresh : is_among (actions J) c ≡ false
    fresh = new_number v t J c l told.number

    up : parent (more J by m (Start c above limit)) c ≡ above
    up = parent_of_new J (entry by m (Start c above limit)) c fresh ∙ ap (λ (b : Bool). unwrap_or (when b above) None)
        (eqb_self c)

    active : action_status (more J by m (Start c above limit)) c ≡ Some action.Active
    active = action_status_push J (entry by m (Start c above limit)) c
        ∙ ap (λ (b : Bool). option_or (when b action.Active) (action_status J c)) (eqb_self c)

    kept : (q : ℕ) → is_among (actions J) q ≡ true → action_status (more J by m (Start c above limit)) q
        ≡ action_status J q
    kept q h = status_kept J by m (Start c above limit) q (ap (λ (b : Bool). when b action.Active)
        (among_apart (actions J) q c h fresh))

-- the rows that were there
started_above : (v : Version) (t : List ℕ → Bool) (J : History) (by m c : ℕ) (above : Option ℕ) (limit : ℕ)
    → is_legal v t J ≡ true → Allowed v t J (entry by m (Start c above limit)) → StartTold J c above
    → (a : ℕ) → is_among (actions J) a ≡ true → (b : Bool) → is_parent a above ≡ b
    → action_row (more J by m (Start c above limit)) a ≡ cond b (with_new_child (action_row J a)) (action_row J a)
started_above v t J by m c above limit l k told a h = by_test
  where
    apart : (c == a) ≡ false
    apart = among_apart (actions J) a c h (new_number v t J c l told.number)

    staying : (test : MemberStatus → Bool) → count_staying test (more J by m (Start c above limit)) a
        ≡ count_staying test J a
    staying test = staying_still v t J by m (Start c above limit) l k refl (λ p. refl) test a

    status : unwrap_or (action_status (more J by m (Start c above limit)) a) action.Active
        ≡ unwrap_or (action_status J a) action.Active
    status = ap (λ (o : Option ActionStatus). unwrap_or o action.Active)
        (status_kept J by m (Start c above limit) a (ap (λ (b : Bool). when b action.Active) apart))

    bound : (limit_in_force (more J by m (Start c above limit)) a) ≡ (limit_in_force J a)
    bound = (limit_kept J by m (Start c above limit) a
        (ap (λ (b : Bool). when b (record { length_of = limit; since = m })) apart))

    nested : (test : ActionStatus → Bool) (b : Bool) → is_parent a above ≡ b
        → count_children test (more J by m (Start c above limit)) a ≡ count_children test J a
        + one (b && test action.Active)
    nested test b e = started_nested v t J by m c above limit l k told test a
        ∙ ap (λ (x : Bool). count_children test J a + one (x && test action.Active)) e

    plus_none : (n : ℕ) → n + 0 ≡ n
    plus_none n = omega arith

    by_test : (b : Bool) → is_parent a above ≡ b → action_row (more J by m (Start c above limit)) a
        ≡ cond b (with_new_child (action_row J a)) (action_row J a)
    by_test true e =
        row_is (more J by m (Start c above limit)) a (with_new_child (action_row J a))
        (parent_stays J (entry by m (Start c above limit)) a h) (top_stays v t J (entry by m (Start c above limit)) l a
        h) status bound
        (staying is_left_to_complete) (staying is_left_to_compensate) (staying is_uncompleted)
        (staying is_uncompensated)
        (nested is_unended true e) (nested is_uncancelled true e) (nested has_failed true e
        ∙ plus_none (count_children has_failed J a))
    by_test false e =
        row_is (more J by m (Start c above limit)) a (action_row J a)
        (parent_stays J (entry by m (Start c above limit)) a h) (top_stays v t J (entry by m (Start c above limit)) l a
        h) status bound
        (staying is_left_to_complete) (staying is_left_to_compensate) (staying is_uncompleted)
        (staying is_uncompensated)
        (nested is_unended false e ∙ plus_none (count_children is_unended J a))
        (nested is_uncancelled false e ∙ plus_none (count_children is_uncancelled J a))
        (nested has_failed false e ∙ plus_none (count_children has_failed J a))

-- the row of the new one
started_row : (v : Version) (t : List ℕ → Bool) (J : History) (by m c : ℕ) (above : Option ℕ) (limit : ℕ)
    → is_legal v t J ≡ true → Allowed v t J (entry by m (Start c above limit)) → StartTold J c above
    → action_row (more J by m (Start c above limit)) c ≡ new_action c above (new_top (state_of J) c above) limit m
started_row v t J by m c above limit l k told =
    row_is (more J by m (Start c above limit)) c (new_action c above (new_top (state_of J) c above) limit m)
    up (top_lem v t (more J by m (Start c above limit)) later c ∙ ap (λ (o : Option ℕ). option_map_or
    (top (more J by m (Start c above limit))) o c) up ∙ of_parent above told.parent_there)
    (ap (λ (o : Option ActionStatus). unwrap_or o action.Active) (action_status_push J
    (entry by m (Start c above limit)) c ∙ ap (λ (b : Bool). option_or (when b action.Active) (action_status J c))
    (eqb_self c)))
    ((limit_push J (entry by m (Start c above limit)) c ∙ ap (λ (b : Bool). unwrap_or (when b new_limit)
    (limit_in_force J c)) (eqb_self c)))
    (staying is_left_to_complete) (staying is_left_to_compensate) (staying is_uncompleted) (staying is_uncompensated)
    (nested is_unended) (nested is_uncancelled) (nested has_failed)
  where
    new_limit : words.Limit
    new_limit = record { length_of = limit; since = m }

    later : is_legal v t (more J by m (Start c above limit)) ≡ true
    later = legal_more v t J (entry by m (Start c above limit)) l k

    fresh : is_among (actions J) c ≡ false
    fresh = new_number v t J c l told.number

    up : parent (more J by m (Start c above limit)) c ≡ above
    up = parent_of_new J (entry by m (Start c above limit)) c fresh ∙ ap (λ (b : Bool). unwrap_or (when b above) None)
        (eqb_self c)

    of_parent : (o : Option ℕ) → option_map_or (is_among (actions J)) o true ≡ true
        → option_map_or (top (more J by m (Start c above limit))) o c ≡ new_top (state_of J) c o
    of_parent None h = refl
    of_parent (Some b) h = top_stays v t J (entry by m (Start c above limit)) l b h
        ∙ sym (ap (λ (o : Option ActionRow). option_map_or (λ (r : ActionRow). r.top) o c)
        (row_there (action_row J) (actions J) b (actions_numbered v t J l) h))

    -- no member is in it yet
    staying : (test : MemberStatus → Bool) → count_staying test (more J by m (Start c above limit)) c ≡ 0
    staying test =
        staying_still v t J by m (Start c above limit) l k refl (λ p. refl) test c ∙ staying_count v t J l test c
        ∙ count_within (λ p. counts_in test c (member_row J p)) (λ p. false) (members J)
        (λ p h. ap (λ (b : Bool). b && counts_as test (member_row J p))
        (eqb_flip c (action_of J p) (among_apart (actions J) (action_of J p) c (action_of_there v t J l p h)
        fresh)))
        ∙ count_none (λ (p : ℕ). false) (members J) (λ p. refl)

    -- and no action
    outside : (o : Option ℕ) → option_map_or (is_among (actions J)) o true ≡ true → is_parent c o ≡ false
    outside None h = refl
    outside (Some b) h = eqb_flip c b (among_apart (actions J) b c h fresh)

    nested : (test : ActionStatus → Bool) → count_children test (more J by m (Start c above limit)) c ≡ 0
    nested test =
        started_nested v t J by m c above limit l k told test c
        ∙ (λ i. children_count v t J l test c i + one (outside above told.parent_there i && test action.Active))
        ∙ ap (λ (n : ℕ). n + 0)
        (count_within (λ q. is_parent c (parent J q) && action_is test J q) (λ q. false) (actions J)
        (λ q h. ap (λ (b : Bool). b && action_is test J q) (outside (parent J q) (inside q (parent J q) refl)))
        ∙ count_none (λ (q : ℕ). false) (actions J) (λ q. refl))
      where
        inside : (q : ℕ) (o : Option ℕ) → parent J q ≡ o → option_map_or (is_among (actions J)) o true ≡ true
        inside q None e = refl
        inside q (Some b) e = (parent_there v t J l q b e).parent

pub actions_started : (v : Version) (t : List ℕ → Bool) (J : History) (by m c : ℕ) (above : Option ℕ) (limit : ℕ)
    → is_legal v t J ≡ true → Allowed v t J (entry by m (Start c above limit)) → StartTold J c above
    → map (action_row (more J by m (Start c above limit))) (actions (more J by m (Start c above limit)))
    ≡ option_map_or (λ b. change_row with_new_child b (map (action_row J) (actions J))) above
    (map (action_row J) (actions J)) ++ new_action c above (new_top (state_of J) c above) limit m ∷ []
actions_started v t J by m c above limit l k told =
    ap (map (action_row (more J by m (Start c above limit)))) (actions_push J (entry by m (Start c above limit)))
    ∙ rows_more (action_row (more J by m (Start c above limit))) (actions J) c
    ∙ (λ i. rows above told.parent_there (λ a h. started_above v t J by m c above limit l k told a h) i
    ++ started_row v t J by m c above limit l k told i ∷ [])
  where
    rows : (o : Option ℕ) → option_map_or (is_among (actions J)) o true ≡ true
        → ((a : ℕ) → is_among (actions J) a ≡ true → (b : Bool) → is_parent a o ≡ b
        → action_row (more J by m (Start c above limit)) a ≡ cond b (with_new_child (action_row J a))
        (action_row J a))
        → map (action_row (more J by m (Start c above limit))) (actions J)
        ≡ option_map_or (λ b. change_row with_new_child b (map (action_row J) (actions J))) o
        (map (action_row J) (actions J))
    rows None there each = map_within (action_row (more J by m (Start c above limit))) (action_row J) (actions J)
        (λ a h. each a h false refl)
    rows (Some b) there each =
        rows_changed with_new_child (action_row J) (action_row (more J by m (Start c above limit))) (actions J) b
        (actions_numbered v t J l) there
        (λ a h e. each a h false e) (each b there true (eqb_self b))
