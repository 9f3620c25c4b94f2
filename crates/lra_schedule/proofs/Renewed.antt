-- Moments that are brought up to date are those of the longer history.
use Rattle.std.proofs.Common.{◌≡◌, ◌≢◌, ℕ, ◌+◌, ◌<◌, Bool, true, false, List, [], ◌∷◌, ◌++◌, length, Option, Some, None}
use Rattle.std.proofs.Common.{refl, sym, ap, ◌∙◌, cond, inl, inr, eq-eqb, take, get_or}
use Rattle.std.proofs.Math.Bool.{or-false, or-true}
use Rattle.std.proofs.lemmas.Bool.{cases_eq, ne_eqb}
use Rattle.std.proofs.lemmas.List.{take_more}
use Rattle.std.proofs.lemmas.List.FromFn.{map-range_with_len_more}
use Rattle.std.specs.Prelude.{◌==◌, ◌||◌, ◌&&◌, not, map, option_map}
use Rattle.std.specs.List.{range_with_len}
use Rattle.std.specs.Option.{option_and_then}
use Rattle.std.specs.Ordering.{nat_cmp, eq_by_cmp}
use Rattle.std.specs.Cmp.{nat_cmp_total, unsigned_tied}
use Rattle.std.specs.FinMap as finite
use Rattle.std.specs.FinMap.{get-insert, get-remove, get-empty}
use Rattle.lra_model.specs.declared.asks.AskKind.{AskKind}
use Rattle.lra_model.specs.declared.version.Version.{Version}
use Rattle.lra_model.specs.declared.version.Version.TheVariants as version
use Rattle.lra_model.specs.Words.{when, is_active}
use Rattle.lra_model.specs.History.{History, actions, members, is_among}
use Rattle.lra_model.specs.Rules.{is_legal}
use Rattle.lra_laws.specs.Snapshots.{StateSnapshot, StandsFor}
use Rattle.lra_laws.proofs.Push.{any_push}
use Rattle.lra_laws.proofs.Legal.{actions_numbered, members_numbered, legal_empty}
use Rattle.lra_rows.specs.declared.found.ActionRow.{ActionRow}
use Rattle.lra_rows.specs.declared.found.MemberRow.{MemberRow}
use Rattle.lra_rows.specs.Found.{found_action, found_member}
use Rattle.lra_tables.specs.Plans.{Wanting, wanting, Limiting, limiting, CoversWants, CoversLimits}
use Rattle.lra_timers.specs.Moments.{Moments}
use Rattle.lra_timers.specs.Planned.{Planned}
use Rattle.lra_commands.specs.declared.limits.Limits.{Limits}
use Rattle.lra_commands.specs.Due.{due_after}
use Rattle.lra_schedule.specs.Schedules.{IsScheduleOf}
use Rattle.lra_schedule.specs.inner.Renewals.{retry_by, limit_by, retry_in, limit_in, renew, AreRenewed}
use Rattle.lra_schedule.proofs.Found.{no_retry, retry_found, limit_found, limit_there}

-- ---- one number more

tied : (q n : ℕ) → n ≡ q → eq_by_cmp nat_cmp q n ≡ true
tied q n same = unsigned_tied q n ∙ eq-eqb q n (sym same)

not_tied : (q n : ℕ) → n ≢ q → eq_by_cmp nat_cmp q n ≡ false
not_tied q n other = unsigned_tied q n ∙ ne_eqb q n (λ e. other (sym e))

renewed_same : (moments : Moments) (n : ℕ) (o : Option ℕ) → finite.get (renew moments n o) n ≡ o
renewed_same moments n None = get-remove nat_cmp_total moments n n ∙ ap
    (λ (b : Bool). cond b None (finite.get moments n)) (tied n n refl)
renewed_same moments n (Some x) = get-insert nat_cmp_total moments n x n
    ∙ ap (λ (b : Bool). cond b (Some x) (finite.get moments n)) (tied n n refl)

renewed_other : (moments : Moments) (n : ℕ) (o : Option ℕ) (q : ℕ) → n ≢ q → finite.get (renew moments n o) q
    ≡ finite.get moments q
renewed_other moments n None q other = get-remove nat_cmp_total moments n q
    ∙ ap (λ (b : Bool). cond b None (finite.get moments q)) (not_tied q n other)
renewed_other moments n (Some x) q other = get-insert nat_cmp_total moments n x q
    ∙ ap (λ (b : Bool). cond b (Some x) (finite.get moments q)) (not_tied q n other)

renewed_more : (given : ℕ → Option ℕ) (old now : Moments) (ns : List ℕ) (n : ℕ) (o : Option ℕ)
    → AreRenewed given old now ns → o ≡ given n → AreRenewed given old (renew now n o) (ns ++ n ∷ [])
renewed_more given old now ns n o h is q = elim (cases_eq n q) [ inl same ↦ here same | inr other ↦ there other ]
  where
    among : (b : Bool) → (n == q) ≡ b → is_among (ns ++ n ∷ []) q ≡ (is_among ns q || b)
    among b e = any_push (λ m. m == q) ns n ∙ ap (λ (c : Bool). is_among ns q || c) e

    here : n ≡ q → finite.get (renew now n o) q ≡ cond (is_among (ns ++ n ∷ []) q) (given q) (finite.get old q)
    here same =
        ap (finite.get (renew now n o)) (sym same) ∙ renewed_same now n o ∙ is ∙ ap given same
        ∙ sym (ap (λ (b : Bool). cond b (given q) (finite.get old q)) (among true (eq-eqb n q same)
        ∙ or-true (is_among ns q)))

    there : n ≢ q → finite.get (renew now n o) q ≡ cond (is_among (ns ++ n ∷ []) q) (given q) (finite.get old q)
    there other =
        renewed_other now n o q other ∙ h q
        ∙ sym (ap (λ (b : Bool). cond b (given q) (finite.get old q)) (among false (ne_eqb n q other)
        ∙ or-false (is_among ns q)))

-- the next of those listed
pub renewed_next : (given : ℕ → Option ℕ) (old now after : Moments) (ns : List ℕ) (i : ℕ) (o : Option ℕ) → i < length ns
    → AreRenewed given old now (take i ns) → o ≡ given (get_or ns i 0) → after ≡ renew now (get_or ns i 0) o
    → AreRenewed given old after (take (i + 1) ns)
renewed_next given old now after ns i o lt h is e q =
    ap (λ (m : Moments). finite.get m q) e ∙ renewed_more given old now (take i ns) (get_or ns i 0) o h is q
    ∙ ap (λ (ms : List ℕ). cond (is_among ms q) (given q) (finite.get old q)) (sym (take_more ns i 0 lt))

map_self : (ns : List ℕ) → map (λ (n : ℕ). n) ns ≡ ns
map_self [] = refl
map_self (n ∷ ns) = ap (λ (ms : List ℕ). n ∷ ms) (map_self ns)

-- the numbers from 1 on, and the next
range_more : (k n : ℕ) → 1 + k ≡ n → range_with_len 1 (k + 1) ≡ range_with_len 1 k ++ n ∷ []
range_more k n e =
    sym (map_self (range_with_len 1 (k + 1))) ∙ map-range_with_len_more (λ (m : ℕ). m) 1 k n e
    ∙ ap (λ (ms : List ℕ). ms ++ n ∷ []) (map_self (range_with_len 1 k))

-- the next of those from 1 on
pub renewed_counted : (given : ℕ → Option ℕ) (old now after : Moments) (k n : ℕ) (o : Option ℕ) → 1 + k ≡ n
    → AreRenewed given old now (range_with_len 1 k) → o ≡ given n → after ≡ renew now n o
    → AreRenewed given old after (range_with_len 1 (k + 1))
renewed_counted given old now after k n o next h is e q =
    ap (λ (m : Moments). finite.get m q) e ∙ renewed_more given old now (range_with_len 1 k) n o h is q
    ∙ ap (λ (ms : List ℕ). cond (is_among ms q) (given q) (finite.get old q)) (sym (range_more k n next))

-- ---- what is listed of changes is enough

abbrev retry_wanted : Limits → Wanting → Option ℕ
retry_wanted l w = option_map (λ (kind : AskKind). due_after l w.count w.last) w.want

retry_told : (l : Limits) (J : History) (p : ℕ) → retry_in l J p ≡ option_and_then (retry_wanted l) (wanting J p)
retry_told l J p = retry_found l J p ∙ one (found_member J p)
  where
    one : (o : Option MemberRow) → option_and_then (retry_by l) o ≡ option_and_then (retry_wanted l)
        (option_map (λ (m : MemberRow). record { want = m.want; count = m.k; last = m.last }) o)
    one None = refl
    one (Some r) = refl

abbrev limit_by_told : Limiting → Option ℕ
limit_by_told x = when (x.active && not (x.limit == 0)) (x.since + x.limit)

limit_told : (v : Version) (t : List ℕ → Bool) (J : History) → is_legal v t J ≡ true → (a : ℕ) → limit_in J a
    ≡ option_and_then limit_by_told (limiting J a)
limit_told v t J l a = limit_found v t J l a ∙ one (found_action J a)
  where
    one : (o : Option ActionRow) → option_and_then limit_by o ≡ option_and_then limit_by_told
        (option_map (λ (r : ActionRow). record { active = is_active r.status; limit = r.limit; since = r.since }) o)
    one None = refl
    one (Some r) = refl

pub refreshed : (l : Limits) (old now : Planned) (snapshot : StateSnapshot) (J K : History) (ps xs : List ℕ)
    → IsScheduleOf l old J
    → StandsFor snapshot K → CoversWants ps J K → CoversLimits xs J K
    → AreRenewed (retry_in l K) old.retries now.retries ps → AreRenewed (limit_in K) old.limits now.limits xs
    → IsScheduleOf l now K
refreshed l old now snapshot J K ps xs is stands wants limits new_retries new_limits = record {
  version = stands.version;
  is_address = stands.is_address;
  legal = stands.legal;
  retries = λ p. new_retries p ∙ retry p (is_among ps p) refl;
  limits = λ a. new_limits a ∙ limit a (is_among xs a) refl;
}
  where
    retry : (p : ℕ) (b : Bool) → is_among ps p ≡ b → cond b (retry_in l K p) (finite.get old.retries p) ≡ retry_in l K p
    retry p true e = refl
    retry p false e = is.retries p ∙ retry_told l J p ∙ ap (option_and_then (retry_wanted l)) (sym (wants p e))
        ∙ sym (retry_told l K p)

    limit : (a : ℕ) (b : Bool) → is_among xs a ≡ b → cond b (limit_in K a) (finite.get old.limits a) ≡ limit_in K a
    limit a true e = refl
    limit a false e =
        is.limits a ∙ limit_told is.version is.is_address J is.legal a
        ∙ ap (option_and_then limit_by_told) (sym (limits a e))
        ∙ sym (limit_told stands.version stands.is_address K stands.legal a)

-- ---- from no entries

no_limit : (v : Version) (t : List ℕ → Bool) (J : History) → is_legal v t J ≡ true → (a : ℕ) → is_among (actions J) a
    ≡ false → limit_in J a ≡ None
no_limit v t J l a h = decide (limit_in J a) refl
  where
    decide : (o : Option ℕ) → limit_in J a ≡ o → o ≡ None
    decide None e = refl
    decide (Some moment) e = let there = limit_there v t J l a moment e in absurd cc

none_there : (p : ℕ) → is_among (members []) p ≡ false
unfolding members
none_there p = refl

none_started : (a : ℕ) → is_among (actions []) a ≡ false
unfolding actions
none_started a = refl

no_retry_yet : (l : Limits) (p : ℕ) → retry_in l [] p ≡ None
no_retry_yet l p = no_retry l [] p (none_there p)

no_limit_yet : (v : Version) (t : List ℕ → Bool) → is_legal v t [] ≡ true → (a : ℕ) → limit_in [] a ≡ None
no_limit_yet v t l a = no_limit v t [] l a (none_started a)

pub empty_schedule : (l : Limits) (s : Planned) → s.retries ≡ finite.empty → s.limits ≡ finite.empty
    → IsScheduleOf l s []
empty_schedule l s retries limits = record {
  version = version.One;
  is_address = λ text. false;
  legal = legal_empty version.One (λ text. false);
  retries = λ p. ap (λ (m : Moments). finite.get m p) retries ∙ get-empty nat_cmp p ∙ sym (no_retry_yet l p);
  limits = λ a. ap (λ (m : Moments). finite.get m a) limits ∙ get-empty nat_cmp a
      ∙ sym (no_limit_yet version.One (λ text. false) (legal_empty version.One (λ text. false)) a);
}

-- all that are there have been given theirs
pub filled : (l : Limits) (old now : Planned) (snapshot : StateSnapshot) (K : History) → IsScheduleOf l old []
    → StandsFor snapshot K
    → AreRenewed (retry_in l K) old.retries now.retries (range_with_len 1 (length (members K)))
    → AreRenewed (limit_in K) old.limits now.limits (range_with_len 1 (length (actions K))) → IsScheduleOf l now K
filled l old now snapshot K is stands new_retries new_limits = record {
  version = stands.version;
  is_address = stands.is_address;
  legal = stands.legal;
  retries = λ p. new_retries p ∙ ap (λ (ns : List ℕ). cond (is_among ns p) (retry_in l K p) (finite.get old.retries p))
      (sym (members_numbered stands.version stands.is_address K stands.legal)) ∙ retry p (is_among (members K) p) refl;
  limits = λ a. new_limits a ∙ ap (λ (ns : List ℕ). cond (is_among ns a) (limit_in K a) (finite.get old.limits a))
      (sym (actions_numbered stands.version stands.is_address K stands.legal)) ∙ limit a (is_among (actions K) a) refl;
}
  where
    retry : (p : ℕ) (b : Bool) → is_among (members K) p ≡ b → cond b (retry_in l K p) (finite.get old.retries p)
        ≡ retry_in l K p
    retry p true e = refl
    retry p false e = is.retries p ∙ no_retry_yet l p ∙ sym (no_retry l K p e)

    limit : (a : ℕ) (b : Bool) → is_among (actions K) a ≡ b → cond b (limit_in K a) (finite.get old.limits a)
        ≡ limit_in K a
    limit a true e = refl
    limit a false e = is.limits a ∙ no_limit_yet is.version is.is_address is.legal a
        ∙ sym (no_limit stands.version stands.is_address K stands.legal a e)
