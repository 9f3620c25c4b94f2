-- The reasons why a worker's calls are refused.
use Rattle.std.proofs.Common.{◌≡◌, ◌≢◌, ℕ, zero, suc, ◌≤◌, Bool, true, false, List, [], ◌∷◌, ◌++◌, length, Option, Some}
use Rattle.std.proofs.Common.{None, inl, inr, refl, sym, ap, ◌∙◌, subst, append-nil}
use Rattle.std.specs.Prelude.{◌⊎◌, ◌&&◌, ◌+◌, not, option_map, IfSome, Ok, Err}
use Rattle.std.specs.Option.{option_map_or, option_and_then}
use Rattle.std.specs.List.{filter_map}
use Rattle.std.proofs.lemmas.Bool.{le-ltb}
use Rattle.std.proofs.lemmas.List.Elements.{filter_map-append}
use Rattle.lra_model.specs.declared.asks.AskKind.{AskKind}
use Rattle.lra_model.specs.declared.asks.Cause.TheVariants as cause
use Rattle.lra_model.specs.declared.asks.Outcome.{Outcome}
use Rattle.lra_model.specs.declared.entry.Deed.{Deed}
use Rattle.lra_model.specs.declared.entry.Deed.TheVariants as deed
use Rattle.lra_model.specs.declared.entry.Entry.{Entry}
use Rattle.lra_model.specs.History.{History, clerks, actions, members, asks, is_among, enrolled_by, started_by}
use Rattle.lra_model.specs.History.{joined_by}
use Rattle.lra_model.specs.Settling.{is_settling, next_settling, settling_within, most_settling, with_settling}
use Rattle.lra_model.specs.Wants.{wants}
use Rattle.lra_laws.proofs.Clerks.{none_by}
use Rattle.lra_laws.proofs.Rests.{next_settles}
use Rattle.lra_ids.specs.Addresses.{is_address}
use Rattle.lra_ticket.specs.declared.view.View.{View}
use Rattle.lra_commands.specs.declared.command.Command.TheVariants as command
use Rattle.lra_commands.specs.declared.command.Told.{Told}
use Rattle.lra_commands.specs.declared.limits.Terms.{Terms}
use Rattle.lra_commands.specs.declared.refusal.Refusal.{Refusal}
use Rattle.lra_commands.specs.declared.refusal.Refusal.TheVariants as refusal
use Rattle.lra_commands.specs.declared.refusal.Resource.{Resource}
use Rattle.lra_commands.specs.declared.refusal.Resource.TheVariants as resource
use Rattle.lra_commands.specs.Calls.{Call, Command, moment_of}
use Rattle.lra_commands.specs.Deeds.{own_deed, writer_of, entry_of}
use Rattle.lra_commands.specs.Due.{due, late}
use Rattle.lra_commands.specs.Blocks.{block}
use Rattle.lra_commands.specs.Refusals.{is_filled, passes, overfills, is_asked, first_ground, refused}
use Rattle.lra_commands.specs.Answers.{told_of, answer}
use Rattle.lra_commands.specs.Counters.{Setting, terms_of}
use Rattle.lra_commands.specs.Runs.{IsWithin}
use Rattle.lra_office.specs.declared.fault.OfficeRefusal.{OfficeRefusal}
use Rattle.lra_office.specs.declared.fault.OfficeRefusal.TheVariants as office
use Rattle.lra_office.specs.Serves.{IsHeldBack}
use Rattle.lra_office.specs.Orders.{IsMet, IsNotGiven}
use Rattle.lra_workers.specs.Work.{IsWorkersCommand, EndsWorker}

-- ---- what a worker's call adds

-- whether a deed adds a clerk, an action or a member
abbrev adds : Deed → Bool
adds deed.Enrol = true
adds (deed.Start a parent limit) = true
adds (deed.Join p a uris) = true
adds _ = false

-- what settles adds none
settles_none : (d : Deed) → is_settling d ≡ true → adds d ≡ false
settles_none (deed.Close a cause.Parent) h = refl
settles_none (deed.Cancel a cause.Parent) h = refl
settles_none (deed.Skip p) h = refl
settles_none (deed.End a status) h = refl
settles_none _ h = absurd cc

-- an entry that adds none isn't read by a word
abbrev PassesOver : {Y : Type 0} → (Entry → Option Y) → Type 0
PassesOver h = (by m : ℕ) (d : Deed) → adds d ≡ false → h (record { by = by; moment = m; deed = d }) ≡ None

no_clerk : PassesOver enrolled_by
no_clerk by m deed.Enrol n = absurd cc
no_clerk by m _ n = refl

no_action : PassesOver (λ (x : Entry). started_by x.deed)
no_action by m (deed.Start a parent limit) n = absurd cc
no_action by m _ n = refl

no_member : PassesOver (λ (x : Entry). joined_by x.deed)
no_member by m (deed.Join p a uris) n = absurd cc
no_member by m _ n = refl

settling_over : {Y : Type 0} (h : Entry → Option Y) → PassesOver h → (n by m : ℕ) (J : History)
    → filter_map h (settling_within n by m J) ≡ []
settling_over h over zero by m J = refl
settling_over h over (suc n) by m J = next (next_settling J) refl (λ K. settling_over h over n by m K)
  where
    next : (o : Option Deed) → next_settling J ≡ o → ((K : History) → filter_map h (settling_within n by m K) ≡ [])
        → filter_map h (option_map_or
        (λ (d : Deed). (let e : Entry = record { by = by; moment = m; deed = d } in e) ∷ settling_within n by m
        (J ++ (let e : Entry = record { by = by; moment = m; deed = d } in e) ∷ [])) o []) ≡ []
    next None g rest = refl
    next (Some d) g rest = rw (over by m d (settles_none d (next_settles J d g)))
        (rest (J ++ (let e : Entry = record { by = by; moment = m; deed = d } in e) ∷ []))

block_over : {Y : Type 0} (h : Entry → Option Y) → PassesOver h → (s : Terms) (J : History) (c : Call)
    → IfSome (own_deed s J (moment_of J c) c.command) (λ d. adds d ≡ false) → filter_map h (block s J c) ≡ []
unfolding block
block_over h over s J c none = own (own_deed s J (moment_of J c) c.command) none
  where
    own : (o : Option Deed) → IfSome o (λ d. adds d ≡ false) → filter_map h
        (option_map_or (with_settling J) (option_map (entry_of J c) o) []) ≡ []
    own None n = refl
    own (Some d) n =
        rw (over (writer_of J c) (moment_of J c) d n) (settling_over h over (most_settling (J ++ entry_of J c d ∷ []))
        (writer_of J c) (moment_of J c) (J ++ entry_of J c d ∷ []))

as_many : {Y : Type 0} (h : Entry → Option Y) (J es : History) → filter_map h es ≡ [] → length (filter_map h (J ++ es))
    ≡ length (filter_map h J)
as_many {Y = Y} h J es none = ap (λ (ys : List Y). length ys) (filter_map-append h J es
    ∙ ap (λ (ys : List Y). filter_map h J ++ ys) none ∙ append-nil (filter_map h J))

-- the own deed of a worker's call adds none
adds_none : (gives : ℕ → AskKind → Outcome → Type 0) (K : History) (s : Terms) (J : History) (m : ℕ) (o : Command)
    → IsWorkersCommand gives K o → IfSome (own_deed s J m o) (λ d. adds d ≡ false)
adds_none gives K s J m command.Tick h = fired (late J m)
  where
    fired : (x : Option ℕ) → IfSome (option_map (λ a. deed.Cancel a cause.Limit) x) (λ d. adds d ≡ false)
    fired None = tt
    fired (Some a) = refl
adds_none gives K s J m command.NextAsk h = of_due (due s.limits J m)
  where
    of_want : (p : ℕ) (w : Option AskKind) → IfSome (option_map (deed.Ask (length (asks J) + 1) p) w)
        (λ d. adds d ≡ false)
    of_want p None = tt
    of_want p (Some kind) = refl

    of_due : (x : Option ℕ) → IfSome (option_and_then (λ p. option_map (deed.Ask (length (asks J) + 1) p) (wants J p))
        x) (λ d. adds d ≡ false)
    of_due None = tt
    of_due (Some p) = of_want p (wants J p)
adds_none gives K s J m (command.Record errand outcome) h = refl
adds_none gives K s J m command.Enrol h = absurd h
adds_none gives K s J m (command.Start parent limit) h = absurd h
adds_none gives K s J m (command.Join action uris) h = absurd h
adds_none gives K s J m (command.Leave action member) h = absurd h
adds_none gives K s J m (command.Close action) h = absurd h
adds_none gives K s J m (command.Cancel action) h = absurd h
adds_none gives K s J m (command.Report member ending) h = absurd h
adds_none gives K s J m command.Restart h = absurd h
adds_none gives K s J m (command.Renew action limit) h = absurd h
adds_none gives K s J m (command.Status action) h = absurd h
adds_none gives K s J m (command.MemberStatus member) h = absurd h

-- ---- limits on what there may be

-- there aren't too many clerks, actions and members
record IsRoomy (s : Terms) (J : History) (c : Call) : Type 0 where
  pub clerks : overfills s J c resource.Clerks ≡ false
  pub actions : overfills s J c resource.Actions ≡ false
  pub members : overfills s J c resource.Members ≡ false

not_over : (s : Terms) (J : History) (c : Call) (r : Resource) → passes s.limits r (J ++ block s J c) ≡ false
    → overfills s J c r ≡ false
not_over s J c r h = either (is_filled (block s J c)) (passes s.limits r (J ++ block s J c)) h
  where
    either : (a b : Bool) → b ≡ false → (a && b) ≡ false
    either false b h = refl
    either true b h = h

roomy : (s : Terms) (J : History) (c : Call) → IsWithin s.limits J → IfSome (own_deed s J (moment_of J c) c.command)
    (λ d. adds d ≡ false) → IsRoomy s J c
unfolding clerks actions members
roomy s J c w none = record {
  clerks = not_over s J c resource.Clerks
      (le-ltb s.limits.clerks _ (subst (λ (n : ℕ). n ≤ s.limits.clerks)
      (sym (as_many enrolled_by J (block s J c) (block_over enrolled_by no_clerk s J c none))) w.clerks));
  actions = not_over s J c resource.Actions
      (le-ltb s.limits.actions _ (subst (λ (n : ℕ). n ≤ s.limits.actions)
      (sym (as_many (λ (x : Entry). started_by x.deed) J (block s J c)
      (block_over (λ (x : Entry). started_by x.deed) no_action s J c none))) w.actions));
  members = not_over s J c resource.Members
      (le-ltb s.limits.members _ (subst (λ (n : ℕ). n ≤ s.limits.members)
      (sym (as_many (λ (x : Entry). joined_by x.deed) J (block s J c)
      (block_over (λ (x : Entry). joined_by x.deed) no_member s J c none))) w.members));
}

-- ---- why a call is refused

-- the one that gives the call is no clerk, or it records what isn't asked, or there are too many entries
abbrev Why : Bool → Bool → Refusal → Type 0
Why stranger unasked r = ((r ≡ refusal.NoSuchClerk) × (stranger ≡ true))
    ⊎ (((r ≡ refusal.NotAsked) × (unasked ≡ true)) ⊎ (r ≡ refusal.Full resource.Entries))

first_of : (b x k a m e : Bool) (r : Refusal) → k ≡ false → a ≡ false → m ≡ false
    → first_ground ((refusal.NoSuchClerk, b) ∷ (refusal.NotAsked, x) ∷ (refusal.Full resource.Clerks, k)
    ∷ (refusal.Full resource.Actions, a) ∷ (refusal.Full resource.Members, m) ∷ (refusal.Full resource.Entries, e)
    ∷ []) ≡ Some r → Why b x r
first_of true x k a m e r f g h is = let same : refusal.NoSuchClerk ≡ r = cc in inl (sym same, refl)
first_of false true k a m e r f g h is = let same : refusal.NotAsked ≡ r = cc in inr (inl (sym same, refl))
first_of false false true a m e r f g h is = absurd cc
first_of false false false true m e r f g h is = absurd cc
first_of false false false false true e r f g h is = absurd cc
first_of false false false false false true r f g h is = let same : refusal.Full resource.Entries ≡ r = cc in
    inr (inr (sym same))
first_of false false false false false false r f g h is = absurd cc

refused_with : (o : Option Refusal) (t : Told) (r : Refusal) → option_map_or Err o (Ok t) ≡ Err r → o ≡ Some r
refused_with None t r e = absurd cc
refused_with (Some q) t r e = let same : q ≡ r = cc in ap Some same

-- a command records what came of an ask that isn't outstanding
abbrev pub unasked : History → Command → Bool
unasked J (command.Record errand outcome) = not (is_asked J errand.now)
unasked J _ = false

why : (gives : ℕ → AskKind → Outcome → Type 0) (K : History) (s : Terms) (J : History) (by m : ℕ) (o : Command)
    (r : Refusal) → IsWorkersCommand gives K o → IsRoomy s J (record { by = by; moment = m; command = o })
    → answer s J (record { by = by; moment = m; command = o }) ≡ Err r
    → Why (not (is_among (clerks J) by)) (unasked J o) r
unfolding answer refused
why gives K s J by m command.Tick r h room e =
    let c : Call = record { by = by; moment = m; command = command.Tick } in
    first_of _ false _ _ _ (overfills s J c resource.Entries) r room.clerks room.actions room.members
    (refused_with (refused s J c) (told_of s J c) r e)
why gives K s J by m command.NextAsk r h room e =
    let c : Call = record { by = by; moment = m; command = command.NextAsk } in
    first_of _ false _ _ _ (overfills s J c resource.Entries) r room.clerks room.actions room.members
    (refused_with (refused s J c) (told_of s J c) r e)
why gives K s J by m (command.Record errand outcome) r h room e =
    let c : Call = record { by = by; moment = m; command = command.Record errand outcome } in
    first_of _ (not (is_asked J errand.now)) _ _ _ (overfills s J c resource.Entries) r room.clerks room.actions
    room.members (refused_with (refused s J c) (told_of s J c) r e)
why gives K s J by m command.Enrol r h room e = absurd h
why gives K s J by m (command.Start parent limit) r h room e = absurd h
why gives K s J by m (command.Join action uris) r h room e = absurd h
why gives K s J by m (command.Leave action member) r h room e = absurd h
why gives K s J by m (command.Close action) r h room e = absurd h
why gives K s J by m (command.Cancel action) r h room e = absurd h
why gives K s J by m (command.Report member ending) r h room e = absurd h
why gives K s J by m command.Restart r h room e = absurd h
why gives K s J by m (command.Renew action limit) r h room e = absurd h
why gives K s J by m (command.Status action) r h room e = absurd h
why gives K s J by m (command.MemberStatus member) r h room e = absurd h

-- a number that is no clerk's has written nothing
written_none : {O : Type 0} (g : Setting) (v : View O) (J : History) (by : ℕ) → by ≡ v.number → IsMet g v J
    → not (is_among (clerks J) by) ≡ true → v.mine ≡ []
written_none g v J by is met stranger =
    sym met.own ∙ none_by g.version is_address J met.kept.lawful.legal v.number
    (ap (is_among (clerks J)) (sym is) ∙ turned (is_among (clerks J) by) stranger)
  where
    turned : (b : Bool) → not b ≡ true → b ≡ false
    turned true h = absurd cc
    turned false h = refl

-- a refusal ends a worker, or reports that what it records isn't asked
abbrev EndsOr : Bool → Refusal → Type 0
EndsOr x r = EndsWorker (office.Refused r) ⊎ ((r ≡ refusal.NotAsked) × (x ≡ true))

held : {O : Type 0} (gives : ℕ → AskKind → Outcome → Type 0) (g : Setting) (v : View O) (J : History) (c : Call)
    (r : Refusal) → IsWorkersCommand gives v.seen c.command → c.by ≡ v.number → v.number ≢ 0 → IsMet g v J
    → IsHeldBack (terms_of g) J c r → EndsOr (unasked J c.command) r
held gives g v J c r own is known met (inr (stopped, h)) = inl (subst (λ (q : Refusal). EndsWorker (office.Refused q))
    (sym stopped) tt)
held gives g v J c r own is known met (inl (inr (memory, h))) = inl (subst
    (λ (q : Refusal). EndsWorker (office.Refused q)) (sym memory) tt)
held gives g v J c r own is known met (inl (inl answered)) =
    by_cause (why gives v.seen (terms_of g) J c.by c.moment c.command r own
    (roomy (terms_of g) J c met.kept.lawful.within (adds_none gives v.seen (terms_of g) J (moment_of J c) c.command
    own)) answered)
  where
    by_cause : Why (not (is_among (clerks J) c.by)) (unasked J c.command) r → EndsOr (unasked J c.command) r
    by_cause (inl (e, stranger)) = absurd (met.enrolled known (written_none g v J c.by is met stranger))
    by_cause (inr (inl late)) = inr late
    by_cause (inr (inr e)) = inl (subst (λ (q : Refusal). EndsWorker (office.Refused q)) (sym e) tt)

-- the call of a clerk that isn't done ends its worker, unless what it records isn't asked
pub ends : {O : Type 0} (gives : ℕ → AskKind → Outcome → Type 0) (g : Setting) (v w : View O) (c : Call)
    (r : OfficeRefusal) → IsNotGiven g v c r w → c.by ≡ v.number → v.number ≢ 0
    → IsWorkersCommand gives v.seen c.command
    → r ≢ office.Refused refusal.NotAsked → EndsWorker r
ends gives g v w c office.Worn h is known own other = tt
ends gives g v w c (office.Refused r) (J, met, back, after) is known own other =
    either (held gives g v J c r own is known met back)
  where
    either : EndsOr (unasked J c.command) r → EndsWorker (office.Refused r)
    either (inl e) = e
    either (inr (late, x)) = absurd (other (ap office.Refused late))

-- a call that records nothing isn't refused so
pub never_late : {O : Type 0} (gives : ℕ → AskKind → Outcome → Type 0) (g : Setting) (v w : View O) (c : Call)
    (r : OfficeRefusal) → IsNotGiven g v c r w → c.by ≡ v.number → v.number ≢ 0
    → IsWorkersCommand gives v.seen c.command
    → ((J : History) → unasked J c.command ≡ false) → EndsWorker r
never_late gives g v w c office.Worn h is known own never = tt
never_late gives g v w c (office.Refused r) (J, met, back, after) is known own never =
    either (held gives g v J c r own is known met back)
  where
    either : EndsOr (unasked J c.command) r → EndsWorker (office.Refused r)
    either (inl e) = e
    either (inr (late, x)) = let n = never J in absurd cc
