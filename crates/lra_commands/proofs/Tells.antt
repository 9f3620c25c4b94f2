-- What an order is told.
use Rattle.std.proofs.Common.{◌≡◌, ℕ, ◌≤◌, Bool, true, false, cond, List, [], ◌∷◌, ◌++◌, length, Option, Some, None, Ok}
use Rattle.std.proofs.Common.{Err, refl, sym, ap, subst, ◌∙◌, arith}
use Rattle.std.specs.Prelude.{◌==◌, unwrap_or, filter}
use denote.Ref.{Bor}
use Rattle.std.specs.Option.{option_map_or}
use Rattle.std.specs.List.{find, filter_map}
use Rattle.std.specs.Result.{result_ok}
use Rattle.std.proofs.lemmas.List.{length-append}
use Rattle.std.proofs.lemmas.List.Elements.{filter_map-append}
use Rattle.lra_model.specs.declared.entry.Entry.{Entry}
use Rattle.lra_model.specs.declared.entry.Deed.TheVariants as deed
use Rattle.lra_model.specs.Addresses.{Addresses}
use Rattle.lra_model.specs.History.{History, actions, members, is_among, started_by, joined_by}
use Rattle.lra_model.specs.Actions.{members_of}
use Rattle.lra_model.specs.Members.{action_of}
use Rattle.lra_ids.specs.Addresses.{is_address}
use Rattle.lra_laws.proofs.Tested.{both}
use Rattle.lra_laws.proofs.GoodLists.{among_here, among_there, among_filter}
use Rattle.lra_laws.proofs.ActionWords.{members_by}
use Rattle.lra_laws.proofs.Legal.{numbered_among, members_numbered}
use Rattle.lra_commands.specs.declared.command.Told.{Told}
use Rattle.lra_commands.specs.declared.command.Told.TheVariants as told
use Rattle.lra_commands.specs.declared.refusal.Refusal.{Refusal}
use Rattle.lra_commands.specs.declared.limits.Terms.{Terms}
use Rattle.lra_commands.specs.declared.counter.Order.{Order}
use Rattle.lra_commands.specs.declared.counter.Order.TheVariants as order
use Rattle.lra_commands.specs.Terms.{AreKeepable}
use Rattle.lra_commands.specs.Calls.{Call, moment_of}
use Rattle.lra_commands.specs.Due.{late}
use Rattle.lra_model.specs.Joins.{already_member}
use Rattle.lra_commands.specs.Deeds.{stored_addresses, is_open, is_decided, may_be_cancelled}
use Rattle.lra_commands.specs.Blocks.{block}
use Rattle.lra_commands.specs.Refusals.{refused}
use Rattle.lra_commands.specs.Answers.{told_of, answer, growth, after_call}
use Rattle.lra_commands.specs.Runs.{IsLawful}
use Rattle.lra_commands.specs.Counters.{terms_of, call_of, IsIdentifiable, CanTell, CountersTell}

-- ---- what isn't refused

told_by : (o : Option Refusal) (x t : Told) → option_map_or Err o (Ok x) ≡ Ok t → (o ≡ None) × (x ≡ t)
told_by None x t e = (refl, ap (λ r. unwrap_or (result_ok r) x) e)
told_by (Some r) x t e = absurd cc

-- a call that is told something: what it is, and the history after it
record IsTold (s : Terms) (J : History) (c : Call) (t : Told) : Type 0 where
  told : t ≡ told_of s J c
  left : IsLawful s (J ++ block s J c)

grown : (s : Terms) (J : History) (c : Call) → refused s J c ≡ None → after_call s J c ≡ J ++ block s J c
unfolding growth
grown s J c none = rw none refl

is_told : (s : Terms) (J : History) (c : Call) (t : Told) → answer s J c ≡ Ok t → IsLawful s (after_call s J c)
    → IsTold s J c t
unfolding answer
is_told s J c t e left =
    let by = told_by (refused s J c) (told_of s J c) t e in
    let P : History → Type 0 = λ K. IsLawful s K in
    record { told = sym by.1; left = subst P (grown s J c by.0) left }

-- ---- numbers

some_action : (J rest : History) (by m n limit : ℕ) (parent : Option ℕ)
    → 1 ≤ length (actions (J ++ record { by = by; moment = m; deed = deed.Start n parent limit } ∷ rest))
unfolding actions
some_action J rest by m n limit parent =
    let e : Entry = record { by = by; moment = m; deed = deed.Start n parent limit } in
    rw (filter_map-append (λ (x : Entry). started_by x.deed) J (e ∷ rest))
    (let long = length-append (filter_map (λ (x : Entry). started_by x.deed) J)
    (n ∷ filter_map (λ (x : Entry). started_by x.deed) rest) in omega (arith, long))

some_member : (J rest : History) (by m n a : ℕ) (u : Addresses)
    → 1 ≤ length (members (J ++ record { by = by; moment = m; deed = deed.Join n a u } ∷ rest))
unfolding members
some_member J rest by m n a u =
    let e : Entry = record { by = by; moment = m; deed = deed.Join n a u } in
    rw (filter_map-append (λ (x : Entry). joined_by x.deed) J (e ∷ rest))
    (let long = length-append (filter_map (λ (x : Entry). joined_by x.deed) J)
    (n ∷ filter_map (λ (x : Entry). joined_by x.deed) rest) in omega (arith, long))

found_among : (f : ℕ → Bool) (ns : List ℕ) (n : ℕ) → find f ns ≡ Some n → is_among ns n ≡ true
found_among f [] n e = absurd cc
found_among f (x ∷ ns) n e = by_first (f x) refl (found_among f ns n) e
  where
    by_first : (b : Bool) → f x ≡ b → (find f ns ≡ Some n → is_among ns n ≡ true) → cond b (Some x) (find f ns) ≡ Some n
        → is_among (x ∷ ns) n ≡ true
    by_first true g rest h = let same : x ≡ n = ap (λ o. unwrap_or o x) h in
        let P : ℕ → Type 0 = λ m. is_among (x ∷ ns) m ≡ true in subst P same (among_here x ns)
    by_first false g rest h = among_there x ns n (rest h)

-- a member that has joined already
old_member : (s : Terms) (J : History) (a p : ℕ) (u : Addresses) → AreKeepable s.limits → IsLawful s J
    → already_member J a u ≡ Some p → IsIdentifiable p
unfolding already_member
old_member s J a p u keepable lawful e =
    let here = found_among _ (members_of J a) p e in
    let chosen : is_among (filter (λ q. action_of J q == a) (members J)) p ≡ true =
    ap (λ ns. is_among ns p) (sym (members_by s.version is_address J lawful.legal a)) ∙ here in
    let within = both (is_among (members J) p) (action_of J p == a) (sym
    (among_filter (λ q. action_of J q == a) (members J) p) ∙ chosen) in
    let range = numbered_among (members J) (members_numbered s.version is_address J lawful.legal) p within.0 in
    (range.0, omega (arith, range.1, lawful.within.members, keepable.members))

-- ---- by the order

either : (o : Order) (b : Bool) (x y : Told) → CanTell o x → CanTell o y → CanTell o (cond b x y)
either o true x y h k = h
either o false x y h k = k

start_told : (s : Terms) (J : History) (by m limit : ℕ) (parent : Option ℕ) → AreKeepable s.limits
    → IsLawful s (J ++ block s J (call_of by m (order.Start parent limit)))
    → IsIdentifiable (length (actions (J ++ block s J (call_of by m (order.Start parent limit)))))
unfolding block
start_told s J by m limit parent keepable left =
    (some_action J _ by _ _ limit parent, omega (arith, left.within.actions, keepable.actions))

joined : (s : Terms) (J : History) (by m a : ℕ) (u : Bor Addresses) → already_member J a (stored_addresses u.now) ≡ None
    → 1 ≤ length (members (J ++ block s J (call_of by m (order.Join a u))))
unfolding block
joined s J by m a u e = rw e (some_member J _ by _ _ a (stored_addresses u.now))

join_told : (s : Terms) (J : History) (by m a : ℕ) (u : Bor Addresses) (o : Option ℕ) → AreKeepable s.limits
    → IsLawful s J
    → IsLawful s (J ++ block s J (call_of by m (order.Join a u)))
    → already_member J a (stored_addresses u.now) ≡ o
    → CanTell (order.Join a u)
    (option_map_or told.AlreadyMember o
    (told.Member (length (members (J ++ block s J (call_of by m (order.Join a u)))))))
join_told s J by m a u (Some p) keepable lawful left e = old_member s J a p (stored_addresses u.now) keepable lawful e
join_told s J by m a u None keepable lawful left e = (
  joined s J by m a u e,
  omega (arith, left.within.members, keepable.members),
)

tick_told : (o : Option ℕ) → CanTell order.Tick (option_map_or told.Fired o told.Idle)
tick_told None = tt
tick_told (Some a) = tt

by_order : (s : Terms) (J : History) (by m : ℕ) (o : Order) → AreKeepable s.limits → IsLawful s J
    → IsLawful s (J ++ block s J (call_of by m o))
    → CanTell o (told_of s J (call_of by m o))
by_order s J by m (order.Start parent limit) keepable lawful left = start_told s J by m limit parent keepable left
by_order s J by m (order.Join a u) keepable lawful left = join_told s J by m a u
    (already_member J a (stored_addresses u.now)) keepable lawful left refl
by_order s J by m (order.Leave a p) keepable lawful left = tt
by_order s J by m (order.Close a) keepable lawful left = either (order.Close a) (is_open J a) _ _ tt tt
by_order s J by m (order.Cancel a) keepable lawful left = either (order.Cancel a) (may_be_cancelled s J a) _ _ tt tt
by_order s J by m order.Tick keepable lawful left = tick_told (late J (moment_of J (call_of by m order.Tick)))
by_order s J by m (order.Report p e) keepable lawful left = either (order.Report p e) (is_decided J p e) _ _ tt tt
by_order s J by m order.Restart keepable lawful left = tt
by_order s J by m (order.Renew a limit) keepable lawful left = tt
by_order s J by m (order.Status a) keepable lawful left = tt
by_order s J by m (order.MemberStatus p) keepable lawful left = tt

-- whatever a counter tells of an order is what such an order can be told
pub counters_tell : CountersTell
counters_tell before after m o t keeps =
    let J : History = before.seen ++ keeps.seen.0 in
    let given = keeps.seen.2 in
    let s : Terms = terms_of before.setting in
    let c : Call = call_of before.number m o in
    let P : History → Type 0 = λ K. IsLawful s K in
    let told = is_told s J c t given.told.0 (subst P given.told.1 given.left) in
    let Q : Told → Type 0 = λ x. CanTell o x in
    subst Q (sym told.told) (by_order s J before.number m o given.keepable given.lawful told.left)
