-- From the grounds that hold to what is decided, whichever the command.
use Rattle.std.proofs.Common.{◌≡◌, ℕ, zero, suc, ◌≤◌, ◌<◌, Bool, true, false, List, [], ◌∷◌, ◌++◌, length, Option, Some}
use Rattle.std.proofs.Common.{None, Ok, Err, refl, sym, ap, ◌∙◌, append_assoc, inl}
use Rattle.std.proofs.lemmas.Bool.{lt-ltb, le-ltb}
use Rattle.std.specs.Prelude.{◌&&◌, nat_lt, option_map}
use Rattle.std.specs.Option.{option_map_or}
use Rattle.lra_model.specs.declared.entry.Deed.{Deed}
use Rattle.lra_model.specs.declared.entry.Entry.{Entry}
use Rattle.lra_model.specs.Words.{when}
use Rattle.lra_model.specs.History.{History, clerks, actions, members}
use Rattle.lra_model.specs.Settling.{most_settling, settling, with_settling}
use Rattle.lra_laws.proofs.Legal.{Allowed, allows_from}
use Rattle.lra_ids.specs.Addresses.{is_address}
use Rattle.lra_commands.specs.declared.command.Told.{Told}
use Rattle.lra_commands.specs.declared.limits.Limits.{Limits}
use Rattle.lra_commands.specs.declared.limits.Terms.{Terms}
use Rattle.lra_commands.specs.declared.refusal.Resource.TheVariants as resource
use Rattle.lra_commands.specs.declared.refusal.Refusal.{Refusal}
use Rattle.lra_commands.specs.declared.refusal.Refusal.TheVariants as refusal
use Rattle.lra_commands.specs.Calls.{Call, moment_of}
use Rattle.lra_commands.specs.Deeds.{own_deed, entry_of}
use Rattle.lra_commands.specs.Blocks.{block}
use Rattle.lra_commands.specs.Refusals.{Ground, passes, is_filled, full_grounds, command_grounds, is_stranger}
use Rattle.lra_commands.specs.Refusals.{first_ground, refused}
use Rattle.lra_commands.specs.Answers.{told_of, answer}
use Rattle.lra_commands.specs.Runs.{IsWithin}
use Rattle.lra_validator.specs.declared.decision.Decision.TheVariants as decision
use Rattle.lra_validator.specs.Decisions.{IsDecided}
use Rattle.lra_validator.proofs.Counts.{AddsNone, SameCounts, push_same, settling_same}

-- ---- grounds, one by one

pub holds : (r : Refusal) (b : Bool) (rest : List Ground) → b ≡ true → first_ground ((r, b) ∷ rest) ≡ Some r
holds r b rest h = ap (λ (x : Bool). first_ground ((r, x) ∷ rest)) h

pub fails : (r : Refusal) (b : Bool) (rest : List Ground) → b ≡ false → first_ground ((r, b) ∷ rest) ≡ first_ground rest
fails r b rest h = ap (λ (x : Bool). first_ground ((r, x) ∷ rest)) h

first_of_both : (gs hs : List Ground) (r : Refusal) → first_ground gs ≡ Some r → first_ground (gs ++ hs) ≡ Some r
first_of_both [] hs r h = absurd cc
first_of_both ((q, true) ∷ gs) hs r h = h
first_of_both ((q, false) ∷ gs) hs r h = first_of_both gs hs r h

first_past : (gs hs : List Ground) → first_ground gs ≡ None → first_ground (gs ++ hs) ≡ first_ground hs
first_past [] hs h = refl
first_past ((q, true) ∷ gs) hs h = absurd cc
first_past ((q, false) ∷ gs) hs h = first_past gs hs h

-- ---- what a call is answered

pub answers_err : (s : Terms) (J : History) (c : Call) (r : Refusal) → refused s J c ≡ Some r → answer s J c ≡ Err r
unfolding answer
answers_err s J c r h = ap (λ (o : Option Refusal). option_map_or Err o (Ok (told_of s J c))) h

pub answers_ok : (s : Terms) (J : History) (c : Call) → refused s J c ≡ None → answer s J c ≡ Ok (told_of s J c)
unfolding answer
answers_ok s J c h = ap (λ (o : Option Refusal). option_map_or Err o (Ok (told_of s J c))) h

pub stranger : (s : Terms) (J : History) (c : Call) → is_stranger J c.by c.command ≡ true
    → IsDecided s J c (Err refusal.NoSuchClerk)
unfolding refused
stranger s J c h = inl
    (answers_err s J c refusal.NoSuchClerk (holds refusal.NoSuchClerk (is_stranger J c.by c.command)
    (command_grounds s J (moment_of J c) c.command ++ full_grounds s J c) h))

known : (s : Terms) (J : History) (c : Call) → is_stranger J c.by c.command ≡ false → refused s J c
    ≡ first_ground (command_grounds s J (moment_of J c) c.command ++ full_grounds s J c)
unfolding refused
known s J c h = fails refusal.NoSuchClerk (is_stranger J c.by c.command)
    (command_grounds s J (moment_of J c) c.command ++ full_grounds s J c) h

-- a ground of the command holds
pub held : (s : Terms) (J : History) (c : Call) (r : Refusal) → is_stranger J c.by c.command ≡ false
    → first_ground (command_grounds s J (moment_of J c) c.command) ≡ Some r → IsDecided s J c (Err r)
held s J c r here h =
    inl (answers_err s J c r (known s J c here ∙ first_of_both (command_grounds s J (moment_of J c) c.command)
    (full_grounds s J c) r h))

-- the ground of that place is the first that holds
abbrev pub IsFirst : ℕ → List Ground → Refusal → Type 0
IsFirst n [] q = ⊥
IsFirst zero ((r, b) ∷ gs) q = (b ≡ true) × (r ≡ q)
IsFirst (suc n) ((r, b) ∷ gs) q = (b ≡ false) × IsFirst n gs q

first_is : (n : ℕ) (gs : List Ground) (q : Refusal) → IsFirst n gs q → first_ground gs ≡ Some q
first_is zero [] q h = absurd h
first_is (suc n) [] q h = absurd h
first_is zero ((r, true) ∷ gs) q h = ap Some h.1
first_is zero ((r, false) ∷ gs) q h = let k = h.0 in absurd cc
first_is (suc n) ((r, true) ∷ gs) q h = let k = h.0 in absurd cc
first_is (suc n) ((r, false) ∷ gs) q h = first_is n gs q h.1

-- this ground decides
pub first_decides : (s : Terms) (J : History) (c : Call) (n : ℕ) (r : Refusal) → is_stranger J c.by c.command ≡ false
    → IsFirst n (command_grounds s J (moment_of J c) c.command) r → IsDecided s J c (Err r)
first_decides s J c n r here h = held s J c r here (first_is n (command_grounds s J (moment_of J c) c.command) r h)

-- no ground holds but those of too much
pub record IsFree (s : Terms) (J : History) (c : Call) : Type 0 where
  pub here : is_stranger J c.by c.command ≡ false
  pub free : first_ground (command_grounds s J (moment_of J c) c.command) ≡ None

only_full : (s : Terms) (J : History) (c : Call) → IsFree s J c → refused s J c ≡ first_ground (full_grounds s J c)
only_full s J c f = known s J c f.here ∙ first_past (command_grounds s J (moment_of J c) c.command) (full_grounds s J c)
    f.free

-- ---- nothing is written

pub block_of : (s : Terms) (J : History) (c : Call) (o : Option Deed) → own_deed s J (moment_of J c) c.command ≡ o
    → block s J c ≡ option_map_or (with_settling J) (option_map (entry_of J c) o) []
unfolding block
block_of s J c o h = ap (λ (x : Option Deed). option_map_or (with_settling J) (option_map (entry_of J c) x) []) h

-- the grounds of too much, where these entries are appended
abbrev grounds_after : Limits → History → List Entry → List Ground
grounds_after l J es =
    (refusal.Full resource.Clerks, is_filled es && passes l resource.Clerks (J ++ es))
    ∷ (refusal.Full resource.Actions, is_filled es && passes l resource.Actions (J ++ es))
    ∷ (refusal.Full resource.Members, is_filled es && passes l resource.Members (J ++ es))
    ∷ (refusal.Full resource.Entries, is_filled es && passes l resource.Entries (J ++ es)) ∷ []

pub only_told : (s : Terms) (J : History) (c : Call) (t : Told) → IsFree s J c → own_deed s J (moment_of J c) c.command
    ≡ None → told_of s J c ≡ t → IsDecided s J c (Ok (decision.Told t))
only_told s J c t f h told =
    let nothing : block s J c ≡ [] = block_of s J c None h in
    let full : first_ground (full_grounds s J c) ≡ None = ap (λ (es : List Entry). first_ground
    (grounds_after s.limits J es)) nothing in
    record { answered = answers_ok s J c (only_full s J c f ∙ full) ∙ ap Ok told; nothing = nothing }

-- ---- something is written

-- clerks, actions and members are within the limits after one entry
pub record HasFew (l : Limits) (J : History) (e : Entry) : Type 0 where
  pub clerks : length (clerks (J ++ e ∷ [])) ≤ l.clerks
  pub actions : length (actions (J ++ e ∷ [])) ≤ l.actions
  pub members : length (members (J ++ e ∷ [])) ≤ l.members

pub few_of_same : (l : Limits) (J : History) (e : Entry) → IsWithin l J → AddsNone e → HasFew l J e
few_of_same l J e w a =
    let k = push_same J e a in
    record { clerks = rw k.clerks w.clerks; actions = rw k.actions w.actions; members = rw k.members w.members }

-- one thing after an entry, of which there are no more after all that settles
pub block_same : (J : History) (e : Entry) → SameCounts (J ++ e ∷ []) (J ++ with_settling J e)
block_same J e =
    let K : History = J ++ e ∷ [] in
    let es : List Entry = settling e.by e.moment K in
    let k = settling_same (most_settling K) e.by e.moment K in
    let apart : J ++ (e ∷ es) ≡ K ++ es = sym (append_assoc J (e ∷ []) es) in
    record {
      clerks = ap clerks apart ∙ k.clerks;
      actions = ap actions apart ∙ k.actions;
      members = ap members apart
          ∙ k.members;
    }

-- the tests of too much, as the grounds that they are
abbrev four : Limits → Bool → Bool → Bool → Bool → List Ground
four l clerks actions members entries =
    (refusal.Full resource.Clerks, clerks) ∷ (refusal.Full resource.Actions, actions)
    ∷ (refusal.Full resource.Members, members) ∷ (refusal.Full resource.Entries, entries) ∷ []

-- a call that writes an entry of its own, where no ground of the command holds
pub record IsOwn (s : Terms) (J : History) (c : Call) (d : Deed) : Type 0 where
  pub free : IsFree s J c
  pub own : own_deed s J (moment_of J c) c.command ≡ Some d

refused_full : (s : Terms) (J : History) (c : Call) (d : Deed) → IsOwn s J c d
    → refused s J c ≡ first_ground (four s.limits (nat_lt s.limits.clerks (length (clerks (J ++ entry_of J c d ∷ []))))
    (nat_lt s.limits.actions (length (actions (J ++ entry_of J c d ∷ []))))
    (nat_lt s.limits.members (length (members (J ++ entry_of J c d ∷ []))))
    (passes s.limits resource.Entries (J ++ with_settling J (entry_of J c d))))
refused_full s J c d o =
    let e : Entry = entry_of J c d in
    let k = block_same J e in
    let filled = ap (λ (es : List Entry). first_ground (grounds_after s.limits J es)) (block_of s J c (Some d) o.own) in
    only_full s J c o.free ∙ filled
    ∙ ap (λ (n : List ℕ). first_ground (four s.limits (nat_lt s.limits.clerks (length n))
    (nat_lt s.limits.actions (length (actions (J ++ with_settling J e))))
    (nat_lt s.limits.members (length (members (J ++ with_settling J e))))
    (passes s.limits resource.Entries (J ++ with_settling J e)))) k.clerks
    ∙ ap (λ (n : List ℕ). first_ground (four s.limits (nat_lt s.limits.clerks (length (clerks (J ++ e ∷ []))))
    (nat_lt s.limits.actions (length n)) (nat_lt s.limits.members (length (members (J ++ with_settling J e))))
    (passes s.limits resource.Entries (J ++ with_settling J e)))) k.actions
    ∙ ap (λ (n : List ℕ). first_ground (four s.limits (nat_lt s.limits.clerks (length (clerks (J ++ e ∷ []))))
    (nat_lt s.limits.actions (length (actions (J ++ e ∷ [])))) (nat_lt s.limits.members (length n))
    (passes s.limits resource.Entries (J ++ with_settling J e)))) k.members

only_entries : (l : Limits) (b : Bool) → first_ground (four l false false false b)
    ≡ when b (refusal.Full resource.Entries)
only_entries l true = refl
only_entries l false = refl

four_few : (l : Limits) (a b d e : Bool) → a ≡ false → b ≡ false → d ≡ false → first_ground (four l a b d e)
    ≡ when e (refusal.Full resource.Entries)
four_few l false false false e h i j = only_entries l e
four_few l true b d e h i j = absurd cc
four_few l false true d e h i j = absurd cc
four_few l false false true e h i j = absurd cc

pub written_own : (s : Terms) (J : History) (c : Call) (d : Deed) → IsOwn s J c d
    → Allowed s.version is_address J (entry_of J c d) → HasFew s.limits J (entry_of J c d)
    → IsDecided s J c (Ok (decision.Write (entry_of J c d)))
written_own s J c d o k f =
    let e : Entry = entry_of J c d in
    record {
      own = ap (λ (x : Option Deed). option_map (entry_of J c) x) o.own;
      allowed = allows_from s.version is_address J e k;
      written = block_of s J c (Some d) o.own;
      refused = refused_full s J c d o
          ∙ four_few s.limits _ _ _ (passes s.limits resource.Entries (J ++ with_settling J e))
          (le-ltb s.limits.clerks (length (clerks (J ++ e ∷ []))) f.clerks)
          (le-ltb s.limits.actions (length (actions (J ++ e ∷ []))) f.actions)
          (le-ltb s.limits.members (length (members (J ++ e ∷ []))) f.members);
    }

-- ---- too much

four_clerks : (l : Limits) (a b d e : Bool) → a ≡ true → first_ground (four l a b d e)
    ≡ Some (refusal.Full resource.Clerks)
four_clerks l true b d e h = refl
four_clerks l false b d e h = absurd cc

four_actions : (l : Limits) (a b d e : Bool) → a ≡ false → b ≡ true → first_ground (four l a b d e)
    ≡ Some (refusal.Full resource.Actions)
four_actions l false true d e h i = refl
four_actions l true b d e h i = absurd cc
four_actions l false false d e h i = absurd cc

four_members : (l : Limits) (a b d e : Bool) → a ≡ false → b ≡ false → d ≡ true → first_ground (four l a b d e)
    ≡ Some (refusal.Full resource.Members)
four_members l false false true e h i j = refl
four_members l true b d e h i j = absurd cc
four_members l false true d e h i j = absurd cc
four_members l false false false e h i j = absurd cc

pub full_clerks : (s : Terms) (J : History) (c : Call) (d : Deed) → IsOwn s J c d → s.limits.clerks
    < length (clerks (J ++ entry_of J c d ∷ [])) → IsDecided s J c (Err (refusal.Full resource.Clerks))
full_clerks s J c d o h = inl (answers_err s J c (refusal.Full resource.Clerks)
    (refused_full s J c d o ∙ four_clerks s.limits _ _ _ _ (lt-ltb s.limits.clerks
    (length (clerks (J ++ entry_of J c d ∷ []))) h)))

pub full_actions : (s : Terms) (J : History) (c : Call) (d : Deed) → IsOwn s J c d
    → length (clerks (J ++ entry_of J c d ∷ [])) ≤ s.limits.clerks → s.limits.actions
    < length (actions (J ++ entry_of J c d ∷ []))
    → IsDecided s J c (Err (refusal.Full resource.Actions))
full_actions s J c d o i h =
    inl (answers_err s J c (refusal.Full resource.Actions) (refused_full s J c d o
    ∙ four_actions s.limits _ _ _ _ (le-ltb s.limits.clerks (length (clerks (J ++ entry_of J c d ∷ []))) i)
    (lt-ltb s.limits.actions (length (actions (J ++ entry_of J c d ∷ []))) h)))

pub full_members : (s : Terms) (J : History) (c : Call) (d : Deed) → IsOwn s J c d
    → length (clerks (J ++ entry_of J c d ∷ [])) ≤ s.limits.clerks → length (actions (J ++ entry_of J c d ∷ []))
    ≤ s.limits.actions
    → s.limits.members < length (members (J ++ entry_of J c d ∷ [])) → IsDecided s J c
    (Err (refusal.Full resource.Members))
full_members s J c d o i j h =
    inl (answers_err s J c (refusal.Full resource.Members)
    (refused_full s J c d o ∙ four_members s.limits _ _ _ _ (le-ltb s.limits.clerks
    (length (clerks (J ++ entry_of J c d ∷ []))) i) (le-ltb s.limits.actions
    (length (actions (J ++ entry_of J c d ∷ []))) j) (lt-ltb s.limits.members
    (length (members (J ++ entry_of J c d ∷ []))) h)))
