-- A call that isn't refused but for its entries: where it is refused, and where memory may be.
use Rattle.std.proofs.Common.{◌≡◌, ℕ, Bool, true, false, List, [], ◌∷◌, ◌++◌, length, Option, Some, None, refl, sym, ap}
use Rattle.std.proofs.Common.{◌∙◌, ◌<◌, ◌≤◌, append_assoc}
use Rattle.std.proofs.lemmas.Bool.{lt-ltb, le-ltb}
use Rattle.std.specs.Prelude.{◌&&◌, ◌||◌, not, Ok, Err, nat_lt}
use Rattle.std.specs.Option.{option_or, option_map_or}
use Rattle.std.specs.Result.{is_ok}
use Rattle.lra_model.specs.declared.entry.Entry.{Entry}
use Rattle.lra_model.specs.History.{History}
use Rattle.lra_model.specs.Addresses.{Addresses}
use Rattle.lra_model.specs.Tests.{addresses_fit}
use Rattle.lra_ids.specs.Addresses.{address_of}
use Rattle.lra_commands.specs.declared.command.Command.TheVariants as command
use Rattle.lra_commands.specs.declared.limits.Terms.{Terms}
use Rattle.lra_commands.specs.declared.refusal.Resource.TheVariants as resource
use Rattle.lra_commands.specs.declared.refusal.Refusal.{Refusal}
use Rattle.lra_commands.specs.declared.refusal.Refusal.TheVariants as refusal
use Rattle.lra_commands.specs.Calls.{Command, Call, moment_of}
use Rattle.lra_commands.specs.Blocks.{block}
use Rattle.lra_commands.specs.Refusals.{Ground, is_filled, passes, overfills, command_grounds, is_stranger}
use Rattle.lra_commands.specs.Refusals.{first_ground, refused}
use Rattle.lra_commands.specs.Answers.{told_of, answer}
use Rattle.lra_commands.specs.Shortages.{grounds_before_growth, has_addresses, MayRunOut}
use Rattle.lra_commands.proofs.Grounds.{names, other_first}

-- the first ground of two lists
first_of_both : (gs hs : List Ground) → first_ground (gs ++ hs) ≡ option_or (first_ground gs) (first_ground hs)
first_of_both [] hs = refl
first_of_both ((r, true) ∷ gs) hs = refl
first_of_both ((r, false) ∷ gs) hs = first_of_both gs hs

-- whether a refusal is that there are too many entries
abbrev is_of_entries : Refusal → Bool
is_of_entries (refusal.Full resource.Entries) = true
is_of_entries _ = false

-- the grounds but for that of the entries
abbrev most_grounds : Terms → History → Call → List Ground
most_grounds s J c =
    command_grounds s J (moment_of J c) c.command
    ++ ((refusal.Full resource.Clerks, overfills s J c resource.Clerks)
    ∷ (refusal.Full resource.Actions, overfills s J c resource.Actions)
    ∷ (refusal.Full resource.Members, overfills s J c resource.Members) ∷ [])

abbrev front : Terms → History → Call → List Ground
front s J c = (refusal.NoSuchClerk, is_stranger J c.by c.command) ∷ most_grounds s J c

abbrev entries_ground : Terms → History → Call → List Ground
entries_ground s J c = (refusal.Full resource.Entries, overfills s J c resource.Entries) ∷ []

others : (s : Terms) (J : History) (by m : ℕ) (o : Command) → names is_of_entries
    (front s J (record { by = by; moment = m; command = o })) ≡ false
others s J by m command.Enrol = refl
others s J by m (command.Start parent limit) = refl
others s J by m (command.Join a uris) = refl
others s J by m (command.Leave a p) = refl
others s J by m (command.Close a) = refl
others s J by m (command.Cancel a) = refl
others s J by m command.Tick = refl
others s J by m command.NextAsk = refl
others s J by m (command.Record errand o) = refl
others s J by m (command.Report p e) = refl
others s J by m command.Restart = refl
others s J by m (command.Renew a limit) = refl
others s J by m (command.Status a) = refl
others s J by m (command.MemberStatus p) = refl

refused_by : (s : Terms) (J : History) (c : Call) → refused s J c ≡ option_or (first_ground (front s J c))
    (first_ground (entries_ground s J c))
unfolding refused
refused_by s J c =
    ap (λ (gs : List Ground). first_ground ((refusal.NoSuchClerk, is_stranger J c.by c.command) ∷ gs))
    (sym (append_assoc (command_grounds s J (moment_of J c) c.command) _ (entries_ground s J c)))
    ∙ first_of_both (front s J c) (entries_ground s J c)

-- nothing refuses a call, but that its entries may be too many
pub record IsMostlyFree (s : Terms) (J : History) (c : Call) : Type 0 where
  pub front : first_ground (front s J c) ≡ None
  pub rest : refused s J c ≡ first_ground (entries_ground s J c)

pub mostly_free : (s : Terms) (J : History) (c : Call) → ((r : Refusal) → refused s J c ≡ Some r → r
    ≡ refusal.Full resource.Entries) → IsMostlyFree s J c
mostly_free s J c h = cases (first_ground (front s J c)) refl
  where
    cases : (o : Option Refusal) → first_ground (front s J c) ≡ o → IsMostlyFree s J c
    cases None e = record {
      front = e;
      rest = refused_by s J c ∙ ap (λ (x : Option Refusal). option_or x
          (first_ground (entries_ground s J c))) e;
    }
    cases (Some r) e =
        let full = h r (refused_by s J c ∙ ap (λ (x : Option Refusal). option_or x
        (first_ground (entries_ground s J c))) e) in
        let other = other_first is_of_entries (front s J c) (others s J c.by c.moment c.command) r e in
        absurd (let bad : true ≡ false = sym (ap is_of_entries full) ∙ other in cc)

-- where what comes first holds against nothing, neither does its front
none_before : (gs hs : List Ground) → first_ground (gs ++ hs) ≡ None → first_ground gs ≡ None
none_before [] hs h = refl
none_before ((r, true) ∷ gs) hs h = absurd cc
none_before ((r, false) ∷ gs) hs h = none_before gs hs h

-- the grounds of a join after that its action isn't open
abbrev after_open : Terms → History → Call → Addresses → List Ground
after_open s J c u =
    (refusal.BadAddresses, not (addresses_fit (λ text. is_ok (address_of text)) u))
    ∷ (refusal.Full resource.Clerks, overfills s J c resource.Clerks)
    ∷ (refusal.Full resource.Actions, overfills s J c resource.Actions)
    ∷ (refusal.Full resource.Members, overfills s J c resource.Members) ∷ []

growth_is_next : (s : Terms) (J : History) (by m : ℕ) (o : Command) → first_ground
    (front s J (record { by = by; moment = m; command = o })) ≡ None
    → first_ground (grounds_before_growth s J (record { by = by; moment = m; command = o })) ≡ None
growth_is_next s J by m command.Enrol h = h
growth_is_next s J by m (command.Start parent limit) h = h
growth_is_next s J by m (command.Join a uris) h = none_before (grounds_before_growth s J
    (record { by = by; moment = m; command = command.Join a uris })) (after_open s J
    (record { by = by; moment = m; command = command.Join a uris }) uris.now) h
growth_is_next s J by m (command.Leave a p) h = h
growth_is_next s J by m (command.Close a) h = h
growth_is_next s J by m (command.Cancel a) h = h
growth_is_next s J by m command.Tick h = h
growth_is_next s J by m command.NextAsk h = h
growth_is_next s J by m (command.Record errand o) h = h
growth_is_next s J by m (command.Report p e) h = h
growth_is_next s J by m command.Restart h = h
growth_is_next s J by m (command.Renew a limit) h = h
growth_is_next s J by m (command.Status a) h = h
growth_is_next s J by m (command.MemberStatus p) h = h

-- memory may be refused
pub may_run_out : (s : Terms) (J : History) (c : Call) (e : Entry) (es : List Entry) → IsMostlyFree s J c → block s J c
    ≡ e ∷ es → MayRunOut s J c
may_run_out s J c e es f h = record {
  takes = ap (λ (b : List Entry). is_filled b || has_addresses c.command) h;
  before = growth_is_next s J c.by c.moment c.command f.front;
}

overfull : (s : Terms) (J : History) (c : Call) (e : Entry) (es : List Entry) → block s J c ≡ e ∷ es
    → overfills s J c resource.Entries ≡ nat_lt s.limits.entries (length (J ++ e ∷ es))
overfull s J c e es h = ap (λ (b : List Entry). is_filled b && passes s.limits resource.Entries (J ++ b)) h

-- it is refused where its entries are too many
pub too_many : (s : Terms) (J : History) (c : Call) (e : Entry) (es : List Entry) → IsMostlyFree s J c → block s J c ≡ e
    ∷ es → s.limits.entries < length (J ++ e ∷ es)
    → answer s J c ≡ Err (refusal.Full resource.Entries)
unfolding answer
too_many s J c e es f h more =
    let holds = overfull s J c e es h ∙ lt-ltb s.limits.entries (length (J ++ e ∷ es)) more in
    ap (λ (o : Option Refusal). option_map_or Err o (Ok (told_of s J c)))
    (f.rest ∙ ap (λ (b : Bool). first_ground ((refusal.Full resource.Entries, b) ∷ [])) holds)

-- and is told where they aren't
pub few_enough : (s : Terms) (J : History) (c : Call) (e : Entry) (es : List Entry) → IsMostlyFree s J c → block s J c
    ≡ e ∷ es → length (J ++ e ∷ es) ≤ s.limits.entries
    → answer s J c ≡ Ok (told_of s J c)
unfolding answer
few_enough s J c e es f h few =
    let fails = overfull s J c e es h ∙ le-ltb s.limits.entries (length (J ++ e ∷ es)) few in
    ap (λ (o : Option Refusal). option_map_or Err o (Ok (told_of s J c)))
    (f.rest ∙ ap (λ (b : Bool). first_ground ((refusal.Full resource.Entries, b) ∷ [])) fails)
