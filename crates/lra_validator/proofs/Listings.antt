-- The rows of listings, by what is found.
use Rattle.std.proofs.Common.{◌≡◌, ℕ, zero, suc, ◌+◌, ◌≤◌, Bool, true, false, List, [], ◌∷◌, length, map, Option, Some}
use Rattle.std.proofs.Common.{None, refl, sym, ap, ◌∙◌, cond, arith}
use Rattle.std.proofs.lemmas.List.{length-map}
use Rattle.std.proofs.lemmas.Option.{slice_get-map}
use Rattle.std.specs.Prelude.{option_map, slice_get}
use Rattle.std.specs.Option.{option_map_or, option_and_then}
use Rattle.std.specs.List.{range_with_len}
use Rattle.lra_model.specs.declared.asks.AskKind.{AskKind}
use Rattle.lra_model.specs.declared.version.Version.{Version}
use Rattle.lra_model.specs.History.{History, actions, members, is_among}
use Rattle.lra_model.specs.Actions.{children, members_of}
use Rattle.lra_model.specs.Members.{member_status, outstanding_ask}
use Rattle.lra_model.specs.Rules.{is_legal}
use Rattle.lra_model.specs.Wants.{wants, repeat_count, last_repeat}
use Rattle.lra_laws.proofs.Legal.{IsNumbered, actions_numbered, numbered_among}
use Rattle.lra_laws.proofs.Named.{child_of, member_action, parent_there}
use Rattle.lra_laws.proofs.GoodLists.{among_here, among_there}
use Rattle.lra_rows.specs.declared.found.ActionRow.{ActionRow}
use Rattle.lra_rows.specs.declared.found.MemberRow.{MemberRow}
use Rattle.lra_commands.specs.declared.query.Listing.{Listing}
use Rattle.lra_commands.specs.declared.query.Listing.TheVariants as listing
use Rattle.lra_commands.specs.declared.query.Row.{Row}
use Rattle.lra_commands.specs.declared.query.Row.TheVariants as row
use Rattle.lra_commands.specs.declared.query.Want.{Want}
use Rattle.lra_commands.specs.declared.limits.Limits.{Limits}
use Rattle.lra_commands.specs.Due.{due_after, stage_wanted}
use Rattle.lra_commands.specs.Queries.{want_told, member_row, action_row, rows_along}
use Rattle.lra_validator.specs.inner.Listed.{want_in, member_found, action_found, count_listed, row_at}
use Rattle.lra_validator.proofs.Passing.{row_of, member_of}

-- ---- what is found of one that is there

abbrev want : AskKind → ℕ → ℕ → Want
want kind repeats due = record { kind = kind; repeats = repeats; due = due }

want_is : (l : Limits) (J : History) (p : ℕ) → want_in l (member_of J p) ≡ want_told l J p
want_is l J p = by (wants J p)
  where
    count : AskKind → ℕ
    count kind = repeat_count J p (stage_wanted J p kind)

    last : AskKind → Option ℕ
    last kind = last_repeat J p (stage_wanted J p kind)

    by : (o : Option AskKind)
        → option_map (λ (kind : AskKind). want kind (option_map_or count o 0)
        (due_after l (option_map_or count o 0) (option_and_then last o))) o
        ≡ option_map (λ (kind : AskKind). want kind (count kind) (due_after l (count kind) (last kind))) o
    by None = refl
    by (Some kind) = refl

member_there : (l : Limits) (J : History) (p : ℕ) → is_among (members J) p ≡ true → member_found l J p
    ≡ Some (member_row l J p)
member_there l J p h =
    ap (λ b. option_map (λ (r : MemberRow). row.Member p r.status r.outstanding (want_in l r))
    (cond b (Some (member_of J p)) None)) h
    ∙ ap (λ (o : Option Want). Some (row.Member p (member_status J p) (outstanding_ask J p) o)) (want_is l J p)

action_if : (J : History) (a : ℕ) (b : Bool) → is_among (actions J) a ≡ b → action_found J a
    ≡ cond b (Some (action_row J a)) None
action_if J a b h = ap (λ x. option_map (λ (r : ActionRow). row.Action a r.status r.parent)
    (cond x (Some (row_of J a)) None)) h ∙ by b
  where
    by : (x : Bool) → option_map (λ (r : ActionRow). row.Action a r.status r.parent) (cond x (Some (row_of J a)) None)
        ≡ cond x (Some (action_row J a)) None
    by true = refl
    by false = refl

-- ---- what stands at a place

-- where nothing does, there are no more than so many
pub gone : {X : Type 0} (xs : List X) (i : ℕ) → slice_get xs i ≡ None → length xs ≤ i
gone [] i h = omega arith
gone (x ∷ xs) zero h = absurd cc
gone (x ∷ xs) (suc i) h = let r = gone xs i h in omega (arith, r)

got_among : (ns : List ℕ) (k n : ℕ) → slice_get ns k ≡ Some n → is_among ns n ≡ true
got_among [] k n h = absurd cc
got_among (m ∷ ns) zero n h = let e : m ≡ n = cc in ap (λ x. is_among (x ∷ ns) n) e ∙ among_here n ns
got_among (m ∷ ns) (suc k) n h = among_there m ns n (got_among ns k n h)

-- what is found of each of a list
each_found : (found : ℕ → Option Row) (f : ℕ → Row) (ns : List ℕ) → ((n : ℕ) → is_among ns n ≡ true → found n
    ≡ Some (f n)) → (k : ℕ) → option_and_then found (slice_get ns k) ≡ slice_get (map f ns) k
each_found found f ns h k = one (slice_get ns k) refl ∙ sym (slice_get-map f ns k)
  where
    one : (o : Option ℕ) → slice_get ns k ≡ o → option_and_then found o ≡ option_map f o
    one None g = refl
    one (Some n) g = h n (got_among ns k n g)

range_got : (a n k b : ℕ) → slice_get (range_with_len a n) k ≡ Some b → b ≡ a + k
range_got a zero k b h = absurd cc
range_got a (suc n) zero b h = let e : a ≡ b = cc in omega (arith, e)
range_got a (suc n) (suc k) b h = let e = range_got (a + 1) n k b h in omega (arith, e)

-- of numbers that are 1, 2, 3 and so on, what is found of the number after a place
numbered_found : (found : ℕ → Option Row) (f : ℕ → Row) (ns : List ℕ) → IsNumbered ns
    → ((n : ℕ) (b : Bool) → is_among ns n ≡ b → found n ≡ cond b (Some (f n)) None) → (k : ℕ)
    → found (k + 1) ≡ slice_get (map f ns) k
numbered_found found f ns e h k = one (slice_get ns k) refl ∙ sym (slice_get-map f ns k)
  where
    past : (b : Bool) → is_among ns (k + 1) ≡ b → length ns ≤ k → b ≡ false
    past true g l = let w = numbered_among ns e (k + 1) g in absurd (omega (arith, w.1, l))
    past false g l = refl

    one : (o : Option ℕ) → slice_get ns k ≡ o → found (k + 1) ≡ option_map f o
    one None g = h (k + 1) false (past (is_among ns (k + 1)) refl (gone ns k g))
    one (Some n) g =
        let q : n ≡ k + 1 = omega (
          arith,
          range_got 1 (length ns) k n (ap (λ (ms : List ℕ). slice_get ms k) (sym e)
              ∙ g),
        ) in
        ap found (sym q) ∙ h n true (got_among ns k n g)

-- ---- the rows of a listing

pub row_is : (l : Limits) (v : Version) (t : List ℕ → Bool) (J : History) → is_legal v t J ≡ true
    → (x : Listing) (k : ℕ) → row_at l J x k ≡ slice_get (rows_along l J x) k
unfolding rows_along
row_is l v t J g (listing.Members a) k = each_found (member_found l J) (member_row l J) (members_of J a)
    (λ p h. member_there l J p (member_action v t J g a p h).0) k
row_is l v t J g (listing.Nested a) k =
    each_found (action_found J) (action_row J) (children J a) (λ b h. action_if J b true
    (parent_there v t J g b a (child_of v t J g a b h)).child) k
row_is l v t J g (listing.Actions status) k = numbered_found (action_found J) (action_row J) (actions J)
    (actions_numbered v t J g) (action_if J) k

pub count_is : (l : Limits) (J : History) (x : Listing) → count_listed J x ≡ length (rows_along l J x)
unfolding rows_along
count_is l J (listing.Members a) = sym (length-map (members_of J a) (member_row l J))
count_is l J (listing.Nested a) = sym (length-map (children J a) (action_row J))
count_is l J (listing.Actions status) = sym (length-map (actions J) (action_row J))
