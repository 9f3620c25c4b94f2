-- What is listed of a block, entry by entry.
use Rattle.std.proofs.Common.{◌≡◌, ℕ, ◌+◌, ◌<◌, ◌≤◌, Bool, true, false, List, [], ◌∷◌, ◌++◌, length, take, get_or}
use Rattle.std.proofs.Common.{Option, Some, None, refl, sym, ap, ◌∙◌, cond, zero, suc, arith, append-nil, append_assoc}
use Rattle.std.specs.Prelude.{option_to_list}
use Rattle.std.specs.List.{cons_option, filter_map, flat_map, range_with_len}
use Rattle.std.proofs.lemmas.List.{flat_map_more, take_more}
use Rattle.std.proofs.lemmas.List.Elements.{filter_map-append}
use Rattle.lra_model.specs.History.{History, actions, asks, is_among}
use Rattle.lra_model.specs.Actions.{parent}
use Rattle.lra_laws.specs.Rows.{void_asks}
use Rattle.lra_laws.specs.Snapshots.{StateSnapshot, StandsFor}
use Rattle.lra_laws.specs.Changes.{member_awaited, members_awaited}
use Rattle.lra_laws.proofs.AskWords.{asks_stand}
use Rattle.lra_laws.proofs.Changes.{void_unasked}
use Rattle.lra_laws.proofs.Legal.{range_more, asks_numbered}
use Rattle.lra_laws.proofs.Named.{parent_of_none}
use Rattle.lra_rows.specs.declared.found.ActionRow.{ActionRow}
use Rattle.lra_rows.specs.Found.{found_action}

-- an action that isn't found has no parent
pub unfound : (J : History) (a : ℕ) → None ≡ found_action J a → parent J a ≡ None
unfound J a h = decide (is_among (actions J) a) refl (absent (is_among (actions J) a) _ h)
  where
    absent : (b : Bool) (r : ActionRow) → None ≡ cond b (Some r) None → b ≡ false
    absent false r e = refl
    absent true r e = absurd cc

    decide : (b : Bool) → is_among (actions J) a ≡ b → b ≡ false → parent J a ≡ None
    decide false e g = parent_of_none J a e
    decide true e g = absurd cc

-- of numbers that give nothing there is nothing
nothing_given : (f : ℕ → Option ℕ) (a n : ℕ) → ((k : ℕ) → k < a + n → f k ≡ None) → filter_map f (range_with_len a n)
    ≡ []
nothing_given f a zero none = refl
nothing_given f a (suc n) none =
    ap (λ (o : Option ℕ). cons_option o (filter_map f (range_with_len (a + 1) n))) (none a (omega arith))
    ∙ nothing_given f (a + 1) n (λ k below. none k (omega arith))

-- no answer to a void ask is awaited
pub none_awaited : (s : StateSnapshot) (J : History) (n : ℕ) (ns : List ℕ) → StandsFor s J → n ≡ void_asks J → ns ≡ ns
    ++ filter_map (member_awaited J) (range_with_len 1 n)
none_awaited s J n ns h e =
    sym (ap (λ (ms : List ℕ). ns ++ ms) (nothing_given (member_awaited J) 1 n
    (λ k below. void_unasked h.version h.is_address J k h.legal (omega arith))) ∙ append-nil ns)

-- one ask more
pub one_awaited : (J : History) (n : ℕ) (ks ns ms : List ℕ) → ns ≡ ms ++ filter_map (member_awaited J)
    (range_with_len 1 n) → ks ≡ ns ++ option_to_list (member_awaited J (n + 1))
    → ks ≡ ms ++ filter_map (member_awaited J) (range_with_len 1 (n + 1))
one_awaited J n ks ns ms before now =
    now
    ∙ ap (λ (xs : List ℕ). xs ++ option_to_list (member_awaited J (n + 1))) before
    ∙ append_assoc ms (filter_map (member_awaited J) (range_with_len 1 n)) (option_to_list (member_awaited J (n + 1)))
    ∙ ap (λ (xs : List ℕ). ms ++ xs)
    (ap (λ (xs : List ℕ). filter_map (member_awaited J) (range_with_len 1 n) ++ xs)
    (sym (one_given (member_awaited J (n + 1))))
    ∙ sym (filter_map-append (member_awaited J) (range_with_len 1 n) ((n + 1) ∷ []))
    ∙ ap (filter_map (member_awaited J))
    (ap (λ (k : ℕ). range_with_len 1 n ++ k ∷ []) (let e : n + 1 ≡ 1 + n = omega arith in e) ∙ sym (range_more 1 n)
    ∙ ap (range_with_len 1) (let e : suc n ≡ n + 1 = omega arith in e)))
  where
    one_given : (o : Option ℕ) → cons_option o [] ≡ option_to_list o
    one_given None = refl
    one_given (Some k) = refl

-- there are no more void asks than asks
pub void_below : (s : StateSnapshot) (J : History) → StandsFor s J → void_asks J ≤ length (asks J)
void_below s J h = (asks_stand h.version h.is_address J h.legal).void_below

-- all asks
pub all_awaited : (s : StateSnapshot) (J : History) (n : ℕ) (ns ms : List ℕ) → StandsFor s J → n ≡ length (asks J) → ns
    ≡ ms
    ++ filter_map (member_awaited J) (range_with_len 1 n) → ns ≡ ms ++ members_awaited J
all_awaited s J n ns ms h e g = g ∙ ap (λ (xs : List ℕ). ms ++ filter_map (member_awaited J) xs)
    (ap (range_with_len 1) e ∙ sym (asks_numbered h.version h.is_address J h.legal))

-- one item more
pub one_item : {X : Type 0} (f : X → List ℕ) (xs : List X) (i : ℕ) (x : X) (ns ms : List ℕ) → i < length xs → x
    ≡ get_or xs i x → ns ≡ flat_map f (take i xs) → ms ≡ ns ++ f x → ms ≡ flat_map f (take (i + 1) xs)
one_item {X} f xs i x ns ms lt is before now =
    now ∙ ap (λ (ks : List ℕ). ks ++ f x) before ∙ flat_map_more f [] (take i xs) x
    ∙ ap (flat_map f) (ap (λ (y : X). take i xs ++ y ∷ []) is ∙ sym (take_more xs i x lt))
