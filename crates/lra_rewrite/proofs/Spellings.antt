-- Joins with `https` addresses, which mean their spelling with `http`.
use Rattle.std.proofs.Common.{◌≡◌, ℕ, Bool, true, false, true≢false, List, codes, Option, Some, None, IfSome, is_some}
use Rattle.std.proofs.Common.{option_map, option_and_then, unwrap_or, Result, Ok, Err, bytes_eq, refl, sym, ap, ◌∙◌}
use Rattle.std.specs.Prelude.{IfOk}
use Rattle.std.proofs.lemmas.Slice.Eq.{bytes_eq-Decides}
use Rattle.serde_json.specs.Data.{Data, null, boolean, number, string, array, object, Members, put}
use Rattle.serde_json.specs.Find.{as_object, as_str, get}
use Rattle.serde_json.specs.View.{view}
use Rattle.serde_json.specs.declared.value.Value.{Value}
use Rattle.serde_json.proofs.Views.{get_member-put, get_member-put_other}
use Rattle.lra_wire.specs.Request.{Request}
use Rattle.lra_front.specs.declared.operation.Operation.{Operation}
use Rattle.lra_front.specs.declared.operation.Operation.TheVariants as operation
use Rattle.lra_front.specs.declared.api_error.ApiError.{ApiError}
use Rattle.lra_front.specs.ApiRequests.{LacksMemory}
use Rattle.lra_front.specs.Bodies.{object_in, text_under, addresses_given}
use Rattle.lra_member_rules.specs.Ruling.{is_join, joins}
use Rattle.lra_rewrite.specs.Https.{http_spelling, address_meant, addresses_meant, spelled_under, spelled_members}
use Rattle.lra_rewrite.specs.Https.{spelled_at}
use Rattle.lra_rewrite.specs.Requests.{MeansParts}
use Rattle.lra_rewrite.proofs.Others.{itself, made_of}

-- ---- the body of a join is read

join_is : (found : Result Operation ApiError) → joins found ≡ true → found ≡ Ok operation.Join
join_is (Ok operation.Join) e = refl
join_is (Ok operation.Start) e = absurd (true≢false (sym e))
join_is (Ok operation.Status) e = absurd (true≢false (sym e))
join_is (Ok operation.Close) e = absurd (true≢false (sym e))
join_is (Ok operation.Cancel) e = absurd (true≢false (sym e))
join_is (Ok operation.Remove) e = absurd (true≢false (sym e))
join_is (Ok operation.Renew) e = absurd (true≢false (sym e))
join_is (Ok operation.MemberStatus) e = absurd (true≢false (sym e))
join_is (Ok operation.Report) e = absurd (true≢false (sym e))
join_is (Err d) e = absurd (true≢false (sym e))

pub join_reads : (own : Request) → is_join own ≡ true → LacksMemory own
join_reads own e = (operation.Join, join_is _ e, refl)

-- ---- the value of a body, key by key

spelled_some : (key : List ℕ) (d more : Data) (text : List ℕ) (o : Option Members) → more ≡ string text
    → Some text ≡ option_and_then http_spelling (option_and_then as_str (get key d))
    → IfSome (as_object d) (λ ms. o ≡ Some (put key more ms))
    → IfSome (as_object d) (λ ms. o ≡ Some (spelled_under key ms))
unfolding spelled_under
spelled_some key null more text o is e h = tt
spelled_some key (boolean b) more text o is e h = tt
spelled_some key (number n) more text o is e h = tt
spelled_some key (string s) more text o is e h = tt
spelled_some key (array ds) more text o is e h = tt
spelled_some key (object ms) more text o is e h = rw (← e, ← is) h

pub spelled_ok : {E : Type 0} (key : List ℕ) (d more : Data) (text : List ℕ) (made : Result Value E)
    → more ≡ string text → Some text ≡ option_and_then http_spelling (option_and_then as_str (get key d))
    → IfOk made (λ v. IfSome (as_object d) (λ ms. as_object (view v) ≡ Some (put key more ms)))
    → IfOk made (λ v. IfSome (as_object d) (λ ms. as_object (view v) ≡ Some (spelled_under key ms)))
spelled_ok key d more text (Ok v) is e h = spelled_some key d more text (as_object (view v)) is e h
spelled_ok key d more text (Err x) is e h = tt

pub spelled_none : (key : List ℕ) (d : Data)
    → None ≡ option_and_then http_spelling (option_and_then as_str (get key d))
    → IfSome (as_object d) (λ ms. as_object d ≡ Some (spelled_under key ms))
unfolding spelled_under
spelled_none key null e = tt
spelled_none key (boolean b) e = tt
spelled_none key (number n) e = tt
spelled_none key (string s) e = tt
spelled_none key (array ds) e = tt
spelled_none key (object ms) e = rw (← e) refl

-- what is made of what was made of members
composed : (f g : Members → Members) (o p q : Option Members) → IfSome o (λ ms. p ≡ Some (f ms))
    → IfSome p (λ ms. q ≡ Some (g ms)) → IfSome o (λ ms. q ≡ Some (g (f ms)))
composed f g None p q is h = tt
composed f g (Some ms) p q is h = rw is at h

-- the members after each of the first four keys
abbrev one : Members → Members
one ms = spelled_under (codes "compensate") ms

abbrev two : Members → Members
two ms = spelled_under (codes "complete") (one ms)

abbrev three : Members → Members
three ms = spelled_under (codes "status") (two ms)

abbrev four : Members → Members
four ms = spelled_under (codes "forget") (three ms)

-- all five keys
pub spelled_all : (o compensate complete status forget after : Option Members)
    → IfSome o (λ ms. compensate ≡ Some (spelled_under (codes "compensate") ms))
    → IfSome compensate (λ ms. complete ≡ Some (spelled_under (codes "complete") ms))
    → IfSome complete (λ ms. status ≡ Some (spelled_under (codes "status") ms))
    → IfSome status (λ ms. forget ≡ Some (spelled_under (codes "forget") ms))
    → IfSome forget (λ ms. after ≡ Some (spelled_under (codes "after") ms))
    → IfSome o (λ ms. after ≡ Some (spelled_members ms))
unfolding spelled_members
spelled_all o compensate complete status forget after a b c d e =
    composed (λ ms. four ms) (λ ms. spelled_under (codes "after") ms) o forget after
    (composed (λ ms. three ms) (λ ms. spelled_under (codes "forget") ms) o status forget
    (composed (λ ms. two ms) (λ ms. spelled_under (codes "status") ms) o complete status
    (composed (λ ms. one ms) (λ ms. spelled_under (codes "complete") ms) o compensate complete a b) c) d) e

-- ---- requests

pub spelled_unread : (own : Request) → object_in own.body ≡ None
    → MeansParts own.target (spelled_at own.body) own own
spelled_unread own e = itself own (spelled_at own.body) (rw e refl)

no_object : (o : Option Members) → is_some o ≡ false → o ≡ None
no_object None e = refl
no_object (Some ms) e = absurd (true≢false e)

pub spelled_other : (own : Request) (d : Data) → object_in own.body ≡ as_object d → is_some (as_object d) ≡ false
    → MeansParts own.target (spelled_at own.body) own own
spelled_other own d is e = spelled_unread own (is ∙ no_object (as_object d) e)

means_at : (own made : Request) (o : Option Members) → object_in own.body ≡ o → is_some o ≡ true
    → IfSome o (λ ms. MeansParts own.target (Some (spelled_members ms)) own made)
    → MeansParts own.target (spelled_at own.body) own made
means_at own made None e some h = absurd (true≢false (sym some))
means_at own made (Some ms) e some h = rw e h

pub spelled_means : (own made : Request) (d spelled : Data) → object_in own.body ≡ as_object d
    → is_some (as_object d) ≡ true → IfSome (as_object d) (λ ms. as_object spelled ≡ Some (spelled_members ms))
    → IfSome (as_object spelled) (λ ms. MeansParts own.target (Some ms) own made)
    → MeansParts own.target (spelled_at own.body) own made
spelled_means own made d spelled is some members h =
    means_at own made (as_object d) is some
    (made_of own made (as_object d) (as_object spelled) spelled_members members h)

-- ---- the addresses in the members

apart : (k l : List ℕ) → bytes_eq k l ≡ false → k ≡ l → ⊥
apart k l e is = true≢false (sym ((bytes_eq-Decides k l).1 is) ∙ e)

own_text : (key text : List ℕ) (ms : Members) (o : Option (List ℕ)) → text_under key ms ≡ Some text
    → text_under key (unwrap_or (option_map (λ t. put key (string t) ms) o) ms) ≡ Some (unwrap_or o text)
own_text key text ms None e = e
own_text key text ms (Some other) e = ap (option_and_then as_str) (get_member-put key (string other) ms)

own_at : (key : List ℕ) (ms : Members) (o : Option (List ℕ)) → text_under key ms ≡ o
    → text_under key (unwrap_or (option_map (λ t. put key (string t) ms) (option_and_then http_spelling o)) ms)
    ≡ option_map address_meant o
own_at key ms None e = e
own_at key ms (Some text) e = own_text key text ms (http_spelling text) e

own : (key : List ℕ) (ms : Members)
    → text_under key (spelled_under key ms) ≡ option_map address_meant (text_under key ms)
unfolding spelled_under
own key ms = own_at key ms (text_under key ms) refl

other_at : (q key : List ℕ) (ms : Members) (o : Option (List ℕ)) → bytes_eq q key ≡ false
    → text_under q (unwrap_or (option_map (λ t. put key (string t) ms) o) ms) ≡ text_under q ms
other_at q key ms None e = refl
other_at q key ms (Some text) e =
    ap (option_and_then as_str) (get_member-put_other q key (string text) ms (apart q key e))

other : (q key : List ℕ) (ms : Members) → bytes_eq q key ≡ false
    → text_under q (spelled_under key ms) ≡ text_under q ms
unfolding spelled_under
other q key ms e = other_at q key ms (option_and_then http_spelling (text_under key ms)) e

compensate_is : (ms : Members)
    → text_under (codes "compensate") (spelled_members ms)
    ≡ option_map address_meant (text_under (codes "compensate") ms)
unfolding spelled_members
compensate_is ms =
    let key = codes "compensate" in
    other key (codes "after") (four ms) refl ∙ other key (codes "forget") (three ms) refl
    ∙ other key (codes "status") (two ms) refl ∙ other key (codes "complete") (one ms) refl ∙ own key ms

complete_is : (ms : Members)
    → text_under (codes "complete") (spelled_members ms)
    ≡ option_map address_meant (text_under (codes "complete") ms)
unfolding spelled_members
complete_is ms =
    let key = codes "complete" in
    other key (codes "after") (four ms) refl ∙ other key (codes "forget") (three ms) refl
    ∙ other key (codes "status") (two ms) refl ∙ own key (one ms)
    ∙ ap (option_map address_meant) (other key (codes "compensate") ms refl)

status_is : (ms : Members)
    → text_under (codes "status") (spelled_members ms) ≡ option_map address_meant (text_under (codes "status") ms)
unfolding spelled_members
status_is ms =
    let key = codes "status" in
    other key (codes "after") (four ms) refl ∙ other key (codes "forget") (three ms) refl ∙ own key (two ms)
    ∙ ap (option_map address_meant)
    (other key (codes "complete") (one ms) refl ∙ other key (codes "compensate") ms refl)

forget_is : (ms : Members)
    → text_under (codes "forget") (spelled_members ms) ≡ option_map address_meant (text_under (codes "forget") ms)
unfolding spelled_members
forget_is ms =
    let key = codes "forget" in
    other key (codes "after") (four ms) refl ∙ own key (three ms)
    ∙ ap (option_map address_meant)
    (other key (codes "status") (two ms) refl ∙ other key (codes "complete") (one ms) refl
    ∙ other key (codes "compensate") ms refl)

after_is : (ms : Members)
    → text_under (codes "after") (spelled_members ms) ≡ option_map address_meant (text_under (codes "after") ms)
unfolding spelled_members
after_is ms =
    let key = codes "after" in
    own key (four ms)
    ∙ ap (option_map address_meant)
    (other key (codes "forget") (three ms) refl ∙ other key (codes "status") (two ms) refl
    ∙ other key (codes "complete") (one ms) refl ∙ other key (codes "compensate") ms refl)

-- a join's members give the addresses that those mean
pub given_is : (ms : Members) → addresses_given (spelled_members ms) ≡ addresses_meant (addresses_given ms)
given_is ms = rw (compensate_is ms, complete_is ms, status_is ms, forget_is ms, after_is ms) refl
