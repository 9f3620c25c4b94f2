-- What starts and joins ask for that mean others.
use Rattle.std.proofs.Common.{◌≡◌, ℕ, ◌<◌, Bool, true, false, true≢false, not, ◌&&◌, ◌==◌, List, codes, Option}
use Rattle.std.proofs.Common.{Some, None, MatchOption, is_some, option_map, unwrap_or, Result, Ok, Err, Ordering, Less}
use Rattle.std.proofs.Common.{Equal, Greater, nat_cmp, is_eq, bytes_eq, refl, sym, ap, ◌∙◌, subst, arith}
use Rattle.std.specs.Prelude.{option_and_then}
use Rattle.std.specs.Ordering.{match_ordering}
use Rattle.std.specs.Result.{MatchResult}
use Rattle.std.specs.Cmp.Lexicographic.{slice_cmp}
use Rattle.std.proofs.lemmas.Bool.{and_parts, and_from, and_right, or_parts, ne_eqb, not_from_false}
use Rattle.std.proofs.lemmas.Map.Text.{is_eq-slice_cmp}
use Rattle.std.proofs.lemmas.Slice.Eq.{bytes_eq-Decides}
use Rattle.serde_json.specs.Data.{Data, number, string, unsigned, Members, no_members, member, put}
use Rattle.serde_json.specs.Find.{get_member, as_str}
use Rattle.serde_json.proofs.Views.{get_member-put, get_member-put_other}
use Rattle.lra_model.specs.Addresses.{Addresses}
use Rattle.lra_model.specs.Words.{when}
use Rattle.lra_ids.specs.Identifiers.{action_uri, id_text}
use Rattle.lra_wire.specs.Request.{Request}
use Rattle.lra_front.specs.declared.operation.Operation.{Operation}
use Rattle.lra_front.specs.declared.operation.Operation.TheVariants as operation
use Rattle.lra_front.specs.declared.api_error.ApiError.{ApiError}
use Rattle.lra_front.specs.declared.api_error.ApiError.TheVariants.{BadBody}
use Rattle.lra_front.specs.declared.api_request.ApiRequest.{ApiRequest}
use Rattle.lra_front.specs.declared.api_request.ApiRequest.TheVariants as api_request
use Rattle.lra_front.specs.Routes.{operation_of, id_in}
use Rattle.lra_front.specs.Bodies.{body_of, fitting, members_fit, member_fits, has_needed, reads_body, object_in}
use Rattle.lra_front.specs.Bodies.{object_for, text_under, addresses_given}
use Rattle.lra_front.specs.ApiRequests.{Asks, IsNamed, IsStart, IsApiRequest, limit_in, no_action}
use Rattle.lra_rewrite.specs.Requests.{MeansParts}
use Rattle.lra_rewrite.specs.Https.{http_spelling, spelled_under, spelled_members, may_spell}
use Rattle.lra_rewrite.specs.Limits.{may_mean, starts, limited_members, limited_at}
use Rattle.lra_rewrite.specs.Settling.{settled_body}
use Rattle.lra_rewrite.specs.Ordered.{AsksStart, limit_under, StartsAskSo, JoinsAskSo, OthersMeanThemselves}
use Rattle.lra_rewrite.proofs.Settled.{limited_is, spelled_is, neither_is}
use Rattle.lra_rewrite.proofs.Spellings.{given_is}

-- ---- the members with a text or a number put under a key fit an operation

module _ (r : Operation) where
  fits-put_at : (o : Ordering) (k l : List ℕ) (d e : Data) (ms : Members) → slice_cmp nat_cmp k l ≡ o
      → member_fits r k d ≡ true → members_fit r (member l e ms) ≡ true → members_fit r (put k d ms) ≡ true
      → members_fit r (match_ordering o (member k d (member l e ms)) (member l d ms) (member l e (put k d ms)))
      ≡ true
  fits-put_at Less k l d e ms is own h later = and_from _ _ own h
  fits-put_at Equal k l d e ms is own h later =
      let same : k ≡ l = (bytes_eq-Decides k l).0 (sym (is_eq-slice_cmp k l) ∙ ap is_eq is) in
      and_from _ _ (subst (λ t. member_fits r t d ≡ true) same own) (and_parts _ _ h).1
  fits-put_at Greater k l d e ms is own h later = and_from _ _ (and_parts _ _ h).0 later

  fits-put : (k : List ℕ) (d : Data) (ms : Members) → member_fits r k d ≡ true → members_fit r ms ≡ true
      → members_fit r (put k d ms) ≡ true
  fits-put k d no_members own h = and_from _ _ own refl
  fits-put k d (member l e ms) own h =
      fits-put_at (slice_cmp nat_cmp k l) k l d e ms refl own h (fits-put k d ms own (and_parts _ _ h).1)

-- ---- bodies of an operation that reads them, and that needs no key

fit_at : (b : Bool) (ms got : Members) → when b ms ≡ Some got → (b ≡ true) × (ms ≡ got)
fit_at true ms got e = (refl, ap (λ o. unwrap_or o ms) e)
fit_at false ms got e = absurd (true≢false (sym (ap is_some e)))

module _ (r : Operation) (needs : (ms : Members) → has_needed r ms ≡ true) (opens : reads_body r ≡ true) where
  read_at : (o : Option Members) (ms : Members) → option_and_then (fitting r) o ≡ Some ms
      → (o ≡ Some ms) × (members_fit r ms ≡ true)
  read_at None ms e = absurd (true≢false (sym (ap is_some e)))
  read_at (Some own) ms e =
      let p = fit_at (members_fit r own && has_needed r own) own ms e in
      (ap Some p.1, subst (λ m. members_fit r m ≡ true) p.1 (and_parts _ _ p.0).0)

  read_for : (body : List ℕ) (ms : Members) → option_and_then (fitting r) (object_for r body) ≡ Some ms
      → (object_in body ≡ Some ms) × (members_fit r ms ≡ true)
  read_for body ms e = read_at (object_in body) ms (rw opens at e)

  -- the members that are read of a body
  read_of : (body : List ℕ) (ms : Members) → body_of r body ≡ Some ms
      → (object_in body ≡ Some ms) × (members_fit r ms ≡ true)
  unfolding body_of
  read_of body ms e = read_for body ms e

  reads : (body : List ℕ) (ms : Members) → object_in body ≡ Some ms → members_fit r ms ≡ true
      → body_of r body ≡ Some ms
  unfolding body_of
  reads body ms e h = rw (opens, e, h, needs ms) refl

  -- a request whose body is read asks for what these members say
  is_asked : (i : ℕ) (base : List ℕ) (own : Request) (ms : Members) (w : Result ApiRequest ApiError)
      → operation_of own.method own.target ≡ Ok r → body_of r own.body ≡ Some ms → Asks i base own w
      → IsApiRequest i base (id_in own.target) ms r w
  is_asked i base own ms w e read h =
      subst (λ (o : Option Members). MatchOption o (w ≡ Err BadBody) (λ m. IsApiRequest i base (id_in own.target) m r
      w)) read
      (subst (λ (f : Result Operation ApiError). MatchResult f
      (λ r. MatchOption (body_of r own.body) (w ≡ Err BadBody) (λ m. IsApiRequest i base (id_in own.target) m r w))
      (λ d. w ≡ Err d)) e h)

-- ---- starts

start_read : (body : List ℕ) (ms : Members) → body_of operation.Start body ≡ Some ms
    → (object_in body ≡ Some ms) × (members_fit operation.Start ms ≡ true)
start_read = read_of operation.Start (λ ms. refl) refl

start_asked : (i : ℕ) (base : List ℕ) (own : Request) (ms : Members) (w : Result ApiRequest ApiError)
    → operation_of own.method own.target ≡ Ok operation.Start → body_of operation.Start own.body ≡ Some ms
    → Asks i base own w → IsStart i base ms w
start_asked = is_asked operation.Start (λ ms. refl) refl

positive : (n : ℕ) → 0 < n → not (n == 0) ≡ true
positive n h = not_from_false (n == 0) (ne_eqb n 0 (λ e. omega (arith, h, e)))

may : (limit : ℕ) (own : Request) → 0 < limit → operation_of own.method own.target ≡ Ok operation.Start
    → may_mean limit own ≡ true
may limit own h e = rw (positive limit h, e) refl

-- ---- with the default limit, or their own

parent_stays : (limit : ℕ) (ms : Members)
    → text_under (codes "parent") (put (codes "limit") (number (unsigned limit)) ms) ≡ text_under (codes "parent") ms
parent_stays limit ms = ap (option_and_then as_str)
    (get_member-put_other (codes "parent") (codes "limit") (number (unsigned limit)) ms
    (λ e. true≢false (sym (ap (λ t. bytes_eq t (codes "limit")) e))))

limit_put : (limit : ℕ) (ms : Members) → limit_in (put (codes "limit") (number (unsigned limit)) ms) ≡ limit
limit_put limit ms = rw (get_member-put (codes "limit") (number (unsigned limit)) ms) refl

under_none : (limit : ℕ) (ms : Members) → get_member (codes "limit") ms ≡ None → limit_under limit ms ≡ limit
under_none limit ms e = rw e refl

under_some : (limit : ℕ) (ms : Members) (d : Data) → get_member (codes "limit") ms ≡ Some d
    → limit_under limit ms ≡ limit_in ms
under_some limit ms d e = rw e refl

asked_by : (limit i : ℕ) (base : List ℕ) (meant : Request) (own : List ℕ) (ms : Members)
    (w : Result ApiRequest ApiError)
    (given : Option Data) → get_member (codes "limit") ms ≡ given
    → operation_of meant.method meant.target ≡ Ok operation.Start
    → body_of operation.Start own ≡ Some ms
    → MatchOption (limited_members limit ms) (meant.body ≡ own) (λ ms. object_in meant.body ≡ Some ms)
    → Asks i base meant w → AsksStart i base ms (limit_under limit ms) w
asked_by limit i base meant own ms w None none e read body h =
    let p = start_read own ms read in
    let more = put (codes "limit") (number (unsigned limit)) ms in
    let made : object_in meant.body ≡ Some more = rw none at body in
    let asks = start_asked i base meant more w e
    (reads operation.Start (λ ms. refl) refl meant.body more made
    (fits-put operation.Start (codes "limit") (number (unsigned limit)) ms refl p.1)) h in
    subst (λ n. AsksStart i base ms n w) (limit_put limit ms ∙ sym (under_none limit ms none))
    (subst (λ t. MatchOption t (w ≡ Ok (api_request.Start None (limit_in more)))
    (λ uri. IsNamed (action_uri i base) uri no_action
    (λ parent v. v ≡ Ok (api_request.Start (Some parent) (limit_in more))) w)) (parent_stays limit ms) asks)
asked_by limit i base meant own ms w (Some d) some e read body h =
    let same : meant.body ≡ own = rw some at body in
    subst (λ n. AsksStart i base ms n w) (sym (under_some limit ms d some))
    (start_asked i base meant ms w e (subst (λ t. body_of operation.Start t ≡ Some ms) (sym same) read) h)

limited_of : (limit : ℕ) (body : List ℕ) (ms : Members) → object_in body ≡ Some ms
    → limited_at limit body ≡ limited_members limit ms
unfolding limited_at
limited_of limit body ms e = rw e refl

pub asks_so : StartsAskSo
asks_so limit is_proxied i base request meant ms w some start read means h =
    let members : settled_body limit is_proxied request ≡ limited_members limit ms =
    limited_is limit is_proxied request (may limit request some start)
    ∙ limited_of limit request.body ms (start_read request.body ms read).0 in
    asked_by limit i base meant request.body ms w (get_member (codes "limit") ms) refl
    (rw (means.method, means.target) start) read
    (subst (λ o. MatchOption o (meant.body ≡ request.body) (λ m. object_in meant.body ≡ Some m)) members means.body) h

-- ---- joins

fits-maybe : (key : List ℕ) (ms : Members) (o : Option (List ℕ))
    → ((text : List ℕ) → member_fits operation.Join key (string text) ≡ true)
    → members_fit operation.Join ms ≡ true
    → members_fit operation.Join (unwrap_or (option_map (λ text. put key (string text) ms) o) ms) ≡ true
fits-maybe key ms None own h = h
fits-maybe key ms (Some text) own h = fits-put operation.Join key (string text) ms (own text) h

fits-under : (key : List ℕ) (ms : Members) → ((text : List ℕ) → member_fits operation.Join key (string text) ≡ true)
    → members_fit operation.Join ms ≡ true → members_fit operation.Join (spelled_under key ms) ≡ true
unfolding spelled_under
fits-under key ms own h = fits-maybe key ms (option_and_then http_spelling (text_under key ms)) own h

fits-spelled : (ms : Members) → members_fit operation.Join ms ≡ true
    → members_fit operation.Join (spelled_members ms) ≡ true
unfolding spelled_members
fits-spelled ms h =
    fits-under (codes "after") _ (λ text. refl) (fits-under (codes "forget") _ (λ text. refl)
    (fits-under (codes "status") _ (λ text. refl) (fits-under (codes "complete") _ (λ text. refl)
    (fits-under (codes "compensate") ms (λ text. refl) h))))

never_means : (limit : ℕ) (own : Request) → operation_of own.method own.target ≡ Ok operation.Join
    → may_mean limit own ≡ false
never_means limit own e = and_right (not (limit == 0)) (starts (operation_of own.method own.target)) (rw e refl)

-- a join with these addresses is asked for
abbrev AsksGiven : ℕ → List ℕ → Addresses → Result ApiRequest ApiError → Type 0
AsksGiven i target given w = IsNamed (id_text i) (id_in target) no_action
    (λ action v. v ≡ Ok (api_request.Join action given)) w

pub joins_so : JoinsAskSo
joins_so limit i base request meant ms w join read means h =
    let p = read_of operation.Join (λ ms. refl) refl request.body ms read in
    let members : settled_body limit true request ≡ Some (spelled_members ms) =
    spelled_is limit true request (never_means limit request join) (rw join refl) ∙ ap (option_map spelled_members) p.0
    in
    let made : object_in meant.body ≡ Some (spelled_members ms) =
    subst (λ o. MatchOption o (meant.body ≡ request.body) (λ m. object_in meant.body ≡ Some m)) members means.body in
    let asks : AsksGiven i meant.target (addresses_given (spelled_members ms)) w =
    is_asked operation.Join (λ ms. refl) refl i base meant (spelled_members ms) w
    (rw (means.method, means.target) join)
    (reads operation.Join (λ ms. refl) refl meant.body (spelled_members ms) made (fits-spelled ms p.1)) h in
    rw (means.target, given_is ms) at asks

-- ---- all other requests

same_parts : (request meant : Request) → MeansParts request.target None request meant → meant ≡ request
same_parts request meant h =
    ap (λ m. record meant { method = m }) h.method
    ∙ ap (λ t. record meant { method = request.method; target = t }) h.target
    ∙ ap (λ n. record meant { method = request.method; target = request.target; minor = n }) h.minor
    ∙ ap (λ c. record meant { method = request.method; target = request.target; minor = request.minor; close = c })
    h.close
    ∙ ap (λ b. record request { body = b; fields = meant.fields }) h.body
    ∙ ap (λ f. record request { fields = f }) h.fields

pub others_stay : OthersMeanThemselves
others_stay limit is_proxied request meant e means =
    let p = or_parts (may_mean limit request) (may_spell is_proxied request) e in
    same_parts request meant (subst (λ (o : Option Members). MeansParts request.target o request meant)
    (neither_is limit is_proxied request p.0 p.1) means)
