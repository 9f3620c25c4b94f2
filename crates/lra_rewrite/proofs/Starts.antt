-- Starts that give no limit, and mean the default limit.
use Rattle.std.proofs.Common.{◌≡◌, ℕ, true, false, true≢false, List, codes, Option, Some, None, IfSome}
use Rattle.std.proofs.Common.{option_and_then, Result, Ok, Err, refl, sym}
use Rattle.std.proofs.lemmas.Bool.{and_parts}
use Rattle.serde_json.specs.Data.{Data, null, boolean, number, string, array, object, unsigned, Members, put}
use Rattle.serde_json.specs.Find.{as_object}
use Rattle.lra_wire.specs.Request.{Request}
use Rattle.lra_front.specs.declared.operation.Operation.{Operation}
use Rattle.lra_front.specs.declared.operation.Operation.TheVariants as operation
use Rattle.lra_front.specs.declared.api_error.ApiError.{ApiError}
use Rattle.lra_front.specs.ApiRequests.{LacksMemory}
use Rattle.lra_front.specs.Bodies.{object_in}
use Rattle.lra_rewrite.specs.Limits.{limited_members, limited_at, may_mean, starts}
use Rattle.lra_rewrite.specs.Requests.{MeansParts}
use Rattle.lra_rewrite.specs.inner.Limited.{lacks_limit}
use Rattle.lra_rewrite.proofs.Others.{itself}

start_is : (found : Result Operation ApiError) → starts found ≡ true → found ≡ Ok operation.Start
start_is (Ok operation.Start) e = refl
start_is (Ok operation.Status) e = absurd (true≢false (sym e))
start_is (Ok operation.Join) e = absurd (true≢false (sym e))
start_is (Ok operation.Close) e = absurd (true≢false (sym e))
start_is (Ok operation.Cancel) e = absurd (true≢false (sym e))
start_is (Ok operation.Remove) e = absurd (true≢false (sym e))
start_is (Ok operation.Renew) e = absurd (true≢false (sym e))
start_is (Ok operation.MemberStatus) e = absurd (true≢false (sym e))
start_is (Ok operation.Report) e = absurd (true≢false (sym e))
start_is (Err d) e = absurd (true≢false (sym e))

-- the body of a start is read
pub start_reads : (limit : ℕ) (own : Request) → may_mean limit own ≡ true → LacksMemory own
start_reads limit own e = (operation.Start, start_is _ (and_parts _ _ e).1, refl)

-- ---- requests that mean themselves

unread_at : (limit : ℕ) (body : List ℕ) → object_in body ≡ None → limited_at limit body ≡ None
unfolding limited_at
unread_at limit body e = rw e refl

pub unread_limited : (limit : ℕ) (own : Request) → object_in own.body ≡ None
    → MeansParts own.target (limited_at limit own.body) own own
unread_limited limit own is = itself own (limited_at limit own.body) (unread_at limit own.body is)

given : (limit : ℕ) (d : Data) → lacks_limit d ≡ false → option_and_then (limited_members limit) (as_object d) ≡ None
given limit null e = refl
given limit (boolean b) e = refl
given limit (number n) e = refl
given limit (string s) e = refl
given limit (array ds) e = refl
given limit (object ms) e = rw e refl

given_at : (limit : ℕ) (body : List ℕ) (d : Data) → object_in body ≡ as_object d → lacks_limit d ≡ false
    → limited_at limit body ≡ None
unfolding limited_at
given_at limit body d is e = rw is (given limit d e)

pub given_limited : (limit : ℕ) (own : Request) (d : Data) → object_in own.body ≡ as_object d
    → lacks_limit d ≡ false → MeansParts own.target (limited_at limit own.body) own own
given_limited limit own d is has = itself own (limited_at limit own.body) (given_at limit own.body d is has)

-- ---- starts that mean the default limit

lacking : (limit : ℕ) (d more : Data) (P : Option Members → Type 0) → lacks_limit d ≡ true
    → more ≡ number (unsigned limit) → IfSome (as_object d) (λ ms. P (Some (put (codes "limit") more ms)))
    → P (option_and_then (limited_members limit) (as_object d))
lacking limit null more P e is h = absurd (true≢false (sym e))
lacking limit (boolean b) more P e is h = absurd (true≢false (sym e))
lacking limit (number n) more P e is h = absurd (true≢false (sym e))
lacking limit (string s) more P e is h = absurd (true≢false (sym e))
lacking limit (array ds) more P e is h = absurd (true≢false (sym e))
lacking limit (object ms) more P e is h = rw (e, ← is) h

lacking_at : (limit : ℕ) (body : List ℕ) (d more : Data) (P : Option Members → Type 0) → object_in body ≡ as_object d
    → lacks_limit d ≡ true → more ≡ number (unsigned limit)
    → IfSome (as_object d) (λ ms. P (Some (put (codes "limit") more ms))) → P (limited_at limit body)
unfolding limited_at
lacking_at limit body d more P is e are h = rw is (lacking limit d more P e are h)

pub lacking_limited : (limit : ℕ) (own meant : Request) (d more : Data) → object_in own.body ≡ as_object d
    → lacks_limit d ≡ true → more ≡ number (unsigned limit)
    → IfSome (as_object d) (λ ms. MeansParts own.target (Some (put (codes "limit") more ms)) own meant)
    → MeansParts own.target (limited_at limit own.body) own meant
lacking_limited limit own meant d more is e are h =
    lacking_at limit own.body d more (λ o. MeansParts own.target o own meant) is e are h
