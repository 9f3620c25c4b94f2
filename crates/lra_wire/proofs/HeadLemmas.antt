-- A search for a head in what comes, which looks only where a line feed came.
use Rattle.std.proofs.Common.{◌≡◌, ℕ, ◌≤◌, false, ◌||◌, ◌==◌, List, [], ◌∷◌, ◌++◌, length, take, drop, refl, sym, ap}
use Rattle.std.proofs.Common.{◌∙◌, append_assoc, inl}
use Rattle.std.specs.Prelude.{slice_range}
use Rattle.std.specs.List.{list_any}
use Rattle.std.proofs.lemmas.List.{take-append-drop, append-nil}
use Rattle.std.proofs.lemmas.List.Folds.{list_any-append}
use Rattle.httparse.specs.Ascii.{space}
use Rattle.httparse.specs.Grammar.{RequestHead, ResponseHead, print_blank, print_version, print_end, print_reason}
use Rattle.httparse.specs.Grammar.{print_section, print_request, print_response, MayBecomeRequest, MayBecomeResponse}
use Rattle.lra_wire.specs.Request.{IsOpenRequest}
use Rattle.lra_wire.specs.Response.{IsOpenResponse}
use Rattle.lra_wire.specs.Streams.{UpToLine}
use Rattle.lra_wire.proofs.RequestsLemmas.{example, example_is}
use Rattle.lra_wire.proofs.SearchLemmas.{EndsLine, ends_behind, section_ends, ends_before, no_feed, ends_some}

-- ---- up to a line feed

pub up_to_all : (P : List ℕ → Type 0) (bytes : List ℕ) → P bytes → UpToLine P bytes
up_to_all P bytes there = record {
  front = bytes;
  back = [];
  whole = sym (append-nil bytes);
  none = refl;
  there =
      there;
}

up_to_more : (P : List ℕ → Type 0) (bytes : List ℕ) (n : ℕ) → UpToLine P (take n bytes)
    → list_any (λ b. b == 10) (drop n bytes) ≡ false → UpToLine P bytes
up_to_more P bytes n so_far feed = record {
  front = so_far.front;
  back = so_far.back ++ drop n bytes;
  whole = sym (take-append-drop n bytes) ∙ ap (λ bs. bs ++ drop n bytes) so_far.whole
      ∙ append_assoc so_far.front so_far.back (drop n bytes);
  none = list_any-append (λ b. b == 10) so_far.back (drop n bytes) ∙ ap
      (λ t. t || list_any (λ b. b == 10) (drop n bytes)) so_far.none ∙ feed;
  there = so_far.there;
}

-- ---- requests

request_ends : (head : RequestHead) → EndsLine (print_request head)
unfolding print_request
request_ends head =
    ends_behind (print_blank head.blank ++ head.method ++ space ∷ head.target ++ space ∷ print_version head.minor
    ++ print_end head.line_end)
    (print_section head.fields head.last) (section_ends head.fields head.last)

pub no_request : (bytes : List ℕ) (n : ℕ) → n ≤ length bytes → IsOpenRequest (take n bytes)
    → list_any (λ b. b == 10) (slice_range bytes n (length bytes)) ≡ false → IsOpenRequest bytes
no_request bytes n within so_far feed = (
  λ head rest reads. let there = ends_before bytes (print_request head) rest n (request_ends head) within reads.1
      (no_feed bytes n feed) in so_far.0 head there.0 (reads.0, there.1),
  up_to_more MayBecomeRequest bytes n so_far.1 (no_feed bytes n feed),
)

pub no_request_yet : IsOpenRequest []
no_request_yet = (
  λ head rest reads. ends_some (print_request head) rest (request_ends head) reads.1,
  up_to_all MayBecomeRequest []
      (inl (print_request example, example, (example_is, sym (append-nil (print_request example))))),
)

-- ---- responses

response_ends : (head : ResponseHead) → EndsLine (print_response head)
unfolding print_response
response_ends head =
    ends_behind (print_blank head.blank ++ print_version head.minor ++ space ∷ head.digits ++ print_reason head.reason
    ++ print_end head.line_end)
    (print_section head.fields head.last) (section_ends head.fields head.last)

pub no_response : (bytes : List ℕ) (n : ℕ) → n ≤ length bytes → IsOpenResponse (take n bytes)
    → list_any (λ b. b == 10) (slice_range bytes n (length bytes)) ≡ false → IsOpenResponse bytes
no_response bytes n within so_far feed = (
  λ head rest reads. let there = ends_before bytes (print_response head) rest n (response_ends head) within reads.1
      (no_feed bytes n feed) in so_far.0 head there.0 (reads.0, there.1),
  up_to_more MayBecomeResponse bytes n so_far.1 (no_feed bytes n feed),
)
