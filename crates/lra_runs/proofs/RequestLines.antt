-- The parser of whole lines accepts just those lines that `request_line` spells.
use Rattle.std.proofs.Common.{◌≡◌, ℕ, ◌<◌, ◌≤◌, ◌^◌, Bool, true, false, eqb, cond, List, [], ◌∷◌, ◌++◌, Option, Some}
use Rattle.std.proofs.Common.{None, refl, sym, ap, subst, ◌∙◌, inl, inr, ◌⊎◌, arith}
use Rattle.std.specs.Prelude.{◌==◌, ◌&&◌, not, nat_le, codes, option_map, IfSome}
use Rattle.std.specs.Fmt.{decimal}
use Rattle.std.specs.List.{join_with_byte, list_all}
use Rattle.std.specs.Str.{bytes_eq, is_utf8}
use Rattle.std.proofs.lemmas.Bool.{eqb-true, false≢true, leb-true, ne_eqb}
use Rattle.std.proofs.lemmas.List.{append-nil}
use Rattle.std.proofs.lemmas.List.Splits.{join_with_byte-slice_split}
use Rattle.std.proofs.lemmas.Option.{same_Some, cond_some}
use Rattle.std.proofs.lemmas.Slice.Eq.{bytes_eq-Decides}
use Rattle.lra_model.specs.declared.asks.Outcome.{Outcome}
use Rattle.lra_model.specs.declared.asks.Outcome.TheVariants as outcome
use Rattle.lra_model.specs.declared.status.Ending.{Ending}
use Rattle.lra_model.specs.declared.status.Ending.TheVariants as ending
use Rattle.lra_model.specs.Addresses.{Addresses}
use Rattle.lra_model.specs.Names.{outcome_name, ending_name}
use Rattle.std.proofs.lemmas.List.Folds.{list_all-append}
use Rattle.lra_laws.proofs.Tested.{both, and_intro}
use Rattle.lra_lines.specs.Line.{is_visible, or_star}
use Rattle.lra_lines.specs.Fields.{split_words}
use Rattle.lra_lines.specs.Reading.{Words, number_or_star_of, next_of, number_at}
use Rattle.lra_entries.specs.inner.Digits.{◌>>=◌}
use Rattle.lra_lines.specs.inner.Combinators.{named, unended}
use Rattle.lra_lines.proofs.LineFeeds.{unended_push, unended_is}
use Rattle.lra_lines.proofs.Splitting.{Lacks, split_words_at, split_words_none}
use Rattle.lra_lines.proofs.Plain.{lacks_from, decimal_plain}
use Rattle.lra_lines.proofs.Spelled.{bind_some, map_some, next_is, number_takes, named_takes, star_takes}
use Rattle.lra_lines.proofs.ReadBack.{next_again, number_next, star_next}
use Rattle.lra_lines.proofs.EntryLines.{whole_is}
use Rattle.lra_runs.specs.declared.requests.Request.{Request}
use Rattle.lra_runs.specs.declared.requests.Request.TheVariants as request
use Rattle.lra_runs.specs.declared.requests.RequestName.{RequestName}
use Rattle.lra_runs.specs.declared.requests.RequestName.TheVariants as name
use Rattle.lra_runs.specs.declared.requests.RequestLine.{RequestLine}
use Rattle.lra_runs.specs.Requests.{request_words, words_of_request_line, request_line, is_script_address}
use Rattle.lra_runs.specs.Requests.{HasScriptWord, HaveScriptWords, HasFields, IsRequestLine}
use Rattle.lra_runs.specs.inner.RequestReading.{request_name, request_names, outcomes, endings, address_field}
use Rattle.lra_runs.specs.inner.RequestReading.{address_at, addresses_at, start_at, join_at, pair_at, reply_at}
use Rattle.lra_runs.specs.inner.RequestReading.{report_at, fields_at, request_at, request_line_at, text_of}
use Rattle.lra_runs.specs.inner.RequestReading.{request_line_of}

-- ---- no word has a space or a line feed

-- neither a space nor a line feed
abbrev unbroken : ℕ → Bool
unbroken b = not (b == 32) && not (b == 10)

abbrev Whole : List ℕ → Type 0
Whole w = list_all unbroken w ≡ true

abbrev AllWhole : Words → Type 0
AllWhole [] = Unit {0}
AllWhole (w ∷ ws) = Whole w × AllWhole ws

weaker : (p q : ℕ → Bool) (w : List ℕ) → ((b : ℕ) → p b ≡ true → q b ≡ true) → list_all p w ≡ true → list_all q w ≡ true
weaker p q [] f h = refl
weaker p q (b ∷ w) f h = let k = both (p b) (list_all p w) h in
    and_intro (q b) (list_all q w) (f b k.0) (weaker p q w f k.1)

visible_unbroken : (b : ℕ) → is_visible b ≡ true → unbroken b ≡ true
visible_unbroken b h =
    let k = both (nat_le 33 b) (nat_le b 126) h in
    let low : 33 ≤ b = leb-true 33 b k.0 in
    and_intro (not (b == 32)) (not (b == 10)) (ap not (ne_eqb b 32 (λ e. omega arith)))
    (ap not (ne_eqb b 10 (λ e. omega arith)))

number_whole : (n : ℕ) → n < 2 ^ 64 → Whole (decimal n)
number_whole n lt = weaker is_visible unbroken (decimal n) visible_unbroken (decimal_plain n lt)

star_whole : (o : Option ℕ) → IfSome o (λ n. n < 2 ^ 64) → Whole (or_star (option_map decimal o))
star_whole None h = refl
star_whole (Some n) h = number_whole n h

address_whole : (o : Option (List ℕ)) → HasScriptWord o → Whole (or_star o)
address_whole None h = refl
address_whole (Some w) h = (both (list_all unbroken w) (not (bytes_eq w (codes "*"))) h).0

outcome_whole : (o : Outcome) → Whole (outcome_name o)
outcome_whole outcome.Done = refl
outcome_whole outcome.Accepted = refl
outcome_whole outcome.Failed = refl
outcome_whole outcome.Silent = refl

ending_whole : (e : Ending) → Whole (ending_name e)
ending_whole ending.Completed = refl
ending_whole ending.FailedToComplete = refl
ending_whole ending.Compensated = refl
ending_whole ending.FailedToCompensate = refl

request_whole : (by : ℕ) (r : Request) → HasFields by r → AllWhole (request_words r)
request_whole by request.Enrol h = (refl, tt)
request_whole by (request.Start p l) h = (refl, (star_whole p h.0, (number_whole l h.1, tt)))
request_whole by (request.Join a u) h = (
  refl,
  (
    number_whole a h.0,
    (
      address_whole u.compensate h.1.compensate,
      (
        address_whole u.complete h.1.complete,
        (
          address_whole u.status h.1.status,
          (address_whole u.forget h.1.forget, (address_whole u.after h.1.after, tt)),
        ),
      ),
    ),
  ),
)
request_whole by (request.Leave a m) h = (refl, (number_whole a h.0, (number_whole m h.1, tt)))
request_whole by (request.Close a) h = (refl, (number_whole a h, tt))
request_whole by (request.Cancel a) h = (refl, (number_whole a h, tt))
request_whole by request.Tick h = (refl, tt)
request_whole by request.Ask h = (refl, tt)
request_whole by (request.Reply a o) h = (refl, (number_whole a h, (outcome_whole o, tt)))
request_whole by (request.Report m e) h = (refl, (number_whole m h, (ending_whole e, tt)))
request_whole by request.Restart h = (refl, tt)
request_whole by (request.Renew a l) h = (refl, (number_whole a h.0, (number_whole l h.1, tt)))
request_whole by (request.Status a) h = (refl, (number_whole a h, tt))
request_whole by (request.Member m) h = (refl, (number_whole m h, tt))

line_whole : (l : RequestLine) → IsRequestLine l → AllWhole (words_of_request_line l)
line_whole l h = (
  number_whole l.by (omega (arith, h.by)),
  (
    number_whole l.moment h.moment,
    request_whole l.by l.request h.request,
  ),
)

lacks_space : (w : List ℕ) → Whole w → Lacks 32 w
lacks_space w h = lacks_from unbroken 32 w h refl

split_joined : (w : List ℕ) (ws : Words) → AllWhole (w ∷ ws) → split_words (join_with_byte 32 (w ∷ ws)) ≡ w ∷ ws
split_joined w [] h = split_words_none w (lacks_space w h.0)
split_joined w (x ∷ ws) h = split_words_at w (join_with_byte 32 (x ∷ ws)) (lacks_space w h.0)
    ∙ ap (λ l. w ∷ l) (split_joined x ws h.1)

-- not a line feed
abbrev goes_on : ℕ → Bool
goes_on b = not (b == 10)

whole_goes_on : (w : List ℕ) → Whole w → list_all goes_on w ≡ true
whole_goes_on w h = weaker unbroken goes_on w (λ b e. (both (not (b == 32)) (goes_on b) e).1) h

joined_goes_on : (ws : Words) → AllWhole ws → list_all goes_on (join_with_byte 32 ws) ≡ true
joined_goes_on [] h = refl
joined_goes_on (w ∷ []) h = whole_goes_on w h.0
joined_goes_on (w ∷ x ∷ ws) h =
    list_all-append goes_on w (32 ∷ join_with_byte 32 (x ∷ ws)) ∙ and_intro (list_all goes_on w)
    (list_all goes_on (join_with_byte 32 (x ∷ ws))) (whole_goes_on w h.0) (joined_goes_on (x ∷ ws) h.1)

-- a line has its line feed at its end alone
pub lacks_feed : (l : RequestLine) → IsRequestLine l → Lacks 10 (join_with_byte 32 (words_of_request_line l))
lacks_feed l h = lacks_from goes_on 10 (join_with_byte 32 (words_of_request_line l))
    (joined_goes_on (words_of_request_line l) (line_whole l h)) refl

-- ---- lines that are spelled as the grammar says are read

outcome_next : (o : Outcome) (rest : Words) → next_of (named outcome_name outcomes) (outcome_name o ∷ rest)
    ≡ Some (o, rest)
unfolding next_of
outcome_next outcome.Done rest = refl
outcome_next outcome.Accepted rest = refl
outcome_next outcome.Failed rest = refl
outcome_next outcome.Silent rest = refl

ending_next : (e : Ending) (rest : Words) → next_of (named ending_name endings) (ending_name e ∷ rest) ≡ Some (e, rest)
unfolding next_of
ending_next ending.Completed rest = refl
ending_next ending.FailedToComplete rest = refl
ending_next ending.Compensated rest = refl
ending_next ending.FailedToCompensate rest = refl

name_next : (n : RequestName) (rest : Words) → next_of (named request_name request_names) (request_name n ∷ rest)
    ≡ Some (n, rest)
unfolding next_of
name_next name.Enrol rest = refl
name_next name.Start rest = refl
name_next name.Join rest = refl
name_next name.Leave rest = refl
name_next name.Close rest = refl
name_next name.Cancel rest = refl
name_next name.Tick rest = refl
name_next name.Ask rest = refl
name_next name.Reply rest = refl
name_next name.Report rest = refl
name_next name.Restart rest = refl
name_next name.Renew rest = refl
name_next name.Status rest = refl
name_next name.Member rest = refl

last_of : (a b : Bool) → (a && not b) ≡ true → b ≡ false
last_of true true e = absurd (false≢true e)
last_of true false e = refl
last_of false b e = absurd (false≢true e)

inner : {A : Type 0} (b t : Bool) (x y : A) (z : A) → b ≡ false → t ≡ true → cond b x (cond t y z) ≡ y
inner true t x y z e f = absurd (false≢true (sym e))
inner false true x y z e f = refl
inner false false x y z e f = absurd (false≢true f)

address_next : (o : Option (List ℕ)) (rest : Words) → HasScriptWord o → address_at (or_star o ∷ rest) ≡ Some (o, rest)
unfolding address_field
address_next None rest h = next_again address_field (codes "*") None rest refl
address_next (Some w) rest h = next_again address_field w (Some w) rest
    (inner (bytes_eq w (codes "*")) (is_script_address w) (Some None) (Some (Some w)) None
    (last_of _ (bytes_eq w (codes "*")) h) h)

addresses_again : (u : Addresses) (rest : Words) → HaveScriptWords u → addresses_at
    (or_star u.compensate ∷ or_star u.complete ∷ or_star u.status ∷ or_star u.forget ∷ or_star u.after ∷ rest)
    ≡ Some (u, rest)
unfolding addresses_at
addresses_again u rest h =
    rw (
      address_next u.compensate (or_star u.complete ∷ or_star u.status ∷ or_star u.forget ∷ or_star u.after ∷ rest)
          h.compensate,
      address_next u.complete (or_star u.status ∷ or_star u.forget ∷ or_star u.after ∷ rest) h.complete,
      address_next u.status (or_star u.forget ∷ or_star u.after ∷ rest) h.status,
      address_next u.forget (or_star u.after ∷ rest) h.forget,
      address_next u.after rest h.after,
    ) refl

start_again : (p : Option ℕ) (l : ℕ) → IfSome p (λ n. n < 2 ^ 64) → l < 2 ^ 64
    → start_at (or_star (option_map decimal p) ∷ decimal l ∷ []) ≡ Some (request.Start p l, [])
unfolding start_at
start_again p l hp hl = rw (star_next p (decimal l ∷ []) hp, number_next (2 ^ 64) l [] (omega arith) hl) refl

join_again : (a : ℕ) (u : Addresses) → a < 2 ^ 64 → HaveScriptWords u
    → join_at (decimal a ∷ or_star u.compensate ∷ or_star u.complete ∷ or_star u.status ∷ or_star u.forget
    ∷ or_star u.after ∷ []) ≡ Some (request.Join a u, [])
unfolding join_at
join_again a u ha hu =
    let uris : Words = or_star u.compensate ∷ or_star u.complete ∷ or_star u.status ∷ or_star u.forget ∷ or_star u.after
    ∷ [] in
    rw (number_next (2 ^ 64) a uris (omega arith) ha, addresses_again u [] hu) refl

pair_again : (a b : ℕ) → a < 2 ^ 64 → b < 2 ^ 64 → pair_at (decimal a ∷ decimal b ∷ []) ≡ Some ((a, b), [])
unfolding pair_at
pair_again a b ha hb = rw (
  number_next (2 ^ 64) a (decimal b ∷ []) (omega arith) ha,
  number_next (2 ^ 64) b [] (omega arith) hb,
) refl

reply_again : (a : ℕ) (o : Outcome) → a < 2 ^ 64 → reply_at (decimal a ∷ outcome_name o ∷ [])
    ≡ Some (request.Reply a o, [])
unfolding reply_at
reply_again a o ha = rw (number_next (2 ^ 64) a (outcome_name o ∷ []) (omega arith) ha, outcome_next o []) refl

report_again : (m : ℕ) (e : Ending) → m < 2 ^ 64 → report_at (decimal m ∷ ending_name e ∷ [])
    ≡ Some (request.Report m e, [])
unfolding report_at
report_again m e hm = rw (number_next (2 ^ 64) m (ending_name e ∷ []) (omega arith) hm, ending_next e []) refl

-- a request by its name, and then its fields
by_name : (by : ℕ) (n : RequestName) (fields : Words) (x : Request × Words) → fields_at by n fields ≡ Some x
    → request_at by (request_name n ∷ fields) ≡ Some x
unfolding request_at
by_name by n fields x e = rw (name_next n fields) e

request_again : (by : ℕ) (r : Request) → HasFields by r → request_at by (request_words r) ≡ Some (r, [])
unfolding fields_at
request_again by request.Enrol h = by_name by name.Enrol [] (request.Enrol, []) (rw h refl)
request_again by (request.Start p l) h = by_name by name.Start _ _ (start_again p l h.0 h.1)
request_again by (request.Join a u) h = by_name by name.Join _ _ (join_again a u h.0 h.1)
request_again by (request.Leave a m) h = by_name by name.Leave (decimal a ∷ decimal m ∷ []) (request.Leave a m, [])
    (rw (pair_again a m h.0 h.1) refl)
request_again by (request.Close a) h = by_name by name.Close (decimal a ∷ []) (request.Close a, [])
    (rw (number_next (2 ^ 64) a [] (omega arith) h) refl)
request_again by (request.Cancel a) h = by_name by name.Cancel (decimal a ∷ []) (request.Cancel a, [])
    (rw (number_next (2 ^ 64) a [] (omega arith) h) refl)
request_again by request.Tick h = by_name by name.Tick [] (request.Tick, []) refl
request_again by request.Ask h = by_name by name.Ask [] (request.Ask, []) refl
request_again by (request.Reply a o) h = by_name by name.Reply _ _ (reply_again a o h)
request_again by (request.Report m e) h = by_name by name.Report _ _ (report_again m e h)
request_again by request.Restart h = by_name by name.Restart [] (request.Restart, []) refl
request_again by (request.Renew a l) h = by_name by name.Renew (decimal a ∷ decimal l ∷ []) (request.Renew a l, [])
    (rw (pair_again a l h.0 h.1) refl)
request_again by (request.Status a) h = by_name by name.Status (decimal a ∷ []) (request.Status a, [])
    (rw (number_next (2 ^ 64) a [] (omega arith) h) refl)
request_again by (request.Member m) h = by_name by name.Member (decimal m ∷ []) (request.Member m, [])
    (rw (number_next (2 ^ 64) m [] (omega arith) h) refl)

line_again : (l : RequestLine) → IsRequestLine l → request_line_at (words_of_request_line l) ≡ Some (l, [])
unfolding request_line_at
line_again l h =
    rw (
      number_next (2 ^ 32) l.by (decimal l.moment ∷ request_words l.request) (omega arith) h.by,
      number_next (2 ^ 64) l.moment (request_words l.request) (omega arith) h.moment,
      request_again l.by l.request h.request,
    ) refl

pub request_line_of-line : (l : RequestLine) → IsRequestLine l → request_line_of (request_line l) ≡ Some l
unfolding request_line_of text_of
request_line_of-line l h =
    rw (
      unended_push (join_with_byte 32 (words_of_request_line l)),
      h.text,
      split_joined (decimal l.by) _ (line_whole l h),
      line_again l h,
    ) refl

-- ---- lines that are read are spelled as the grammar says

-- the other branch of a test
chosen : {A : Type 0} (b : Bool) (x : A) (r : Option A) (y : A) → cond b (Some x) r ≡ Some y → ((b ≡ true) × (x ≡ y))
    ⊎ ((b ≡ false) × (r ≡ Some y))
chosen true x r y e = inl (refl, same_Some x y e)
chosen false x r y e = inr (refl, e)

address_is : (word : List ℕ) (x : Option (List ℕ)) → address_field word ≡ Some x → (word ≡ or_star x) × HasScriptWord x
unfolding address_field
address_is word x e =
    elim (chosen (bytes_eq word (codes "*")) None (cond (is_script_address word) (Some (Some word)) None) x e) [
      | inl star ↦ subst (λ (y : Option (List ℕ)). (word ≡ or_star y) × HasScriptWord y) star.1
          ((bytes_eq-Decides word (codes "*")).0 star.0, tt)
      | inr other ↦
          let is = cond_some (is_script_address word) (Some word) x other.1 in
          subst (λ (y : Option (List ℕ)). (word ≡ or_star y) × HasScriptWord y) is.1 (refl, is.0)
    ]

address_takes : (ws : Words) (x : Option (List ℕ) × Words) → address_at ws ≡ Some x → (ws ≡ or_star x.0 ∷ x.1)
    × HasScriptWord x.0
address_takes ws x e =
    let n = next_is address_field ws x e in
    let is = address_is n.0 x.0 n.2 in
    (n.1 ∙ ap (λ w. w ∷ x.1) is.0, is.1)

addresses_take : (ws : Words) (x : Addresses × Words) → addresses_at ws ≡ Some x
    → (ws ≡ or_star x.0.compensate ∷ or_star x.0.complete ∷ or_star x.0.status ∷ or_star x.0.forget ∷ or_star x.0.after
    ∷ x.1) × HaveScriptWords x.0
unfolding addresses_at
addresses_take ws x e =
    let a = bind_some (address_at ws) _ x e in
    let b = bind_some (address_at a.0.1) _ x a.2 in
    let c = bind_some (address_at b.0.1) _ x b.2 in
    let d = bind_some (address_at c.0.1) _ x c.2 in
    let f = bind_some (address_at d.0.1) _ x d.2 in
    let s0 = address_takes ws a.0 a.1 in
    let s1 = address_takes a.0.1 b.0 b.1 in
    let s2 = address_takes b.0.1 c.0 c.1 in
    let s3 = address_takes c.0.1 d.0 d.1 in
    let s4 = address_takes d.0.1 f.0 f.1 in
    let made : Addresses × Words =
    (record { compensate = a.0.0; complete = b.0.0; status = c.0.0; forget = d.0.0; after = f.0.0 }, f.0.1) in
    subst (λ (y : Addresses × Words). (ws ≡ or_star y.0.compensate ∷ or_star y.0.complete ∷ or_star y.0.status
    ∷ or_star y.0.forget ∷ or_star y.0.after ∷ y.1) × HaveScriptWords y.0) (same_Some made x f.2)
    (cc, record { compensate = s0.1; complete = s1.1; status = s2.1; forget = s3.1; after = s4.1 })

-- the words of a request come before the rest
abbrev Says : ℕ → Words → Request × Words → Type 0
Says by ws x = (ws ≡ request_words x.0 ++ x.1) × HasFields by x.0

said : (by : ℕ) (ws : Words) (made x : Request × Words) → Some made ≡ Some x → Says by ws made → Says by ws x
said by ws made x e h = subst (Says by ws) (same_Some made x e) h

start_takes : (by : ℕ) (ws : Words) (x : Request × Words) → start_at ws ≡ Some x → Says by (codes "start" ∷ ws) x
unfolding start_at
start_takes by ws x e =
    let a = bind_some (next_of number_or_star_of ws) _ x e in
    let b = bind_some (number_at (2 ^ 64) a.0.1) _ x a.2 in
    let s0 = star_takes ws a.0 a.1 in
    let s1 = number_takes (2 ^ 64) a.0.1 b.0 b.1 in
    said by (codes "start" ∷ ws) (request.Start a.0.0 b.0.0, b.0.1) x b.2 (cc, (s0.1, s1.1))

join_takes : (by : ℕ) (ws : Words) (x : Request × Words) → join_at ws ≡ Some x → Says by (codes "join" ∷ ws) x
unfolding join_at
join_takes by ws x e =
    let a = bind_some (number_at (2 ^ 64) ws) _ x e in
    let b = bind_some (addresses_at a.0.1) _ x a.2 in
    let s0 = number_takes (2 ^ 64) ws a.0 a.1 in
    let s1 = addresses_take a.0.1 b.0 b.1 in
    said by (codes "join" ∷ ws) (request.Join a.0.0 b.0.0, b.0.1) x b.2 (cc, (s0.1, s1.1))

reply_takes : (by : ℕ) (ws : Words) (x : Request × Words) → reply_at ws ≡ Some x → Says by (codes "reply" ∷ ws) x
unfolding reply_at
reply_takes by ws x e =
    let a = bind_some (number_at (2 ^ 64) ws) _ x e in
    let b = bind_some (next_of (named outcome_name outcomes) a.0.1) _ x a.2 in
    let s0 = number_takes (2 ^ 64) ws a.0 a.1 in
    let s1 = named_takes outcome_name outcomes a.0.1 b.0 b.1 in
    said by (codes "reply" ∷ ws) (request.Reply a.0.0 b.0.0, b.0.1) x b.2 (cc, s0.1)

report_takes : (by : ℕ) (ws : Words) (x : Request × Words) → report_at ws ≡ Some x → Says by (codes "report" ∷ ws) x
unfolding report_at
report_takes by ws x e =
    let a = bind_some (number_at (2 ^ 64) ws) _ x e in
    let b = bind_some (next_of (named ending_name endings) a.0.1) _ x a.2 in
    let s0 = number_takes (2 ^ 64) ws a.0 a.1 in
    let s1 = named_takes ending_name endings a.0.1 b.0 b.1 in
    said by (codes "report" ∷ ws) (request.Report a.0.0 b.0.0, b.0.1) x b.2 (cc, s0.1)

pair_takes : (ws : Words) (x : (ℕ × ℕ) × Words) → pair_at ws ≡ Some x → (ws ≡ decimal x.0.0 ∷ decimal x.0.1 ∷ x.1)
    × ((x.0.0 < 2 ^ 64) × (x.0.1 < 2 ^ 64))
unfolding pair_at
pair_takes ws x e =
    let a = bind_some (number_at (2 ^ 64) ws) _ x e in
    let b = bind_some (number_at (2 ^ 64) a.0.1) _ x a.2 in
    let s0 = number_takes (2 ^ 64) ws a.0 a.1 in
    let s1 = number_takes (2 ^ 64) a.0.1 b.0 b.1 in
    let made : (ℕ × ℕ) × Words = ((a.0.0, b.0.0), b.0.1) in
    subst (λ (y : (ℕ × ℕ) × Words). (ws ≡ decimal y.0.0 ∷ decimal y.0.1 ∷ y.1) × ((y.0.0 < 2 ^ 64) × (y.0.1 < 2 ^ 64)))
    (same_Some made x b.2) (cc, (s0.1, s1.1))

-- a request whose only field is a number
number_says : (by : ℕ) (name : List ℕ) (of : ℕ → Request) (ws : Words) (x : Request × Words)
    → ((n : ℕ) → request_words (of n) ≡ name ∷ decimal n ∷ []) → ((n : ℕ) → n < 2 ^ 64 → HasFields by (of n))
    → option_map (λ y. (of y.0, y.1)) (number_at (2 ^ 64) ws) ≡ Some x → Says by (name ∷ ws) x
number_says by name of ws x spelled has e =
    let m = map_some (λ y. (of y.0, y.1)) (number_at (2 ^ 64) ws) x e in
    let t = number_takes (2 ^ 64) ws m.0 m.1 in
    subst (Says by (name ∷ ws)) m.2 (ap (λ l. name ∷ l) t.0 ∙ ap (λ d. d ++ m.0.1) (sym (spelled m.0.0)), has m.0.0 t.1)

-- a request whose fields are two numbers
pair_says : (by : ℕ) (name : List ℕ) (of : ℕ → ℕ → Request) (ws : Words) (x : Request × Words)
    → ((n k : ℕ) → request_words (of n k) ≡ name ∷ decimal n ∷ decimal k ∷ [])
    → ((n k : ℕ) → (n < 2 ^ 64) × (k < 2 ^ 64) → HasFields by (of n k))
    → option_map (λ y. (of y.0.0 y.0.1, y.1)) (pair_at ws) ≡ Some x → Says by (name ∷ ws) x
pair_says by name of ws x spelled has e =
    let m = map_some (λ y. (of y.0.0 y.0.1, y.1)) (pair_at ws) x e in
    let t = pair_takes ws m.0 m.1 in
    subst (Says by (name ∷ ws)) m.2 (
      ap (λ l. name ∷ l) t.0 ∙ ap (λ d. d ++ m.0.1) (sym (spelled m.0.0.0 m.0.0.1)),
      has m.0.0.0 m.0.0.1 t.1,
    )

fields_take : (by : ℕ) (n : RequestName) (ws : Words) (x : Request × Words) → fields_at by n ws ≡ Some x
    → Says by (request_name n ∷ ws) x
unfolding fields_at
fields_take by name.Enrol ws x e =
    let c = cond_some (eqb by 0) (request.Enrol, ws) x e in
    subst (Says by (codes "enrol" ∷ ws)) c.1 (refl, eqb-true by 0 c.0)
fields_take by name.Start ws x e = start_takes by ws x e
fields_take by name.Join ws x e = join_takes by ws x e
fields_take by name.Leave ws x e = pair_says by (codes "leave") (λ n k. request.Leave n k) ws x (λ n k. refl)
    (λ n k lt. lt) e
fields_take by name.Close ws x e = number_says by (codes "close") (λ n. request.Close n) ws x (λ n. refl) (λ n lt. lt) e
fields_take by name.Cancel ws x e = number_says by (codes "cancel") (λ n. request.Cancel n) ws x (λ n. refl)
    (λ n lt. lt) e
fields_take by name.Tick ws x e = said by (codes "tick" ∷ ws) (request.Tick, ws) x e (refl, tt)
fields_take by name.Ask ws x e = said by (codes "ask" ∷ ws) (request.Ask, ws) x e (refl, tt)
fields_take by name.Reply ws x e = reply_takes by ws x e
fields_take by name.Report ws x e = report_takes by ws x e
fields_take by name.Restart ws x e = said by (codes "restart" ∷ ws) (request.Restart, ws) x e (refl, tt)
fields_take by name.Renew ws x e = pair_says by (codes "renew") (λ n k. request.Renew n k) ws x (λ n k. refl)
    (λ n k lt. lt) e
fields_take by name.Status ws x e = number_says by (codes "status") (λ n. request.Status n) ws x (λ n. refl)
    (λ n lt. lt) e
fields_take by name.Member ws x e = number_says by (codes "member") (λ n. request.Member n) ws x (λ n. refl)
    (λ n lt. lt) e

request_takes : (by : ℕ) (ws : Words) (x : Request × Words) → request_at by ws ≡ Some x → Says by ws x
unfolding request_at
request_takes by ws x e =
    let a = bind_some (next_of (named request_name request_names) ws) _ x e in
    let s = fields_take by a.0.0 a.0.1 x a.2 in
    (named_takes request_name request_names ws a.0 a.1 ∙ s.0, s.1)

-- a line that was read is one that a script may have, but for its being UTF-8
record HasParts (l : RequestLine) : Type 0 where
  by : l.by < 2 ^ 32
  moment : l.moment < 2 ^ 64
  request : HasFields l.by l.request

line_takes : (ws : Words) (x : RequestLine × Words) → request_line_at ws ≡ Some x
    → (ws ≡ words_of_request_line x.0 ++ x.1) × HasParts x.0
unfolding request_line_at
line_takes ws x e =
    let a = bind_some (number_at (2 ^ 32) ws) _ x e in
    let b = bind_some (number_at (2 ^ 64) a.0.1) _ x a.2 in
    let c = bind_some (request_at a.0.0 b.0.1) _ x b.2 in
    let s0 = number_takes (2 ^ 32) ws a.0 a.1 in
    let s1 = number_takes (2 ^ 64) a.0.1 b.0 b.1 in
    let s2 = request_takes a.0.0 b.0.1 c.0 c.1 in
    let made : RequestLine × Words = (record { by = a.0.0; moment = b.0.0; request = c.0.0 }, c.0.1) in
    subst (λ (y : RequestLine × Words). (ws ≡ words_of_request_line y.0 ++ y.1) × HasParts y.0) (same_Some made x c.2)
    (cc, record { by = s0.1; moment = s1.1; request = s2.1 })

pub line_from_request_line_of : (bytes : List ℕ) (l : RequestLine) → request_line_of bytes ≡ Some l → IsRequestLine l
    × (bytes ≡ request_line l)
unfolding request_line_of text_of
line_from_request_line_of bytes l h =
    let t = bind_some (unended bytes >>= λ body. cond (is_utf8 body) (Some body) None) _ l h in
    let b = bind_some (unended bytes) _ t.0 t.1 in
    let u = cond_some (is_utf8 b.0) b.0 t.0 b.2 in
    let r = whole_is (request_line_at (split_words t.0)) l t.2 in
    let k = line_takes (split_words t.0) (l, []) r in
    let split : split_words t.0 ≡ words_of_request_line l = k.0 ∙ append-nil (words_of_request_line l) in
    let joined : t.0 ≡ join_with_byte 32 (words_of_request_line l) = sym (join_with_byte-slice_split 32 t.0)
    ∙ ap (join_with_byte 32) split in
    let text : is_utf8 (join_with_byte 32 (words_of_request_line l)) ≡ true = ap is_utf8 (sym joined)
    ∙ ap is_utf8 (sym u.1) ∙ u.0 in (
      record { by = k.1.by; moment = k.1.moment; request = k.1.request; text = text },
      unended_is bytes b.0 b.1
          ∙ ap (λ (x : List ℕ). x ++ 10 ∷ []) (u.1 ∙ joined),
    )

-- a reader that returns just that line is correct
pub request_found : (bytes : List ℕ) (r : Option RequestLine) → r ≡ request_line_of bytes
    → IfSome r (λ l. IsRequestLine l × (bytes ≡ request_line l))
request_found bytes None e = tt
request_found bytes (Some l) e = line_from_request_line_of bytes l (sym e)
