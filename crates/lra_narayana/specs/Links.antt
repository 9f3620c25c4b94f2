-- The links of a member, as JAX-RS writes them (RFC 8288, section 3; Narayana's interface).
use Rattle.std.specs.Prelude.{ℕ, ◌==◌, ◌&&◌, ◌||◌, Bool, if◌then◌else◌, nat_eq, List, length, codes, Option, Some, None}
use Rattle.std.specs.List.{before_first, after_first, starts_with}
use Rattle.std.specs.Option.{option_or}
use Rattle.lra_narayana.specs.Texts.{is_open, is_close, is_semicolon}
use Rattle.lra_narayana.specs.declared.links.Relation.{Relation}
use Rattle.lra_narayana.specs.declared.links.Relation.TheVariants as relation

-- the parameter of a link that has a relation
abbrev pub mark : Relation → List ℕ
mark relation.Compensate = codes "rel=\"compensate\""
mark relation.Complete = codes "rel=\"complete\""
mark relation.Status = codes "rel=\"status\""
mark relation.Forget = codes "rel=\"forget\""
mark relation.Leave = codes "rel=\"leave\""
mark relation.After = codes "rel=\"after\""

-- that parameter after a space
abbrev pub spaced : Relation → List ℕ
spaced relation.Compensate = codes " rel=\"compensate\""
spaced relation.Complete = codes " rel=\"complete\""
spaced relation.Status = codes " rel=\"status\""
spaced relation.Forget = codes " rel=\"forget\""
spaced relation.Leave = codes " rel=\"leave\""
spaced relation.After = codes " rel=\"after\""

-- parameters of a link begin with a relation
unfoldable pub begins : Relation → List ℕ → Bool
begins r parameters = starts_with nat_eq parameters (mark r) || starts_with nat_eq parameters (spaced r)

-- the parameters of a link that follow its URI
abbrev pub after_uri : List ℕ → List ℕ
after_uri link = after_first is_semicolon (after_first is_close link)

-- the parameters that follow the first one
abbrev pub after_one : List ℕ → List ℕ
after_one parameters = after_first is_semicolon parameters

-- one of the first four parameters of a link is a relation
unfoldable pub is_of : Relation → List ℕ → Bool
is_of r link =
    begins r (after_uri link) || begins r (after_one (after_uri link))
    || begins r (after_one (after_one (after_uri link)))
    || begins r (after_one (after_one (after_one (after_uri link))))

-- the URI of the link that a text begins with, behind its `<`, if the link has the relation
unfoldable pub uri_at : Relation → List ℕ → Option (List ℕ)
uri_at r rest =
    if is_of r (before_first is_open rest) then Some (before_first is_close (before_first is_open rest)) else None

-- a link has a known relation
unfoldable pub has_relation : List ℕ → Bool
has_relation link =
    is_of relation.Compensate link
    || is_of relation.Complete link
    || is_of relation.Status link
    || is_of relation.Forget link
    || is_of relation.Leave link
    || is_of relation.After link

-- a text behind a `<` begins with a link that has a known relation, or is empty
unfoldable pub is_known : List ℕ → Bool
is_known rest = length rest == 0 || has_relation (before_first is_open rest)

-- what follows a link, behind the next `<`
abbrev pub next : List ℕ → List ℕ
next rest = after_first is_open rest

-- what follows three links, behind the next `<`
abbrev pub later : List ℕ → List ℕ
later one = next (next (next one))

-- the URI of the first of three links that has the relation
unfoldable pub uri_soon : Relation → List ℕ → Option (List ℕ)
uri_soon r one = option_or (uri_at r one) (option_or (uri_at r (next one)) (uri_at r (next (next one))))

-- the URI of the first of six links that has the relation
unfoldable pub uri_of : Relation → List ℕ → Option (List ℕ)
uri_of r links = option_or (uri_soon r (next links)) (uri_soon r (later (next links)))

-- three links have known relations
unfoldable pub are_known : List ℕ → Bool
are_known one = is_known one && is_known (next one) && is_known (next (next one))

-- a text begins as links do
unfoldable pub begins_links : List ℕ → Bool
begins_links text = starts_with nat_eq text (codes "<")

-- a text is links of known relations, six at most
unfoldable pub is_links : List ℕ → Bool
is_links text =
    begins_links text && are_known (next text) && are_known (later (next text))
    && (length (later (later (next text))) == 0)
