-- Joins that name `https` addresses, and mean their spelling with `http`.
use Rattle.std.specs.Prelude.{ℕ, Bool, ◌&&◌, is_none, if◌then◌else◌, List, [], ◌++◌, codes, bytes_eq, Option, None}
use Rattle.std.specs.Prelude.{option_map, option_and_then, unwrap_or}
use Rattle.serde_json.specs.Data.{Members, string, put}
use Rattle.url.specs.Parts.{Parts, text_between}
use Rattle.url.specs.declared.slicing.Position.TheVariants.{BeforeUsername, AfterPort, BeforePath, AfterFragment}
use Rattle.lra_ids.specs.Addresses.{url_of}
use Rattle.lra_model.specs.Addresses.{Addresses}
use Rattle.lra_model.specs.Words.{when}
use Rattle.lra_wire.specs.Request.{Request}
use Rattle.lra_front.specs.Bodies.{object_in, text_under}
use Rattle.lra_member_rules.specs.Ruling.{is_join}

-- an `https` URL spelled with `http`: at the port that it gives, or else at 443 (RFC 9110, section 4.2.2); that
-- journals spell it so, and the port tells a proxy where to speak TLS, is this project's choice
abbrev pub spelled_url : Parts → List ℕ
spelled_url url =
    ((codes "http://" ++ text_between url BeforeUsername AfterPort)
    ++ (if is_none url.port then codes ":443" else []))
    ++ text_between url BeforePath AfterFragment

-- the same, if a URL's scheme is `https`
abbrev pub https_spelling : Parts → Option (List ℕ)
https_spelling url = when (bytes_eq url.scheme (codes "https")) (spelled_url url)

-- the spelling of a text with `http`, if it is an `https` URL by the URL Standard
unfoldable pub http_spelling : List ℕ → Option (List ℕ)
http_spelling text = option_and_then https_spelling (url_of text)

-- the address that a text means
abbrev pub address_meant : List ℕ → List ℕ
address_meant text = unwrap_or (http_spelling text) text

-- the addresses that a member means by those that it gives
abbrev pub addresses_meant : Addresses → Addresses
addresses_meant given = record {
  compensate = option_map address_meant given.compensate;
  complete = option_map address_meant given.complete;
  status = option_map address_meant given.status;
  forget = option_map address_meant given.forget;
  after = option_map address_meant given.after;
}

-- the members with the text under a key spelled with `http`, if it is an `https` URL; all other members stay
unfoldable pub spelled_under : List ℕ → Members → Members
spelled_under key ms = unwrap_or
    (option_map (λ text. put key (string text) ms) (option_and_then http_spelling (text_under key ms))) ms

-- the members of a join's body with all its addresses spelled so
unfoldable pub spelled_members : Members → Members
spelled_members ms =
    spelled_under (codes "after") (spelled_under (codes "forget") (spelled_under (codes "status")
    (spelled_under (codes "complete") (spelled_under (codes "compensate") ms))))

-- a request is a join, and members are called by a proxy
abbrev pub may_spell : Bool → Request → Bool
may_spell is_proxied request = is_proxied && is_join request

-- the members that the body of a join means
abbrev pub spelled_at : List ℕ → Option Members
spelled_at body = option_map spelled_members (object_in body)

-- the members that the body of a request means, if those are others
abbrev pub spelled_body : Bool → Request → Option Members
spelled_body is_proxied request = if may_spell is_proxied request then spelled_at request.body else None
