use Rattle.std.proofs.Common.{◌∙◌, Ok, sym, ap}
use Rattle.std.proofs.lemmas.Result.{err_from_is_err_and}
use Rattle.lra_addresses.proofs.AddressFacts.{address_of-long, address_of-url, address_of_url-other}
use Rattle.lra_addresses.proofs.AddressFacts.{address_of_url-long}
use Rattle.lra_addresses.proofs.AddressFacts.{address_of_url-own, address_of-refused, url_is_address}
use Rattle.lra_addresses.proofs.reading.address.Goals as goal

pub returns-then-text-gt-LONGEST-clause-fault : goal.returns-then-text-gt-LONGEST-clause-fault
returns-then-text-gt-LONGEST-clause-fault c = λ _. address_of-long c.args.text.now c.if-text-gt-LONGEST.true

pub returns-in_err-url-clause-fault : goal.returns-in_err-url-clause-fault
returns-in_err-url-clause-fault c =
    let p = err_from_is_err_and c.from_residual.result c.from_residual.ensures.1 in
    rw (p.1, p.2) (λ other. address_of-refused c.args.text.now _ c.if-text-gt-LONGEST.false c.in_err-url.ensures other)

pub returns-then-not-is_http-clause-fault : goal.returns-then-not-is_http-clause-fault
returns-then-not-is_http-clause-fault c = λ _.
    let url = c.in_ok-url.url in
    address_of-url c.args.text.now url c.if-text-gt-LONGEST.false c.in_ok-url.ensures
    ∙ address_of_url-other url (sym c.is_http.ensures ∙ c.if-not-is_http.true)

pub returns-then-as_str-gt-LONGEST-clause-fault : goal.returns-then-as_str-gt-LONGEST-clause-fault
returns-then-as_str-gt-LONGEST-clause-fault c = λ _.
    let url = c.in_ok-url.url in
    let long = rw c.as_str.ensures.value at c.if-as_str-gt-LONGEST.true in
    address_of-url c.args.text.now url c.if-text-gt-LONGEST.false c.in_ok-url.ensures
    ∙ address_of_url-long url (sym c.is_http.ensures ∙ c.if-not-is_http.false) long

pub of_url-requires : goal.of_url-requires
of_url-requires c =
    let short = rw c.as_str.ensures.value at c.if-as_str-gt-LONGEST.false in
    url_is_address c.in_ok-url.url c.as_str.ensures.valid (sym c.is_http.ensures ∙ c.if-not-is_http.false) short

pub returns-clause-ok : goal.returns-clause-ok
returns-clause-ok c =
    let url = c.in_ok-url.url in
    let short = rw c.as_str.ensures.value at c.if-as_str-gt-LONGEST.false in
    address_of-url c.args.text.now url c.if-text-gt-LONGEST.false c.in_ok-url.ensures
    ∙ address_of_url-own url (sym c.is_http.ensures ∙ c.if-not-is_http.false) short ∙ ap Ok (sym c.of_url.ensures)
