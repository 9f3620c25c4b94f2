use Rattle.std.proofs.Common.{◌≡◌, ◌∙◌, true, false, Ok, IfSome, ℕ, List, Bool, sym, ap, subst, refl}
use Rattle.std.specs.Prelude.{◌&&◌, bytes_eq}
use Rattle.std.proofs.lemmas.Slice.Eq.{bytes_eq-Decides}
use Rattle.lra_addresses.specs.Addresses.{is_base, address_of}
use Rattle.lra_ids.specs.Bases.{is_own_base}
use Rattle.lra_addresses.proofs.AddressFacts.{is_address-own}
use Rattle.lra_ids.proofs.base.base_in.Goals as goal

-- where two texts are the same, it doesn't matter of which of them a test is
of_either : (same a b : Bool) → (same ≡ true → a ≡ b) → (same && a) ≡ false → (same && b) ≡ false
of_either true a b h e = sym (h refl) ∙ e
of_either false a b h e = refl

no_base : (text own : List ℕ) → address_of text ≡ Ok own → (bytes_eq own text && is_base own) ≡ false → is_own_base text
    ≡ false
no_base text own e other =
    ap (λ same. same && is_base text) (is_address-own text own e)
    ∙ of_either (bytes_eq own text) (is_base own) (is_base text) (λ same. ap is_base
    ((bytes_eq-Decides own text).0 same)) other

pub returns-else-is_base_at-clause-none : goal.returns-else-is_base_at-clause-none
returns-else-is_base_at-clause-none c =
    let text = c.args.text.now in
    let stands = subst (λ found. IfSome found (λ own. address_of text ≡ Ok own)) c.in-Some.is
    c.in_ok-own.ensures.some in
    λ _. no_base text c.in-Some.own stands (sym c.is_base_at.ensures ∙ c.if-is_base_at.false)
