-- The request that is written is the callback's.
use Rattle.std.proofs.Common.{◌≡◌, ◌≢◌, ℕ, Option, true, false, List, [], ◌∷◌, ◌++◌, map, codes, bytes_eq, Ok, Err}
use Rattle.std.proofs.Common.{refl, sym, ap, ◌∙◌}
use Rattle.std.specs.Borrow.{Bor}
use Rattle.std.specs.List.{flat_map}
use Rattle.std.proofs.KnownBytes.{Keeps-refl}
use Rattle.lra_addresses.specs.declared.fault.UriFault.{UriFault}
use Rattle.lra_ids.specs.Addresses.{address_of, is_address, is_own, target_of}
use Rattle.lra_wire.specs.Writing.{field_line, message_text}
use Rattle.lra_courier.specs.declared.fault.SendFault.{SendFault}
use Rattle.lra_courier.specs.declared.fault.SendFault.TheVariants.{BadAddress, Io, Memory}
use Rattle.lra_courier.specs.declared.fault.CallFault.TheVariants.{Send}
use Rattle.lra_courier.specs.Exchanges.{Posts}
use Rattle.lra_courier.specs.Calls.{Giving, Lacks}
use Rattle.lra_courier.specs.Callbacks.{Calling, Field, lent, method_of, body_of, fields_of, request_bytes}
use Rattle.lra_courier.specs.inner.Fields.{seen}

-- a text that is refused is no address
pub refused_is_none : (text : List ℕ) (fault : UriFault) → address_of text ≡ Err fault → is_address text ≡ false
unfolding is_address
refused_is_none text fault e = ap (is_own text) e

-- a text that is normalised to another text is no address
pub other_is_none : (text own shown : List ℕ) → address_of text ≡ Ok own → shown ≡ own → bytes_eq shown text ≡ false
    → is_address text ≡ false
unfolding is_address
other_is_none text own shown e f h = ap (is_own text) e ∙ ap (λ bytes. bytes_eq bytes text) (sym f) ∙ h

-- a text that is normalised to itself is an address
pub own_is_one : (text own shown : List ℕ) → address_of text ≡ Ok own → shown ≡ own → bytes_eq shown text ≡ true
    → is_address text ≡ true
unfolding is_address
own_is_one text own shown e f h = ap (is_own text) e ∙ ap (λ bytes. bytes_eq bytes text) (sym f) ∙ h

-- where an address isn't read, there is no connection to its socket
pub unread : {D S : Type 0} (gives : Giving D S) (d : D) (text address : List ℕ) (fault : SendFault) → text ≡ address
    → fault ≢ Io
    → (fault ≡ BadAddress → is_address text ≡ false) → Lacks gives d address (Send fault)
unread gives d text address BadAddress e other none = ap is_address (sym e) ∙ none refl
unread gives d text address Memory e other none = tt
unread gives d text address Io e other none = absurd (other refl)

-- and nothing is written
pub unwritten : (known : Option (List ℕ)) (text : List ℕ) (c : Calling) (fault : SendFault) → text ≡ c.address → fault
    ≢ Io
    → (fault ≡ BadAddress → is_address text ≡ false) → Posts known known c (Err fault)
unwritten known text c BadAddress e other none = (Keeps-refl known, ap is_address (sym e) ∙ none refl)
unwritten known text c Memory e other none = Keeps-refl known
unwritten known text c Io e other none = absurd (other refl)

-- the lines of fields don't depend on where the fields' texts lie in memory
lines_seen : (fields : List (Bor (List ℕ) × Bor (List ℕ)))
    → flat_map field_line fields ≡ flat_map field_line (map (λ (field : Field). (lent field.0, lent field.1))
    (seen fields))
lines_seen [] = refl
lines_seen (field ∷ fields) = ap (λ text. field_line field ++ text) (lines_seen fields)

-- a request of these parts is the callback's
pub parts_are : (method target body : List ℕ) (fields : List (Bor (List ℕ) × Bor (List ℕ))) (c : Calling)
    → method ≡ method_of c.kind → target ≡ target_of c.address → seen fields ≡ fields_of c → body
    ≡ body_of c.kind c.ended
    → message_text (method ++ (codes " " ++ (target ++ codes " HTTP/1.1"))) fields body ≡ request_bytes c
unfolding request_bytes
parts_are method target body fields c m t f b = rw (m, t, b, lines_seen fields, f) refl
