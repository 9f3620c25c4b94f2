-- What is appended first may come.
use Rattle.std.proofs.Common.{◌≡◌, true, List, [], ◌∷◌, ◌++◌, sym, ap, ◌∙◌, append_assoc}
use Rattle.lra_model.specs.declared.entry.Entry.{Entry}
use Rattle.lra_model.specs.History.{History}
use Rattle.lra_model.specs.Rules.{is_legal, allows}
use Rattle.lra_model.specs.Settling.{settling, with_settling}
use Rattle.lra_laws.proofs.Legal.{legal_begins, legal_push, allows_from}
use Rattle.lra_ids.specs.Addresses.{is_address}
use Rattle.lra_commands.specs.declared.limits.Terms.{Terms}
use Rattle.lra_commands.specs.Runs.{IsLawful}

-- the entry of a plan may come, where the history stays legal with all of it
pub planned_allowed : (s : Terms) (J : History) (e : Entry) (es : List Entry) → IsLawful s (J ++ es) → es
    ≡ with_settling J e → allows s.version is_address J e ≡ true
planned_allowed s J e es l h =
    let rest : List Entry = settling e.by e.moment (J ++ e ∷ []) in
    let whole : is_legal s.version is_address ((J ++ e ∷ []) ++ rest) ≡ true =
    ap (is_legal s.version is_address) (append_assoc J (e ∷ []) rest ∙ ap (λ (ds : List Entry). J ++ ds) (sym h))
    ∙ l.legal in
    allows_from s.version is_address J e (legal_push s.version is_address J e
    (legal_begins s.version is_address (J ++ e ∷ []) rest whole)).1
