use Rattle.std.proofs.Common.{ℕ, length, refl, sym, ap, ◌∙◌}
use Rattle.std.specs.Prelude.{option_map}
use Rattle.std.proofs.lemmas.List.{length-map}
use Rattle.lra_laws.specs.Rows.{row_at}
use Rattle.lra_laws.specs.Snapshots.{Endpoint}
use Rattle.lra_rows.specs.Steps.{without_last}
use Rattle.lra_rows.specs.inner.Reached.{Reached, Reachable, endpoints_in, ready_in}
use Rattle.lra_rows.proofs.Reaching.{contacts_less, ready_less, addresses_at}
use Rattle.lra_rows.proofs.endpoints.Endpoints.remove_last.Goals as goal

pub returns-clause-items : goal.returns-clause-items
returns-clause-items c = ap endpoints_in c.remove_last.ensures.items ∙ contacts_less c.self.inside.rows.items
    ∙ ap (λ (r : Reachable). without_last r.items) c.self.view_is

pub returns-clause-ready : goal.returns-clause-ready
returns-clause-ready c = ap ready_in c.remove_last.ensures.items ∙ ready_less c.self.inside.rows.items
    ∙ ap (λ (r : Reachable). without_last r.ready) c.self.view_is

pub returns-clause-uris : goal.returns-clause-uris
returns-clause-uris c =
    c.remove_last.ensures.uris
    ∙ addresses_at c.self.inside.rows.items (length c.self.inside.rows.items)
    (row_at c.self.inside.rows.items (length c.self.inside.rows.items)) refl
    ∙ ap (λ (n : ℕ). option_map (λ (x : Endpoint). x.addresses) (row_at (endpoints_in c.self.inside.rows.items) n))
    (sym (length-map c.self.inside.rows.items (λ (r : Reached). r.endpoint)))
    ∙ ap (λ (r : Reachable). option_map (λ (x : Endpoint). x.addresses) (row_at r.items (length r.items)))
    c.self.view_is
