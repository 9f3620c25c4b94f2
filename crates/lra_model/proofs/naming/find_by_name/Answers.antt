use Rattle.std.proofs.Common.{◌≡◌, find, bytes_eq, ap, sym, ◌∙◌, rules, tests}
use Rattle.std.proofs.lemmas.Iterator.{YieldsList-from_slice}
use Rattle.std.proofs.lemmas.Iterator.Adapters.{option_map_id}
use Rattle.std.proofs.lemmas.Iterator.Consumers.{YieldsList-at, YieldsList-from_copied}
use Rattle.std.proofs.lemmas.Iterator.Search.{find_from_yields_List}
use Rattle.lra_model.proofs.ByName.{found_by_name}
use Rattle.lra_model.proofs.naming.find_by_name.Given as given
use Rattle.lra_model.proofs.naming.find_by_name.Goals as goal

found : (c : given.Over) (d : goal.After-find c) → d.find.result ≡ find
    (λ value. bytes_eq d.args.text.now (c.T.Named.name_of value)) d.args.values.now
found c d =
    let values = YieldsList-from_copied (YieldsList-at d.copied.ensures.source
    (YieldsList-from_slice d.args.values.now d.iter.ensures.rest)) in
    sym (option_map_id d.find.result) ∙ find_from_yields_List (λ value. bytes_eq d.args.text.now
    (c.T.Named.name_of value)) _ _ d.find.result d.find.ensures.ran values (λ x b q k. search (rules, tests))

pub returns-clause-found : goal.returns-clause-found
returns-clause-found c d = rw (found c d) (found_by_name c.T.Named.name_of d.args.values.now d.args.text.now)

pub returns-clause-only : goal.returns-clause-only
returns-clause-only c d value first is =
    found c d ∙ ap (λ word. find (λ other. bytes_eq word (c.T.Named.name_of other)) d.args.values.now) is ∙ first
