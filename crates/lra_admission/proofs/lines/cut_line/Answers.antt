use Rattle.std.proofs.Common.{◌≡◌, ◌+◌, ◌-◌, ◌∷◌, length, take, drop, take_all, length-drop, sym, ap, ◌∙◌, arith}
use Rattle.lra_admission.specs.Lines.{lines_of}
use Rattle.lra_admission.proofs.Reading.{cut, whole}
use Rattle.lra_admission.proofs.lines.cut_line.Goals as goal

pub returns-in-Some-clause-lines : goal.returns-in-Some-clause-lines
returns-in-Some-clause-lines c =
    let text = c.args.text.now in
    let place = c.in-Some.place in
    let rest = drop (place + 1) text in
    let all : take (length text - (place + 1)) rest ≡ rest = take_all (length text - (place + 1)) rest
    (omega (arith, length-drop (place + 1) text)) in
    cut text place c.in-Some.ensures.found.0 c.in-Some.ensures.found.1 c.in-Some.ensures.first
    ∙ ap (λ r. take place text ∷ lines_of r) (sym all)

pub returns-in-None-clause-lines : goal.returns-in-None-clause-lines
returns-in-None-clause-lines c = whole c.args.text.now c.in-None.ensures.none
