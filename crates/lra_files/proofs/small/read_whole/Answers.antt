use Rattle.std.proofs.Common.{◌≡◌, ◌++◌, ◌≤◌, ◌+◌, [], length, take, option_map, IfSome, arith}
use Rattle.lra_files.proofs.Whole.{read}
use Rattle.lra_files.proofs.small.read_whole.Goals as goal

pub returns-in-Ok-2-clause-ok : goal.returns-in-Ok-2-clause-ok
returns-in-Ok-2-clause-ok g c =
    let text = c.read_to_end-read.new.buf in
    let bytes : IfSome (option_map (take (c.args.longest + 1)) (g.F.Read.remaining c.args.file))
    (λ xs. text.items ≡ [] ++ xs) =
    rw (c.take-front.ensures.limit, c.take-front.ensures.inner, c.new-text.ensures.items, c.from.ensures) at
    c.in-Ok-2.ensures.bytes in
    let few : length text.items ≤ c.args.longest = omega (arith, c.if-len-from.false, c.len.ensures, text.ok.0) in
    read c.args.longest (g.F.Read.remaining c.args.file) text.items bytes few
