use Rattle.std.proofs.Common.{[], sym}
use Rattle.std.specs.Net.Reader.{read_ipv4}
use Rattle.std.specs.Net.Grammar.{IsDotted}
use Rattle.std.proofs.Common.{lit≤}
use Rattle.std.proofs.NetLemmas.Ipv4.{read_ipv4_complete, read_ipv4_sound}
use Rattle.lra_rules.proofs.Parts.{whole_some, whole_none}
use Rattle.lra_rules.proofs.network.ipv4_in.Goals as goal

pub returns-in-Ok : goal.returns-in-Ok
returns-in-Ok c = sym (whole_some read_ipv4 IsDotted (λ text octets h. read_ipv4_complete text octets [] h (lit≤ tt))
    read_ipv4_sound c.args.text.now _ c.in-Ok.ensures)

pub returns-in-Err : goal.returns-in-Err
returns-in-Err c = sym (whole_none read_ipv4 IsDotted (λ text octets h. read_ipv4_complete text octets [] h (lit≤ tt))
    read_ipv4_sound c.args.text.now (λ octets. c.in-Err.ensures (record { octets = octets })))
