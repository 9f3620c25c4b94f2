use Rattle.std.proofs.Common.{[], sym}
use Rattle.std.specs.Net.Reader.{read_ipv6}
use Rattle.std.specs.Net.Grammar.{IsColonHex}
use Rattle.std.proofs.NetLemmas.Ipv6.{read_ipv6_complete, read_ipv6_sound, EndsGroups-nil}
use Rattle.lra_rules.proofs.Parts.{whole_some, whole_none}
use Rattle.lra_rules.proofs.network.ipv6_in.Goals as goal

pub returns-in-Ok : goal.returns-in-Ok
returns-in-Ok c = sym
    (whole_some read_ipv6 IsColonHex (λ text segments h. read_ipv6_complete text segments [] h EndsGroups-nil)
    read_ipv6_sound c.args.text.now _ c.in-Ok.ensures)

pub returns-in-Err : goal.returns-in-Err
returns-in-Err c = sym
    (whole_none read_ipv6 IsColonHex (λ text segments h. read_ipv6_complete text segments [] h EndsGroups-nil)
    read_ipv6_sound c.args.text.now (λ segments. c.in-Err.ensures (record { segments = segments })))
