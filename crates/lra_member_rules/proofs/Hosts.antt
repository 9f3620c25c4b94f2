-- The host in a host and port.
use Rattle.std.proofs.Common.{◌≡◌, ℕ, ◌-◌, ◌==◌, true, not, List, ◌++◌, length, Option, Some, None, refl, sym, ap, ◌∙◌}
use Rattle.std.proofs.Common.{length-append, arith}
use Rattle.std.specs.Prelude.{codes}
use Rattle.std.specs.Option.{option_map_or}
use Rattle.std.specs.List.{list_any, prefix_len, suffix_len}
use Rattle.std.proofs.Math.Bool.{or-true}
use Rattle.std.proofs.Math.Seq.{take-append_seam}
use Rattle.std.proofs.lemmas.List.{reverse-append}
use Rattle.std.proofs.lemmas.List.Folds.{list_any-append}
use Rattle.lra_rules.specs.Texts.{at_last, host_in}

-- two bytes stand after the last colon
behind : (a : List ℕ) → suffix_len (λ b. not (b == 58)) (a ++ codes ":80") ≡ 2
behind a = ap (prefix_len (λ b. not (b == 58))) (reverse-append a (codes ":80"))

host_at_80 : (a : List ℕ) → host_in (a ++ codes ":80") ≡ a
unfolding at_last
host_at_80 a =
    let there : list_any (λ b. b == 58) (a ++ codes ":80") ≡ true = list_any-append (λ b. b == 58) a (codes ":80")
    ∙ or-true (list_any (λ b. b == 58) a) in
    let count : length (a ++ codes ":80") - suffix_len (λ b. not (b == 58)) (a ++ codes ":80") - 1
    ≡ length a = omega (arith, length-append a (codes ":80"), behind a) in
    rw (there, count) (take-append_seam a (codes ":80"))

-- with the port that an authority names, or with port 80
pub same_host : (port : Option ℕ) (a : List ℕ) → option_map_or (λ _. host_in a) port a
    ≡ host_in (option_map_or (λ _. a) port (a ++ codes ":80"))
same_host None a = sym (host_at_80 a)
same_host (Some n) a = refl
