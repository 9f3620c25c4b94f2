-- What a reader has, of which one byte more was asked for than it may have.
use Rattle.std.proofs.Common.{◌≡◌, ℕ, ◌≤◌, ◌+◌, List, [], ◌++◌, length, take, take_all, length-take, Option, Some, None}
use Rattle.std.proofs.Common.{option_map, IfSome, subst, ◌∙◌, arith}
use Rattle.lra_files.specs.Small.{IsWhole}

-- what has no more bytes than it may have was read whole
whole : (n : ℕ) (all text : List ℕ) → text ≡ take (n + 1) all → length text ≤ n → IsWhole n all text
whole n all text is within =
    let cut : length (take (n + 1) all) ≤ n = subst (λ t. length t ≤ n) is within in
    let few : length all ≤ n = omega (arith, cut, length-take (n + 1) all) in
    (is ∙ take_all (n + 1) all (omega (arith, few)), few)

-- the same of a reader of which it may be known what it has
pub read : (n : ℕ) (o : Option (List ℕ)) (text : List ℕ) → IfSome (option_map (take (n + 1)) o) (λ xs. text ≡ [] ++ xs)
    → length text ≤ n
    → IfSome o (λ all. IsWhole n all text)
read n None text is within = tt
read n (Some all) text is within = whole n all text is within
