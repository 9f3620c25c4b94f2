-- Rows that are drawn one below the other.
use Rattle.std.proofs.Common.{◌≡◌, ℕ, ◌+◌, ◌<◌, List, [], ◌∷◌, ◌++◌, length, take, get_or, map, sym, ap, ◌∙◌, arith}
use Rattle.std.proofs.Common.{append_assoc}
use Rattle.std.specs.Prelude.{codes}
use Rattle.std.proofs.lemmas.List.{append-nil, map_more}
use Rattle.lra_verdict_lines.specs.VerdictLines.{joined}
use Rattle.lra_timelines.specs.declared.drawing.TheConstants.{LOOKS}
use Rattle.lra_timelines.specs.Drawn.{top_of, row, rows, opening, lanes, framed}

-- the rows with one more row
pub rows_push : (n : ℕ) (cs : List (List ℕ)) (c : List ℕ) → rows n (cs ++ c ∷ []) ≡ rows n cs ++ row (n + length cs) c
rows_push n [] c = append-nil (row n c) ∙ ap (λ (m : ℕ). row m c) (omega arith)
rows_push n (x ∷ cs) c =
    ap (λ (t : List ℕ). row n x ++ t) (rows_push (n + 1) cs c)
    ∙ sym (append_assoc (row n x) (rows (n + 1) cs) (row (n + 1 + length cs) c))
    ∙ ap (λ (m : ℕ). (row n x ++ rows (n + 1) cs) ++ row m c) (omega arith)

-- the text with one row more
pub row_added : (before after more : List ℕ) (n : ℕ) (cs : List (List ℕ)) (c : List ℕ) → before ≡ rows 0 cs → n
    ≡ length cs → more ≡ row n c → after ≡ before ++ more
    → after ≡ rows 0 (cs ++ c ∷ [])
row_added before after more n cs c text count is now =
    now
    ∙ ap (λ (t : List ℕ). t ++ more) text
    ∙ ap (λ (t : List ℕ). rows 0 cs ++ t) (is ∙ ap (λ (m : ℕ). row m c) (count ∙ omega arith))
    ∙ sym (rows_push 0 cs c)

-- the rows of one more item
pub one_more : {X : Type 0} (f : X → List ℕ) (xs : List X) (i : ℕ) (d : X) (cs : List (List ℕ)) → i < length xs
    → (cs ++ map f (take i xs)) ++ f (get_or xs i d) ∷ [] ≡ cs ++ map f (take (i + 1) xs)
one_more f xs i d cs lt =
    append_assoc cs (map f (take i xs)) (f (get_or xs i d) ∷ []) ∙ ap (λ (t : List (List ℕ)). cs ++ t)
    (sym (map_more f xs i d lt))

-- a text of four parts
pub four_parts : (s m o w s' m' o' w' : List ℕ) → s ≡ s' → m ≡ m' → o ≡ o' → w ≡ w' → s ++ (m ++ (o ++ w))
    ≡ joined (s' ∷ m' ∷ o' ∷ w' ∷ [])
four_parts s m o w s' m' o' w' is_s is_m is_o is_w =
    ap (λ (x : List ℕ). x ++ (m ++ (o ++ w))) is_s
    ∙ ap (λ (x : List ℕ). s' ++ (x ++ (o ++ w))) is_m
    ∙ ap (λ (x : List ℕ). s' ++ (m' ++ (x ++ w))) is_o
    ∙ ap (λ (x : List ℕ). s' ++ (m' ++ (o' ++ x))) (is_w ∙ sym (append-nil w'))

-- a text of five parts
pub five_parts : (s m o w e s' m' o' w' e' : List ℕ) → s ≡ s' → m ≡ m' → o ≡ o' → w ≡ w' → e ≡ e' → s
    ++ (m ++ (o ++ (w ++ e))) ≡ joined (s' ∷ m' ∷ o' ∷ w' ∷ e' ∷ [])
five_parts s m o w e s' m' o' w' e' is_s is_m is_o is_w is_e =
    ap (λ (x : List ℕ). x ++ (m ++ (o ++ (w ++ e)))) is_s ∙ ap (λ (x : List ℕ). s' ++ x)
    (four_parts m o w e m' o' w' e' is_m is_o is_w is_e)

-- a picture of these rows
pub framed_is : (head : List ℕ) (cs : List (List ℕ)) (o l t : List ℕ) (n h : ℕ) → n ≡ length cs → h ≡ top_of n → o
    ≡ opening head h → l ≡ lanes h → t ≡ rows 0 cs
    → o ++ (LOOKS.now ++ (l ++ (t ++ codes "</svg>\n"))) ≡ framed head cs
framed_is head cs o l t n h count is is_o is_l is_t =
    ap (λ (x : List ℕ). x ++ (LOOKS.now ++ (l ++ (t ++ codes "</svg>\n"))))
    (is_o ∙ ap (opening head) (is ∙ ap top_of count))
    ∙ ap (λ (x : List ℕ). opening head (top_of (length cs)) ++ (LOOKS.now ++ (x ++ (t ++ codes "</svg>\n"))))
    (is_l ∙ ap lanes (is ∙ ap top_of count))
    ∙ ap (λ (x : List ℕ). opening head (top_of (length cs)) ++ (LOOKS.now
    ++ (lanes (top_of (length cs)) ++ (x ++ codes "</svg>\n")))) is_t
