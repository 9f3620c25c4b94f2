-- The law that no text from elsewhere is read as markup.
use Rattle.std.specs.Prelude.{◌≡◌, ℕ, ◌==◌, Bool, true, false, ◌&&◌, if◌then◌else◌, List, [], ◌∷◌, codes, filter}
use Rattle.std.specs.List.{list_any}
use Rattle.lra_escape.specs.Escapes.{is_bare}
use Rattle.lra_overview.specs.declared.attempts.Line.{Line}
use Rattle.lra_overview.specs.declared.home_page.Home.{Home}
use Rattle.lra_overview.specs.declared.gather.Waiting.{Waiting}
use Rattle.lra_overview.specs.declared.tree.Node.{Node}
use Rattle.lra_overview.specs.Pages as pages

-- the marks of a text, in order: each `<`, `>`, `"` and `'`, which in HTML delimit tags and quoted values
abbrev pub marks : List ℕ → List ℕ
marks text = filter is_bare text

-- the first page has the same marks whatever the base and the token of its forms are
abbrev pub HomeKeepsMarks : Type 0
HomeKeepsMarks = (i : ℕ) (base other token word : List ℕ) (have_key : Bool) (h : Home)
    → marks (pages.home i base token have_key h) ≡ marks (pages.home i other word have_key h)

-- an action's page has the same marks whatever the base and the token of its forms are
abbrev pub ActionKeepsMarks : Type 0
ActionKeepsMarks = (i : ℕ) (base other token word : List ℕ) (have_key : Bool) (w : Waiting) (nodes : List Node)
    (lines : List Line)
    → marks (pages.action i base token have_key w nodes lines) ≡ marks
    (pages.action i other word have_key w nodes lines)

-- the report of a member's last callback has the same marks whatever its address and the words of its outcome are
abbrev pub ReplyKeepsMarks : Type 0
ReplyKeepsMarks = (ms : ℕ) (words told address other : List ℕ) → marks (pages.reply words ms address)
    ≡ marks (pages.reply told ms other)

-- a page of one sentence has the same marks whatever the base and its text from elsewhere are
abbrev pub PlainKeepsMarks : Type 0
PlainKeepsMarks = (base other sentence text told : List ℕ) → marks (pages.plain base sentence text)
    ≡ marks (pages.plain other sentence told)

-- whether a text begins with another
abbrev pub begins : List ℕ → List ℕ → Bool
begins [] text = true
begins (c ∷ front) [] = false
begins (c ∷ front) (b ∷ text) = (b == c) && begins front text

-- what follows the `&` in each of the five references
abbrev pub references : List (List ℕ)
references = codes "lt;" ∷ codes "gt;" ∷ codes "amp;" ∷ codes "quot;" ∷ codes "#39;" ∷ []

-- whether a text begins with what follows the `&` in one of the references
abbrev pub goes_on : List ℕ → Bool
goes_on text = list_any (λ name. begins name text) references

-- whether each `&` of a text begins one of the five references
abbrev pub refers : List ℕ → Bool
refers [] = true
refers (b ∷ text) = (if b == 38 then goes_on text else true) && refers text

-- each `&` of the first page begins a reference, whatever texts the page has
abbrev pub HomeRefers : Type 0
HomeRefers = (i : ℕ) (base token : List ℕ) (have_key : Bool) (h : Home)
    → refers (pages.home i base token have_key h) ≡ true

-- each `&` of an action's page begins a reference, whatever texts the page has
abbrev pub ActionRefers : Type 0
ActionRefers = (i : ℕ) (base token : List ℕ) (have_key : Bool) (w : Waiting) (nodes : List Node) (lines : List Line)
    → refers (pages.action i base token have_key w nodes lines) ≡ true

-- each `&` of a page of one sentence begins a reference, if each `&` of the sentence does
abbrev pub PlainRefers : Type 0
PlainRefers = (base sentence text : List ℕ) → refers sentence ≡ true → refers (pages.plain base sentence text) ≡ true
