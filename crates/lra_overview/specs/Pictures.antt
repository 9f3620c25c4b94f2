-- The picture of the tree below an action (this project's own).
use Rattle.std.specs.Prelude.{ℕ, ◌+◌, ◌-◌, ◌*◌, ◌^◌, min, max, List, [], ◌∷◌, length, codes, Option, Some, None}
use Rattle.std.specs.List.{flat_map}
use Rattle.std.specs.Fmt.{decimal}
use Rattle.lra_model.specs.Names.{action_status_name, member_status_name}
use Rattle.lra_overview.specs.declared.gather.ActionRow.{ActionRow}
use Rattle.lra_overview.specs.declared.gather.MemberRow.{MemberRow}
use Rattle.lra_overview.specs.declared.tree.Node.{Node}
use Rattle.lra_overview.specs.declared.tree.NodeOf.{NodeOf}
use Rattle.lra_overview.specs.declared.tree.NodeOf.TheVariants as node_of
use Rattle.lra_overview.specs.Laying.{joined, id_of}

-- the stroke from the node above to a node: down to the node's line, and then right
abbrev pub branch : ℕ → ℕ → Option ℕ → List ℕ
branch depth line None = []
branch depth line (Some above) =
    joined
    (codes "<path class=\"branch\" d=\"M"
    ∷ decimal (28 * depth)
    ∷ codes " "
    ∷ decimal (26 * above + 21)
    ∷ codes "V"
    ∷ decimal (26 * line + 13)
    ∷ codes "h20\"/>\n"
    ∷ []
    )

-- an action: a disk, its identifier and its status
abbrev pub action : ℕ → ℕ → ℕ → ActionRow → List ℕ
action i depth line row =
    joined
    (codes "<circle r=\"7\" class=\""
    ∷ action_status_name row.status
    ∷ codes "\" cx=\""
    ∷ decimal (28 * depth + 28)
    ∷ codes "\" cy=\""
    ∷ decimal (26 * line + 13)
    ∷ codes "\"/>\n<text x=\""
    ∷ decimal (28 * depth + 42)
    ∷ codes "\" y=\""
    ∷ decimal (26 * line + 18)
    ∷ codes "\">"
    ∷ id_of i row.action
    ∷ codes " "
    ∷ action_status_name row.status
    ∷ codes "</text>\n"
    ∷ []
    )

-- a member: a square, its identifier and its status
abbrev pub member : ℕ → ℕ → ℕ → MemberRow → List ℕ
member i depth line row =
    joined
    (codes "<rect width=\"12\" height=\"12\" class=\""
    ∷ member_status_name row.status
    ∷ codes "\" x=\""
    ∷ decimal (28 * depth + 22)
    ∷ codes "\" y=\""
    ∷ decimal (26 * line + 7)
    ∷ codes "\"/>\n<text x=\""
    ∷ decimal (28 * depth + 42)
    ∷ codes "\" y=\""
    ∷ decimal (26 * line + 18)
    ∷ codes "\">member "
    ∷ id_of i row.member
    ∷ codes " "
    ∷ member_status_name row.status
    ∷ codes "</text>\n"
    ∷ []
    )

-- the mark of a node: its action or its member
abbrev pub mark : ℕ → ℕ → ℕ → NodeOf → List ℕ
mark i depth line (node_of.Action row) = action i depth line row
mark i depth line (node_of.Member row) = member i depth line row

-- a node, with the stroke from the one above it
abbrev pub node : ℕ → Node → List ℕ
node i n = joined (branch n.depth n.line n.above ∷ mark i n.depth n.line n.of ∷ [])

-- the depth of the deepest node
abbrev pub deepest : List Node → ℕ
deepest [] = 0
deepest (n ∷ nodes) = max n.depth (deepest nodes)

-- what the picture begins with
abbrev pub opening : ℕ → ℕ → List ℕ
opening width height =
    joined
    (codes "<svg xmlns=\"http://www.w3.org/2000/svg\" role=\"img\" aria-label=\"the tree of the action\" width=\""
    ∷ decimal width
    ∷ codes "\" height=\""
    ∷ decimal height
    ∷ codes "\">\n"
    ∷ []
    )

-- the picture, as wide as its deepest node needs and as high as its nodes need
unfoldable pub picture : ℕ → List Node → List ℕ
picture i nodes =
    joined
    (opening (28 * deepest nodes + 488) (min (length nodes * 26) (2 ^ 64 - 1))
    ∷ flat_map (node i) nodes
    ∷ codes "</svg>\n"
    ∷ []
    )
