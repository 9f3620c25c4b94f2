-- The picture of an action's timeline (this project's choice): a row for each line, so that time goes down, and a lane
-- each for the action, for its members, and for the actions that are nested in it. The lines may have addresses, and
-- are escaped. All other text consists of words of this program and numbers, which have no <, > or &.
use Rattle.std.specs.Prelude.{ℕ, ◌+◌, ◌*◌, List, [], ◌∷◌, ◌++◌, map, length, codes}
use Rattle.std.specs.List.{flat_map}
use Rattle.std.specs.Fmt.{decimal}
use Rattle.lra_model.specs.declared.status.ActionStatus.{ActionStatus}
use Rattle.lra_model.specs.declared.status.ActionStatus.TheVariants as action
use Rattle.lra_model.specs.Names.{action_status_name, outcome_name}
use Rattle.lra_model.specs.History.{History}
use Rattle.lra_escape.specs.Escapes.{escaped}
use Rattle.lra_verdict_lines.specs.VerdictLines.{joined}
use Rattle.lra_timelines.specs.declared.timeline_items.TimelineItem.{TimelineItem}
use Rattle.lra_timelines.specs.declared.timeline_items.TimelineItem.TheVariants.{
  Started,
  Joined,
  Left,
  Closes,
  Cancels,
  Skipped,
  Asked,
}
use Rattle.lra_timelines.specs.declared.timeline_items.TimelineItem.TheVariants.{
  Answered,
  Reported,
  Ended,
  Restarted,
  Renewed,
}
use Rattle.lra_timelines.specs.declared.timeline_items.TimelineItem.TheVariants.{
  NestedStarted,
  NestedCloses,
  NestedCancels,
  NestedEnded,
}
use Rattle.lra_timelines.specs.declared.timeline_items.Told.{Told}
use Rattle.lra_timelines.specs.declared.drawing.TheConstants.{LOOKS}
use Rattle.lra_timelines.specs.Times.{moment_text}
use Rattle.lra_timelines.specs.Sentences.{told_line}

-- the vertical position at which the row of a number begins; all rows have the same height
abbrev pub top_of : ℕ → ℕ
top_of n = 26 * n

-- the row of a number, with its content
abbrev pub row : ℕ → List ℕ → List ℕ
row n content = joined (codes "<g transform=\"translate(0," ∷ decimal (top_of n) ∷ codes ")\">" ∷ content
    ∷ codes "</g>\n" ∷ [])

-- rows, one below the other, from a number on
abbrev pub rows : ℕ → List (List ℕ) → List ℕ
rows n [] = []
rows n (content ∷ more) = row n content ++ rows (n + 1) more

-- a mark in the action's lane: a disk in the style of a status
abbrev pub action_mark : ActionStatus → List ℕ
action_mark status = joined (codes "<circle cx=\"28\" cy=\"13\" r=\"7\" class=\"" ∷ action_status_name status
    ∷ codes "\"/>" ∷ [])

-- a mark in the members' lane: a square
abbrev pub member_mark : List ℕ → List ℕ
member_mark look = joined (codes "<rect x=\"50\" y=\"7\" width=\"12\" height=\"12\" class=\"" ∷ look
    ∷ codes "\"/>" ∷ [])

-- a mark in the lane of the nested actions: a diamond
abbrev pub nested_mark : ActionStatus → List ℕ
nested_mark status = joined (codes "<path d=\"M84 5l8 8l-8 8l-8-8z\" class=\"" ∷ action_status_name status
    ∷ codes "\"/>" ∷ [])

-- the mark of a timeline item after which the action has this status: in the lane of the item's subject, and in the
-- style of the item's outcome
abbrev pub mark : ActionStatus → TimelineItem → List ℕ
mark status (Started by moment parent limit) = action_mark status
mark status (Joined p) = member_mark (codes "joined")
mark status (Left p) = member_mark (codes "left")
mark status (Closes why) = action_mark status
mark status (Cancels why) = action_mark status
mark status (Skipped p) = member_mark (codes "skipped")
mark status (Asked n p kind) = member_mark (codes "asked")
mark status (Answered n p stage o) = member_mark (outcome_name o)
mark status (Reported p stage o) = member_mark (outcome_name o)
mark status Ended = action_mark status
mark status Restarted = action_mark status
mark status (Renewed limit) = action_mark status
mark status (NestedStarted b) = nested_mark action.Active
mark status (NestedCloses b) = nested_mark action.Closing
mark status (NestedCancels b) = nested_mark action.Cancelling
mark status (NestedEnded b s) = nested_mark s

-- the action's lane from a row to the next one, in the style of the status that the action has meanwhile
abbrev pub stretch : ActionStatus → List ℕ
stretch status = joined (codes "<line x1=\"28\" y1=\"13\" x2=\"28\" y2=\"39\" class=\"" ∷ action_status_name status
    ∷ codes "\"/>" ∷ [])

-- the text element of a moment
abbrev pub moment_words : ℕ → List ℕ
moment_words moment = joined (codes "<text x=\"112\" y=\"18\" class=\"moment\">" ∷ moment_text moment
    ∷ codes "</text>" ∷ [])

-- the text element of a line of the timeline, escaped, with its line feed, which SVG doesn't show
abbrev pub words : List ℕ → List ℕ
words line = joined (codes "<text x=\"328\" y=\"18\">" ∷ escaped line ∷ codes "</text>" ∷ [])

-- the content of the first row: the head line with the action's status
abbrev pub head_row : List ℕ → List ℕ
head_row head = joined (codes "<text x=\"20\" y=\"18\" class=\"head\">" ∷ head ∷ codes "</text>" ∷ [])

-- the content of the row of a timeline item: marks, the moment and the line
abbrev pub told_row : History → Told → List ℕ
told_row J t = joined
    (stretch t.status ∷ mark t.status t.timeline_item ∷ moment_words t.moment ∷ words (told_line J t) ∷ [])

-- the content of the row of a note; an empty note has no row
abbrev pub note_rows : List ℕ → List (List ℕ)
note_rows [] = []
note_rows (c ∷ note) = words (c ∷ note) ∷ []

-- the contents of the rows: the head line; then each timeline item, in order; then each note
abbrev pub contents : History → List ℕ → List Told → List (List ℕ) → List (List ℕ)
contents J head ts notes = head_row head ∷ [] ++ map (told_row J) ts ++ flat_map note_rows notes

-- the opening of the picture, with its size and its title
abbrev pub opening : List ℕ → ℕ → List ℕ
opening head height =
    joined
    (codes "<svg xmlns=\"http://www.w3.org/2000/svg\" version=\"1.1\" role=\"graphics-document document\" width=\"1600\" height=\""
    ∷ decimal height
    ∷ codes "\" viewBox=\"0 0 1600 "
    ∷ decimal height
    ∷ codes "\">\n<title>"
    ∷ head
    ∷ codes "</title>\n"
    ∷ []
    )

-- the lanes of the members and of the nested actions
abbrev pub lanes : ℕ → List ℕ
lanes height = joined (codes "<path class=\"lane\" d=\"M56 26V" ∷ decimal height ∷ codes "M84 26V" ∷ decimal height
    ∷ codes "\"/>\n" ∷ [])

-- a picture of these rows, as high as they are together
abbrev pub framed : List ℕ → List (List ℕ) → List ℕ
framed head cs = joined (opening head (top_of (length cs)) ∷ LOOKS.now ∷ lanes (top_of (length cs)) ∷ rows 0 cs
    ∷ codes "</svg>\n" ∷ [])

-- the picture of a timeline: the head line with the action's status, the items, and the notes
unfoldable pub picture : History → List ℕ → List Told → List (List ℕ) → List ℕ
picture J head ts notes = framed head (contents J head ts notes)
