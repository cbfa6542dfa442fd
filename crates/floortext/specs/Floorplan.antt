-- What is printed of a day file: the text of its floor, or the line of its refusal.
use Rattle.std.specs.Prelude.{ℕ, List, Some, None, vec_items, Option}
use Rattle.dayfile.specs.declared.refusal.FileRefusal.{FileRefusal}
use Rattle.dayfile.specs.Verdict.{told}
use Rattle.dayfile.specs.Check.{file_verdict}
use Rattle.dayfile.specs.Reading.{file_contents}
use Rattle.grouping.specs.Plan.{Contents}
use Rattle.floortext.specs.declared.room.FloorRoom.{FloorRoom}
use Rattle.floortext.specs.Floor.{floor_text}
use Rattle.text.specs.Line.{refused_file_line}

-- the text of what a plan holds
unfoldable pub contents_text : Contents → List ℕ
contents_text c = floor_text c.stations c.routes c.groups

-- the text of a floor where no check failed, else the line of the refusal
abbrev pub verdict_text : Contents → Option FileRefusal → List ℕ
verdict_text c None = contents_text c
verdict_text c (Some e) = refused_file_line (told e).0 (told e).1

-- what is printed of the file of these bytes
unfoldable pub floorplan_text : List ℕ → List ℕ
floorplan_text bs = verdict_text (file_contents bs) (file_verdict bs)

-- the text that a room holds
abbrev pub printed : FloorRoom → List ℕ
printed room = vec_items room.text
