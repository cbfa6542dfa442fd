-- What is printed of a day file. Assumes nothing.
use Rattle.std.proofs.Common.{arith, ◌≡◌, ℕ, ◌≤◌, List, [], ◌++◌, length, Some, None, vec_items, Vec, ap, ◌∙◌}
use Rattle.routes.proofs.Decompositions.{decomposition_from}
use Rattle.routes.specs.declared.route.Route.{Route}
use Rattle.routes.specs.declared.route.Group.{Group}
use Rattle.grouping.specs.declared.plan.GroupPlan.{GroupPlan}
use Rattle.grouping.specs.Plan.{Contents, contents}
use Rattle.dayfile.specs.declared.refusal.FileRefusal.{FileRefusal}
use Rattle.dayfile.specs.Check.{file_verdict}
use Rattle.dayfile.specs.Reading.{file_contents}
use Rattle.dayfile.specs.Verdict.{told}
use Rattle.text.specs.Vector.{Added}
use Rattle.floortext.specs.Floor.{floor_text}
use Rattle.text.specs.Line.{refused_file_line}
use Rattle.floortext.specs.Floorplan.{contents_text, verdict_text, floorplan_text}
use Rattle.floortext.proofs.Bounds.{floor_le}

-- every plan's text fits its room
pub contents_le : (p : GroupPlan) → length (contents_text (contents p)) ≤ 3894
unfolding contents_text
contents_le p =
    let d = p.draft in floor_le d.stations (vec_items d.routes) (vec_items d.groups) d.few.0 d.few.1 (omega (arith, d.places)) d.ordered (decomposition_from _ _ p.decomposed)

-- the parts that a plan lends are what it holds
pub lent_text : (p : GroupPlan) {n : ℕ} {t : List Route} {gs : List Group}
    → n ≡ (contents p).stations → t ≡ (contents p).routes → gs ≡ (contents p).groups → floor_text n t gs ≡ contents_text (contents p)
unfolding contents_text
lent_text p e f g = cc

-- a room that holds the text of what its plan holds, read from the file, holds what is printed of the file
pub printed_floor : (bs : List ℕ) (c : Contents) {text : List ℕ} → text ≡ contents_text c → c ≡ file_contents bs → None ≡ file_verdict bs → text ≡ floorplan_text bs
unfolding floorplan_text
printed_floor bs c t e v = t ∙ ap contents_text e ∙ ap (verdict_text (file_contents bs)) v

-- a room that holds the line of the file's refusal does too
pub printed_refusal : (bs : List ℕ) (e : FileRefusal) {text : List ℕ} → text ≡ refused_file_line (told e).0 (told e).1 → Some e ≡ file_verdict bs → text ≡ floorplan_text bs
unfolding floorplan_text
printed_refusal bs e t v = t ∙ ap (verdict_text (file_contents bs)) v

-- a text that is added to an empty buffer
pub added_alone : {Z : Type 0} {v w : Vec ℕ Z} {text : List ℕ} → Added v text w → vec_items v ≡ [] → vec_items w ≡ text
added_alone {text = text} a e = a.items ∙ ap (λ xs. xs ++ text) e
