use Rattle.std.proofs.Common.{length, ap, ◌∙◌, arith, rules}
use Rattle.refusals.specs.Number.{number}
use Rattle.grouping.specs.Plan.{contents}
use Rattle.dayfile.specs.Check.{file_verdict}
use Rattle.dayfile.specs.Verdict.{verdict_of}
use Rattle.dayfile.specs.Reading.{file_contents}
use Rattle.floortext.proofs.Bounds.{refusal_le}
use Rattle.floortext.proofs.Floorplans.{contents_le, lent_text, printed_floor, printed_refusal, added_alone}
use Rattle.floortext.proofs.room.FloorRoom.print.Goals as goal

pub put_floor-requires : goal.put_floor-requires
put_floor-requires c =
    let p = c.read-verdict.new.plan in
    omega (arith, contents_le p, ap length (lent_text p c.stations.ensures c.routes.ensures c.groups.ensures.groups), ap length c.groups.ensures.groups)

pub put_refusal-requires : goal.put_refusal-requires
put_refusal-requires c = omega (arith, refusal_le (number c.in-Err.e.refusal) c.in-Err.e.place (grind arith) (search rules))

pub returns-in-Ok : goal.returns-in-Ok
returns-in-Ok c =
    let p = c.read-verdict.new.plan in
    let bs = c.args.bytes.now in
    let lent = lent_text p c.stations.ensures c.routes.ensures c.groups.ensures.groups in
    let held = c.in-Ok.ensures.floor ∙ ap (λ b. file_contents b.now) c.open.ensures in
    let is = ap verdict_of c.in-Ok.is in
    let accepted = c.in-Ok.ensures.verdict ∙ ap (λ b. file_verdict b.now) c.open.ensures in
    record {
      verdict = cc;
      text = printed_floor bs (contents p) (added_alone c.put_floor.ensures c.clear.ensures.items ∙ lent) held accepted;
    }

pub returns-in-Err : goal.returns-in-Err
returns-in-Err c =
    let refused = c.in-Err.ensures.verdict ∙ ap (λ b. file_verdict b.now) c.open.ensures in
    record {
      verdict = refused;
      text = printed_refusal c.args.bytes.now c.in-Err.e (added_alone c.put_refusal.ensures c.clear.ensures.items) refused;
    }
