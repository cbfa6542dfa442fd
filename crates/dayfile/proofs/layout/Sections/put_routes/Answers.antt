use Rattle.std.proofs.Common.{length, ap, length-append, arith, rules}
use Rattle.std.specs.Slice.Iter.{chunks_exact_rest}
use Rattle.dayfile.specs.Tables.{route_at, route_place}
use Rattle.dayfile.proofs.Stages.{first_stands, rest_stands, table_grows}
use Rattle.dayfile.proofs.layout.Sections.put_routes.Goals as goal

pub loop-record-preserved : goal.loop-record-preserved
loop-record-preserved c =
    let i = c.loop-record.invariant in
    let bs = c.args.self.now.bytes.now in
    let n = length c.loop-record.routes.items in
    let p = route_place bs n in
    let s = c.in-Some.ensures.steps in
    let xs = chunks_exact_rest c.loop-record.record-iterator in
    let x = c.in-Some.record.now in
    let ys = chunks_exact_rest c.next.new.self in
    let is = c.route.ensures n (first_stands bs p xs x ys s.1.0 i.stands) in
    record {
      size = search rules;
      left = omega (arith, i.left, ap length s.1.0, length-append x ys, s.1.1, i.size, c.push.ensures.len);
      stands = rest_stands bs p xs x ys s.1.0 i.stands (route_place bs (length c.push.new.self.items)) (omega (arith, s.1.1, i.size, c.push.ensures.len));
      routes = table_grows (route_at bs) c.loop-record.routes.items c.push.new.self.items c.route.result i.routes is c.push.ensures.items;
    }
