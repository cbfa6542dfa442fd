use Rattle.std.proofs.Common.{◌≡◌, true, length, ap, length-append, arith, rules}
use Rattle.std.specs.Slice.Iter.{chunks_exact_rest}
use Rattle.dayfile.specs.Tables.{group_at, group_place, is_group_record}
use Rattle.dayfile.proofs.Stages.{first_stands, rest_stands, table_grows, stops_at_group, all_groups}
use Rattle.dayfile.proofs.layout.Sections.put_groups.Goals as goal

pub returns-in_err-group-clause-verdict : goal.returns-in_err-group-clause-verdict
returns-in_err-group-clause-verdict c =
    let i = c.loop-record.invariant in
    let bs = c.args.self.now.bytes.now in
    let n = length c.loop-record.groups.items in
    let s = c.in-Some.ensures.steps in
    let xs = chunks_exact_rest c.loop-record.record-iterator in
    let x = c.in-Some.record.now in
    let ys = chunks_exact_rest c.next.new.self in
    let is = c.group.ensures n (first_stands bs (group_place bs n) xs x ys s.1.0 i.stands) in
    let found = stops_at_group bs n (omega (arith, i.left, ap length s.1.0, length-append x ys, s.1.1, i.size)) i.all (search rules) in search rules

pub loop-record-preserved : goal.loop-record-preserved
loop-record-preserved c =
    let i = c.loop-record.invariant in
    let bs = c.args.self.now.bytes.now in
    let n = length c.loop-record.groups.items in
    let s = c.in-Some.ensures.steps in
    let xs = chunks_exact_rest c.loop-record.record-iterator in
    let x = c.in-Some.record.now in
    let ys = chunks_exact_rest c.next.new.self in
    let is = c.group.ensures n (first_stands bs (group_place bs n) xs x ys s.1.0 i.stands) in
    let here : is_group_record bs n ≡ true = search rules in
    record {
      size = search rules;
      left = omega (arith, i.left, ap length s.1.0, length-append x ys, s.1.1, i.size, c.push.ensures.len);
      stands = rest_stands bs (group_place bs n) xs x ys s.1.0 i.stands (group_place bs (length c.push.new.self.items)) (omega (arith, s.1.1, i.size, c.push.ensures.len));
      all = search rules;
      groups = table_grows (group_at bs) c.loop-record.groups.items c.push.new.self.items c.in_ok-group.group i.groups (search rules) c.push.ensures.items;
    }

pub returns-clause-verdict : goal.returns-clause-verdict
returns-clause-verdict c =
    let i = c.loop-record.invariant in
    let e = all_groups c.args.self.now.bytes.now (λ k h. i.all k (omega (arith, h, i.left, i.size, c.in-None.ensures.steps))) in search rules
