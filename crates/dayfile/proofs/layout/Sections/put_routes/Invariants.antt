use Rattle.std.proofs.Common.{◌≡◌, ◌+◌, ◌*◌, map, length}
use Rattle.std.specs.List.{range_with_len}
use Rattle.std.specs.Slice.Iter.{chunks_exact_rest, chunks_exact_size}
use Rattle.dayfile.specs.Tables.{Stands, route_at, route_place, route_count}
use Rattle.dayfile.proofs.layout.Sections.put_routes.Given as goal

abbrev pub invariant-loop-record : goal.invariant-loop-record
invariant-loop-record l =
    let bs = l.self.bytes.now in
    let n = length l.routes.items in
    let rest = chunks_exact_rest l.record-iterator in
    record {
      size : chunks_exact_size l.record-iterator ≡ 3;
      left : length rest + 3 * n ≡ 3 * route_count bs;
      stands : Stands rest bs (route_place bs n);
      routes : l.routes.items ≡ map (route_at bs) (range_with_len 0 n);
    }
