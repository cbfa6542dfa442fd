use Rattle.std.proofs.Common.{◌≡◌, ◌+◌, ◌*◌, ℕ, ◌<◌, true, map, length}
use Rattle.std.specs.List.{range_with_len}
use Rattle.std.specs.Slice.Iter.{chunks_exact_rest, chunks_exact_size}
use Rattle.dayfile.specs.Tables.{Stands, group_at, group_place, group_count, is_group_record}
use Rattle.dayfile.proofs.layout.Sections.put_groups.Given as goal

abbrev pub invariant-loop-record : goal.invariant-loop-record
invariant-loop-record l =
    let bs = l.self.bytes.now in
    let n = length l.groups.items in
    let rest = chunks_exact_rest l.record-iterator in
    record {
      size : chunks_exact_size l.record-iterator ≡ 4;
      left : length rest + 4 * n ≡ 4 * group_count bs;
      stands : Stands rest bs (group_place bs n);
      all : (k : ℕ) → k < n → is_group_record bs k ≡ true;
      groups : l.groups.items ≡ map (group_at bs) (range_with_len 0 n);
    }
