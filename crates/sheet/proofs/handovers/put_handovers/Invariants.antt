use Rattle.std.proofs.Common.{length}
use Rattle.sheet.specs.Day.{handover_at}
use Rattle.sheet.specs.Steps.{HandoversPut, bytes_of}
use Rattle.sheet.proofs.handovers.put_handovers.Given as goal

abbrev pub invariant-loop-record : goal.invariant-loop-record
invariant-loop-record l = record {
  can_next : (goal.iterator-loop-record).can_next l.record-iterator;
  is_finite : (goal.iterator-loop-record).is_finite l.record-iterator;
  put : HandoversPut l.initial.floor (handover_at (bytes_of l.file)) (length l.yielded) l.initial.out l.floor l.out;
}
