use Rattle.std.proofs.Common.{length}
use Rattle.sheet.specs.Day.{question_at}
use Rattle.sheet.specs.Steps.{QuestionsPut, bytes_of}
use Rattle.sheet.proofs.questions.put_questions.Given as goal

abbrev pub invariant-loop-record : goal.invariant-loop-record
invariant-loop-record l = record {
  can_next : (goal.iterator-loop-record).can_next l.record-iterator;
  is_finite : (goal.iterator-loop-record).is_finite l.record-iterator;
  put : QuestionsPut l.floor (question_at (bytes_of l.file)) (length l.yielded) l.initial.out l.out;
}
