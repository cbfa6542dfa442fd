use Rattle.std.proofs.Common.{◌≡◌, sym, ◌∙◌, arith, rules}
use Rattle.std.proofs.lemmas.List.{length_push}
use Rattle.dayfile.specs.declared.records.Kind.TheVariants.{Questions}
use Rattle.dayfile.specs.Records.{records_from, records_left}
use Rattle.sheet.proofs.Records.{next_question, all_questions}
use Rattle.sheet.proofs.Asking.{questions_none, questions_more}
use Rattle.sheet.proofs.questions.put_questions.Goals as goal

pub loop-record-init : goal.loop-record-init
loop-record-init c = record { can_next = search rules; is_finite = search rules; put = questions_none }

pub put_question-requires : goal.put_question-requires
put_question-requires c =
    let all : records_left c.into_iter-record-iterator.result ≡ records_from c.args.file.now.bytes Questions 0 = cc in
    let next = next_question c.args.file.now c.requires.accepted c.into_iter-record-iterator.result c.loop-record.record-iterator c.next.new.self c.loop-record.yielded c.loop-record.yielded_by all c.in-Some.is c.next.ensures.steps in
    record {
      room = omega (arith, next.1, c.loop-record.invariant.put.short, c.loop-record.invariant.put.added.len, c.loop-record.invariant.put.added.capacity);
    }

pub loop-record-preserved : goal.loop-record-preserved
loop-record-preserved c =
    let all : records_left c.into_iter-record-iterator.result ≡ records_from c.args.file.now.bytes Questions 0 = cc in
    let next = next_question c.args.file.now c.requires.accepted c.into_iter-record-iterator.result c.loop-record.record-iterator c.next.new.self c.loop-record.yielded c.loop-record.yielded_by all c.in-Some.is c.next.ensures.steps in
    absurd (c.in_default.not-Some _ (c.numbers_in.ensures ∙ next.2))

pub loop-record-preserved-in-Some-numbers_in : goal.loop-record-preserved-in-Some-numbers_in
loop-record-preserved-in-Some-numbers_in c =
    let all : records_left c.into_iter-record-iterator.result ≡ records_from c.args.file.now.bytes Questions 0 = cc in
    let next = next_question c.args.file.now c.requires.accepted c.into_iter-record-iterator.result c.loop-record.record-iterator c.next.new.self c.loop-record.yielded c.loop-record.yielded_by all c.in-Some.is c.next.ensures.steps in
    let told = sym c.in-Some-numbers_in.is ∙ c.numbers_in.ensures ∙ next.2 in
    let more = questions_more c.loop-record.invariant.put (cc told) c.put_question.ensures in
    record { can_next = search rules; is_finite = search rules; put = rw length_push more }

pub returns : goal.returns
returns c =
    let all : records_left c.into_iter-record-iterator.result ≡ records_from c.args.file.now.bytes Questions 0 = cc in
    let end = all_questions c.args.file.now c.requires.accepted c.into_iter-record-iterator.result c.loop-record.record-iterator c.next.new.self c.loop-record.yielded c.loop-record.yielded_by all c.in-None.is c.next.ensures.steps in
    simp end at c.loop-record.invariant.put
