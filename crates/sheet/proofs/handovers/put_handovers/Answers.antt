use Rattle.std.proofs.Common.{◌≡◌, sym, ap, ◌∙◌, arith, rules}
use Rattle.std.proofs.lemmas.List.{length_push}
use Rattle.dayfile.specs.declared.records.Kind.TheVariants.{Handovers}
use Rattle.dayfile.specs.Records.{records_from, records_left}
use Rattle.grouping.specs.declared.plan.GroupPlan.{GroupPlan}
use Rattle.sheet.specs.Steps.{meaning}
use Rattle.sheet.proofs.Records.{next_handover, all_handovers}
use Rattle.sheet.proofs.Handing.{handovers_none, handovers_more}
use Rattle.sheet.proofs.handovers.put_handovers.Goals as goal

pub loop-record-init : goal.loop-record-init
loop-record-init c = record { can_next = search rules; is_finite = search rules; put = handovers_none c.requires.new }

pub put_handover-requires : goal.put_handover-requires
put_handover-requires c =
    let all : records_left c.into_iter-record-iterator.result ≡ records_from c.args.file.now.bytes Handovers 0 = cc in
    let next = next_handover c.args.file.now c.requires.accepted c.into_iter-record-iterator.result c.loop-record.record-iterator c.next.new.self c.loop-record.yielded c.loop-record.yielded_by all c.in-Some.is c.next.ensures.steps in
    record {
      room = omega (arith, next.1, c.loop-record.invariant.put.short, c.loop-record.invariant.put.added.len, c.loop-record.invariant.put.added.capacity);
      dials = c.requires.dials ∙ ap (λ (p : GroupPlan). (meaning p).dials) (sym c.loop-record.invariant.put.plan);
      comes = (_, c.loop-record.invariant.put.run);
    }

pub loop-record-preserved : goal.loop-record-preserved
loop-record-preserved c =
    let all : records_left c.into_iter-record-iterator.result ≡ records_from c.args.file.now.bytes Handovers 0 = cc in
    let next = next_handover c.args.file.now c.requires.accepted c.into_iter-record-iterator.result c.loop-record.record-iterator c.next.new.self c.loop-record.yielded c.loop-record.yielded_by all c.in-Some.is c.next.ensures.steps in
    absurd (c.in_default.not-Some _ (c.stations_in.ensures ∙ next.2))

pub loop-record-preserved-in-Some-stations_in : goal.loop-record-preserved-in-Some-stations_in
loop-record-preserved-in-Some-stations_in c =
    let all : records_left c.into_iter-record-iterator.result ≡ records_from c.args.file.now.bytes Handovers 0 = cc in
    let next = next_handover c.args.file.now c.requires.accepted c.into_iter-record-iterator.result c.loop-record.record-iterator c.next.new.self c.loop-record.yielded c.loop-record.yielded_by all c.in-Some.is c.next.ensures.steps in
    let told = sym c.in-Some-stations_in.is ∙ c.stations_in.ensures ∙ next.2 in
    let more = handovers_more c.loop-record.invariant.put (cc told) c.put_handover.ensures in
    record { can_next = search rules; is_finite = search rules; put = rw length_push more }

pub returns : goal.returns
returns c =
    let all : records_left c.into_iter-record-iterator.result ≡ records_from c.args.file.now.bytes Handovers 0 = cc in
    let end = all_handovers c.args.file.now c.requires.accepted c.into_iter-record-iterator.result c.loop-record.record-iterator c.next.new.self c.loop-record.yielded c.loop-record.yielded_by all c.in-None.is c.next.ensures.steps in
    simp end at c.loop-record.invariant.put
