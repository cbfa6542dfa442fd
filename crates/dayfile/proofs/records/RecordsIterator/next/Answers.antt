use Rattle.std.proofs.Common.{rules}
use Rattle.std.proofs.lemmas.Grind.{common_steps}
use Rattle.dayfile.specs.Records.{told_record}
use Rattle.dayfile.proofs.Runs.{next_record, no_record}
use Rattle.dayfile.proofs.records.RecordsIterator.next.Goals as goal

pub returns-in_err-record-clause-steps : goal.returns-in_err-record-clause-steps
returns-in_err-record-clause-steps c =
    let s = c.args.self.now in
    let e = no_record s.file.bytes s.kind s.index (search rules) in search rules

pub returns-clause-steps : goal.returns-clause-steps
returns-clause-steps c =
    let s = c.args.self.now in
    let e = next_record s.file.bytes s.kind s.index {x = told_record c.in_ok-record.record} (search rules) in search rules

pub returns-clause-goes : goal.returns-clause-goes
returns-clause-goes c =
    let s = c.args.self.now in
    let e = next_record s.file.bytes s.kind s.index {x = told_record c.in_ok-record.record} (search rules) in search (rules, common_steps)
