use Rattle.std.proofs.Common.{ℕ, List, length, vec_items, sym, ap, ◌∙◌, subst, arith, Bor, rules}
use Rattle.dayfile.specs.Check.{file_verdict}
use Rattle.sheet.specs.Sheet.{IsSheet}
use Rattle.sheet.specs.Steps.{bytes_of}
use Rattle.sheet.proofs.Records.{few_handovers}
use Rattle.sheet.proofs.Printing.{plan_read, day_text, sheet_by, refused_sheet}
use Rattle.sheet.proofs.room.SheetRoom.print.Goals as goal

pub put_questions-requires : goal.put_questions-requires
put_questions-requires c =
    let accepted = sym c.in_default.ensures.verdict in
    let few = few_handovers c.open-file.result accepted in
    record { room = omega (arith, ap length c.args.self.empty, c.put_handovers.ensures.short, c.put_handovers.ensures.added.len, c.put_handovers.ensures.added.capacity); accepted = accepted }

pub returns : goal.returns
returns c =
    let file = c.open-file.result in
    let v = c.in_default.ensures.verdict in
    let text =
    day_text (bytes_of file) c.args.self.empty (plan_read (bytes_of file) c.new-floor.ensures.opened.plan c.in_default.ensures.floor)
    c.put_handovers.ensures c.put_questions.ensures in
    record {
      sheet = subst (λ (b : Bor (List ℕ)). IsSheet b.now (vec_items c.put_questions.new.out)) c.open-file.ensures (sheet_by (bytes_of file) _ v text);
      refusal = v ∙ ap (λ (b : Bor (List ℕ)). file_verdict b.now) c.open-file.ensures;
    }

pub returns-in-Err-clause-sheet : goal.returns-in-Err-clause-sheet
returns-in-Err-clause-sheet c =
    let v = c.in-Err.ensures.verdict ∙ ap (λ (b : Bor (List ℕ)). file_verdict b.now) c.open-file.ensures in
    refused_sheet c.args.bytes.now c.in-Err.e c.args.self.empty c.args.self.roomy v (search rules) c.put.ensures (search rules) (search rules)
