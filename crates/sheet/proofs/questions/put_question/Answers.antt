use Rattle.std.proofs.Common.{sym, arith, rules}
use Rattle.text.specs.Vector.{vector_laws}
use Rattle.text.proofs.Sinks.{takes_as}
use Rattle.sheet.specs.Steps.{reply_text}
use Rattle.sheet.proofs.Asking.{line_replied, reply_short}
use Rattle.sheet.proofs.questions.put_question.Goals as goal

pub returns : goal.returns
returns c =
    let short = reply_short c.args.first c.args.second c.relation.result (search rules) (search rules) in
    record {
      line = reply_text c.args.first c.args.second c.relation.result;
      added = takes_as vector_laws (sym c.reply_line.ensures) c.put.ensures (omega (arith, c.requires.room, short));
      short = short;
      says = λ cs run. line_replied _ c.args.first c.args.second c.relation.result (c.relation.ensures.run cs run);
    }
