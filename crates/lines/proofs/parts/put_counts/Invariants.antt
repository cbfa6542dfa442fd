use Rattle.std.proofs.Common.{◌∷◌, map, length, drop, decimal}
use Rattle.std.specs.List.{flat_map}
use Rattle.text.proofs.Sinks.{Lacks}
use Rattle.lines.specs.Line.{commas}
use Rattle.lines.proofs.parts.put_counts.Given as goal

abbrev pub invariant-loop-count : goal.invariant-loop-count
invariant-loop-count g l =
    g.S.Sink.has_room l.fn.out (length (commas l.fn.counts))
    → Lacks g.S.Sink.has_room g.S.Sink.adds l.fn.out (commas l.fn.counts) l.out (flat_map (λ u. 44 ∷ u) (map decimal (drop l.count-index l.others)))
