use Rattle.std.proofs.Common.{◌≡◌, ℕ, [], ◌++◌, codes, refl, arith}
use Rattle.std.proofs.lemmas.Grind.{common_steps}
use Rattle.text.specs.Labelled.{labelled}
use Rattle.text.specs.Line.{parted, refused_fields}
use Rattle.text.proofs.Sinks.{takes_none, takes_more, takes_as}
use Rattle.text.proofs.refused.put_refused.Goals as goal

fields_parts : (n place : ℕ) → parted 32 (refused_fields n place) ≡ labelled (codes "refused ") n ++ (labelled (codes " at ") place ++ [])
unfolding labelled
fields_parts n place = refl

pub returns : goal.returns
returns g c =
    let laws = g.met.S.Sink.laws in
    takes_as laws (grind (arith, common_steps, fields_parts)) (takes_more laws c.put_labelled.ensures (takes_more laws c.put_labelled-2.ensures (takes_none laws _)))
