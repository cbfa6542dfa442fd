use Rattle.std.proofs.Common.{◌∙◌, sym}
use Rattle.regrouping.specs.Steps.{round, rounds}
use Rattle.grouping.specs.Draft.{drawn}
use Rattle.grouping.proofs.Drafts.{ready, fewer, goes_on}
use Rattle.grouping.proofs.Turns.{round_takes, rounds_turn}
use Rattle.grouping.proofs.draft.Draft.all_rounds.Goals as goal

pub loop-self-smaller : goal.loop-self-smaller
loop-self-smaller c =
    let d = c.loop-self.self in
    let h = round_takes d.stations (drawn d) (ready d) (sym c.any_remains.ensures ∙ c.loop-self-test.true) in
    fewer d c.one_round.new.self round h c.one_round.ensures.made

pub loop-self-preserved : goal.loop-self-preserved
loop-self-preserved c =
    let d = c.loop-self.self in
    goes_on (λ n. rounds n n) round c.args.self.now d c.one_round.new.self c.loop-self.invariant c.one_round.ensures.made c.one_round.ensures.capacity
    (rounds_turn d.stations (drawn d) (ready d) (sym c.any_remains.ensures ∙ c.loop-self-test.true))
