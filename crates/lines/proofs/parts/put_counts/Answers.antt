use Rattle.std.proofs.Common.{◌≡◌, ℕ, ◌+◌, ◌-◌, ◌<◌, ◌≤◌, List, [], ◌∷◌, ◌++◌, map, length, get_or, take, drop, decimal, sym, refl, ap, arith}
use Rattle.std.proofs.lemmas.List.{take_all, drop_more, drop_all}
use Rattle.std.specs.List.{flat_map}
use Rattle.text.specs.Labelled.{labelled}
use Rattle.text.proofs.Sinks.{lacks_all, lacks_room, lacks_next, lacks_as, lacks_none, takes_none, takes_as}
use Rattle.lines.specs.Line.{commas}
use Rattle.lines.proofs.parts.put_counts.Goals as goal

-- numbers, each with a comma before it
abbrev others : List ℕ → List ℕ
others xs = flat_map (λ u. 44 ∷ u) (map decimal xs)

commas_none : (xs : List ℕ) → length xs < 1 → [] ≡ commas xs
unfolding commas
commas_none [] h = refl
commas_none (x ∷ xs) h = absurd (omega arith)

commas_first : (xs : List ℕ) → 1 ≤ length xs → commas xs ≡ decimal (get_or xs 0 0) ++ others (take (length xs - 1) (drop 1 xs))
unfolding commas
commas_first [] h = absurd (omega arith)
commas_first (x ∷ xs) h = ap (λ (ys : List ℕ). decimal x ++ others ys) (sym (take_all (length (x ∷ xs) - 1) xs (omega arith)))

others_next : (xs : List ℕ) (i : ℕ) → i < length xs → others (drop i xs) ≡ (44 ∷ decimal (get_or xs i 0)) ++ others (drop (i + 1) xs)
others_next xs i h = ap others (drop_more xs i 0 h)

pub returns-in_default : goal.returns-in_default
returns-in_default g c =
    let laws = g.met.S.Sink.laws in takes_as laws (sym (commas_none c.args.counts.now c.in_default.len_below)) (takes_none laws c.args.out.now)

pub loop-count-init : goal.loop-count-init
loop-count-init g c =
    let laws = g.met.S.Sink.laws in
    λ room.
    let all = lacks_as (lacks_all laws room) (commas_first c.args.counts.now c.in-len1-up.len_at_least) in
    lacks_next laws _ _ all (c.put_number.ensures (lacks_room laws _ _ all))

pub loop-count-preserved : goal.loop-count-preserved
unfolding labelled
loop-count-preserved g c =
    let laws = g.met.S.Sink.laws in
    let i = c.loop-count.count-index in
    let xs = take (length c.args.counts.now - 1) (drop 1 c.args.counts.now) in
    λ room.
    let rest = lacks_as (c.loop-count.invariant room) (others_next xs i c.loop-count-test.true) in
    lacks_next laws (44 ∷ decimal (get_or xs i 0)) (others (drop (i + 1) xs)) rest
    (c.put_labelled.ensures (lacks_room laws (44 ∷ decimal (get_or xs i 0)) (others (drop (i + 1) xs)) rest))

pub returns : goal.returns
returns g c =
    λ room.
    lacks_none g.met.S.Sink.laws (c.loop-count.invariant room) (ap others (drop_all c.loop-count.count-index _ c.loop-count-test.false))
