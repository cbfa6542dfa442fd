use Rattle.std.proofs.Common.{◌≡◌, ℕ, ◌+◌, ◌/◌, ◌%◌, ◌^◌, ◌<◌, ◌≤◌, List, [], ◌∷◌, ◌++◌, sym, ap, ◌∙◌, decimal, arith}
use Rattle.std.proofs.lemmas.List.{append_assoc}
use Rattle.std.proofs.lemmas.Fmt.{decimal_digit, decimal_step}
use Rattle.text.specs.Laws.{SinkLaws, Takes}
use Rattle.text.proofs.Sinks.{takes_as, takes_more}
use Rattle.text.proofs.number.+put_number.Goals as goal

-- the last digit
abbrev last : ℕ → List ℕ
last n = (48 + n % 10) ∷ []

-- the last two
abbrev ending : ℕ → List ℕ
ending n = (48 + n / 10 % 10) ∷ last n

-- a number of two digits
two_alone : (n : ℕ) → 10 ≤ n → n < 100 → decimal n ≡ ending n
two_alone n l h =
    let e : n / 10 ≡ n / 10 % 10 = omega arith in
    decimal_step n l (omega arith) ∙ ap (λ ds. ds ++ last n) (decimal_digit (n / 10) (omega arith)) ∙ ap (λ (d : ℕ). (48 + d) ∷ last n) e

-- a number of more: the digits ahead, which are those of k, and then the last two
two_after : (n k : ℕ) → k ≡ n / 100 → 100 ≤ n → n < 2 ^ 64 → decimal n ≡ decimal k ++ ending n
two_after n k e l h =
    let tens : n / 10 / 10 ≡ k = omega (arith, e) in
    decimal_step n (omega arith) h ∙ ap (λ ds. ds ++ last n) (decimal_step (n / 10) (omega arith) (omega arith)) ∙ append_assoc (decimal (n / 10 / 10)) (last (n / 10)) (last n)
    ∙ ap (λ (m : ℕ). decimal m ++ ending n) tens

-- such a number, added in these two parts
takes_after : {X : Type 0} {has_room : X → ℕ → Type 0} {adds : X → List ℕ → X → Type 0} (laws : SinkLaws has_room adds)
    {x y z : X} {two : List ℕ} (n : ℕ) {k : ℕ} → Takes has_room adds x (decimal k) y → Takes has_room adds y two z → two ≡ ending n → k ≡ n / 100 → 100 ≤ n → n < 2 ^ 64
    → Takes has_room adds x (decimal n) z
takes_after laws n {k} a b t e l h = takes_as laws (two_after n k e l h ∙ ap (λ ds. decimal k ++ ds) (sym t)) (takes_more laws a b)

pub returns-then-n-lt10 : goal.returns-then-n-lt10
returns-then-n-lt10 g t c = takes_as g.met.S.Sink.laws (decimal_digit c.args.n (omega arith)) c.put_byte.ensures

pub returns-then-n-lt100 : goal.returns-then-n-lt100
returns-then-n-lt100 g t c = takes_as g.met.S.Sink.laws (two_alone c.args.n (omega arith) (omega arith) ∙ sym c.last_two.ensures) c.put.ensures

pub returns-else-n-lt100 : goal.returns-else-n-lt100
returns-else-n-lt100 g t c =
    takes_after g.met.S.Sink.laws c.args.n c.put_number.ensures c.put-else-n-lt100.ensures c.last_two-else-n-lt100.ensures (omega arith) (omega arith) (omega arith)
