-- How the handovers of the sample day stand to each other, and the lines that say so. Assumes nothing.
use Rattle.std.proofs.Common.{◌≡◌, ℕ, true, List, codes, sym, refl, subst, inr, arith}
use Rattle.std.specs.Fmt.{digits}
use Rattle.std.proofs.lemmas.Bool.{false≢true}
use Rattle.plans.specs.Meaning.{Entry, shares}
use Rattle.order.specs.declared.kinds.Relation.TheVariants.{Same, Before, After, Beside}
use Rattle.order.specs.Plain.{entry}
use Rattle.order.specs.Chains.{Chain, link, longer, Stands}
use Rattle.order.proofs.Chains.{chain_rises, last_step}
use Rattle.lines.specs.Line.{question_line, refused_question_line}
use Rattle.sheet.specs.Day.{question_at}
use Rattle.sheet.specs.Sheet.{day_entries, QuestionLine, refused, related, AskedLine}
use Rattle.worked.specs.Sample.{sample}
use Rattle.worked.specs.Worked.{line}
use Rattle.worked.proofs.SampleFile.{day_settled, entries_are, question_0, question_1, question_2, question_3, question_4}

-- no chain from 0 to 1: there is nothing between them, and they share no station
none_from_0 : Chain day_settled 0 1 → ⊥
none_from_0 c =
    let s = last_step c in
    let z : s.0 ≡ 0 = omega (arith, s.1) in
    false≢true (subst (λ (b : ℕ). shares (entry day_settled b) (entry day_settled 1) ≡ true) z s.2)

-- no chain from 1 to 0: the numbers of a chain rise
none_from_1 : Chain day_settled 1 0 → ⊥
none_from_1 c = let l = chain_rises c in omega arith

pub beside : Stands day_settled 0 1 Beside
beside = ((λ e. omega arith), none_from_0, none_from_1)

pub before : Stands day_settled 0 3 Before
before = link (omega arith) (omega arith) refl

-- 1 shares station 2 with 2, which shares station 0 with 3
after : Stands day_settled 3 1 After
after = longer {b = 2} (link (omega arith) (omega arith) refl) (omega arith) (omega arith) refl

-- the line of question i
abbrev Asked : ℕ → List ℕ → Type 0
Asked i text = AskedLine (day_entries sample) (question_at sample) i (line text)

-- the entries and the question, as the file has them
as_asked : (i : ℕ) (q : ℕ × ℕ) (text : List ℕ) → question_at sample i ≡ q → QuestionLine day_settled q (line text) → Asked i text
as_asked i q text e l =
    subst (λ (es : List Entry). QuestionLine es (question_at sample i) (line text)) (sym entries_are)
    (subst (λ (x : ℕ × ℕ). QuestionLine day_settled x (line text)) (sym e) l)

pub asked_0 : Asked 0 (codes "0 1 beside")
unfolding question_line digits
asked_0 = as_asked 0 (0, 1) (codes "0 1 beside") question_0 (related (omega arith) (omega arith) Beside beside refl)

pub asked_1 : Asked 1 (codes "0 3 before")
unfolding question_line digits
asked_1 = as_asked 1 (0, 3) (codes "0 3 before") question_1 (related (omega arith) (omega arith) Before before refl)

pub asked_2 : Asked 2 (codes "3 1 after")
unfolding question_line digits
asked_2 = as_asked 2 (3, 1) (codes "3 1 after") question_2 (related (omega arith) (omega arith) After after refl)

pub asked_3 : Asked 3 (codes "2 2 same")
unfolding question_line digits
asked_3 = as_asked 3 (2, 2) (codes "2 2 same") question_3 (related (omega arith) (omega arith) Same refl refl)

pub asked_4 : Asked 4 (codes "0 4 refused 15")
unfolding refused_question_line digits
asked_4 = as_asked 4 (0, 4) (codes "0 4 refused 15") question_4 (refused (inr (omega arith)) refl)
