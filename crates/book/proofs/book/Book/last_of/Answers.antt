use Rattle.std.proofs.Common.{rules, ◌≡◌, ℕ, ◌<◌, true, false, None, vec_items, vec_len, ◌∙◌}
use Rattle.plans.specs.Meaning.{has}
use Rattle.book.specs.Shown.{ends, row}
use Rattle.book.proofs.Reading.{last_found, last_none}
use Rattle.book.proofs.book.Book.last_of.Goals as goal

pub returns-in_err-i : goal.returns-in_err-i
returns-in_err-i c =
    let b = c.args.self.now in
    let none : c.from_residual.result ≡ None = search rules in
    let f : (j : ℕ) → j < vec_len b.rows → has c.args.station (ends (row (vec_items b.rows) j)) ≡ false = search rules in
    none ∙ last_none b c.args.station f

pub returns : goal.returns
returns c =
    let b = c.args.self.now in
    let s = c.args.station in
    let i = c.in_ok-i.i in
    let l : i < vec_len b.rows = search rules in
    let h : has s (ends (row (vec_items b.rows) i)) ≡ true = search rules in
    let above : (j : ℕ) → i < j → j < vec_len b.rows → has s (ends (row (vec_items b.rows) j)) ≡ false = search rules in
    last_found b s i l h above
